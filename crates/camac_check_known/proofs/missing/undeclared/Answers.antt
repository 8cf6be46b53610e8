use Rattle.std.proofs.Common.{refl}
use Rattle.camac_check_known.proofs.missing.undeclared.Goals as goal

pub returns : goal.returns
returns c = rw (c.undeclared_in.ensures, c.unwrap_or-c.ensures, c.crate_undeclared-first.ensures, c.max.ensures, c.lo.ensures.value, c.crates-crates.ensures, c.sub_addresses.ensures, c.stations.ensures) refl
