use Rattle.std.proofs.Common.{refl}
use Rattle.camac_check_known.proofs.missing.undeclared_in.Goals as goal

pub returns : goal.returns
returns c = rw (c.undeclared_at.ensures, c.hi.ensures.value, c.lo-2.ensures.value, c.unwrap_or-n.ensures, c.station_without-first.ensures, c.max.ensures, c.lo.ensures.value) refl
