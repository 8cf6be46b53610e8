use Rattle.camac_crate.proofs.Bits.{inhibit-number, number-only, bits-of-number}
use Rattle.camac_crate.proofs.state.CrateState.set_inhibit.Goals as goal

pub invariant_of-self : goal.invariant_of-self
invariant_of-self c = rw (c.set.ensures, inhibit-number c.self.inside.bits.0 c.args.inhibit c.self.invariant) (number-only _)

pub returns : goal.returns
returns c = rw (c.set.ensures, inhibit-number c.self.inside.bits.0 c.args.inhibit c.self.invariant, ← c.self.view_is) (bits-of-number _)
