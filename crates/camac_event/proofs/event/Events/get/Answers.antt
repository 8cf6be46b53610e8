use Rattle.std.proofs.Common.{◌≡◌, ap}
use Rattle.std.specs.List.{AllByRecursion}
use Rattle.camac_event.specs.Spelling.{Listing, entries_of, IsEvent}
use Rattle.camac_event.proofs.Loops.{found_fits}
use Rattle.camac_event.proofs.event.Events.get.Goals as goal

pub returns-clause-fits : goal.returns-clause-fits
returns-clause-fits c =
    let version : c.self.inside.version ≡ c.args.self.now.version = ap (λ (l : Listing). l.version) c.self.view_is in
    let fits : AllByRecursion (IsEvent c.self.inside.version) (entries_of c.deref.result.now) = rw c.deref.ensures.value c.self.invariant.1 in
    rw (← version) (found_fits c.self.inside.version c.deref.result.now c.args.index c.get.result fits c.get.ensures.lookup)
