use Rattle.std.proofs.Common.{◌≡◌, sym, ◌∙◌}
use Rattle.std.proofs.lemmas.Option.{same_Some}
use Rattle.camac_branch.proofs.table.is_in_use.Goals as goal

pub returns-in-Some-clause-in_range : goal.returns-in-Some-clause-in_range
returns-in-Some-clause-in_range c b h =
    let this : c.get.result ≡ b = c.get.ensures.value ∙ same_Some _ _ (sym c.in-Some.is ∙ h) in
    rw (← this) c.get.ensures.in_range
