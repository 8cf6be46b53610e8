use Rattle.std.proofs.Common.{ℕ, List, take, ap, ◌∙◌}
use Rattle.std.proofs.lemmas.List.{take-take}
use Rattle.camac_lang.proofs.name.room_of.Goals as goal

pub returns-in-Some : goal.returns-in-Some
returns-in-Some c = ap (λ (xs : List ℕ). take c.args.len xs) c.in-Some.ensures.cases.same ∙ take-take c.args.len 32 c.args.text.now c.requires.0
