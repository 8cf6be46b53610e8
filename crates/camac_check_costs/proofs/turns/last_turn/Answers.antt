use Rattle.std.proofs.Common.{◌≡◌, [], IfOk, Ok, sym, ap, ◌∙◌, subst}
use Rattle.camac_rules.specs.Capped.{capped}
use Rattle.camac_check_costs.specs.Places.{each_around, place_with}
use Rattle.camac_check_costs.specs.Stands.{place_found}
use Rattle.camac_check_costs.specs.Turns.{block_of, turn_of, turns_text, variable_in}
use Rattle.camac_check_costs.proofs.turns.last_turn.Goals as goal

pub returns-in-Ok-Some : goal.returns-in-Ok-Some
returns-in-Ok-Some c =
    let s = c.args.script.now in
    let left = c.args.spot.left in
    let find = place_with capped c.args.plan.now s in
    subst (λ r. IfOk c.turns_of.result (λ v. v.items ≡ turn_of s left find r)) (sym (c.in-Ok-Some.ensures ∙ ap (λ o. Ok (place_found o)) c.in-Ok-Some.field-0-is))
    (subst (λ b. IfOk c.turns_of.result (λ v. v.items ≡ turns_text find (variable_in s b) (each_around left (block_of s b)) [])) c.body-body.ensures c.turns_of.ensures)
