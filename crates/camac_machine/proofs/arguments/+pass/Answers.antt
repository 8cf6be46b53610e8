use Rattle.std.proofs.Common.{◌≡◌, ◌+◌, ◌-◌, List, length, map, take, drop, Some, sym, subst, ◌∙◌, arith}
use Rattle.std.proofs.lemmas.List.{length-set}
use Rattle.std.specs.Prelude.{slice_range}
use Rattle.camac_lang.specs.declared.expression.Expr.{Expr}
use Rattle.camac_lang.specs.View.{expression_of}
use Rattle.camac_model.specs.Value.{values}
use Rattle.camac_machine.specs.Store.{variables_in, held_at}
use Rattle.camac_machine.proofs.Lists.{first_of}
use Rattle.camac_machine.proofs.Passed.{pass_more, before_set}
use Rattle.camac_machine.proofs.arguments.+pass.Goals as goal

pub returns-in-len1-up-clause-values : goal.returns-in-len1-up-clause-values
returns-in-len1-up-clause-values t c =
    let es = c.args.arguments.now in
    let p = c.args.caller in
    let place = c.args.place in
    let old = c.args.variables.now in
    let new = c.pass.new.variables in
    let v = c.value_of.result in
    let rest = take (length es - 1) (drop 1 es) in
    let P : List Expr → Type 0 = λ l. values (map expression_of l) (variables_in (held_at p old)) ≡ Some (slice_range new place (place + length l)) in
    let some = c.in-len1-up.len_at_least in
    let room = c.requires.room in
    subst P (sym (first_of es c.first-item.result some c.first-item.is))
    (pass_more (expression_of c.first-item.result) (map expression_of rest) p place v old c.requires.after (length rest) new (omega (arith, some, room)) (c.pass.ensures.count ∙ length-set old place v) c.value_of.ensures c.pass.ensures.values c.pass.ensures.before)

pub returns-in-len1-up-clause-before : goal.returns-in-len1-up-clause-before
returns-in-len1-up-clause-before t c = before_set c.args.variables.now c.pass.new.variables c.args.place c.value_of.result c.pass.ensures.before
