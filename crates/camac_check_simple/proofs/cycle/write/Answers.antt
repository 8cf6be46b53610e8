use Rattle.std.proofs.Common.{ap, refl, sym, ◌∙◌}
use Rattle.camac_lang.specs.View.{expression_of}
use Rattle.camac_rules.specs.Expressions.{range_of}
use Rattle.camac_rules.specs.Cycles.{one_cycle}
use Rattle.camac_check_simple.specs.Gives.{by_code}
use Rattle.camac_check_simple.proofs.Steps.{step, same_findings}
use Rattle.camac_check_simple.proofs.cycle.write.Goals as goal

pub returns : goal.returns
returns c =
    let context = c.args.place.now.context.now in
    let around = c.args.place.now.around.now in
    step _ c.in_ok-v.v _ _ (ap (λ rs. range_of c.args.action.now.spot (expression_of c.args.value.now) rs) (sym c.ranges-2.ensures) ∙ c.in_ok-v.ensures)
    (step _ c.in_ok-g.g _ _ c.in_ok-g.ensures
    (step _ c.in_ok-widths.widths _ _ c.in_ok-widths.ensures.rule
    (step _ tt _ _ c.in_ok-moves.ensures
    (step _ tt _ _ c.in_ok-value_fits.ensures
    (same_findings c.args.known.now c.args.known.now c.one_cycle.result (one_cycle (by_code context) around c.in_ok-g.g.crates)
    refl (c.one_cycle.ensures ∙ ap (λ r. one_cycle (by_code context) around r) c.crates.ensures))))))
