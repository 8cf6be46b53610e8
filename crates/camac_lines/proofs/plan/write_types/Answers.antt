use Rattle.std.proofs.Common.{◌∙◌, length, refl, arith}
use Rattle.std.proofs.Math.Bool.{or-false}
use Rattle.camac_lines.specs.Plan.{type_in}
use Rattle.camac_lines.proofs.Lines.{under_way_next, under_way_stops, Writes-at_err}
use Rattle.camac_lines.proofs.Texts.{texts-next, texts-none, under_way_ends}
use Rattle.camac_lines.proofs.plan.write_types.Goals as goal

pub returns-in_err-write_type_in-clause-text : goal.returns-in_err-write_type_in-clause-text
returns-in_err-write_type_in-clause-text g c =
    let parts = texts-next (type_in c.args.detail c.args.plan.now) c.types.t (length c.args.plan.now.types) c.types.t (omega arith) refl in
    Writes-at_err c.from_residual.result _ _ _ c.from_residual.ensures.0 (under_way_stops _ _ _ _ _ _ _ c.types.invariant.0 parts c.in_err-write_type_in.ensures.text)

pub types-preserved : goal.types-preserved
types-preserved g c =
    let parts = texts-next (type_in c.args.detail c.args.plan.now) c.types.t (length c.args.plan.now.types) c.types.t (omega arith) refl in
    (under_way_next _ _ _ _ _ _ _ c.types.invariant.0 parts c.in_ok-write_type_in.ensures.text, c.in_ok-write_type_in.ensures.failed ∙ or-false _ ∙ c.types.invariant.1)

pub returns-clause-text : goal.returns-clause-text
returns-clause-text g c = under_way_ends _ _ _ _ c.types.invariant.0 (texts-none (type_in c.args.detail c.args.plan.now) c.types.t (length c.args.plan.now.types) (omega arith))
