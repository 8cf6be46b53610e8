use Rattle.std.proofs.Common.{◌≡◌, ◌∙◌, length, ap, sym, arith}
use Rattle.std.proofs.lemmas.List.{length-map}
use Rattle.camac_lang.specs.View.{procedure_of}
use Rattle.camac_check.proofs.Heading.{same_context}
use Rattle.camac_check.proofs.headings.after_procedures.Goals as goal

pub after-requires : goal.after-requires
after-requires c =
    let count : length c.of-whole.result.procedures.now ≡ length c.args.script.now.procedures = sym (length-map c.of-whole.result.procedures.now procedure_of) ∙ ap length c.of-whole.ensures.procedures in
    omega (arith, count, c.requires)

pub returns : goal.returns
returns c = c.after.ensures.rules ∙ same_context c.of-whole.result c.args.plan.now c.args.script.now c.args.done c.of-whole.ensures.rules c.of-whole.ensures.procedures
