use Rattle.std.proofs.Common.{◌-◌, ◌^◌, ◌<◌, subst, arith}
use Rattle.camac_lang.specs.Headings.{annotate}
use Rattle.camac_lang.specs.View.{procedure_of}
use Rattle.camac_check_simple.specs.Gives.{Gives}
use Rattle.camac_check.proofs.Capped.{procedure_cut}
use Rattle.camac_check.proofs.accept.procedure_within.Goals as goal

pub returns : goal.returns
returns c =
    let low : c.args.cycles < 2 ^ 64 - 1 = omega arith in
    let few : c.args.words < 2 ^ 64 - 1 = omega arith in
    let short : c.args.steps < 2 ^ 64 - 1 = omega arith in
    subst (λ r. Gives (λ b. b) c.procedure_in_64_bits.result r)
    (procedure_cut c.args.context.now (annotate c.args.cycles c.args.words c.args.steps (procedure_of c.args.procedure.now)) low few short) c.procedure_in_64_bits.ensures
