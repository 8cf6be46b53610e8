use Rattle.std.proofs.Common.{◌∙◌, length, sym, ap}
use Rattle.std.proofs.lemmas.List.{length-map}
use Rattle.camac_lang.specs.View.{procedure_of}
use Rattle.camac_run.specs.Sure.{context_before}
use Rattle.camac_run.proofs.Around.{before_none}
use Rattle.camac_run.proofs.ahead.Inside.of_all.Goals as goal

pub returns-clause-context : goal.returns-clause-context
returns-clause-context c =
    let checked = c.args.checked.now in
    let e = c.procedures.ensures ∙ ap (λ s. s.procedures) c.script.ensures in
    ap (context_before checked) (sym (length-map c.procedures.result.now procedure_of) ∙ ap length e) ∙ before_none checked
