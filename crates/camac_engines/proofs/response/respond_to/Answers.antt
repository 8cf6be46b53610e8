use Rattle.std.proofs.Common.{◌∙◌, subst, ap}
use Rattle.std.proofs.lemmas.Result.{err_from_is_err_and}
use Rattle.camac_response.specs.Checked.{AreTold, IsNoService, AreKept}
use Rattle.camac_engines.specs.Response.{SaysKept, unkept_in}
use Rattle.camac_engines.proofs.Told.{response_of}
use Rattle.camac_engines.proofs.response.respond_to.Goals as goal

pub returns-in_err-write_responses-clause-responds : goal.returns-in_err-write_responses-clause-responds
returns-in_err-write_responses-clause-responds g c =
    let fault = err_from_is_err_and c.from_residual-in_err-write_responses.result c.from_residual-in_err-write_responses.ensures.1 in
    let settings = c.args.settings.now in
    let checked = c.args.checked.now in
    let sources = c.in_ok-sources.sources.items in
    let found = c.in_ok-unkept.ensures ∙ ap (unkept_in checked) c.deref-2.ensures.value in
    let judged = c.deref-3.ensures.value ∙ found in
    let written = c.deref-4.ensures.value ∙ found in
    let twice = c.deref-5.ensures.value ∙ c.in_ok-twice.ensures in
    rw (fault.1, fault.2) (
      c.outcome_of-outcome.result,
      _,
      response_of settings checked sources c.outcome_of-outcome.result
          (subst (IsNoService checked.script settings.every.items settings.within.items) c.in_default.is c.no_service.ensures)
          (subst (λ every. AreTold checked every sources) c.deref.ensures.value c.in_ok-sources.ensures)
          (subst (λ us. SaysKept (AreKept checked.script settings.within.items us sources) c.outcome_of-outcome.result) judged
          (subst (λ ts. SaysKept (AreKept checked.script settings.within.items c.deref-3.result.now ts) c.outcome_of-outcome.result) c.in_ok-responses.ensures c.outcome_of-outcome.ensures)),
      (rw (c.in_ok-responses.ensures, written, twice, c.deref-6.ensures.value) at c.in_err-write_responses.ensures.text),
    )

pub returns-clause-responds : goal.returns-clause-responds
returns-clause-responds g c =
    let settings = c.args.settings.now in
    let checked = c.args.checked.now in
    let sources = c.in_ok-sources.sources.items in
    let found = c.in_ok-unkept.ensures ∙ ap (unkept_in checked) c.deref-2.ensures.value in
    let judged = c.deref-3.ensures.value ∙ found in
    let written = c.deref-4.ensures.value ∙ found in
    let twice = c.deref-5.ensures.value ∙ c.in_ok-twice.ensures in (
      _,
      response_of settings checked sources c.outcome_of-outcome.result
          (subst (IsNoService checked.script settings.every.items settings.within.items) c.in_default.is c.no_service.ensures)
          (subst (λ every. AreTold checked every sources) c.deref.ensures.value c.in_ok-sources.ensures)
          (subst (λ us. SaysKept (AreKept checked.script settings.within.items us sources) c.outcome_of-outcome.result) judged
          (subst (λ ts. SaysKept (AreKept checked.script settings.within.items c.deref-3.result.now ts) c.outcome_of-outcome.result) c.in_ok-responses.ensures c.outcome_of-outcome.ensures)),
      (rw (c.in_ok-responses.ensures, written, twice, c.deref-6.ensures.value) at c.in_ok-write_responses.ensures.text),
    )
