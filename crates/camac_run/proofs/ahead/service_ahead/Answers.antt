use Rattle.std.proofs.Common.{◌≡◌, length, refl, sym, ap, subst, ◌∙◌, arith}
use Rattle.std.proofs.lemmas.List.{length-map}
use Rattle.camac_branch.specs.Plan.{Layout, IsPlan}
use Rattle.camac_lang.specs.Tree.{Service}
use Rattle.camac_lang.specs.View.{service_of, statements_of}
use Rattle.camac_model.specs.Fine.{most_turns}
use Rattle.camac_model.specs.Meaning.{block_meaning}
use Rattle.camac_machine.proofs.Lams.{service_at}
use Rattle.camac_run.specs.Ahead.{BeginsWith, releases_first}
use Rattle.camac_run.proofs.Around.{in_all}
use Rattle.camac_run.proofs.Called.{begins_with, begins_with_none}
use Rattle.camac_run.proofs.ahead.service_ahead.Goals as goal

pub returns-then-number-services : goal.returns-then-number-services
returns-then-number-services c = subst (BeginsWith c.args.checked.now c.args.number) (sym c.nothing-coming.ensures) (begins_with_none c.args.checked.now c.args.number)

pub returns-then-releases_first : goal.returns-then-releases_first
returns-then-releases_first c = subst (BeginsWith c.args.checked.now c.args.number) (sym c.new.ensures) (begins_with_none c.args.checked.now c.args.number)

pub returns : goal.returns
returns c =
    let k = c.args.checked.now in
    let P : Layout → Type 0 = λ p. IsPlan p in
    let r = c.index-services-number.result in
    let v : Service = service_of r in
    let new = c.add_block.new in
    let e = c.services-services.ensures ∙ ap (λ s. s.services) c.script.ensures in
    let n : length k.script.services ≡ length c.services-services.result.now = sym (ap length e) ∙ length-map c.services-services.result.now service_of in
    let there = service_at c.services-services.result.now k.script.services c.args.number r e (omega (arith, n, c.if-number-services.false)) c.index-services-number.is in
    let adds =
    in_all c.of_all-inside.result c.args.checked (λ x. block_meaning x most_turns (statements_of c.as_slice-body.result.now)) c.at_begin-known.result new.known c.nothing-coming.result.ahead.items new.coming.ahead.items c.add_block.result c.add_block.result c.of_all-inside.ensures.checked c.of_all-inside.ensures.context refl c.add_block.ensures in
    begins_with k c.is_checked.ensures (subst P c.plan.ensures c.is_plan.ensures) c.args.number v new.coming.ahead.items there new.known c.add_block.result (sym (subst (λ l. c.releases_first.result ≡ releases_first l) c.as_slice.ensures.value c.releases_first.ensures) ∙ c.if-releases_first.false) (rw (c.as_slice-body.ensures.value, c.at_begin-known.ensures, c.nothing-coming.ensures) at adds)
