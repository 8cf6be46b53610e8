use Rattle.std.proofs.Common.{map, refl, sym, ap, ◌∙◌, subst}
use Rattle.std.specs.Prelude.{Some}
use Rattle.std.specs.contracts.io.impls.RefSliceU8Read.TheImpl.{ghosts}
use Rattle.camac_response_times.specs.Setting.{ReadsSettings}
use Rattle.camac_engines.specs.declared.plan.PlanSource.TheVariants.{Text}
use Rattle.camac_word.specs.Watched.{inner_of}
use Rattle.camac_c.proofs.Answered.{response_misused, response_told}
use Rattle.camac_c.proofs.response.respond_to.Goals as goal

pub returns-in-Told : goal.returns-in-Told
returns-in-Told c =
    response_told (λ w. ghosts.remaining (inner_of w)) (Text c.new.result) c.engine_response.new.plan c.args.plan.now c.args.script.now (ap (λ r. Some r.now) c.new.ensures.inner)
    (ghosts.remaining (inner_of c.engine_response.new.script)) (map (λ w. w.now) c.args.every.now) (map (λ w. w.now) c.args.within.now) c.in-Ok.settings
    (subst (ReadsSettings (map (λ w. w.now) c.args.every.now) (map (λ w. w.now) c.args.within.now)) c.in-Ok.is c.in_ok-settings.ensures) c.into_inner.result.items
    (ap (λ r. Some r.now) c.new-script.ensures.inner)
    (ap (λ v. Some v.items) c.new-out.ensures.inner ∙ ap Some c.new-2.ensures.items)
    (ap (λ v. Some v.items) (sym c.into_inner.ensures))
    c.in-Told.outcome (rw c.in-Told.is at c.in_ok-outcome.ensures.responds)

pub returns : goal.returns
returns c =
    response_misused (λ w. ghosts.remaining (inner_of w)) (Text c.new.result) c.engine_response.new.plan c.args.plan.now c.args.script.now (ap (λ r. Some r.now) c.new.ensures.inner)
    (ghosts.remaining (inner_of c.engine_response.new.script)) (map (λ w. w.now) c.args.every.now) (map (λ w. w.now) c.args.within.now) c.in-Ok.settings
    (subst (ReadsSettings (map (λ w. w.now) c.args.every.now) (map (λ w. w.now) c.args.within.now)) c.in-Ok.is c.in_ok-settings.ensures) (inner_of c.engine_response.new.out).items
    (ap (λ r. Some r.now) c.new-script.ensures.inner)
    (ap (λ v. Some v.items) c.new-out.ensures.inner ∙ ap Some c.new-2.ensures.items)
    refl
    c.in-Misused.field-0 (rw c.in-Misused.is at c.in_ok-outcome.ensures.responds)
