use Rattle.std.proofs.Common.{◌∙◌, ℕ, List, length, refl, ap}
use Rattle.camac_run.specs.declared.progress.Progress.TheVariants.{Went, Overrun}
use Rattle.camac_run.specs.declared.progress.Used.{Used}
use Rattle.camac_c.specs.Held.{held_after}
use Rattle.camac_c.specs.Told.{did}
use Rattle.camac_c.specs.declared.last.Deed.TheVariants.{Nothing}
use Rattle.camac_c.specs.declared.last.Last.{Last}
use Rattle.camac_c.proofs.session.use_answer.Goals as goal

pub returns-in-None : goal.returns-in-None
returns-in-None c =
    let used = c.advance.new.used in let s = c.args.session.now in
    record {
      progress = Went used.item used.unlocks used.event;
      progresses = c.in-None.ensures.goes;
      keeps = c.in-None.ensures.keeps;
      told_is = c.tell.ensures ∙ ap (λ (ws : List ℕ). did s.width (Went used.item used.unlocks used.event) (length ws)) c.last_words.ensures.words;
      last = refl;
      held = c.keep_held.ensures ∙ ap (λ (us : List ℕ). held_after used.item (length us) s.held.items) c.as_slice.ensures.value;
      checked = refl;
    }

pub returns-in-Some : goal.returns-in-Some
returns-in-Some c =
    let s = c.args.session.now in
    let stopped : Used → Last = λ u. record { deed = Nothing; used = u } in
    record {
      progress = Overrun c.in-Some.overrun;
      progresses = c.in-Some.ensures.stops;
      keeps = c.in-Some.ensures.keeps;
      told_is = c.tell_overrun.ensures s.width 0;
      last = ap stopped c.in-Some.ensures.same;
      held = refl;
      checked = refl;
    }
