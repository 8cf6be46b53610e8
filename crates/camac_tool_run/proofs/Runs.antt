-- An engine from its plan and script on.
use Rattle.std.proofs.Common.{◌≡◌, ℕ, List, Option, Bool, true, false, ◌||◌, refl, sym, ap, subst, ◌∙◌, inl, inr}
use Rattle.std.specs.Prelude.{Result, Ok, Err}
use Rattle.std.proofs.Math.Bool.{or-false}
use Rattle.camac_lines.specs.Refusal.{refusal_text}
use Rattle.camac_lines.specs.declared.refusal.Refusal.{Refusal}
use Rattle.camac_engines.specs.Engine.{Shows, is_write_fault}
use Rattle.camac_engines.specs.Reading.{is_read_fault}
use Rattle.camac_engines.specs.Found.{HasJudged, ReadsJudged}
use Rattle.camac_engines.specs.Report.{refused}
use Rattle.camac_engines.specs.declared.fault.ToolFault.{ToolFault}
use Rattle.camac_engines.specs.declared.fault.ToolFault.TheVariants as fault
use Rattle.camac_engines.specs.declared.judging.Judged.{Judged}
use Rattle.camac_engines.specs.declared.judging.Judged.TheVariants as judged
use Rattle.camac_engines.specs.declared.outcome.Outcome.{Outcome}
use Rattle.camac_play.specs.declared.telling.Telling.{Telling}
use Rattle.camac_play.proofs.Sending.{both, sends_listing, prefix_listing}
use Rattle.camac_tool_run.specs.Headline.{JudgedKeeps, KeepsHeadline}
use Rattle.camac_tool_run.specs.Run.{Refuses, RunsJudged, RunsOn, StaysQuiet, Runs}
use Rattle.camac_tool_run.specs.World.{World}

-- the line of a refusal, as both writers have it
pub refuses : (r : Result Outcome ToolFault) (why : Refusal) (l m e f : Option (List ℕ)) → e ≡ f → Shows (refused why) l m r → Refuses why (both l e) (both m f) r
refuses r why l m e f same h = subst (λ x. Refuses why (both l e) (both m x) r) same (alone r h)
  where
    alone : (q : Result Outcome ToolFault) → Shows (refused why) l m q → Refuses why (both l e) (both m e) q
    alone (Ok outcome) h = (h.0, sends_listing l m e (refusal_text why) h.1)
    alone (Err fault.Write) h = prefix_listing l m e (refusal_text why) h
    alone (Err fault.Read) h = absurd h
    alone (Err fault.Memory) h = absurd h
    alone (Err fault.TooLong) h = absurd h

-- flags: of two readers one of which was not called, and one failed
texts_flag : (a b c f : Bool) → a ≡ (b || f) → (a || c) ≡ ((b || c) || f)
texts_flag a true c f e = rw e refl
texts_flag a false true true e = rw e refl
texts_flag a false true false e = rw e refl
texts_flag a false false true e = rw e refl
texts_flag a false false false e = rw e refl

answers_flag : (a b c d f : Bool) → a ≡ (b || false) → c ≡ (d || f) → (a || c) ≡ ((b || d) || f)
answers_flag a true c d f e g = rw e refl
answers_flag a false c d f e g = rw e g

no_flag : {T : Type 0} (a b : Bool) → a ≡ (b || false) → b ≡ false → a ≡ true → T
no_flag a b e f g = let no : true ≡ false = sym g ∙ e ∙ ap (λ x. x || false) f in cc

module _ {P : Type 0} (old new : World P) (t : Telling) where
  -- nothing was judged
  module _ (quiet : StaysQuiet old new) (r : Result Outcome ToolFault) where
    runs_before : (e : ToolFault) → r ≡ Err e → ReadsJudged old.left old.plan new.plan old.script new.script (Err e) → RunsOn old new t r
    runs_before fault.TooLong is h = rw is (h, quiet)
    runs_before fault.Read is h = rw is (inl quiet)
    runs_before fault.Memory is h = rw is quiet
    runs_before fault.Write is h = absurd h

    keeps_before : (e : ToolFault) → r ≡ Err e → KeepsHeadline old new t r
    keeps_before fault.TooLong is = rw is tt
    keeps_before fault.Read is = rw is (inl quiet.1.events)
    keeps_before fault.Memory is = rw is tt
    keeps_before fault.Write is = rw is tt

    no_write : (e : ToolFault) → r ≡ Err e → ReadsJudged old.left old.plan new.plan old.script new.script (Err e) → is_write_fault r ≡ false
    no_write fault.TooLong is h = rw is refl
    no_write fault.Read is h = rw is refl
    no_write fault.Memory is h = rw is refl
    no_write fault.Write is h = absurd h

    same_read : (e : ToolFault) → r ≡ Err e → is_read_fault {T = Judged} (Err e) ≡ is_read_fault r
    same_read fault.TooLong is = rw is refl
    same_read fault.Read is = rw is refl
    same_read fault.Memory is = rw is refl
    same_read fault.Write is = rw is refl

    pub ends_before : (e : ToolFault) → r ≡ Err e → ReadsJudged old.left old.plan new.plan old.script new.script (Err e) → new.writers_failed ≡ old.writers_failed → new.answers_failed ≡ old.answers_failed
        → new.texts_failed ≡ (old.texts_failed || is_read_fault {T = Judged} (Err e)) → Runs old new t r
    ends_before e is h w a s = record {
      runs = runs_before e is h;
      headline = keeps_before e is;
      out_failed = w ∙ sym (or-false old.writers_failed) ∙ ap (λ x. old.writers_failed || x) (sym (no_write e is h));
      in_failed = rw a (texts_flag new.texts_failed old.texts_failed old.answers_failed (is_read_fault r) (s ∙ ap (λ x. old.texts_failed || x) (same_read e is)));
      unread = λ was now. quiet;
      begun = λ was now. no_flag new.answers_failed old.answers_failed (a ∙ sym (or-false old.answers_failed)) was now;
    }

  -- this was judged
  module _ (j : Judged) (has : HasJudged old.left old.plan new.plan old.script new.script j) where
    runs_found : (r : Result Outcome ToolFault) → RunsJudged old.gathers t j old.answers new.answers old.outputs new.outputs r → RunsOn old new t r
    runs_found (Ok outcome) d = (j, has, d)
    runs_found (Err fault.Write) d = (j, has, d)
    runs_found (Err fault.Read) d = inr (j, has, d)
    runs_found (Err fault.Memory) d = no j d
      where
        no : (k : Judged) → RunsJudged old.gathers t k old.answers new.answers old.outputs new.outputs (Err fault.Memory) → RunsOn old new t (Err fault.Memory)
        no (judged.Accepted c) x = absurd x
        no (judged.Refused why) x = absurd x.1
    runs_found (Err fault.TooLong) d = no j d
      where
        no : (k : Judged) → RunsJudged old.gathers t k old.answers new.answers old.outputs new.outputs (Err fault.TooLong) → RunsOn old new t (Err fault.TooLong)
        no (judged.Accepted c) x = absurd x
        no (judged.Refused why) x = absurd x.1

    keeps_found : (r : Result Outcome ToolFault) → JudgedKeeps t j old.answers old.outputs.events new.outputs.events r → KeepsHeadline old new t r
    keeps_found (Ok outcome) k = (j, has, k)
    keeps_found (Err fault.Read) k = inr (j, has, k)
    keeps_found (Err fault.Write) k = tt
    keeps_found (Err fault.Memory) k = tt
    keeps_found (Err fault.TooLong) k = tt

    pub ends_found : (r : Result Outcome ToolFault) → RunsJudged old.gathers t j old.answers new.answers old.outputs new.outputs r → JudgedKeeps t j old.answers old.outputs.events new.outputs.events r
        → new.writers_failed ≡ (old.writers_failed || is_write_fault r) → new.answers_failed ≡ (old.answers_failed || is_read_fault r) → new.texts_failed ≡ (old.texts_failed || false) → Runs old new t r
    ends_found r d k w a s = record {
      runs = runs_found r d;
      headline = keeps_found r k;
      out_failed = w;
      in_failed = answers_flag new.texts_failed old.texts_failed new.answers_failed old.answers_failed (is_read_fault r) s a;
      unread = λ was now. no_flag new.texts_failed old.texts_failed s was now;
      begun = λ was now. (j, has, d);
    }
