-- What is told of what was read.
use Rattle.std.proofs.Common.{◌≡◌, ℕ, List, Option, Some, None, sym, ap, subst, ◌∙◌, refl}
use Rattle.std.specs.Prelude.{Result, Ok, Err}
use Rattle.camac_branch.specs.Plan.{Layout}
use Rattle.camac_rules.specs.Checked.{CheckedScript}
use Rattle.camac_explain.specs.Explanation.{refusal_of}
use Rattle.camac_explain.specs.declared.finding.Finding.{Finding}
use Rattle.camac_lines.specs.declared.refusal.Refusal.{Refusal}
use Rattle.camac_lines.specs.Verdict.{verdict_text}
use Rattle.camac_response_times.specs.declared.setting.Settings.{Settings}
use Rattle.camac_response_times.specs.declared.source.Source.{Source}
use Rattle.camac_response.specs.Checked.{AreTold, IsNoService, AreKept}
use Rattle.camac_response.specs.Lines.{responses_text}
use Rattle.camac_text.specs.Parser.{script_of}
use Rattle.camac_lang.specs.Tree.{Script}
use Rattle.camac_tokens.specs.Fault.{Fault as TextFault}
use Rattle.camac_names.specs.Link.{link_fault}
use Rattle.camac_names.specs.declared.fault.LinkFault.{LinkFault}
use Rattle.camac_names.specs.declared.fault.LinkFault.TheVariants as link
use Rattle.camac_rules.specs.Accept.{accept}
use Rattle.camac_rules.specs.Fault.{Fault, broken}
use Rattle.camac_model.specs.Fine.{Bounds}
use Rattle.camac_engines.specs.Accepted.{Accepts, accepted, Accepted, accepted_checked, accepted_linked, accepted_read}
use Rattle.camac_engines.specs.Headings.{costs_found, costs_report, costs_report_of, costs_shown}
use Rattle.camac_engines.specs.Engine.{Answers, IsWritten, Shows}
use Rattle.camac_engines.specs.Report.{Report, Reports, refused, report, report_of, report_accepted, report_linked, report_read}
use Rattle.camac_engines.specs.declared.fault.ToolFault.{ToolFault}
use Rattle.camac_engines.specs.declared.fault.ToolFault.TheVariants as fault
use Rattle.camac_engines.specs.declared.judging.Judged.{Judged}
use Rattle.camac_engines.specs.declared.judging.Judged.TheVariants as judged
use Rattle.camac_engines.specs.declared.outcome.Outcome.{Outcome}
use Rattle.camac_engines.specs.declared.response.Responded.{Responded}
use Rattle.camac_engines.specs.declared.outcome.Outcome.TheVariants.{Good, Refused}
use Rattle.camac_engines.specs.Response.{IsResponse, RespondsOn, SaysKept, unkept_in, twice_in}
use Rattle.camac_engines.specs.Tell.{IsRefused, TellsAll, TellsChecked, TellsJudged, TellsRefusals, TellEndsAsCheck}

-- a report was written
pub written : (told : Report) (o p : Option (List ℕ)) (r : Result Outcome ToolFault) → Shows told o p r → IsWritten (Reports told) o p r
written None o p (Ok outcome) h = absurd h
written None o p (Err fault.Write) h = absurd h
written (Some t) o p (Ok outcome) h = (t.1, ap (λ (q : Outcome). Some (q, t.1)) (sym h.0), h.1)
written (Some t) o p (Err fault.Write) h = (t.0, t.1, (λ i. Some t), h)
written told o p (Err fault.Memory) h = absurd h
written told o p (Err fault.Read) h = absurd h
written told o p (Err fault.TooLong) h = absurd h

-- a report that is another was written
pub reported : (told shown : Report) (o p : Option (List ℕ)) (r : Result Outcome ToolFault) → told ≡ shown → Shows shown o p r → IsWritten (Reports told) o p r
reported told shown o p r is h = subst (λ (q : Report). IsWritten (Reports q) o p r) (sym is) (written shown o p r h)

same_costs : (plan : Layout) (text : List ℕ) (j : Judged) → Accepts (Ok j) plan (accepted plan text) → costs_report_of j ≡ costs_report plan text
same_costs plan text (judged.Accepted c) is = ap (λ p. costs_shown p c.script) is.0 ∙ sym (ap (costs_found plan) is.1)
same_costs plan text (judged.Refused f) is = sym (ap (costs_found plan) is)

pub costs_written : (plan : Layout) (text : List ℕ) (j : Judged) (o p : Option (List ℕ)) (r : Result Outcome ToolFault) → Accepts (Ok j) plan (accepted plan text)
    → IsWritten (Reports (costs_report_of j)) o p r → IsWritten (Reports (costs_report plan text)) o p r
costs_written plan text j o p r is h = subst (λ (q : Report). IsWritten (Reports q) o p r) (same_costs plan text j is) h

-- an engine answers what was read
module _ {T : Type 0} (WasRead : T → Type 0) (Says : T → Outcome → List ℕ → Type 0) (Long : Type 0) (o p : Option (List ℕ)) where
  pub answered : (found : T) (r : Result Outcome ToolFault) → WasRead found → IsWritten (Says found) o p r → Answers WasRead Says Long o p r
  answered found (Ok outcome) read h = (found, read, h)
  answered found (Err fault.Write) read h = (found, read, h)
  answered found (Err fault.Memory) read h = h
  answered found (Err fault.Read) read h = absurd h
  answered found (Err fault.TooLong) read h = absurd h

-- of look-at-mes
pub response_of : (s : Settings) (c : CheckedScript) (ts : List Source) (outcome : Outcome) → IsNoService c.script s.every.items s.within.items None → AreTold c s.every.items ts
    → SaysKept (AreKept c.script s.within.items (unkept_in c ts) ts) outcome → IsResponse s c outcome (responses_text c.script s.within.items (unkept_in c ts) (twice_in c) ts)
response_of s c ts outcome named told kept = record { named = named; sources = ts; sources_are = told; text_is = refl; kept = kept }

-- the line of a refusal, where it could not be written
pub refusal_responds : (s : Settings) (f : Finding) (why : Refusal) (o p : Option (List ℕ)) (r : Result Responded ToolFault) (e : ToolFault) → why ≡ refusal_of f → r ≡ Err e → Shows (refused why) o p (Err e)
    → RespondsOn s (judged.Refused f) o p r
refusal_responds s f why o p r e same is h = rw is (reported (refused (refusal_of f)) (refused why) o p (Err e) (ap refused (sym same)) h)

-- what says less is written where what says more is
says_more : {Says Less : Outcome → List ℕ → Type 0} → ((outcome : Outcome) (whole : List ℕ) → Says outcome whole → Less outcome whole)
    → (o p : Option (List ℕ)) (r : Result Outcome ToolFault) → IsWritten Says o p r → IsWritten Less o p r
says_more less o p (Ok outcome) (whole, says, all) = (whole, less outcome whole says, all)
says_more less o p (Err fault.Write) (outcome, whole, says, begun) = (outcome, whole, less outcome whole says, begun)
says_more less o p (Err fault.Memory) kept = kept
says_more less o p (Err fault.Read) h = absurd h
says_more less o p (Err fault.TooLong) h = absurd h

-- what is told of a text is all that was found of it
module _ (plan : Layout) (text : List ℕ) (o p : Option (List ℕ)) (r : Result Outcome ToolFault) where
  pub bounds_told : (c : CheckedScript) → Accepts (Ok (judged.Accepted c)) plan (accepted plan text) → report plan text ≡ report_of (judged.Accepted c)
      → IsWritten (TellsChecked c text) o p r → IsWritten (TellsAll plan text) o p r
  bounds_told c is same h =
      subst (λ (a : Accepted). IsWritten (TellsJudged plan text a) o p r) (sym is.1) (says_more (λ outcome whole h. (c, is.0, refl, same, h)) o p r h)

  pub refusals_told : (f : Finding) → Accepts (Ok (judged.Refused f)) plan (accepted plan text) → IsWritten (IsRefused (TellsRefusals plan text (script_of text))) o p r → IsWritten (TellsAll plan text) o p r
  refusals_told f is h = subst (λ (a : Accepted). IsWritten (TellsJudged plan text a) o p r) (sym is) h

-- a report of what is found
abbrev EndsAs : Accepted → Report → Type 0
EndsAs (Some (Ok script)) r = (told : List ℕ) × (r ≡ Some (Good, told))
EndsAs (Some (Err f)) r = (told : List ℕ) × (r ≡ Some (Refused, told))
EndsAs None r = r ≡ None

abbrev outcome_in : Report → Outcome
outcome_in None = Refused
outcome_in (Some told) = told.0

module _ (plan : Layout) where
  ends_checked : (script : Script) (r : Result (List Bounds) Fault) → EndsAs (accepted_checked script r) (report_accepted plan script r)
  ends_checked script (Ok bounds) = (_, refl)
  ends_checked script (Err (broken rule spot case)) = (_, refl)

  ends_linked : (script : Script) (o : Option LinkFault) → EndsAs (accepted_linked plan script o) (report_linked plan script o)
  ends_linked script None = ends_checked script (accept plan script)
  ends_linked script (Some (link.Broken rule spot case)) = (_, refl)
  ends_linked script (Some link.OutOfMemory) = refl

  ends_read : (r : Result Script TextFault) → EndsAs (accepted_read plan r) (report_read plan r)
  ends_read (Ok script) = ends_linked script (link_fault plan script)
  ends_read (Err flaw) = (_, refl)

  ends : (text : List ℕ) (outcome : Outcome) (whole : List ℕ) (a : Accepted) → EndsAs a (report plan text) → TellsJudged plan text a outcome whole → (told : List ℕ) × (report plan text ≡ Some (outcome, told))
  ends text outcome whole (Some (Ok script)) (told, same) (c, is_plan, is_script, reported, (sources, are_told, more)) =
      (_, reported ∙ ap (λ (o : Outcome). Some (o, verdict_text c.plan c.script c.bounds)) (ap outcome_in more))
  ends text outcome whole (Some (Err f)) (told, same) h = (told, same ∙ ap (λ (o : Outcome). Some (o, told)) (sym h.0))
  ends text outcome whole None same h = absurd h

-- what is told at once ends as `check` does
pub tell_ends_as_check : TellEndsAsCheck
tell_ends_as_check plan text outcome whole h = ends plan text outcome whole (accepted plan text) (ends_read plan (script_of text)) h
