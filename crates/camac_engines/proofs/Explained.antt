-- What is written of a refused text is its refusal, explained.
use Rattle.std.proofs.Common.{◌≡◌, ◌<◌, ◌≤◌, ◌-◌, ℕ, arith, get_or, length, take, take_all, List, [], ◌∷◌, ◌++◌, Option, Some, append-nil, append_assoc, ap, ◌∙◌, drop, sym, subst, refl}
use Rattle.std.specs.Prelude.{Result, Ok, Err, codes, flat_map}
use Rattle.std.specs.Result.{result_ok}
use Rattle.camac_lang.specs.Tree.{Script}
use Rattle.camac_tokens.specs.Fault.{Fault as TextFault}
use Rattle.camac_text.specs.Parser.{script_of}
use Rattle.camac_branch.specs.Plan.{Layout}
use Rattle.camac_plan.specs.declared.fault.PlanCase.{PlanCase}
use Rattle.camac_plan.specs.declared.fault.PlanFault.TheVariants.{Broken}
use Rattle.camac_plan.specs.declared.fault.PlanRule.{PlanRule}
use Rattle.camac_plan.specs.Reading.{TellsCase}
use Rattle.camac_names.specs.Link.{FirstIsLinkFault}
use Rattle.camac_check.specs.Refusals.{FirstIsRefusal}
use Rattle.camac_lines.specs.declared.refusal.Refusal.TheVariants as refusal
use Rattle.camac_explain.specs.Explanation.{IsPlanExplanation, explanation_of, refusal_of}
use Rattle.camac_explain.specs.Sentence.{sentence_of}
use Rattle.camac_explain.specs.declared.finding.Finding.{Finding}
use Rattle.camac_engines.specs.Accepted.{Accepted, accepted_read}
use Rattle.camac_engines.specs.Engine.{IsWritten, Shows}
use Rattle.camac_engines.specs.Explain.{AllExplained, Explained, ExplainedBy, ExplainedIf, IsRead, PlanExplained, ReportsMore, TellsExplained, TellsHeadings}
use Rattle.camac_engines.specs.Headings.{headed_read, headings_told}
use Rattle.camac_engines.specs.Refusals.{after_first, also_line, detail_lines, findings_of, told_after, turn_line_of}
use Rattle.camac_engines.specs.Report.{Report, refused, refused_and, report_plan, report_read}
use Rattle.camac_engines.specs.declared.explaining.TextExplained.{TextExplained}
use Rattle.camac_engines.specs.declared.fault.ToolFault.{ToolFault}
use Rattle.camac_engines.specs.declared.fault.ToolFault.TheVariants as fault
use Rattle.camac_engines.specs.declared.outcome.Outcome.{Outcome}
use Rattle.camac_engines.specs.declared.outcome.Outcome.TheVariants.{Good}
use Rattle.camac_engines.proofs.Findings.{first_found, none_found}

-- a refusal with the lines that explain it
shown_explained : (Explains : Finding → List ℕ → Type 0) (more : List ℕ) (f : Finding) (o p : Option (List ℕ)) (r : Result Outcome ToolFault) → Explains f more
    → Shows (refused_and (refusal_of f) more) o p r → IsWritten (ReportsMore (Explains f) (refused (refusal_of f))) o p r
shown_explained Explains more f o p (Ok outcome) is h = (_, (h.0, (more, is, refl)), h.1)
shown_explained Explains more f o p (Err fault.Write) is h = (_, _, (refl, (more, is, refl)), h)
shown_explained Explains more f o p (Err fault.Memory) is h = absurd h
shown_explained Explains more f o p (Err fault.Read) is h = absurd h
shown_explained Explains more f o p (Err fault.TooLong) is h = absurd h

pub refusal_explained : (Explains : Finding → List ℕ → Type 0) (more : List ℕ) (f : Finding) (a : Accepted) (told : Report) (o p : Option (List ℕ)) (r : Result Outcome ToolFault)
    → a ≡ Some (Err f) → told ≡ refused (refusal_of f) → Explains f more → Shows (refused_and (refusal_of f) more) o p r → IsWritten (ReportsMore (ExplainedIf Explains a) told) o p r
refusal_explained Explains more f a told o p r judged same is h =
    subst (λ (b : Accepted). IsWritten (ReportsMore (ExplainedIf Explains b) told) o p r) (sym judged)
    (subst (λ (q : Report). IsWritten (ReportsMore (Explains f) q) o p r) (sym same) (shown_explained Explains more f o p r is h))

-- nothing follows where nothing is refused
shown_good : (Follows : List ℕ → Type 0) (text : List ℕ) (o p : Option (List ℕ)) (r : Result Outcome ToolFault) → Shows (Some (Good, text)) o p r → IsWritten (ReportsMore Follows (Some (Good, text))) o p r
shown_good Follows text o p (Ok outcome) h = (text, (h.0, refl), h.1)
shown_good Follows text o p (Err fault.Write) h = (Good, text, (refl, refl), h)
shown_good Follows text o p (Err fault.Memory) h = absurd h
shown_good Follows text o p (Err fault.Read) h = absurd h
shown_good Follows text o p (Err fault.TooLong) h = absurd h

pub good_explained : (Follows : List ℕ → Type 0) (told shown : Report) (text : List ℕ) (o p : Option (List ℕ)) (r : Result Outcome ToolFault) → told ≡ Some (Good, text) → told ≡ shown → Shows shown o p r
    → IsWritten (ReportsMore Follows told) o p r
good_explained Follows told shown text o p r is same h =
    subst (λ (q : Report). IsWritten (ReportsMore Follows q) o p r) (sym is)
    (shown_good Follows text o p r (subst (λ (q : Report). Shows q o p r) (sym same ∙ is) h))

-- ---- of a script

pub turn_of_some : (turn : List ℕ) → 1 ≤ length turn → turn_line_of turn ≡ codes "Turn: " ++ turn ++ codes "\n"
turn_of_some [] h = absurd (omega (arith, h))
turn_of_some (b ∷ bs) h = refl

pub no_items : {A : Type 0} (xs : List A) → length xs < 1 → xs ≡ []
no_items [] h = refl
no_items (x ∷ xs) h = absurd (omega (arith, h))

pub first_and_rest : {A : Type 0} (xs : List A) (other : A) → 1 ≤ length xs → xs ≡ get_or xs 0 other ∷ take (length xs - 1) (drop 1 xs)
first_and_rest [] other h = absurd (omega (arith, h))
first_and_rest (x ∷ xs) other h =
    let fits : length xs ≤ length (x ∷ xs) - 1 = omega arith in
    ap (λ ys. x ∷ ys) (sym (take_all (length (x ∷ xs) - 1) xs fits))

script_explained : (text : List ℕ) (script : Script) (f : Finding) (lines : List ℕ) → script_of text ≡ Ok script → lines ≡ explanation_of text f (sentence_of script f) → Explained text f lines
script_explained text script f lines read is =
    subst (λ (s : Result Script TextFault). ExplainedBy text s f lines) (sym read) is

module _ (plan : Layout) (text : List ℕ) (script : Script) (o p : Option (List ℕ)) (r : Result Outcome ToolFault) where
  pub first_explained : FirstIsLinkFault → FirstIsRefusal → (f : Finding) (rest : List Finding) (lines detailed more : List ℕ) → script_of text ≡ Ok script → findings_of plan script ≡ f ∷ rest
      → lines ≡ explanation_of text f (sentence_of script f) → detailed ≡ lines ++ detail_lines plan text script f → more ≡ detailed ++ flat_map (also_line text) rest → Shows (refused_and (refusal_of f) more) o p r
      → IsWritten (TellsExplained plan text) o p r
  first_explained linked checked f rest lines detailed more read is told details also h =
      let found = first_found linked checked plan script text f rest read is in
      let others : told_after plan text (result_ok (script_of text)) ≡ detail_lines plan text script f ++ flat_map (also_line text) rest =
      ap (λ s. told_after plan text (result_ok s)) read ∙ ap (after_first plan text script) is in
      refusal_explained (AllExplained plan text) more f _ _ o p r found.0 found.1 (
        lines,
        script_explained text script f lines read told,
        also ∙ ap (λ l. l ++ flat_map (also_line text) rest) details ∙ append_assoc lines (detail_lines plan text script f) (flat_map (also_line text) rest) ∙ ap (λ l. lines ++ l) (sym others),
      ) h

  pub none_explained : FirstIsLinkFault → FirstIsRefusal → (shown : Report) → script_of text ≡ Ok script → findings_of plan script ≡ [] → report_read plan (Ok script) ≡ shown → Shows shown o p r → IsWritten (TellsExplained plan text) o p r
  none_explained linked checked shown read is same h =
      let found = none_found linked checked plan script text read is in
      good_explained _ _ shown _ o p r found.1 (ap (report_read plan) read ∙ same) h

  pub refusal_headed : (f : Finding) (lines : List ℕ) → script_of text ≡ Ok script → headed_read plan (Ok script) ≡ Some (Err f) → lines ≡ explanation_of text f (sentence_of script f)
      → Shows (refused_and (refusal_of f) lines) o p r → IsWritten (TellsHeadings plan text) o p r
  refusal_headed f lines read is told h =
      let found = ap (headed_read plan) read ∙ is in
      refusal_explained (Explained text) lines f _ _ o p r found (ap headings_told found) (script_explained text script f lines read told) h

  pub none_headed : (shown : Report) (told : List ℕ) → script_of text ≡ Ok script → headings_told (headed_read plan (Ok script)) ≡ shown → shown ≡ Some (Good, told) → Shows shown o p r → IsWritten (TellsHeadings plan text) o p r
  none_headed shown told read same is h =
      let found = ap (λ s. headings_told (headed_read plan s)) read ∙ same in
      good_explained _ _ shown told o p r (found ∙ is) found h

-- ---- of a text that is none

module _ (plan : Layout) (text : List ℕ) (told : TextExplained) (o p : Option (List ℕ)) (r : Result Outcome ToolFault) where
  pub fault_explained : IsRead text (Err told) → Shows (refused_and (refusal_of told.finding) told.lines.items) o p r → IsWritten (TellsExplained plan text) o p r
  fault_explained (flaw, read, is, explained) h =
      refusal_explained (AllExplained plan text) told.lines.items told.finding _ _ o p r (ap (accepted_read plan) read ∙ ap (λ x. Some (Err x)) (sym is))
      (ap (report_read plan) read ∙ ap (λ x. refused (refusal_of x)) (sym is))
      (told.lines.items, explained, sym (append-nil told.lines.items) ∙ ap (λ l. told.lines.items ++ l) (sym (ap (λ s. told_after plan text (result_ok s)) read))) h

  pub fault_headed : IsRead text (Err told) → Shows (refused_and (refusal_of told.finding) told.lines.items) o p r → IsWritten (TellsHeadings plan text) o p r
  fault_headed (flaw, read, is, explained) h =
      let found = ap (headed_read plan) read ∙ ap (λ x. Some (Err x)) (sym is) in
      refusal_explained (Explained text) told.lines.items told.finding _ _ o p r found (ap headings_told found) explained h

pub plan_explained : (text : List ℕ) (case : PlanCase) (more : List ℕ) (rule : PlanRule) (o p : Option (List ℕ)) (r : Result Outcome ToolFault) → TellsCase text (Broken rule case) → IsPlanExplanation text rule case more
    → Shows (refused_and (refusal.Plan rule) more) o p r → IsWritten (ReportsMore (PlanExplained (Err (text, rule))) (report_plan (Err (text, rule)))) o p r
plan_explained text case more rule o p (Ok outcome) of is h = (_, (h.0, (more, (case, of, is), refl)), h.1)
plan_explained text case more rule o p (Err fault.Write) of is h = (_, _, (refl, (more, (case, of, is), refl)), h)
plan_explained text case more rule o p (Err fault.Memory) of is h = absurd h
plan_explained text case more rule o p (Err fault.Read) of is h = absurd h
plan_explained text case more rule o p (Err fault.TooLong) of is h = absurd h
