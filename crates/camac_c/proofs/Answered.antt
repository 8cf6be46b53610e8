-- What the engines say of readers and writers, as what the calls on texts say.
use Rattle.std.proofs.Common.{◌≡◌, ℕ, ◌+◌, ◌<◌, List, ◌++◌, length, sym, ap, ◌∙◌, subst, append-nil, arith, inl, inr, [], refl, false}
use Rattle.std.proofs.lemmas.List.{length-append}
use Rattle.std.specs.Prelude.{Option, Some, None, Ok, Err, Result}
use Rattle.std.specs.Global.{Vec}
use Rattle.camac_engines.specs.Plan.{IsPlanTooLong, PlanFound, Says, plan_found}
use Rattle.camac_engines.specs.Engine.{Answers as EngineAnswers}
use Rattle.camac_engines.specs.Reading.{ConsumesSome, WasRead}
use Rattle.camac_engines.specs.declared.plan.PlanSource.{PlanSource}
use Rattle.camac_engines.specs.declared.plan.PlanSource.TheVariants.{Sample, Text}
use Rattle.camac_engines.specs.declared.reading.TheConstants.{TEXT_LIMIT, EVENTS_LIMIT}
use Rattle.camac_engines.specs.Found.{Found, HasJudged, HasRead, IsJudged, IsTooLong}
use Rattle.camac_engines.specs.declared.judging.Judged.{Judged}
use Rattle.camac_engines.specs.Ask.{AnswersEvents, AnswersPlan, AnswersTexts, TellsFound, TellsPlan}
use Rattle.camac_engines.specs.Report.{Reports, report_events}
use Rattle.camac_engines.specs.declared.ask.Ask.{Ask}
use Rattle.camac_engines.specs.declared.ask.PlanAsk.{PlanAsk}
use Rattle.camac_engines.specs.declared.fault.ToolFault.{ToolFault}
use Rattle.camac_engines.specs.declared.fault.ToolFault.TheVariants as fault
use Rattle.camac_engines.specs.declared.outcome.Outcome.{Outcome}
use Rattle.camac_engines.specs.Response.{Responds, TellsResponse}
use Rattle.camac_engines.specs.declared.response.Responded.{Responded}
use Rattle.camac_engines.specs.declared.response.Responded.TheVariants.{Told, Misused}
use Rattle.camac_c.specs.Texts.{IsLongText, AreLongTexts, IsFound, found_in, Answers, GoesOut, engine_code, AnswersEvents as TellsEvents, AnswersPlan as TellsOfPlan, AnswersTexts as TellsOfTexts}
use Rattle.camac_c.specs.Run.{AnswersRun, RunSays, holding}
use Rattle.camac_c.specs.Response.{AreMisused, AreWordsOf, IsTold, RespondsTo, RespondsToTexts}
use Rattle.camac_event.specs.Reading.{file_at}
use Rattle.camac_tool_run.specs.Headline.{JudgedKeeps, FoundKeeps}
use Rattle.camac_tool_run.specs.Run.{Runs, RunsFound, RunsJudged}
use Rattle.camac_tool_run.specs.World.{World}
use Rattle.camac_play.specs.Sent.{Outputs}
use Rattle.camac_play.specs.declared.telling.Telling.TheVariants.{Listing}
use Rattle.camac_response_times.specs.Setting.{ReadsSettings}
use Rattle.camac_response_times.specs.declared.setting.Misuse.{Misuse}
use Rattle.camac_response_times.specs.declared.setting.Settings.{Settings}

-- What an engine says of readers whose bytes are known, as what it says of these bytes.

-- what is read to the end is all
pub read_all : (limit : ℕ) (p text : List ℕ) (t : Option (List ℕ)) → WasRead limit (Some p) t text → text ≡ p
read_all limit p text None w = absurd w.1
read_all limit p text (Some ys) w = sym (w.1 ∙ ap (λ (zs : List ℕ). text ++ zs) w.2 ∙ append-nil text)

-- of what more than a limit is read is longer
pub read_long : (limit : ℕ) (p : List ℕ) (t : Option (List ℕ)) → ConsumesSome (Some p) t (limit + 1) → limit < length p
read_long limit p None c = absurd c.2
read_long limit p (Some ys) c = subst (λ (xs : List ℕ). limit < length xs) (sym c.2) (subst (λ (n : ℕ). limit < n) (sym (length-append c.0 ys)) (omega (arith, c.1)))

-- the source of a plan is this text
abbrev pub IsText : {R : Type 0} → (R → Option (List ℕ)) → PlanSource R → List ℕ → Type 0
IsText left Sample p = ⊥
IsText left (Text reader) p = left reader ≡ Some p

pub says_reading : {R : Type 0} (left : R → Option (List ℕ)) (src src' : PlanSource R) (p : List ℕ) (says : PlanFound) → IsText left src p → Says left src src' says → says ≡ plan_found p
says_reading left Sample src' p says is h = absurd is
says_reading left (Text w) Sample p says is h = absurd h
says_reading left (Text w) (Text w') p says is h =
    h.2 ∙ ap plan_found (read_all TEXT_LIMIT p h.0 (left w') (subst (λ (o : Option (List ℕ)). WasRead TEXT_LIMIT o (left w') h.0) is h.1))

pub plan_long : {R : Type 0} (left : R → Option (List ℕ)) (src src' : PlanSource R) (p : List ℕ) → IsText left src p → IsPlanTooLong left src src' → IsLongText p
plan_long left Sample src' p is h = absurd is
plan_long left (Text w) Sample p is h = absurd h
plan_long left (Text w) (Text w') p is h = read_long TEXT_LIMIT p (left w') (subst (λ (o : Option (List ℕ)). ConsumesSome o (left w') (TEXT_LIMIT + 1)) is h)

-- What was found of two readers, as what is found of their texts.

module _ {R : Type 0} (left : R → Option (List ℕ)) (src src' : PlanSource R) (p s : List ℕ) (is : IsText left src p) (t : Option (List ℕ)) where
  -- what was read of readers of these texts
  pub has_read : (found : Found) → HasRead left src src' (Some s) t found → found ≡ found_in (plan_found p) s
  has_read (Ok found) h = (λ i. Ok (found.0, read_all TEXT_LIMIT s found.1 t h.1 i)) ∙ ap (λ (says : PlanFound). found_in says s) (says_reading left src src' p (Ok found.0) is h.0)
  has_read (Err rule) h = ap (λ (says : PlanFound). found_in says s) (says_reading left src src' p (Err rule) is h.0)

  pub found : (j : Judged) → HasJudged left src src' (Some s) t j → IsFound (plan_found p) s j
  found j h = subst (λ (found : Found). IsJudged found j) (has_read h.0 h.1) h.2

  pub too_long : IsTooLong left src src' (Some s) t → AreLongTexts p s
  too_long (inl h) = inl (plan_long left src src' p is h.0)
  too_long (inr h) = inr (read_long TEXT_LIMIT s t h.2)

-- What the engines say of readers and writers, as what the calls on texts say.

-- A buffer before a call and after it, what a writer held before and after, and a code, where these are known.
module _ (old new : List ℕ) (size : ℕ) {o o' : Option (List ℕ)} {code : ℕ} (items : List ℕ) (before : o ≡ Some []) (after : o' ≡ Some items) (r : Result Outcome ToolFault) (is_code : code ≡ engine_code r)
    (goes : GoesOut r items old new size) where
  -- of what was read this is known
  module _ {T : Type 0} (WasRead : T → Type 0) (Says : T → Outcome → List ℕ → Type 0) (IsTooLong : Type 0) (Tells : Outcome → List ℕ → Type 0) (IsLong : Type 0)
      (known : (found : T) → WasRead found → (outcome : Outcome) (text : List ℕ) → Says found outcome text → Tells outcome text) (long : IsTooLong → IsLong) where
    answers : (q : Result Outcome ToolFault) → EngineAnswers WasRead Says IsTooLong (Some []) (Some items) q → GoesOut q items old new size → Answers Tells IsLong (engine_code q) old new size
    answers (Ok outcome) h g = inl (outcome, items, known h.0 h.1 outcome items (subst (λ (text : List ℕ). Says h.0 outcome text) (sym h.2.2) h.2.1), refl, g)
    answers (Err fault.Write) h g = inr (inl (refl, g))
    answers (Err fault.Read) h g = inr (inl (refl, g))
    answers (Err fault.Memory) h g = inr (inl (refl, g))
    answers (Err fault.TooLong) h g = inr (inr (refl, long h.0, g))

    answers_told : EngineAnswers WasRead Says IsTooLong o o' r → Answers Tells IsLong code old new size
    answers_told h =
        subst (λ (n : ℕ). Answers Tells IsLong n old new size) (sym is_code)
        (answers r (subst (λ (x : Option (List ℕ)). EngineAnswers WasRead Says IsTooLong x (Some items) r) before (subst (λ (x : Option (List ℕ)). EngineAnswers WasRead Says IsTooLong o x r) after h)) goes)

  module _ {R : Type 0} (left : R → Option (List ℕ)) (src src' : PlanSource R) (p : List ℕ) (is : IsText left src p) where
    pub plan_told : (a : PlanAsk) → AnswersPlan a left src src' o o' r → TellsOfPlan a p code old new size
    plan_told a =
        answers_told (Says left src src') (TellsPlan a) (IsPlanTooLong left src src') (TellsPlan a (plan_found p)) (IsLongText p)
        (λ says read outcome text h. subst (λ (q : PlanFound). TellsPlan a q outcome text) (says_reading left src src' p says is read) h) (plan_long left src src' p is)

    module _ (s : List ℕ) {b : Option (List ℕ)} (t : Option (List ℕ)) (script : b ≡ Some s) where
      pub texts_told : (a : Ask) → AnswersTexts a left src src' b t o o' r → TellsOfTexts a p s code old new size
      texts_told a h =
          answers_told (HasRead left src src' (Some s) t) (TellsFound a) (IsTooLong left src src' (Some s) t) (TellsFound a (found_in (plan_found p) s)) (AreLongTexts p s)
          (λ found read outcome text k. subst (λ (q : Found). TellsFound a q outcome text) (has_read left src src' p s is t found read) k) (too_long left src src' p s is t)
          (subst (λ (x : Option (List ℕ)). AnswersTexts a left src src' x t o o' r) script h)

  pub events_told : (file : List ℕ) {a : Option (List ℕ)} (b : Option (List ℕ)) → a ≡ Some file → AnswersEvents a b o o' r → TellsEvents file code old new size
  events_told file b e h =
      answers_told (WasRead EVENTS_LIMIT (Some file) b) (λ bytes. Reports (report_events (file_at bytes))) (ConsumesSome (Some file) b 16777217) (Reports (report_events (file_at file))) (EVENTS_LIMIT < length file)
      (λ bytes read outcome text k. subst (λ (q : List ℕ). Reports (report_events (file_at q)) outcome text) (read_all EVENTS_LIMIT file bytes b read) k) (read_long EVENTS_LIMIT file b)
      (subst (λ (x : Option (List ℕ)). AnswersEvents x b o o' r) e h)

-- What the engine of a run says of readers and writers, as what the call on texts says.

abbrev both : (a b : Option (List ℕ)) → Outputs
both a b = record { listing = a; events = b }

pub held : {a b : Option (List ℕ)} {listing events : List ℕ} → a ≡ Some listing → b ≡ Some events → both a b ≡ holding listing events
held x y = λ i. both (x i) (y i)

module _ {R : Type 0} (w w' : World R) (p s u : List ℕ) (is : IsText w.left w.plan p) (script : w.script ≡ Some s) (answers : w.answers ≡ Some u) (direct : w.gathers ≡ false) (listing events : List ℕ)
    (before : w.outputs ≡ holding [] []) (after : w'.outputs ≡ holding listing events) where
  judged : (j : Judged) → HasJudged w.left w.plan w'.plan w.script w'.script j → IsFound (plan_found p) s j
  judged j h = found w.left w.plan w'.plan p s is w'.script j (subst (λ (o : Option (List ℕ)). HasJudged w.left w.plan w'.plan o w'.script j) script h)

  says : (outcome : Outcome) → RunsFound w w' Listing (Ok outcome) → FoundKeeps w w' Listing (Ok outcome) → RunSays p s u outcome listing events
  says outcome r k = record {
    runs = (
      r.0,
      w'.answers,
      judged r.0 r.1,
      subst (λ (b : Outputs). RunsJudged false Listing r.0 (Some u) w'.answers (holding [] []) b (Ok outcome)) after
          (subst (λ (a : Outputs). RunsJudged false Listing r.0 (Some u) w'.answers a w'.outputs (Ok outcome)) before
          (subst (λ (o : Option (List ℕ)). RunsJudged false Listing r.0 o w'.answers w.outputs w'.outputs (Ok outcome)) answers
          (subst (λ x. RunsJudged x Listing r.0 w.answers w'.answers w.outputs w'.outputs (Ok outcome)) direct r.2))),
    );
    headline = (
      k.0,
      judged k.0 k.1,
      subst (λ (b : Outputs). JudgedKeeps Listing k.0 (Some u) (Some []) b.events (Ok outcome)) after
          (subst (λ (a : Outputs). JudgedKeeps Listing k.0 (Some u) a.events w'.outputs.events (Ok outcome)) before
          (subst (λ (o : Option (List ℕ)). JudgedKeeps Listing k.0 o w.outputs.events w'.outputs.events (Ok outcome)) answers k.2)),
    );
  }

  pub run_answers : (r : Result Outcome ToolFault) → Runs w w' Listing r → (old new : List ℕ) (size : ℕ) (file file' : List ℕ) (file_size : ℕ)
      → GoesOut r listing old new size → GoesOut r events file file' file_size → AnswersRun p s u (engine_code r) old new size file file' file_size
  run_answers (Ok outcome) h old new size file file' file_size g e = inl (outcome, listing, events, says outcome h.runs h.headline, refl, g, e)
  run_answers (Err fault.Write) h old new size file file' file_size g e = inr (inl (refl, g, e))
  run_answers (Err fault.Read) h old new size file file' file_size g e = inr (inl (refl, g, e))
  run_answers (Err fault.Memory) h old new size file file' file_size g e = inr (inl (refl, g, e))
  run_answers (Err fault.TooLong) h old new size file file' file_size g e = inr (inr (
    refl,
    too_long w.left w.plan w'.plan p s is w'.script (subst (λ (o : Option (List ℕ)). IsTooLong w.left w.plan w'.plan o w'.script) script h.runs.0),
    g,
    e,
  ))

-- What the engine of a response says of readers and writers, as what the call on texts says.

module _ {R : Type 0} (left : R → Option (List ℕ)) (src src' : PlanSource R) (p s : List ℕ) (is : IsText left src p) (t : Option (List ℕ)) (every within : List (List ℕ)) (settings : Settings)
    (read : ReadsSettings every within (Ok settings)) (items : List ℕ) where
  -- where it is known what the reader and the writer held
  module _ {a o o' : Option (List ℕ)} (script : a ≡ Some s) (before : o ≡ Some []) (after : o' ≡ Some items) where
    moved : (r : Result Responded ToolFault) → Responds settings left src src' a t o o' r → Responds settings left src src' (Some s) t (Some []) (Some items) r
    moved r h =
        subst (λ (x : Option (List ℕ)). Responds settings left src src' x t (Some []) (Some items) r) script
        (subst (λ (x : Option (List ℕ)). Responds settings left src src' a t x (Some items) r) before
        (subst (λ (x : Option (List ℕ)). Responds settings left src src' a t o x r) after h))

    is_told : (outcome : Outcome) → Responds settings left src src' (Some s) t (Some []) (Some items) (Ok (Told outcome)) → IsTold p s every within outcome items
    is_told outcome h = record { settings = settings; read = read; verdict = h.0; found = found left src src' p s is t h.0 h.1; says = subst (λ (text : List ℕ). TellsResponse settings h.0 outcome text) (sym h.2.2) h.2.1 }

    pub response_told : (outcome : Outcome) → Responds settings left src src' a t o o' (Ok (Told outcome)) → IsTold p s every within outcome items
    response_told outcome h = is_told outcome (moved (Ok (Told outcome)) h)

    are_misused : (misuse : Misuse) → Responds settings left src src' (Some s) t (Some []) (Some items) (Ok (Misused misuse)) → AreMisused p s every within
    are_misused misuse h = (misuse, inr (record { settings = settings; read = read; verdict = h.0; found = found left src src' p s is t h.0 h.1; unknown = h.2.0 }))

    pub response_misused : (misuse : Misuse) → Responds settings left src src' a t o o' (Ok (Misused misuse)) → AreMisused p s every within
    response_misused misuse h = are_misused misuse (moved (Ok (Misused misuse)) h)

-- with the words of two texts
pub of_texts : (p s every within : List ℕ) (es ws : List (List ℕ)) → AreWordsOf every es → AreWordsOf within ws
    → (r : Result (Option (Outcome × Vec ℕ)) ToolFault) → RespondsTo p s es ws r → RespondsToTexts p s every within r
of_texts p s every within es ws e w (Ok (Some told)) h = record { every_words = es; every_are = e; within_words = ws; within_are = w; text_is = h }
of_texts p s every within es ws e w (Ok None) h = inr (inr (es, ws, e, w, h))
of_texts p s every within es ws e w (Err fault.TooLong) h = h
of_texts p s every within es ws e w (Err fault.Write) h = tt
of_texts p s every within es ws e w (Err fault.Read) h = tt
of_texts p s every within es ws e w (Err fault.Memory) h = tt
