-- Which answers of a text count, and which of its lines a run takes.
use Rattle.std.proofs.Common.{◌≡◌, ℕ, zero, suc, ◌+◌, ◌≤◌, ◌⊎◌, inl, inr, List, [], ◌∷◌, ◌++◌, length, take, Option, Some, None, refl, sym, ap, ◌∙◌, append_assoc, append-nil, length-append, map, drop, arith, cond, Bool, true, false}
use Rattle.std.proofs.Math.Seq.{take-append_seam, take-append-add}
use Rattle.std.proofs.lemmas.Bool.{cases_lt}
use Rattle.std.proofs.lemmas.List.Elements.{All-head, All-tail}
use Rattle.std.proofs.lemmas.List.{take-append-le}
use Rattle.std.specs.List.{All}
use Rattle.std.specs.Prelude.{is_none, nat_le, ◌-◌, Result, Ok, Err}
use Rattle.camac_branch.specs.Branch.{Answer}
use Rattle.camac_branch.specs.Plan.{Layout}
use Rattle.camac_lang.specs.Tree.{Script}
use Rattle.camac_answer.specs.Lines.{is_abandon, lines, line_answer, as_given}
use Rattle.camac_answer.specs.Reading.{Reading, no_more, with_given, with_line, broken, reading_from}
use Rattle.camac_answer.specs.declared.fault.AnswerFault.{AnswerFault}
use Rattle.camac_answer.specs.declared.fault.AnswerRule.TheVariants.{LineShape, TooMany}
use Rattle.camac_answer.specs.declared.fault.AnswerRule.{AnswerRule}
use Rattle.camac_answer.specs.declared.given.Given.{Given}
use Rattle.camac_answer.specs.declared.given.Given.TheVariants as gives
use Rattle.camac_model.specs.Behaviour.{Stop, overrun, stop_of}
use Rattle.camac_model.specs.Run.{the_run}
use Rattle.camac_play.specs.Abandoned.{AnswersCount, IsServing, ServicesAreLeft, TextsGiveAnswers}
use Rattle.camac_play.specs.Play.{only, with_taken}
use Rattle.camac_play.specs.Told.{Counted, none_counted, count_before, before_service, then_given, counted_from, counted, takes, taken_from, taken_of, is_inside}
use Rattle.camac_play.specs.declared.telling.Telling.{Telling}

pub take_whole : {A : Type 0} (xs : List A) (n : ℕ) → length xs ≡ n → take n xs ≡ xs
take_whole {A} xs n e =
    ap (λ (k : ℕ). take k xs) (sym e) ∙ ap (take (length xs)) (sym (append-nil xs)) ∙ take-append_seam xs []

-- How many answers come before the service in progress.
module _ (plan : Layout) (script : Script) where
  -- whether the run on these is at a graded-L operation
  abbrev pub is_between : List Answer → Bool
  is_between answers = is_none (stop_of (the_run plan script answers))

  pub before_more : (xs ys : List Answer) (n : ℕ) → n ≤ length xs → count_before plan script (xs ++ ys) n ≡ count_before plan script xs n
  before_more xs ys zero h = refl
  before_more xs ys (suc n) h =
      ap (λ (l : List Answer). cond (is_between l) (suc n) (count_before plan script (xs ++ ys) n)) (take-append-le (suc n) xs ys h)
      ∙ ap (λ (m : ℕ). cond (is_between (take (suc n) xs)) (suc n) m) (before_more xs ys n (omega (arith, h)))

  -- in a service they are those before the last answer
  pub before_now : (xs : List Answer) (n : ℕ) → length xs ≡ suc n → is_between xs ≡ false → count_before plan script xs (length xs) ≡ count_before plan script xs n
  before_now xs n long inside =
      ap (count_before plan script xs) long
      ∙ ap (λ (l : List Answer). cond (is_between l) (suc n) (count_before plan script xs n)) (take_whole xs (suc n) long)
      ∙ ap (λ (c : Bool). cond c (suc n) (count_before plan script xs n)) inside

  -- and at a graded-L operation all
  pub before_all : (xs ys : List Answer) (n : ℕ) → length xs ≡ n → is_between xs ≡ true → count_before plan script (xs ++ ys) n ≡ n
  before_all xs ys zero long between = refl
  before_all xs ys (suc n) long between =
      ap (λ (l : List Answer). cond (is_between l) (suc n) (count_before plan script (xs ++ ys) n)) (take-append-le (suc n) xs ys (omega (arith, long)) ∙ take_whole xs (suc n) long)
      ∙ ap (λ (c : Bool). cond c (suc n) (count_before plan script (xs ++ ys) n)) between

  abbrev pub IsBetween : List Answer → Type 0
  IsBetween xs = (length xs ≡ 0) ⊎ (is_between xs ≡ true)

  reaches_by : (xs : List Answer) (n k : ℕ) (c : Bool) → is_between (take (suc n) xs) ≡ c → k ≤ suc n → (k ≡ 0) ⊎ (is_between (take k xs) ≡ true) → (k ≤ n → k ≤ count_before plan script xs n)
      → k ≤ cond c (suc n) (count_before plan script xs n)
  reaches_by xs n k true is few at below = few
  reaches_by xs n k false is few (inl e) below = omega (arith, e)
  reaches_by xs n k false is few (inr e) below =
      elim (cases_lt n k) [
        | inl last ↦
            let same : k ≡ suc n = omega (arith, last, few) in
            let no : true ≡ false = sym e ∙ ap (λ (j : ℕ). is_between (take j xs)) same ∙ is in
            absurd cc
        | inr less ↦ below less
      ]

  -- no fewer than those after which the run was at one
  reaches : (xs : List Answer) (n k : ℕ) → k ≤ n → (k ≡ 0) ⊎ (is_between (take k xs) ≡ true) → k ≤ count_before plan script xs n
  reaches xs zero k few at = few
  reaches xs (suc n) k few at = reaches_by xs n k (is_between (take (suc n) xs)) refl few at (λ less. reaches xs n k less at)

  is_by : (xs : List Answer) (n : ℕ) (c : Bool) → is_between (take (suc n) xs) ≡ c → (count_before plan script xs n ≡ 0) ⊎ (is_between (take (count_before plan script xs n) xs) ≡ true)
      → (cond c (suc n) (count_before plan script xs n) ≡ 0) ⊎ (is_between (take (cond c (suc n) (count_before plan script xs n)) xs) ≡ true)
  is_by xs n true is below = inr is
  is_by xs n false is below = below

  is_at : (xs : List Answer) (n : ℕ) → (count_before plan script xs n ≡ 0) ⊎ (is_between (take (count_before plan script xs n) xs) ≡ true)
  is_at xs zero = inl refl
  is_at xs (suc n) = is_by xs n (is_between (take (suc n) xs)) refl (is_at xs n)

  most_by : (xs : List Answer) (n : ℕ) (c : Bool) → count_before plan script xs n ≤ n → cond c (suc n) (count_before plan script xs n) ≤ suc n
  most_by xs n true h = omega arith
  most_by xs n false h = omega (arith, h)

  pub most : (xs : List Answer) (n : ℕ) → count_before plan script xs n ≤ n
  most xs zero = omega arith
  most xs (suc n) = most_by xs n (is_between (take (suc n) xs)) (most xs n)

  -- the answers before the service in progress are at a graded-L operation
  pub service_between : (xs : List Answer) → IsBetween (before_service plan script xs)
  service_between xs = by (is_at xs (length xs))
    where
      by : (count_before plan script xs (length xs) ≡ 0) ⊎ (is_between (before_service plan script xs) ≡ true) → IsBetween (before_service plan script xs)
      by (inl e) = inl (ap (λ (k : ℕ). length (take k xs)) e)
      by (inr e) = inr e

  take_within : (k : ℕ) (xs ys : List Answer) → length xs ≤ k → (zs : List Answer) × (take k (xs ++ ys) ≡ xs ++ zs)
  take_within k xs ys h =
      let n : ℕ = k - length xs in
      let same : k ≡ length xs + n = omega (arith, h) in
      (take n ys, ap (λ (j : ℕ). take j (xs ++ ys)) same ∙ take-append-add xs ys n)

  from_here : (xs ys : List Answer) → IsBetween xs → (length xs ≡ 0) ⊎ (is_between (take (length xs) (xs ++ ys)) ≡ true)
  from_here xs ys (inl e) = inl e
  from_here xs ys (inr e) = inr (ap is_between (take-append_seam xs ys) ∙ e)

  -- and begin with each at which the run was at one
  pub service_begins : (xs ys : List Answer) → IsBetween xs → (zs : List Answer) × (before_service plan script (xs ++ ys) ≡ xs ++ zs)
  service_begins xs ys at =
      take_within (count_before plan script (xs ++ ys) (length (xs ++ ys))) xs ys
      (reaches (xs ++ ys) (length (xs ++ ys)) (length xs) (omega (arith, length-append xs ys)) (from_here xs ys at))

  -- Lines one after another.
  module _ (t : Telling) where
    pub counted-append : (c : Counted) (xs ys : List Given) → counted_from t plan script c (xs ++ ys) ≡ counted_from t plan script (counted_from t plan script c xs) ys
    counted-append c [] ys = refl
    counted-append c (x ∷ xs) ys = counted-append (then_given t plan script c x) xs ys

    same_tail : (x : Given) (r : Reading) (xs : List Given) → with_given x r ≡ only (x ∷ xs) → r ≡ only xs
    same_tail x r xs e =
        ap (λ (g : List Given). record { given = g; fault = r.fault }) (ap (λ (w : Reading). drop 1 w.given) e)
        ∙ ap (λ (f : Option AnswerFault). record { given = xs; fault = f }) (ap (λ (w : Reading). w.fault) e)

    heeded_step : (b : Bool) (x : Given) (xs : List Given) (rest whole tail : Reading) (f : Option AnswerFault) → cond b (with_given x rest) (no_more f) ≡ only (x ∷ xs)
        → (rest ≡ only xs → whole ≡ with_taken xs tail) → cond b (with_given x whole) (no_more f) ≡ with_taken (x ∷ xs) tail
    heeded_step true x xs rest whole tail f e h = ap (with_given x) (h (same_tail x rest xs e))
    heeded_step false x xs rest whole tail f e h = absurd (omega (arith, ap (λ (w : Reading). length w.given) e))

    -- what a run takes of lines that it takes, and of more
    pub are_heeded : (c : Counted) (n : ℕ) (xs gs : List Given) (f : Option AnswerFault) → taken_from t plan script c n xs None ≡ only xs
        → taken_from t plan script c n (xs ++ gs) f ≡ with_taken xs (taken_from t plan script (counted_from t plan script c xs) (n + length xs) gs f)
    are_heeded c n [] gs f h =
        let same : n ≡ n + 0 = omega arith in
        ap (λ (k : ℕ). taken_from t plan script c k gs f) same
    are_heeded c n (x ∷ xs) gs f h =
        let then' : Counted = then_given t plan script c x in
        let last : Counted = counted_from t plan script then' xs in
        let same : (n + 1) + length xs ≡ n + length (x ∷ xs) = omega arith in
        heeded_step (takes plan script c x) x xs (taken_from t plan script then' (n + 1) xs None) (taken_from t plan script then' (n + 1) (xs ++ gs) f) (taken_from t plan script last (n + length (x ∷ xs)) gs f) (Some (broken LineShape (n + 1))) h
        (λ e. are_heeded then' (n + 1) xs gs f e ∙ ap (λ (k : ℕ). with_taken xs (taken_from t plan script last k gs f)) same)

    pub heeded_here : (xs gs : List Given) (f : Option AnswerFault) → taken_of t plan script (only xs) ≡ only xs
        → taken_of t plan script (record { given = xs ++ gs; fault = f }) ≡ with_taken xs (taken_from t plan script (counted t plan script xs) (length xs) gs f)
    heeded_here xs gs f h =
        let same : 0 + length xs ≡ length xs = omega arith in
        are_heeded none_counted 0 xs gs f h ∙ ap (λ (k : ℕ). with_taken xs (taken_from t plan script (counted t plan script xs) k gs f)) same

    -- one more that it takes
    pub takes_more : (xs : List Given) (g : Given) → taken_of t plan script (only xs) ≡ only xs → takes plan script (counted t plan script xs) g ≡ true → taken_of t plan script (only (xs ++ g ∷ [])) ≡ only (xs ++ g ∷ [])
    takes_more xs g h is =
        heeded_here xs (g ∷ []) None h
        ∙ ap (λ (b : Bool). with_taken xs (cond b (with_given g (no_more None)) (no_more (Some (broken LineShape (length xs + 1)))))) is

    -- a line that it does not take ends what it takes
    pub takes_no_more : (xs gs : List Given) (g : Given) (f : Option AnswerFault) → taken_of t plan script (only xs) ≡ only xs → takes plan script (counted t plan script xs) g ≡ false
        → taken_of t plan script (record { given = xs ++ g ∷ gs; fault = f }) ≡ record { given = xs; fault = Some (broken LineShape (length xs + 1)) }
    takes_no_more xs gs g f h is =
        let rest : Reading = taken_from t plan script (then_given t plan script (counted t plan script xs) g) (length xs + 1) gs f in
        heeded_here xs (g ∷ gs) f h
        ∙ ap (λ (b : Bool). with_taken xs (cond b (with_given g rest) (no_more (Some (broken LineShape (length xs + 1)))))) is
        ∙ ap (λ (l : List Given). record { given = l; fault = Some (broken LineShape (length xs + 1)) }) (append-nil xs)

    cut_step : (b : Bool) (c : Counted) (r : Reading) (f : Option AnswerFault) → b ≡ false
        → (more : List Answer) × (counted_from t plan script c (cond b (with_given gives.Abandon r) (no_more f)).given ≡ record c { answers = c.answers ++ more })
    cut_step true c r f is = absurd (cc)
    cut_step false c r f is = ([], ap (λ (l : List Answer). record c { answers = l }) (sym (append-nil c.answers)))

    -- beyond a wait that is not permitted there are only answers, which change nothing
    pub cut_stopped : (c : Counted) (n : ℕ) (gs : List Given) (f : Option AnswerFault) (k w : ℕ) → ((more : List Answer) → stop_of (the_run plan script (c.answers ++ more)) ≡ Some (overrun k w))
        → (more : List Answer) × (counted_from t plan script c (taken_from t plan script c n gs f).given ≡ record c { answers = c.answers ++ more })
    cut_stopped c n [] f k w stops = ([], ap (λ (l : List Answer). record c { answers = l }) (sym (append-nil c.answers)))
    cut_stopped c n (gives.Answer a ∷ gs) f k w stops =
        let then' : Counted = record c { answers = c.answers ++ a ∷ [] } in
        let more' = cut_stopped then' (n + 1) gs f k w (λ more. ap (λ (l : List Answer). stop_of (the_run plan script l)) (append_assoc c.answers (a ∷ []) more) ∙ stops (a ∷ more)) in
        (a ∷ more'.0, more'.1 ∙ ap (λ (l : List Answer). record c { answers = l }) (append_assoc c.answers (a ∷ []) more'.0))
    cut_stopped c n (gives.Abandon ∷ gs) f k w stops =
        let here : stop_of (the_run plan script c.answers) ≡ Some (overrun k w) = ap (λ (l : List Answer). stop_of (the_run plan script l)) (sym (append-nil c.answers)) ∙ stops [] in
        cut_step (takes plan script c gives.Abandon) c (taken_from t plan script (then_given t plan script c gives.Abandon) (n + 1) gs f) (Some (broken LineShape (n + 1))) (ap is_inside here)

    -- Answers alone all count.
    pub answers_counted : (c : Counted) (answers : List Answer) → counted_from t plan script c (map gives.Answer answers) ≡ record c { answers = c.answers ++ answers }
    answers_counted c [] = ap (λ (l : List Answer). record c { answers = l }) (sym (append-nil c.answers))
    answers_counted c (a ∷ answers) =
        answers_counted (record c { answers = c.answers ++ a ∷ [] }) answers ∙ ap (λ (l : List Answer). record c { answers = l }) (append_assoc c.answers (a ∷ []) answers)

    pub answers_taken : (c : Counted) (n : ℕ) (answers : List Answer) (f : Option AnswerFault) → taken_from t plan script c n (map gives.Answer answers) f ≡ record { given = map gives.Answer answers; fault = f }
    answers_taken c n [] f = refl
    answers_taken c n (a ∷ answers) f = ap (with_given (gives.Answer a)) (answers_taken (record c { answers = c.answers ++ a ∷ [] }) (n + 1) answers f)

    -- what counts rests on what counted
    same_count : (c d : Counted) (gs : List Given) → c.answers ≡ d.answers → (counted_from t plan script c gs).answers ≡ (counted_from t plan script d gs).answers
    same_count c d [] e = e
    same_count c d (gives.Answer a ∷ gs) e = same_count (then_given t plan script c (gives.Answer a)) (then_given t plan script d (gives.Answer a)) gs (ap (λ (l : List Answer). l ++ a ∷ []) e)
    same_count c d (gives.Abandon ∷ gs) e = same_count (then_given t plan script c gives.Abandon) (then_given t plan script d gives.Abandon) gs (ap (before_service plan script) e)

  -- a service that is left
  module _ (xs since : List Answer) (s : IsServing plan script xs since) where
    serving : (n : ℕ) → n ≤ length since → count_before plan script (xs ++ since) (length xs + n) ≡ length xs
    serving zero h =
        let same : length xs + 0 ≡ length xs = omega arith in
        ap (count_before plan script (xs ++ since)) same ∙ before_all xs since (length xs) refl (ap (λ (o : Option Stop). is_none o) s.before)
    serving (suc n) h =
        let next : length xs + suc n ≡ suc (length xs + n) = omega arith in
        let one : suc n ≡ n + 1 = omega arith in
        let inside : is_between (take (length xs + suc n) (xs ++ since)) ≡ false =
        ap is_between (take-append-add xs since (suc n) ∙ ap (λ (k : ℕ). xs ++ take k since) one) ∙ ap (λ (o : Option Stop). is_none o) (s.inside n (omega (arith, h))) in
        ap (count_before plan script (xs ++ since)) next
        ∙ ap (λ (c : Bool). cond c (suc (length xs + n)) (count_before plan script (xs ++ since) (length xs + n)))
        (ap (λ (k : ℕ). is_between (take k (xs ++ since))) (sym next) ∙ inside)
        ∙ serving n (omega (arith, h))

    left_answers : before_service plan script (xs ++ since) ≡ xs
    left_answers =
        ap (λ (k : ℕ). take k (xs ++ since)) (ap (count_before plan script (xs ++ since)) (length-append xs since) ∙ serving (length since) (omega arith))
        ∙ take-append_seam xs since

-- A text with no line `abandon`.
abbrev AreAnswers : List Given → Type 0
AreAnswers gs = (answers : List Answer) × (gs ≡ map gives.Answer answers)

line_answers : (limit n : ℕ) (c d : Bool) (r : Result Answer AnswerRule) (rest : Reading) → d ≡ false → AreAnswers rest.given
    → AreAnswers (cond c (no_more (Some (broken TooMany (limit + 1)))) (with_line n (cond d (Ok gives.Abandon) (as_given r)) rest)).given
line_answers limit n true d r rest is more = ([], refl)
line_answers limit n false true r rest is more = absurd (cc)
line_answers limit n false false (Ok a) rest is more = (a ∷ more.0, ap (λ (l : List Given). gives.Answer a ∷ l) more.1)
line_answers limit n false false (Err rule) rest is more = ([], refl)

lines_answers : (limit n : ℕ) (ls : List (List ℕ)) → All (λ line. is_abandon line ≡ false) ls → AreAnswers (reading_from limit n ls).given
lines_answers limit n [] all = ([], refl)
lines_answers limit n (l ∷ ls) all = line_answers limit n (nat_le limit n) (is_abandon l) (line_answer l) (reading_from limit (n + 1) ls) (All-head (λ line. is_abandon line ≡ false) l ls all) (lines_answers limit (n + 1) ls (All-tail (λ line. is_abandon line ≡ false) l ls all))

pub texts_give_answers : TextsGiveAnswers
texts_give_answers limit text all = lines_answers limit 0 (lines text) all

pub answers_count : AnswersCount
answers_count t plan script answers fault = (answers_taken plan script t none_counted 0 answers fault, answers_counted plan script t none_counted answers)

pub services_are_left : ServicesAreLeft
services_are_left t plan script answers since gs serving =
    let all : List Given = map gives.Answer (answers ++ since) in
    let few : List Given = map gives.Answer answers in
    ap (λ (c : Counted). c.answers) (counted-append plan script t none_counted all (gives.Abandon ∷ gs))
    ∙ ap (λ (c : Counted). (counted_from t plan script c (gives.Abandon ∷ gs)).answers) (answers_counted plan script t none_counted (answers ++ since))
    ∙ same_count plan script t (then_given t plan script (record none_counted { answers = answers ++ since }) gives.Abandon) (record none_counted { answers = answers }) gs
    (left_answers plan script answers since serving)
    ∙ ap (λ (c : Counted). (counted_from t plan script c gs).answers) (sym (answers_counted plan script t none_counted answers))
    ∙ ap (λ (c : Counted). c.answers) (sym (counted-append plan script t none_counted few gs))
