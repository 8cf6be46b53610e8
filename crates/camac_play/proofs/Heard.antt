-- What a run takes of a text of answers, a line at a time.
use Rattle.std.proofs.Common.{◌≡◌, ℕ, ◌+◌, List, [], ◌∷◌, ◌++◌, length, Option, Some, None, refl, sym, ap, subst, ◌∙◌, append_assoc, append-nil, length-append, arith, Bool, true, false}
use Rattle.std.specs.Prelude.{unwrap_or, Ok, Err}
use Rattle.camac_branch.specs.Branch.{Answer}
use Rattle.camac_branch.specs.Plan.{Layout}
use Rattle.camac_lang.specs.Tree.{Script}
use Rattle.camac_answer.specs.Answers.{left_in, IsNext}
use Rattle.camac_answer.specs.Reading.{Reading, Answered, no_more, with_given, broken}
use Rattle.camac_answer.specs.declared.fault.AnswerFault.{AnswerFault}
use Rattle.camac_answer.specs.declared.fault.AnswerRule.TheVariants.{LineShape}
use Rattle.camac_answer.specs.declared.given.Given.{Given}
use Rattle.camac_answer.specs.declared.given.Given.TheVariants as gives
use Rattle.camac_play.specs.Told.{most_answers, counted, takes, taken_from, taken_of}
use Rattle.camac_play.specs.declared.telling.Telling.{Telling}
use Rattle.camac_play.specs.Play.{heard, IsHeard, Gives, GivesFirst, with_taken, only, HasGiven, HasRead}
use Rattle.camac_play.proofs.Counting.{heeded_here, takes_more, takes_no_more}

-- What a text of answers gave so far.

module _ (t : Telling) (plan : Layout) (script : Script) where
  pub given_none : (left : Option Reading) → HasGiven t plan script left left []
  given_none left whole e = (whole, e, refl, refl)

  -- what a run takes of the whole text
  taken_all : (whole r : Reading) (taken : List Given) → whole ≡ with_taken taken r → taken_of t plan script (only taken) ≡ only taken
      → taken_of t plan script whole ≡ with_taken taken (taken_from t plan script (counted t plan script taken) (length taken) r.given r.fault)
  taken_all whole r taken e heeds = ap (taken_of t plan script) e ∙ heeded_here plan script t taken r.given r.fault heeds

  module _ (left now new : Option Reading) (taken : List Given) (h : HasGiven t plan script left now taken) where
    pub given_next : (g : Given) → takes plan script (counted t plan script taken) g ≡ true → IsNext now (Ok (Some g)) new → HasGiven t plan script left new (taken ++ g ∷ [])
    given_next g is s whole e =
        let had = h whole e in
        let n : (rest : Reading) × (had.0 ≡ with_given g rest) × (new ≡ Some rest) = rw had.1 at s in (
          n.0,
          n.2,
          had.2 ∙ ap (with_taken taken) n.1 ∙ ap (λ (l : List Given). record n.0 { given = l }) (sym (append_assoc taken (g ∷ []) n.0.given)),
          takes_more plan script t taken g had.3 is,
        )

    all_given : (f : Option AnswerFault) → ((r : Reading) → now ≡ Some r → r ≡ no_more f) → Gives t plan script left (record { given = taken; fault = f })
    all_given f last whole e =
        let had = h whole e in
        taken_all whole had.0 taken had.2 had.3
        ∙ ap (λ (r : Reading). with_taken taken (taken_from t plan script (counted t plan script taken) (length taken) r.given r.fault)) (last had.0 had.1)
        ∙ ap (λ (l : List Given). record { given = l; fault = f }) (append-nil taken)

    pub given_end : IsNext now (Ok None) new → Gives t plan script left (record { given = taken; fault = None })
    given_end s = all_given None (λ r e. rw e at s)

    given_fault : (f : AnswerFault) → IsNext now (Err f) new → Gives t plan script left (record { given = taken; fault = Some f })
    given_fault f s = all_given (Some f) (λ r e. rw e at s)

    -- a line that is not taken
    given_refused : (g : Given) → takes plan script (counted t plan script taken) g ≡ false → IsNext now (Ok (Some g)) new
        → Gives t plan script left (record { given = taken; fault = Some (broken LineShape (length taken + 1)) })
    given_refused g is s whole e =
        let had = h whole e in
        let n : (rest : Reading) × (had.0 ≡ with_given g rest) × (new ≡ Some rest) = rw had.1 at s in
        ap (taken_of t plan script) (had.2 ∙ ap (with_taken taken) n.1) ∙ takes_no_more plan script t taken n.0.given g n.0.fault had.3 is

    -- the fault that is heard
    pub given_broken : (inside : Bool) (n : ℕ) (f : AnswerFault) → n ≡ length taken → (inside ≡ false → takes plan script (counted t plan script taken) gives.Abandon ≡ false)
        → IsHeard inside n now (Err f) new → Gives t plan script left (record { given = taken; fault = Some f })
    given_broken inside n f same outside (Err e, s, is) =
        let this : f ≡ e = fault_is inside is in
        subst (λ (x : AnswerFault). Gives t plan script left (record { given = taken; fault = Some x })) (sym this) (given_fault e s)
      where
        fault_is : (b : Bool) → Err f ≡ heard b n (Err e) → f ≡ e
        fault_is true h' = cc
        fault_is false h' = cc
    given_broken true n f same outside (Ok r, s, is) = absurd (cc)
    given_broken false n f same outside (Ok None, s, is) = absurd (cc)
    given_broken false n f same outside (Ok (Some (gives.Answer a)), s, is) = absurd (cc)
    given_broken false n f same outside (Ok (Some gives.Abandon), s, is) =
        let this : f ≡ broken LineShape (n + 1) = cc in
        let here : f ≡ broken LineShape (length taken + 1) = this ∙ ap (λ (k : ℕ). broken LineShape (k + 1)) same in
        subst (λ (x : AnswerFault). Gives t plan script left (record { given = taken; fault = Some x })) (sym here) (given_refused gives.Abandon (outside refl) s)

  -- what is left, or nothing where that is not known
  abbrev pub known : Option Reading → Reading
  known now = unwrap_or now (no_more None)

  -- what a run takes of that
  abbrev pub known_taken : Option Reading → List Given → Reading
  known_taken now taken = taken_from t plan script (counted t plan script taken) (length taken) (known now).given (known now).fault

  pub given_all : (left now : Option Reading) (taken : List Given) → HasGiven t plan script left now taken → Gives t plan script left (with_taken taken (known_taken now taken))
  given_all left now taken h whole e =
      let had = h whole e in
      taken_all whole had.0 taken had.2 had.3 ∙ ap (λ (o : Option Reading). with_taken taken (known_taken o taken)) (sym had.1)

  pub given_first : (left now : Option Reading) (taken : List Given) → HasGiven t plan script left now taken → GivesFirst t plan script left taken
  given_first left now taken h whole e =
      let had = h whole e in
      let rest : Reading = taken_from t plan script (counted t plan script taken) (length taken) had.0.given had.0.fault in
      (rest.given, ap (λ (w : Reading). w.given) (taken_all whole had.0 taken had.2 had.3))

  pub has_read : (left now : Option Reading) (text : Option (List ℕ)) (taken : List Given) → HasGiven t plan script left now taken → now ≡ left_in (most_answers t) (length taken) text → HasRead t plan script left text taken
  has_read left now text taken h same = subst (λ (n : Option Reading). HasGiven t plan script left n taken) same h

-- What was heard, by what it is.
pub heard_end : (inside : Bool) (n : ℕ) (left now : Option Reading) → IsHeard inside n left (Ok None) now → IsNext left (Ok None) now
heard_end inside n left now (read, s, is) = subst (λ (r : Answered). IsNext left r now) (by inside read is) s
  where
    by : (b : Bool) (r : Answered) → Ok None ≡ heard b n r → r ≡ Ok None
    by true r h = sym h
    by false (Ok None) h = refl
    by false (Ok (Some (gives.Answer a))) h = absurd cc
    by false (Ok (Some gives.Abandon)) h = absurd cc
    by false (Err e) h = absurd cc

abbrev given_in : Given → Answered → Given
given_in other (Ok (Some g)) = g
given_in other _ = other

no_answer_abandons : (a : Answer) → gives.Answer a ≡ gives.Abandon → ⊥
no_answer_abandons a e = absurd cc

pub heard_given : (inside : Bool) (n : ℕ) (left now : Option Reading) (g : Given) → IsHeard inside n left (Ok (Some g)) now → IsNext left (Ok (Some g)) now × (g ≡ gives.Abandon → inside ≡ true)
heard_given inside n left now g (read, s, is) = (subst (λ (r : Answered). IsNext left r now) (by inside read is).0 s, (by inside read is).1)
  where
    by : (b : Bool) (r : Answered) → Ok (Some g) ≡ heard b n r → (r ≡ Ok (Some g)) × (g ≡ gives.Abandon → b ≡ true)
    by true r h = (sym h, λ e. refl)
    by false (Ok None) h = absurd cc
    by false (Ok (Some (gives.Answer a))) h = (sym h, λ e. absurd (no_answer_abandons a (sym (ap (given_in g) h) ∙ e)))
    by false (Ok (Some gives.Abandon)) h = absurd cc
    by false (Err e) h = absurd cc

pub one_more : (n m : ℕ) (taken : List Given) (g : Given) → m ≡ n + 1 → n ≡ length taken → m ≡ length (taken ++ g ∷ [])
one_more n m taken g e f = let l = length-append taken (g ∷ []) in omega (arith, e, f, l)

pub left_at : (m k n : ℕ) (x y : Option (List ℕ)) → k ≡ n → y ≡ x → left_in m k x ≡ left_in m n y
left_at m k n x y a b = ap (λ (j : ℕ). left_in m j x) a ∙ ap (λ (t : Option (List ℕ)). left_in m n t) (sym b)

-- of the same limit, text and result
pub next_is : (inside : Bool) (limit m n : ℕ) (x y z : Option (List ℕ)) (r s : Answered) → limit ≡ m → x ≡ y → r ≡ s → IsHeard inside n (left_in limit n x) r (left_in limit (n + 1) z) → IsHeard inside n (left_in m n y) s (left_in m (n + 1) z)
next_is inside limit m n x y z r s a b c h =
    subst (λ (q : Answered). IsHeard inside n (left_in m n y) q (left_in m (n + 1) z)) c (subst (λ (t : Option (List ℕ)). IsHeard inside n (left_in m n t) r (left_in m (n + 1) z)) b
    (subst (λ (l : ℕ). IsHeard inside n (left_in l n x) r (left_in l (n + 1) z)) a h))
