-- What holds of the lines that are told beside a rule.
use Rattle.std.proofs.Common.{◌≡◌, ◌⊎◌, inl, inr, ℕ, Bool, true, false, List, [], ◌∷◌, Option, Some, None, refl, ap, ◌≤◌, arith, length, ◌++◌, append_assoc, ◌∙◌}
use Rattle.std.specs.Prelude.{◌&&◌, ◌||◌, nat_lt, unwrap_or, if◌then◌else◌, codes, decimal}
use Rattle.std.specs.List.{concat}
use Rattle.camac_tokens.specs.declared.token.Token.{Token}
use Rattle.camac_explain_case.specs.Case.{last_set, sets, case_lines, places_text, SetsAreBefore, SetsLast, WaitsAreOfThePlan}
use Rattle.camac_explain_case.specs.declared.case.TheConstants.{WAITS}

none_of_two : (a b : Bool) → a ≡ false → b ≡ false → (a || b) ≡ false
none_of_two true b h g = h
none_of_two false b h g = g

nothing_if : (test : Bool) (text : List ℕ) → test ≡ false → (if test then text else []) ≡ []
nothing_if true text h = absurd (cc h)
nothing_if false text h = refl

pub waits_are_of_the_plan : WaitsAreOfThePlan
unfolding case_lines
waits_are_of_the_plan plan text s case none =
    let no = λ (c : ℕ). ap (nat_lt 0) (none c) in
    nothing_if _ WAITS.now
    (none_of_two _ _ (no 1) (none_of_two _ _ (no 2) (none_of_two _ _ (no 3) (none_of_two _ _ (no 4) (none_of_two _ _ (no 5) (none_of_two _ _ (no 6) (no 7)))))))

-- the line is the one before all, and none sets the register; or one of the tokens sets it
abbrev Kept : (left : ℕ) → (register : List ℕ) → Option ℕ → (line : ℕ) → List Token → Type 0
Kept left register o line ts = ((o ≡ Some line) × (last_set left register None ts ≡ None)) ⊎ SetsLast left register line ts

module _ (left : ℕ) (register : List ℕ) (o : Option ℕ) (line : ℕ) (t : Token) (ts : List Token) where
  set_here : nat_lt left t.spot.left ≡ true → sets register t.kind ts ≡ true → Kept left register (Some t.spot.line) line ts → SetsLast left register line (t ∷ ts)
  set_here before is (inl (e, n)) = inl (before, is, ap (λ l. unwrap_or l 0) e, n)
  set_here before is (inr s) = inr s

  set_later : Kept left register o line ts → ((o ≡ Some line) × (last_set left register None ts ≡ None)) ⊎ SetsLast left register line (t ∷ ts)
  set_later (inl k) = inl k
  set_later (inr s) = inr (inr s)

  one_more : (a b : Bool) → nat_lt left t.spot.left ≡ a → sets register t.kind ts ≡ b
      → (last_set left register (Some t.spot.line) ts ≡ Some line → Kept left register (Some t.spot.line) line ts)
      → (last_set left register o ts ≡ Some line → Kept left register o line ts)
      → last_set left register (if a && b then Some t.spot.line else o) ts ≡ Some line
      → ((o ≡ Some line) × (last_set left register (if a && b then Some t.spot.line else None) ts ≡ None)) ⊎ SetsLast left register line (t ∷ ts)
  one_more true true before is here later h = inr (set_here before is (here h))
  one_more true false before is here later h = set_later (later h)
  one_more false b before is here later h = set_later (later h)

kept : (left : ℕ) (register : List ℕ) (o : Option ℕ) (line : ℕ) (ts : List Token) → last_set left register o ts ≡ Some line → Kept left register o line ts
kept left register o line [] h = inl (h, refl)
kept left register o line (t ∷ ts) h =
    one_more left register o line t ts (nat_lt left t.spot.left) (sets register t.kind ts) refl refl (kept left register (Some t.spot.line) line ts)
    (kept left register o line ts) h

of_none : (left : ℕ) (register : List ℕ) (line : ℕ) (ts : List Token) → Kept left register None line ts → SetsLast left register line ts
of_none left register line ts (inl (e, n)) = absurd (cc e)
of_none left register line ts (inr s) = s

pub sets_are_before : SetsAreBefore
sets_are_before left register ts line h = of_none left register line ts (kept left register None line ts h)

pub pushed : (lines l1 l2 l3 head places : List ℕ) (f : ℕ) → 1 ≤ length places → head ≡ concat (codes "Plan: F" ∷ decimal f ∷ codes " is at" ∷ [])
    → l1 ≡ lines ++ head → l2 ≡ l1 ++ places → l3 ≡ l2 ++ codes ".\n" → l3 ≡ lines ++ places_text f places
pushed lines l1 l2 l3 head [] f some is e1 e2 e3 = absurd (omega (arith, some))
pushed lines l1 l2 l3 head (b ∷ bs) f some is e1 e2 e3 =
    let begin = concat (codes "Plan: F" ∷ decimal f ∷ codes " is at" ∷ []) in
    e3 ∙ ap (λ l. l ++ codes ".\n") (e2 ∙ ap (λ l. l ++ (b ∷ bs)) (e1 ∙ ap (λ h. lines ++ h) is) ∙ append_assoc lines begin (b ∷ bs))
    ∙ append_assoc lines (begin ++ (b ∷ bs)) (codes ".\n")
