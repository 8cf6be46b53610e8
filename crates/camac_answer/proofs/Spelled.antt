-- What spells an answer has no LF in it.
use Rattle.std.proofs.Common.{◌≡◌, ℕ, zero, suc, ◌^◌, ◌<◌, Bool, true, false, not, ◌==◌, cond, List, [], ◌∷◌, ◌++◌, length, take, slice_index, subst, Result, Ok, Err, refl, sym, ap, ◌∙◌, arith, ◌⊎◌, inl, inr, length-take-le}
use Rattle.std.proofs.lemmas.Bool.{cases_eq, ne_eqb, eqb-true, and_parts}
use Rattle.std.proofs.lemmas.List.Sums.{take_while-cons}
use Rattle.camac_branch.specs.Branch.{Answer}
use Rattle.camac_answer.specs.declared.fault.AnswerRule.{AnswerRule}
use Rattle.camac_answer.specs.declared.fault.AnswerRule.TheVariants.{LineShape, BadDigit}
use Rattle.camac_answer.specs.Lines.{has_shape, is_inside, first_line, IsJudged, bit_at, word_at, wait_at, digit_number, fields_after, fields_answer, line_answer, as_given, line_given, is_abandon, ◌>>=◌}
use Rattle.camac_answer.specs.declared.given.Given.TheVariants as gives
use Rattle.camac_answer.proofs.Digits.{listed, word_small}
use Rattle.camac_answer.proofs.Readings.{answer_long, no_answer}

abbrev AreInside : List ℕ → Type 0
AreInside [] = Unit {0}
AreInside (b ∷ line) = (is_inside b ≡ true) × AreInside line

-- a line that an LF ends
first_before : (line : List ℕ) → AreInside line → first_line (line ++ 10 ∷ []) ≡ line
first_before [] h = refl
first_before (b ∷ line) h =
    take_while-cons is_inside b (line ++ 10 ∷ []) ∙ ap (λ (c : Bool). cond c (b ∷ first_line (line ++ 10 ∷ [])) []) h.0
    ∙ ap (λ (l : List ℕ). b ∷ l) (first_before line h.1)

bind_ok : {A B : Type 0} (r : Result A AnswerRule) (f : A → Result B AnswerRule) (y : B) → (r >>= f) ≡ Ok y → (x : A) × (r ≡ Ok x) × (f x ≡ Ok y)
bind_ok (Ok x) f y h = (x, refl, h)
bind_ok (Err e) f y h = absurd cc

-- another byte than an LF
other : (b : ℕ) → (b ≡ 10 → ⊥) → is_inside b ≡ true
other b h = ap not (ne_eqb b 10 h)

not_bit : (x : Bool) → bit_at 10 ≡ Ok x → ⊥
not_bit x h = cc h

not_wait : (w : ℕ) → wait_at 10 ≡ Ok w → ⊥
not_wait w h = cc h

not_digit : (unit : ℕ) → digit_number unit 10 < 2 ^ 24 → ⊥
not_digit unit h = omega (arith, h)

of_bit : (b : ℕ) (x : Bool) → bit_at b ≡ Ok x → is_inside b ≡ true
of_bit b x h = other b (λ e. not_bit x (ap bit_at (sym e) ∙ h))

of_wait : (b w : ℕ) → wait_at b ≡ Ok w → is_inside b ≡ true
of_wait b w h = other b (λ e. not_wait w (ap wait_at (sym e) ∙ h))

of_space : (b : ℕ) → (b == 32) ≡ true → is_inside b ≡ true
of_space b h = let e = eqb-true b 32 h in other b (λ lf. omega (arith, e, lf))

of_digit : (unit b : ℕ) → digit_number unit b < 2 ^ 24 → is_inside b ≡ true
of_digit unit b h = other b (λ e. not_digit unit (subst (λ (x : ℕ). digit_number unit x < 2 ^ 24) e h))

of_word : (a b c d e f w : ℕ) → word_at (a ∷ b ∷ c ∷ d ∷ e ∷ f ∷ []) ≡ Ok w → AreInside (a ∷ b ∷ c ∷ d ∷ e ∷ f ∷ [])
of_word a b c d e f w h =
    let small = word_small a b c d e f w h in
    (of_digit 0x100000 a (omega (arith, small)), (of_digit 0x10000 b (omega (arith, small)), (of_digit 0x1000 c (omega (arith, small)), (of_digit 0x100 d (omega (arith, small)), (of_digit 0x10 e (omega (arith, small)), (of_digit 1 f (omega (arith, small)), tt))))))

is_shaped : (c : Bool) (r : Result Answer AnswerRule) (a : Answer) → cond c r (Err LineShape) ≡ Ok a → (c ≡ true) × (r ≡ Ok a)
is_shaped true r a e = (refl, e)
is_shaped false r a e = absurd cc

nineteen : (b0 b1 b2 b3 b4 b5 b6 b7 b8 b9 b10 b11 b12 b13 b14 b15 b16 b17 b18 : ℕ) (a : Answer)
    → line_answer (b0 ∷ b1 ∷ b2 ∷ b3 ∷ b4 ∷ b5 ∷ b6 ∷ b7 ∷ b8 ∷ b9 ∷ b10 ∷ b11 ∷ b12 ∷ b13 ∷ b14 ∷ b15 ∷ b16 ∷ b17 ∷ b18 ∷ []) ≡ Ok a
    → AreInside (b0 ∷ b1 ∷ b2 ∷ b3 ∷ b4 ∷ b5 ∷ b6 ∷ b7 ∷ b8 ∷ b9 ∷ b10 ∷ b11 ∷ b12 ∷ b13 ∷ b14 ∷ b15 ∷ b16 ∷ b17 ∷ b18 ∷ [])
unfolding fields_answer
nineteen b0 b1 b2 b3 b4 b5 b6 b7 b8 b9 b10 b11 b12 b13 b14 b15 b16 b17 b18 a h =
    let both = is_shaped _ _ a h in
    let s1 = and_parts (b1 == 32) _ both.0 in
    let s3 = and_parts (b3 == 32) _ s1.1 in
    let s10 = and_parts (b10 == 32) (b12 == 32) s3.1 in
    let x = bind_ok (bit_at b0) _ a both.1 in
    let q = bind_ok (bit_at b2) _ a x.2 in
    let word = bind_ok (word_at (b4 ∷ b5 ∷ b6 ∷ b7 ∷ b8 ∷ b9 ∷ [])) _ a q.2 in
    let wait = bind_ok (wait_at b11) _ a word.2 in
    let gl = bind_ok (word_at (b13 ∷ b14 ∷ b15 ∷ b16 ∷ b17 ∷ b18 ∷ [])) _ a wait.2 in
    let w = of_word b4 b5 b6 b7 b8 b9 word.0 word.1 in
    let g = of_word b13 b14 b15 b16 b17 b18 gl.0 gl.1 in
    (of_bit b0 x.0 x.1, (of_space b1 s1.0, (of_bit b2 q.0 q.1, (of_space b3 s3.0, (w.0, (w.1.0, (w.1.1.0, (w.1.1.1.0, (w.1.1.1.1.0, (w.1.1.1.1.1.0, (of_space b10 s10.0, (of_wait b11 wait.0 wait.1, (of_space b12 s10.1, g)))))))))))))

are_inside : (line : List ℕ) (a : Answer) → length line ≡ 19 → line_answer line ≡ Ok a → AreInside line
are_inside line a long h =
    let same = listed 19 line long in
    subst AreInside same (nineteen _ _ _ _ _ _ _ _ _ _ _ _ _ _ _ _ _ _ _ a (ap line_answer same ∙ h))

-- the bytes up to an LF that spell an answer are the first line
first_spelled : (bytes line : List ℕ) (a : Answer) → bytes ≡ line ++ 10 ∷ [] → length line ≡ 19 → line_answer line ≡ Ok a → line_answer (first_line bytes) ≡ Ok a
first_spelled bytes line a parts long h = ap (λ (l : List ℕ). line_answer (first_line l)) parts ∙ ap line_answer (first_before line (are_inside line a long h)) ∙ h

ends_with : (n : ℕ) (bytes : List ℕ) → length bytes ≡ suc n → bytes ≡ take n bytes ++ slice_index bytes n ∷ []
ends_with zero [] e = absurd (omega (arith, e))
ends_with zero (x ∷ []) e = refl
ends_with zero (x ∷ y ∷ ys) e = absurd (omega (arith, e))
ends_with (suc n) [] e = absurd (omega (arith, e))
ends_with (suc n) (x ∷ xs) e =
    let less : length xs ≡ suc n = omega (arith, e) in
    ap (λ (l : List ℕ). x ∷ l) (ends_with n xs less)

-- the same of the first nineteen of twenty bytes
nineteen_spelled : (bytes : List ℕ) (a : Answer) → length bytes ≡ 20 → slice_index bytes 19 ≡ 10 → line_answer (take 19 bytes) ≡ Ok a → line_answer (first_line bytes) ≡ Ok a
nineteen_spelled bytes a long lf h =
    let parts : bytes ≡ take 19 bytes ++ 10 ∷ [] = ends_with 19 bytes (omega (arith, long)) ∙ ap (λ (b : ℕ). take 19 bytes ++ b ∷ []) lf in
    first_spelled bytes (take 19 bytes) a parts (length-take-le 19 bytes (omega (arith, long))) h

-- the first line, by its length
pub first_taken : (bytes : List ℕ) → take (length (first_line bytes)) bytes ≡ first_line bytes
first_taken [] = refl
first_taken (b ∷ bs) = subst P (sym (take_while-cons is_inside b bs)) (by (is_inside b) (first_taken bs))
  where
    P : List ℕ → Type 0
    P line = take (length line) (b ∷ bs) ≡ line

    by : (c : Bool) → take (length (first_line bs)) bs ≡ first_line bs → P (cond c (b ∷ first_line bs) [])
    by true e = ap (λ (l : List ℕ). b ∷ l) e
    by false e = refl

-- the answer that the judged bytes spell is the first line's
pub spells_first : (bytes : List ℕ) (n : ℕ) (a : Answer) → IsJudged bytes n → Ok a ≡ line_answer (take n bytes) → Ok a ≡ line_answer (first_line bytes)
spells_first bytes n a (inl e) h = h ∙ ap line_answer (ap (λ (k : ℕ). take k bytes) e ∙ first_taken bytes)
spells_first bytes n a (inr e) h = sym (nineteen_spelled bytes a e.1 e.2 (ap (λ (k : ℕ). line_answer (take k bytes)) (sym e.0) ∙ sym h))

-- a line that spells X and Q
pub shaped_answer : (line : List ℕ) (x q : Bool) → has_shape line ≡ true → bit_at (slice_index line 0) ≡ Ok x → bit_at (slice_index line 2) ≡ Ok q → line_answer line ≡ fields_after x q line
unfolding fields_answer
shaped_answer line x q shape is_x is_q = rw (shape, is_x, is_q) refl

pub bit_case : (b : ℕ) → (b ≡ 48) ⊎ ((b ≡ 49) ⊎ (bit_at b ≡ Err BadDigit))
bit_case b =
    elim (cases_eq b 48) [
      | inl zero' ↦ inl zero'
      | inr more ↦
          elim (cases_eq b 49) [
            | inl one' ↦ inr (inl one')
            | inr other' ↦ inr (inr (rw (ne_eqb b 48 more, ne_eqb b 49 other') refl))
          ]
    ]

bad_field : (line : List ℕ) → (bit_at (slice_index line 0) ≡ Err BadDigit) ⊎ (bit_at (slice_index line 2) ≡ Err BadDigit) → fields_answer line ≡ Err BadDigit
unfolding fields_answer
bad_field line (inl e) = rw e refl
bad_field line (inr e) =
    elim (bit_case (slice_index line 0)) [
      | inl z ↦ rw (z, e) refl
      | inr (inl o) ↦ rw (o, e) refl
      | inr (inr bad) ↦ rw bad refl
    ]

unflagged_by : (line : List ℕ) (s : Bool) → has_shape line ≡ s → (s ≡ true → (bit_at (slice_index line 0) ≡ Err BadDigit) ⊎ (bit_at (slice_index line 2) ≡ Err BadDigit))
    → cond s (fields_answer line) (Err LineShape) ≡ Err (cond s BadDigit LineShape)
unflagged_by line true e h = bad_field line (h refl)
unflagged_by line false e h = refl

-- one that spells neither, or has another shape
pub unflagged : (line : List ℕ) → (has_shape line ≡ true → (bit_at (slice_index line 0) ≡ Err BadDigit) ⊎ (bit_at (slice_index line 2) ≡ Err BadDigit))
    → line_answer line ≡ Err (cond (has_shape line) BadDigit LineShape)
unflagged line h = unflagged_by line (has_shape line) refl h

-- What a line gives: an answer is no `abandon`.
pub given_answer : (line : List ℕ) (a : Answer) → line_answer line ≡ Ok a → Ok (gives.Answer a) ≡ line_given line
given_answer line a e =
    let long = answer_long line a e in
    sym (no_answer line (λ seven. omega (arith, long, seven)) ∙ ap as_given e)

pub given_abandon : (line : List ℕ) → true ≡ is_abandon line → Ok gives.Abandon ≡ line_given line
given_abandon line e = rw (← e) refl

pub given_rule : (line : List ℕ) (rule : AnswerRule) → line_answer line ≡ Err rule → false ≡ is_abandon line → Err rule ≡ line_given line
given_rule line rule e h = rw (← h, e) refl
