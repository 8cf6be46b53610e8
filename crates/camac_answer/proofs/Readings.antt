-- What is read of a text, a call at a time, and how much it gives.
use Rattle.std.proofs.Common.{◌≡◌, ℕ, ◌+◌, ◌≤◌, ◌<◌, Bool, true, false, ◌==◌, cond, nat_le, nat_lt, List, [], ◌∷◌, ◌++◌, length, drop, Option, Some, None, Result, Ok, Err, refl, sym, ap, subst, ◌∙◌, append-nil, length-append, drop_of_length-le, length-take-le, take, slice_index, arith, ◌⊎◌, inl, inr, zero, suc, not}
use Rattle.std.proofs.lemmas.Bool.{cases_lt, ne_eqb, eqb-true, and_parts, le-leb, lt-ltb, lt-leb}
use Rattle.std.proofs.lemmas.List.{drop_at, get_or-take}
use Rattle.std.proofs.lemmas.List.Sums.{take_while-cons}
use Rattle.std.specs.Io.KnownBytes.{Consumes, IsAtEnd}
use Rattle.camac_branch.specs.Branch.{Answer}
use Rattle.camac_answer.specs.declared.fault.AnswerRule.{AnswerRule}
use Rattle.camac_answer.specs.declared.fault.AnswerRule.TheVariants.{LineShape, TooMany}
use Rattle.camac_answer.specs.declared.given.Given.{Given}
use Rattle.camac_answer.specs.declared.given.Given.TheVariants as gives
use Rattle.camac_answer.specs.Lines.{lines, first_line, has_shape, fields_answer, line_answer, line_given, as_given, is_abandon, with_first, is_inside, IsNoMore}
use Rattle.camac_answer.specs.Reading.{Reading, Answered, broken, no_more, with_line, reading_from}
use Rattle.camac_answer.specs.Answers.{left_in, IsNext, judged, next_answer, window, AnswersAreFew}

-- What one call reads of a text.

-- The first line of a text, and what follows it.

-- what follows the first line and its LF
abbrev pub after_line : List ℕ → List ℕ
after_line text = drop (length (first_line text) + 1) text

ends_step : (inside : Bool) (b : ℕ) (w rest : List ℕ) → (length (first_line w) < length w → first_line (w ++ rest) ≡ first_line w)
    → length (cond inside (b ∷ first_line w) []) < length (b ∷ w) → cond inside (b ∷ first_line (w ++ rest)) [] ≡ cond inside (b ∷ first_line w) []
ends_step true b w rest same h = ap (λ (l : List ℕ). b ∷ l) (same (omega (arith, h)))
ends_step false b w rest same h = refl

-- the first line ends in these bytes
pub line_ends : (w rest : List ℕ) → length (first_line w) < length w → first_line (w ++ rest) ≡ first_line w
line_ends [] rest h = absurd (omega (arith, h))
line_ends (b ∷ w) rest h =
    take_while-cons is_inside b (w ++ rest) ∙ ends_step (is_inside b) b w rest (line_ends w rest) (rw (take_while-cons is_inside b w) at h)
    ∙ sym (take_while-cons is_inside b w)

goes_step : (inside : Bool) (b : ℕ) (w rest : List ℕ) → (length w ≤ length (first_line w) → first_line (w ++ rest) ≡ w ++ first_line rest)
    → length (b ∷ w) ≤ length (cond inside (b ∷ first_line w) []) → cond inside (b ∷ first_line (w ++ rest)) [] ≡ b ∷ (w ++ first_line rest)
goes_step true b w rest same h = ap (λ (l : List ℕ). b ∷ l) (same (omega (arith, h)))
goes_step false b w rest same h = absurd (omega (arith, h))

-- the first line does not end in these bytes
pub line_goes_on : (w rest : List ℕ) → length w ≤ length (first_line w) → first_line (w ++ rest) ≡ w ++ first_line rest
line_goes_on [] rest h = refl
line_goes_on (b ∷ w) rest h =
    take_while-cons is_inside b (w ++ rest) ∙ goes_step (is_inside b) b w rest (line_goes_on w rest) (rw (take_while-cons is_inside b w) at h)

pub whole_line : (w : List ℕ) → length w ≤ length (first_line w) → first_line w ≡ w
whole_line w h = sym (ap first_line (append-nil w)) ∙ line_goes_on w [] h ∙ append-nil w

cut : (lf : Bool) (b : ℕ) (text : List ℕ) → with_first b (lines text) ≡ (b ∷ first_line text) ∷ lines (after_line text)
    → cond lf ([] ∷ lines text) (with_first b (lines text)) ≡ cond (not lf) (b ∷ first_line text) [] ∷ lines (drop (length (cond (not lf) (b ∷ first_line text) []) + 1) (b ∷ text))
cut true b text h = refl
cut false b text h =
    let more : length (b ∷ first_line text) + 1 ≡ suc (length (first_line text) + 1) = omega arith in
    rw more h

-- a text is its first line and the lines of what follows
pub lines_first : (b : ℕ) (text : List ℕ) → lines (b ∷ text) ≡ first_line (b ∷ text) ∷ lines (after_line (b ∷ text))
lines_first b [] = rw (take_while-cons is_inside b []) (cut (b == 10) b [] refl)
lines_first b (d ∷ text) = rw (take_while-cons is_inside b (d ∷ text)) (cut (b == 10) b (d ∷ text) (ap (with_first b) (lines_first d text)))

shapeless : (line : List ℕ) → (length line ≡ 19 → ⊥) → line_answer line ≡ Err LineShape
shapeless line h = rw (ne_eqb (length line) 19 h) refl

shaped : (b : Bool) (r : Result Answer AnswerRule) (a : Answer) → cond b r (Err LineShape) ≡ Ok a → b ≡ true
shaped true r a e = refl
shaped false r a e = absurd cc

-- an answer has nineteen bytes before the LF
pub answer_long : (line : List ℕ) (a : Answer) → line_answer line ≡ Ok a → length line ≡ 19
answer_long line a e = eqb-true _ _ (and_parts (length line == 19) _ (shaped (has_shape line) (fields_answer line) a e)).0

pub no_answer : (line : List ℕ) → (length line ≡ 7 → ⊥) → line_given line ≡ as_given (line_answer line)
no_answer line h = rw (ne_eqb (length line) 7 h) refl

-- what a line gives has nineteen bytes before the LF, or seven
given_long : (line : List ℕ) (g : Given) → line_given line ≡ Ok g → (length line ≡ 19) ⊎ (length line ≡ 7)
given_long line g e = by (is_abandon line) (line_answer line) refl refl e
  where
    by : (c : Bool) (r : Result Answer AnswerRule) → is_abandon line ≡ c → line_answer line ≡ r → cond c (Ok gives.Abandon) (as_given r) ≡ Ok g → (length line ≡ 19) ⊎ (length line ≡ 7)
    by true r c a e = inr (eqb-true _ _ (and_parts (length line == 7) _ c).0)
    by false (Ok a) c r e = inl (answer_long line a r)
    by false (Err f) c r e = absurd cc

nothing : (line : List ℕ) → (length line ≡ 19 → ⊥) → (length line ≡ 7 → ⊥) → line_given line ≡ Err LineShape
nothing line h k = no_answer line k ∙ ap as_given (shapeless line h)

-- the bytes that were read decide what the first line gives
line_decides : (w rest : List ℕ) → length w ≤ 20 → (length w < 20 → length w ≤ length (first_line w) → rest ≡ []) → line_given (first_line (w ++ rest)) ≡ line_given (first_line w)
line_decides w rest most short =
    elim (cases_lt (length (first_line w)) (length w)) [
      | inl ended ↦ ap line_given (line_ends w rest ended)
      | inr on ↦
          elim (cases_lt (length w) 20) [
            | inl less ↦ ap (λ (r : List ℕ). line_given (first_line (w ++ r))) (short less on) ∙ ap (λ (t : List ℕ). line_given (first_line t)) (append-nil w)
            | inr full ↦
                let goes : length (first_line (w ++ rest)) ≡ length w + length (first_line rest) = ap length (line_goes_on w rest on) ∙ length-append w (first_line rest) in
                let whole : length (first_line w) ≡ length w = ap length (whole_line w on) in
                nothing (first_line (w ++ rest)) (λ e. omega (arith, e, goes, full)) (λ e. omega (arith, e, goes, full)) ∙ sym (nothing (first_line w) (λ e. omega (arith, e, whole, full)) (λ e. omega (arith, e, whole, full)))
          ]
    ]

lf_step : (c : Bool) (b : ℕ) (w : List ℕ) → is_inside b ≡ c → (length (first_line w) < length w → slice_index w (length (first_line w)) ≡ 10)
    → length (cond c (b ∷ first_line w) []) < length (b ∷ w) → slice_index (b ∷ w) (length (cond c (b ∷ first_line w) [])) ≡ 10
lf_step true b w is more h = more (omega (arith, h))
lf_step false b w is more h = eqb-true b 10 (not_inside (b == 10) is)
  where
    not_inside : (e : Bool) → not e ≡ false → e ≡ true
    not_inside true h = refl
    not_inside false h = absurd cc

-- an LF follows a line that ends
lf_after : (w : List ℕ) → length (first_line w) < length w → slice_index w (length (first_line w)) ≡ 10
lf_after [] h = absurd (omega (arith, h))
lf_after (b ∷ w) h = rw (take_while-cons is_inside b w) (lf_step (is_inside b) b w refl (lf_after w) (rw (take_while-cons is_inside b w) at h))

inside_step : (c : Bool) (b k : ℕ) (w : List ℕ) → (b == 10) ≡ c → ((i : ℕ) → i < length (first_line w) → slice_index w i ≡ 10 → ⊥) → slice_index (b ∷ w) k ≡ 10
    → k < length (cond (not c) (b ∷ first_line w) []) → ⊥
inside_step true b k w e more lf h = absurd (omega (arith, h))
inside_step false b zero w e more lf h = let no : (10 == 10) ≡ false = ap (λ (x : ℕ). x == 10) (sym lf) ∙ e in cc
inside_step false b (suc k) w e more lf h = more k (omega (arith, h)) lf

-- there is none in it
pub inside_at : (w : List ℕ) (i : ℕ) → i < length (first_line w) → slice_index w i ≡ 10 → ⊥
inside_at [] i h lf = absurd (omega (arith, h))
inside_at (b ∷ w) i h lf = inside_step (b == 10) b i w refl (inside_at w) lf (rw (take_while-cons is_inside b w) at h)

at_most : (n m : ℕ) → m ≤ n → (n ≡ 19) ⊎ (n ≡ 7) → m < 20
at_most n m on (inl e) = omega (arith, on, e)
at_most n m on (inr e) = omega (arith, on, e)

-- the eighth byte of those that were read
no_more_taken : (line : List ℕ) (len : ℕ) → length (take len line) ≡ len → IsNoMore line len → IsNoMore (take len line) (length (take len line))
no_more_taken line len long h lf =
    elim (cases_lt 7 len) [
      | inl eighth ↦ (let few = h (sym (get_or-take len line 7 0 eighth) ∙ lf) in omega (arith, few, long))
      | inr short ↦ omega (arith, short, long)
    ]

module _ (limit : ℕ) where
  window_is : (n : ℕ) → n < limit → window limit n ≡ 20
  window_is n h = rw (lt-ltb n limit h) refl

  window_from : (c : Bool) → 0 < cond c 20 1
  window_from true = omega arith
  window_from false = omega arith

  window_to : (c : Bool) → cond c 20 1 ≤ 20
  window_to true = omega arith
  window_to false = omega arith

  too_many : (n b : ℕ) (text : List ℕ) → limit ≤ n → next_answer limit n (b ∷ text) ≡ Err (broken TooMany (limit + 1))
  too_many n b text h = rw (le-leb limit n h) refl

  -- they decide the result
  pub bytes_decide : (n : ℕ) (w rest : List ℕ) → length w ≤ window limit n → (length w < window limit n → length w ≤ length (first_line w) → rest ≡ []) → next_answer limit n (w ++ rest) ≡ next_answer limit n w
  bytes_decide n [] rest most short = ap (next_answer limit n) (short (window_from (nat_lt n limit)) (omega arith))
  bytes_decide n (b ∷ w) rest most short =
      elim (cases_lt n limit) [
        | inl less ↦
            let size = window_is n less in
            ap (λ (r : Result Given AnswerRule). cond (nat_le limit n) (Err (broken TooMany (limit + 1))) (judged n r))
            (line_decides (b ∷ w) rest (rw size at most) (rw size at short))
        | inr more ↦ too_many n b (w ++ rest) more ∙ sym (too_many n b w more)
      ]

  chosen : (c : Bool) (n : ℕ) (r : Result Given AnswerRule) (g : Given) → cond c (Err (broken TooMany (limit + 1))) (judged n r) ≡ Ok (Some g) → r ≡ Ok g
  chosen true n r g e = absurd cc
  chosen false n (Ok x) g e = cc
  chosen false n (Err f) g e = absurd cc

  -- no more than the line was read, where it ends in these bytes
  ends_last : (w : List ℕ) → length w ≤ 20 → length (first_line w) < length w → (length (first_line w) ≡ 19) ⊎ (length (first_line w) ≡ 7) → IsNoMore w (length w) → length w ≡ length (first_line w) + 1
  ends_last w most ended (inl nineteen) no_more' = omega (arith, most, ended, nineteen)
  ends_last w most ended (inr seven) no_more' =
      let lf : slice_index w 7 ≡ 10 = ap (slice_index w) (sym seven) ∙ lf_after w ended in
      let few = no_more' lf in
      omega (arith, few, ended, seven)

  -- and where they give something, what they leave is what follows the first line
  pub given_leaves : (n : ℕ) (w rest : List ℕ) (g : Given) → n < limit → length w ≤ window limit n → (length w < window limit n → length w ≤ length (first_line w) → rest ≡ [])
      → IsNoMore w (length w) → next_answer limit n w ≡ Ok (Some g) → rest ≡ after_line (w ++ rest)
  given_leaves n [] rest g few most short no_more' e = absurd cc
  given_leaves n (b ∷ w) rest g few most short no_more' e =
      let size = window_is n few in
      let long = given_long (first_line (b ∷ w)) g (chosen (nat_le limit n) n (line_given (first_line (b ∷ w))) g e) in
      elim (cases_lt (length (first_line (b ∷ w))) (length (b ∷ w))) [
        | inl ended ↦
            let full : length (b ∷ w) ≡ length (first_line (b ∷ w)) + 1 = ends_last (b ∷ w) (rw size at most) ended long no_more' in
            let same : length (first_line ((b ∷ w) ++ rest)) + 1 ≡ length (b ∷ w) = ap (λ (l : List ℕ). length l + 1) (line_ends (b ∷ w) rest ended) ∙ sym full in
            sym (ap (λ (k : ℕ). drop k ((b ∷ w) ++ rest)) same ∙ drop_at (b ∷ w) rest (length (b ∷ w)) refl)
        | inr on ↦
            let none : rest ≡ [] = (rw size at short) (at_most (length (first_line (b ∷ w))) (length (b ∷ w)) on long) on in
            let whole : (b ∷ w) ++ rest ≡ b ∷ w = ap (λ (r : List ℕ). (b ∷ w) ++ r) none ∙ append-nil (b ∷ w) in
            none ∙ sym (ap after_line whole ∙ drop_of_length-le (b ∷ w) {i = length (first_line (b ∷ w)) + 1} (omega (arith, on)))
      ]

  next_by : (c : Bool) (n : ℕ) (q : Result Given AnswerRule) (rest : Reading) (r : Answered) → r ≡ cond c (Err (broken TooMany (limit + 1))) (judged n q)
      → IsNext (Some (cond c (no_more (Some (broken TooMany (limit + 1)))) (with_line n q rest))) r (Some rest)
  next_by true n q rest r e = rw e refl
  next_by false n (Ok g) rest r e = rw e (rest, refl, refl)
  next_by false n (Err rule) rest r e = rw e refl

  -- the first line of a text gives the next result, and what follows it is left
  line_is_next : (n : ℕ) (text : List ℕ) (r : Answered) → r ≡ next_answer limit n text → IsNext (left_in limit n (Some text)) r (left_in limit (n + 1) (Some (after_line text)))
  line_is_next n [] r e = rw e refl
  line_is_next n (b ∷ text) r e =
      subst (λ (ls : List (List ℕ)). IsNext (Some (reading_from limit n ls)) r (left_in limit (n + 1) (Some (after_line (b ∷ text))))) (sym (lines_first b text))
      (next_by (nat_le limit n) n (line_given (first_line (b ∷ text))) (reading_from limit (n + 1) (lines (after_line (b ∷ text)))) r e)

  -- only behind what a line gives it matters what is left
  leaves : (old : Reading) (r : Answered) (a b : List ℕ) (n : ℕ) → ((x : Given) → r ≡ Ok (Some x) → b ≡ a) → IsNext (Some old) r (left_in limit n (Some a)) → IsNext (Some old) r (left_in limit n (Some b))
  leaves old (Ok (Some x)) a b n same h = subst (λ (t : List ℕ). IsNext (Some old) (Ok (Some x)) (left_in limit n (Some t))) (sym (same x refl)) h
  leaves old (Ok None) a b n same h = h
  leaves old (Err f) a b n same h = h

  -- a line is taken only where one more may come
  may_come : (n : ℕ) (w : List ℕ) (a : Given) → next_answer limit n w ≡ Ok (Some a) → n < limit
  may_come n [] a e = absurd cc
  may_come n (b ∷ w) a e =
      elim (cases_lt n limit) [
        | inl less ↦ less
        | inr more ↦ let no = sym (too_many n b w more) ∙ e in absurd cc
      ]

  bytes_are_next : (n : ℕ) (old new : Option (List ℕ)) (w : List ℕ) (r : Answered) → Consumes old new w → length w ≤ window limit n
      → (length w < window limit n → length w ≤ length (first_line w) → IsAtEnd new) → IsNoMore w (length w) → r ≡ next_answer limit n w → IsNext (left_in limit n old) r (left_in limit (n + 1) new)
  bytes_are_next n None new w r given most short no_more' e = tt
  bytes_are_next n (Some text) None w r given most short no_more' e = absurd given
  bytes_are_next n (Some text) (Some rest) w r given most short no_more' e =
      let same : r ≡ next_answer limit n text = e ∙ sym (bytes_decide n w rest most short) ∙ ap (next_answer limit n) (sym given) in
      leaves (reading_from limit n (lines text)) r (after_line text) rest (n + 1)
      (λ a is. given_leaves n w rest a (may_come n w a (sym e ∙ is)) most short no_more' (sym e ∙ is) ∙ ap after_line (sym given)) (line_is_next n text r same)

  -- the same of the first bytes of a line with room for all that judge it
  pub read_is_next : (n : ℕ) (old new : Option (List ℕ)) (line : List ℕ) (len : ℕ) (r : Answered) → Consumes old new (take len line) → length line ≡ window limit n → len ≤ length line
      → (len < length line → len ≤ length (first_line (take len line)) → IsAtEnd new) → IsNoMore line len → r ≡ next_answer limit n (take len line) → IsNext (left_in limit n old) r (left_in limit (n + 1) new)
  read_is_next n old new line len r given room within short no_more' e =
      let long = length-take-le len line within in
      bytes_are_next n old new (take len line) r given (omega (arith, long, room, within)) (λ less on. short (omega (arith, long, room, less)) (omega (arith, long, on))) (no_more_taken line len long no_more') e

  -- a line with as much room as judges it
  pub room_for : (n w : ℕ) (room : List ℕ) → length room ≡ 20 → w ≡ window limit n → length (take w room) ≡ window limit n
  room_for n w room size same = length-take-le w room (omega (arith, size, same, window_to (nat_lt n limit))) ∙ same

-- A text gives no more than it may have lines.

few_line : (limit n : ℕ) (r : Result Given AnswerRule) (rest : Reading) → length rest.given + (n + 1) ≤ limit → length (with_line n r rest).given + n ≤ limit
few_line limit n (Ok g) rest h = omega (arith, h)
few_line limit n (Err rule) rest h = omega (arith, h)

few_from : (limit n : ℕ) (ls : List (List ℕ)) → n ≤ limit → length (reading_from limit n ls).given + n ≤ limit
few_from limit n [] h = omega (arith, h)
few_from limit n (l ∷ ls) h =
    elim (cases_lt n limit) [
      | inl less ↦ rw (lt-leb limit n less) (few_line limit n (line_given l) (reading_from limit (n + 1) ls) (few_from limit (n + 1) ls (omega (arith, less))))
      | inr more ↦ rw (le-leb limit n more) (omega (arith, h))
    ]

pub few : AnswersAreFew
few limit text = let h = few_from limit 0 (lines text) (omega arith) in omega (arith, h)
