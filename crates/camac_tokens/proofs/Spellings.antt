-- What tells words apart, and how long those of the language are.
use Rattle.std.proofs.Common.{◌≡◌, ℕ, ◌-◌, ◌≤◌, ◌<◌, Bool, true, false, cond, nat_eq, List, [], ◌∷◌, length, take, Option, Some, None, refl, sym, ap, ◌∙◌, arith, rules}
use Rattle.std.specs.Prelude.{slice_index}
use Rattle.std.specs.Str.{bytes_eq}
use Rattle.std.specs.Int.{from_le_bytes, to_le_bytes, w64}
use Rattle.std.proofs.lemmas.Bool.{eqb-true, eq-eqb}
use Rattle.std.proofs.lemmas.Slice.Eq.{bytes_eq-Decides}
use Rattle.camac_tokens.specs.declared.token.Keyword.{Keyword}
use Rattle.camac_tokens.specs.Words.{Spelling, spelled_in, declaration_words, action_words, call_words, control_words, or_else, keyword, filled, HasNumber, IsShort}

told : (t : Bool) (one other : List ℕ) → bytes_eq one other ≡ t → (one ≡ other → ⊥) → t ≡ false
told true one other is differ = absurd (differ ((bytes_eq-Decides one other).0 is))
told false one other is differ = refl

-- words whose last bytes differ
pub last_differs : (one other : List ℕ) → nat_eq (slice_index one (length one - 1)) (slice_index other (length other - 1)) ≡ false → bytes_eq one other ≡ false
last_differs one other differ =
    told (bytes_eq one other) one other refl (λ same.
    let lasts : slice_index one (length one - 1) ≡ slice_index other (length other - 1) = ap (λ (xs : List ℕ). slice_index xs (length xs - 1)) same in
    let both : true ≡ false = sym (eq-eqb _ _ lasts) ∙ differ in
    absurd cc)

length_differs : (one other : List ℕ) → (length one ≡ length other → ⊥) → bytes_eq one other ≡ false
length_differs one other differ = told (bytes_eq one other) one other refl (λ same. differ (ap length same))

-- each word has at most 7 bytes
abbrev AreShort : {W : Type 0} → List (Spelling W) → Type 0
AreShort [] = Unit {0}
AreShort (s ∷ ss) = (length s.bytes ≤ 7) × AreShort ss

off : {A : Type 0} (t : Bool) (x y : A) → t ≡ false → cond t x y ≡ y
off true x y e = absurd cc
off false x y e = refl

none_spelled : {W : Type 0} (table : List (Spelling W)) (text : List ℕ) → AreShort table → 7 < length text → spelled_in table text ≡ None
none_spelled [] text short long = refl
none_spelled (s ∷ ss) text short long =
    off (bytes_eq text s.bytes) (Some s.spelled) (spelled_in ss text) (length_differs text s.bytes (λ same. let few = short.0 in omega (arith, few)))
    ∙ none_spelled ss text short.1 long

pub no_long_keyword : (text : List ℕ) → 7 < length text → keyword text ≡ None
unfolding keyword
no_long_keyword text long =
    let declarations : spelled_in declaration_words text ≡ None = none_spelled declaration_words text (search rules) long in
    let actions : spelled_in action_words text ≡ None = none_spelled action_words text (search rules) long in
    let calls : spelled_in call_words text ≡ None = none_spelled call_words text (search rules) long in
    let controls : spelled_in control_words text ≡ None = none_spelled control_words text (search rules) long in
    ap (λ (w : Option Keyword). or_else w (or_else (spelled_in action_words text) (or_else (spelled_in call_words text) (spelled_in control_words text)))) declarations
    ∙ ap (λ (w : Option Keyword). or_else w (or_else (spelled_in call_words text) (spelled_in control_words text))) actions
    ∙ ap (λ (w : Option Keyword). or_else w (spelled_in control_words text)) calls
    ∙ controls

-- ---- words are compared as numbers

-- how many of eight bytes the text was that they are filled from, and which
abbrev count : List ℕ → ℕ
count (a ∷ b ∷ c ∷ d ∷ e ∷ f ∷ g ∷ n ∷ []) = n
count _ = 0

abbrev unfilled : List ℕ → List ℕ
unfilled (a ∷ b ∷ c ∷ d ∷ e ∷ f ∷ g ∷ n ∷ []) = take n (a ∷ b ∷ c ∷ d ∷ e ∷ f ∷ g ∷ [])
unfilled _ = []

counted : (word : List ℕ) → IsShort word → count (filled word) ≡ length word
counted [] short = absurd (omega (arith, short.0))
counted (a ∷ []) short = refl
counted (a ∷ b ∷ []) short = refl
counted (a ∷ b ∷ c ∷ []) short = refl
counted (a ∷ b ∷ c ∷ d ∷ []) short = refl
counted (a ∷ b ∷ c ∷ d ∷ e ∷ []) short = refl
counted (a ∷ b ∷ c ∷ d ∷ e ∷ f ∷ []) short = refl
counted (a ∷ b ∷ c ∷ d ∷ e ∷ f ∷ g ∷ []) short = refl
counted (a ∷ b ∷ c ∷ d ∷ e ∷ f ∷ g ∷ h ∷ more) short = absurd (omega (arith, short.1))

got_back : (word : List ℕ) → 1 ≤ count (filled word) → unfilled (filled word) ≡ word
got_back [] some = absurd (omega (arith, some))
got_back (a ∷ []) some = refl
got_back (a ∷ b ∷ []) some = refl
got_back (a ∷ b ∷ c ∷ []) some = refl
got_back (a ∷ b ∷ c ∷ d ∷ []) some = refl
got_back (a ∷ b ∷ c ∷ d ∷ e ∷ []) some = refl
got_back (a ∷ b ∷ c ∷ d ∷ e ∷ f ∷ []) some = refl
got_back (a ∷ b ∷ c ∷ d ∷ e ∷ f ∷ g ∷ []) some = refl
got_back (a ∷ b ∷ c ∷ d ∷ e ∷ f ∷ g ∷ h ∷ more) some = absurd (omega (arith, some))

filled_once : (text word : List ℕ) → IsShort word → filled text ≡ filled word → text ≡ word
filled_once text word short same =
    let of_word : count (filled word) ≡ length word = counted word short in
    let of_text : count (filled text) ≡ count (filled word) = ap count same in
    sym (got_back text (omega (arith, of_text, of_word, short.0))) ∙ ap unfilled same ∙ got_back word (omega (arith, of_word, short.0))

pub told_by_numbers : (text word : List ℕ) (n m : ℕ) → HasNumber text n → HasNumber word m → IsShort word → nat_eq n m ≡ bytes_eq text word
told_by_numbers text word n m n_is m_is short = by (nat_eq n m) refl where
  by : (u : Bool) → nat_eq n m ≡ u → nat_eq n m ≡ bytes_eq text word
  by true is =
      let filled_same : filled text ≡ filled word = sym n_is.only ∙ ap (to_le_bytes w64) (eqb-true n m is) ∙ m_is.only in
      is ∙ sym ((bytes_eq-Decides text word).1 (filled_once text word short filled_same))
  by false is =
      is ∙ sym (told (bytes_eq text word) text word refl (λ same.
      let numbers : n ≡ m = n_is.value ∙ ap (λ (xs : List ℕ). from_le_bytes w64 (filled xs)) same ∙ sym m_is.value in
      let both : true ≡ false = sym (eq-eqb n m numbers) ∙ is in
      absurd cc))
