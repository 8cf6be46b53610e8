-- Words and records that are read from the bytes where they lie.
use Rattle.std.proofs.Common.{◌≡◌, ℕ, zero, suc, ◌+◌, ◌*◌, ◌^◌, ◌<◌, ◌≤◌, cond, ltb, List, [], ◌∷◌, get_or, length, take, drop, Option, Some, Result, Ok, Err, refl, sym, ap, subst, ◌∙◌, length-append, arith}
use Rattle.std.specs.Prelude.{slice_get, slice_index}
use Rattle.std.specs.List.{AllByRecursion}
use Rattle.std.proofs.lemmas.Bool.{ltb-true, ltb-false, le-ltb, lt-ltb}
use Rattle.std.proofs.lemmas.Option.{get_or_from_slice_get}
use Rattle.std.proofs.lemmas.List.{get_or-drop, drop-drop, drop-take, length-drop, length-take-le}
use Rattle.byteorder.specs.Endian.{big_number, big_bytes}
use Rattle.byteorder.specs.Numbers.{big_from-take}
use Rattle.camac_event.specs.declared.event.Usage.{Usage}
use Rattle.camac_event.specs.declared.event.Version.{Version}
use Rattle.camac_event.specs.declared.fault.EventRule.TheVariants.{WordTooWide, Truncated}
use Rattle.camac_event.specs.Spelling.{Entry, record_of, records_from, IsEvent}
use Rattle.camac_event.specs.Reading.{Flaw, ◌>>=◌, flaw_at, number_at, word_at, words_at, record_at, records_at}
use Rattle.camac_event.specs.Records.{words_in, AreWords, events_read, events_in, AreRecords}
use Rattle.camac_event.proofs.Files.{IsBytes, IsBytes-drop, IsBytes-take, four_wide, bind_ok, guard_ok, holds_ok, ok_is, record_again, records_take, records_again}

-- ---- words

pub length-words_in : (count : ℕ) (bytes : List ℕ) → length (words_in count bytes) ≡ count
unfolding words_in
length-words_in zero bytes = refl
length-words_in (suc count) bytes = ap suc (length-words_in count (drop 4 bytes))

-- the byte at a place is the first behind those before it
pub byte_behind : (n : ℕ) (bytes : List ℕ) → slice_index (drop n bytes) 0 ≡ get_or bytes n 0
byte_behind zero bytes = refl
byte_behind (suc n) [] = refl
byte_behind (suc n) (b ∷ bs) = byte_behind n bs

-- the word at a place
pub words_in-get : (count : ℕ) (bytes : List ℕ) (i : ℕ) → i < count → slice_get (words_in count bytes) i ≡ Some (big_number 4 (drop (4 * i) bytes))
unfolding words_in
words_in-get zero bytes i lt = absurd (omega (arith, lt))
words_in-get (suc count) bytes zero lt = refl
words_in-get (suc count) bytes (suc i) lt =
    words_in-get count (drop 4 bytes) i (omega (arith, lt)) ∙ ap (λ (l : List ℕ). Some (big_number 4 l)) (drop-drop (4 * i) 4 bytes ∙ ap (λ (n : ℕ). drop n bytes) (omega arith))

-- it fits
pub words_in-fits : (count : ℕ) (bytes : List ℕ) (i : ℕ) → i < count → AllByRecursion (λ w. w < 2 ^ 24) (words_in count bytes) → big_number 4 (drop (4 * i) bytes) < 2 ^ 24
unfolding words_in
words_in-fits zero bytes i lt fits = absurd (omega (arith, lt))
words_in-fits (suc count) bytes zero lt fits = fits.0
words_in-fits (suc count) bytes (suc i) lt fits =
    let same : drop (4 * i) (drop 4 bytes) ≡ drop (4 * suc i) bytes = drop-drop (4 * i) 4 bytes ∙ ap (λ (n : ℕ). drop n bytes) (omega arith) in
    subst (λ (l : List ℕ). big_number 4 l < 2 ^ 24) same (words_in-fits count (drop 4 bytes) i (omega (arith, lt)) fits.1)

-- the words of the prefix are those of all
words_in-take : (count : ℕ) (bytes : List ℕ) → words_in count (take (4 * count) bytes) ≡ words_in count bytes
unfolding words_in
words_in-take zero bytes = refl
words_in-take (suc count) bytes =
    let all : 4 * suc count ≡ 4 + 4 * count = omega arith in
    let first : big_number 4 (take (4 * suc count) bytes) ≡ big_number 4 bytes = big_from-take 0 4 (4 * suc count) bytes (omega arith) in
    let after : drop 4 (take (4 * suc count) bytes) ≡ take (4 * count) (drop 4 bytes) = ap (λ (n : ℕ). drop 4 (take n bytes)) all ∙ drop-take 4 (4 * count) bytes in
    ap (λ (n : ℕ). n ∷ words_in count (drop 4 (take (4 * suc count) bytes))) first
    ∙ ap (λ (l : List ℕ). big_number 4 bytes ∷ words_in count l) after
    ∙ ap (λ (l : List ℕ). big_number 4 bytes ∷ l) (words_in-take count (drop 4 bytes))

-- a word that was read
word_is : (total : ℕ) (bytes : List ℕ) (x : ℕ × List ℕ) → word_at total bytes ≡ Ok x → (4 ≤ length bytes) × (x ≡ (big_number 4 bytes, drop 4 bytes)) × (x.0 < 2 ^ 24)
unfolding word_at
word_is total bytes x e =
    let b = bind_ok (number_at 4 total bytes) (λ y. cond (ltb y.0 (2 ^ 24)) (Ok y) (Err (flaw_at total bytes WordTooWide))) x e in
    let g = holds_ok (ltb b.0.0 (2 ^ 24)) (flaw_at total bytes WordTooWide) b.0 x b.2 in
    let h = guard_ok (ltb (length bytes) 4) (flaw_at total bytes Truncated) (big_number 4 bytes, drop 4 bytes) b.0 b.1 in
    (ltb-false _ _ h.0, sym (h.1 ∙ g.1), subst (λ (y : ℕ × List ℕ). y.0 < 2 ^ 24) g.1 (ltb-true _ _ g.0))

-- words that were read
words_are : (count total : ℕ) (bytes : List ℕ) (x : List ℕ × List ℕ) → words_at count total bytes ≡ Ok x
    → (4 * count ≤ length bytes) × (x ≡ (words_in count bytes, drop (4 * count) bytes)) × AllByRecursion (λ w. w < 2 ^ 24) (words_in count bytes)
unfolding words_at words_in
words_are zero total bytes x e = (omega arith, sym (ok_is ([], bytes) x e), tt)
words_are (suc count) total bytes x e =
    let a = bind_ok (word_at total bytes) (λ first. words_at count total first.1 >>= λ others. Ok (first.0 ∷ others.0, others.1)) x e in
    let b = bind_ok (words_at count total a.0.1) (λ others. Ok (a.0.0 ∷ others.0, others.1)) x a.2 in
    let first = word_is total bytes a.0 a.1 in
    let number : a.0.0 ≡ big_number 4 bytes = ap (λ (p : ℕ × List ℕ). p.0) first.1 in
    let after : a.0.1 ≡ drop 4 bytes = ap (λ (p : ℕ × List ℕ). p.1) first.1 in
    let second = words_are count total (drop 4 bytes) b.0 (subst (λ (l : List ℕ). words_at count total l ≡ Ok b.0) after b.1) in
    let made : List ℕ × List ℕ = (a.0.0 ∷ b.0.0, b.0.1) in
    let left : drop (4 * count) (drop 4 bytes) ≡ drop (4 * suc count) bytes = drop-drop (4 * count) 4 bytes ∙ ap (λ (n : ℕ). drop n bytes) (omega arith) in
    let both : made ≡ (big_number 4 bytes ∷ words_in count (drop 4 bytes), drop (4 * suc count) bytes) =
    ap (λ (n : ℕ). (n ∷ b.0.0, b.0.1)) number
    ∙ ap (λ (p : List ℕ × List ℕ). (big_number 4 bytes ∷ p.0, p.1)) second.1
    ∙ ap (λ (l : List ℕ). (big_number 4 bytes ∷ words_in count (drop 4 bytes), l)) left in
    (omega (arith, first.0, second.0, length-drop 4 bytes), sym (ok_is made x b.2) ∙ both, (subst (λ (n : ℕ). n < 2 ^ 24) number first.2, second.2))

-- a word that fits is read
word_read : (total : ℕ) (bytes : List ℕ) → 4 ≤ length bytes → big_number 4 bytes < 2 ^ 24 → word_at total bytes ≡ Ok (big_number 4 bytes, drop 4 bytes)
unfolding word_at
word_read total bytes long fits = rw (le-ltb _ _ long, lt-ltb _ _ fits) refl

-- words that fit are read
pub words_read : (count total : ℕ) (bytes : List ℕ) → 4 * count ≤ length bytes → AllByRecursion (λ w. w < 2 ^ 24) (words_in count bytes)
    → words_at count total bytes ≡ Ok (words_in count bytes, drop (4 * count) bytes)
unfolding words_at words_in
words_read zero total bytes long fit = refl
words_read (suc count) total bytes long fit =
    let first = word_read total bytes (omega (arith, long)) fit.0 in
    let others = words_read count total (drop 4 bytes) (omega (arith, long, length-drop 4 bytes)) fit.1 in
    let left : drop (4 * count) (drop 4 bytes) ≡ drop (4 * suc count) bytes = drop-drop (4 * count) 4 bytes ∙ ap (λ (n : ℕ). drop n bytes) (omega arith) in
    rw (first, others) (ap (λ (l : List ℕ). Ok (big_number 4 bytes ∷ words_in count (drop 4 bytes), l)) left)

-- words whose highest byte is 0 fit
narrow : (bytes : List ℕ) → IsBytes bytes → get_or bytes 0 0 ≡ 0 → big_number 4 bytes < 2 ^ 24
narrow bytes fits none =
    let b1 = fits 1 in
    let b2 = fits 2 in
    let b3 = fits 3 in
    omega (arith, none, b1, b2, b3)

pub words_fit : (count : ℕ) (bytes : List ℕ) → IsBytes bytes → ((k : ℕ) → k < count → get_or bytes (4 * k) 0 ≡ 0) → AllByRecursion (λ w. w < 2 ^ 24) (words_in count bytes)
unfolding words_in
words_fit zero bytes fits none = tt
words_fit (suc count) bytes fits none = (
  narrow bytes fits (none 0 (omega arith)),
  words_fit count (drop 4 bytes) (IsBytes-drop 4 bytes fits) (λ k lt. let place : 4 + 4 * k ≡ 4 * suc k = omega arith in get_or-drop 4 bytes (4 * k) 0 ∙ ap (λ (n : ℕ). get_or bytes n 0) place ∙ none (suc k) (omega (arith, lt))),
)

-- the bytes of a word
three_of : (xs : List ℕ) → IsBytes xs → 4 ≤ length xs → get_or xs 1 0 ∷ get_or xs 2 0 ∷ get_or xs 3 0 ∷ [] ≡ big_bytes 3 (big_number 4 xs)
three_of [] fits long = absurd (omega (arith, long))
three_of (a ∷ []) fits long = absurd (omega (arith, long))
three_of (a ∷ b ∷ []) fits long = absurd (omega (arith, long))
three_of (a ∷ b ∷ c ∷ []) fits long = absurd (omega (arith, long))
three_of (a ∷ b ∷ c ∷ d ∷ rest) fits long =
    let four : IsBytes (a ∷ b ∷ c ∷ d ∷ []) = IsBytes-take 4 (a ∷ b ∷ c ∷ d ∷ rest) fits in
    sym (ap (drop 1) (four_wide.back (a ∷ b ∷ c ∷ d ∷ []) refl four))

pub low_bytes_of : (bytes : List ℕ) (at : ℕ) → IsBytes bytes → at + 4 ≤ length bytes
    → get_or bytes (at + 1) 0 ∷ get_or bytes (at + 2) 0 ∷ get_or bytes (at + 3) 0 ∷ [] ≡ big_bytes 3 (big_number 4 (drop at bytes))
low_bytes_of bytes at fits long =
    rw (← get_or-drop at bytes 1 0, ← get_or-drop at bytes 2 0, ← get_or-drop at bytes 3 0) (three_of (drop at bytes) (IsBytes-drop at bytes fits) (omega (arith, long, length-drop at bytes)))

pub words_in-at : (count : ℕ) (bytes : List ℕ) (i : ℕ) → i < count → get_or (words_in count bytes) i 0 ≡ big_number 4 (drop (4 * i) bytes)
words_in-at count bytes i lt = get_or_from_slice_get (words_in count bytes) i _ 0 (words_in-get count bytes i lt)

-- ---- records

-- right records are read, wherever they stand in their file
pub events_in-is : (version : Version) (number : ℕ) (bytes : List ℕ) (es : List Entry) → AreRecords version number bytes es → events_in version number bytes ≡ es
unfolding events_in
events_in-is version number bytes es r =
    let read : records_at (length bytes) version number 0 bytes ≡ Ok es =
    subst (λ (l : List ℕ). records_at (length l) version number 0 l ≡ Ok es) (sym r.spelled)
    (records_again (length (records_from number es)) version number 0 es r.right r.few (omega arith)) in
    ap events_read read

pub are_records : (version : Version) (number : ℕ) (bytes : List ℕ) (es : List Entry) → AreRecords version number bytes es → AreRecords version number bytes (events_in version number bytes)
are_records version number bytes es r = subst (AreRecords version number bytes) (sym (events_in-is version number bytes es r)) r

-- what was read as records is right
pub records_are : (most : ℕ) (version : Version) (total : ℕ) (bytes : List ℕ) (es : List Entry) → IsBytes bytes → records_at most version 1 total bytes ≡ Ok es → AreRecords version 1 bytes es
records_are most version total bytes es fits e =
    let t = records_take most version 1 total bytes es fits e in
    record { spelled = t.0; right = t.1; few = t.2 (omega arith) }

abbrev with_words : ℕ → Option Usage → Result (List ℕ × List ℕ) Flaw → Result (Entry × List ℕ) Flaw
with_words gl usage read = read >>= λ words. Ok (record { gl = gl; usage = usage; words = words.0 }, words.1)

-- The first of right records, whose fields before the words were read.
pub record IsFirst (version : Version) (number : ℕ) (gl : ℕ) (usage : Option Usage) (count : ℕ) (after : List ℕ) (es : List Entry) : Type 0 where
  pub others : List Entry
  pub long : 4 * count ≤ length after
  pub words : AreWords count (take (4 * count) after)
  pub first : es ≡ record { gl = gl; usage = usage; words = words_in count (take (4 * count) after) } ∷ others
  pub right : IsEvent version (record { gl = gl; usage = usage; words = words_in count (take (4 * count) after) })
  pub rest : AreRecords version (number + 1) (drop (4 * count) after) others

pub first_is : (version : Version) (number : ℕ) (bytes : List ℕ) (gl : ℕ) (usage : Option Usage) (count : ℕ) (after : List ℕ) (es : List Entry) → 0 < length bytes
    → AreRecords version number bytes es → record_at version number 0 bytes ≡ with_words gl usage (words_at count 0 after) → IsFirst version number gl usage count after es
first_is version number bytes gl usage count after [] some r h = absurd (omega (arith, ap length r.spelled))
first_is version number bytes gl usage count after (e ∷ es) some r h =
    let rest = records_from (number + 1) es in
    let again : record_at version number 0 bytes ≡ Ok (e, rest) = ap (record_at version number 0) r.spelled ∙ record_again version number 0 e rest (omega (arith, r.few)) r.right.0 in
    let b = bind_ok (words_at count 0 after) (λ words. Ok (record { gl = gl; usage = usage; words = words.0 }, words.1)) (e, rest) (sym h ∙ again) in
    let t = words_are count 0 after b.0 b.1 in
    let made : Entry × List ℕ = (record { gl = gl; usage = usage; words = b.0.0 }, b.0.1) in
    let same : made ≡ (e, rest) = ok_is made (e, rest) b.2 in
    let words : words_in count (take (4 * count) after) ≡ b.0.0 = words_in-take count after ∙ sym (ap (λ (p : List ℕ × List ℕ). p.0) t.1) in
    let back : drop (4 * count) after ≡ rest = sym (ap (λ (p : List ℕ × List ℕ). p.1) t.1) ∙ ap (λ (p : Entry × List ℕ). p.1) same in
    let entry : Entry = record { gl = gl; usage = usage; words = words_in count (take (4 * count) after) } in
    let entry_is : e ≡ entry = sym (ap (λ (p : Entry × List ℕ). p.0) same) ∙ ap (λ (ws : List ℕ). record { gl = gl; usage = usage; words = ws }) (sym words) in
    record {
      others = es;
      long = t.0;
      words = record { all = length-take-le (4 * count) after t.0; fit = subst (AllByRecursion (λ w. w < 2 ^ 24)) (sym (words_in-take count after)) t.2 };
      first = ap (λ (x : Entry). x ∷ es) entry_is;
      right = subst (IsEvent version) entry_is r.right.0;
      rest = record { spelled = back; right = r.right.1; few = omega (arith, r.few) };
    }

-- the same where the bytes after the fields were split after the words
pub record IsSplit (version : Version) (number : ℕ) (gl : ℕ) (usage : Option Usage) (count : ℕ) (prefix back : List ℕ) (es : List Entry) : Type 0 where
  pub words : AreWords count prefix
  pub first : es ≡ record { gl = gl; usage = usage; words = words_in count prefix } ∷ events_in version (number + 1) back
  pub right : IsEvent version (record { gl = gl; usage = usage; words = words_in count prefix })
  pub rest : AreRecords version (number + 1) back (events_in version (number + 1) back)

pub first_split : (version : Version) (number : ℕ) (gl : ℕ) (usage : Option Usage) (count : ℕ) (after prefix back : List ℕ) (es : List Entry) → IsFirst version number gl usage count after es
    → prefix ≡ take (4 * count) after → back ≡ drop (4 * count) after → IsSplit version number gl usage count prefix back es
first_split version number gl usage count after prefix back es f fore aft =
    let rest : AreRecords version (number + 1) back f.others = subst (λ (l : List ℕ). AreRecords version (number + 1) l f.others) (sym aft) f.rest in
    record {
      words = subst (AreWords count) (sym fore) f.words;
      first = f.first
          ∙ ap (λ (l : List ℕ). record { gl = gl; usage = usage; words = words_in count l } ∷ f.others) (sym fore)
          ∙ ap (λ (others : List Entry). record { gl = gl; usage = usage; words = words_in count prefix } ∷ others) (sym (events_in-is version (number + 1) back f.others rest));
      right = subst (λ (l : List ℕ). IsEvent version (record { gl = gl; usage = usage; words = words_in count l })) (sym fore) f.right;
      rest = are_records version (number + 1) back f.others rest;
    }

-- records of no bytes, and of some
pub none_are : (version : Version) (number : ℕ) (bytes : List ℕ) (es : List Entry) → length bytes ≡ 0 → AreRecords version number bytes es → es ≡ []
none_are version number bytes [] none r = refl
none_are version number bytes (e ∷ es) none r = absurd (omega (arith, ap length r.spelled, length-append (record_of number e) (records_from (number + 1) es)))

-- the fields of right records are read
pub first_reads : (version : Version) (number : ℕ) (bytes : List ℕ) (f : Flaw) (es : List Entry) → 0 < length bytes → AreRecords version number bytes es → record_at version number 0 bytes ≡ Err f → ⊥
first_reads version number bytes f [] some r h = omega (arith, ap length r.spelled)
first_reads version number bytes f (e ∷ es) some r h =
    let rest = records_from (number + 1) es in
    let again : record_at version number 0 bytes ≡ Ok (e, rest) = ap (record_at version number 0) r.spelled ∙ record_again version number 0 e rest (omega (arith, r.few)) r.right.0 in
    let bad : (let r : Result (Entry × List ℕ) Flaw = Err f in r) ≡ Ok (e, rest) = sym h ∙ again in
    absurd cc
