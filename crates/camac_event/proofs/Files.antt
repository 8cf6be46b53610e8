-- What is read is spelled so, and what is spelled so is read: fields, records and whole files.
use Rattle.std.proofs.Common.{◌≡◌, ℕ, ◌+◌, ◌^◌, ◌<◌, ◌≤◌, Bool, true, false, cond, ltb, List, ◌++◌, length, get_or, take, drop, Result, Ok, Err, refl, sym, ap, subst, ◌∙◌, append_assoc, arith, inl, inr, zero, suc, ◌&&◌, [], ◌∷◌, eqb, leb, Option, Some, None, ◌⊎◌}
use Rattle.std.proofs.lemmas.Bool.{cases_lt, ltb-false, le-ltb, eqb-true, eq-eqb, leb-true, le-leb, ltb-true, lt-ltb, and_parts, and_from}
use Rattle.std.proofs.lemmas.List.{drop_at, take-append-drop, length-append, length-take, get_or-drop, get_or-take, get_or_past}
use Rattle.std.proofs.lemmas.Nat.{be_bytes_2, be_bytes_4}
use Rattle.std.proofs.lemmas.List.Concat.{flat_map-cons}
use Rattle.std.specs.Int.{w16, w32, from_be_bytes}
use Rattle.std.specs.List.{flat_map, AllByRecursion, starts_with}
use Rattle.std.specs.Prelude.{nat_eq}
use Rattle.byteorder.specs.Endian.{big_number, big_bytes}
use Rattle.byteorder.specs.Numbers.{big_from-take, big_from-lt, big_number-reads_back, length-bytes_high_first}
use Rattle.camac_event.specs.declared.fault.EventRule.{EventRule}
use Rattle.camac_event.specs.declared.fault.EventRule.TheVariants.{Truncated, WrongMarker, GlOutOfRange, NumberOutOfOrder, MissedAboveCycles, CountAboveLimit, WordTooWide, WrongHeader}
use Rattle.camac_event.specs.Reading.{Flaw, ◌>>=◌, flaw_at, number_at, tested_at, marker_at, gl_at, event_number_at, missed_at, usage_at, count_at, word_at, words_at, record_at, records_at, header_at, file_at}
use Rattle.camac_event.specs.declared.event.Usage.{Usage}
use Rattle.camac_event.specs.declared.event.Version.{Version}
use Rattle.camac_event.specs.declared.event.Version.TheVariants.{One, Two}
use Rattle.camac_event.specs.Spelling.{Entry, usage_fields, record_of, HasUsage, UsageFits, IsEvent, header, records_from, spelling, AreEvents}
use lib.Pointwise.{pointwise_decides}

-- A field that is read is the field that was written, and what was written is read again.

abbrev pub IsBytes : List ℕ → Type 0
IsBytes bytes = (i : ℕ) → get_or bytes i 0 < 256

pub IsBytes-drop : (n : ℕ) (bytes : List ℕ) → IsBytes bytes → IsBytes (drop n bytes)
IsBytes-drop n bytes h i = rw get_or-drop (h (n + i))

pub IsBytes-take : (n : ℕ) (bytes : List ℕ) → IsBytes bytes → IsBytes (take n bytes)
IsBytes-take n bytes h i =
    elim (cases_lt i n) [
      | inl lt ↦ rw (get_or-take n bytes i 0 lt) (h i)
      | inr le ↦ rw (get_or_past (take n bytes) i 0 (omega (arith, length-take n bytes))) (omega arith)
    ]

-- the value of a step that did not fail
pub bind_ok : {A B : Type 0} (r : Result A Flaw) (f : A → Result B Flaw) (y : B) → (r >>= f) ≡ Ok y → (x : A) × (r ≡ Ok x) × (f x ≡ Ok y)
bind_ok (Ok x) f y e = (x, refl, e)
bind_ok (Err d) f y e = absurd cc

-- a test that has to fail, and one that has to hold
pub guard_ok : {A : Type 0} (b : Bool) (d : Flaw) (x y : A) → cond b (Err d) (Ok x) ≡ Ok y → (b ≡ false) × (x ≡ y)
guard_ok true d x y e = absurd cc
guard_ok false d x y e = (refl, cc)

pub holds_ok : {A : Type 0} (b : Bool) (d : Flaw) (x y : A) → cond b (Ok x) (Err d) ≡ Ok y → (b ≡ true) × (x ≡ y)
holds_ok true d x y e = (refl, cc)
holds_ok false d x y e = absurd cc

abbrev done : {A : Type 0} → A → Result A Flaw
done x = Ok x

pub ok_is : {A : Type 0} (x y : A) → done x ≡ done y → x ≡ y
ok_is x y e = cc

-- what a reader took from the prefix
pub record Takes (bytes text rest : List ℕ) : Type 0 where
  pub parts : bytes ≡ text ++ rest
  pub rest_fits : IsBytes rest

pub Takes-then : (a x b y c : List ℕ) → Takes a x b → Takes b y c → Takes a (x ++ y) c
Takes-then a x b y c p q = record { parts = p.parts ∙ ap (λ (t : List ℕ). x ++ t) q.parts ∙ sym (append_assoc x y c); rest_fits = q.rest_fits }

-- ---- numbers

-- bytes of that count are those of their number
pub record IsWide (width : ℕ) : Type 0 where
  pub back : (bytes : List ℕ) → length bytes ≡ width → IsBytes bytes → big_bytes width (big_number width bytes) ≡ bytes

two_is : (bytes : List ℕ) → length bytes ≡ 2 → big_number 2 bytes ≡ from_be_bytes w16 bytes
two_is bytes e = omega arith

four_is : (bytes : List ℕ) → length bytes ≡ 4 → big_number 4 bytes ≡ from_be_bytes w32 bytes
four_is bytes e = omega arith

pub two_wide : IsWide 2
two_wide = record { back = λ bytes len fits. be_bytes_2 bytes _ len fits (two_is bytes len) }

pub four_wide : IsWide 4
four_wide = record { back = λ bytes len fits. be_bytes_4 bytes _ len fits (four_is bytes len) }

pub number_takes : (width : ℕ) (wide : IsWide width) (total : ℕ) (bytes : List ℕ) (n : ℕ) (rest : List ℕ) → IsBytes bytes → number_at width total bytes ≡ Ok (n, rest) → Takes bytes (big_bytes width n) rest × (n < 256 ^ width)
number_takes width wide total bytes n rest fits e =
    let g = guard_ok (ltb (length bytes) width) (flaw_at total bytes Truncated) (big_number width bytes, drop width bytes) (n, rest) e in
    let long : width ≤ length bytes = ltb-false _ _ g.0 in
    let n-is : big_number width bytes ≡ n = ap (λ (p : ℕ × List ℕ). p.0) g.1 in
    let rest-is : drop width bytes ≡ rest = ap (λ (p : ℕ × List ℕ). p.1) g.1 in
    let first : big_number width (take width bytes) ≡ n = big_from-take 0 width width bytes (omega arith) ∙ n-is in
    let prefix : big_bytes width n ≡ take width bytes = rw (← first) (wide.back (take width bytes) (omega (arith, length-take width bytes)) (IsBytes-take width bytes fits)) in
    (record { parts = rw (prefix, ← rest-is) (sym (take-append-drop width bytes)); rest_fits = rw (← rest-is) (IsBytes-drop width bytes fits) }, rw (← n-is) (big_from-lt 0 width bytes fits))

pub number_again : (width total n : ℕ) (rest : List ℕ) → n < 256 ^ width → number_at width total (big_bytes width n ++ rest) ≡ Ok (n, rest)
number_again width total n rest lt =
    let len = length-bytes_high_first width n in
    let long : ltb (length (big_bytes width n ++ rest)) width ≡ false = le-ltb _ _ (omega (arith, length-append (big_bytes width n) rest)) in
    rw (long, drop_at (big_bytes width n) rest width len, big_number-reads_back width n rest lt) refl

-- ---- numbers that pass a test

pub record TestTakes (test : ℕ → Bool) (width : ℕ) (bytes : List ℕ) (n : ℕ) (rest : List ℕ) : Type 0 where
  pub takes : Takes bytes (big_bytes width n) rest
  pub passes : test n ≡ true
  pub fits : n < 256 ^ width

pub tested_takes : (rule : EventRule) (test : ℕ → Bool) (width : ℕ) (wide : IsWide width) (total : ℕ) (bytes : List ℕ) (n : ℕ) (rest : List ℕ) → IsBytes bytes
    → tested_at rule test width total bytes ≡ Ok (n, rest) → TestTakes test width bytes n rest
tested_takes rule test width wide total bytes n rest fits e =
    let b = bind_ok (number_at width total bytes) (λ x. cond (test x.0) (Ok x) (Err (flaw_at total bytes rule))) (n, rest) e in
    let g = holds_ok (test b.0.0) (flaw_at total bytes rule) b.0 (n, rest) b.2 in
    let t = number_takes width wide total bytes b.0.0 b.0.1 fits b.1 in
    subst (λ (x : ℕ × List ℕ). TestTakes test width bytes x.0 x.1) g.1 (record { takes = t.0; passes = g.0; fits = t.1 })

pub tested_again : (rule : EventRule) (test : ℕ → Bool) (width total n : ℕ) (rest : List ℕ) → n < 256 ^ width → test n ≡ true
    → tested_at rule test width total (big_bytes width n ++ rest) ≡ Ok (n, rest)
tested_again rule test width total n rest lt passes = rw (number_again width total n rest lt, passes) refl

-- The laws of whole records: what is read is spelled so, and what is spelled so is read.

-- ---- single fields

pub marker_takes : (total : ℕ) (bytes : List ℕ) (x : ℕ × List ℕ) → IsBytes bytes → marker_at total bytes ≡ Ok x → Takes bytes (big_bytes 2 0xCA4D) x.1
unfolding marker_at
marker_takes total bytes x fits e =
    let t = tested_takes WrongMarker (λ n. eqb n 0xCA4D) 2 two_wide total bytes x.0 x.1 fits e in
    subst (λ (n : ℕ). Takes bytes (big_bytes 2 n) x.1) (eqb-true _ _ t.passes) t.takes

pub marker_again : (total : ℕ) (rest : List ℕ) → marker_at total (big_bytes 2 0xCA4D ++ rest) ≡ Ok (0xCA4D, rest)
unfolding marker_at
marker_again total rest = tested_again WrongMarker (λ n. eqb n 0xCA4D) 2 total 0xCA4D rest (omega arith) refl

pub gl_takes : (total : ℕ) (bytes : List ℕ) (x : ℕ × List ℕ) → IsBytes bytes → gl_at total bytes ≡ Ok x → Takes bytes (big_bytes 2 x.0) x.1 × (1 ≤ x.0) × (x.0 ≤ 24)
unfolding gl_at
gl_takes total bytes x fits e =
    let t = tested_takes GlOutOfRange (λ n. leb 1 n && leb n 24) 2 two_wide total bytes x.0 x.1 fits e in
    let p = and_parts (leb 1 x.0) (leb x.0 24) t.passes in
    (t.takes, leb-true _ _ p.0, leb-true _ _ p.1)

pub gl_again : (total n : ℕ) (rest : List ℕ) → 1 ≤ n → n ≤ 24 → gl_at total (big_bytes 2 n ++ rest) ≡ Ok (n, rest)
unfolding gl_at
gl_again total n rest low high = tested_again GlOutOfRange (λ n. leb 1 n && leb n 24) 2 total n rest (omega arith) (and_from _ _ (le-leb _ _ low) (le-leb _ _ high))

pub event_number_takes : (number total : ℕ) (bytes : List ℕ) (x : ℕ × List ℕ) → IsBytes bytes → event_number_at number total bytes ≡ Ok x → Takes bytes (big_bytes 4 number) x.1 × (number < 2 ^ 32)
unfolding event_number_at
event_number_takes number total bytes x fits e =
    let t = tested_takes NumberOutOfOrder (λ n. eqb n number) 4 four_wide total bytes x.0 x.1 fits e in
    subst (λ (n : ℕ). Takes bytes (big_bytes 4 n) x.1 × (n < 2 ^ 32)) (eqb-true _ _ t.passes) (t.takes, omega (arith, t.fits))

pub event_number_again : (number total : ℕ) (rest : List ℕ) → number < 2 ^ 32 → event_number_at number total (big_bytes 4 number ++ rest) ≡ Ok (number, rest)
unfolding event_number_at
event_number_again number total rest lt = tested_again NumberOutOfOrder (λ n. eqb n number) 4 total number rest (omega arith) (eq-eqb _ _ refl)

pub count_takes : (total : ℕ) (bytes : List ℕ) (x : ℕ × List ℕ) → IsBytes bytes → count_at total bytes ≡ Ok x → Takes bytes (big_bytes 2 x.0) x.1 × (x.0 ≤ 4096)
unfolding count_at
count_takes total bytes x fits e =
    let t = tested_takes CountAboveLimit (λ n. leb n 4096) 2 two_wide total bytes x.0 x.1 fits e in
    (t.takes, leb-true _ _ t.passes)

pub count_again : (total n : ℕ) (rest : List ℕ) → n ≤ 4096 → count_at total (big_bytes 2 n ++ rest) ≡ Ok (n, rest)
unfolding count_at
count_again total n rest le = tested_again CountAboveLimit (λ n. leb n 4096) 2 total n rest (omega arith) (le-leb _ _ le)

pub word_takes : (total : ℕ) (bytes : List ℕ) (x : ℕ × List ℕ) → IsBytes bytes → word_at total bytes ≡ Ok x → Takes bytes (big_bytes 4 x.0) x.1 × (x.0 < 2 ^ 24)
unfolding word_at
word_takes total bytes x fits e =
    let t = tested_takes WordTooWide (λ n. ltb n (2 ^ 24)) 4 four_wide total bytes x.0 x.1 fits e in
    (t.takes, ltb-true _ _ t.passes)

pub word_again : (total n : ℕ) (rest : List ℕ) → n < 2 ^ 24 → word_at total (big_bytes 4 n ++ rest) ≡ Ok (n, rest)
unfolding word_at
word_again total n rest lt = tested_again WordTooWide (λ n. ltb n (2 ^ 24)) 4 total n rest (omega arith) (lt-ltb _ _ lt)

-- ---- usage

pub missed_takes : (cycles total : ℕ) (bytes : List ℕ) (x : ℕ × List ℕ) → IsBytes bytes → missed_at cycles total bytes ≡ Ok x → Takes bytes (big_bytes 2 x.0) x.1 × (x.0 ≤ cycles) × (x.0 < 2 ^ 16)
unfolding missed_at
missed_takes cycles total bytes x fits e =
    let t = tested_takes MissedAboveCycles (λ n. leb n cycles) 2 two_wide total bytes x.0 x.1 fits e in
    (t.takes, leb-true _ _ t.passes, omega (arith, t.fits))

pub missed_again : (cycles total n : ℕ) (rest : List ℕ) → n ≤ cycles → n < 2 ^ 16 → missed_at cycles total (big_bytes 2 n ++ rest) ≡ Ok (n, rest)
unfolding missed_at
missed_again cycles total n rest le lt = tested_again MissedAboveCycles (λ n. leb n cycles) 2 total n rest (omega arith) (le-leb _ _ le)

pub usage_takes : (version : Version) (total : ℕ) (bytes : List ℕ) (x : Option Usage × List ℕ) → IsBytes bytes → usage_at version total bytes ≡ Ok x → Takes bytes (usage_fields x.0) x.1 × HasUsage version x.0 × UsageFits x.0
unfolding usage_at
usage_takes One total bytes x fits e =
    subst (λ (y : Option Usage × List ℕ). Takes bytes (usage_fields y.0) y.1 × HasUsage One y.0 × UsageFits y.0) (ok_is (None, bytes) x e) (record { parts = refl; rest_fits = fits }, refl, tt)
usage_takes Two total bytes x fits e =
    let a = bind_ok (number_at 4 total bytes) (λ cycles. missed_at cycles.0 total cycles.1 >>= λ missed. Ok (Some (record { cycles = cycles.0; missed = missed.0 }), missed.1)) x e in
    let b = bind_ok (missed_at a.0.0 total a.0.1) (λ missed. Ok (Some (record { cycles = a.0.0; missed = missed.0 }), missed.1)) x a.2 in
    let t0 = number_takes 4 four_wide total bytes a.0.0 a.0.1 fits a.1 in
    let t1 = missed_takes a.0.0 total a.0.1 b.0 t0.0.rest_fits b.1 in
    let both = Takes-then bytes (big_bytes 4 a.0.0) a.0.1 (big_bytes 2 b.0.0) b.0.1 t0.0 t1.0 in
    let made : Option Usage × List ℕ = (Some (record { cycles = a.0.0; missed = b.0.0 }), b.0.1) in
    subst (λ (y : Option Usage × List ℕ). Takes bytes (usage_fields y.0) y.1 × HasUsage Two y.0 × UsageFits y.0) {x = made} (ok_is made x b.2) (both, t1.1, (omega (arith, t0.1), t1.2))

usage_again : (version : Version) (total : ℕ) (usage : Option Usage) (rest : List ℕ) → HasUsage version usage → UsageFits usage → usage_at version total (usage_fields usage ++ rest) ≡ Ok (usage, rest)
unfolding usage_at
usage_again One total usage rest h k = rw h refl
usage_again Two total None rest h k = absurd h
usage_again Two total (Some u) rest h k =
    let regrouped = append_assoc (big_bytes 4 u.cycles) (big_bytes 2 u.missed) rest in
    ap (usage_at Two total) regrouped ∙ rw (number_again 4 total u.cycles (big_bytes 2 u.missed ++ rest) (omega (arith, k.0)), missed_again u.cycles total u.missed rest h k.1) refl

-- ---- words

pub words_take : (n total : ℕ) (bytes : List ℕ) (x : List ℕ × List ℕ) → IsBytes bytes → words_at n total bytes ≡ Ok x
    → Takes bytes (flat_map (big_bytes 4) x.0) x.1 × (length x.0 ≡ n) × AllByRecursion (λ w. w < 2 ^ 24) x.0
unfolding words_at
words_take zero total bytes x fits e =
    subst (λ (y : List ℕ × List ℕ). Takes bytes (flat_map (big_bytes 4) y.0) y.1 × (length y.0 ≡ 0) × AllByRecursion (λ w. w < 2 ^ 24) y.0) (ok_is ([], bytes) x e) (record { parts = refl; rest_fits = fits }, refl, tt)
words_take (suc n) total bytes x fits e =
    let a = bind_ok (word_at total bytes) (λ first. words_at n total first.1 >>= λ others. Ok (first.0 ∷ others.0, others.1)) x e in
    let b = bind_ok (words_at n total a.0.1) (λ others. Ok (a.0.0 ∷ others.0, others.1)) x a.2 in
    let first = word_takes total bytes a.0 fits a.1 in
    let second = words_take n total a.0.1 b.0 first.0.rest_fits b.1 in
    let both = Takes-then bytes (big_bytes 4 a.0.0) a.0.1 (flat_map (big_bytes 4) b.0.0) b.0.1 first.0 second.0 in
    let made : List ℕ × List ℕ = (a.0.0 ∷ b.0.0, b.0.1) in
    subst (λ (y : List ℕ × List ℕ). Takes bytes (flat_map (big_bytes 4) y.0) y.1 × (length y.0 ≡ suc n) × AllByRecursion (λ w. w < 2 ^ 24) y.0) {x = made} (ok_is made x b.2) (rw flat_map-cons both, ap suc second.1, (first.1, second.2))

words_again : (total : ℕ) (ws : List ℕ) (rest : List ℕ) → AllByRecursion (λ w. w < 2 ^ 24) ws → words_at (length ws) total (flat_map (big_bytes 4) ws ++ rest) ≡ Ok (ws, rest)
unfolding words_at
words_again total [] rest fits = refl
words_again total (w ∷ ws) rest fits =
    let regrouped : flat_map (big_bytes 4) (w ∷ ws) ++ rest ≡ big_bytes 4 w ++ (flat_map (big_bytes 4) ws ++ rest) = ap (λ (x : List ℕ). x ++ rest) (flat_map-cons (big_bytes 4) w ws) ∙ append_assoc (big_bytes 4 w) (flat_map (big_bytes 4) ws) rest in
    ap (words_at (suc (length ws)) total) regrouped ∙ rw (word_again total w (flat_map (big_bytes 4) ws ++ rest) fits.0, words_again total ws rest fits.1) refl

-- ---- records

pub record_takes : (version : Version) (number total : ℕ) (bytes : List ℕ) (x : Entry × List ℕ) → IsBytes bytes → record_at version number total bytes ≡ Ok x → Takes bytes (record_of number x.0) x.1 × IsEvent version x.0 × (number < 2 ^ 32)
unfolding record_at
record_takes version number total bytes x fits e =
    let a = bind_ok (marker_at total bytes) (λ marker. gl_at total marker.1 >>= λ gl. event_number_at number total gl.1 >>= λ named. usage_at version total named.1 >>= λ usage. count_at total usage.1 >>= λ count. words_at count.0 total count.1 >>= λ words. Ok (record { gl = gl.0; usage = usage.0; words = words.0 }, words.1)) x e in
    let b = bind_ok (gl_at total a.0.1) (λ gl. event_number_at number total gl.1 >>= λ named. usage_at version total named.1 >>= λ usage. count_at total usage.1 >>= λ count. words_at count.0 total count.1 >>= λ words. Ok (record { gl = gl.0; usage = usage.0; words = words.0 }, words.1)) x a.2 in
    let c = bind_ok (event_number_at number total b.0.1) (λ named. usage_at version total named.1 >>= λ usage. count_at total usage.1 >>= λ count. words_at count.0 total count.1 >>= λ words. Ok (record { gl = b.0.0; usage = usage.0; words = words.0 }, words.1)) x b.2 in
    let d = bind_ok (usage_at version total c.0.1) (λ usage. count_at total usage.1 >>= λ count. words_at count.0 total count.1 >>= λ words. Ok (record { gl = b.0.0; usage = usage.0; words = words.0 }, words.1)) x c.2 in
    let f = bind_ok (count_at total d.0.1) (λ count. words_at count.0 total count.1 >>= λ words. Ok (record { gl = b.0.0; usage = d.0.0; words = words.0 }, words.1)) x d.2 in
    let g = bind_ok (words_at f.0.0 total f.0.1) (λ words. Ok (record { gl = b.0.0; usage = d.0.0; words = words.0 }, words.1)) x f.2 in
    let ta = marker_takes total bytes a.0 fits a.1 in
    let tb = gl_takes total a.0.1 b.0 ta.rest_fits b.1 in
    let tc = event_number_takes number total b.0.1 c.0 tb.0.rest_fits c.1 in
    let td = usage_takes version total c.0.1 d.0 tc.0.rest_fits d.1 in
    let tf = count_takes total d.0.1 f.0 td.0.rest_fits f.1 in
    let tg = words_take f.0.0 total f.0.1 g.0 tf.0.rest_fits g.1 in
    let ab = Takes-then bytes (big_bytes 2 0xCA4D) a.0.1 (big_bytes 2 b.0.0) b.0.1 ta tb.0 in
    let two = big_bytes 2 0xCA4D ++ big_bytes 2 b.0.0 in
    let three = two ++ big_bytes 4 number in
    let four = three ++ usage_fields d.0.0 in
    let abc = Takes-then bytes two b.0.1 (big_bytes 4 number) c.0.1 ab tc.0 in
    let abcd = Takes-then bytes three c.0.1 (usage_fields d.0.0) d.0.1 abc td.0 in
    let count_is : Takes d.0.1 (big_bytes 2 (length g.0.0)) f.0.1 = subst (λ (n : ℕ). Takes d.0.1 (big_bytes 2 n) f.0.1) (sym tg.1) tf.0 in
    let abcdf = Takes-then bytes four d.0.1 (big_bytes 2 (length g.0.0)) f.0.1 abcd count_is in
    let five = four ++ big_bytes 2 (length g.0.0) in
    let whole = Takes-then bytes five f.0.1 (flat_map (big_bytes 4) g.0.0) g.0.1 abcdf tg.0 in
    let made : Entry × List ℕ = (record { gl = b.0.0; usage = d.0.0; words = g.0.0 }, g.0.1) in
    subst (λ (y : Entry × List ℕ). Takes bytes (record_of number y.0) y.1 × IsEvent version y.0 × (number < 2 ^ 32)) {x = made} (ok_is made x g.2)
    (whole, record { gl_low = tb.1; gl_high = tb.2; usage = td.1; usage_fits = td.2; count = omega (arith, tg.1, tf.1); words = tg.2 }, tc.1)

regroup : (a b c d f g rest : List ℕ) → (((((a ++ b) ++ c) ++ d) ++ f) ++ g) ++ rest ≡ a ++ (b ++ (c ++ (d ++ (f ++ (g ++ rest)))))
regroup a b c d f g rest = simp append_assoc

pub record_again : (version : Version) (number total : ℕ) (e : Entry) (rest : List ℕ) → number < 2 ^ 32 → IsEvent version e → record_at version number total (record_of number e ++ rest) ≡ Ok (e, rest)
unfolding record_at
record_again version number total e rest lt h =
    let words = flat_map (big_bytes 4) e.words in
    let at_words = words ++ rest in
    let at_count = big_bytes 2 (length e.words) ++ at_words in
    let at_usage = usage_fields e.usage ++ at_count in
    let at_number = big_bytes 4 number ++ at_usage in
    let at_gl = big_bytes 2 e.gl ++ at_number in
    let regrouped : record_of number e ++ rest ≡ big_bytes 2 0xCA4D ++ at_gl = regroup (big_bytes 2 0xCA4D) (big_bytes 2 e.gl) (big_bytes 4 number) (usage_fields e.usage) (big_bytes 2 (length e.words)) words rest in
    ap (record_at version number total) regrouped
    ∙ rw (marker_again total at_gl, gl_again total e.gl at_number h.gl_low h.gl_high, event_number_again number total at_usage lt, usage_again version total e.usage at_count h.usage h.usage_fits, count_again total (length e.words) at_words h.count, words_again total e.words rest h.words) refl

-- The two laws of whole files: what is read is spelled so, and what is spelled so is read.

-- ---- headers

pub prefix_is : (bytes prefix : List ℕ) → starts_with nat_eq bytes prefix ≡ true → bytes ≡ prefix ++ drop (length prefix) bytes
prefix_is bytes prefix h =
    let same : prefix ≡ take (length prefix) bytes = (pointwise_decides {E = nat_eq} (λ x y. (eqb-true x y, eq-eqb x y)) prefix (take (length prefix) bytes)).0 h in
    sym (take-append-drop (length prefix) bytes) ∙ ap (λ (t : List ℕ). t ++ drop (length prefix) bytes) (sym same)

chosen : {A : Type 0} (b : Bool) (x y z : A) → cond b x y ≡ z → ((b ≡ true) × (x ≡ z)) ⊎ ((b ≡ false) × (y ≡ z))
chosen true x y z e = inl (refl, e)
chosen false x y z e = inr (refl, e)

pub header_takes : (total : ℕ) (bytes : List ℕ) (x : Version × List ℕ) → IsBytes bytes → header_at total bytes ≡ Ok x → Takes bytes (header x.0) x.1
unfolding header_at
header_takes total bytes x fits e =
    let last : Result (Version × List ℕ) Flaw = Err (flaw_at total bytes WrongHeader) in
    let second : Result (Version × List ℕ) Flaw = cond (starts_with nat_eq bytes (header Two)) (Ok (Two, drop 8 bytes)) last in
    elim (chosen (starts_with nat_eq bytes (header One)) (Ok (One, drop 8 bytes)) second (Ok x) e) [
      | inl h ↦ subst (λ (y : Version × List ℕ). Takes bytes (header y.0) y.1) (ok_is (One, drop 8 bytes) x h.1) (record { parts = prefix_is bytes (header One) h.0; rest_fits = IsBytes-drop 8 bytes fits })
      | inr k ↦ elim (chosen (starts_with nat_eq bytes (header Two)) (Ok (Two, drop 8 bytes)) last (Ok x) k.1) [
        | inl h ↦ subst (λ (y : Version × List ℕ). Takes bytes (header y.0) y.1) (ok_is (Two, drop 8 bytes) x h.1) (record { parts = prefix_is bytes (header Two) h.0; rest_fits = IsBytes-drop 8 bytes fits })
        | inr h ↦ let bad : last ≡ Ok x = h.1 in absurd cc
      ]
    ]

pub header_again : (version : Version) (total : ℕ) (rest : List ℕ) → header_at total (header version ++ rest) ≡ Ok (version, rest)
unfolding header_at
header_again One total rest = refl
header_again Two total rest = refl

-- ---- records

pub records_take : (most : ℕ) (version : Version) (number total : ℕ) (bytes : List ℕ) (es : List Entry) → IsBytes bytes → records_at most version number total bytes ≡ Ok es
    → (bytes ≡ records_from number es) × AllByRecursion (IsEvent version) es × (number ≤ 2 ^ 32 → number + length es ≤ 2 ^ 32)
unfolding records_at
records_take most version number total [] es fits e =
    subst (λ (xs : List Entry). ([] ≡ records_from number xs) × AllByRecursion (IsEvent version) xs × (number ≤ 2 ^ 32 → number + length xs ≤ 2 ^ 32)) (ok_is [] es e) (refl, tt, λ h. omega arith)
records_take zero version number total (b ∷ bytes) es fits e = absurd cc
records_take (suc most) version number total (b ∷ bytes) es fits e =
    let a = bind_ok (record_at version number total (b ∷ bytes)) (λ first. records_at most version (number + 1) total first.1 >>= λ others. Ok (first.0 ∷ others)) es e in
    let c = bind_ok (records_at most version (number + 1) total a.0.1) (λ others. Ok (a.0.0 ∷ others)) es a.2 in
    let first = record_takes version number total (b ∷ bytes) a.0 fits a.1 in
    let second = records_take most version (number + 1) total a.0.1 c.0 first.0.rest_fits c.1 in
    let whole : b ∷ bytes ≡ records_from number (a.0.0 ∷ c.0) = first.0.parts ∙ ap (λ (t : List ℕ). record_of number a.0.0 ++ t) second.0 in
    let made : List Entry = a.0.0 ∷ c.0 in
    let few : number ≤ 2 ^ 32 → number + length made ≤ 2 ^ 32 = λ h. omega (arith, first.2, second.2 (omega (arith, first.2))) in
    subst (λ (xs : List Entry). (b ∷ bytes ≡ records_from number xs) × AllByRecursion (IsEvent version) xs × (number ≤ 2 ^ 32 → number + length xs ≤ 2 ^ 32)) {x = made} (ok_is made es c.2) (whole, (first.1, second.1), few)

-- one more record
next_again : (most : ℕ) (version : Version) (number total : ℕ) (e : Entry) (es : List Entry) (rest : List ℕ) → record_at version number total (record_of number e ++ rest) ≡ Ok (e, rest)
    → records_at most version (number + 1) total rest ≡ Ok es → records_at (suc most) version number total (record_of number e ++ rest) ≡ Ok (e ∷ es)
unfolding records_at
next_again most version number total e es rest h k = rw (h, k) refl

pub records_again : (most : ℕ) (version : Version) (number total : ℕ) (es : List Entry) → AllByRecursion (IsEvent version) es → number + length es ≤ 2 ^ 32 → length (records_from number es) ≤ most
    → records_at most version number total (records_from number es) ≡ Ok es
unfolding records_at
records_again most version number total [] fits few enough = refl
records_again zero version number total (e ∷ es) fits few enough = absurd (omega (arith, length-append (record_of number e) (records_from (number + 1) es)))
records_again (suc most) version number total (e ∷ es) fits few enough =
    let longer = length-append (record_of number e) (records_from (number + 1) es) in
    next_again most version number total e es (records_from (number + 1) es)
    (record_again version number total e (records_from (number + 1) es) (omega arith) fits.0)
    (records_again most version (number + 1) total es fits.1 (omega arith) (omega arith))

-- ---- files

pub file_takes : (bytes : List ℕ) (x : Version × List Entry) → IsBytes bytes → file_at bytes ≡ Ok x → AreEvents x.0 x.1 × (bytes ≡ spelling x.0 x.1)
unfolding file_at
file_takes bytes x fits e =
    let a = bind_ok (header_at (length bytes) bytes) (λ version. records_at (length version.1) version.0 1 (length bytes) version.1 >>= λ events. Ok (version.0, events)) x e in
    let b = bind_ok (records_at (length a.0.1) a.0.0 1 (length bytes) a.0.1) (λ events. Ok (a.0.0, events)) x a.2 in
    let first = header_takes (length bytes) bytes a.0 fits a.1 in
    let second = records_take (length a.0.1) a.0.0 1 (length bytes) a.0.1 b.0 first.rest_fits b.1 in
    let few = second.2 (omega arith) in
    let made : Version × List Entry = (a.0.0, b.0) in
    subst (λ (y : Version × List Entry). AreEvents y.0 y.1 × (bytes ≡ spelling y.0 y.1)) {x = made} (ok_is made x b.2)
    ((omega (arith, few), second.1), first.parts ∙ ap (λ (t : List ℕ). header a.0.0 ++ t) second.0)

pub file_again : (version : Version) (es : List Entry) → AreEvents version es → file_at (spelling version es) ≡ Ok (version, es)
unfolding file_at
file_again version es fits =
    let records = records_from 1 es in
    rw (header_again version (length (header version ++ records)) records, records_again (length records) version 1 (length (header version ++ records)) es fits.1 (omega (arith, fits.0)) (omega arith)) refl

pub spelling_one : (version other : Version) (es fs : List Entry) → AreEvents version es → AreEvents other fs → spelling version es ≡ spelling other fs → (version ≡ other) × (es ≡ fs)
spelling_one version other es fs fits fit same =
    let read : Result (Version × List Entry) Flaw = Ok (version, es) in
    let again : Result (Version × List Entry) Flaw = Ok (other, fs) in
    let both : read ≡ again = sym (file_again version es fits) ∙ ap file_at same ∙ file_again other fs fit in
    let parts : (version, es) ≡ (other, fs) = ok_is (version, es) (other, fs) both in
    (ap (λ (p : Version × List Entry). p.0) parts, ap (λ (p : Version × List Entry). p.1) parts)
