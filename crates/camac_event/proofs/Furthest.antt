-- The whole fields that a file has in common with a right file stand before its flaw.
use Rattle.std.proofs.Common.{◌≡◌, ℕ, zero, suc, ◌+◌, ◌-◌, ◌^◌, ◌<◌, ◌≤◌, Bool, true, false, ◌&&◌, cond, ltb, leb, eqb, List, [], ◌∷◌, ◌++◌, map, length, drop, Option, Some, None, Result, Ok, Err, refl, sym, ap, subst, ◌∙◌, append_assoc, length-append, length-drop, arith, inl, inr}
use Rattle.std.specs.List.{AllByRecursion}
use Rattle.byteorder.specs.Endian.{big_bytes, big_number}
use Rattle.byteorder.specs.Numbers.{length-bytes_high_first}
use Rattle.camac_event.specs.declared.event.Usage.{Usage}
use Rattle.camac_event.specs.declared.event.Version.{Version}
use Rattle.camac_event.specs.declared.event.Version.TheVariants.{One, Two}
use Rattle.camac_event.specs.declared.fault.EventRule.{EventRule}
use Rattle.camac_event.specs.declared.fault.EventRule.TheVariants.{WrongMarker, GlOutOfRange, NumberOutOfOrder, MissedAboveCycles, CountAboveLimit, WordTooWide, Truncated}
use Rattle.camac_event.specs.Spelling.{Entry, header, HasUsage, UsageFits, IsEvent, AreEvents}
use Rattle.camac_event.specs.Reading.{Flaw, ◌>>=◌, flaw_at, number_at, tested_at, marker_at, gl_at, event_number_at, missed_at, usage_at, count_at, word_at, words_at, record_at, records_at, file_at}
use Rattle.camac_event.specs.Broken.{Field, field, usage_parts, word_field, counted_words, record_fields, fields_from, header_field, file_fields, joined, FileFaultsStand}
use Rattle.camac_event.proofs.Files.{number_again, marker_again, gl_again, event_number_again, count_again, word_again, missed_again, header_again}
use Rattle.camac_event.proofs.Reached.{bind_err, err_is, file_stops}

-- what reads a file of this size from here on, and what may follow a reader of X
abbrev Last : Type 0 → Type 0
Last Y = ℕ → List ℕ → Result Y Flaw

abbrev Reader : Type 0 → Type 0
Reader X = Last (X × List ℕ)

abbrev then : {X Y : Type 0} → Reader X → (X → Last Y) → Last Y
then r k total bytes = r total bytes >>= λ x. k x.0 total x.1

-- a flaw stands in what was left to read
abbrev Forward : {Y : Type 0} → Last Y → Type 0
Forward r = (total : ℕ) (bytes : List ℕ) (f : Flaw) → r total bytes ≡ Err f → total ≤ f.offset + length bytes

abbrev Shrinks : {X : Type 0} → Reader X → Type 0
Shrinks {X} r = (total : ℕ) (bytes : List ℕ) (x : X × List ℕ) → r total bytes ≡ Ok x → length x.1 ≤ length bytes

forward_then : {X Y : Type 0} (r : Reader X) (k : X → Last Y) → Forward r → Shrinks r → ((x : X) → Forward (k x)) → Forward (then r k)
forward_then r k first shrinks later total bytes f e =
    elim (bind_err (r total bytes) (λ x. k x.0 total x.1) f e) [
      | inl wrong ↦ first total bytes f wrong
      | inr (x, read, next) ↦
          let less = shrinks total bytes x read in
          let there = later x.0 total x.1 f next in
          omega (arith, less, there)
    ]

ok_then : {A B : Type 0} (r : Result A Flaw) (k : A → Result B Flaw) (y : B) → (r >>= k) ≡ Ok y → (x : A) × (r ≡ Ok x) × (k x ≡ Ok y)
ok_then (Ok x) k y e = (x, refl, e)
ok_then (Err d) k y e = absurd cc

shrinks_then : {X Y : Type 0} (r : Reader X) (k : X → Reader Y) → Shrinks r → ((x : X) → Shrinks (k x)) → Shrinks (then r k)
shrinks_then r k first later total bytes y e =
    let (x, read, next) = ok_then (r total bytes) (λ x. k x.0 total x.1) y e in
    let less = first total bytes x read in
    let fewer = later x.0 total x.1 y next in
    omega (arith, less, fewer)

-- ---- single fields

flaw_forward : {A : Type 0} (total : ℕ) (bytes : List ℕ) (rule : EventRule) (f : Flaw) → (let r : Result A Flaw = Err (flaw_at total bytes rule) in r) ≡ Err f → total ≤ f.offset + length bytes
flaw_forward {A = A} total bytes rule f e =
    let is : (let d : Flaw = flaw_at total bytes rule in d) ≡ f = flaw_eq {A = A} (flaw_at total bytes rule) f e in
    let offset : total - length bytes ≡ f.offset = ap (λ (d : Flaw). d.offset) is in
    omega (arith, offset)
  where
    flaw_eq : {A : Type 0} (d f : Flaw) → (let r : Result A Flaw = Err d in r) ≡ Err f → d ≡ f
    flaw_eq d f e = cc

forward_if : {A : Type 0} (b : Bool) (x y : Result A Flaw) (total n : ℕ) (f : Flaw) → (x ≡ Err f → total ≤ f.offset + n) → (y ≡ Err f → total ≤ f.offset + n) → cond b x y ≡ Err f → total ≤ f.offset + n
forward_if true x y total n f on off e = on e
forward_if false x y total n f on off e = off e

never : {A : Type 0} (x : A) (f : Flaw) (P : Type 0) → (let r : Result A Flaw = Ok x in r) ≡ Err f → P
never x f P e = absurd cc

number_forward : (width : ℕ) → Forward (number_at width)
number_forward width total bytes f e =
    forward_if (ltb (length bytes) width) (Err (flaw_at total bytes Truncated)) (Ok (big_number width bytes, drop width bytes)) total (length bytes) f
    (flaw_forward total bytes Truncated f) (never (big_number width bytes, drop width bytes) f _) e

ok_if : {A : Type 0} (b : Bool) (d : Flaw) (x y : A) → cond b (Err d) (Ok x) ≡ Ok y → x ≡ y
ok_if true d x y e = absurd cc
ok_if false d x y e = cc

ok_test : {A : Type 0} (b : Bool) (d : Flaw) (x y : A) → cond b (Ok x) (Err d) ≡ Ok y → x ≡ y
ok_test true d x y e = cc
ok_test false d x y e = absurd cc

number_shrinks : (width : ℕ) → Shrinks (number_at width)
number_shrinks width total bytes x e =
    let is = ok_if (ltb (length bytes) width) (flaw_at total bytes Truncated) (big_number width bytes, drop width bytes) x e in
    let less : length (drop width bytes) ≤ length bytes = omega (arith, length-drop width bytes) in
    subst (λ (y : ℕ × List ℕ). length y.1 ≤ length bytes) is less

tested_forward : (rule : EventRule) (test : ℕ → Bool) (width : ℕ) → Forward (tested_at rule test width)
tested_forward rule test width total bytes f e =
    elim (bind_err (number_at width total bytes) (λ n. cond (test n.0) (Ok n) (Err (flaw_at total bytes rule))) f e) [
      | inl short ↦ number_forward width total bytes f short
      | inr (n, read, next) ↦ forward_if (test n.0) (Ok n) (Err (flaw_at total bytes rule)) total (length bytes) f (never n f _) (flaw_forward total bytes rule f) next
    ]

tested_shrinks : (rule : EventRule) (test : ℕ → Bool) (width : ℕ) → Shrinks (tested_at rule test width)
tested_shrinks rule test width total bytes x e =
    let (n, read, next) = ok_then (number_at width total bytes) (λ n. cond (test n.0) (Ok n) (Err (flaw_at total bytes rule))) x e in
    subst (λ (y : ℕ × List ℕ). length y.1 ≤ length bytes) (ok_test (test n.0) (flaw_at total bytes rule) n x next) (number_shrinks width total bytes n read)

-- a reader that gives what it has read
abbrev gives : {X : Type 0} → X → Reader X
gives x total bytes = Ok (x, bytes)

gives_forward : {X : Type 0} (x : X) → Forward (gives x)
gives_forward x total bytes f e = never (x, bytes) f _ e

gives_shrinks : {X : Type 0} (x : X) → Shrinks (gives x)
gives_shrinks x total bytes y e = omega (arith, ap (λ (z : _). length z.1) (ok_is (x, bytes) y e)) where
  ok_is : {A : Type 0} (x y : A) → (let r : Result A Flaw = Ok x in r) ≡ Ok y → x ≡ y
  ok_is x y e = cc

-- ---- the readers of a record

-- what goes forward and leaves less
record Steps {X : Type 0} (r : Reader X) : Type 0 where
  pub forward : Forward r
  pub shrinks : Shrinks r

steps_then : {X Y : Type 0} (r : Reader X) (k : X → Reader Y) → Steps r → ((x : X) → Steps (k x)) → Steps (then r k)
steps_then r k first later = record {
  forward = forward_then r k first.forward first.shrinks (λ x. (later x).forward);
  shrinks = shrinks_then r k first.shrinks (λ x. (later x).shrinks);
}

gives_steps : {X : Type 0} (x : X) → Steps (gives x)
gives_steps x = record { forward = gives_forward x; shrinks = gives_shrinks x }

number_steps : (width : ℕ) → Steps (number_at width)
number_steps width = record { forward = number_forward width; shrinks = number_shrinks width }

tested_steps : (rule : EventRule) (test : ℕ → Bool) (width : ℕ) → Steps (tested_at rule test width)
tested_steps rule test width = record { forward = tested_forward rule test width; shrinks = tested_shrinks rule test width }

marker_steps : Steps marker_at
unfolding marker_at
marker_steps = tested_steps WrongMarker (λ n. eqb n 0xCA4D) 2

gl_steps : Steps gl_at
unfolding gl_at
gl_steps = tested_steps GlOutOfRange (λ n. leb 1 n && leb n 24) 2

event_number_steps : (number : ℕ) → Steps (event_number_at number)
unfolding event_number_at
event_number_steps number = tested_steps NumberOutOfOrder (λ n. eqb n number) 4

missed_steps : (cycles : ℕ) → Steps (missed_at cycles)
unfolding missed_at
missed_steps cycles = tested_steps MissedAboveCycles (λ n. leb n cycles) 2

count_steps : Steps count_at
unfolding count_at
count_steps = tested_steps CountAboveLimit (λ n. leb n 4096) 2

word_steps : Steps word_at
unfolding word_at
word_steps = tested_steps WordTooWide (λ n. ltb n (2 ^ 24)) 4

abbrev used : ℕ → Reader (Option Usage)
used cycles = then (missed_at cycles) (λ missed. gives (Some (record { cycles = cycles; missed = missed })))

usage_steps : (version : Version) → Steps (usage_at version)
unfolding usage_at
usage_steps One = gives_steps None
usage_steps Two = steps_then (number_at 4) used (number_steps 4) (λ cycles. steps_then (missed_at cycles) _ (missed_steps cycles) (λ missed. gives_steps _))

abbrev words_then : ℕ → ℕ → Reader (List ℕ)
words_then n first = then (words_at n) (λ others. gives (first ∷ others))

words_steps : (n : ℕ) → Steps (words_at n)
unfolding words_at
words_steps zero = gives_steps []
words_steps (suc n) = steps_then word_at (words_then n) word_steps (λ first. steps_then (words_at n) _ (words_steps n) (λ others. gives_steps (first ∷ others)))

-- a record, and what follows it
abbrev after_count : {Y : Type 0} → (Entry → Last Y) → ℕ → Option Usage → ℕ → Last Y
after_count k gl usage count = then (words_at count) (λ words. k (record { gl = gl; usage = usage; words = words }))

abbrev after_usage : {Y : Type 0} → (Entry → Last Y) → ℕ → Option Usage → Last Y
after_usage k gl usage = then count_at (after_count k gl usage)

abbrev after_number : {Y : Type 0} → (Entry → Last Y) → Version → ℕ → ℕ → Last Y
after_number k version gl named = then (usage_at version) (after_usage k gl)

abbrev after_gl : {Y : Type 0} → (Entry → Last Y) → Version → ℕ → ℕ → Last Y
after_gl k version number gl = then (event_number_at number) (after_number k version gl)

abbrev after_marker : {Y : Type 0} → (Entry → Last Y) → Version → ℕ → ℕ → Last Y
after_marker k version number marker = then gl_at (after_gl k version number)

abbrev record_then : {Y : Type 0} → (Entry → Last Y) → Version → ℕ → Last Y
record_then k version number = then marker_at (after_marker k version number)

record_steps : (version : Version) (number : ℕ) → Steps (record_at version number)
unfolding record_at
record_steps version number =
    steps_then marker_at (after_marker gives version number) marker_steps (λ m.
    steps_then gl_at (after_gl gives version number) gl_steps (λ gl.
    steps_then (event_number_at number) (after_number gives version gl) (event_number_steps number) (λ named.
    steps_then (usage_at version) (after_usage gives gl) (usage_steps version) (λ usage.
    steps_then count_at (after_count gives gl usage) count_steps (λ count.
    steps_then (words_at count) _ (words_steps count) (λ words. gives_steps _))))))

-- ---- regrouped

assoc : {A B C : Type 0} (r : Result A Flaw) (g : A → Result B Flaw) (h : B → Result C Flaw) → ((r >>= g) >>= h) ≡ (r >>= λ x. g x >>= h)
assoc (Ok x) g h = refl
assoc (Err d) g h = refl

under : {A B : Type 0} (r : Result A Flaw) (g h : A → Result B Flaw) → ((x : A) → g x ≡ h x) → (r >>= g) ≡ (r >>= h)
under (Ok x) g h same = same x
under (Err d) g h same = refl

-- ---- fields in common

-- where at most n bytes are left, and the first of them are whole fields of these, the flaw is after them
abbrev Late : {Y : Type 0} → ℕ → Last Y → List Field → Type 0
Late n r fields =
    (total : ℕ) (before after : List Field) (rest : List ℕ) (f : Flaw) → length (joined before ++ rest) ≤ n → fields ≡ before ++ after
    → r total (joined before ++ rest) ≡ Err f → total ≤ f.offset + length rest

late_same : {Y : Type 0} (n : ℕ) (r s : Last Y) (fields : List Field) → ((total : ℕ) (bytes : List ℕ) → r total bytes ≡ s total bytes) → Late n s fields → Late n r fields
late_same n r s fields same late total before after rest f few are e = late total before after rest f few are (sym (same total (joined before ++ rest)) ∙ e)

head_is : (x y : Field) (xs ys : List Field) → x ∷ xs ≡ y ∷ ys → x ≡ y
head_is x y xs ys e = cc

tail_is : (x y : Field) (xs ys : List Field) → x ∷ xs ≡ y ∷ ys → xs ≡ ys
tail_is x y xs ys e = cc

-- one field, and then what follows it
late_then : {X Y : Type 0} (n m : ℕ) (r : Reader X) (k : X → Last Y) (first : Field) (fields : List Field) (v : X)
    → n ≤ m + length first.bytes → Steps r → ((x : X) → Forward (k x))
    → ((total : ℕ) (rest : List ℕ) → r total (first.bytes ++ rest) ≡ Ok (v, rest)) → Late m (k v) fields → Late n (then r k) (first ∷ fields)
late_then n m r k first fields v room steps forward again late total [] after rest f few are e = forward_then r k steps.forward steps.shrinks forward total rest f e
late_then n m r k first fields v room steps forward again late total (b ∷ before) after rest f few are e =
    let same : b.bytes ≡ first.bytes = sym (ap (λ (x : Field). x.bytes) (head_is first b fields (before ++ after) are)) in
    let parts : (b.bytes ++ joined before) ++ rest ≡ first.bytes ++ (joined before ++ rest) = append_assoc b.bytes (joined before) rest ∙ ap (λ (t : List ℕ). t ++ (joined before ++ rest)) same in
    let long : length ((b.bytes ++ joined before) ++ rest) ≡ length first.bytes + length (joined before ++ rest) = ap length parts ∙ length-append first.bytes (joined before ++ rest) in
    let read : then r k total (first.bytes ++ (joined before ++ rest)) ≡ k v total (joined before ++ rest) = ap (λ (x : _). x >>= λ y. k y.0 total y.1) (again total (joined before ++ rest)) in
    late total before after rest f (omega (arith, few, long, room)) (tail_is first b fields (before ++ after) are)
    (sym read ∙ sym (ap (then r k total) parts) ∙ e)

late_words : {Y : Type 0} (n : ℕ) (ws : List ℕ) (k : List ℕ → Last Y) (fields : List Field) → AllByRecursion (λ w. w < 2 ^ 24) ws
    → ((x : List ℕ) → Forward (k x)) → Late n (k ws) fields → Late n (then (words_at (length ws)) k) (map word_field ws ++ fields)
unfolding words_at
late_words n [] k fields fit forward late = late
late_words n (w ∷ ws) k fields fit forward late =
    let next : ℕ → Last _ = λ (first : ℕ). then (words_at (length ws)) (λ others. k (first ∷ others)) in
    late_same n (then (words_at (suc (length ws))) k) (then word_at next) (word_field w ∷ (map word_field ws ++ fields))
    (λ total bytes.
    assoc (word_at total bytes) (λ x. words_then (length ws) x.0 total x.1) (λ y. k y.0 total y.1)
    ∙ under (word_at total bytes) _ _ (λ x. assoc (words_at (length ws) total x.1) (λ y. gives (x.0 ∷ y.0) total y.1) (λ y. k y.0 total y.1)))
    (late_then n n word_at next (word_field w) (map word_field ws ++ fields) w (omega arith) word_steps
    (λ x. forward_then (words_at (length ws)) (λ others. k (x ∷ others)) (words_steps (length ws)).forward (words_steps (length ws)).shrinks (λ others. forward (x ∷ others)))
    (λ total rest. word_again total w rest fit.0)
    (late_words n ws (λ others. k (w ∷ others)) fields fit.1 (λ others. forward (w ∷ others)) late))

late_usage : {Y : Type 0} (n : ℕ) (version : Version) (u : Option Usage) (k : Option Usage → Last Y) (fields : List Field) → HasUsage version u → UsageFits u
    → ((x : Option Usage) → Forward (k x)) → Late n (k u) fields → Late n (then (usage_at version) k) (usage_parts u ++ fields)
unfolding usage_at
late_usage n One None k fields has fits forward late = late
late_usage n One (Some u) k fields has fits forward late = absurd cc
late_usage n Two None k fields has fits forward late = absurd has
late_usage n Two (Some u) k fields has fits forward late =
    let last : ℕ → ℕ → Last _ = λ (cycles missed : ℕ). k (Some (record { cycles = cycles; missed = missed })) in
    let next : ℕ → Last _ = λ (cycles : ℕ). then (missed_at cycles) (last cycles) in
    late_same n (then (usage_at Two) k) (then (number_at 4) next) (usage_parts (Some u) ++ fields)
    (λ total bytes.
    assoc (number_at 4 total bytes) (λ x. used x.0 total x.1) (λ y. k y.0 total y.1)
    ∙ under (number_at 4 total bytes) _ _ (λ x. assoc (missed_at x.0 total x.1) (λ y. gives (Some (record { cycles = x.0; missed = y.0 })) total y.1) (λ y. k y.0 total y.1)))
    (late_then n n (number_at 4) next (field Truncated (big_bytes 4 u.cycles)) (field MissedAboveCycles (big_bytes 2 u.missed) ∷ fields) u.cycles (omega arith) (number_steps 4)
    (λ x. forward_then (missed_at x) (last x) (missed_steps x).forward (missed_steps x).shrinks (λ y. forward (Some (record { cycles = x; missed = y }))))
    (λ total rest. number_again 4 total u.cycles rest (omega (arith, fits.0)))
    (late_then n n (missed_at u.cycles) (last u.cycles) (field MissedAboveCycles (big_bytes 2 u.missed)) fields u.missed (omega arith) (missed_steps u.cycles)
    (λ y. forward (Some (record { cycles = u.cycles; missed = y })))
    (λ total rest. missed_again u.cycles total u.missed rest has fits.1) late))

-- a record, which is longer than nothing, and then what follows it
module _ {Y : Type 0} (n : ℕ) (version : Version) (number : ℕ) (e : Entry) (right : IsEvent version e) (below : number < 2 ^ 32) (k : Entry → Last Y) (fields : List Field)
    (forward : (x : Entry) → Forward (k x)) where
  forward_count : (gl : ℕ) (usage : Option Usage) (count : ℕ) → Forward (after_count k gl usage count)
  forward_count gl usage count = forward_then (words_at count) _ (words_steps count).forward (words_steps count).shrinks (λ words. forward _)

  forward_usage : (gl : ℕ) (usage : Option Usage) → Forward (after_usage k gl usage)
  forward_usage gl usage = forward_then count_at (after_count k gl usage) count_steps.forward count_steps.shrinks (forward_count gl usage)

  forward_number : (gl named : ℕ) → Forward (after_number k version gl named)
  forward_number gl named = forward_then (usage_at version) (after_usage k gl) (usage_steps version).forward (usage_steps version).shrinks (forward_usage gl)

  forward_gl : (gl : ℕ) → Forward (after_gl k version number gl)
  forward_gl gl = forward_then (event_number_at number) (after_number k version gl) (event_number_steps number).forward (event_number_steps number).shrinks (forward_number gl)

  forward_marker : (m : ℕ) → Forward (after_marker k version number m)
  forward_marker m = forward_then gl_at (after_gl k version number) gl_steps.forward gl_steps.shrinks forward_gl

  late_counted : Late n (k e) fields → Late n (after_usage k e.gl e.usage) (counted_words e.words ++ fields)
  late_counted late =
      late_then n n count_at (after_count k e.gl e.usage) (field CountAboveLimit (big_bytes 2 (length e.words))) (map word_field e.words ++ fields) (length e.words) (omega arith) count_steps
      (forward_count e.gl e.usage) (λ total rest. count_again total (length e.words) rest right.count)
      (late_words n e.words (λ words. k (record { gl = e.gl; usage = e.usage; words = words })) fields right.words (λ words. forward _) late)

  late_named : Late n (k e) fields → Late n (after_gl k version number e.gl) (field NumberOutOfOrder (big_bytes 4 number) ∷ ((usage_parts e.usage ++ counted_words e.words) ++ fields))
  late_named late =
      late_then n n (event_number_at number) (after_number k version e.gl) (field NumberOutOfOrder (big_bytes 4 number)) ((usage_parts e.usage ++ counted_words e.words) ++ fields) number (omega arith) (event_number_steps number)
      (forward_number e.gl) (λ total rest. event_number_again number total rest below)
      (subst (Late n (after_number k version e.gl number)) (sym (append_assoc (usage_parts e.usage) (counted_words e.words) fields))
      (late_usage n version e.usage (after_usage k e.gl) (counted_words e.words ++ fields) right.usage right.usage_fits (forward_usage e.gl) (late_counted late)))

  late_record : Late n (k e) fields → Late (suc n) (record_then k version number) (record_fields number e ++ fields)
  late_record late =
      let two = length-bytes_high_first 2 0xCA4D in
      late_then (suc n) n marker_at (after_marker k version number) (field WrongMarker (big_bytes 2 0xCA4D)) _ 0xCA4D (omega (arith, two)) marker_steps forward_marker marker_again
      (late_then n n gl_at (after_gl k version number) (field GlOutOfRange (big_bytes 2 e.gl)) _ e.gl (omega arith) gl_steps forward_gl (λ total rest. gl_again total e.gl rest right.gl_low right.gl_high)
      (late_named late))

-- ---- records and files

abbrev records_then : ℕ → Version → ℕ → Entry → Last (List Entry)
records_then most version number first total bytes = records_at most version (number + 1) total bytes >>= λ others. Ok (first ∷ others)

err_only : {A B : Type 0} (r : Result A Flaw) (g : A → B) (f : Flaw) → (r >>= λ x. Ok (g x)) ≡ Err f → r ≡ Err f
err_only (Ok x) g f e = absurd cc
err_only (Err d) g f e = err_is d f e

records_forward : (most : ℕ) (version : Version) (number : ℕ) → Forward (records_at most version number)
unfolding records_at
records_forward most version number total [] f e = never [] f _ e
records_forward zero version number total (b ∷ bytes) f e = flaw_forward total (b ∷ bytes) Truncated f e
records_forward (suc most) version number total (b ∷ bytes) f e =
    forward_then (record_at version number) (records_then most version number) (record_steps version number).forward (record_steps version number).shrinks
    (λ first t left d wrong. records_forward most version (number + 1) t left d (err_only (records_at most version (number + 1) t left) (λ others. first ∷ others) d wrong)) total (b ∷ bytes) f e

-- a record and the records after it
first_record : (most : ℕ) (version : Version) (number total : ℕ) (bytes : List ℕ) (f : Flaw) → records_at (suc most) version number total bytes ≡ Err f → record_then (records_then most version number) version number total bytes ≡ Err f
unfolding records_at record_at
first_record most version number total [] f e = never [] f _ e
first_record most version number total (b ∷ bytes) f e = sym (regroup (b ∷ bytes)) ∙ e where
  regroup : (bytes : List ℕ) → (record_at version number total bytes >>= λ x. records_then most version number x.0 total x.1) ≡ record_then (records_then most version number) version number total bytes
  regroup bytes =
      assoc (marker_at total bytes) _ _ ∙ under (marker_at total bytes) _ _ (λ m.
      assoc (gl_at total m.1) _ _ ∙ under (gl_at total m.1) _ _ (λ gl.
      assoc (event_number_at number total gl.1) _ _ ∙ under (event_number_at number total gl.1) _ _ (λ named.
      assoc (usage_at version total named.1) _ _ ∙ under (usage_at version total named.1) _ _ (λ usage.
      assoc (count_at total usage.1) _ _ ∙ under (count_at total usage.1) _ _ (λ count.
      assoc (words_at count.0 total count.1) _ _)))))

late_records : (most : ℕ) (version : Version) (number : ℕ) (es : List Entry) → AllByRecursion (IsEvent version) es → number + length es ≤ 2 ^ 32
    → Late most (records_at most version number) (fields_from number es)
late_records most version number es right below total [] after rest f few are e = records_forward most version number total rest f e
late_records most version number [] right below total (b ∷ before) after rest f few are e = absurd cc
late_records zero version number (v ∷ es) right below total (b ∷ before) after rest f few are e =
    let same : b.bytes ≡ big_bytes 2 0xCA4D = sym (ap (λ (x : Field). x.bytes) (head_is _ b _ (before ++ after) are)) in
    let two = length-bytes_high_first 2 0xCA4D in
    let whole = length-append (b.bytes ++ joined before) rest in
    let prefix = length-append b.bytes (joined before) in
    let size : length b.bytes ≡ 2 = ap length same ∙ two in
    absurd (omega (arith, whole, prefix, size, few))
late_records (suc most) version number (v ∷ es) right below total (b ∷ before) after rest f few are e =
    late_record most version number v right.0 (omega (arith, below)) (records_then most version number) (fields_from (number + 1) es)
    (λ first t left d wrong. records_forward most version (number + 1) t left d (err_only (records_at most version (number + 1) t left) (λ others. first ∷ others) d wrong))
    (λ t prefix back left d less same wrong. late_records most version (number + 1) es right.1 (omega (arith, below)) t prefix back left d less same (err_only (records_at most version (number + 1) t (joined prefix ++ left)) (λ others. v ∷ others) d wrong))
    total (b ∷ before) after rest f few are (first_record most version number total (joined (b ∷ before) ++ rest) f e)

late_file : (version : Version) (es : List Entry) → AreEvents version es → (before after : List Field) (rest : List ℕ) (f : Flaw)
    → file_fields version es ≡ before ++ after → file_at (joined before ++ rest) ≡ Err f → length (joined before) ≤ f.offset
unfolding file_at
late_file version es right [] after rest f are e = omega arith
late_file version es right (b ∷ before) after rest f are e =
    let same : b.bytes ≡ header version = sym (ap (λ (x : Field). x.bytes) (head_is (header_field version) b (fields_from 1 es) (before ++ after) are)) in
    let left : List ℕ = joined before ++ rest in
    let parts : (b.bytes ++ joined before) ++ rest ≡ header version ++ left = append_assoc b.bytes (joined before) rest ∙ ap (λ (t : List ℕ). t ++ left) same in
    let total : ℕ = length (header version ++ left) in
    let read : file_at (header version ++ left) ≡ (records_at (length left) version 1 total left >>= λ events. Ok (version, events)) =
    ap (λ (x : _). x >>= λ y. records_at (length y.1) y.0 1 total y.1 >>= λ events. Ok (y.0, events)) (header_again version total left) in
    let wrong = err_only (records_at (length left) version 1 total left) (λ events. (version, events)) f (sym read ∙ sym (ap file_at parts) ∙ e) in
    let late = late_records (length left) version 1 es right.1 (omega (arith, right.0)) total before after rest f (omega arith) (tail_is (header_field version) b (fields_from 1 es) (before ++ after) are) wrong in
    let whole : total ≡ length (joined (b ∷ before)) + length rest = sym (ap length parts) ∙ length-append (b.bytes ++ joined before) rest in
    omega (arith, late, whole)

pub file_faults_stand : FileFaultsStand
file_faults_stand bytes fits f e =
    let s = file_stops bytes f fits e in
    record {
      version = s.version;
      events = s.events;
      right = s.right;
      reaches = s.reaches;
      furthest = λ other others right before after rest are parts. late_file other others right before after rest f are (sym (ap file_at parts) ∙ e);
    }
