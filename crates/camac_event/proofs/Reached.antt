-- Up to its flaw a file is whole fields of some right events.
use Rattle.std.proofs.Common.{◌≡◌, ℕ, zero, suc, ◌+◌, ◌-◌, ◌^◌, ◌<◌, ◌≤◌, Bool, true, false, ◌&&◌, cond, ltb, leb, eqb, drop, List, [], ◌∷◌, ◌++◌, map, length, Option, Some, None, Result, Ok, Err, refl, sym, ap, subst, ◌∙◌, append_assoc, length-append, arith, ◌⊎◌, inl, inr}
use Rattle.std.specs.Prelude.{nat_eq}
use Rattle.std.specs.List.{flat_map, AllByRecursion, starts_with}
use Rattle.std.proofs.lemmas.List.{append-nil}
use Rattle.std.proofs.lemmas.List.Concat.{flat_map-cons}
use Rattle.byteorder.specs.Endian.{big_bytes, big_number}
use Rattle.byteorder.specs.Numbers.{length-bytes_high_first}
use Rattle.camac_event.specs.declared.event.Usage.{Usage}
use Rattle.camac_event.specs.declared.event.Version.{Version}
use Rattle.camac_event.specs.declared.event.Version.TheVariants.{One, Two}
use Rattle.camac_event.specs.declared.fault.EventRule.{EventRule}
use Rattle.camac_event.specs.declared.fault.EventRule.TheVariants.{WrongHeader, WrongMarker, GlOutOfRange, NumberOutOfOrder, MissedAboveCycles, CountAboveLimit, WordTooWide, Truncated}
use Rattle.camac_event.specs.Spelling.{Entry, usage_fields, record_of, records_from, header, HasUsage, UsageFits, IsEvent}
use Rattle.camac_event.specs.Reading.{Flaw, ◌>>=◌, flaw_at, number_at, tested_at, marker_at, gl_at, event_number_at, missed_at, usage_at, count_at, word_at, words_at, record_at, records_at, header_at, file_at}
use Rattle.camac_event.specs.Broken.{Field, field, usage_parts, word_field, counted_words, record_fields, fields_from, header_field, file_fields, joined, FieldsSpell, Reaches}
use Rattle.camac_event.proofs.Files.{IsBytes, four_wide, number_takes, marker_takes, gl_takes, event_number_takes, count_takes, word_takes, usage_takes, record_takes, header_takes}

-- ---- the fields and the spelling

pub joined-append : (fs gs : List Field) → joined (fs ++ gs) ≡ joined fs ++ joined gs
joined-append [] gs = refl
joined-append (f ∷ fs) gs = ap (λ (t : List ℕ). f.bytes ++ t) (joined-append fs gs) ∙ sym (append_assoc f.bytes (joined fs) (joined gs))

joined_words : (ws : List ℕ) → joined (map word_field ws) ≡ flat_map (big_bytes 4) ws
joined_words [] = refl
joined_words (w ∷ ws) = ap (λ (t : List ℕ). big_bytes 4 w ++ t) (joined_words ws) ∙ sym (flat_map-cons (big_bytes 4) w ws)

joined_usage : (u : Option Usage) → joined (usage_parts u) ≡ usage_fields u
joined_usage None = refl
joined_usage (Some u) = ap (λ (t : List ℕ). big_bytes 4 u.cycles ++ t) (append-nil (big_bytes 2 u.missed))

group : (a b c d f g : List ℕ) → a ++ (b ++ (c ++ (d ++ (f ++ g)))) ≡ ((((a ++ b) ++ c) ++ d) ++ f) ++ g
group a b c d f g = sym (simp append_assoc)

pub joined_record : (number : ℕ) (e : Entry) → joined (record_fields number e) ≡ record_of number e
joined_record number e =
    let tail : joined (usage_parts e.usage ++ counted_words e.words) ≡ usage_fields e.usage ++ (big_bytes 2 (length e.words) ++ flat_map (big_bytes 4) e.words) =
    joined-append (usage_parts e.usage) (counted_words e.words)
    ∙ ap (λ (t : List ℕ). t ++ joined (counted_words e.words)) (joined_usage e.usage)
    ∙ ap (λ (t : List ℕ). usage_fields e.usage ++ (big_bytes 2 (length e.words) ++ t)) (joined_words e.words) in
    ap (λ (t : List ℕ). big_bytes 2 0xCA4D ++ (big_bytes 2 e.gl ++ (big_bytes 4 number ++ t))) tail
    ∙ group (big_bytes 2 0xCA4D) (big_bytes 2 e.gl) (big_bytes 4 number) (usage_fields e.usage) (big_bytes 2 (length e.words)) (flat_map (big_bytes 4) e.words)

joined_records : (number : ℕ) (es : List Entry) → joined (fields_from number es) ≡ records_from number es
joined_records number [] = refl
joined_records number (e ∷ es) =
    joined-append (record_fields number e) (fields_from (number + 1) es)
    ∙ ap (λ (t : List ℕ). t ++ joined (fields_from (number + 1) es)) (joined_record number e)
    ∙ ap (λ (t : List ℕ). record_of number e ++ t) (joined_records (number + 1) es)

pub fields_spell : FieldsSpell
fields_spell version es = ap (λ (t : List ℕ). header version ++ t) (joined_records 1 es)

-- ---- where a reader stops

pub err_is : {A B : Type 0} (d f : Flaw) → (let r : Result B Flaw = Err d in r) ≡ Err f → (let t : Result A Flaw = Err d in t) ≡ Err f
err_is d f e = cc

-- a step that failed, or one that did not and what followed it
pub bind_err : {A B : Type 0} (r : Result A Flaw) (k : A → Result B Flaw) (f : Flaw) → (r >>= k) ≡ Err f → (r ≡ Err f) ⊎ ((x : A) × (r ≡ Ok x) × (k x ≡ Err f))
bind_err (Ok x) k f e = inr (x, refl, e)
bind_err (Err d) k f e = inl (err_is d f e)

-- of a file of this size: the bytes are the first of these fields up to the flaw, where the next one is not
record StopsIn (total : ℕ) (bytes : List ℕ) (fields : List Field) (f : Flaw) : Type 0 where
  pub before : List Field
  pub next : Field
  pub after : List Field
  pub rest : List ℕ
  pub are_fields : fields ≡ before ++ next ∷ after
  pub parts : bytes ≡ joined before ++ rest
  pub offset : f.offset ≡ total - length rest
  pub rule : f.rule ≡ cond (ltb (length rest) (length next.bytes)) next.cut next.wrong

-- at the first field
stops_here : (total : ℕ) (bytes : List ℕ) (next : Field) (after : List Field) (f : Flaw) → f ≡ flaw_at total bytes (cond (ltb (length bytes) (length next.bytes)) next.cut next.wrong) → StopsIn total bytes (next ∷ after) f
stops_here total bytes next after f e = record {
  before = [];
  next = next;
  after = after;
  rest = bytes;
  are_fields = refl;
  parts = refl;
  offset = ap (λ (d : Flaw). d.offset) e;
  rule = ap (λ (d : Flaw). d.rule) e;
}

-- after whole fields
stops_after : (total : ℕ) (bytes : List ℕ) (prefix fields : List Field) (rest : List ℕ) (f : Flaw) → bytes ≡ joined prefix ++ rest → StopsIn total rest fields f → StopsIn total bytes (prefix ++ fields) f
stops_after total bytes prefix fields rest f parts s = record {
  before = prefix ++ s.before;
  next = s.next;
  after = s.after;
  rest = s.rest;
  are_fields = ap (λ (t : List Field). prefix ++ t) s.are_fields ∙ sym (append_assoc prefix s.before (s.next ∷ s.after));
  parts = parts ∙ ap (λ (t : List ℕ). joined prefix ++ t) s.parts ∙ sym (append_assoc (joined prefix) (joined s.before) s.rest) ∙ ap (λ (t : List ℕ). t ++ s.rest) (sym (joined-append prefix s.before));
  offset = s.offset;
  rule = s.rule;
}

stops_later : (total : ℕ) (bytes : List ℕ) (first : Field) (fields : List Field) (rest : List ℕ) (f : Flaw) → bytes ≡ first.bytes ++ rest → StopsIn total rest fields f → StopsIn total bytes (first ∷ fields) f
stops_later total bytes first fields rest f parts s =
    stops_after total bytes (first ∷ []) fields rest f (parts ∙ ap (λ (t : List ℕ). t ++ rest) (sym (append-nil first.bytes))) s

-- with further fields
stops_with : (total : ℕ) (bytes : List ℕ) (fields more : List Field) (f : Flaw) → StopsIn total bytes fields f → StopsIn total bytes (fields ++ more) f
stops_with total bytes fields more f s = record {
  before = s.before;
  next = s.next;
  after = s.after ++ more;
  rest = s.rest;
  are_fields = ap (λ (t : List Field). t ++ more) s.are_fields ∙ append_assoc s.before (s.next ∷ s.after) more;
  parts = s.parts;
  offset = s.offset;
  rule = s.rule;
}

-- ---- single fields

flaw_is : {A : Type 0} (d f : Flaw) → (let r : Result A Flaw = Err d in r) ≡ Err f → f ≡ d
flaw_is d f e = cc

cut_flaw : {A : Type 0} (b : Bool) (d f : Flaw) (x : A) → cond b (Err d) (Ok x) ≡ Err f → (b ≡ true) × (f ≡ d)
cut_flaw true d f x e = (refl, flaw_is d f e)
cut_flaw false d f x e = absurd cc

whole : {A : Type 0} (b : Bool) (d : Flaw) (x y : A) → cond b (Err d) (Ok x) ≡ Ok y → b ≡ false
whole true d x y e = absurd cc
whole false d x y e = refl

test_flaw : {A : Type 0} (b : Bool) (d f : Flaw) (x : A) → cond b (Ok x) (Err d) ≡ Err f → f ≡ d
test_flaw true d f x e = absurd cc
test_flaw false d f x e = flaw_is d f e

number_stops : (width total : ℕ) (bytes : List ℕ) (f : Flaw) (rule : EventRule) (text : List ℕ) (after : List Field) → length text ≡ width → number_at width total bytes ≡ Err f → StopsIn total bytes (field rule text ∷ after) f
number_stops width total bytes f rule text after len e =
    let short = cut_flaw (ltb (length bytes) width) (flaw_at total bytes Truncated) f (big_number width bytes, drop width bytes) e in
    stops_here total bytes (field rule text) after f (rw (len, short.0) short.1)

tested_stops : (rule : EventRule) (test : ℕ → Bool) (width total : ℕ) (bytes : List ℕ) (f : Flaw) (text : List ℕ) (after : List Field) → length text ≡ width → tested_at rule test width total bytes ≡ Err f → StopsIn total bytes (field rule text ∷ after) f
tested_stops rule test width total bytes f text after len e =
    elim (bind_err (number_at width total bytes) (λ x. cond (test x.0) (Ok x) (Err (flaw_at total bytes rule))) f e) [
      | inl short ↦ number_stops width total bytes f rule text after len short
      | inr read ↦
          let long = whole (ltb (length bytes) width) (flaw_at total bytes Truncated) (big_number width bytes, drop width bytes) read.0 read.1 in
          stops_here total bytes (field rule text) after f (rw (len, long) (test_flaw (test read.0.0) (flaw_at total bytes rule) f read.0 read.2))
    ]

-- ---- words and usage

zeros : ℕ → List ℕ
zeros zero = []
zeros (suc n) = 0 ∷ zeros n

zeros_are : (n : ℕ) → (length (zeros n) ≡ n) × AllByRecursion (λ w. w < 2 ^ 24) (zeros n)
unfolding zeros
zeros_are zero = (refl, tt)
zeros_are (suc n) = (ap suc (zeros_are n).0, (omega arith, (zeros_are n).1))

record WordsStop (n total : ℕ) (bytes : List ℕ) (f : Flaw) : Type 0 where
  pub words : List ℕ
  pub count : length words ≡ n
  pub fit : AllByRecursion (λ w. w < 2 ^ 24) words
  pub stops : StopsIn total bytes (map word_field words) f

words_stop : (n total : ℕ) (bytes : List ℕ) (f : Flaw) → IsBytes bytes → words_at n total bytes ≡ Err f → WordsStop n total bytes f
unfolding words_at word_at
words_stop zero total bytes f fits e = absurd cc
words_stop (suc n) total bytes f fits e =
    elim (bind_err (word_at total bytes) (λ first. words_at n total first.1 >>= λ others. Ok (first.0 ∷ others.0, others.1)) f e) [
      | inl wrong ↦ record {
        words = 0 ∷ zeros n;
        count = ap suc (zeros_are n).0;
        fit = (omega arith, (zeros_are n).1);
        stops = tested_stops WordTooWide (λ m. ltb m (2 ^ 24)) 4 total bytes f (big_bytes 4 0) (map word_field (zeros n)) (length-bytes_high_first 4 0) wrong;
      }
      | inr read ↦
          let first = word_takes total bytes read.0 fits read.1 in
          elim (bind_err (words_at n total read.0.1) (λ others. Ok (read.0.0 ∷ others.0, others.1)) f read.2) [
            | inl later ↦
                let s = words_stop n total read.0.1 f first.0.rest_fits later in
                record {
                  words = read.0.0 ∷ s.words;
                  count = ap suc s.count;
                  fit = (first.1, s.fit);
                  stops = stops_later total bytes (word_field read.0.0) (map word_field s.words) read.0.1 f first.0.parts s.stops;
                }
            | inr never ↦ absurd (let bad = never.2 in cc)
          ]
    ]

record UsageStops (version : Version) (total : ℕ) (bytes : List ℕ) (after : List Field) (f : Flaw) : Type 0 where
  pub usage : Option Usage
  pub has : HasUsage version usage
  pub fits : UsageFits usage
  pub stops : StopsIn total bytes (usage_parts usage ++ after) f

usage_stops : (version : Version) (total : ℕ) (bytes : List ℕ) (after : List Field) (f : Flaw) → IsBytes bytes → usage_at version total bytes ≡ Err f → UsageStops version total bytes after f
unfolding usage_at missed_at
usage_stops One total bytes after f fits e = absurd cc
usage_stops Two total bytes after f fits e =
    elim (bind_err (number_at 4 total bytes) (λ cycles. missed_at cycles.0 total cycles.1 >>= λ missed. Ok (Some (record { cycles = cycles.0; missed = missed.0 }), missed.1)) f e) [
      | inl wrong ↦ record {
        usage = Some (record { cycles = 0; missed = 0 });
        has = omega arith;
        fits = (omega arith, omega arith);
        stops = number_stops 4 total bytes f Truncated (big_bytes 4 0) (field MissedAboveCycles (big_bytes 2 0) ∷ after) (length-bytes_high_first 4 0) wrong;
      }
      | inr read ↦
          let first = number_takes 4 four_wide total bytes read.0.0 read.0.1 fits read.1 in
          let below = first.1 in
          elim (bind_err (missed_at read.0.0 total read.0.1) (λ missed. Ok (Some (record { cycles = read.0.0; missed = missed.0 }), missed.1)) f read.2) [
            | inl wrong ↦ record {
              usage = Some (record { cycles = read.0.0; missed = 0 });
              has = omega arith;
              fits = (omega (arith, below), omega arith);
              stops = stops_later total bytes (field Truncated (big_bytes 4 read.0.0)) (field MissedAboveCycles (big_bytes 2 0) ∷ after) read.0.1 f first.0.parts (tested_stops MissedAboveCycles (λ n. leb n read.0.0) 2 total read.0.1 f (big_bytes 2 0) after (length-bytes_high_first 2 0) wrong);
            }
            | inr never ↦ absurd (let bad = never.2 in cc)
          ]
    ]

-- ---- records

-- a usage that is right in the version
record RightUsage (version : Version) : Type 0 where
  pub usage : Option Usage
  pub has : HasUsage version usage
  pub fits : UsageFits usage

right_usage : (version : Version) → RightUsage version
right_usage One = record { usage = None; has = refl; fits = tt }
right_usage Two = record { usage = Some (record { cycles = 0; missed = 0 }); has = omega arith; fits = (omega arith, omega arith) }

record RecordStops (version : Version) (number total : ℕ) (bytes : List ℕ) (f : Flaw) : Type 0 where
  pub event : Entry
  pub right : IsEvent version event
  pub stops : StopsIn total bytes (record_fields number event) f

-- a right event of this bit and usage without words
plain : ℕ → Option Usage → Entry
plain gl usage = record { gl = gl; usage = usage; words = [] }

plain_right : (version : Version) (gl : ℕ) (usage : Option Usage) → 1 ≤ gl → gl ≤ 24 → HasUsage version usage → UsageFits usage → IsEvent version (plain gl usage)
unfolding plain
plain_right version gl usage from to has fits = record { gl_low = from; gl_high = to; usage = has; usage_fits = fits; count = omega arith; words = tt }

marker : Field
marker = field WrongMarker (big_bytes 2 0xCA4D)

record_stops : (version : Version) (number total : ℕ) (bytes : List ℕ) (f : Flaw) → IsBytes bytes → record_at version number total bytes ≡ Err f → RecordStops version number total bytes f
unfolding record_at marker_at gl_at event_number_at count_at plain marker
record_stops version number total bytes f fits e =
    let u = right_usage version in
    elim (bind_err (marker_at total bytes) (λ m. gl_at total m.1 >>= λ gl. event_number_at number total gl.1 >>= λ named. usage_at version total named.1 >>= λ usage. count_at total usage.1 >>= λ count. words_at count.0 total count.1 >>= λ words. Ok (record { gl = gl.0; usage = usage.0; words = words.0 }, words.1)) f e) [
      | inl wrong ↦
          let made : Entry = plain 1 u.usage in
          record {
            event = made;
            right = plain_right version 1 u.usage (omega arith) (omega arith) u.has u.fits;
            stops = tested_stops WrongMarker (λ n. eqb n 0xCA4D) 2 total bytes f (big_bytes 2 0xCA4D) _ (length-bytes_high_first 2 0xCA4D) wrong;
          }
      | inr a ↦
          let ta = marker_takes total bytes a.0 fits a.1 in
          elim (bind_err (gl_at total a.0.1) (λ gl. event_number_at number total gl.1 >>= λ named. usage_at version total named.1 >>= λ usage. count_at total usage.1 >>= λ count. words_at count.0 total count.1 >>= λ words. Ok (record { gl = gl.0; usage = usage.0; words = words.0 }, words.1)) f a.2) [
            | inl wrong ↦ record {
              event = plain 1 u.usage;
              right = plain_right version 1 u.usage (omega arith) (omega arith) u.has u.fits;
              stops = stops_later total bytes marker _ a.0.1 f ta.parts (tested_stops GlOutOfRange (λ n. leb 1 n && leb n 24) 2 total a.0.1 f (big_bytes 2 1) _ (length-bytes_high_first 2 1) wrong);
            }
            | inr b ↦
                let tb = gl_takes total a.0.1 b.0 ta.rest_fits b.1 in
                elim (bind_err (event_number_at number total b.0.1) (λ named. usage_at version total named.1 >>= λ usage. count_at total usage.1 >>= λ count. words_at count.0 total count.1 >>= λ words. Ok (record { gl = b.0.0; usage = usage.0; words = words.0 }, words.1)) f b.2) [
                  | inl wrong ↦ record {
                    event = plain b.0.0 u.usage;
                    right = plain_right version b.0.0 u.usage tb.1 tb.2 u.has u.fits;
                    stops = stops_later total bytes marker _ a.0.1 f ta.parts (stops_later total a.0.1 (field GlOutOfRange (big_bytes 2 b.0.0)) _ b.0.1 f tb.0.parts (tested_stops NumberOutOfOrder (λ n. eqb n number) 4 total b.0.1 f (big_bytes 4 number) _ (length-bytes_high_first 4 number) wrong));
                  }
                  | inr c ↦
                      let tc = event_number_takes number total b.0.1 c.0 tb.0.rest_fits c.1 in
                      let three = λ (fields : List Field) (s : StopsIn total c.0.1 fields f). stops_later total bytes marker _ a.0.1 f ta.parts (stops_later total a.0.1 (field GlOutOfRange (big_bytes 2 b.0.0)) _ b.0.1 f tb.0.parts (stops_later total b.0.1 (field NumberOutOfOrder (big_bytes 4 number)) fields c.0.1 f tc.0.parts s)) in
                      usage_or_later version number total bytes f b.0.0 c.0.1 tb.1 tb.2 tc.0.rest_fits three c.2
                ]
          ]
    ]
  where
    usage_or_later : (version : Version) (number total : ℕ) (bytes : List ℕ) (f : Flaw) (gl : ℕ) (left : List ℕ) → 1 ≤ gl → gl ≤ 24 → IsBytes left
        → ((fields : List Field) → StopsIn total left fields f → StopsIn total bytes (marker ∷ field GlOutOfRange (big_bytes 2 gl) ∷ field NumberOutOfOrder (big_bytes 4 number) ∷ fields) f)
        → (let read : Result (Entry × List ℕ) Flaw = usage_at version total left >>= λ usage. count_at total usage.1 >>= λ count. words_at count.0 total count.1 >>= λ words. Ok (record { gl = gl; usage = usage.0; words = words.0 }, words.1) in read) ≡ Err f
        → RecordStops version number total bytes f
    usage_or_later version number total bytes f gl left from to fits three e =
        elim (bind_err (usage_at version total left) (λ usage. count_at total usage.1 >>= λ count. words_at count.0 total count.1 >>= λ words. Ok (record { gl = gl; usage = usage.0; words = words.0 }, words.1)) f e) [
          | inl wrong ↦
              let s = usage_stops version total left (counted_words []) f fits wrong in
              record { event = plain gl s.usage; right = plain_right version gl s.usage from to s.has s.fits; stops = three _ s.stops }
          | inr d ↦
              let td = usage_takes version total left d.0 fits d.1 in
              let used : left ≡ joined (usage_parts d.0.0) ++ d.0.1 = td.0.parts ∙ ap (λ (t : List ℕ). t ++ d.0.1) (sym (joined_usage d.0.0)) in
              elim (bind_err (count_at total d.0.1) (λ count. words_at count.0 total count.1 >>= λ words. Ok (record { gl = gl; usage = d.0.0; words = words.0 }, words.1)) f d.2) [
                | inl wrong ↦ record {
                  event = plain gl d.0.0;
                  right = plain_right version gl d.0.0 from to td.1 td.2;
                  stops = three _ (stops_after total left (usage_parts d.0.0) _ d.0.1 f used (tested_stops CountAboveLimit (λ n. leb n 4096) 2 total d.0.1 f (big_bytes 2 0) [] (length-bytes_high_first 2 0) wrong));
                }
                | inr k ↦
                    let tk = count_takes total d.0.1 k.0 td.0.rest_fits k.1 in
                    elim (bind_err (words_at k.0.0 total k.0.1) (λ words. Ok (record { gl = gl; usage = d.0.0; words = words.0 }, words.1)) f k.2) [
                      | inl wrong ↦
                          let s = words_stop k.0.0 total k.0.1 f tk.0.rest_fits wrong in
                          let count = s.count in
                          let few = tk.1 in
                          let counted : d.0.1 ≡ big_bytes 2 (length s.words) ++ k.0.1 = tk.0.parts ∙ ap (λ (n : ℕ). big_bytes 2 n ++ k.0.1) (sym s.count) in
                          record {
                            event = record { gl = gl; usage = d.0.0; words = s.words };
                            right = record { gl_low = from; gl_high = to; usage = td.1; usage_fits = td.2; count = omega (arith, count, few); words = s.fit };
                            stops = three _ (stops_after total left (usage_parts d.0.0) _ d.0.1 f used (stops_later total d.0.1 (field CountAboveLimit (big_bytes 2 (length s.words))) (map word_field s.words) k.0.1 f counted s.stops));
                          }
                      | inr never ↦ absurd (let bad = never.2 in cc)
                    ]
              ]
        ]

-- ---- files

record RecordsStop (version : Version) (number total : ℕ) (bytes : List ℕ) (f : Flaw) : Type 0 where
  pub events : List Entry
  pub right : AllByRecursion (IsEvent version) events
  pub stops : StopsIn total bytes (fields_from number events) f

records_stop : (most : ℕ) (version : Version) (number total : ℕ) (bytes : List ℕ) (f : Flaw) → length bytes ≤ most → IsBytes bytes → records_at most version number total bytes ≡ Err f → RecordsStop version number total bytes f
unfolding records_at
records_stop most version number total [] f few fits e = absurd cc
records_stop zero version number total (b ∷ bytes) f few fits e = absurd (omega (arith, few))
records_stop (suc most) version number total (b ∷ bytes) f few fits e =
    elim (bind_err (record_at version number total (b ∷ bytes)) (λ first. records_at most version (number + 1) total first.1 >>= λ others. Ok (first.0 ∷ others)) f e) [
      | inl wrong ↦
          let s = record_stops version number total (b ∷ bytes) f fits wrong in
          record { events = s.event ∷ []; right = (s.right, tt); stops = stops_with total (b ∷ bytes) (record_fields number s.event) [] f s.stops }
      | inr read ↦
          let first = record_takes version number total (b ∷ bytes) read.0 fits read.1 in
          let parts : b ∷ bytes ≡ joined (record_fields number read.0.0) ++ read.0.1 = first.0.parts ∙ ap (λ (t : List ℕ). t ++ read.0.1) (sym (joined_record number read.0.0)) in
          let long : length (b ∷ bytes) ≡ length (record_of number read.0.0) + length read.0.1 = ap length first.0.parts ∙ length-append (record_of number read.0.0) read.0.1 in
          let some = record_long number read.0.0 in
          elim (bind_err (records_at most version (number + 1) total read.0.1) (λ others. Ok (read.0.0 ∷ others)) f read.2) [
            | inl later ↦
                let s = records_stop most version (number + 1) total read.0.1 f (omega (arith, few, long, some)) first.0.rest_fits later in
                record {
                  events = read.0.0 ∷ s.events;
                  right = (first.1, s.right);
                  stops = stops_after total (b ∷ bytes) (record_fields number read.0.0) (fields_from (number + 1) s.events) read.0.1 f parts s.stops;
                }
            | inr never ↦ absurd (let bad = never.2 in cc)
          ]
    ]
  where
    record_long : (number : ℕ) (e : Entry) → 0 < length (record_of number e)
    record_long number e = subst (λ (t : List ℕ). 0 < length t) (joined_record number e) (let first = length-append (big_bytes 2 0xCA4D) (joined (field GlOutOfRange (big_bytes 2 e.gl) ∷ field NumberOutOfOrder (big_bytes 4 number) ∷ (usage_parts e.usage ++ counted_words e.words))) in let two = length-bytes_high_first 2 0xCA4D in omega (arith, first, two))

header_flaw : {A : Type 0} (b c : Bool) (x y : A) (d f : Flaw) → cond b (Ok x) (cond c (Ok y) (Err d)) ≡ Err f → f ≡ d
header_flaw true c x y d f e = absurd cc
header_flaw false true x y d f e = absurd cc
header_flaw false false x y d f e = flaw_is d f e

same_rule : (b : Bool) (r : EventRule) → cond b r r ≡ r
same_rule true r = refl
same_rule false r = refl

pub record FileStops (bytes : List ℕ) (f : Flaw) : Type 0 where
  pub version : Version
  pub events : List Entry
  pub right : AllByRecursion (IsEvent version) events
  pub reaches : Reaches bytes (file_fields version events) f

reaches_of : (bytes : List ℕ) (fields : List Field) (f : Flaw) → StopsIn (length bytes) bytes fields f → Reaches bytes fields f
reaches_of bytes fields f s =
    let long : length bytes ≡ length (joined s.before) + length s.rest = ap length s.parts ∙ length-append (joined s.before) s.rest in
    let offset = s.offset in
    record { before = s.before; next = s.next; after = s.after; rest = s.rest; are_fields = s.are_fields; parts = s.parts; offset = omega (arith, offset, long); rule = s.rule }

pub file_stops : (bytes : List ℕ) (f : Flaw) → IsBytes bytes → file_at bytes ≡ Err f → FileStops bytes f
unfolding file_at header_at
file_stops bytes f fits e =
    elim (bind_err (header_at (length bytes) bytes) (λ version. records_at (length version.1) version.0 1 (length bytes) version.1 >>= λ events. Ok (version.0, events)) f e) [
      | inl wrong ↦
          let flaw = header_flaw (starts_with nat_eq bytes (header One)) (starts_with nat_eq bytes (header Two)) (One, drop 8 bytes) (Two, drop 8 bytes) (flaw_at (length bytes) bytes WrongHeader) f wrong in
          record {
            version = One;
            events = [];
            right = tt;
            reaches = reaches_of bytes (file_fields One []) f (stops_here (length bytes) bytes (header_field One) [] f (rw (same_rule (ltb (length bytes) (length (header One))) WrongHeader) flaw));
          }
      | inr read ↦
          let first = header_takes (length bytes) bytes read.0 fits read.1 in
          elim (bind_err (records_at (length read.0.1) read.0.0 1 (length bytes) read.0.1) (λ events. Ok (read.0.0, events)) f read.2) [
            | inl later ↦
                let s = records_stop (length read.0.1) read.0.0 1 (length bytes) read.0.1 f (omega arith) first.rest_fits later in
                record {
                  version = read.0.0;
                  events = s.events;
                  right = s.right;
                  reaches = reaches_of bytes (file_fields read.0.0 s.events) f (stops_later (length bytes) bytes (header_field read.0.0) (fields_from 1 s.events) read.0.1 f first.parts s.stops);
                }
            | inr never ↦ absurd (let bad = never.2 in cc)
          ]
    ]
