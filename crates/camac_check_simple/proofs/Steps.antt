-- Steps of the checker, and what they find of a LAM or a table by its number.
use Rattle.std.proofs.Common.{◌≡◌, ℕ, ◌^◌, ◌<◌, ◌≤◌, Bool, true, false, Some, Result, Ok, refl, sym, ap, ◌∙◌, ⊎_elim, arith, List, length, get_or, map, Option, None}
use Rattle.std.proofs.Math.Nat.{pow-le-pow_right}
use Rattle.std.proofs.lemmas.Bool.{and_right, cases_lt, le-leb, le-ltb, lt-leb, lt-ltb}
use Rattle.std.proofs.lemmas.Nat.{pow_below}
use Rattle.std.proofs.lemmas.Option.{slice_get-map, slice_get-get_or, slice_get_past}
use Rattle.std.specs.Prelude.{◌&&◌, min, nat_le, nat_lt, option_map, slice_get}
use Rattle.camac_lang.specs.declared.word.WordSize.{WordSize}
use Rattle.camac_lang.specs.declared.word.WordSize.TheVariants.{Full, Short}
use Rattle.camac_lang.specs.declared.script.Lam.{Lam}
use Rattle.camac_lang.specs.View.{lam_of, table_of}
use Rattle.camac_lang.specs.declared.script.Table.{Table}
use Rattle.camac_model.specs.Cycle.{sized}
use Rattle.camac_model.specs.Meaning.{fits_size, lam_address}
use Rattle.camac_model.specs.Fine.{Bounds}
use Rattle.camac_rules.specs.Fault.{Fault}
use Rattle.camac_rules.specs.Costs.{Verdict, verdict}
use Rattle.camac_rules.specs.Known.{Facts, Region, region}
use Rattle.camac_rules.specs.Refusal.{go_on}
use Rattle.camac_rules.specs.Calls.{single_region}
use Rattle.camac_range.specs.Interval.{Interval, only}

-- The checker's steps, taken or refused.

pub power_below : (w : ℕ) → w ≤ 24 → 2 ^ w < 2 ^ 32
power_below w h = pow_below w 32 (omega arith)

-- What fits the bits of a word of a size at a width fits the width, and a word of this size.
pub fits_sized : (size : WordSize) (v w : ℕ) → nat_lt v (2 ^ sized size w) ≡ (nat_lt v (2 ^ w) && fits_size size v)
fits_sized Full v w = true_after (nat_lt v (2 ^ w))
  where
    true_after : (b : Bool) → b ≡ (b && true)
    true_after true = refl
    true_after false = refl
fits_sized Short v w = ⊎_elim narrow wide (cases_lt w 16)
  where
    narrow : w < 16 → nat_lt v (2 ^ min w 16) ≡ (nat_lt v (2 ^ w) && nat_le v 65535)
    narrow less =
        let is : min w 16 ≡ w = omega arith in
        let most = pow_below w 16 less in
        ap (λ k. nat_lt v (2 ^ k)) is
        ∙ ⊎_elim (λ (lt : v < 2 ^ w). rw (lt-ltb v (2 ^ w) lt, le-leb v 65535 (omega arith)) refl) (λ ge. rw (le-ltb v (2 ^ w) ge) refl) (cases_lt v (2 ^ w))

    wide : 16 ≤ w → nat_lt v (2 ^ min w 16) ≡ (nat_lt v (2 ^ w) && nat_le v 65535)
    wide more =
        let is : min w 16 ≡ 16 = omega arith in
        let most : 65536 ≤ 2 ^ w = pow-le-pow_right (omega arith) more in
        ap (λ k. nat_lt v (2 ^ k)) is
        ∙ ⊎_elim (λ (lt : v < 65536). rw (lt-ltb v 65536 lt, lt-ltb v (2 ^ w) (omega arith), le-leb v 65535 (omega arith)) refl)
        (λ ge. le-ltb v 65536 ge ∙ sym (and_right (nat_lt v (2 ^ w)) (nat_le v 65535) (lt-leb v 65535 (omega arith)))) (cases_lt v 65536)

-- one step that was allowed, and then the rest
pub step : {A B : Type 0} (r : Result A Fault) (x : A) (f : A → Result B Fault) (z : Result B Fault) → r ≡ Ok x → f x ≡ z → go_on r f ≡ z
unfolding go_on
step r x f z e h = ap (λ q. go_on q f) e ∙ h

-- what is found by equal parts
pub same_findings : (k l : Facts) (a b : Bounds) → k ≡ l → a ≡ b → ◌≡◌ {A = Result Verdict Fault} (Ok (verdict (Some l) b)) (Ok (verdict (Some k) a))
same_findings k l a b e h = cc

-- The address of a LAM by its number, as the rules see it and as the code does.

abbrev pub at : List Lam → ℕ → Option Region
at ls i = option_map single_region (slice_get (map lam_address (map lam_of ls)) i)

found : (ls : List Lam) (i : ℕ) (o : Option Lam) → slice_get ls i ≡ o → at ls i ≡ option_map (λ l. single_region (lam_address (lam_of l))) o
found ls i None e =
    ap (option_map single_region) (slice_get-map lam_address (map lam_of ls) i ∙ ap (option_map lam_address) (slice_get-map lam_of ls i ∙ ap (option_map lam_of) e))
found ls i (Some l) e =
    ap (option_map single_region) (slice_get-map lam_address (map lam_of ls) i ∙ ap (option_map lam_address) (slice_get-map lam_of ls i ∙ ap (option_map lam_of) e))

pub lam_there : (ls : List Lam) (i : ℕ) (l : Lam) → i < length ls → l ≡ get_or ls i l → at ls i ≡ Some (single_region (lam_address (lam_of l)))
lam_there ls i l lt is = found ls i (Some l) (slice_get-get_or ls i l lt ∙ ap (λ x. Some x) (sym is))

pub no_lam : (ls : List Lam) (i : ℕ) → length ls ≤ i → at ls i ≡ None
no_lam ls i le = found ls i None (slice_get_past ls i le)

pub same_region : (g : Region) (a b c : Interval) (x y z s : ℕ) → g ≡ region a b c → a ≡ only x → b ≡ only y → c ≡ only z → z ≡ s → ◌≡◌ {A = Option Region} (Some (region (only x) (only y) (only s))) (Some g)
same_region g a b c x y z s e f h k l = cc

-- A table's words by its number, as the rules see them and as the code does.

pub words_there : (ts : List Table) (i : ℕ) (t : Table) → i < length ts → t ≡ get_or ts i t → slice_get (map (λ t. t.words) (map table_of ts)) i ≡ Some t.words.items
words_there ts i t lt is =
    slice_get-map (λ t. t.words) (map table_of ts) i
    ∙ (ap (option_map (λ t. t.words)) (slice_get-map table_of ts i)
    ∙ ap (λ o. option_map (λ t. t.words) (option_map table_of o)) (slice_get-get_or ts i t lt ∙ ap (λ x. Some x) (sym is)))

pub no_words : (ts : List Table) (i : ℕ) → length ts ≤ i → slice_get (map (λ t. t.words) (map table_of ts)) i ≡ None
no_words ts i le =
    slice_get-map (λ t. t.words) (map table_of ts) i
    ∙ (ap (option_map (λ t. t.words)) (slice_get-map table_of ts i)
    ∙ ap (λ o. option_map (λ t. t.words) (option_map table_of o)) (slice_get_past ts i le))

pub ruleset word_lists = (words_there, no_words)
