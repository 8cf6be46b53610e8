-- Tests of the checker, lists that grow, and what is known on two ways.
use Rattle.std.proofs.Common.{◌≡◌, ℕ, ◌<◌, ◌≤◌, Bool, true, false, Result, Err, refl, zero, suc, ◌+◌, List, [], ◌∷◌, ◌++◌, length, take, ap, ◌∙◌, arith, get_or, take_all, map, Option, None, sym}
use Rattle.std.proofs.lemmas.Bool.{le-leb, lt-leb}
use Rattle.std.proofs.lemmas.List.{take_more, length-map}
use Rattle.std.specs.Prelude.{nat_le, slice_set, replicate, min, max}
use Rattle.camac_rules.specs.declared.rule.CheckRule.{CheckRule}
use Rattle.camac_rules.specs.declared.case.Case.{Case}
use Rattle.camac_rules.specs.Fault.{Fault, broken}
use Rattle.camac_rules.specs.Refusal.{go_on, required}
use Rattle.camac_rules.specs.Known.{write, Region, range_at, region_at}
use Rattle.camac_rules.specs.Joined.{hulls, join_set, join_registers}
use Rattle.camac_rules.proofs.Joined.{range_at-hulls, region_at-join}
use Rattle.camac_lang.specs.declared.spot.Spot.{Spot}
use Rattle.camac_range.specs.Interval.{Interval, only, hull}

-- Tests of the checker, passed or refused.

passes : {B : Type 0} (b : Bool) (rule : CheckRule) (spot : Spot) (case : Case) (r : Result B Fault) → b ≡ true → go_on (required b rule spot case) (λ _. r) ≡ r
unfolding go_on required
passes true rule spot case r e = refl
passes false rule spot case r e = cc

pub passes_le : {B : Type 0} (m n : ℕ) (rule : CheckRule) (spot : Spot) (case : Case) (r : Result B Fault) → m ≤ n → go_on (required (nat_le m n) rule spot case) (λ _. r) ≡ r
passes_le m n rule spot case r h = passes (nat_le m n) rule spot case r (le-leb m n h)

refuses : {B : Type 0} (b : Bool) (rule : CheckRule) (spot : Spot) (case : Case) (r : Result B Fault) → b ≡ false → go_on (required b rule spot case) (λ _. r) ≡ Err (broken rule spot case)
unfolding go_on required
refuses true rule spot case r e = cc
refuses false rule spot case r e = refl

pub refuses_le : {B : Type 0} (m n : ℕ) (rule : CheckRule) (spot : Spot) (case : Case) (r : Result B Fault) → n < m → go_on (required (nat_le m n) rule spot case) (λ _. r) ≡ Err (broken rule spot case)
refuses_le m n rule spot case r h = refuses (nat_le m n) rule spot case r (lt-leb m n h)

pub ruleset steps = (passes_le, refuses_le)

-- Lists that grow, in code.

-- a place past the end, once the list was filled up to it
last_filled : {X : Type 0} (d : X) (i : ℕ) (v : X) → slice_set (replicate (suc i) d) i v ≡ write d [] i v
last_filled d zero v = refl
last_filled d (suc i) v = ap (λ l. d ∷ l) (last_filled d i v)

filled : {X : Type 0} (d : X) (xs : List X) (i k : ℕ) (v : X) → length xs + k ≡ suc i → length xs ≤ i → slice_set (take (suc i) xs ++ replicate k d) i v ≡ write d xs i v
filled d [] i k v e h = let all : k ≡ suc i = omega arith in ap (λ m. slice_set (replicate m d) i v) all ∙ last_filled d i v
filled d (x ∷ xs) zero k v e h = absurd (omega arith)
filled d (x ∷ xs) (suc i) k v e h = ap (λ l. x ∷ l) (filled d xs i k v (omega arith) (omega arith))

pub write_filled : {X : Type 0} (d : X) (xs all : List X) (i n k : ℕ) (v : X) → all ≡ take n xs ++ replicate k d → n ≡ suc i → length xs + k ≡ n → length xs < n → slice_set all i v ≡ write d xs i v
write_filled d xs all i n k v is e long h =
    ap (λ l. slice_set l i v) is ∙ ap (λ m. slice_set (take m xs ++ replicate k d) i v) e ∙ filled d xs i k v (omega arith) (omega arith)

pub write_set : {X : Type 0} (d : X) (xs : List X) (i : ℕ) (v : X) → i < length xs → slice_set xs i v ≡ write d xs i v
write_set d [] i v h = absurd (omega arith)
write_set d (x ∷ xs) zero v h = refl
write_set d (x ∷ xs) (suc i) v h = ap (λ l. x ∷ l) (write_set d xs i v (omega arith))

-- What is known on two ways, joined place by place.

grown : {X : Type 0} (d : X) (xs all : List X) (i : ℕ) (x : X) → all ≡ take i xs → i < length xs → x ≡ get_or xs i d → all ++ x ∷ [] ≡ take (i + 1) xs
grown d xs all i x is lt e = ap (λ l. l ++ x ∷ []) is ∙ ap (λ y. take i xs ++ y ∷ []) e ∙ sym (take_more xs i d lt)

length-hulls : (rs ss : List Interval) → length (hulls rs ss) ≡ max (length rs) (length ss)
length-hulls [] ss = let e : length (map (hull (only 0)) ss) ≡ length ss = length-map ss (hull (only 0)) in omega arith
length-hulls (r ∷ rs) [] = let e = length-hulls rs [] in omega arith
length-hulls (r ∷ rs) (s ∷ ss) = let e = length-hulls rs ss in omega arith

length-join : (gs hs : List (Option Region)) → length (join_registers gs hs) ≡ min (length gs) (length hs)
length-join [] hs = omega arith
length-join (g ∷ gs) [] = omega arith
length-join (g ∷ gs) (h ∷ hs) = let e = length-join gs hs in omega arith

pub hulls_grow : (rs ss all : List Interval) (i : ℕ) (x r s : Interval) → all ≡ take i (hulls rs ss) → i < max (length rs) (length ss) → x ≡ hull r s → r ≡ range_at rs i → s ≡ range_at ss i → all ++ x ∷ [] ≡ take (i + 1) (hulls rs ss)
hulls_grow rs ss all i x r s is lt e a b =
    let long = length-hulls rs ss in
    let same : x ≡ hull (range_at rs i) (range_at ss i) = e ∙ ap (λ y. hull y s) a ∙ ap (hull (range_at rs i)) b in
    grown (only 0) (hulls rs ss) all i x is (omega arith) (same ∙ sym (range_at-hulls rs ss i))

pub hulls_all : (rs ss all : List Interval) (i : ℕ) → all ≡ take i (hulls rs ss) → max (length rs) (length ss) ≤ i → all ≡ hulls rs ss
hulls_all rs ss all i is le = let long = length-hulls rs ss in is ∙ take_all i (hulls rs ss) (omega arith)

pub join_grows : (gs hs all : List (Option Region)) (i : ℕ) (x g h : Option Region) → all ≡ take i (join_registers gs hs) → i < min (length gs) (length hs) → x ≡ join_set g h → g ≡ region_at gs i → h ≡ region_at hs i → all ++ x ∷ [] ≡ take (i + 1) (join_registers gs hs)
join_grows gs hs all i x g h is lt e a b =
    let long = length-join gs hs in
    let same : x ≡ join_set (region_at gs i) (region_at hs i) = e ∙ ap (λ y. join_set y h) a ∙ ap (join_set (region_at gs i)) b in
    grown None (join_registers gs hs) all i x is (omega arith) (same ∙ sym (region_at-join gs hs i))

pub join_all : (gs hs all : List (Option Region)) (i : ℕ) → all ≡ take i (join_registers gs hs) → min (length gs) (length hs) ≤ i → all ≡ join_registers gs hs
join_all gs hs all i is le = let long = length-join gs hs in is ∙ take_all i (join_registers gs hs) (omega arith)
