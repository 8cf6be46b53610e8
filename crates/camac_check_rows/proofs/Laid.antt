-- Rows of blocks, laid out once.
use Rattle.std.proofs.Common.{◌≡◌, ℕ, zero, suc, ◌+◌, ◌-◌, ◌*◌, ◌^◌, ◌≤◌, List, [], ◌∷◌, ◌++◌, map, append_assoc, refl, sym, ap, ◌∙◌, ⊎_elim, arith}
use Rattle.std.proofs.Math.Nat.{mul_assoc, mul_comm, mul-le-mul_left, mul-zero}
use Rattle.std.proofs.lemmas.Bool.{cases_lt, eq-eqb, ne_eqb}
use Rattle.std.proofs.lemmas.List.{map-append}
use Rattle.std.specs.Prelude.{flat_map, min, nat_eq, if◌then◌else◌}
use Rattle.camac_model.specs.Fine.{Bounds}
use Rattle.camac_rules.specs.Capped.{capped}
use Rattle.camac_rules.specs.Costs.{costs, no_costs}
use Rattle.camac_check_rows.specs.declared.found.Part.{Part}
use Rattle.camac_check_rows.specs.declared.found.Part.TheViews.{out-Part}
use Rattle.camac_check_rows.specs.declared.found.Part.TheFolds.{fold_out-Part}
use Rattle.camac_check_rows.specs.declared.inside.Level.{Level}
use Rattle.camac_check_rows.specs.declared.inside.Weight.{Weight}
use Rattle.camac_check_rows.specs.declared.row.Row.{Row}
use Rattle.camac_check_rows.specs.Laid.{part_rows}
use Rattle.camac_check_rows.specs.Weights.{in_64_bits, inside_row, laid_row, level}

-- Numbers that stay at the greatest.

suc_times : (t n : ℕ) → suc t * n ≡ n + t * n
suc_times t n = omega arith

cut_times : (t n k : ℕ) → min (t * min n k) k ≡ min (t * n) k
cut_times zero n k = omega arith
cut_times (suc t) n k =
    ⊎_elim
    (λ above.
    let more : t * k ≤ t * n = mul-le-mul_left t (omega arith) in
    let cut' : min n k ≡ k = omega arith in
    let left : suc t * min n k ≡ k + t * k = ap (λ m. suc t * m) cut' ∙ suc_times t k in
    omega (arith, left, suc_times t n, more))
    (λ below. let same : min n k ≡ n = omega arith in ap (λ m. min (suc t * m) k) same)
    (cases_lt k n)

-- three factors
cut_product : (a b c k : ℕ) → min (min (a * b) k * c) k ≡ min (a * min (b * c) k) k
cut_product a b c k =
    ap (λ m. min m k) (mul_comm (min (a * b) k) c)
    ∙ cut_times c (a * b) k
    ∙ ap (λ m. min m k) (mul_comm c (a * b) ∙ mul_assoc a b c)
    ∙ sym (cut_times a (b * c) k)

if_none : (m : ℕ) (b c : Bounds) → m ≡ 0 → (if nat_eq m 0 then b else c) ≡ b
if_none m b c e = ap (λ t. if t then b else c) (eq-eqb m 0 e)

if_some : (m : ℕ) (b c : Bounds) → 1 ≤ m → (if nat_eq m 0 then b else c) ≡ c
if_some m b c e = ap (λ t. if t then b else c) (ne_eqb m 0 (λ z. omega (arith, e, z)))

made_in_both : (m n : ℕ) (b : Bounds) → (if nat_eq (in_64_bits (m * n)) 0 then no_costs else b) ≡ (if nat_eq m 0 then no_costs else (if nat_eq n 0 then no_costs else b))
made_in_both zero n b = if_none (in_64_bits (zero * n)) no_costs b (omega arith)
made_in_both (suc m) zero b = if_none (in_64_bits (suc m * zero)) no_costs b (omega (arith, mul-zero (suc m))) ∙ sym (if_some (suc m) no_costs no_costs (omega arith))
made_in_both (suc m) (suc n) b =
    if_some (in_64_bits (suc m * suc n)) no_costs b (omega (arith, suc_times m (suc n)))
    ∙ sym (if_some (suc m) no_costs (if nat_eq (suc n) 0 then no_costs else b) (omega arith) ∙ if_some (suc n) no_costs b (omega arith))

same_costs : (a b c d e f : ℕ) → a ≡ d → b ≡ e → c ≡ f → costs a b c ≡ costs d e f
same_costs a b c d e f p q r = cc

-- Rows of a block in a block.

pub laid_within : (l inner : Level) (w : Weight)
    → inner.deeper ≡ in_64_bits (l.deeper + 1)
    → inner.weight.times ≡ in_64_bits (l.weight.times * w.times)
    → inner.weight.cycles ≡ in_64_bits (l.weight.cycles * w.cycles)
    → inner.weight.words ≡ in_64_bits (l.weight.words * w.words)
    → inner.weight.steps ≡ in_64_bits (l.weight.steps * w.steps)
    → (r : Row) → laid_row capped inner r ≡ laid_row capped l (inside_row capped w r)
laid_within l inner w ed et ec ew es r =
    same _ _ _ _ _ _ _ _ (omega (arith, ed)) (factors l.weight.times w.times inner.weight.times r.times et)
    (ap (λ m. if nat_eq m 0 then no_costs else r.each) et ∙ made_in_both l.weight.times w.times r.each)
    (same_costs _ _ _ _ _ _ (factors l.weight.cycles w.cycles inner.weight.cycles r.share.cycles ec) (factors l.weight.words w.words inner.weight.words r.share.words ew) (factors l.weight.steps w.steps inner.weight.steps r.share.steps es))
  where
    row : (depth times : ℕ) (each share : Bounds) → Row
    row depth times each share = record { spot = r.spot; depth = depth; kind = r.kind; times = times; each = each; share = share; detail = r.detail }

    same : (d d' t t' : ℕ) (e e' s s' : Bounds) → d ≡ d' → t ≡ t' → e ≡ e' → s ≡ s' → row d t e s ≡ row d' t' e' s'
    same d d' t t' e e' s s' p q u v = cc

    factors : (a b m c : ℕ) → m ≡ in_64_bits (a * b) → in_64_bits (m * c) ≡ in_64_bits (a * in_64_bits (b * c))
    factors a b m c e = ap (λ n. in_64_bits (n * c)) e ∙ cut_product a b c (2 ^ 64 - 1)

all_within : (l inner : Level) (w : Weight) → ((r : Row) → laid_row capped inner r ≡ laid_row capped l (inside_row capped w r))
    → (rs : List Row) → map (laid_row capped inner) rs ≡ map (laid_row capped l) (map (inside_row capped w) rs)
all_within l inner w h [] = refl
all_within l inner w h (r ∷ rs) = ap (λ x. x ∷ map (laid_row capped inner) rs) (h r) ∙ ap (λ xs. laid_row capped l (inside_row capped w r) ∷ xs) (all_within l inner w h rs)

-- Parts.

abbrev pub parts_rows : List Part → List Row
parts_rows ps = flat_map (λ rows. rows) (map part_rows ps)

part_has : (p : Part) → part_rows p ≡ (out-Part p).before.items ++ (out-Part p).own ∷ map (inside_row capped (out-Part p).weight) (parts_rows (out-Part p).parts.items ++ (out-Part p).last.items)
part_has = fold_out-Part (List Row) (λ p. p.before.items ++ p.own ∷ map (inside_row capped p.weight) (flat_map (λ rows. rows) p.parts.items ++ p.last.items))

-- a part of a block
pub inner_laid : (l inner_level : Level) (p : Part) (r0 r1 r2 ps last before : List Row) (own : Row)
    → r1 ≡ r0 ++ map (laid_row capped l) before
    → before ≡ (out-Part p).before.items
    → r2 ≡ r1 ++ (own ∷ [])
    → own ≡ laid_row capped l (out-Part p).own
    → ((r : Row) → laid_row capped inner_level r ≡ laid_row capped l (inside_row capped (out-Part p).weight r))
    → ps ≡ parts_rows (out-Part p).parts.items
    → last ≡ (out-Part p).last.items
    → r2 ++ map (laid_row capped inner_level) (ps ++ last) ≡ r0 ++ map (laid_row capped l) (part_rows p)
inner_laid l inner_level p r0 r1 r2 ps last before own e1 eb e2 eo ei ep el =
    let f = laid_row capped l in
    let x = out-Part p in
    let inner = parts_rows x.parts.items ++ x.last.items in
    let rest = map (inside_row capped x.weight) inner in
    ap (λ rs. rs ++ map (laid_row capped inner_level) (ps ++ last)) (e2 ∙ ap (λ rs. rs ++ (own ∷ [])) (e1 ∙ ap (λ rs. r0 ++ map f rs) eb) ∙ ap (λ r. (r0 ++ map f x.before.items) ++ (r ∷ [])) eo)
    ∙ ap (λ rs. ((r0 ++ map f x.before.items) ++ (f x.own ∷ [])) ++ rs) (ap (λ rs. map (laid_row capped inner_level) (rs ++ last)) ep ∙ ap (λ rs. map (laid_row capped inner_level) (parts_rows x.parts.items ++ rs)) el ∙ all_within l inner_level x.weight ei inner)
    ∙ append_assoc (r0 ++ map f x.before.items) (f x.own ∷ []) (map f rest)
    ∙ append_assoc r0 (map f x.before.items) (f x.own ∷ map f rest)
    ∙ ap (λ rs. r0 ++ rs) (sym (map-append f x.before.items (x.own ∷ rest)) ∙ sym (ap (map f) (part_has p)))

-- a part of the whole body
pub outer_laid : (level_of : Level) (p : Part) (r0 r1 r2 ps last before : List Row)
    → r1 ≡ r0 ++ before
    → before ≡ (out-Part p).before.items
    → r2 ≡ r1 ++ ((out-Part p).own ∷ [])
    → level_of ≡ level 1 (out-Part p).weight
    → ps ≡ parts_rows (out-Part p).parts.items
    → last ≡ (out-Part p).last.items
    → r2 ++ map (laid_row capped level_of) (ps ++ last) ≡ r0 ++ part_rows p
outer_laid level_of p r0 r1 r2 ps last before e1 eb e2 ei ep el =
    let x = out-Part p in
    let inner = parts_rows x.parts.items ++ x.last.items in
    let rest = map (inside_row capped x.weight) inner in
    ap (λ rs. rs ++ map (laid_row capped level_of) (ps ++ last)) (e2 ∙ ap (λ rs. rs ++ (x.own ∷ [])) (e1 ∙ ap (λ rs. r0 ++ rs) eb))
    ∙ ap (λ rs. ((r0 ++ x.before.items) ++ (x.own ∷ [])) ++ rs) (ap (λ i. map (laid_row capped i) (ps ++ last)) ei ∙ ap (λ rs. map (laid_row capped (level 1 x.weight)) (rs ++ last)) ep ∙ ap (λ rs. map (laid_row capped (level 1 x.weight)) (parts_rows x.parts.items ++ rs)) el)
    ∙ append_assoc (r0 ++ x.before.items) (x.own ∷ []) rest
    ∙ append_assoc r0 x.before.items (x.own ∷ rest)
    ∙ ap (λ rs. r0 ++ rs) (sym (part_has p))
