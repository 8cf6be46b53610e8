use Rattle.std.proofs.Common.{◌≡◌, ℕ, zero, suc, ◌+◌, ◌-◌, ◌≤◌, Bool, true, false, ◌&&◌, List, [], ◌∷◌, length, take, drop, refl, sym, ap, ◌∙◌, length-drop, arith}
use Rattle.std.specs.Str.{bytes_eq}
use Rattle.std.specs.Int.{from_le_bytes, to_le_bytes, w64}
use Rattle.std.proofs.lemmas.Bool.{eq-eqb}
use Rattle.std.proofs.lemmas.List.{drop-drop}
use Rattle.std.proofs.lemmas.Slice.Eq.{bytes_eq-Decides}
use Rattle.camac_tokens.proofs.bytes.are_same.Goals as goal

-- behind bytes that are the same the others decide
same_front : (n : ℕ) (xs ys : List ℕ) → n ≤ length xs → n ≤ length ys → take n xs ≡ take n ys → bytes_eq (drop n xs) (drop n ys) ≡ bytes_eq xs ys
same_front zero xs ys h k e = refl
same_front (suc n) [] ys h k e = absurd (omega arith)
same_front (suc n) (x ∷ xs) [] h k e = absurd (omega arith)
same_front (suc n) (x ∷ xs) (y ∷ ys) h k e =
    let head : x ≡ y = cc in
    let others : take n xs ≡ take n ys = cc in
    same_front n xs ys (omega arith) (omega arith) others ∙ sym (ap (λ (t : Bool). t && bytes_eq xs ys) (eq-eqb x y head))

-- what is left behind eight more of n bytes, of which r are left
behind_eight : (n r : ℕ) (whole rest : List ℕ) → rest ≡ drop (n - r) whole → 8 ≤ r → r ≤ n → drop 8 rest ≡ drop (n - (r - 8)) whole
behind_eight n r whole rest is some few =
    let on : n - r + 8 ≡ n - (r - 8) = omega arith in
    ap (λ (xs : List ℕ). drop 8 xs) is ∙ drop-drop 8 (n - r) whole ∙ ap (λ (m : ℕ). drop m whole) on

-- the last r bytes are among the last eight
last_of : (n r : ℕ) (whole : List ℕ) → r ≤ 8 → 8 ≤ n → drop (n - r) whole ≡ drop (8 - r) (drop (n - 8) whole)
last_of n r whole few some =
    let on : n - 8 + (8 - r) ≡ n - r = omega arith in
    sym (drop-drop (8 - r) (n - 8) whole ∙ ap (λ (m : ℕ). drop m whole) on)

-- bytes whose last eight are not the same number are not the same
lasts_differ : (one other : List ℕ) (a b : ℕ) → a ≡ from_le_bytes w64 (drop (length one - 8) one) → b ≡ from_le_bytes w64 (drop (length other - 8) other)
    → (a ≡ b → ⊥) → false ≡ bytes_eq one other
lasts_differ one other a b a_is b_is differ = by (bytes_eq one other) refl where
  by : (u : Bool) → bytes_eq one other ≡ u → false ≡ bytes_eq one other
  by false is = sym is
  by true is =
      let all : one ≡ other = (bytes_eq-Decides one other).0 is in
      absurd (differ (a_is ∙ ap (λ (xs : List ℕ). from_le_bytes w64 (drop (length xs - 8) xs)) all ∙ sym b_is))

-- where the last eight are the same number, and all before them are the same, all are
lasts_same : (one other rest other_rest : List ℕ) (a b : ℕ) → length one ≡ length other → 8 ≤ length one → length rest ≤ 8
    → rest ≡ drop (length one - length rest) one → other_rest ≡ drop (length one - length rest) other → bytes_eq rest other_rest ≡ bytes_eq one other
    → to_le_bytes w64 a ≡ drop (length one - 8) one → to_le_bytes w64 b ≡ drop (length other - 8) other → a ≡ b
    → true ≡ bytes_eq one other
lasts_same one other rest other_rest a b lengths some few rest_is other_is decides a_only b_only ab =
    let n : ℕ = length one in
    let r : ℕ = length rest in
    let lasts : drop (n - 8) one ≡ drop (n - 8) other = sym a_only ∙ ap (to_le_bytes w64) ab ∙ b_only ∙ ap (λ (m : ℕ). drop (m - 8) other) (sym lengths) in
    let rests : rest ≡ other_rest = rest_is ∙ last_of n r one few some ∙ ap (λ (xs : List ℕ). drop (8 - r) xs) lasts ∙ sym (last_of n r other few some) ∙ sym other_is in
    sym (sym decides ∙ (bytes_eq-Decides rest other_rest).1 rests)

pub loop-rest-preserved : goal.loop-rest-preserved
loop-rest-preserved c =
    let xs = c.loop-rest.rest.now in
    let ys = c.loop-rest.other_rest.now in
    let one = c.args.one.now in
    let other = c.args.other.now in
    let few : length xs ≤ length one = c.loop-rest.invariant.1 in
    let more : 8 ≤ length xs = omega (arith, c.loop-rest-test.true) in
    let xs_is : xs ≡ drop (length one - length xs) one = c.loop-rest.invariant.2 in
    let ys_is : ys ≡ drop (length one - length xs) other = c.loop-rest.invariant.3 in
    let both : length ys ≡ length xs = omega (arith, ap (λ (zs : List ℕ). length zs) ys_is, length-drop (length one - length xs) other, c.if-one-other.false, few) in
    let fronts : take 8 xs ≡ take 8 ys = sym c.first_eight.ensures.only ∙ ap (to_le_bytes w64) c.if-first_eight.false ∙ c.first_eight-in-loop-rest.ensures.only in
    let left : length xs - 8 ≡ length (drop 8 xs) = sym (length-drop 8 xs) in
    rw (c.split_at.ensures.back, c.split_at-in-loop-rest.ensures.back) (
      same_front 8 xs ys more (omega (arith, both, more)) fronts ∙ c.loop-rest.invariant.0,
      omega (arith, left, few),
      behind_eight (length one) (length xs) one xs xs_is more few ∙ ap (λ (m : ℕ). drop (length one - m) one) left,
      behind_eight (length one) (length xs) other ys ys_is more few ∙ ap (λ (m : ℕ). drop (length one - m) other) left,
    )

pub returns : goal.returns
returns c =
    lasts_same c.args.one.now c.args.other.now c.loop-rest.rest.now c.loop-rest.other_rest.now c.last_eight.result c.last_eight-2.result
    c.if-one-other.false c.if-one-lt8.false c.loop-rest-test.false c.loop-rest.invariant.2 c.loop-rest.invariant.3 c.loop-rest.invariant.0
    c.last_eight.ensures.only c.last_eight-2.ensures.only c.if-last_eight.false

pub returns-then-last_eight : goal.returns-then-last_eight
returns-then-last_eight c = lasts_differ c.args.one.now c.args.other.now c.last_eight.result c.last_eight-2.result c.last_eight.ensures.number c.last_eight-2.ensures.number c.if-last_eight.true
