use Rattle.std.proofs.Common.{◌≡◌, ℕ, ◌+◌, ◌*◌, ◌<◌, [], ◌∷◌, ◌⊎◌, inl, inr, Err, refl, arith}
use Rattle.std.specs.Int.{from_le_bytes, w32}
use Rattle.camac_answer.specs.Lines.{bit_at}
use Rattle.camac_answer.specs.declared.fault.AnswerRule.TheVariants.{BadDigit}
use Rattle.camac_answer.proofs.Spelled.{bit_case}
use Rattle.camac_answer.proofs.line.flags_of.Goals as goal

-- four bytes whose number is that of both digits and both spaces
spelled : (i j n x a q b : ℕ) → i < 2 → j < 2 → x < 256 → a < 256 → q < 256 → b < 256 → n ≡ from_le_bytes w32 (x ∷ a ∷ q ∷ b ∷ []) → n ≡ 540024880 + i + 65536 * j
    → (x ≡ 48 + i) × (a ≡ 32) × (q ≡ 48 + j) × (b ≡ 32)
spelled i j n x a q b hi hj hx ha hq hb e is =
    (omega (arith, hi, hj, hx, ha, hq, hb, e, is), omega (arith, hi, hj, hx, ha, hq, hb, e, is), omega (arith, hi, hj, hx, ha, hq, hb, e, is), omega (arith, hi, hj, hx, ha, hq, hb, e, is))

-- and four whose number is none of these
module _ (n x a q b : ℕ) (e : n ≡ from_le_bytes w32 (x ∷ a ∷ q ∷ b ∷ [])) (ha : a ≡ 32) (hb : b ≡ 32)
    (h00 : n ≡ 540024880 → ⊥) (h10 : n ≡ 540024881 → ⊥) (h01 : n ≡ 540090416 → ⊥) (h11 : n ≡ 540090417 → ⊥) where
  abbrev IsCase : ℕ → Type 0
  IsCase b = (b ≡ 48) ⊎ ((b ≡ 49) ⊎ (bit_at b ≡ Err BadDigit))

  by_cases : IsCase x → IsCase q → (bit_at x ≡ Err BadDigit) ⊎ (bit_at q ≡ Err BadDigit)
  by_cases (inl hx) (inl hq) = absurd (h00 (omega (arith, e, ha, hb, hx, hq)))
  by_cases (inl hx) (inr (inl hq)) = absurd (h01 (omega (arith, e, ha, hb, hx, hq)))
  by_cases (inl hx) (inr (inr hq)) = inr hq
  by_cases (inr (inl hx)) (inl hq) = absurd (h10 (omega (arith, e, ha, hb, hx, hq)))
  by_cases (inr (inl hx)) (inr (inl hq)) = absurd (h11 (omega (arith, e, ha, hb, hx, hq)))
  by_cases (inr (inl hx)) (inr (inr hq)) = inr hq
  by_cases (inr (inr hx)) hq = inl hx

  unspelled : (bit_at x ≡ Err BadDigit) ⊎ (bit_at q ≡ Err BadDigit)
  unspelled = by_cases (bit_case x) (bit_case q)

pub returns-then-flags-eq540024880-clause-spaces : goal.returns-then-flags-eq540024880-clause-spaces
returns-then-flags-eq540024880-clause-spaces c =
    let s = spelled 0 0 c.from_le_bytes-flags.result c.args.x c.args.after_x c.args.q c.args.after_q (omega arith) (omega arith)
    (omega (arith, c.ranges.x)) (omega (arith, c.ranges.after_x)) (omega (arith, c.ranges.q)) (omega (arith, c.ranges.after_q)) c.from_le_bytes-flags.ensures c.if-flags-eq540024880.true in
    (s.1, s.3)

pub returns-then-flags-eq540024880-clause-bits : goal.returns-then-flags-eq540024880-clause-bits
returns-then-flags-eq540024880-clause-bits c =
    let s = spelled 0 0 c.from_le_bytes-flags.result c.args.x c.args.after_x c.args.q c.args.after_q (omega arith) (omega arith)
    (omega (arith, c.ranges.x)) (omega (arith, c.ranges.after_x)) (omega (arith, c.ranges.q)) (omega (arith, c.ranges.after_q)) c.from_le_bytes-flags.ensures c.if-flags-eq540024880.true in
    (rw s.0 refl, rw s.2 refl)

pub returns-then-flags-eq540024881-clause-spaces : goal.returns-then-flags-eq540024881-clause-spaces
returns-then-flags-eq540024881-clause-spaces c =
    let s = spelled 1 0 c.from_le_bytes-flags.result c.args.x c.args.after_x c.args.q c.args.after_q (omega arith) (omega arith)
    (omega (arith, c.ranges.x)) (omega (arith, c.ranges.after_x)) (omega (arith, c.ranges.q)) (omega (arith, c.ranges.after_q)) c.from_le_bytes-flags.ensures c.if-flags-eq540024881.true in
    (s.1, s.3)

pub returns-then-flags-eq540024881-clause-bits : goal.returns-then-flags-eq540024881-clause-bits
returns-then-flags-eq540024881-clause-bits c =
    let s = spelled 1 0 c.from_le_bytes-flags.result c.args.x c.args.after_x c.args.q c.args.after_q (omega arith) (omega arith)
    (omega (arith, c.ranges.x)) (omega (arith, c.ranges.after_x)) (omega (arith, c.ranges.q)) (omega (arith, c.ranges.after_q)) c.from_le_bytes-flags.ensures c.if-flags-eq540024881.true in
    (rw s.0 refl, rw s.2 refl)

pub returns-then-flags-eq540090416-clause-spaces : goal.returns-then-flags-eq540090416-clause-spaces
returns-then-flags-eq540090416-clause-spaces c =
    let s = spelled 0 1 c.from_le_bytes-flags.result c.args.x c.args.after_x c.args.q c.args.after_q (omega arith) (omega arith)
    (omega (arith, c.ranges.x)) (omega (arith, c.ranges.after_x)) (omega (arith, c.ranges.q)) (omega (arith, c.ranges.after_q)) c.from_le_bytes-flags.ensures c.if-flags-eq540090416.true in
    (s.1, s.3)

pub returns-then-flags-eq540090416-clause-bits : goal.returns-then-flags-eq540090416-clause-bits
returns-then-flags-eq540090416-clause-bits c =
    let s = spelled 0 1 c.from_le_bytes-flags.result c.args.x c.args.after_x c.args.q c.args.after_q (omega arith) (omega arith)
    (omega (arith, c.ranges.x)) (omega (arith, c.ranges.after_x)) (omega (arith, c.ranges.q)) (omega (arith, c.ranges.after_q)) c.from_le_bytes-flags.ensures c.if-flags-eq540090416.true in
    (rw s.0 refl, rw s.2 refl)

pub returns-then-flags-eq540090417-clause-spaces : goal.returns-then-flags-eq540090417-clause-spaces
returns-then-flags-eq540090417-clause-spaces c =
    let s = spelled 1 1 c.from_le_bytes-flags.result c.args.x c.args.after_x c.args.q c.args.after_q (omega arith) (omega arith)
    (omega (arith, c.ranges.x)) (omega (arith, c.ranges.after_x)) (omega (arith, c.ranges.q)) (omega (arith, c.ranges.after_q)) c.from_le_bytes-flags.ensures c.if-flags-eq540090417.true in
    (s.1, s.3)

pub returns-then-flags-eq540090417-clause-bits : goal.returns-then-flags-eq540090417-clause-bits
returns-then-flags-eq540090417-clause-bits c =
    let s = spelled 1 1 c.from_le_bytes-flags.result c.args.x c.args.after_x c.args.q c.args.after_q (omega arith) (omega arith)
    (omega (arith, c.ranges.x)) (omega (arith, c.ranges.after_x)) (omega (arith, c.ranges.q)) (omega (arith, c.ranges.after_q)) c.from_le_bytes-flags.ensures c.if-flags-eq540090417.true in
    (rw s.0 refl, rw s.2 refl)

pub returns-else-flags-eq540024880-clause-none : goal.returns-else-flags-eq540024880-clause-none
returns-else-flags-eq540024880-clause-none c = λ ha hb.
    unspelled c.from_le_bytes-flags.result c.args.x c.args.after_x c.args.q c.args.after_q c.from_le_bytes-flags.ensures ha hb
    c.if-flags-eq540024880.false c.if-flags-eq540024881.false c.if-flags-eq540090416.false c.if-flags-eq540090417.false
