use Rattle.std.proofs.Common.{◌≡◌, ◌<◌, ◌+◌, ◌-◌, ◌*◌, ◌%◌, ℕ, List, Ok, length, take, drop, bit_or, ap, sym, ◌∙◌, get_or, arith, inl, inr}
use Rattle.std.proofs.lemmas.Bool.{cases_eq}
use Rattle.std.proofs.lemmas.List.{take_rest}
use Rattle.std.proofs.lemmas.Nat.{le_or_l, le_or_r, or_mod}
use Rattle.byteorder.specs.Endian.{little_number, little_from}
use Rattle.camac_event.specs.Records.{words_in}
use Rattle.camac_event.proofs.InPlace.{byte_behind, words_read, words_fit}
use Rattle.camac_event.proofs.reading.after_words.Goals as goal

pub words-init : goal.words-init
words-init c none k lt = absurd (omega (arith, lt))

pub words-preserved : goal.words-preserved
words-preserved c none k lt =
    let bytes = c.args.bytes.now in
    let at : ℕ = 4 * c.words.i in
    let highest = c.words.highest in
    let word = c.read_u32-highest.result in
    let first = get_or bytes at 0 in
    let read : word ≡ little_number 4 (take (length bytes - at) (drop at bytes)) = c.read_u32-highest.ensures in
    let low : word ≡ first + 256 * little_from 1 3 (drop at bytes) =
    read ∙ ap (little_number 4) (take_rest bytes at) ∙ ap (λ (b : ℕ). b + 256 * little_from 1 3 (drop at bytes)) (byte_behind at bytes) in
    let fits : first < 256 = omega (arith, c.type_inv.bytes at) in
    let together : bit_or (highest % 256) (word % 256) ≡ 0 = sym (or_mod highest word 8) ∙ none in
    let before : highest % 256 ≡ 0 = omega (arith, together, le_or_l (highest % 256) (word % 256)) in
    let here : first ≡ 0 = omega (arith, together, le_or_r (highest % 256) (word % 256), low, fits) in
    elim (cases_eq k c.words.i) [
      | inl same ↦ rw same here
      | inr other ↦ c.words.invariant before k (omega (arith, lt, other))
    ]

pub returns-then-low-eq0 : goal.returns-then-low-eq0
returns-then-low-eq0 c total =
    words_read c.args.count total c.args.bytes.now (omega (arith, c.if-bytes-count.false))
    (words_fit c.args.count c.args.bytes.now (λ i. omega (arith, c.type_inv.bytes i)) (λ k lt. c.words.invariant c.if-low-eq0.true k (omega (arith, lt, c.words-test.false))))
    ∙ ap (λ (l : List ℕ). Ok (words_in c.args.count c.args.bytes.now, l)) (sym (take_rest c.args.bytes.now (4 * c.args.count)))
