use Rattle.std.proofs.Common.{◌≡◌, ℕ, ◌*◌, ◌-◌, List, Option, Some, None, length, take, drop, slice_get, IfSome, ap, sym, ◌∙◌, arith}
use Rattle.std.proofs.lemmas.List.{take_rest}
use Rattle.std.proofs.lemmas.Option.{slice_get_past}
use Rattle.std.specs.Option.{IsSome}
use Rattle.byteorder.specs.Endian.{big_number}
use Rattle.camac_event.specs.Records.{words_in}
use Rattle.camac_event.proofs.InPlace.{length-words_in, words_in-get, words_in-fits}
use Rattle.camac_event.proofs.file.EventWords.get.Goals as goal

is_some : (o : Option ℕ) (n : ℕ) → IfSome o (λ r. r ≡ n) → IsSome o → o ≡ Some n
is_some None n kept some = absurd cc
is_some (Some m) n kept some = ap (λ (x : ℕ). Some x) kept

pub returns-then-index-self : goal.returns-then-index-self
returns-then-index-self c =
    let bytes = c.self.inside.bytes.now in
    let read : c.read_u32.result ≡ big_number 4 (take (length bytes - 4 * c.args.index) (drop (4 * c.args.index) bytes)) = c.read_u32.ensures in
    let fits = words_in-fits c.self.inside.count bytes c.args.index c.if-index-self.true c.self.invariant.fit in
    let n : c.read_u32.result ≡ big_number 4 (drop (4 * c.args.index) bytes) = read ∙ ap (big_number 4) (take_rest bytes (4 * c.args.index)) in
    let some : c.new.result ≡ Some c.read_u32.result = is_some c.new.result c.read_u32.result c.new.ensures.kept (c.new.ensures.in_range.1 (rw n fits)) in
    some ∙ ap (λ (w : ℕ). Some w) n ∙ sym (ap (λ (ws : List ℕ). slice_get ws c.args.index) (sym c.self.view_is) ∙ words_in-get c.self.inside.count bytes c.args.index c.if-index-self.true)

pub returns-else-index-self : goal.returns-else-index-self
returns-else-index-self c =
    sym (ap (λ (ws : List ℕ). slice_get ws c.args.index) (sym c.self.view_is) ∙ slice_get_past (words_in c.self.inside.count c.self.inside.bytes.now) c.args.index (omega (arith, length-words_in c.self.inside.count c.self.inside.bytes.now, c.if-index-self.false)))
