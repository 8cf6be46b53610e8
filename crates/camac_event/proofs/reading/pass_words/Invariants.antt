use Rattle.std.proofs.Common.{◌≡◌, ◌-◌, ℕ, List}
use Rattle.camac_event.specs.Reading.{words_at}
use Rattle.camac_event.proofs.Loops.{with_prefix}
use Rattle.camac_event.proofs.reading.pass_words.Given as goal

abbrev pub invariant-loop : goal.invariant-loop
invariant-loop l = (prefix : List ℕ) × (with_prefix prefix (words_at (l.count - l.counter) l.total l.bytes.now) ≡ words_at l.count l.total l.initial.bytes.now)
