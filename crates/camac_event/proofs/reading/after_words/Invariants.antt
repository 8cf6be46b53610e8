use Rattle.std.proofs.Common.{◌≡◌, ◌*◌, ◌%◌, ◌<◌, ℕ, get_or}
use Rattle.camac_event.proofs.reading.after_words.Given as goal

abbrev pub invariant-words : goal.invariant-words
invariant-words l = l.highest % 256 ≡ 0 → (k : ℕ) → k < l.i → get_or l.bytes (4 * k) 0 ≡ 0
