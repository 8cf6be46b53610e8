use Rattle.std.proofs.Common.{◌≡◌, ◌+◌, length}
use Rattle.std.specs.Prelude.{take_while}
use Rattle.camac_tokens.specs.Scanning.{is_name_byte}
use Rattle.camac_tokens.proofs.scanner.name_len.Given as goal

abbrev pub invariant-loop-rest : goal.invariant-loop-rest
invariant-loop-rest l = (l.count + length (take_while is_name_byte l.rest) ≡ length (take_while is_name_byte l.fn.text)) × (l.count + length l.rest ≡ length l.fn.text)

abbrev pub decreases-loop-rest : goal.decreases-loop-rest
decreases-loop-rest l = length l.rest
