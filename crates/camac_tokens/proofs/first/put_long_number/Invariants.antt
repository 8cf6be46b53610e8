use Rattle.std.proofs.Common.{◌≡◌, ◌+◌, ◌-◌, ◌*◌, ◌<◌, fold, length}
use Rattle.std.specs.Prelude.{take_while}
use Rattle.std.specs.Char.{is_ascii_digit}
use Rattle.camac_tokens.specs.Scanning.{decimal_value}
use Rattle.camac_tokens.proofs.first.put_long_number.Given as goal

abbrev pub invariant-loop-rest : goal.invariant-loop-rest
invariant-loop-rest l = record {
  value : fold (λ n d. 10 * n + (d - 48)) l.value (take_while is_ascii_digit l.rest) ≡ decimal_value (take_while is_ascii_digit l.text);
  size : length (take_while is_ascii_digit l.text) + length l.rest ≡ length l.text + length (take_while is_ascii_digit l.rest);
  small : l.value < 4294967296;
}

abbrev pub decreases-loop-rest : goal.decreases-loop-rest
decreases-loop-rest l = length l.rest
