-- What a store of fixed size has to have room for, whatever the branch answers.
use Rattle.std.specs.Prelude.{ℕ, ◌+◌, length, nat_le, Bool, ◌&&◌}
use Rattle.camac_lang.specs.Depth.{script_depth}
use Rattle.camac_lang.specs.Tests.{total, most}
use Rattle.camac_lang.specs.Tree.{Script}

-- all parameters and registers of procedures counted, and calls in the depth; a procedure's own words are not counted
abbrev pub fits : Script → (variables depth words : ℕ) → Bool
fits s v d w =
    nat_le (length s.variables + total (λ p. length p.parameters) s.procedures) v
    && (nat_le (total (λ p. length p.registers) s.procedures + most (λ q. length q.registers) s.services) v
    && (nat_le (script_depth s) d
    && nat_le (most (λ q. q.words) s.services) w))
