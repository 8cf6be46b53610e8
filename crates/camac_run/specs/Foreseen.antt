-- What is known before the answers, by what is known of variables and registers: this, and no more.
use Rattle.std.specs.Prelude.{◌≡◌, ℕ, ◌^◌, ◌<◌, List, [], ◌∷◌, length, set, slice_get, slice_index_or, Option, Some, None, IfSome, option_map, option_and_then, Bool, true, not, ◌&&◌, if◌then◌else◌, nat_le, nat_lt}
use Rattle.camac_branch.specs.Address.{Address, address}
use Rattle.camac_branch.specs.declared.answer.Command.{Command}
use Rattle.camac_esone.specs.Calls.{command_at, crate_address, crate_function, lam_function}
use Rattle.camac_func.specs.declared.data.DataMove.{DataMove}
use Rattle.camac_func.specs.declared.data.DataMove.TheVariants as moved
use Rattle.camac_lang.specs.Expressions.{refers}
use Rattle.camac_lang.specs.Tree.{Expression, number, variable, group, add, subtract, multiply, divide, remainder, Test, compare, Part, plain, negated, Condition, Move, no_data, into, from, Statement, assign, set_register, single, put, crate_call, lam_call}
use Rattle.camac_lang.specs.declared.word.WordSize.{WordSize}
use Rattle.camac_model.specs.Meaning.{Context, fits_size}
use Rattle.camac_model.specs.State.{Variables}
use Rattle.camac_model.specs.Value.{both, and_then, truth, value}
use Rattle.camac_range.specs.Compare.{compared}
use Rattle.camac_range.specs.Number.{in_range, sum_of, difference_of, product_of, quotient_of, rest_of}
use Rattle.camac_run.specs.Sure.{HasTruth, HasValue, MakesCycle, NeedsNone}

-- the value of an expression
abbrev pub known_value : List (Option ℕ) → Expression → Option ℕ
known_value known (number n) = in_range n
known_value known (variable x) = option_and_then in_range (slice_index_or known x None)
known_value known (group e) = known_value known e
known_value known (add a b) = both sum_of (known_value known a) (known_value known b)
known_value known (subtract a b) = both difference_of (known_value known a) (known_value known b)
known_value known (multiply a b) = both product_of (known_value known a) (known_value known b)
known_value known (divide e d) = option_and_then (λ v. quotient_of v d) (known_value known e)
known_value known (remainder e d) = option_and_then (λ v. rest_of v d) (known_value known e)

-- whether a condition holds: what the flags are is not known
abbrev pub known_test : List (Option ℕ) → Test → Option Bool
known_test known (compare a c b) = both (λ v w. Some (compared c v w)) (known_value known a) (known_value known b)
known_test known flag = None

abbrev pub known_part : List (Option ℕ) → Part → Option Bool
known_part known (plain t) = known_test known t
known_part known (negated t) = option_map not (known_test known t)

-- what stands behind a part that does not hold need not be known
abbrev pub known_truth : List (Option ℕ) → Condition → Option Bool
known_truth known [] = Some true
known_truth known (p ∷ ps) = and_then (known_part known p) (known_truth known ps)

-- a value, where this is so
abbrev pub value_if : {A : Type 0} → Bool → A → Option A
value_if so v = if so then Some v else None

abbrev pub is_crate : ℕ → Bool
is_crate n = nat_le 1 n && nat_le n 7

abbrev pub known_crate : List (Option ℕ) → Expression → Option ℕ
known_crate known e = option_and_then (λ n. value_if (is_crate n) n) (known_value known e)

abbrev pub known_address : List (Option ℕ) → (crate_no station sub_address : Expression) → Option Address
known_address known c n a = both (λ x y. option_map (address x y) (known_value known a)) (known_value known c) (known_value known n)

-- the word of a write
abbrev pub known_word : WordSize → List (Option ℕ) → Expression → Option ℕ
known_word size known e = option_and_then (λ v. value_if (nat_lt v (2 ^ 24) && fits_size size v) v) (known_value known e)

abbrev pub known_data : WordSize → List (Option ℕ) → Move → Option DataMove
known_data size known no_data = Some moved.None
known_data size known (into x) = Some moved.In
known_data size known (from e) = option_map moved.Out (known_word size known e)

abbrev pub is_on_branch : Address → Bool
is_on_branch at = is_crate at.crate_no && (nat_lt at.station 32 && nat_lt at.sub_address 16)

abbrev pub known_command : (function : ℕ) → DataMove → Address → Option Command
known_command f mv at = value_if (is_on_branch at) (command_at at f mv)

-- the cycle of a statement with one, where a script has LAMs at these addresses
abbrev pub known_cycle : (lams : List Address) → List (Option ℕ) → List (Option Address) → Statement → Option Command
known_cycle lams known registers (single spot size f r m) =
    option_and_then (λ at. option_and_then (λ mv. known_command f mv at) (known_data size known m)) (slice_index_or registers r None)
known_cycle lams known registers (crate_call spot call e) = option_map (λ c. command_at (crate_address call c) (crate_function call) moved.None) (known_crate known e)
known_cycle lams known registers (lam_call spot call l) = option_and_then (known_command (lam_function call) moved.None) (slice_get lams l)
known_cycle lams known registers st = None

-- what is known of the variables after it: not what it reads
abbrev pub known_after : List (Option ℕ) → Statement → List (Option ℕ)
known_after known (single spot size f r (into x)) = set known x None
known_after known st = known

-- what is known after a statement that needs no answer
abbrev pub known_behind : List (Option ℕ) → List (Option Address) → Statement → Option (List (Option ℕ) × List (Option Address))
known_behind known registers (put spot e) = Some (known, registers)
known_behind known registers (assign spot x e) = Some (set known x (known_value known e), registers)
known_behind known registers (set_register spot r c n a) = Some (known, set registers r (known_address known c n a))
known_behind known registers st = None

-- what is known is so, whatever is not known
pub record KnownIsSo (known : List (Option ℕ)) : Type 0 where
  pub values : (e : Expression) → IfSome (known_value known e) (HasValue known e)
  pub conditions : (test : Condition) → IfSome (known_truth known test) (HasTruth known (truth test))
  pub cycles : (c : Context) (registers : List (Option Address)) (st : Statement) → IfSome (known_cycle c.lams known registers st) (λ k. MakesCycle c known registers st k (known_after known st))
  pub others : (c : Context) (registers : List (Option Address)) (st : Statement) → IfSome (known_behind known registers st) (λ after. NeedsNone c known registers st after.0 after.1)

-- where each variable is known, so is each value
abbrev pub ValuesAreKnown : Type 0
ValuesAreKnown =
    (known : List (Option ℕ)) (all : Variables) → ((i : ℕ) → i < length known → slice_index_or known i None ≡ Some (all i))
    → (e : Expression) → refers (length known) e ≡ true → known_value known e ≡ value e all
