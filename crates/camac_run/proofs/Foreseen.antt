-- What is known before the answers is so.
use Rattle.std.proofs.Common.{◌≡◌, ◌∙◌, ℕ, ◌^◌, ◌<◌, List, [], ◌∷◌, length, Option, Some, None, Bool, true, false, not, ◌&&◌, set, refl, sym, ap, subst}
use Rattle.std.proofs.lemmas.Bool.{ltb-true}
use Rattle.std.specs.Prelude.{IfSome, nat_le, nat_lt, option_map, option_and_then, slice_get, slice_index_or}
use Rattle.camac_branch.specs.Address.{Address, address}
use Rattle.camac_branch.specs.declared.answer.Command.{Command}
use Rattle.camac_esone.specs.Calls.{command_at, crate_address, crate_function, lam_function}
use Rattle.camac_func.specs.declared.data.DataMove.TheVariants as moved
use Rattle.camac_lang.specs.Expressions.{refers}
use Rattle.camac_lang.specs.Tests.{is_number}
use Rattle.camac_lang.specs.Tree.{Expression, number, variable, group, add, subtract, multiply, divide, remainder, Test, flag_q, flag_x, compare, Part, plain, negated, Condition, Move, no_data, into, from, Statement, assign, set_register, single, address_scan, q_stop, q_repeat, put, crate_call, lam_call, choose, choose_else, for_, for_each, while_, locked, call}
use Rattle.camac_lang.specs.declared.spot.Spot.{Spot}
use Rattle.camac_lang.specs.declared.word.CrateCall.{CrateCall}
use Rattle.camac_lang.specs.declared.word.LamCall.{LamCall}
use Rattle.camac_lang.specs.declared.word.WordSize.{WordSize}
use Rattle.camac_model.specs.Meaning.{Context, fits_size}
use Rattle.camac_model.specs.State.{Variables}
use Rattle.camac_model.specs.Value.{both, and_then, value, test_value, part_value, truth}
use Rattle.camac_range.specs.Compare.{compared}
use Rattle.camac_range.specs.Number.{in_range, sum_of, difference_of, product_of, quotient_of, rest_of}
use Rattle.camac_run.specs.Foreseen.{known_value, known_test, known_part, known_truth, value_if, is_crate, known_crate, known_address, known_behind, known_word, known_data, is_on_branch, known_command, known_cycle, known_after}
use Rattle.camac_run.specs.declared.sure.Sure.{Sure}
use Rattle.camac_run.specs.declared.sure.Sure.TheVariants as sure
use Rattle.camac_run.specs.Sure.{KnowsVariables, HasValue, HasTruth, MakesCycle, NeedsNone, sure_of}
use Rattle.camac_run.proofs.Steps.{assign_needs_none, control_makes, crate_makes, lam_makes, put_needs_none, read_makes, register_needs_none, write_makes}

-- where there is a value, this holds of it
pub some_is : {A : Type 0} (o : Option A) (P : A → Type 0) → ((v : A) → o ≡ Some v → P v) → IfSome o P
some_is None P f = tt
some_is (Some v) P f = f v refl

-- what holds of the value that is known holds of the one that is there
pub so_of : {A : Type 0} (o p : Option A) (P : A → Type 0) → IfSome p P → o ≡ p → (v : A) → o ≡ Some v → P v
so_of o p P h q v is = subst (λ o. IfSome o P) (sym q ∙ is) h

-- a cycle that is known is told
pub told : (o p : Option Command) (r : Sure) (P : Command → Type 0) → r ≡ sure_of o → o ≡ p → ((k : Command) → o ≡ Some k → P k) → IfSome p (λ k. (r ≡ sure.Makes k) × P k)
told o p r P is q f = subst (λ p. IfSome p (λ k. (r ≡ sure.Makes k) × P k)) q (some_is o (λ k. (r ≡ sure.Makes k) × P k) (λ k e. (is ∙ ap sure_of e, f k e)))

-- ---- what one has, the other has

abbrev pub Has : {A : Type 0} → Option A → Option A → Type 0
Has {A} o p = (v : A) → o ≡ Some v → p ≡ Some v

both_has : {A : Type 0} (f : ℕ → ℕ → Option A) (o o' p p' : Option ℕ) → Has o o' → Has p p' → Has (both f o p) (both f o' p')
both_has f None o' p p' g h v is = absurd (cc)
both_has f (Some n) o' None p' g h v is = absurd (cc)
both_has f (Some n) o' (Some m) p' g h v is = rw (g n refl, h m refl) is

then_has : {A B : Type 0} (f : A → Option B) (o o' : Option A) → Has o o' → Has (option_and_then f o) (option_and_then f o')
then_has f None o' g v is = absurd (cc)
then_has f (Some n) o' g v is = rw (g n refl) is

map_has : {A B : Type 0} (f : A → B) (o o' : Option A) → Has o o' → Has (option_map f o) (option_map f o')
map_has f None o' g v is = absurd (cc)
map_has f (Some n) o' g v is = rw (g n refl) is

and_has : (o o' p p' : Option Bool) → Has o o' → Has p p' → Has (and_then o p) (and_then o' p')
and_has None o' p p' g h v is = absurd (cc)
and_has (Some false) o' p p' g h v is = rw (g false refl) is
and_has (Some true) o' p p' g h v is = rw (g true refl) (h v is)

-- ---- values and conditions

module _ (known : List (Option ℕ)) where
  module _ (all : Variables) (k : KnowsVariables known all) where
    variable_has : (x : ℕ) (o : Option ℕ) → slice_index_or known x None ≡ o → Has (option_and_then in_range o) (in_range (all x))
    variable_has x None there v is = absurd (cc)
    variable_has x (Some n) there v is = ap in_range (k x n there) ∙ is

    value_has : (e : Expression) → Has (known_value known e) (value e all)
    value_has (number n) v is = is
    value_has (variable x) v is = variable_has x (slice_index_or known x None) refl v is
    value_has (group e) v is = value_has e v is
    value_has (add a b) v is = both_has sum_of (known_value known a) (value a all) (known_value known b) (value b all) (value_has a) (value_has b) v is
    value_has (subtract a b) v is = both_has difference_of (known_value known a) (value a all) (known_value known b) (value b all) (value_has a) (value_has b) v is
    value_has (multiply a b) v is = both_has product_of (known_value known a) (value a all) (known_value known b) (value b all) (value_has a) (value_has b) v is
    value_has (divide e d) v is = then_has (λ n. quotient_of n d) (known_value known e) (value e all) (value_has e) v is
    value_has (remainder e d) v is = then_has (λ n. rest_of n d) (known_value known e) (value e all) (value_has e) v is

    module _ (q x : Bool) where
      test_has : (t : Test) → Has (known_test known t) (test_value t all q x)
      test_has flag_q v is = absurd (cc)
      test_has flag_x v is = absurd (cc)
      test_has (compare a c b) v is = both_has (λ n m. Some (compared c n m)) (known_value known a) (value a all) (known_value known b) (value b all) (value_has a) (value_has b) v is

      part_has : (p : Part) → Has (known_part known p) (part_value p all q x)
      part_has (plain t) v is = test_has t v is
      part_has (negated t) v is = map_has not (known_test known t) (test_value t all q x) (test_has t) v is

      truth_has : (ps : Condition) → Has (known_truth known ps) (truth ps all q x)
      truth_has [] v is = is
      truth_has (p ∷ ps) v is = and_has (known_part known p) (part_value p all q x) (known_truth known ps) (truth ps all q x) (part_has p) (truth_has ps) v is

  pub value_is_so : (e : Expression) → IfSome (known_value known e) (HasValue known e)
  value_is_so e = some_is (known_value known e) (HasValue known e) (λ n is all k. value_has all k e n is)

  pub truth_is_so : (ps : Condition) → IfSome (known_truth known ps) (HasTruth known (truth ps))
  truth_is_so ps = some_is (known_truth known ps) (HasTruth known (truth ps)) (λ b is all q x k. truth_has all k q x ps b is)

-- ---- numbers that fit

if_is : {A : Type 0} (so : Bool) (v : A) (P : A → Type 0) → (so ≡ true → P v) → IfSome (value_if so v) P
if_is true v P f = f refl
if_is false v P f = tt

second_is : (a b : Bool) → (a && b) ≡ true → b ≡ true
second_is true b is = is
second_is false b is = absurd (cc)

module _ (known : List (Option ℕ)) where
  crate_is_so : (e : Expression) → IfSome (known_crate known e) (HasValue known e)
  crate_is_so e = go (known_value known e) (value_is_so known e)
    where
      go : (o : Option ℕ) → IfSome o (HasValue known e) → IfSome (option_and_then (λ n. value_if (is_crate n) n) o) (HasValue known e)
      go None h = tt
      go (Some n) h = if_is (is_crate n) n (HasValue known e) (λ so. h)

  word_is_so : (size : WordSize) (e : Expression) → IfSome (known_word size known e) (λ w. HasValue known e w × (fits_size size w ≡ true))
  word_is_so size e = go (known_value known e) (value_is_so known e)
    where
      go :
          (o : Option ℕ)
          → IfSome o (HasValue known e)
          → IfSome (option_and_then (λ v. value_if (nat_lt v (2 ^ 24) && fits_size size v) v) o) (λ w. HasValue known e w × (fits_size size w ≡ true))
      go None h = tt
      go (Some w) h =
          if_is (nat_lt w (2 ^ 24) && fits_size size w) w (λ v. HasValue known e v × (fits_size size v ≡ true)) (λ so. (h, second_is (nat_lt w (2 ^ 24)) (fits_size size w) so))

  address_is_so :
      (c n a : Expression)
      → IfSome (known_address known c n a) (λ at. HasValue known c at.crate_no × HasValue known n at.station × HasValue known a at.sub_address)
  address_is_so c n a = go (known_value known c) (known_value known n) (known_value known a) (value_is_so known c) (value_is_so known n) (value_is_so known a)
    where
      go :
          (o p q : Option ℕ)
          → IfSome o (HasValue known c)
          → IfSome p (HasValue known n)
          → IfSome q (HasValue known a)
          → IfSome (both (λ x y. option_map (address x y) q) o p) (λ at. HasValue known c at.crate_no × HasValue known n at.station × HasValue known a at.sub_address)
      go None p q h i j = tt
      go (Some x) None q h i j = tt
      go (Some x) (Some y) None h i j = tt
      go (Some x) (Some y) (Some z) h i j = (h, i, j)

-- ---- cycles

module _ (c : Context) (known : List (Option ℕ)) (registers : List (Option Address)) where
  abbrev IsSo : Statement → Option Command → Type 0
  IsSo st o = IfSome o (λ k. MakesCycle c known registers st k (known_after known st))

  module _ (spot : Spot) (size : WordSize) (f r : ℕ) (at : Address) (there : slice_index_or registers r None ≡ Some at) where
    written_is_so : (e : Expression) (o : Option ℕ) → IfSome o (λ w. HasValue known e w × (fits_size size w ≡ true)) → IsSo (single spot size f r (from e)) (option_and_then (λ mv. known_command f mv at) (option_map moved.Out o))
    written_is_so e None h = tt
    written_is_so e (Some w) h =
        let k = command_at at f (moved.Out w) in
        if_is (is_on_branch at) k (λ k. MakesCycle c known registers (single spot size f r (from e)) k known) (λ so. write_makes c known registers k spot size f r at there e w h.0 h.1 refl)

    data_is_so : (m : Move) → IsSo (single spot size f r m) (option_and_then (λ mv. known_command f mv at) (known_data size known m))
    data_is_so no_data =
        let k = command_at at f moved.None in
        if_is (is_on_branch at) k (λ k. MakesCycle c known registers (single spot size f r no_data) k known) (λ so. control_makes c known registers k spot size f r at there refl)
    data_is_so (into x) =
        let k = command_at at f moved.In in
        if_is (is_on_branch at) k (λ k. MakesCycle c known registers (single spot size f r (into x)) k (set known x None)) (λ so. read_makes c known registers k spot size f r at there x refl)
    data_is_so (from e) = written_is_so e (known_word size known e) (word_is_so known size e)

  single_is_so :
      (spot : Spot) (size : WordSize) (f r : ℕ) (m : Move) (o : Option Address)
      → slice_index_or registers r None ≡ o
      → IsSo (single spot size f r m) (option_and_then (λ at. option_and_then (λ mv. known_command f mv at) (known_data size known m)) o)
  single_is_so spot size f r m None there = tt
  single_is_so spot size f r m (Some at) there = data_is_so spot size f r at there m

  crate_call_is_so : (spot : Spot) (w : CrateCall) (e : Expression) (o : Option ℕ) → IfSome o (HasValue known e) → IsSo (crate_call spot w e) (option_map (λ n. command_at (crate_address w n) (crate_function w) moved.None) o)
  crate_call_is_so spot w e None h = tt
  crate_call_is_so spot w e (Some n) h = crate_makes c known registers (command_at (crate_address w n) (crate_function w) moved.None) spot w e n h refl

  lam_call_is_so : (spot : Spot) (w : LamCall) (l : ℕ) (o : Option Address) → slice_get c.lams l ≡ o → IsSo (lam_call spot w l) (option_and_then (known_command (lam_function w) moved.None) o)
  lam_call_is_so spot w l None there = tt
  lam_call_is_so spot w l (Some at) there =
      let k = command_at at (lam_function w) moved.None in
      if_is (is_on_branch at) k (λ k. MakesCycle c known registers (lam_call spot w l) k known) (λ so. lam_makes c known registers k spot w l at there refl)

  pub cycle_is_so : (st : Statement) → IsSo st (known_cycle c.lams known registers st)
  cycle_is_so (single spot size f r m) = single_is_so spot size f r m (slice_index_or registers r None) refl
  cycle_is_so (crate_call spot w e) = crate_call_is_so spot w e (known_crate known e) (crate_is_so known e)
  cycle_is_so (lam_call spot w l) = lam_call_is_so spot w l (slice_get c.lams l) refl
  cycle_is_so (assign spot x e) = tt
  cycle_is_so (set_register spot r e1 e2 e3) = tt
  cycle_is_so (address_scan spot f r1 r2 e x) = tt
  cycle_is_so (q_stop spot f r t e x) = tt
  cycle_is_so (q_repeat spot f r t e1 e2 x) = tt
  cycle_is_so (put spot e) = tt
  cycle_is_so (choose spot test a) = tt
  cycle_is_so (choose_else spot test a b) = tt
  cycle_is_so (for_ spot x e1 e2 ks a) = tt
  cycle_is_so (for_each spot x v w a) = tt
  cycle_is_so (while_ spot test n x ks a) = tt
  cycle_is_so (locked spot e a) = tt
  cycle_is_so (call spot p es) = tt

  pub other_is_so : (st : Statement) → IfSome (known_behind known registers st) (λ after. NeedsNone c known registers st after.0 after.1)
  other_is_so (put spot e) = put_needs_none c known registers spot e
  other_is_so (assign spot x e) = assign_needs_none c known registers spot x e (known_value known e) (value_is_so known e)
  other_is_so (set_register spot r e1 e2 e3) = register_needs_none c known registers spot r e1 e2 e3 (known_address known e1 e2 e3) (address_is_so known e1 e2 e3)
  other_is_so (single spot size f r m) = tt
  other_is_so (address_scan spot f r1 r2 e x) = tt
  other_is_so (q_stop spot f r t e x) = tt
  other_is_so (q_repeat spot f r t e1 e2 x) = tt
  other_is_so (crate_call spot w e) = tt
  other_is_so (lam_call spot w l) = tt
  other_is_so (choose spot test a) = tt
  other_is_so (choose_else spot test a b) = tt
  other_is_so (for_ spot x e1 e2 ks a) = tt
  other_is_so (for_each spot x v w a) = tt
  other_is_so (while_ spot test n x ks a) = tt
  other_is_so (locked spot e a) = tt
  other_is_so (call spot p es) = tt

-- ---- nothing is left out: where each variable is known, so is each value

module _ (known : List (Option ℕ)) (all : Variables) (k : (i : ℕ) → i < length known → slice_index_or known i None ≡ Some (all i)) where
  first_is : (a b : Bool) → (a && b) ≡ true → a ≡ true
  first_is true b is = refl
  first_is false b is = absurd (cc)

  pub value_is_known : (e : Expression) → refers (length known) e ≡ true → known_value known e ≡ value e all
  value_is_known (number n) r = refl
  value_is_known (variable x) r = ap (option_and_then in_range) (k x (ltb-true x (length known) r))
  value_is_known (group e) r = value_is_known e r
  value_is_known (add a b) r = rw (value_is_known a (first_is (refers (length known) a) (refers (length known) b) r), value_is_known b (second_is (refers (length known) a) (refers (length known) b) r)) refl
  value_is_known (subtract a b) r = rw (value_is_known a (first_is (refers (length known) a) (refers (length known) b) r), value_is_known b (second_is (refers (length known) a) (refers (length known) b) r)) refl
  value_is_known (multiply a b) r = rw (value_is_known a (first_is (refers (length known) a) (refers (length known) b) r), value_is_known b (second_is (refers (length known) a) (refers (length known) b) r)) refl
  value_is_known (divide e d) r = rw (value_is_known e (first_is (refers (length known) e) (nat_le 1 d && is_number d) r)) refl
  value_is_known (remainder e d) r = rw (value_is_known e (first_is (refers (length known) e) (nat_le 1 d && is_number d) r)) refl
