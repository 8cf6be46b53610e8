-- Turns of loops.
use Rattle.std.proofs.Common.{◌≡◌, ℕ, zero, suc, ◌+◌, ◌-◌, ◌<◌, ◌≤◌, List, [], ◌∷◌, ◌++◌, length, length-append, map, Option, Some, None, true, false, refl, sym, ap, subst, ◌∙◌, arith}
use Rattle.std.specs.Borrow.{Bor}
use Rattle.std.specs.Prelude.{IsSome}
use Rattle.camac_lang.specs.declared.tree.Part as rust_part
use Rattle.camac_lang.specs.declared.tree.Stmt.{Stmt}
use Rattle.camac_lang.specs.Tree.{Expression, Condition, Block, for_, on_line}
use Rattle.camac_lang.specs.View.{part_of, statements_of}
use Rattle.camac_branch.specs.Branch.{Answer}
use Rattle.camac_model.specs.State.{State, Variables, stepped}
use Rattle.camac_model.specs.Behaviour.{Behaviour, ends, stops, more, Action, then_do, given, decide}
use Rattle.camac_model.specs.Fine.{IsWithinBounds, most_turns}
use Rattle.camac_model.specs.Meaning.{Context, for_state, for_turns, for_from, turns, effect, block_meaning}
use Rattle.camac_model.specs.Value.{value, truth}
use Rattle.camac_machine.specs.declared.machine.Frame.{Frame}
use Rattle.camac_machine.specs.declared.machine.Machine.{Machine}
use Rattle.camac_machine.specs.declared.machine.Owner.TheVariants.{For, While}
use Rattle.camac_machine.specs.declared.machine.Pending.{Pending}
use Rattle.camac_machine.specs.MachineState.{reach, with_value, variables_here, open_in, context_in, state_of, bounds_of, left_in, IsFineHere, FineThen, HasRoom, Advances}
use Rattle.camac_machine.specs.Rest.{owed, left_of, rest_in}
use Rattle.camac_machine.proofs.Fine.{fine_first, fine_decide, keeps_block, keeps_for, keeps_turns, keeps_rest, turns_are}
use Rattle.camac_machine.proofs.Frames.{left_pushed}
use Rattle.camac_machine.proofs.Rooms.{advances_by}
use Rattle.camac_machine.proofs.Scopes.{opens_written, variables_written}

module _ {V D C : ℕ} (h : Machine V D C) where
  abbrev ctx : Context
  ctx = context_in h.checked.now

  abbrev does_all : Block → Action
  does_all b = block_meaning ctx most_turns b

  keeps : (t : State) → IsFineHere h (left_in h t) → IsWithinBounds (bounds_of h) t
  keeps t f = keeps_rest h.checked.now.plan (bounds_of h) h.checked.now.script _ t f

  -- the same by another way to say what is to be done
  pub fine_as : (go to : Context → Action) → ((answers : List Answer) → go ctx (state_of h answers) ≡ to ctx (state_of h answers)) → FineThen h go → FineThen h to
  fine_as go to e fine = λ answers. subst (λ b. IsFineHere h (then_do b (left_in h))) (e answers) (fine answers)

  pub advances_as : (go to : Context → Action) (w : Option Pending) (new : Machine V D C) → ((answers : List Answer) → go ctx (state_of h answers) ≡ to ctx (state_of h answers)) → Advances 1 h go w new → Advances 1 h to w new
  advances_as go to w new e k = record {
    room = k.room;
    checked = k.checked;
    service = k.service;
    awaits = k.awaits;
    pace = k.pace;
    few = k.few;
    released = k.released;
    unlocks = k.unlocks;
    goes = λ answers. k.goes answers ∙ ap (λ b. then_do b (left_in h)) (e answers);
  }

  -- nothing is to be done
  pub unchanged : (go : Context → Action) → ((answers : List Answer) → go ctx (state_of h answers) ≡ ends (state_of h answers)) → HasRoom h → Advances 1 h go None h
  unchanged go e r = advances_by r (omega arith) (omega arith) (λ answers. ap (λ b. then_do b (left_in h)) (sym (e answers)))

  first_fine : (b : Behaviour State) → IsFineHere h (then_do b (left_in h)) → IsFineHere h b
  first_fine b f = fine_first h.checked.now.plan (bounds_of h) b (left_in h) keeps f

  -- a turn of a `for` is one of those left, and has room for its step
  pub turn_fine : (x value last n : ℕ) (b : Block) → FineThen h (λ c. for_turns (suc (last - value)) n x value last (block_meaning c most_turns b)) → (0 < n) × (h.steps + 1 ≤ (bounds_of h).steps)
  turn_fine x value last zero b fine = absurd (fine []).0
  turn_fine x value last (suc n) b fine =
      let s : State = state_of h [] in
      let f = first_fine (then_do (does_all b (for_state x value s)) (for_turns (last - value) n x (value + 1) last (does_all b))) (fine []) in
      let g = fine_first h.checked.now.plan (bounds_of h) (does_all b (for_state x value s)) (for_turns (last - value) n x (value + 1) last (does_all b))
      (λ t k. keeps_for h.checked.now.plan (bounds_of h) h.checked.now.script b (last - value) n x (value + 1) last t k) f in
      (omega arith, (keeps_block h.checked.now.plan (bounds_of h) h.checked.now.script most_turns b (for_state x value s) g).steps)

  abbrev turning : ℕ → ℕ → ℕ → ℕ → Bor (List Stmt) → Frame
  turning x value last n body = record { rest = body; owner = For x value last n body }

  turn_left : (x value last n : ℕ) (body : Bor (List Stmt)) (s : State) → left_of ctx (open_in h (turning x value last n body)) (for_state x value s) ≡ for_turns (suc (last - value)) (suc n) x value last (does_all (statements_of body.now)) s
  unfolding owed
  turn_left x value last n body s = refl

  turned : (x value last n : ℕ) (body : Bor (List Stmt)) (new : Machine V D C) → x < (reach h).variables → HasRoom h → new ≡ record (with_value h x value) { steps = h.steps + 1; frames = new.frames } → new.frames.items ≡ h.frames.items ++ turning x value last n body ∷ [] → HasRoom new
      → Advances 1 h (λ c. for_turns (suc (last - value)) (suc n) x value last (block_meaning c most_turns (statements_of body.now))) None new
  turned x value last n body new lt r same pushed room =
      let f : Frame = turning x value last n body in
      let A : Machine V D C → Type 0 = λ m. HasRoom m → Advances 1 h (λ c. for_turns (suc (last - value)) (suc n) x value last (block_meaning c most_turns (statements_of body.now))) None m in
      let long : length new.frames.items ≡ length h.frames.items + 1 = ap length pushed ∙ length-append h.frames.items (f ∷ []) in
      subst A (sym same) (λ k. advances_by k (omega (arith, long)) (omega arith) (λ answers. ap (λ (gs : List Frame). rest_in ctx (map (open_in (with_value h x value)) gs) (record (state_of h answers) { variables = variables_here (with_value h x value); steps = h.steps + 1 })) pushed
      ∙ left_pushed ctx (open_in (with_value h x value)) h.frames.items f (record (state_of h answers) { variables = variables_here (with_value h x value); steps = h.steps + 1 })
      ∙ ap (λ os. then_do (left_of ctx (open_in h f) (record (state_of h answers) { variables = variables_here (with_value h x value); steps = h.steps + 1 })) (rest_in ctx os)) (sym (opens_written h x value r))
      ∙ ap (λ (vs : Variables). then_do (left_of ctx (open_in h f) (record (state_of h answers) { variables = vs; steps = h.steps + 1 })) (left_in h)) (variables_written h x value lt r)
      ∙ ap (λ b. then_do b (left_in h)) (turn_left x value last n body (state_of h answers)))) room

  pub turn_advances : (x value last n : ℕ) (body : Bor (List Stmt)) (new : Machine V D C) → x < (reach h).variables → 0 < n → HasRoom h → new ≡ record (with_value h x value) { steps = h.steps + 1; frames = new.frames } → new.frames.items ≡ h.frames.items ++ turning x value last (n - 1) body ∷ [] → HasRoom new
      → Advances 1 h (λ c. for_turns (suc (last - value)) n x value last (block_meaning c most_turns (statements_of body.now))) None new
  turn_advances x value last n body new lt some r same pushed room =
      let e : suc (n - 1) ≡ n = omega (arith, some) in
      advances_as (λ c. for_turns (suc (last - value)) (suc (n - 1)) x value last (block_meaning c most_turns (statements_of body.now))) (λ c. for_turns (suc (last - value)) n x value last (block_meaning c most_turns (statements_of body.now))) None new
      (λ answers. ap (λ j. for_turns (suc (last - value)) j x value last (does_all (statements_of body.now)) (state_of h answers)) e)
      (turned x value last (n - 1) body new lt r same pushed room)

  -- what a `for` comes to, by its first and last value
  pub from_to : (x : ℕ) (e1 e2 : Expression) (b : Block) (v w : ℕ) → value e1 (variables_here h) ≡ Some v → value e2 (variables_here h) ≡ Some w → (answers : List Answer) → effect ctx most_turns (for_ (on_line 0) x e1 e2 [] b) (state_of h answers) ≡ for_from (w + 1 - v) most_turns x v w (does_all b) (state_of h answers)
  from_to x e1 e2 b v w is1 is2 answers =
      let s : State = state_of h answers in
      let to : ℕ → Action = λ k. given (value e2 (variables_here h)) (λ u. for_from (u + 1 - k) most_turns x k u (does_all b)) in
      ap (λ o. given o to s) is1
      ∙ ap (λ o. given o (λ u. for_from (u + 1 - v) most_turns x v u (does_all b)) s) is2

  -- what it comes to between two numbers
  module _ (x v w : ℕ) (b : Block) where
    count_is : (j : ℕ) → w + 1 - v ≡ j → (answers : List Answer) → for_from (w + 1 - v) most_turns x v w (does_all b) (state_of h answers) ≡ for_from j 65535 x v w (does_all b) (state_of h answers)
    count_is j e answers =
        let s : State = state_of h answers in
        ap (λ k. for_from k most_turns x v w (does_all b) s) e
        ∙ ap (λ n. for_from j n x v w (does_all b) s) turns_are

    pub count_goes : v ≤ w → (answers : List Answer) → for_from (w + 1 - v) most_turns x v w (does_all b) (state_of h answers) ≡ for_turns (suc (w - v)) 65535 x v w (does_all b) (state_of h answers)
    count_goes le answers = count_is (suc (w - v)) (omega (arith, le)) answers

    pub count_none : w < v → (answers : List Answer) → for_from (w + 1 - v) most_turns x v w (does_all b) (state_of h answers) ≡ ends (state_of h answers)
    count_none lt answers = count_is zero (omega (arith, lt)) answers

  -- a `while`
  module _ (test : Condition) (b : Block) where
    pub while_test_has : (n : ℕ) → FineThen h (λ c. turns n test (block_meaning c most_turns b)) → IsSome (truth test (variables_here h) h.q h.x)
    while_test_has zero fine = fine_decide h.checked.now.plan (bounds_of h) (truth test (variables_here h) h.q h.x) (stops more) ends (state_of h []) (left_in h) (fine [])
    while_test_has (suc n) fine =
        fine_decide h.checked.now.plan (bounds_of h) (truth test (variables_here h) h.q h.x) (λ t. then_do (does_all b (stepped t)) (turns n test (does_all b))) ends (state_of h []) (left_in h) (fine [])

    while_test_ends : (n : ℕ) → truth test (variables_here h) h.q h.x ≡ Some false → (answers : List Answer) → turns n test (does_all b) (state_of h answers) ≡ ends (state_of h answers)
    while_test_ends zero e answers = ap (λ o. decide o (stops more) ends (state_of h answers)) e
    while_test_ends (suc n) e answers = ap (λ o. decide o (λ t. then_do (does_all b (stepped t)) (turns n test (does_all b))) ends (state_of h answers)) e

    pub while_test_stops : (n : ℕ) → truth test (variables_here h) h.q h.x ≡ Some false → HasRoom h → Advances 1 h (λ c. turns n test (block_meaning c most_turns b)) None h
    while_test_stops n e r = unchanged (λ c. turns n test (block_meaning c most_turns b)) (while_test_ends n e) r

    while_test_goes : (n : ℕ) → truth test (variables_here h) h.q h.x ≡ Some true → (answers : List Answer) → turns (suc n) test (does_all b) (state_of h answers) ≡ then_do (does_all b (stepped (state_of h answers))) (turns n test (does_all b))
    while_test_goes n e answers = ap (λ o. decide o (λ t. then_do (does_all b (stepped t)) (turns n test (does_all b))) ends (state_of h answers)) e

    pub while_test_fine : (n : ℕ) → truth test (variables_here h) h.q h.x ≡ Some true → FineThen h (λ c. turns n test (block_meaning c most_turns b)) → (0 < n) × (h.steps + 1 ≤ (bounds_of h).steps)
    while_test_fine zero e fine = absurd (subst (λ o. IsFineHere h (then_do (decide o (stops more) ends (state_of h [])) (left_in h))) e (fine [])).0
    while_test_fine (suc n) e fine =
        let s : State = state_of h [] in
        let f = first_fine (then_do (does_all b (stepped s)) (turns n test (does_all b))) (subst (λ o. IsFineHere h (then_do o (left_in h))) (while_test_goes n e []) (fine [])) in
        let g = fine_first h.checked.now.plan (bounds_of h) (does_all b (stepped s)) (turns n test (does_all b)) (λ t k. keeps_turns h.checked.now.plan (bounds_of h) h.checked.now.script b test n t k) f in
        (omega arith, (keeps_block h.checked.now.plan (bounds_of h) h.checked.now.script most_turns b (stepped s) g).steps)

  abbrev while_frame : Bor (List rust_part.Part) → ℕ → Bor (List Stmt) → Frame
  while_frame test n body = record { rest = body; owner = While test n body }

  while_test_left : (test : Bor (List rust_part.Part)) (n : ℕ) (body : Bor (List Stmt)) (s : State) → left_of ctx (open_in h (while_frame test n body)) s ≡ then_do (does_all (statements_of body.now) s) (turns n (map part_of test.now) (does_all (statements_of body.now)))
  unfolding owed
  while_test_left test n body s = refl

  while_test_turned : (test : Bor (List rust_part.Part)) (n : ℕ) (body : Bor (List Stmt)) (new : Machine V D C) → truth (map part_of test.now) (variables_here h) h.q h.x ≡ Some true → new ≡ record h { steps = h.steps + 1; frames = new.frames } → new.frames.items ≡ h.frames.items ++ while_frame test n body ∷ [] → HasRoom new
      → Advances 1 h (λ c. turns (suc n) (map part_of test.now) (block_meaning c most_turns (statements_of body.now))) None new
  while_test_turned test n body new e same pushed room =
      let f : Frame = while_frame test n body in
      let A : Machine V D C → Type 0 = λ m. HasRoom m → Advances 1 h (λ c. turns (suc n) (map part_of test.now) (block_meaning c most_turns (statements_of body.now))) None m in
      let long : length new.frames.items ≡ length h.frames.items + 1 = ap length pushed ∙ length-append h.frames.items (f ∷ []) in
      subst A (sym same) (λ k. advances_by k (omega (arith, long)) (omega arith) (λ answers. ap (λ (gs : List Frame). rest_in ctx (map (open_in h) gs) (stepped (state_of h answers))) pushed
      ∙ left_pushed ctx (open_in h) h.frames.items f (stepped (state_of h answers))
      ∙ ap (λ b. then_do b (left_in h)) (while_test_left test n body (stepped (state_of h answers)) ∙ sym (while_test_goes (map part_of test.now) (statements_of body.now) n e answers)))) room

  pub while_test_advances : (test : Bor (List rust_part.Part)) (n : ℕ) (body : Bor (List Stmt)) (new : Machine V D C) → 0 < n → truth (map part_of test.now) (variables_here h) h.q h.x ≡ Some true → new ≡ record h { steps = h.steps + 1; frames = new.frames } → new.frames.items ≡ h.frames.items ++ while_frame test (n - 1) body ∷ [] → HasRoom new
      → Advances 1 h (λ c. turns n (map part_of test.now) (block_meaning c most_turns (statements_of body.now))) None new
  while_test_advances test n body new some e same pushed room =
      let same_n : suc (n - 1) ≡ n = omega (arith, some) in
      advances_as (λ c. turns (suc (n - 1)) (map part_of test.now) (block_meaning c most_turns (statements_of body.now))) (λ c. turns n (map part_of test.now) (block_meaning c most_turns (statements_of body.now))) None new
      (λ answers. ap (λ j. turns j (map part_of test.now) (does_all (statements_of body.now)) (state_of h answers)) same_n)
      (while_test_turned test (n - 1) body new e same pushed room)

  -- a `while` that begins, with its parts and its block as they are kept
  pub while_begins : (n : ℕ) (ps qs : List rust_part.Part) (ss ts : List Stmt) → most_turns ≡ n → ps ≡ qs → ss ≡ ts → FineThen h (λ c. turns most_turns (map part_of qs) (block_meaning c most_turns (statements_of ts))) → FineThen h (λ c. turns n (map part_of ps) (block_meaning c most_turns (statements_of ss)))
  while_begins n ps qs ss ts e p q fine =
      let F : ℕ → List rust_part.Part → List Stmt → Type 0 = λ j xs ys. FineThen h (λ c. turns j (map part_of xs) (block_meaning c most_turns (statements_of ys))) in
      subst (λ j. F j ps ss) e (subst (λ xs. F most_turns xs ss) (sym p) (subst (λ ys. F most_turns qs ys) (sym q) fine))
