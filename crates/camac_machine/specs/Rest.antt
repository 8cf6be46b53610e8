-- What is left to run of a service, and of the run.
use Rattle.std.specs.Prelude.{ℕ, ◌+◌, ◌-◌, List, [], ◌∷◌, Option, Some, None, length, Bool, true, false, not}
use Rattle.camac_lang.specs.Tree.{Condition, Block, Service}
use Rattle.camac_branch.specs.Address.{Address, address}
use Rattle.camac_branch.specs.Branch.{Branch, Answer}
use Rattle.camac_branch.specs.Plan.{Layout, crate_waits}
use Rattle.camac_branch.specs.declared.answer.Command.{Command}
use Rattle.camac_esone.specs.Progress.{Left}
use Rattle.camac_esone.specs.Transfers.{tally}
use Rattle.camac_model.specs.State.{State, with_variable}
use Rattle.camac_model.specs.Behaviour.{Behaviour, does, ends, Action, then_do, given, event_left, lock_released}
use Rattle.camac_model.specs.Cycle.{cycle, kept, take_lock, release}
use Rattle.camac_model.specs.Fine.{most_turns}
use Rattle.camac_model.specs.Meaning.{Context, for_turns, turns, block_meaning}
use Rattle.camac_model.specs.Run.{event_of, rounds}
use Rattle.camac_model.specs.Transfer.{transfer}
use Rattle.camac_machine.specs.Course.{left_at, words_from}
use Rattle.camac_machine.specs.declared.transfer.Course.{Course}
use Rattle.camac_machine.specs.Store.{variables_in, registers_in}
use Rattle.camac_machine.specs.declared.scope.Scope.{Scope}

abbrev pub address_of : Command → Address
address_of k = address k.c k.n k.a

-- what an answer is wanted for: a cycle, with a read the variable that keeps so many bits of the word; the lock of a crate over a block; the
-- next cycle of a transfer with this function, the table that it sends and the variable of its tally; or a pause, which wants none
pub data Operation : Type 0 where
  makes : Command → Operation
  reads : Command → (variable bits : ℕ) → Operation
  locks : (crate_no : ℕ) → Block → Operation
  transfers : Course → (function : ℕ) → (table : Option (List ℕ)) → (variable : ℕ) → Operation
  pauses : Operation

abbrev pub is_pause : Operation → Bool
is_pause pauses = true
is_pause _ = false

-- whether a service in progress pauses, and whether it wants an answer
abbrev pub is_paused : Option Operation → Bool
is_paused None = false
is_paused (Some w) = is_pause w

abbrev pub is_asking : Option Operation → Bool
is_asking None = false
is_asking (Some w) = not (is_pause w)

-- what is left of a transfer is a smaller one: with the words of its table from the tally on, and at its end the tally of all cycles.
-- This is that after these Q more
abbrev pub transfer_left : Layout → ℕ → Option (List ℕ) → Left → ℕ → List Bool → Action
transfer_left plan f table left x qs s =
    transfer plan f (words_from left.tally table) left.next_address (λ rs t. ends (with_variable x (left.tally + tally rs) t)) qs s.answers s

unfoldable pub awaited : Context → Operation → Action
awaited c (makes k) s = cycle c.plan (address_of k) k.f k.mv s.answers (λ r. ends) s
awaited c (reads k x bits) s =
    cycle c.plan (address_of k) k.f k.mv s.answers (λ r t. ends (with_variable x (kept bits r) t)) s
awaited c (locks k body) s =
    given (crate_waits c.plan k) (λ waits t.
    take_lock k waits (t.branch k).locked (λ u. then_do (block_meaning c most_turns body u) (release k)) t) s
awaited c (transfers course f table x) s = transfer_left c.plan f table (left_at course) x [] s
awaited c pauses s = ends s

-- what is left of a statement after the answer that it wanted: further cycles of a transfer, by the Q of this one
unfoldable pub follows : Context → Operation → Action
follows c (transfers course f table x) s = transfer_left c.plan f table (left_at course) x (s.q ∷ []) s
follows c _ s = ends s

-- what goes on after a block: nothing but the block around it, or the release of a lock; or a `for` after the turn with this value of its
-- variable, or a `while`, each with the turns that it may still make; or a procedure's caller, by what it sees and what that holds
pub data Owner : Type 0 where
  nothing : Owner
  releases : (crate_no : ℕ) → Owner
  for_loop : (variable current last left : ℕ) → Block → Owner
  while_loop : Condition → (left : ℕ) → Block → Owner
  returns : Scope → (variables : List ℕ) → (registers : List (Option Address)) → Owner

-- an open block, by what is left of it
pub record Open : Type 0 where
  pub block : Block
  pub owner : Owner

unfoldable pub owed : Context → Owner → Action
owed c nothing s = ends s
owed c (releases k) s = release k s
owed c (for_loop x v last n body) s = for_turns (last - v) n x (v + 1) last (block_meaning c most_turns body) s
owed c (while_loop test n body) s = turns n test (block_meaning c most_turns body) s
owed c (returns p vs rs) s = ends (record s { variables = variables_in vs; registers = registers_in rs })

abbrev pub left_of : Context → Open → Action
left_of c o s = then_do (block_meaning c most_turns o.block s) (owed c o.owner)

-- what is left of the open blocks, from the last to the first
unfoldable pub rest_in : Context → List Open → Action
rest_in c [] s = ends s
rest_in c (o ∷ os) s = then_do (rest_in c os s) (left_of c o)

-- locks that are released without an answer, and then the rest
abbrev pub says : {A : Type 0} → List ℕ → Behaviour A → Behaviour A
says [] b = b
says (k ∷ ks) b = does (lock_released k) (says ks b)

-- graded-L operations and services from here on
unfoldable pub onward : Context → List Service → Branch → List Answer → Behaviour (Unit {0})
onward c vs b answers = rounds (length answers) c most_turns vs b answers

-- a service in progress with this bit, its event, and what follows
unfoldable pub served : Context → List Service → ℕ → Behaviour State → Behaviour (Unit {0})
served c vs bit b = then_do b (λ s. does (event_left (event_of bit s)) (onward c vs s.branch s.answers))
