-- What a machine holds, as the definitions see it.
use Rattle.std.specs.Prelude.{◌≡◌, ℕ, zero, suc, ◌+◌, ◌*◌, ◌-◌, ◌<◌, ◌≤◌, List, [], ◌∷◌, ◌++◌, length, map, Option, Some, None, IsSome, IfSome, IfNone, IsSomeAnd, Bool, true, false, nat_eq, if◌then◌else◌, option_map, slice_index_or, slice_set, unwrap_or}
use Rattle.std.specs.Borrow.{Bor}
use Rattle.camac_lang.specs.Tree.{Statement, Service}
use Rattle.camac_lang.specs.declared.tree.Stmt.{Stmt}
use Rattle.camac_branch.specs.Address.{Address}
use Rattle.camac_lang.specs.View.{part_of, statement_of, statements_of}
use Rattle.camac_branch.specs.Branch.{Branch, Answer, reply_to, branch_after, with_lock}
use Rattle.camac_branch.specs.Crates.{branch_of, is_permitted}
use Rattle.camac_branch.specs.Allowed.{width}
use Rattle.camac_branch.specs.Plan.{Layout, crate_waits}
use Rattle.camac_branch.specs.declared.answer.CycleDone.{CycleDone}
use Rattle.camac_branch.specs.declared.answer.Overrun.{Overrun}
use Rattle.camac_branch.specs.declared.answer.Command.{Command}
use Rattle.camac_rules.specs.Checked.{CheckedScript, linked_of}
use Rattle.camac_event.specs.declared.event.Usage.{Usage}
use Rattle.camac_model.specs.State.{State, Variables, Registers, missed_with}
use Rattle.camac_model.specs.Behaviour.{Behaviour, does, ends, stops, Piece, demanded, cycled, lock_taken, lock_released, overrun, Action, then_do}
use Rattle.camac_model.specs.Fine.{Bounds, IsFine, most_turns}
use Rattle.camac_model.specs.Meaning.{Context, context, effect}
use Rattle.camac_model.specs.Run.{service_meaning}
use Rattle.camac_model.specs.Value.{greatest}
use Rattle.camac_names.specs.Linked.{bit_of_service}
use Rattle.camac_machine.specs.Store.{variables_in, registers_in, held_at}
use Rattle.camac_lang.specs.Fits.{fits}
use Rattle.camac_machine.specs.Course.{left_at, words_sent, data_of}
use Rattle.camac_machine.specs.Rest.{address_of, Operation, makes, reads, locks, transfers, pauses, is_pause, is_paused, awaited, follows, Owner, nothing, releases, for_loop, while_loop, returns, Open, left_of, rest_in, says}
use Rattle.camac_machine.specs.Within.{Reach, reach_of, ScopeFits, Opens, OpenFit}
use Rattle.camac_machine.specs.declared.item.Item.{Item}
use Rattle.camac_machine.specs.declared.item.Item.TheVariants as item
use Rattle.camac_machine.specs.declared.machine.Frame.{Frame}
use Rattle.camac_machine.specs.declared.machine.Machine.{Machine}
use Rattle.camac_machine.specs.declared.machine.Owner as rust
use Rattle.camac_machine.specs.declared.machine.Pending.{Pending}
use Rattle.camac_machine.specs.declared.machine.Pending.TheVariants as pending
use Rattle.camac_machine.specs.declared.machine.Pending.TheVariants.{Cycle, Read, Lock, Pause}
use Rattle.camac_machine.specs.declared.scope.Scope.{Scope}
use Rattle.camac_machine.specs.declared.transfer.Course.{Course}
use Rattle.camac_machine.specs.declared.transfer.Transfer.{Transfer}

-- the bounds of the service of this number
abbrev pub bounds_at : CheckedScript → ℕ → Bounds
bounds_at c i = slice_index_or c.bounds i (record { cycles = 0; words = 0; steps = 0 })

-- the graded-L bit of the service of this number
abbrev pub bit_at : CheckedScript → ℕ → ℕ
bit_at c i = unwrap_or (bit_of_service (linked_of c) i) 0

-- an event's number, its bit and its usage
abbrev pub Left : Type 0
Left = ℕ × ℕ × Usage

abbrev pub context_in : CheckedScript → Context
context_in c = context c.plan c.script

-- in a store with these variables and registers
abbrev pub owner_of : List ℕ → List (Option Address) → rust.Owner → Owner
owner_of vs rs rust.TheVariants.Plain = nothing
owner_of vs rs (rust.TheVariants.Locked k) = releases k
owner_of vs rs (rust.TheVariants.For x v last n body) = for_loop x v last n (statements_of body.now)
owner_of vs rs (rust.TheVariants.While test n body) = while_loop (map part_of test.now) n (statements_of body.now)
owner_of vs rs (rust.TheVariants.Return p) = returns p (held_at p.variables vs) (held_at p.registers rs)

abbrev pub open_of : List ℕ → List (Option Address) → Frame → Open
open_of vs rs f = record { block = statements_of f.rest.now; owner = owner_of vs rs f.owner }

abbrev pub opens_of : List ℕ → List (Option Address) → List Frame → List Open
opens_of vs rs fs = map (open_of vs rs) fs

abbrev pub transfer_of : Transfer → Operation
transfer_of t = transfers t.course t.function (words_sent t.table) t.tally

-- what is left of a transfer
abbrev pub transferred : Context → Transfer → Action
transferred c t s = awaited c (transfer_of t) s

abbrev pub pending_of : Pending → Operation
pending_of (Cycle k) = makes k
pending_of (Read k x bits) = reads k x bits
pending_of (Lock k body) = locks k (statements_of body.now)
pending_of (pending.Transfer w) = transfers w.course w.command.f (words_sent w.table) w.tally
pending_of Pause = pauses

abbrev pub is_paused_at : Option Pending → Bool
is_paused_at w = is_paused (option_map pending_of w)

-- what an answer is wanted for
abbrev pub asked : Option Pending → Option Pending
asked None = None
asked (Some w) = if is_pause (pending_of w) then None else Some w

-- a transfer keeps this width of its command, and it is that of the plan
abbrev pub IsWidthOf : Layout → Command → ℕ → Type 0
IsWidthOf plan k kept = (kept ≡ width plan (address_of k) k.f) × (kept ≤ 24)

-- the first statement of the innermost of open blocks is taken off it
pub record TakesFirst (old : List Frame) (first : Stmt) (new : List Frame) : Type 0 where
  pub before : List Frame
  pub last : Frame
  pub rest : Bor (List Stmt)
  pub was : old ≡ before ++ last ∷ []
  pub first_is : last.rest.now ≡ first ∷ rest.now
  pub is : new ≡ before ++ record last { rest = rest } ∷ []

-- the innermost of open blocks is the body of a `for`, whose next turn is begun with this value of this variable
pub record TurnsAgain (old : List Frame) (variable value : ℕ) (new : List Frame) : Type 0 where
  pub before : List Frame
  pub rest : Bor (List Stmt)
  pub current : ℕ
  pub last : ℕ
  pub turns : ℕ
  pub body : Bor (List Stmt)
  pub was : old ≡ before ++ record { rest = rest; owner = rust.TheVariants.For variable current last turns body } ∷ []
  pub below : current < last
  pub value_is : value ≡ current + 1
  pub is : new ≡ before ++ record { rest = body; owner = rust.TheVariants.For variable value last (turns - 1) body } ∷ []

-- the innermost of open blocks is the body of a procedure, whose caller sees this
pub record ReturnsTo (fs : List Frame) (caller : Scope) : Type 0 where
  pub before : List Frame
  pub rest : Bor (List Stmt)
  pub was : fs ≡ before ++ record { rest = rest; owner = rust.TheVariants.Return caller } ∷ []

-- the innermost of open blocks has no statement left
abbrev pub LastIsOver : List Frame → Type 0
LastIsOver fs = (before : List Frame) (last : Frame) → fs ≡ before ++ last ∷ [] → last.rest.now ≡ []

-- what is wanted, where something is
abbrev pub wanted_if : Bool → Option Pending → Option Pending
wanted_if true w = w
wanted_if false w = None

-- what is left of a statement after the answer that it wanted, where it wanted one
abbrev pub after_pending : Context → Option Pending → Action
after_pending c None = ends
after_pending c (Some w) = follows c (pending_of w)

-- a later operation is one of the statement that wanted this one first: the same, or of a transfer another cycle
abbrev pub IsOf : Operation → Operation → Type 0
IsOf (makes k) w = w ≡ makes k
IsOf (reads k x bits) w = w ≡ reads k x bits
IsOf (locks k body) w = w ≡ locks k body
IsOf (transfers t f table x) w = (later : Course) × (w ≡ transfers later f table x)
IsOf pauses w = w ≡ pauses

-- this statement wants the operation: begun in some state it wants one first, of which this is one
pub record IsOperationOf (c : Context) (w : Operation) (statement : Statement) : Type 0 where
  pub first : Operation
  pub from : State
  pub at : State
  pub begins :
      (answers : List Answer)
      → effect c most_turns statement (record from { answers = answers }) ≡ awaited c first (record at { answers = answers })
  pub is_of : IsOf first w

-- the crate in which the answer is to be used
abbrev pub crate_of : Pending → Option ℕ
crate_of (Cycle k) = Some k.c
crate_of (Read k x bits) = Some k.c
crate_of (Lock k body) = Some k
crate_of (pending.Transfer w) = Some w.command.c
crate_of Pause = None

-- the piece of a cycle that was made
abbrev pub made : CycleDone → Piece
made d = cycled (address_of d.command) d.command.f d.command.mv d.reply d.wait

abbrev pub piece_of : Item → Piece
piece_of (item.Cycle d) = made d
piece_of (item.Lock c w) = lock_taken c w
piece_of (item.Unlock c) = lock_released c
piece_of (item.Demand p v) = demanded p v

-- how many of the open blocks hold the lock of crate c
abbrev pub holds : ℕ → Owner → ℕ
holds c (releases k) = if nat_eq c k then 1 else 0
holds c _ = 0

abbrev pub times_held : ℕ → List Open → ℕ
times_held c [] = 0
times_held c (o ∷ os) = holds c o.owner + times_held c os

-- each crate is locked exactly where one open block holds its lock
abbrev pub AreHeld : Branch → List Open → Type 0
AreHeld b os = (c : ℕ) → times_held c os ≡ (if (b c).locked then 1 else 0)

-- how many of the crates 1 to n are locked
abbrev pub locked_among : Branch → ℕ → ℕ
locked_among b zero = 0
locked_among b (suc n) = locked_among b n + (if (b (suc n)).locked then 1 else 0)

module _ {V D C : ℕ} where
  -- the variables and registers of the innermost body
  abbrev pub variables_here : Machine V D C → Variables
  variables_here h = variables_in (held_at h.scope.variables h.variables)

  abbrev pub registers_here : Machine V D C → Registers
  registers_here h = registers_in (held_at h.scope.registers h.registers)

  -- the open blocks, as the definitions see them
  abbrev pub owner_in : Machine V D C → rust.Owner → Owner
  owner_in h o = owner_of h.variables h.registers o

  abbrev pub open_in : Machine V D C → Frame → Open
  open_in h f = open_of h.variables h.registers f

  abbrev pub opens_in : Machine V D C → List Open
  opens_in h = opens_of h.variables h.registers h.frames.items

  -- with the answers that are to come
  abbrev pub state_of : Machine V D C → List Answer → State
  state_of h answers = record {
    branch = branch_of h.branch;
    variables = variables_here h;
    registers = registers_here h;
    q = h.q;
    x = h.x;
    words = h.words;
    steps = h.steps;
    cost = h.cost;
    missed = h.missed;
    answers = answers;
  }

  -- what the innermost body may refer to
  abbrev pub reach : Machine V D C → Reach
  reach h = reach_of h.checked.now.script h.scope

  -- with a variable of the innermost body set
  abbrev pub with_value : Machine V D C → ℕ → ℕ → Machine V D C
  with_value h x v = record h { variables = slice_set h.variables (h.scope.variables.start + x) v }

  abbrev pub bounds_of : Machine V D C → Bounds
  bounds_of h = bounds_at h.checked.now h.service

  -- the event of the service in progress, or of the last one, under this number
  abbrev pub event_here : Machine V D C → ℕ → Left
  event_here h n = (n, bit_at h.checked.now h.service, record { cycles = h.cost; missed = h.missed })

  -- what is left of the open blocks
  abbrev pub left_in : Machine V D C → Action
  left_in h = rest_in (context_in h.checked.now) (opens_in h)

  -- what is left of the service: where it wants an answer, from that on
  abbrev pub stands : Option Pending → Machine V D C → List Answer → Behaviour State
  stands None h answers = left_in h (state_of h answers)
  stands (Some w) h answers = then_do (awaited (context_in h.checked.now) (pending_of w) (state_of h answers)) (left_in h)

  -- how many blocks more can be opened
  abbrev pub free : Machine V D C → ℕ
  free h = D - length h.frames.items

  -- the statement that was begun last wants this
  abbrev pub StandsIn : Machine V D C → Pending → Type 0
  StandsIn h w = IsSomeAnd h.begun (λ (b : Bor Stmt). IsOperationOf (context_in h.checked.now) (pending_of w) (statement_of b.now))

  -- for a read a variable, for a lock a free crate and room for the block, for a transfer that its next cycle is this command
  abbrev pub IsReady : Machine V D C → Pending → Type 0
  IsReady h (Cycle k) = Unit {0}
  IsReady h (Read k x bits) = (x < (reach h).variables) × (bits ≤ 24)
  IsReady h (Lock k body) =
      ((branch_of h.branch k).locked ≡ false) × (1 ≤ k) × (k ≤ 7) × Opens (reach h) (free h) (statements_of body.now)
  IsReady h (pending.Transfer w) =
      (w.tally < (reach h).variables) × ((left_at w.course).next_address [] ≡ Some (address_of w.command)) × (data_of w.course (words_sent w.table) ≡ Some w.command.mv)
      × IfSome w.kept_width (IsWidthOf h.checked.now.plan w.command)
  IsReady h Pause = Unit {0}

  -- a transfer goes on after a cycle that it wanted
  abbrev pub CanFollow : Machine V D C → Pending → Type 0
  CanFollow h (pending.Transfer w) = IsReady h (pending.Transfer w)
  CanFollow h _ = Unit {0}

  abbrev pub IsPending : Machine V D C → Pending → Type 0
  IsPending h w = IsSomeAnd (crate_of w) (λ k. IsSome (crate_waits h.checked.now.plan k)) × IsReady h w

  abbrev pub IsFineHere : Machine V D C → Behaviour State → Type 0
  IsFineHere h b = IsFine h.checked.now.plan (bounds_of h) b

  -- whatever the answers are, it is fine to do this and then what is left
  abbrev pub FineThen : Machine V D C → (Context → Action) → Type 0
  FineThen h go =
      (answers : List Answer) → IsFineHere h (then_do (go (context_in h.checked.now) (state_of h answers)) (left_in h))

  -- with these blocks open, the stores are as large as they are said to be and large enough, each lock is held by one of the blocks, and
  -- there is room to tell its release
  pub record HasRoomFor (h : Machine V D C) (os : List Open) : Type 0 where
    pub variables : length h.variables ≡ V
    pub registers : length h.registers ≡ V
    pub fits : fits h.checked.now.script V D C ≡ true
    pub scope : ScopeFits V h.checked.now.script h.scope
    pub blocks : OpenFit V h.checked.now.script h.scope D os
    pub words : (bounds_of h).words ≤ C
    pub steps : (bounds_of h).steps ≤ greatest
    pub cycles : (bounds_of h).cycles ≤ greatest
    pub few_missed : h.missed ≤ 65535
    pub missed : h.missed ≤ h.cost
    pub locks : AreHeld (branch_of h.branch) os
    pub unlocks : length h.unlocks.items + locked_among (branch_of h.branch) 7 ≤ 7

  abbrev pub HasRoom : Machine V D C → Type 0
  HasRoom h = HasRoomFor h (opens_in h)

  -- what the new machine has left is to do this, and then what the old one had left; it has made so many steps at most
  pub record Advances (most : ℕ) (old : Machine V D C) (go : Context → Action) (pending : Option Pending) (new : Machine V D C) : Type 0 where
    pub room : HasRoom new
    pub checked : new.checked ≡ old.checked
    pub service : new.service ≡ old.service
    pub awaits : IfSome pending (IsPending new)
    -- a block more costs a step
    pub pace : length new.frames.items + 2 * old.steps ≤ 2 * new.steps + length old.frames.items
    pub few : new.steps ≤ old.steps + most
    -- the locks that it releases
    pub released : List ℕ
    pub unlocks : new.unlocks.items ≡ old.unlocks.items ++ released
    pub goes :
        (answers : List Answer)
        → says released (stands pending new answers) ≡ then_do (go (context_in old.checked.now) (state_of old answers)) (left_in old)

  -- what the new machine has left is what was left of the innermost block, and then what the blocks around it had left
  pub record GoesOn (old : Machine V D C) (pending : Option Pending) (new : Machine V D C) : Type 0 where
    pub before : List Frame
    pub last : Frame
    pub was : old.frames.items ≡ before ++ last ∷ []
    pub advances : Advances 2 (record old { frames = record { items = before } }) (λ c. left_of c (open_in old last)) pending new

  -- what is wanted is this, whatever is answered
  abbrev pub Wants : Machine V D C → (Context → Action) → Machine V D C → Pending → Type 0
  Wants old go new w =
      (answers : List Answer)
      → awaited (context_in old.checked.now) (pending_of w) (state_of new answers) ≡ go (context_in old.checked.now) (state_of old answers)

  -- this goes on at once, and sets a variable at most
  pub record Proceeds (old : Machine V D C) (go : Context → Action) (next : Option Pending) (new : Machine V D C) : Type 0 where
    pub room : HasRoom new
    pub same : new ≡ record old { variables = new.variables }
    pub awaits : IfSome next (IsPending new)
    pub wants : IfSome next (Wants old go new)
    pub goes :
        (answers : List Answer)
        → stands next new answers ≡ then_do (go (context_in old.checked.now) (state_of old answers)) (left_in old)

  -- a block was opened: what the new machine has left is to do this, and then what the old one had left
  pub record Enters (old : Machine V D C) (go : Context → Action) (new : Machine V D C) : Type 0 where
    pub room : HasRoom new
    pub checked : new.checked ≡ old.checked
    pub service : new.service ≡ old.service
    pub steps : new.steps ≡ old.steps
    pub blocks : length new.frames.items ≡ length old.frames.items + 1
    pub unlocks : new.unlocks ≡ old.unlocks
    pub goes :
        (answers : List Answer)
        → stands None new answers ≡ then_do (go (context_in old.checked.now) (state_of old answers)) (left_in old)

  -- this wants an answer first
  pub record Awaits (h : Machine V D C) (go : Context → Action) (pending : Pending) : Type 0 where
    pub awaits : IsPending h pending
    pub goes :
        (answers : List Answer)
        → awaited (context_in h.checked.now) (pending_of pending) (state_of h answers) ≡ go (context_in h.checked.now) (state_of h answers)

  -- the cycle was made with this answer; all else stays
  pub record Makes (old : Machine V D C) (k : Command) (answer : Answer) (done' : CycleDone) (new : Machine V D C) : Type 0 where
    pub permitted : is_permitted old.checked.now.plan (branch_of old.branch) k.c answer.wait ≡ true
    pub done : done' ≡ record { command = k; reply = reply_to old.checked.now.plan (branch_of old.branch) (address_of k) k.f answer; wait = answer.wait }
    pub branch : branch_of new.branch ≡ branch_after (address_of k) k.f (branch_of old.branch)
    pub same :
        new
        ≡ record old {
          branch = new.branch;
          q = done'.reply.q;
          x = done'.reply.x;
          cost = old.cost + (1 + done'.wait);
          missed = missed_with done'.reply.x old.missed;
        }

  -- the wait is not permitted
  pub record IsRefused (h : Machine V D C) (crate_no wait : ℕ) (o : Overrun) : Type 0 where
    pub refused : is_permitted h.checked.now.plan (branch_of h.branch) crate_no wait ≡ false
    pub overrun : o ≡ record { c = crate_no; wait = wait }

  -- the lock was taken after this wait; all else stays
  pub record TakesLock (old : Machine V D C) (crate_no wait cost : ℕ) (new : Machine V D C) : Type 0 where
    pub permitted : is_permitted old.checked.now.plan (branch_of old.branch) crate_no wait ≡ true
    pub waited : cost ≡ wait
    pub branch : branch_of new.branch ≡ with_lock crate_no true (branch_of old.branch)
    pub same : new ≡ record old { branch = new.branch; cost = old.cost + cost }

  -- what is left stays the same, up to where an answer is wanted, to a pause, or to where no block is left
  pub record Settles (old : Machine V D C) (go : Context → Action) (pending : Option Pending) (new : Machine V D C) : Type 0 where
    pub room : HasRoom new
    pub checked : new.checked ≡ old.checked
    pub service : new.service ≡ old.service
    pub awaits : IfSome (asked pending) (IsPending new)
    pub begun : IfSome (asked pending) (StandsIn new)
    pub over : IfNone pending (new.frames.items ≡ [])
    pub goes :
        (answers : List Answer)
        → says new.unlocks.items (stands pending new answers) ≡ then_do (go (context_in old.checked.now) (state_of old answers)) (left_in old)

  -- it pauses only after more than so many steps from this number on
  abbrev pub PausesAfter : (from most : ℕ) → Option Pending → Machine V D C → Type 0
  PausesAfter from most pending new = is_paused_at pending ≡ true → from + most < new.steps

  -- the answer was used for this, and then what is left is what the new machine has left
  pub record Takes (old : Machine V D C) (pending : Pending) (answer : Answer) (used : Item) (new : Machine V D C) : Type 0 where
    pub room : HasRoom new
    pub checked : new.checked ≡ old.checked
    pub service : new.service ≡ old.service
    pub begun : new.begun ≡ old.begun
    pub unlocks : new.unlocks ≡ old.unlocks
    pub steps : old.steps ≤ new.steps
    pub few : new.steps ≤ old.steps + 1
    pub can_follow : CanFollow new pending
    pub goes :
        (answers : List Answer)
        → stands (Some pending) old (answer ∷ answers) ≡ does (piece_of used) (then_do (follows (context_in new.checked.now) (pending_of pending) (state_of new answers)) (left_in new))

  -- the answer's wait is not permitted
  abbrev pub Overruns : Machine V D C → Pending → Answer → Overrun → Type 0
  Overruns h pending answer o =
      (answers : List Answer)
      → stands (Some pending) h (answer ∷ answers) ≡ stops (overrun o.c o.wait) (state_of h (answer ∷ answers))

  -- what is left is this service from its start
  pub record Serves (old : Machine V D C) (number : ℕ) (v : Service) (pending : Option Pending) (new : Machine V D C) : Type 0 where
    pub room : HasRoom new
    pub checked : new.checked ≡ old.checked
    pub service : new.service ≡ number
    pub awaits : IfSome (asked pending) (IsPending new)
    pub begun : IfSome (asked pending) (StandsIn new)
    pub over : IfNone pending (new.frames.items ≡ [])
    pub goes :
        (answers : List Answer)
        → says new.unlocks.items (stands pending new answers)
        ≡ service_meaning (context_in old.checked.now) most_turns v (branch_of old.branch) answers
