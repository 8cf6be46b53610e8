-- What a service in progress surely does, whatever is answered, by what is known before the answers.
use Rattle.std.specs.Prelude.{◌≡◌, ◌⊎◌, ℕ, Bool, true, false, List, ◌++◌, take, Option, Some, None, slice_index_or}
use Rattle.camac_branch.specs.Address.{Address}
use Rattle.camac_branch.specs.Branch.{Answer}
use Rattle.camac_branch.specs.Plan.{Layout}
use Rattle.camac_branch.specs.declared.answer.Command.{Command}
use Rattle.camac_rules.specs.Checked.{CheckedScript}
use Rattle.camac_lang.specs.Tree.{Condition, Expression, Statement}
use Rattle.camac_model.specs.Behaviour.{Behaviour, ends, stops, wrong, Action, decide, then_do}
use Rattle.camac_model.specs.Fine.{Bounds, IsFine, most_turns}
use Rattle.camac_model.specs.Cycle.{release}
use Rattle.camac_model.specs.Meaning.{Context, block_meaning, context, effect, transfer_to}
use Rattle.camac_model.specs.State.{State, Registers, Variables, set_at}
use Rattle.camac_model.specs.Value.{truth, value}
use Rattle.camac_machine.specs.Course.{words_sent}
use Rattle.camac_machine.specs.MachineState.{bounds_of, context_in, left_in, registers_here, variables_here}
use Rattle.camac_machine.specs.Rest.{Operation, makes, reads, locks, transfers, pauses, awaited}
use Rattle.camac_machine.specs.declared.machine.Machine.{Machine}
use Rattle.camac_run.specs.Ahead.{AreAhead}
use Rattle.camac_run.specs.Transfer.{IsBlock, left_by, next_in}
use Rattle.camac_run.specs.declared.ahead.Inside.{Inside}
use Rattle.camac_run.specs.declared.ahead.Known.{Known}
use Rattle.camac_run.specs.declared.member.Member.{Member}
use Rattle.camac_run.specs.declared.sure.Sure.{Sure}
use Rattle.camac_run.specs.declared.sure.Sure.TheVariants as sure
use Rattle.camac_run.specs.declared.progress.Wanted.{Wanted}
use Rattle.camac_run.specs.declared.progress.Wanted.TheVariants as wanted
use Rattle.camac_run.specs.declared.transfer.ReadBlock.{ReadBlock}
use Rattle.camac_run.specs.declared.transfer.TransferLeft.{TransferLeft}

-- what is known of values by their numbers is so
abbrev pub Knows : {A B : Type 0} → (A → B) → List (Option A) → (ℕ → B) → Type 0
Knows {A} seen known all = (i : ℕ) (v : A) → slice_index_or known i None ≡ Some v → all i ≡ seen v

abbrev pub KnowsVariables : List (Option ℕ) → Variables → Type 0
KnowsVariables = Knows (λ v. v)

abbrev pub KnowsRegisters : List (Option Address) → Registers → Type 0
KnowsRegisters = Knows Some

pub record IsKnown (variables : List (Option ℕ)) (registers : List (Option Address)) (s : State) : Type 0 where
  pub variables_are : KnowsVariables variables s.variables
  pub registers_are : KnowsRegisters registers s.registers

-- the value of an expression, where the variables are known so
abbrev pub HasValue : List (Option ℕ) → Expression → ℕ → Type 0
HasValue known e n = (all : Variables) → KnowsVariables known all → value e all ≡ Some n

-- whether a condition holds, whatever the flags are
abbrev pub HasTruth : List (Option ℕ) → (Variables → (q x : Bool) → Option Bool) → Bool → Type 0
HasTruth known holds b = (all : Variables) (q x : Bool) → KnowsVariables known all → holds all q x ≡ Some b

-- the operation that one answer makes; a transfer may make more
abbrev pub one_operation : Operation → Option Wanted
one_operation (makes k) = Some (wanted.Cycle k)
one_operation (reads k x bits) = Some (wanted.Cycle k)
one_operation (locks k body) = Some (wanted.Lock k)
one_operation (transfers course f table x) = None
one_operation pauses = None

-- what goes on with it: behind a lock that is taken its block, and the release
abbrev pub goes_on_with : Context → Operation → Action
goes_on_with c (locks k body) s = then_do (block_meaning c most_turns body s) (release k)
goes_on_with c (makes k) s = ends s
goes_on_with c (reads k x bits) s = ends s
goes_on_with c (transfers course f table x) s = ends s
goes_on_with c pauses s = ends s

-- the variables after it
abbrev pub After : Operation → (before after : Variables) → Type 0
After (makes k) before after = after ≡ before
After (reads k x bits) before after = (v : ℕ) × (after ≡ set_at x v before)
After (locks k body) before after = after ≡ before
After (transfers course f table x) before after = (v : ℕ) × (after ≡ set_at x v before)
After pauses before after = ⊥

-- with these answers to come
abbrev pub on : List Answer → State → State
on answers s = record s { answers = answers }

-- the statement makes this cycle alone, and no more is known of the variables after it
pub record MakesCycle (c : Context) (variables : List (Option ℕ)) (registers : List (Option Address)) (st : Statement) (k : Command) (after : List (Option ℕ)) : Type 0 where
  pub operation : Operation
  pub is_cycle : one_operation operation ≡ Some (wanted.Cycle k)
  pub begins : (s : State) → IsKnown variables registers s → effect c most_turns st s ≡ awaited c operation s
  pub known : (f g : Variables) → KnowsVariables variables f → After operation f g → KnowsVariables after g

-- the statement makes the cycles of this block alone, and no more is known of the variables after it
pub record MakesBlock (c : Context) (variables : List (Option ℕ)) (registers : List (Option Address)) (st : Statement) (t : TransferLeft) (after : List (Option ℕ)) : Type 0 where
  pub block : IsBlock t
  -- of the variable that it sets
  pub number : ℕ
  pub begins :
      (s : State) → IsKnown variables registers s
      → effect c most_turns st s ≡ transfer_to c.plan t.first.f (words_sent t.table) (next_in t) number s
  pub known : (f : Variables) (v : ℕ) → KnowsVariables variables f → KnowsVariables after (set_at number v f)

-- what needs no answer, and leaves so much known; or is wrong
abbrev pub PassesFrom : State → Action → List (Option ℕ) → List (Option Address) → Type 0
PassesFrom s go variables registers =
    ((t : State) × ((answers : List Answer) → go (on answers s) ≡ stops wrong (on answers t)))
    ⊎ ((t : State) × IsKnown variables registers t × ((answers : List Answer) → go (on answers s) ≡ ends (on answers t)))

-- the statement is such a one, wherever so much is known before it
abbrev pub NeedsNone : Context → List (Option ℕ) → List (Option Address) → Statement → List (Option ℕ) → List (Option Address) → Type 0
NeedsNone c variables registers st variables' registers' =
    (s : State) → IsKnown variables registers s → PassesFrom s (effect c most_turns st) variables' registers'

-- what a statement surely does, and what is known before and after it
abbrev pub IsSure : Context → List (Option ℕ) → List (Option Address) → Statement → Sure → List (Option ℕ) → List (Option Address) → Type 0
IsSure c variables registers st (sure.Makes k) variables' registers' = (registers' ≡ registers) × MakesCycle c variables registers st k variables'
IsSure c variables registers st (sure.Transfers b) variables' registers' = (registers' ≡ registers) × MakesBlock c variables registers st (left_by b) variables'
IsSure c variables registers st sure.NeedsNone variables' registers' = NeedsNone c variables registers st variables' registers'
IsSure c variables registers st sure.Unknown variables' registers' = Unit {0}

-- the cycle of a step, if it is known
abbrev pub sure_of : Option Command → Sure
sure_of None = sure.Unknown
sure_of (Some k) = sure.Makes k

-- the block of a step, if it is known
abbrev pub transfer_of : Option ReadBlock → Sure
transfer_of None = sure.Unknown
transfer_of (Some b) = sure.Transfers b

-- what a block sees that stands before the procedure of this number
abbrev pub context_before : CheckedScript → ℕ → Context
context_before c i = context c.plan (record c.script { procedures = take i c.script.procedures })

abbrev pub context_of : Inside → Context
context_of b = context_before b.checked.now b.procedures

-- where it is fine to do this, these operations are ahead, whatever the service leaves after it
abbrev pub LeadsTo : Layout → Bounds → Action → State → List Member → Type 0
LeadsTo plan bounds go s os =
    ((answers : List Answer) → IsFine plan bounds (go (on answers s)))
    → (leave : State → Behaviour (Unit {0})) → AreAhead os (λ answers. then_do (go (on answers s)) leave)

-- they are ahead wherever so much is known
abbrev pub Leads : Layout → Bounds → Known → Action → List Member → Type 0
Leads plan bounds k go os = (s : State) → IsKnown k.variables k.registers s → LeadsTo plan bounds go s os

-- This makes these operations, whatever is answered. If they are all, so much is known after it: what is ahead then is ahead behind them.
-- Else it makes them first, and it is not known how it goes on.
abbrev pub Goes : Layout → Action → Known → List Member → (all : Bool) → Known → Type 0
Goes plan go before made true after =
    (bounds : Bounds) (around : Action) (os : List Member) → Leads plan bounds after around os → Leads plan bounds before (λ s. then_do (go s) around) (made ++ os)
Goes plan go before made false after = (bounds : Bounds) (around : Action) → Leads plan bounds before (λ s. then_do (go s) around) made

-- operations that this makes are added to others
abbrev pub Adds : Layout → Action → (before : Known) → (old : List Member) → (all : Bool) → (after : Known) → (new : List Member) → Type 0
Adds plan go before old all after new = (made : List Member) × (new ≡ old ++ made) × Goes plan go before made all after

-- `if`, by what its arms do
abbrev pub chooses : Condition → Action → Action → Action
chooses test first second s = decide (truth test s.variables s.q s.x) first second s

-- all that is known then was known before
abbrev pub KnowsLess : (before after : Known) → Type 0
KnowsLess before after = Knows Some after.variables (λ i. slice_index_or before.variables i None) × Knows Some after.registers (λ i. slice_index_or before.registers i None)

-- those that are ahead after what is waited for
abbrev pub AddsFollowing : {V D C : ℕ} → Machine V D C → Operation → (old new : List Member) → Type 0
AddsFollowing h w old new =
    (added : List Member)
    × (new ≡ old ++ added)
    × ((t : State) → t.registers ≡ registers_here h → After w (variables_here h) t.variables
    → LeadsTo h.checked.now.plan (bounds_of h) (λ s. then_do (goes_on_with (context_in h.checked.now) w s) (left_in h)) t added)
