-- A machine of which a part has changed: what it keeps of its room, and what it has done.
use Rattle.std.proofs.Common.{◌≡◌, ℕ, ◌+◌, ◌*◌, ◌≤◌, List, [], length, Option, None, refl, sym}
use Rattle.std.proofs.lemmas.List.{append-nil}
use Rattle.std.specs.Borrow.{Bor}
use Rattle.arrayvec.specs.ArrayVec.{ArrayVec}
use Rattle.camac_lang.specs.declared.tree.Stmt.{Stmt}
use Rattle.camac_branch.specs.Address.{Address}
use Rattle.camac_branch.specs.Branch.{Answer}
use Rattle.camac_branch.specs.Crates.{Crates, branch_of}
use Rattle.camac_model.specs.Behaviour.{Action, then_do}
use Rattle.camac_model.specs.Meaning.{Context}
use Rattle.camac_machine.specs.declared.machine.Frame.{Frame}
use Rattle.camac_machine.specs.declared.machine.Machine.{Machine}
use Rattle.camac_machine.specs.declared.scope.Scope.{Scope}
use Rattle.camac_machine.specs.MachineState.{AreHeld, locked_among, context_in, state_of, left_in, stands, HasRoomFor, HasRoom, Advances}
use Rattle.camac_machine.specs.Rest.{Open}
use Rattle.camac_machine.specs.Within.{ScopeFits, OpenFit}

module _ {V D C : ℕ} {h : Machine V D C} where
  -- the bounds of the service, and what was missed in it, do not depend on the store, the blocks and the locks
  pub room_with : {begun : Option (Bor Stmt)} {words : List ℕ} {steps : ℕ} {variables : List ℕ} {registers : List (Option Address)} {scope : Scope} {branch : Crates} {frames : ArrayVec Frame} {unlocks : ArrayVec ℕ} {before after : List Open} → HasRoomFor h before
      → length variables ≡ V → length registers ≡ V → ScopeFits V h.checked.now.script scope → OpenFit V h.checked.now.script scope D after → AreHeld (branch_of branch) after → length unlocks.items + locked_among (branch_of branch) 7 ≤ 7
      → HasRoomFor (record h { begun = begun; words = words; steps = steps; variables = variables; registers = registers; scope = scope; branch = branch; frames = frames; unlocks = unlocks }) after
  room_with r variables registers scope blocks locks unlocks = record {
    variables = variables;
    registers = registers;
    fits = r.fits;
    scope = scope;
    blocks = blocks;
    words = r.words;
    steps = r.steps;
    cycles = r.cycles;
    few_missed = r.few_missed;
    missed = r.missed;
    locks = locks;
    unlocks = unlocks;
  }

  -- nor the room on the statement that was begun, the words and the steps
  pub room_kept : {begun : Option (Bor Stmt)} {words : List ℕ} {steps : ℕ} → HasRoom h → HasRoom (record h { begun = begun; words = words; steps = steps })
  room_kept r = room_with r r.variables r.registers r.scope r.blocks r.locks r.unlocks

  -- where nothing is wanted and no lock released, the machine has advanced by what it has left
  pub advances_by : {go : Context → Action} {words : List ℕ} {steps : ℕ} {variables : List ℕ} {registers : List (Option Address)} {scope : Scope} {frames : ArrayVec Frame} → let new : Machine V D C = record h { words = words; steps = steps; variables = variables; registers = registers; scope = scope; frames = frames } in
      HasRoom new → length frames.items + 2 * h.steps ≤ 2 * steps + length h.frames.items → steps ≤ h.steps + 1
      → ((answers : List Answer) → stands None new answers ≡ then_do (go (context_in h.checked.now) (state_of h answers)) (left_in h)) → Advances 1 h go None new
  advances_by room pace few goes = record {
    room = room;
    checked = refl;
    service = refl;
    awaits = tt;
    pace = pace;
    few = few;
    released = [];
    unlocks = sym (append-nil h.unlocks.items);
    goes = goes;
  }
