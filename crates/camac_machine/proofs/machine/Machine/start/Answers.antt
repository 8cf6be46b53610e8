use Rattle.std.proofs.Common.{ℕ, List, [], replicate, false, ap, subst, ◌∙◌, length, arith}
use Rattle.std.proofs.lemmas.List.{length-replicate}
use Rattle.std.specs.Prelude.{None, IsTrue}
use Rattle.camac_lang.specs.Scope.{is_well_formed}
use Rattle.camac_lang.specs.Tree.{Script}
use Rattle.camac_branch.specs.Branch.{Branch}
use Rattle.camac_branch.specs.Crates.{branch_of}
use Rattle.camac_model.specs.State.{State, Variables, Registers}
use Rattle.camac_machine.specs.Store.{registers_in, held_at}
use Rattle.camac_machine.proofs.Bounds.{fits_parts, bounds_small}
use Rattle.camac_machine.proofs.Locks.{none_locked, among_few}
use Rattle.camac_machine.proofs.Scopes.{held_all}
use Rattle.camac_machine.proofs.machine.Machine.start.Goals as goal

pub returns-clause-room : goal.returns-clause-room
returns-clause-room g c =
    let k = c.args.checked.now in
    let F : Script → Type 0 = λ s. IsTrue (is_well_formed s) in
    let formed = subst F c.script.ensures c.well_formed-2.ensures in
    let small = bounds_small k c.is_checked.ensures formed g.row.V g.row.DEPTH g.row.CAP (fits_parts k.script g.row.V g.row.DEPTH g.row.CAP c.requires) 0 in
    record {
      variables = length-replicate g.row.V 0;
      registers = length-replicate g.row.V None;
      fits = c.requires;
      scope = rw c.empty.ensures (record { variables = omega arith; registers = omega arith; more_variables = omega arith; more_registers = omega arith });
      blocks = rw c.new.ensures tt;
      words = small.words;
      steps = small.steps;
      cycles = small.cycles;
      few_missed = omega arith;
      missed = omega arith;
      locks = rw c.new.ensures (none_locked (branch_of c.start.result) (λ i. ap (λ (b : Branch). (b i).locked) c.start.ensures));
      unlocks =
          let few = among_few (branch_of c.start.result) 7 in
          let none = ap length c.new-3.ensures in omega (arith, few, none);
    }

pub returns-clause-fresh : goal.returns-clause-fresh
returns-clause-fresh g c = λ answers.
    let b = branch_of c.start.result in
    let sc = c.empty.result in
    let ws = c.new-2.result in
    let holding : Branch → Variables → Registers → List ℕ → State = λ b vs rs ws. record { branch = b; variables = vs; registers = rs; q = false; x = false; words = ws; steps = 0; cost = 0; missed = 0; answers = answers } in
    ap (λ vs. holding b vs (registers_in (held_at sc.registers (replicate g.row.V None))) ws) (held_all 0 sc.variables g.row.V)
    ∙ ap (λ rs. holding b (λ _. 0) rs ws) (held_all None sc.registers g.row.V)
    ∙ ap (λ ws. holding b (λ _. 0) (λ _. None) ws) c.new-2.ensures
    ∙ ap (λ b. holding b (λ _. 0) (λ _. None) []) c.start.ensures
