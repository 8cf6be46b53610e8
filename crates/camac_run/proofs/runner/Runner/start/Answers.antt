use Rattle.std.proofs.Common.{◌≡◌, refl, sym, ap, subst, ◌∙◌, arith, length, true}
use Rattle.std.specs.Prelude.{IsTrue}
use Rattle.std.specs.Borrow.{Bor}
use Rattle.camac_lang.specs.Scope.{is_well_formed}
use Rattle.camac_lang.specs.Tree.{Script}
use Rattle.camac_branch.specs.Branch.{Branch}
use Rattle.camac_branch.specs.Crates.{branch_of}
use Rattle.camac_rules.specs.Checked.{CheckedScript, IsChecked}
use Rattle.camac_lang.specs.Fits.{fits}
use Rattle.camac_model.specs.Meaning.{context}
use Rattle.camac_model.specs.Run.{rounds}
use Rattle.camac_machine.specs.MachineState.{context_in}
use Rattle.camac_machine.specs.Rest.{onward}
use Rattle.camac_run.proofs.Sizes.{machine_fits}
use Rattle.camac_run.proofs.Serving.{starts}
use Rattle.camac_run.proofs.runner.Runner.start.Goals as goal

pub start-requires : goal.start-requires
start-requires g c = (machine_fits _ c.requires-raw.1.1.1.0, c.requires)

pub invariant_of-result : goal.invariant_of-result
invariant_of-result g c =
    let F : Script → Type 0 = λ s. IsTrue (is_well_formed s) in
    let formed = subst F c.script.ensures c.well_formed-2.ensures in
    let m = c.start.ensures in
    record {
      room = m.room;
      quiet = m.quiet;
      checked = subst (λ (b : Bor CheckedScript). IsChecked b.now) (sym m.checked) c.is_checked.ensures;
      formed = subst (λ (b : Bor CheckedScript). IsTrue (is_well_formed b.now.script)) (sym m.checked) formed;
      fits = subst (λ (b : Bor CheckedScript). fits b.now.script g.row.V g.row.DEPTH g.row.CAP ≡ true) (sym m.checked) c.requires;
      awaits = tt;
      begun = tt;
      idle = m.idle;
      service = tt;
      fine = tt;
      free = tt;
      events = omega arith;
      most = omega arith;
      under = tt;
    }

pub returns-clause-rest : goal.returns-clause-rest
returns-clause-rest g c =
    let k = c.args.checked.now in
    let m = c.start.result in
    λ answers. ap (λ (b : Bor CheckedScript). onward (context_in b.now) b.now.script.services (branch_of m.branch) answers) c.start.ensures.checked
    ∙ starts k.plan k.script (branch_of m.branch) answers
    ∙ ap (λ (b : Branch). rounds (length answers) (context k.plan k.script) 65535 k.script.services b answers) c.start.ensures.branch

pub returns-clause-fed : goal.returns-clause-fed
returns-clause-fed g c = refl

pub returns-clause-events : goal.returns-clause-events
returns-clause-events g c = refl

pub returns-clause-overrun : goal.returns-clause-overrun
returns-clause-overrun g c = refl

pub returns-clause-quiet : goal.returns-clause-quiet
returns-clause-quiet g c = refl

pub returns-clause-holds : goal.returns-clause-holds
returns-clause-holds g c = record { goes = λ more. sym (returns-clause-rest g c more) }

pub returns-clause-never : goal.returns-clause-never
returns-clause-never g c = record { limit = refl; awake = refl }
