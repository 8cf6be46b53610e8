use Rattle.std.proofs.Common.{◌∙◌, arith}
use Rattle.camac_branch.specs.Crates.{branch_of}
use Rattle.camac_run.proofs.Undone.{next}
use Rattle.camac_run.proofs.back.commands_back.Goals as goal

pub crates-preserved : goal.crates-preserved
crates-preserved c =
    let i = c.crates.invariant in
    record {
      items = next c.args.plan.now (branch_of c.args.now.now) (branch_of c.args.was.now) c.crates.number c.crates.back.items c.add_back.new.back.items c.crates-test.true c.add_back.ensures.added ∙ i.items;
      len = let few = c.add_back.ensures.few in let was = i.len in omega (arith, few, was);
    }
