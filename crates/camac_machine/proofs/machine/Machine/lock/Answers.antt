use Rattle.std.proofs.Common.{◌+◌, sym, ap, ◌∙◌}
use Rattle.camac_branch.specs.Crates.{branch_of, is_permitted}
use Rattle.camac_machine.proofs.machine.Machine.lock.Goals as goal

pub returns-clause-took : goal.returns-clause-took
returns-clause-took g c =
    let h = c.args.self.now in
    record {
      permitted = sym (c.in_ok-wait.ensures.permitted ∙ ap (λ p. is_permitted p (branch_of h.branch) c.args.crate_no c.args.wait) c.plan.ensures);
      waited = c.in_ok-wait.ensures.wait.0;
      branch = c.in_ok-wait.ensures.next;
      same = ap (λ n. record h { branch = c.lock.new.branch; cost = h.cost + n }) c.from.ensures;
    }
