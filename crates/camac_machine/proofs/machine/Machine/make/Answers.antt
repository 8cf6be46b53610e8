use Rattle.std.proofs.Common.{sym, ap, ◌∙◌}
use Rattle.camac_branch.specs.Branch.{reply_to}
use Rattle.camac_branch.specs.Crates.{branch_of, is_permitted}
use Rattle.camac_machine.specs.Rest.{address_of}
use Rattle.camac_machine.proofs.Takes.{same_done, same_made}
use Rattle.camac_machine.proofs.machine.Machine.make.Goals as goal

pub returns-clause-made : goal.returns-clause-made
returns-clause-made g c =
    let h = c.args.self.now in
    let k = c.args.command in
    let a = c.args.answer in
    record {
      permitted = sym (c.in_ok-done.ensures.permitted ∙ ap (λ p. is_permitted p (branch_of h.branch) k.c a.wait) c.plan.ensures);
      done =
          same_done c.in_ok-done.done k _ a.wait c.in_ok-done.ensures.command
          (c.in_ok-done.ensures.reply ∙ ap (λ p. reply_to p (branch_of h.branch) (address_of k) k.f a) c.plan.ensures) c.in_ok-done.ensures.wait.0;
      branch = c.in_ok-done.ensures.next;
      same = same_made h c.cycle.new.branch c.in_ok-done.done _ c.from.result c.add_missed.new.missed c.done.view_is c.from.ensures c.add_missed.ensures;
    }
