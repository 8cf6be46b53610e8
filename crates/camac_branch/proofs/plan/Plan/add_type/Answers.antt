use Rattle.std.proofs.Common.{◌<◌, sym, subst, List, length, rules}
use Rattle.camac_branch.specs.Plan.{IsPlan, Layout}
use Rattle.camac_branch.specs.declared.plan.Kind.{Kind}
use Rattle.camac_branch.proofs.Builders.{is_plan-with_type}
use Rattle.camac_branch.proofs.plan.Plan.add_type.Goals as goal
use Rattle.camac_branch.proofs.plan.Plan.add_type.Goals.{in-Ok, in-Err}

pub invariant_of-self : goal.invariant_of-self
invariant_of-self c =
    let plan : Layout = record { buffer = c.self.inside.buffer; types = c.self.inside.types.items; crates = c.self.inside.crates } in
    let few : length plan.types < 64 = search rules in
    let IsPlanWith : List Kind → Type 0 = λ types. IsPlan (record plan { types = types }) in
    elim c.match-push.branch [
      | in-Ok w ↦ (subst IsPlanWith (sym (w.in-Ok.ensures {u = tt}).items) (is_plan-with_type plan c.args.name c.args.commands few c.is_command_map.ensures c.self.invariant.0), c.self.invariant.1)
      | in-Err w ↦ (subst IsPlanWith (sym (w.in-Err.ensures {u = tt}).items) c.self.invariant.0, c.self.invariant.1)
    ]
