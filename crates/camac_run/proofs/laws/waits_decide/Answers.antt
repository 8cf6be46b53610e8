use Rattle.std.proofs.Common.{◌≡◌, [], Option, None, Some, sym, ap, ◌∙◌}
use Rattle.std.specs.Prelude.{IfNone}
use Rattle.camac_run.specs.Waits.{WaitsDecide, is_made}
use Rattle.camac_run.specs.declared.progress.Progress.TheVariants.{Went, Overrun}
use Rattle.camac_run.proofs.laws.waits_decide.Goals as goal

where_none : {A P : Type 0} (o : Option A) → o ≡ None → IfNone o P → P
where_none None e h = h
where_none (Some x) e h = absurd (cc)

waits_decide : WaitsDecide
waits_decide old new o a (Went item unlocks event) first goes few g = sym (ap is_made (g.goes [])) ∙ goes a [] few
waits_decide old new o a (Overrun x) first goes few g = sym (ap is_made (where_none old.overrun first g.now [])) ∙ goes a [] few

pub returns : goal.returns
returns c = waits_decide
