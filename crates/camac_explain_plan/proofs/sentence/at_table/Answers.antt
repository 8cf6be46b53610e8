use Rattle.std.proofs.Common.{sym}
use Rattle.camac_explain_plan.proofs.sentence.at_table.Goals as goal

pub returns : goal.returns
returns c =
    rw (sym c.value_at_key.ensures, sym c.in_ok-way.ensures, sym c.in_ok-told.ensures) c.format.ensures.ok
