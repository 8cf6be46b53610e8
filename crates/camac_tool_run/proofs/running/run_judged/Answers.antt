use Rattle.std.proofs.Common.{sym}
use Rattle.camac_tool_run.proofs.Runs.{refuses}
use Rattle.camac_tool_run.proofs.running.run_judged.Goals as goal

pub returns-in-Accepted-clause-runs : goal.returns-in-Accepted-clause-runs
returns-in-Accepted-clause-runs g c = rw c.in-Accepted.is c.run_checked.ensures.runs

pub returns-in-Refused-clause-runs : goal.returns-in-Refused-clause-runs
returns-in-Refused-clause-runs g c = rw (c.in-Refused.is, ← c.refusal.ensures)
    (c.refuse.ensures.only.left, refuses c.refuse.result _ _ _ _ _ (sym c.refuse.ensures.only.records) c.refuse.ensures.shows)

pub returns-in-Accepted-clause-headline : goal.returns-in-Accepted-clause-headline
returns-in-Accepted-clause-headline g c = rw c.in-Accepted.is c.run_checked.ensures.headline

pub returns-in-Refused-clause-headline : goal.returns-in-Refused-clause-headline
returns-in-Refused-clause-headline g c = rw c.in-Refused.is tt
