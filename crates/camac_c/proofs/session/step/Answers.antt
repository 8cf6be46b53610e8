use Rattle.std.proofs.Common.{arith, rules}
use Rattle.std.proofs.lemmas.Grind.{common_steps}
use Rattle.camac_c.proofs.session.step.Goals.{in-Wants, in-Ahead, in-ServiceAhead, in-Next, in-Step, in-Words, in-Record, in-Item, in-Held, in-Where, in-Left, in-Services, in-Name, in-Numbers, in-Limit, in-GoOn, in-Transfer, in-ToWrite, in-Back, in-Abandon, in-Rewind}
use Rattle.camac_c.proofs.session.step.Goals as goal

pub returns : goal.returns
returns c =
    elim c.match-ask.branch [
      | in-Wants w ↦ search rules
      | in-Ahead w ↦ search rules
      | in-ServiceAhead w ↦ search rules
      | in-Next w ↦ search rules
      | in-Step w ↦ search rules
      | in-Words w ↦ search rules
      | in-Record w ↦ search rules
      | in-Item w ↦ search rules
      | in-Held w ↦ grind (arith, common_steps)
      | in-Where w ↦ search rules
      | in-Left w ↦ search rules
      | in-Services w ↦ search rules
      | in-Name w ↦ search rules
      | in-Numbers w ↦ search rules
      | in-Limit w ↦ search rules
      | in-GoOn w ↦ search rules
      | in-Transfer w ↦ search rules
      | in-ToWrite w ↦ search rules
      | in-Back w ↦ search rules
      | in-Abandon w ↦ search rules
      | in-Rewind w ↦ search rules
    ]
