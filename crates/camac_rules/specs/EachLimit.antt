-- How much the `each` loops of a body judge. All is read from the text, before the body is judged: an arm that can't be reached counts.
use Rattle.std.specs.Prelude.{ℕ, ◌+◌, ◌-◌, ◌*◌, Result, Ok, nat_le}
use Rattle.camac_lang.specs.Tree.{Statement, choose, choose_else, for_, for_each, while_, locked, Block, done, next}
use Rattle.camac_rules.specs.declared.case.Body.{Body}
use Rattle.camac_rules.specs.declared.rule.CheckRule.TheVariants.{TooManyTurns}
use Rattle.camac_rules.specs.Cases.{judged_case}
use Rattle.camac_rules.specs.Fault.{Fault}
use Rattle.camac_rules.specs.Refusal.{◌>>=◌, ◌>>◌, required}

-- the most of a procedure or service
abbrev pub judged_limit : ℕ
judged_limit = 65536

-- What is judged where a statement is judged once: the statement, those in it, and each turn of an `each`, which counts 1 as a statement does: else
-- turns of an empty block would count nothing.
abbrev mutual
  pub judged : Statement → ℕ
  judged (choose spot test a) = 1 + block_judged a
  judged (choose_else spot test a b) = 1 + (block_judged a + block_judged b)
  judged (for_ spot x e1 e2 keeps body) = 1 + block_judged body
  judged (for_each spot x v last body) = 1 + (last + 1 - v) * (1 + block_judged body)
  judged (while_ spot test most m keeps body) = 1 + block_judged body
  judged (locked spot e body) = 1 + block_judged body
  judged s = 1

  pub block_judged : Block → ℕ
  block_judged done = 0
  block_judged (next s rest) = judged s + block_judged rest

-- Counts on over the outermost `each` loops, in the order of the text. The first that passes the limit is refused, at its spot.
abbrev mutual
  pub count : Body → Statement → ℕ → Result ℕ Fault
  count place (choose spot test a) n = count_block place a n
  count place (choose_else spot test a b) n = do
    m ← count_block place a n
    count_block place b m
  count place (for_ spot x e1 e2 keeps body) n = count_block place body n
  count place (for_each spot x v last body) n = do
    required (nat_le (n + (last + 1 - v) * (1 + block_judged body)) judged_limit) TooManyTurns spot (judged_case place (n + (last + 1 - v) * (1 + block_judged body)) judged_limit)
    Ok (n + (last + 1 - v) * (1 + block_judged body))
  count place (while_ spot test most m keeps body) n = count_block place body n
  count place (locked spot e body) n = count_block place body n
  count place s n = Ok n

  pub count_block : Body → Block → ℕ → Result ℕ Fault
  count_block place done n = Ok n
  count_block place (next s rest) n = do
    m ← count place s n
    count_block place rest m
