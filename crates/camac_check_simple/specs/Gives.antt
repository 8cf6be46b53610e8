-- The rules as the checker's code follows them.
use Rattle.std.specs.Prelude.{ℕ, Some, map, take}
use Rattle.camac_branch.specs.Plan.{Layout}
use Rattle.camac_lang.specs.Tree.{Script}
use Rattle.camac_lang.specs.View.{lam_of, table_of, procedure_of}
use Rattle.camac_model.specs.Meaning.{lam_address}
use Rattle.camac_model.specs.Fine.{Bounds}
use Rattle.camac_rules.specs.Accept.{bare}
use Rattle.camac_rules.specs.Capped.{capped}
use Rattle.camac_rules.specs.Costs.{Verdict, verdict}
use Rattle.camac_rules.specs.Cycles.{Context}
use Rattle.camac_rules.specs.Known.{Facts}
pub use Rattle.camac_check_known.specs.Gives.{Fails, Gives}
use Rattle.camac_check_simple.specs.declared.context.Context as code
use Rattle.camac_check_simple.specs.declared.statement.Findings.{Findings}

-- the rules as code follows them, with costs in 64 bits
abbrev pub by_code : code.Context → Context
by_code c = record { plan = c.plan.now; tables = map (λ t. t.words) (map table_of c.tables.now); lams = map lam_address (map lam_of c.lams.now); procedures = map procedure_of c.procedures.now; limit = capped }

abbrev pub verdict_of : Findings → Verdict
verdict_of f = verdict f.known f.costs

-- what is found of a statement that leaves this known and costs this
abbrev pub leaving : Facts → Bounds → Verdict
leaving known costs = verdict (Some known) costs

-- the rules themselves
abbrev pub by_rules : code.Context → Context
by_rules c = record { plan = c.plan.now; tables = map (λ t. t.words) (map table_of c.tables.now); lams = map lam_address (map lam_of c.lams.now); procedures = map procedure_of c.procedures.now; limit = λ k. k }

-- after so many procedures
abbrev pub rules_before : code.Context → ℕ → Context
rules_before c n = record (by_rules c) { procedures = map procedure_of (take n c.procedures.now) }

abbrev pub code_before : code.Context → ℕ → Context
code_before c n = record (by_code c) { procedures = map procedure_of (take n c.procedures.now) }

-- all that a script may refer to, where each cost is limited so
abbrev pub whole_of : (Bounds → Bounds) → Layout → Script → Context
whole_of limit plan s = record (bare limit plan s) { procedures = s.procedures }
