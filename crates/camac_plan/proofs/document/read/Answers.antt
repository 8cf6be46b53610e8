use Rattle.camac_plan.proofs.Documents.{tells_no_toml, tells_too_deep, untold, untold_case, told, told_case}
use Rattle.std.proofs.Common.{rules}
use Rattle.camac_plan.proofs.document.read.Goals as goal

pub returns-in_err-table-clause-no_toml : goal.returns-in_err-table-clause-no_toml
returns-in_err-table-clause-no_toml c = tells_no_toml c.args.bytes.now

pub returns-in_err-table-clause-too_deep : goal.returns-in_err-table-clause-too_deep
returns-in_err-table-clause-too_deep c = tells_too_deep c.args.bytes.now

pub returns-clause-no_toml : goal.returns-clause-no_toml
returns-clause-no_toml c = tells_no_toml c.args.bytes.now

pub returns-clause-too_deep : goal.returns-clause-too_deep
returns-clause-too_deep c = tells_too_deep c.args.bytes.now

pub returns-in_err-table-clause-reads : goal.returns-in_err-table-clause-reads
returns-in_err-table-clause-reads c = untold c.args.bytes.now _ c.in_ok-is_shallow.ensures c.from_residual-in_err-table.result _ (search rules) c.in_err-table.ensures.refused

pub returns-in_err-table-clause-case : goal.returns-in_err-table-clause-case
returns-in_err-table-clause-case c = untold_case c.args.bytes.now _ c.in_ok-is_shallow.ensures c.from_residual-in_err-table.result _ (search rules) c.in_err-table.ensures.refused c.in_err-table.ensures.within

pub returns-clause-reads : goal.returns-clause-reads
returns-clause-reads c = told c.args.bytes.now _ c.in_ok-is_shallow.ensures _ c.in_ok-table.ensures.ok c.read_table.result c.read_table.ensures

pub returns-clause-case : goal.returns-clause-case
returns-clause-case c = told_case c.args.bytes.now _ c.in_ok-is_shallow.ensures _ c.in_ok-table.ensures.ok c.read_table.result c.read_table.ensures
