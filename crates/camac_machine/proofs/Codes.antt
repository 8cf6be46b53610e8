-- Codes of what is wanted and of open blocks: distinct values have distinct codes, by which a proof tells them apart.
use Rattle.std.specs.Prelude.{◌≡◌, ℕ, List, Option, refl}
use Rattle.std.specs.Coded.{Coded, code_by, coded×, coded_ℕ, coded_list, coded_option}
use Rattle.std.proofs.Common.{ap}
use base.Stored.{Gv, gnil, gnum, gcons}
use Rattle.camac_branch.specs.contracts.answer.Command as command
use Rattle.camac_branch.specs.Address.{Address}
use Rattle.camac_esone.specs.contracts.address.Address as address
use Rattle.camac_lang.specs.Code.{clash, condition_coded, block_coded, statement_code, same_statement}
use Rattle.camac_lang.specs.Tree.{Block, Statement}
use Rattle.camac_machine.specs.contracts.scope.Scope as scope
use Rattle.camac_machine.specs.contracts.transfer.Course as course
use Rattle.camac_machine.specs.Rest.{Operation, makes, reads, locks, transfers, pauses, Owner, nothing, releases, for_loop, while_loop, returns, Open}

abbrev pub table_coded : Coded (Option (List ℕ))
table_coded = coded_option (coded_list coded_ℕ)

abbrev pub operation_code : Operation → Gv
operation_code (makes k) = gcons (gnum 0) (command.the_row.coded.code k)
operation_code (reads k x bits) = gcons (gnum 1) (gcons (command.the_row.coded.code k) (gcons (gnum x) (gnum bits)))
operation_code (locks k body) = gcons (gnum 2) (gcons (gnum k) (block_coded.code body))
operation_code (transfers t f table x) = gcons (gnum 3) (gcons (course.the_row.coded.code t) (gcons (gnum f) (gcons (table_coded.code table) (gnum x))))
operation_code pauses = gcons (gnum 4) gnil

pub same_operation : (a b : Operation) → operation_code a ≡ operation_code b → a ≡ b
same_operation (makes k) (makes l) e =
    let h : command.the_row.coded.code k ≡ command.the_row.coded.code l = cc in ap makes (command.the_row.coded.inj k l h)
same_operation (reads k x m) (reads l y n) e =
    let h : command.the_row.coded.code k ≡ command.the_row.coded.code l = cc in cc (command.the_row.coded.inj k l h)
same_operation (locks k a) (locks l b) e =
    let h : block_coded.code a ≡ block_coded.code b = cc in cc (block_coded.inj a b h)
same_operation (transfers t f table x) (transfers u g words y) e =
    let h : course.the_row.coded.code t ≡ course.the_row.coded.code u = cc in
    let k : table_coded.code table ≡ table_coded.code words = cc in
    cc (course.the_row.coded.inj t u h, table_coded.inj table words k)
same_operation pauses pauses e = refl
same_operation x y e = clash (operation_code x) (operation_code y) e refl

abbrev pub want_coded : Coded Operation
want_coded = record { code = operation_code; inj = same_operation }

abbrev variables_coded : Coded (List ℕ)
variables_coded = coded_list coded_ℕ

abbrev registers_coded : Coded (List (Option Address))
registers_coded = coded_list (coded_option address.the_row.coded)

abbrev pub owner_code : Owner → Gv
owner_code nothing = gcons (gnum 0) gnil
owner_code (releases k) = gcons (gnum 1) (gnum k)
owner_code (for_loop x v last n body) = gcons (gnum 2) (gcons (gnum x) (gcons (gnum v) (gcons (gnum last) (gcons (gnum n) (block_coded.code body)))))
owner_code (while_loop test n body) = gcons (gnum 3) (gcons (condition_coded.code test) (gcons (gnum n) (block_coded.code body)))
owner_code (returns p vs rs) = gcons (gnum 4) (gcons (scope.the_row.coded.code p) (gcons (variables_coded.code vs) (registers_coded.code rs)))

pub same_owner : (a b : Owner) → owner_code a ≡ owner_code b → a ≡ b
same_owner nothing nothing e = refl
same_owner (releases k) (releases l) e = cc
same_owner (for_loop x v last n a) (for_loop y w top m b) e =
    let h : block_coded.code a ≡ block_coded.code b = cc in cc (block_coded.inj a b h)
same_owner (while_loop t n a) (while_loop u m b) e =
    let g : condition_coded.code t ≡ condition_coded.code u = cc in
    let h : block_coded.code a ≡ block_coded.code b = cc in
    cc (condition_coded.inj t u g, block_coded.inj a b h)
same_owner (returns p vs rs) (returns q ws qs) e =
    let g : scope.the_row.coded.code p ≡ scope.the_row.coded.code q = cc in
    let h : variables_coded.code vs ≡ variables_coded.code ws = cc in
    let k : registers_coded.code rs ≡ registers_coded.code qs = cc in
    cc (scope.the_row.coded.inj p q g, variables_coded.inj vs ws h, registers_coded.inj rs qs k)
same_owner x y e = clash (owner_code x) (owner_code y) e refl

abbrev pub owner_coded : Coded Owner
owner_coded = record { code = owner_code; inj = same_owner }

abbrev pub open_coded : Coded Open
open_coded =
    code_by (Block × Owner) (coded× block_coded owner_coded) (λ o. (o.block, o.owner)) (λ p. record { block = p.0; owner = p.1 }) (λ _. refl)

abbrev pub statement_coded : Coded Statement
statement_coded = record { code = statement_code; inj = same_statement }
