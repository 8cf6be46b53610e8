use Rattle.std.proofs.Common.{◌≡◌, ℕ, List, Some, map, sym, ap, ◌∙◌, arith}
use Rattle.std.specs.Prelude.{option_map}
use Rattle.camac_lang.specs.declared.script.Table.{Table}
use Rattle.camac_lang.specs.View.{table_of}
use Rattle.camac_model.specs.Meaning.{sent}
use Rattle.camac_machine.specs.MachineState.{context_in}
use Rattle.camac_machine.proofs.Lams.{table_below, table_at}
use Rattle.camac_machine.proofs.machine.Machine.sent.Goals as goal

pub script-requires : goal.script-requires
script-requires g c = tt

pub tables-requires : goal.tables-requires
tables-requires g c = tt

pub bounds-tables-number : goal.bounds-tables-number
bounds-tables-number g c =
    let h = c.args.self.now in
    let e : map table_of c.tables.result.now ≡ h.checked.now.script.tables = c.tables.ensures ∙ ap (λ s. s.tables) c.script.ensures in
    table_below c.tables.result.now h.checked.now.script.tables c.in-Some.number e (rw c.in-Some.is at c.requires)

pub offset_bounds-tables-number : goal.offset_bounds-tables-number
offset_bounds-tables-number g c =
    let h = c.args.self.now in
    let e : map table_of c.tables.result.now ≡ h.checked.now.script.tables = c.tables.ensures ∙ ap (λ s. s.tables) c.script.ensures in
    let below = table_below c.tables.result.now h.checked.now.script.tables c.in-Some.number e (rw c.in-Some.is at c.requires) in
    omega (arith, below, c.tables.type_inv)

pub returns-in-None : goal.returns-in-None
returns-in-None g c = ap (sent (context_in c.args.self.now.checked.now)) c.in-None.is

pub returns-in-Some : goal.returns-in-Some
returns-in-Some g c =
    let h = c.args.self.now in
    let t = c.index-tables-number.result in
    let e : map table_of c.tables.result.now ≡ h.checked.now.script.tables = c.tables.ensures ∙ ap (λ s. s.tables) c.script.ensures in
    rw c.in-Some.is
    (ap (option_map (λ (ws : List ℕ). Some ws)) (table_at c.tables.result.now h.checked.now.script.tables c.in-Some.number t e (table_below c.tables.result.now h.checked.now.script.tables c.in-Some.number e (rw c.in-Some.is at c.requires)) c.index-tables-number.is)
    ∙ ap (λ (ws : List ℕ). Some (Some ws)) (sym (c.as_slice.ensures.value ∙ ap (λ (v : Table). v.words.items) (sym c.index-tables-number.is))))
