use Rattle.std.proofs.Common.{refl, sym}
use Rattle.camac_module.proofs.Entries.{get_or-entries_of}
use Rattle.camac_module.proofs.row.Row.entry.Goals as goal

pub returns-then-is_declared : goal.returns-then-is_declared
returns-then-is_declared c =
    let set = sym c.if-is_declared.ensures in
    rw (get_or-entries_of c.args.self.now c.args.function c.requires, set, c.kind.ensures) refl

pub returns-else-is_declared : goal.returns-else-is_declared
returns-else-is_declared c =
    let clear = sym c.if-is_declared.ensures in
    rw (get_or-entries_of c.args.self.now c.args.function c.requires, clear) refl
