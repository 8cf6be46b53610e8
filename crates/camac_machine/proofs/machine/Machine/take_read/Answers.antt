use Rattle.std.proofs.Common.{ℕ, ◌+◌, ◌%◌, ◌^◌, List, set, ap, ◌∙◌}
use Rattle.camac_machine.proofs.Takes.{takes_read, read_cost, read_overruns}
use Rattle.camac_machine.proofs.machine.Machine.take_read.Goals as goal

pub make-requires : goal.make-requires
make-requires g c =
    (search, (c.requires.room, (c.requires.pending.0, read_cost c.args.self.now c.args.command c.args.answer c.args.variable c.args.bits c.requires.pending c.requires.fine c.requires.room.cycles)))

pub returns-in-Ok-clause-took : goal.returns-in-Ok-clause-took
returns-in-Ok-clause-took g c =
    let h = c.args.self.now in
    let new = c.make.new.self in
    let x = c.args.variable in
    let bits = c.args.bits in
    let e = ap (λ (vs : List ℕ). record new { variables = vs }) (c.keep.ensures ∙ ap (λ w. set new.variables (new.scope.variables.start + x) (w % 2 ^ bits)) c.word_of.ensures) in
    takes_read h new c.args.command c.args.answer c.in-Ok.done c.requires.room c.requires.pending.0 c.in-Ok.ensures.made x bits (record new { variables = c.keep.new.variables }) c.requires.pending.1.0 e

pub returns-in-Err-clause-overrun : goal.returns-in-Err-clause-overrun
returns-in-Err-clause-overrun g c =
    read_overruns c.args.self.now c.args.command c.args.answer c.args.variable c.args.bits c.in-Err.overrun c.requires.pending c.in-Err.ensures.overrun
