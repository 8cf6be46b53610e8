use Rattle.std.proofs.Common.{List, false, subst, sym}
use Rattle.camac_lang.specs.View.{statements_of}
use Rattle.camac_model.specs.State.{Registers}
use Rattle.camac_machine.specs.MachineState.{opens_of, context_in, variables_here}
use Rattle.camac_machine.specs.Rest.{rest_in}
use Rattle.camac_machine.specs.declared.machine.Frame.{Frame}
use Rattle.camac_run.specs.Sure.{Adds, KnowsRegisters}
use Rattle.camac_run.specs.declared.ahead.Known.{Known}
use Rattle.camac_run.proofs.Around.{adds_following, leads_behind}
use Rattle.camac_run.proofs.ahead.add_following.Goals as goal

pub returns-in-Lock : goal.returns-in-Lock
returns-in-Lock g c =
    let h = c.args.machine.now in
    let k : Known = record c.see.new.self { variables = c.forget_read.new.variables } in
    let w = c.in-Lock in
    let a = c.add_locked.ensures in (
      a.0,
      a.1,
      λ t e v.
          let known = c.forget_read.ensures (variables_here h) t.variables c.see.ensures.variables v in
          rw w.is
          (leads_behind h w.crate_no (statements_of w.body.now) k a.0 a.2 t
          (record { variables_are = known; registers_are = subst (λ (rs : Registers). KnowsRegisters c.see.new.self.registers rs) (sym e) c.see.ensures.registers })),
    )

pub returns : goal.returns
returns g c =
    let h = c.args.machine.now in
    let k : Known = record c.see.new.self { variables = c.forget_read.new.variables } in
    let a = subst (λ (fs : List Frame). Adds h.checked.now.plan (rest_in (context_in h.checked.now) (opens_of h.variables h.registers fs)) k c.args.coming.now.ahead.items false c.add_open.new.known c.add_open.new.coming.ahead.items) c.as_slice.ensures.value c.add_open.ensures in (
      a.0,
      a.1,
      λ t e v.
          adds_following h c.args.pending.now k a.0 c.in_default.not-Lock a.2 t (record {
            variables_are = c.forget_read.ensures (variables_here h) t.variables c.see.ensures.variables v;
            registers_are = subst (λ (rs : Registers). KnowsRegisters c.see.new.self.registers rs) (sym e) c.see.ensures.registers;
          }),
    )
