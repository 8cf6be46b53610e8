use Rattle.std.proofs.Common.{◌≡◌, ◌+◌, ◌<◌, Some, length, map, refl, sym, ap, subst, ◌∙◌, arith, rules}
use Rattle.std.proofs.lemmas.List.{length-map}
use Rattle.std.proofs.lemmas.Option.{same_Some}
use Rattle.std.specs.Prelude.{IsTrue, slice_get, slice_range}
use Rattle.camac_lang.specs.Scope.{is_well_formed}
use Rattle.camac_lang.specs.Tree.{Script}
use Rattle.camac_lang.specs.View.{expression_of, parameter_of, procedure_of, statements_of}
use Rattle.camac_lang.proofs.Places.{number_below}
use Rattle.camac_lang.proofs.Standing.{limits_hold}
use Rattle.camac_machine.specs.declared.scope.Scope.{Scope}
use Rattle.camac_machine.specs.Store.{seen_by_procedure}
use Rattle.camac_machine.proofs.Actions.{call_has}
use Rattle.camac_machine.proofs.Calls.{callee, seen_fits, variables_room, registers_room, callee_free, enters_filled}
use Rattle.camac_machine.proofs.Lams.{procedure_at}
use Rattle.camac_machine.proofs.machine.Machine.call.Goals as goal

pub offset_bounds-procedures-call : goal.offset_bounds-procedures-call
offset_bounds-procedures-call g c =
    let h = c.args.self.now in
    let s = h.checked.now.script in
    let i = c.args.call.now.procedure in
    let F : Script → Type 0 = λ s. IsTrue (is_well_formed s) in
    let few = (limits_hold s (subst F c.script-script.ensures c.well_formed-2.ensures)).procedures in
    let k = callee h i (map expression_of c.args.call.now.arguments.items) c.requires.room c.requires.fits in
    let lt : i < length s.procedures = number_below s.procedures i k.procedure k.there in omega (arith, few, lt)

pub bounds-procedures-call : goal.bounds-procedures-call
bounds-procedures-call g c =
    let h = c.args.self.now in
    let s = h.checked.now.script in
    let i = c.args.call.now.procedure in
    let e : map procedure_of c.procedures.result.now ≡ s.procedures = c.procedures.ensures ∙ ap (λ s. s.procedures) c.script-script.ensures in
    let n : length s.procedures ≡ length c.procedures.result.now = sym (ap length e) ∙ length-map c.procedures.result.now procedure_of in
    let k = callee h i (map expression_of c.args.call.now.arguments.items) c.requires.room c.requires.fits in
    let lt : i < length s.procedures = number_below s.procedures i k.procedure k.there in omega (arith, n, lt)

pub pass-requires-clause-room : goal.pass-requires-clause-room
pass-requires-clause-room g c =
    let h = c.args.self.now in
    let s = h.checked.now.script in
    let i = c.args.call.now.procedure in
    let es = map expression_of c.args.call.now.arguments.items in
    let r = c.index-procedures-call.result in
    let e : map procedure_of c.procedures.result.now ≡ s.procedures = c.procedures.ensures ∙ ap (λ s. s.procedures) c.script-script.ensures in
    let k = callee h i es c.requires.room c.requires.fits in
    let there : slice_get s.procedures i ≡ Some (procedure_of r) = procedure_at c.procedures.result.now s.procedures i r e (number_below s.procedures i k.procedure k.there) c.index-procedures-call.is in
    let room = (variables_room h i es c.requires.room c.requires.fits (procedure_of r) there c.of_procedure-scope.result c.of_procedure-scope.ensures).1 in
    omega (arith, room, length-map c.args.call.now.arguments.items expression_of, ap length c.deref.ensures.value, c.requires.room.variables)

pub pass-requires-clause-have_values : goal.pass-requires-clause-have_values
pass-requires-clause-have_values g c = rw c.deref.ensures.value (call_has c.args.self.now c.args.call.now.procedure (map expression_of c.args.call.now.arguments.items) c.requires.fine)

pub wipe-requires-clause-room : goal.wipe-requires-clause-room
wipe-requires-clause-room g c =
    let h = c.args.self.now in
    let s = h.checked.now.script in
    let i = c.args.call.now.procedure in
    let es = map expression_of c.args.call.now.arguments.items in
    let r = c.index-procedures-call.result in
    let e : map procedure_of c.procedures.result.now ≡ s.procedures = c.procedures.ensures ∙ ap (λ s. s.procedures) c.script-script.ensures in
    let k = callee h i es c.requires.room c.requires.fits in
    let there : slice_get s.procedures i ≡ Some (procedure_of r) = procedure_at c.procedures.result.now s.procedures i r e (number_below s.procedures i k.procedure k.there) c.index-procedures-call.is in
    let room = (registers_room h i es c.requires.room c.requires.fits (procedure_of r) there c.of_procedure-scope.result c.of_procedure-scope.ensures).1 in
    omega (arith, room, c.requires.room.registers)

pub push-requires : goal.push-requires
push-requires g c =
    let h = c.args.self.now in
    let s = h.checked.now.script in
    let i = c.args.call.now.procedure in
    let es = map expression_of c.args.call.now.arguments.items in
    let r = c.index-procedures-call.result in
    let F : Script → Type 0 = λ s. IsTrue (is_well_formed s) in
    let e : map procedure_of c.procedures.result.now ≡ s.procedures = c.procedures.ensures ∙ ap (λ s. s.procedures) c.script-script.ensures in
    let k = callee h i es c.requires.room c.requires.fits in
    let there : slice_get s.procedures i ≡ Some (procedure_of r) = procedure_at c.procedures.result.now s.procedures i r e (number_below s.procedures i k.procedure k.there) c.index-procedures-call.is in
    let lt = callee_free h i es c.requires.room c.requires.fits (procedure_of r) there (seen_by_procedure h.scope i (procedure_of r)) refl (subst F c.script-script.ensures c.well_formed-2.ensures) in (search rules, lt)

pub returns : goal.returns
returns g c =
    let h = c.args.self.now in
    let s = h.checked.now.script in
    let i = c.args.call.now.procedure in
    let es = map expression_of c.args.call.now.arguments.items in
    let r = c.index-procedures-call.result in
    let sc = c.of_procedure-scope.result in
    let ws = c.pass.new.variables in
    let F : Script → Type 0 = λ s. IsTrue (is_well_formed s) in
    let e : map procedure_of c.procedures.result.now ≡ s.procedures = c.procedures.ensures ∙ ap (λ s. s.procedures) c.script-script.ensures in
    let k = callee h i es c.requires.room c.requires.fits in
    let there : slice_get s.procedures i ≡ Some (procedure_of r) = procedure_at c.procedures.result.now s.procedures i r e (number_below s.procedures i k.procedure k.there) c.index-procedures-call.is in
    enters_filled h i es c.requires.room c.requires.fits (procedure_of r) there sc c.of_procedure-scope.ensures (subst F c.script-script.ensures c.well_formed-2.ensures)
    c.as_slice.result (ap statements_of c.as_slice.ensures.value) ws c.wipe.new.all c.push.new.self
    (record {
      values = (rw c.deref.ensures.value at c.pass.ensures.values) ∙ ap (λ n. Some (slice_range ws sc.variables.start (sc.variables.start + n))) (sym (length-map c.args.call.now.arguments.items expression_of));
      variables_before = c.pass.ensures.before;
      variables = c.pass.ensures.count;
      unset = c.wipe.ensures.wiped;
      registers_before = c.wipe.ensures.before;
      registers = c.wipe.ensures.count;
    })
    c.push.ensures.items

pub pass-requires-clause-caller : goal.pass-requires-clause-caller
pass-requires-clause-caller g c = c.requires.room.scope.variables

pub pass-requires-clause-after : goal.pass-requires-clause-after
pass-requires-clause-after g c =
    let e : c.of_procedure-scope.result.variables.start ≡ c.args.self.now.scope.variables.end = ap (λ (s : Scope). s.variables.start) c.of_procedure-scope.ensures in
    omega (arith, e)

pub pass-requires-clause-declared : goal.pass-requires-clause-declared
pass-requires-clause-declared g c = rw c.deref.ensures.value c.requires.fits.refer

pub wipe-requires-clause-order : goal.wipe-requires-clause-order
wipe-requires-clause-order g c =
    let a : c.of_procedure-scope.result.registers.start ≡ c.args.self.now.scope.registers.end = ap (λ (s : Scope). s.registers.start) c.of_procedure-scope.ensures in
    let b : c.of_procedure-scope.result.registers.end ≡ c.args.self.now.scope.registers.end + length (procedure_of c.index-procedures-call.result).registers = ap (λ (s : Scope). s.registers.end) c.of_procedure-scope.ensures in
    omega (arith, a, b)

pub of_procedure-scope-requires : goal.of_procedure-scope-requires
of_procedure-scope-requires g c =
    let h = c.args.self.now in
    let s = h.checked.now.script in
    let i = c.args.call.now.procedure in
    let es = map expression_of c.args.call.now.arguments.items in
    let r = c.index-procedures-call.result in
    let e : map procedure_of c.procedures.result.now ≡ s.procedures = c.procedures.ensures ∙ ap (λ s. s.procedures) c.script-script.ensures in
    let k = callee h i es c.requires.room c.requires.fits in
    let there : slice_get s.procedures i ≡ Some (procedure_of r) = procedure_at c.procedures.result.now s.procedures i r e (number_below s.procedures i k.procedure k.there) c.index-procedures-call.is in
    let fit = seen_fits h i es c.requires.room c.requires.fits (procedure_of r) (same_Some k.procedure (procedure_of r) (sym k.there ∙ there)) in
    let m = fit.more_variables in
    let n = fit.more_registers in
    let vf = g.V.fits in
    record {
      variables = omega (arith, m, vf, length-map r.parameters.items parameter_of);
      registers = omega (arith, n, vf);
    }
