use Rattle.std.proofs.Common.{◌∙◌, ◌+◌, ◌<◌, ◌≤◌, length, map, drop, ap, arith}
use Rattle.std.proofs.lemmas.List.{drop_all, map_push}
use Rattle.camac_lang.specs.Depth.{inner_depth, callable}
use Rattle.camac_lang.specs.View.{procedure_of, callable_of}
use Rattle.camac_lang.proofs.Depths.{next_procedure, step_below, step_same, last_same}
use Rattle.camac_lang.proofs.depth.callables_of.Goals as goal

pub new-callable-requires : goal.new-callable-requires
new-callable-requires c =
    let xs = c.args.procedures.now in
    let i = c.procedures.procedure-index in
    let x = c.procedure-item.result in
    let lt : i < length xs = omega arith in
    let below = step_below (map callable_of c.procedures.callables.items) (procedure_of x) (map procedure_of (drop (i + 1) xs)) (map procedure_of (drop i xs)) (map procedure_of xs) (next_procedure xs i x lt c.procedure-item.is) c.procedures.invariant.same c.requires.shallow in
    let same = ap (λ l. inner_depth (map callable_of l) (procedure_of x).body) c.deref.ensures.0 in
    omega arith

pub procedures-preserved : goal.procedures-preserved
procedures-preserved c =
    let xs = c.args.procedures.now in
    let i = c.procedures.procedure-index in
    let x = c.procedure-item.result in
    let before = c.procedures.callables.items in
    let lt : i < length xs = omega arith in
    record {
      same =
          step_same (map callable_of before) (map callable_of c.push.new.self.items) (callable_of c.new-callable.result) (procedure_of x) (map procedure_of (drop (i + 1) xs)) (map procedure_of (drop i xs)) (map procedure_of xs) (next_procedure xs i x lt c.procedure-item.is)
          (ap (map callable_of) c.push.ensures.items ∙ map_push callable_of before c.new-callable.result)
          (c.new-callable.ensures ∙ ap (λ l. callable (map callable_of l) (procedure_of x)) c.deref.ensures.0) c.procedures.invariant.same;
      count = omega arith;
    }

pub returns : goal.returns
returns c =
    let xs = c.args.procedures.now in
    let i = c.procedures.procedure-index in
    let le : length xs ≤ i = omega arith in
    last_same (map callable_of c.procedures.callables.items) (map procedure_of (drop i xs)) (map procedure_of xs) (ap (map procedure_of) (drop_all i xs le)) c.procedures.invariant.same
