use Rattle.std.proofs.Common.{◌≡◌, ◌<◌, List, map, sym, ap, ◌∙◌, subst, arith}
use Rattle.camac_lang.specs.Depth.{inner_depth}
use Rattle.camac_lang.specs.Expressions.{Callable}
use Rattle.camac_lang.specs.View.{statement_of, statements_of}
use Rattle.camac_text_cursor.specs.Parser.{state}
use Rattle.camac_text_cursor.specs.Reading.{State}
use Rattle.camac_text_statements.proofs.Bodies.{block_ok}
use Rattle.camac_text.proofs.procedures.procedure_declaration.Goals as goal

pub close_procedure-requires : goal.close_procedure-requires
close_procedure-requires c =
    let body = block_ok 16 (state c.read_heading.new.parser) (map statement_of c.in_ok-body.body.items, state c.block.new.parser) c.in_ok-body.ensures in
    let same : (state c.take_registers-registers.new.self).callables ≡ (state c.read_heading.new.parser).callables = ap (λ (w : State). w.callables) c.take_registers-registers.ensures.left ∙ ap (λ (w : State). w.callables) body.same in
    let deep : inner_depth (state c.take_registers-registers.new.self).callables (statements_of c.in_ok-body.body.items) < 16 = subst (λ (qs : List Callable). inner_depth qs (statements_of c.in_ok-body.body.items) < 16) (sym same) body.deep in
    omega (arith, deep)
