use Rattle.std.proofs.Common.{◌-◌, length, take, subst, sym, ◌∙◌, arith}
use Rattle.camac_lang.specs.Tree.{add, subtract, multiply}
use Rattle.camac_lang.specs.Nodes.{expression_in}
use Rattle.camac_lang.specs.declared.expression.Node.{Node}
use Rattle.camac_lang.proofs.Terms.{Parts, at_last, joined, some}
use Rattle.camac_lang.proofs.expression.Term.form.Goals as goal

pub unreachable-requires : goal.unreachable-requires
unreachable-requires c = omega (arith, some c.args.self.nodes.now c.args.self.whole)

pub returns-in-Number : goal.returns-in-Number
returns-in-Number c =
    let ns = c.args.self.nodes.now in
    let p = subst (λ (m : Node). Parts (take (length ns - 1) ns) m (expression_in ns)) c.in-Number.is (at_last ns c.last-item.result c.args.self.whole c.last-item.is) in
    sym p

pub returns-in-Variable : goal.returns-in-Variable
returns-in-Variable c =
    let ns = c.args.self.nodes.now in
    let p = subst (λ (m : Node). Parts (take (length ns - 1) ns) m (expression_in ns)) c.in-Variable.is (at_last ns c.last-item.result c.args.self.whole c.last-item.is) in
    sym p

pub invariant_of-result : goal.invariant_of-result
invariant_of-result c =
    let ns = c.args.self.nodes.now in
    let p = subst (λ (m : Node). Parts (take (length ns - 1) ns) m (expression_in ns)) c.in-Group.is (at_last ns c.last-item.result c.args.self.whole c.last-item.is) in
    record { whole = p.operand }

pub returns-in-Group : goal.returns-in-Group
returns-in-Group c =
    let ns = c.args.self.nodes.now in
    let p = subst (λ (m : Node). Parts (take (length ns - 1) ns) m (expression_in ns)) c.in-Group.is (at_last ns c.last-item.result c.args.self.whole c.last-item.is) in
    sym p.is

pub invariant_of-result-in-Divide : goal.invariant_of-result-in-Divide
invariant_of-result-in-Divide c =
    let ns = c.args.self.nodes.now in
    let p = subst (λ (m : Node). Parts (take (length ns - 1) ns) m (expression_in ns)) c.in-Divide.is (at_last ns c.last-item.result c.args.self.whole c.last-item.is) in
    record { whole = p.operand }

pub returns-in-Divide : goal.returns-in-Divide
returns-in-Divide c =
    let ns = c.args.self.nodes.now in
    let p = subst (λ (m : Node). Parts (take (length ns - 1) ns) m (expression_in ns)) c.in-Divide.is (at_last ns c.last-item.result c.args.self.whole c.last-item.is) in
    sym p.is

pub invariant_of-result-in-Remainder : goal.invariant_of-result-in-Remainder
invariant_of-result-in-Remainder c =
    let ns = c.args.self.nodes.now in
    let p = subst (λ (m : Node). Parts (take (length ns - 1) ns) m (expression_in ns)) c.in-Remainder.is (at_last ns c.last-item.result c.args.self.whole c.last-item.is) in
    record { whole = p.operand }

pub returns-in-Remainder : goal.returns-in-Remainder
returns-in-Remainder c =
    let ns = c.args.self.nodes.now in
    let p = subst (λ (m : Node). Parts (take (length ns - 1) ns) m (expression_in ns)) c.in-Remainder.is (at_last ns c.last-item.result c.args.self.whole c.last-item.is) in
    sym p.is

pub operands-requires-clause-fits : goal.operands-requires-clause-fits
operands-requires-clause-fits c =
    let ns = c.args.self.nodes.now in
    let p = subst (λ (m : Node). Parts (take (length ns - 1) ns) m (expression_in ns)) c.in-Add.is (at_last ns c.last-item.result c.args.self.whole c.last-item.is) in
    p.fits

pub operands-requires-clause-left : goal.operands-requires-clause-left
operands-requires-clause-left c =
    let ns = c.args.self.nodes.now in
    let p = subst (λ (m : Node). Parts (take (length ns - 1) ns) m (expression_in ns)) c.in-Add.is (at_last ns c.last-item.result c.args.self.whole c.last-item.is) in
    p.left

pub operands-requires-clause-right : goal.operands-requires-clause-right
operands-requires-clause-right c =
    let ns = c.args.self.nodes.now in
    let p = subst (λ (m : Node). Parts (take (length ns - 1) ns) m (expression_in ns)) c.in-Add.is (at_last ns c.last-item.result c.args.self.whole c.last-item.is) in
    p.right

pub returns-in-Add : goal.returns-in-Add
returns-in-Add c =
    let ns = c.args.self.nodes.now in
    let p = subst (λ (m : Node). Parts (take (length ns - 1) ns) m (expression_in ns)) c.in-Add.is (at_last ns c.last-item.result c.args.self.whole c.last-item.is) in
    let o = c.operands in
    joined add _ _ _ _ o.ensures.left o.ensures.right ∙ sym p.is

pub operands-requires-in-Subtract-clause-fits : goal.operands-requires-in-Subtract-clause-fits
operands-requires-in-Subtract-clause-fits c =
    let ns = c.args.self.nodes.now in
    let p = subst (λ (m : Node). Parts (take (length ns - 1) ns) m (expression_in ns)) c.in-Subtract.is (at_last ns c.last-item.result c.args.self.whole c.last-item.is) in
    p.fits

pub operands-requires-in-Subtract-clause-left : goal.operands-requires-in-Subtract-clause-left
operands-requires-in-Subtract-clause-left c =
    let ns = c.args.self.nodes.now in
    let p = subst (λ (m : Node). Parts (take (length ns - 1) ns) m (expression_in ns)) c.in-Subtract.is (at_last ns c.last-item.result c.args.self.whole c.last-item.is) in
    p.left

pub operands-requires-in-Subtract-clause-right : goal.operands-requires-in-Subtract-clause-right
operands-requires-in-Subtract-clause-right c =
    let ns = c.args.self.nodes.now in
    let p = subst (λ (m : Node). Parts (take (length ns - 1) ns) m (expression_in ns)) c.in-Subtract.is (at_last ns c.last-item.result c.args.self.whole c.last-item.is) in
    p.right

pub returns-in-Subtract : goal.returns-in-Subtract
returns-in-Subtract c =
    let ns = c.args.self.nodes.now in
    let p = subst (λ (m : Node). Parts (take (length ns - 1) ns) m (expression_in ns)) c.in-Subtract.is (at_last ns c.last-item.result c.args.self.whole c.last-item.is) in
    let o = c.operands-in-Subtract in
    joined subtract _ _ _ _ o.ensures.left o.ensures.right ∙ sym p.is

pub operands-requires-in-Multiply-clause-fits : goal.operands-requires-in-Multiply-clause-fits
operands-requires-in-Multiply-clause-fits c =
    let ns = c.args.self.nodes.now in
    let p = subst (λ (m : Node). Parts (take (length ns - 1) ns) m (expression_in ns)) c.in-Multiply.is (at_last ns c.last-item.result c.args.self.whole c.last-item.is) in
    p.fits

pub operands-requires-in-Multiply-clause-left : goal.operands-requires-in-Multiply-clause-left
operands-requires-in-Multiply-clause-left c =
    let ns = c.args.self.nodes.now in
    let p = subst (λ (m : Node). Parts (take (length ns - 1) ns) m (expression_in ns)) c.in-Multiply.is (at_last ns c.last-item.result c.args.self.whole c.last-item.is) in
    p.left

pub operands-requires-in-Multiply-clause-right : goal.operands-requires-in-Multiply-clause-right
operands-requires-in-Multiply-clause-right c =
    let ns = c.args.self.nodes.now in
    let p = subst (λ (m : Node). Parts (take (length ns - 1) ns) m (expression_in ns)) c.in-Multiply.is (at_last ns c.last-item.result c.args.self.whole c.last-item.is) in
    p.right

pub returns-in-Multiply : goal.returns-in-Multiply
returns-in-Multiply c =
    let ns = c.args.self.nodes.now in
    let p = subst (λ (m : Node). Parts (take (length ns - 1) ns) m (expression_in ns)) c.in-Multiply.is (at_last ns c.last-item.result c.args.self.whole c.last-item.is) in
    let o = c.operands-in-Multiply in
    joined multiply _ _ _ _ o.ensures.left o.ensures.right ∙ sym p.is
