-- Statements and blocks of the code as definitions see them.
use Rattle.std.proofs.Common.{◌≡◌, ℕ, suc, ◌+◌, ◌<◌, List, length, get_or, drop, drop-cons, add-one, Vec, sym, ap, ◌∙◌}
use Rattle.std.specs.declared.alloc.Global.{Global}
use Rattle.camac_lang.specs.declared.expression.Expr.{Expr}
use Rattle.camac_lang.specs.declared.tree.Action.{Action}
use Rattle.camac_lang.specs.declared.tree.Cond.{Cond}
use Rattle.camac_lang.specs.declared.tree.ForHead.{ForHead}
use Rattle.camac_lang.specs.declared.tree.Stmt.{Stmt}
use Rattle.camac_lang.specs.declared.tree.Stmt.TheVariants as rust
use Rattle.camac_lang.specs.declared.tree.Stmt.TheFolds.{fold-roll-Stmt}
use Rattle.camac_lang.specs.declared.tree.Stmt.TheOpen as layer
use Rattle.camac_lang.specs.declared.tree.WhileHead.{WhileHead}
use Rattle.camac_lang.specs.Tree.{Statement, choose, choose_else, for_each, locked, next}
use Rattle.camac_lang.specs.View.{action_of, condition_of, expression_of, for_of, statement_of, statements_of, statement_step, while_of}
use Rattle.camac_lang.specs.declared.spot.Spot.{Spot}

pub action_is : (a : Action) → statement_of (rust.Action a) ≡ action_of a
action_is a = ap statement_of (sym (rust.rolls-Action a)) ∙ fold-roll-Stmt Statement statement_step (layer.Action a)

pub choose_is : (spot : Spot) (c : Cond) (a : Vec Stmt Global) → statement_of (rust.If spot c a) ≡ choose spot (condition_of c) (statements_of a.items)
choose_is spot c a = ap statement_of (sym (rust.rolls-If spot c a)) ∙ fold-roll-Stmt Statement statement_step (layer.If spot c a)

pub choose_else_is : (spot : Spot) (c : Cond) (a b : Vec Stmt Global) → statement_of (rust.IfElse spot c a b) ≡ choose_else spot (condition_of c) (statements_of a.items) (statements_of b.items)
choose_else_is spot c a b = ap statement_of (sym (rust.rolls-IfElse spot c a b)) ∙ fold-roll-Stmt Statement statement_step (layer.IfElse spot c a b)

pub lock_is : (spot : Spot) (e : Expr) (a : Vec Stmt Global) → statement_of (rust.Lock spot e a) ≡ locked spot (expression_of e) (statements_of a.items)
lock_is spot e a = ap statement_of (sym (rust.rolls-Lock spot e a)) ∙ fold-roll-Stmt Statement statement_step (layer.Lock spot e a)

pub for_is : (s : ForHead) (a : Vec Stmt Global) → statement_of (rust.For s a) ≡ for_of s (statements_of a.items)
for_is s a = ap statement_of (sym (rust.rolls-For s a)) ∙ fold-roll-Stmt Statement statement_step (layer.For s a)

pub each_is : (spot : Spot) (x v last : ℕ) (a : Vec Stmt Global) → statement_of (rust.ForEach spot x v last a) ≡ for_each spot x v last (statements_of a.items)
each_is spot x v last a = ap statement_of (sym (rust.rolls-ForEach spot x v last a)) ∙ fold-roll-Stmt Statement statement_step (layer.ForEach spot x v last a)

pub while_is : (s : WhileHead) (a : Vec Stmt Global) → statement_of (rust.While s a) ≡ while_of s (statements_of a.items)
while_is s a = ap statement_of (sym (rust.rolls-While s a)) ∙ fold-roll-Stmt Statement statement_step (layer.While s a)

-- the list of a block from its next statement on
pub next_of : (xs : List Stmt) (i : ℕ) (x : Stmt) → i < length xs → x ≡ get_or xs i x → statements_of (drop i xs) ≡ next (statement_of x) (statements_of (drop (i + 1) xs))
next_of xs i x h is =
    ap statements_of (drop-cons xs i x h)
    ∙ ap (λ y. next (statement_of y) (statements_of (drop (suc i) xs))) (sym is)
    ∙ ap (λ j. next (statement_of x) (statements_of (drop j xs))) (sym (add-one i))
