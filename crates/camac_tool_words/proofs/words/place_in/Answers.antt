use Rattle.std.proofs.Common.{Option, None, Some, sym, subst, lit<}
use Rattle.std.specs.Prelude.{IfNone}
use Rattle.camac_tool_words.specs.Words.{IsCount}
use Rattle.camac_tool_words.proofs.words.place_in.Goals as goal

if_none : {A P Q : Type 0} (o : Option A) → (P → Q) → IfNone o P → IfNone o Q
if_none None f p = f p
if_none (Some x) f p = p

pub returns-clause-none : goal.returns-clause-none
returns-clause-none c =
    let parts = c.in_ok-line.ensures.byte (lit< tt) (λ w o f. f) in
    if_none c.counts_in.result
    (λ none line column p.
    none line column (subst (λ t. IsCount t line) (sym parts.0) p.line_is) (subst (λ t. IsCount t column) (sym parts.1) p.column_is))
    c.counts_in.ensures.none
