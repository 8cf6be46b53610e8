-- What the functions return that read an expression.
use Rattle.std.specs.Prelude.{◌≡◌, ℕ, false, List, [], ◌∷◌, ◌++◌, Option, Some, None, Result, Ok, Err}
use Rattle.camac_lang.specs.Tree.{Expression}
use Rattle.camac_lang.specs.Nodes.{AreWhole, expression_in, nodes_of}
use Rattle.camac_lang.specs.declared.expression.Node.{Node}
use Rattle.camac_tokens.specs.declared.fault.TextFault.{TextFault}
use Rattle.camac_text_cursor.specs.Reading.{State, Fault, kind_of}
use Rattle.camac_text_cursor.specs.Readers.{is_number}
use Rattle.camac_text_cursor.specs.Parser.{state, FailsWith}
use Rattle.camac_text_cursor.specs.declared.cursor.Parser.{Parser}
use Rattle.camac_text_phrases.specs.Expressions.{Counted, counted, bracketed, brackets_with, factor_with}

-- The nodes of what is read come behind those before it, and its operators are returned, unless memory was refused.
abbrev pub Puts : List Node → List Node → Result ℕ TextFault → Parser → Result (Counted × State) Fault → Type 0
Puts before nodes (Ok operators) after read = (e : Expression) × (nodes ≡ before ++ nodes_of e) × (read ≡ Ok (counted e operators, state after))
Puts before nodes (Err fault) after read = FailsWith fault (state after).tried read

-- The same of what goes on with an expression. Where its nodes are the last ones, those of the whole come in their place.
abbrev pub Continues : Expression → List Node → List Node → Result ℕ TextFault → Parser → Result (Counted × State) Fault → Type 0
Continues left old new (Ok operators) after read =
    (e : Expression) × ((before : List Node) → old ≡ before ++ nodes_of left → new ≡ before ++ nodes_of e) × (read ≡ Ok (counted e operators, state after))
Continues left old new (Err fault) after read = FailsWith fault (state after).tried read

-- A number or a variable is read where one is next, and else nothing is taken.
abbrev pub Leaf : (room so_far : ℕ) → State → Result (Option Node) TextFault → Parser → Type 0
Leaf room so_far before (Ok (Some n)) after = AreWhole (n ∷ []) × (factor_with (bracketed room) so_far before ≡ Ok (counted (expression_in (n ∷ [])) so_far, state after))
Leaf room so_far before (Ok None) after = factor_with (bracketed room) so_far before ≡ brackets_with (bracketed room) so_far (state after)
Leaf room so_far before (Err fault) after = FailsWith fault (state after).tried (factor_with (bracketed room) so_far before)

-- It is read quickly: where it is not, all is as before, and no number is next.
abbrev pub Tries : (room so_far : ℕ) → State → Option Node → Parser → Type 0
Tries room so_far before (Some n) after = Leaf room so_far before (Ok (Some n)) after
Tries room so_far before None after = (state after ≡ before) × (is_number (kind_of before.rest) ≡ false)
