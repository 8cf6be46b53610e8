-- From the tokens of a text to its tree.
use Rattle.std.specs.Prelude.{ℕ, List, Result, Ok, Err}
use Rattle.camac_lang.specs.Tree.{Script}
use Rattle.camac_tokens.specs.declared.token.Token.{Token}
use Rattle.camac_tokens.specs.Fault.{Fault}
use Rattle.camac_tokens.specs.Left.{Ahead}
use Rattle.camac_tokens.specs.Scanning.{tokens_of, last_line}
use Rattle.camac_text_cursor.specs.Reading.{State, Fault as Failure, fault_of}
use Rattle.camac_text_cursor.specs.Declaring.{tree_so_far}
use Rattle.camac_text_cursor.specs.Parser.{unread, line_in}
use Rattle.camac_text.specs.Declarations.{declarations_at}

-- the state in which a script begins
abbrev pub start : List Token → ℕ → State
start tokens end_line = unread tokens end_line

abbrev pub tree_in : Result (Unit {0} × State) Failure → Result Script Fault
tree_in (Ok read) = Ok (tree_so_far read.1)
tree_in (Err e) = Err (fault_of e)

-- the tree of a list of tokens, or its first fault
unfoldable pub tree_of_tokens : List Token → ℕ → Result Script Fault
tree_of_tokens tokens end_line = tree_in (declarations_at (start tokens end_line))

abbrev pub tree_after : Result (List Token) Fault → ℕ → Result Script Fault
tree_after (Ok tokens) end_line = tree_of_tokens tokens end_line
tree_after (Err e) end_line = Err e

-- The tree of a text, or its first fault: those of the tokens come first.
unfoldable pub script_of : List ℕ → Result Script Fault
script_of text = tree_after (tokens_of text) (last_line text)

-- the state in which what is ahead in a text is read
abbrev pub unread_in : Ahead → State
unread_in a = unread a.tokens (line_in a.end)

-- whether there is no token fault, else the first one
abbrev pub judged : Result (List Token) Fault → Result (Unit {0}) Fault
judged (Ok tokens) = Ok tt
judged (Err e) = Err e
