-- What is read at each place of a transfer and of a call.
use Rattle.std.specs.Prelude.{ℕ, Option, Some, None}
use Rattle.camac_lang.specs.Tree.{Expression, Statement, address_scan, q_stop, q_repeat, call}
use Rattle.camac_tokens.specs.declared.token.Keyword.{Keyword}
use Rattle.camac_tokens.specs.declared.token.Keyword.TheVariants as word
use Rattle.camac_tokens.specs.declared.token.TokenKind.{TokenKind}
use Rattle.camac_tokens.specs.declared.token.TokenKind.TheVariants as kind
use Rattle.camac_text_cursor.specs.declared.choice.Choice.TheVariants as choice
use Rattle.camac_text_cursor.specs.Reading.{Reader, ◌>>=◌, ◌>>◌, give, peek, advance, missing}
use Rattle.camac_text_cursor.specs.Readers.{begin, expect, function_number, used_register, used_variable, used_table, procedure_here, called}
use Rattle.camac_text_phrases.specs.Expressions.{expression_at}
use Rattle.camac_text_phrases.specs.Arguments.{arguments_at}
use Rattle.camac_lang.specs.declared.spot.Spot.{Spot}

-- the last bound of a transfer after its word, and the tally
unfoldable pub last_bound : Keyword → ℕ → Reader (Expression × ℕ)
last_bound after_first room = do
  expect after_first
  bound ← expression_at room
  expect word.Tally
  tally ← used_variable
  give (bound, tally)

-- the table of a write
abbrev pub table_by : Option TokenKind → Reader (Option ℕ)
table_by (Some (kind.Keyword word.Table)) = do
  advance
  place ← used_table
  give (Some place)
table_by _ = missing (choice.Word word.Table) None

unfoldable pub table_at : Reader (Option ℕ)
table_at = peek >>= table_by

-- `cfmad`
unfoldable pub scan_statement : ℕ → Spot → Reader Statement
scan_statement room spot = do
  begin
  function ← function_number
  first ← used_register
  last ← used_register
  end ← last_bound word.Max room
  give (address_scan spot function first last end.0 end.1)

-- `cfubc`
unfoldable pub q_stop_statement : ℕ → Spot → Reader Statement
q_stop_statement room spot = do
  begin
  function ← function_number
  register ← used_register
  table ← table_at
  end ← last_bound word.Max room
  give (q_stop spot function register table end.0 end.1)

-- `cfubr`
unfoldable pub q_repeat_statement : ℕ → Spot → Reader Statement
q_repeat_statement room spot = do
  begin
  function ← function_number
  register ← used_register
  table ← table_at
  expect word.Max
  most ← expression_at room
  end ← last_bound word.Limit room
  give (q_repeat spot function register table most end.0 end.1)

-- `call`
unfoldable pub call_statement : ℕ → Spot → Reader Statement
call_statement room spot = do
  begin
  place ← procedure_here
  wanted ← called room place
  arguments ← arguments_at room wanted
  give (call spot place arguments)
