-- What is read at each place of a declaration.
use Rattle.std.specs.Prelude.{ℕ, ◌+◌, Bool, true, false, length, Option, Some, None, nat_lt}
use Rattle.camac_tokens.specs.declared.token.Keyword.TheVariants as word
use Rattle.camac_tokens.specs.declared.token.TokenKind.{TokenKind}
use Rattle.camac_tokens.specs.declared.token.TokenKind.TheVariants as kind
use Rattle.camac_tokens.specs.declared.fault.Limit.TheVariants as limit
use Rattle.camac_tokens.specs.declared.fault.TextCase.TheVariants as text_case
use Rattle.camac_text_cursor.specs.declared.choice.Choice.TheVariants as choice
use Rattle.camac_text_cursor.specs.Reading.{Reader, ◌>>=◌, ◌>>◌, give, ask, change, peek, advance, spot_here, unexpected, check, while_next, until}
use Rattle.camac_text_cursor.specs.Readers.{is_name, expect, any_number, branch_number, sub_address_number, new_name, new_variable, used_lam}
use Rattle.camac_text_cursor.specs.Declaring.{with_lam, with_variables_of, with_service}
use Rattle.camac_text_statements.specs.Statements.{block_at}
use Rattle.camac_text.specs.Tables.{table_declaration}
use Rattle.camac_text.specs.Procedures.{procedure_declaration}
use Rattle.camac_lang.specs.declared.spot.Spot.{Spot}

unfoldable pub lam_declaration : Spot → Reader (Unit {0})
lam_declaration spot = do
  known ← ask (λ s. s.lams)
  check (nat_lt (length known) 64) (text_case.Limit limit.Lams)
  advance
  name ← new_name
  advance
  branch_number
  crate_no ← any_number
  station ← any_number
  sub_address ← sub_address_number
  change (with_lam (record { spot = spot; name = name; crate_no = crate_no; station = station; sub_address = sub_address }))

-- one more variable of the same declaration
abbrev pub one_more_variable : ℕ → Reader ℕ
one_more_variable count = new_variable >> give (count + 1)

unfoldable pub variable_declaration : Spot → Reader (Unit {0})
variable_declaration spot = do
  advance
  new_variable
  count ← until choice.Name is_name one_more_variable 1
  change (with_variables_of spot count)

unfoldable pub service_declaration : Spot → Reader (Unit {0})
service_declaration spot = do
  known ← ask (λ s. s.services)
  check (nat_lt (length known) 24) (text_case.Limit limit.Services)
  advance
  lam ← used_lam
  expect word.Within
  cycles ← any_number
  expect word.Cycles
  expect word.Event
  words ← any_number
  expect word.Words
  body ← block_at 16
  change (with_service spot lam cycles words body)

abbrev pub declaration_by : Spot → Option TokenKind → Reader (Unit {0})
declaration_by spot (Some (kind.Keyword word.Table)) = table_declaration spot
declaration_by spot (Some (kind.Keyword word.Cdlam)) = lam_declaration spot
declaration_by spot (Some (kind.Keyword word.Var)) = variable_declaration spot
declaration_by spot (Some (kind.Keyword word.Proc)) = procedure_declaration spot
declaration_by spot (Some (kind.Keyword word.Service)) = service_declaration spot
declaration_by spot _ = unexpected choice.Declaration

unfoldable pub declaration_at : Reader (Unit {0})
declaration_at = do
  spot ← spot_here
  next ← peek
  declaration_by spot next

abbrev pub is_token : Option TokenKind → Bool
is_token None = false
is_token (Some k) = true

-- all declarations to the text's end
unfoldable pub declarations_at : Reader (Unit {0})
declarations_at = while_next is_token (λ _. declaration_at) tt
