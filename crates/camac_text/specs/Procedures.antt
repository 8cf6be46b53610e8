-- What is read at each place of a procedure.
use Rattle.std.specs.Prelude.{ℕ, List, [], ◌∷◌, length, nat_lt, if◌then◌else◌}
use Rattle.camac_lang.specs.Tree.{Text, Statement, Parameter, Procedure}
use Rattle.camac_lang.specs.View.{block_of}
use Rattle.camac_tokens.specs.declared.token.Keyword.TheVariants as word
use Rattle.camac_tokens.specs.declared.token.Sign.TheVariants as sign
use Rattle.camac_tokens.specs.declared.fault.Limit.TheVariants as limit
use Rattle.camac_tokens.specs.declared.fault.TextCase.TheVariants as text_case
use Rattle.camac_text_cursor.specs.declared.choice.Choice.TheVariants as choice
use Rattle.camac_text_cursor.specs.Reading.{Reader, ◌>>=◌, ◌>>◌, give, ask, change, peek, advance, miss, check, until, one_more}
use Rattle.camac_text_cursor.specs.Readers.{is_sign, expect, expect_sign, any_number, new_name, new_parameter}
use Rattle.camac_text_cursor.specs.Declaring.{opened, with_procedure}
use Rattle.camac_text_statements.specs.Statements.{block_at}
use Rattle.camac_lang.specs.declared.spot.Spot.{Spot}

-- ---- the heading

unfoldable pub parameter_at : Reader Parameter
parameter_at = do
  name ← new_parameter
  expect word.In
  low ← any_number
  expect_sign sign.UpTo
  high ← any_number
  give (record { name = name; low = low; high = high })

-- `,` and a parameter
unfoldable pub next_parameter : Reader Parameter
next_parameter = advance >> parameter_at

unfoldable pub parameter_list : Reader (List Parameter)
parameter_list = do
  first ← parameter_at
  until (choice.Mark sign.Comma) (is_sign sign.Comma) (one_more next_parameter) (first ∷ [])

unfoldable pub parameters_at : Reader (List Parameter)
parameters_at = peek >>= λ k. if is_sign sign.RightBracket k then give [] else (miss (choice.Mark sign.RightBracket) >> parameter_list)

pub record Heading : Type 0 where
  pub parameters : List Parameter
  pub cycles : ℕ
  pub words : ℕ
  pub steps : ℕ

unfoldable pub heading_at : Reader Heading
heading_at = do
  expect_sign sign.LeftBracket
  parameters ← parameters_at
  expect_sign sign.RightBracket
  expect word.Within
  cycles ← any_number
  expect word.Cycles
  expect word.Event
  words ← any_number
  expect word.Words
  expect word.Steps
  steps ← any_number
  give (record { parameters = parameters; cycles = cycles; words = words; steps = steps })

-- ---- the whole procedure

abbrev pub procedure_made : Spot → Text → Heading → List Text → List Statement → Procedure
procedure_made spot name h registers body = record {
  spot = spot;
  name = name;
  parameters = h.parameters;
  cycles = h.cycles;
  words = h.words;
  steps = h.steps;
  registers = registers;
  body = block_of body;
}

unfoldable pub procedure_declaration : Spot → Reader (Unit {0})
procedure_declaration spot = do
  known ← ask (λ s. s.procedures)
  check (nat_lt (length known) 16) (text_case.Limit limit.Procedures)
  advance
  name ← new_name
  advance
  names ← opened name
  heading ← heading_at
  body ← block_at 16
  registers ← ask (λ s. s.registers)
  change (with_procedure (procedure_made spot name heading registers body) names)
