-- What is read of single tokens, of numbers and of names.
use Rattle.std.specs.Prelude.{ℕ, ◌+◌, suc, Bool, true, false, ◌&&◌, [], ◌∷◌, ◌++◌, length, Option, Some, None, is_some, nat_lt, nat_le, ◌==◌, slice_get, codes, if◌then◌else◌}
use Rattle.std.specs.Str.{bytes_eq}
use denote.Enum.Bare.{sameb}
use Rattle.camac_lang.specs.Expressions.{Callable}
use Rattle.camac_lang.specs.Tests.{is_new, total, most}
use Rattle.camac_lang.specs.Tree.{Text, Procedure, Service}
use Rattle.camac_tokens.specs.contracts.token.Keyword as keyword_type
use Rattle.camac_tokens.specs.contracts.token.Sign as sign_type
use Rattle.camac_tokens.specs.declared.token.Keyword.{Keyword}
use Rattle.camac_tokens.specs.declared.token.Sign.{Sign}
use Rattle.camac_tokens.specs.declared.token.TokenKind.{TokenKind}
use Rattle.camac_tokens.specs.declared.token.TokenKind.TheVariants as kind
use Rattle.camac_tokens.specs.declared.fault.NameKind.{NameKind}
use Rattle.camac_tokens.specs.declared.fault.NameKind.TheVariants as named
use Rattle.camac_tokens.specs.declared.fault.Found.{Found}
use Rattle.camac_tokens.specs.declared.fault.Found.TheVariants as found
use Rattle.camac_tokens.specs.declared.fault.Limit.TheVariants as limit
use Rattle.camac_tokens.specs.declared.fault.TextCase.TheVariants as text_case
use Rattle.camac_text_cursor.specs.declared.choice.Choice.TheVariants as choice
use Rattle.camac_text_cursor.specs.Names.{name_place, lam_place, table_place, procedure_place}
use Rattle.camac_text_cursor.specs.Reading.{State, Reader, ◌>>=◌, ◌>>◌, give, ask, change, peek, advance, fail, unexpected, check}

-- ---- single tokens

abbrev pub is_keyword : Keyword → Option TokenKind → Bool
is_keyword w (Some (kind.Keyword v)) = sameb keyword_type.the_type v w
is_keyword w _ = false

abbrev pub is_sign : Sign → Option TokenKind → Bool
is_sign w (Some (kind.Sign v)) = sameb sign_type.the_type v w
is_sign w _ = false

abbrev pub is_name : Option TokenKind → Bool
is_name (Some (kind.Name v)) = true
is_name _ = false

abbrev pub is_number : Option TokenKind → Bool
is_number (Some (kind.Number n)) = true
is_number _ = false

-- the word of a `for` that is judged turn by turn: a name, so that a script may have it as one
abbrev pub each_word : Text
each_word = codes "each"

abbrev pub is_each : Option TokenKind → Bool
is_each (Some (kind.Name v)) = bytes_eq v each_word
is_each _ = false

unfoldable pub expect : Keyword → Reader (Unit {0})
expect w = peek >>= λ k. if is_keyword w k then advance else unexpected (choice.Word w)

unfoldable pub expect_sign : Sign → Reader (Unit {0})
expect_sign w = peek >>= λ k. if is_sign w k then advance else unexpected (choice.Mark w)

-- the name or the number that stands next, and stays there
abbrev pub name_of : Option TokenKind → Reader Text
name_of (Some (kind.Name n)) = give n
name_of _ = unexpected choice.Name

unfoldable pub name_here : Reader Text
name_here = peek >>= name_of

abbrev pub number_of : Option TokenKind → Reader ℕ
number_of (Some (kind.Number n)) = give n
number_of _ = unexpected choice.Number

unfoldable pub number_here : Reader ℕ
number_here = peek >>= number_of

-- ---- numbers

unfoldable pub any_number : Reader ℕ
any_number = do
  n ← number_here
  advance
  give n

unfoldable pub branch_number : Reader (Unit {0})
branch_number = do
  n ← number_here
  check (n == 1) text_case.Branch
  advance

unfoldable pub function_number : Reader ℕ
function_number = do
  n ← number_here
  check (nat_lt n 32) (text_case.Number 31)
  advance
  give n

unfoldable pub sub_address_number : Reader ℕ
sub_address_number = do
  n ← number_here
  check (nat_lt n 16) (text_case.Number 15)
  advance
  give n

-- ---- names

-- As what a name that is declared is declared: one that is none of the others is a procedure's, that in hand among them.
abbrev pub declared_as : Text → State → NameKind
declared_as x s =
    if is_some (table_place x s.tables) then named.Table
    else (if is_some (lam_place x s.lams) then named.Lam
    else (if is_some (name_place x s.variables) then (if s.in_procedure then named.Parameter else named.Variable)
    else (if is_some (name_place x s.outside) then named.Variable
    else (if is_some (name_place x s.registers) then named.Register else named.Procedure))))

-- a name that no table, LAM, variable or procedure before it has
unfoldable pub new_name : Reader Text
new_name = do
  name ← name_here
  known ← ask (λ s. s.declared)
  by ← ask (declared_as name)
  check (is_new name known) (text_case.Taken by)
  give name

abbrev pub with_variable : Text → State → State
with_variable name s = record s { variables = s.variables ++ name ∷ []; variable_count = suc s.variable_count; declared = s.declared ++ name ∷ [] }

-- the name that stands next, as one more variable or parameter
unfoldable pub added : Text → Reader (Unit {0})
added name = do
  count ← ask (λ s. s.variable_count)
  check (nat_lt count 64) (text_case.Limit limit.Variables)
  advance
  change (with_variable name)

unfoldable pub new_variable : Reader (Unit {0})
new_variable = new_name >>= added

-- a procedure's parameter
unfoldable pub new_parameter : Reader Text
new_parameter = do
  name ← new_name
  known ← ask (λ s. s.variables)
  check (nat_lt (length known) 8) (text_case.Limit limit.Parameters)
  added name
  give name

-- the registers that count beside those of the body in hand: those of all procedures and, in a procedure, those of the
-- service that has the most
abbrev pub other_registers : State → ℕ
other_registers s = total (λ (p : Procedure). length p.registers) s.procedures + (if s.in_procedure then most (λ (v : Service). length v.registers) s.services else 0)

abbrev pub with_register : Text → State → State
with_register name s = record s { registers = s.registers ++ name ∷ [] }

-- the number of a register: that of its first `cdreg`
abbrev pub register_at : Text → Option ℕ → Reader ℕ
register_at name (Some place) = advance >> give place
register_at name None = do
  others ← ask other_registers
  known ← ask (λ s. s.registers)
  check (nat_lt (others + length known) 64) (text_case.Limit limit.Registers)
  advance
  change (with_register name)
  give (length known)

unfoldable pub set_name : Reader ℕ
set_name = do
  name ← new_name
  known ← ask (λ s. s.registers)
  register_at name (name_place name known)

-- what a name is that is not declared as the kind that is wanted
abbrev pub found_as : NameKind → Option NameKind → Found
found_as wanted None = found.Nothing
found_as named.Variable (Some named.Variable) = found.Hidden
found_as named.Procedure (Some named.Procedure) = found.Itself
found_as wanted (Some other) = found.Other other

abbrev pub found_here : NameKind → Text → State → Found
found_here wanted x s = found_as wanted (if is_new x s.declared && is_new x s.registers then None else Some (declared_as x s))

abbrev pub undeclared : {A : Type 0} → NameKind → Text → Reader A
undeclared wanted x = ask (found_here wanted x) >>= λ f. fail (text_case.Undeclared wanted f)

-- The number of a name that is declared as the kind that is wanted. The name is taken, or stays where it is.
abbrev pub used_at : NameKind → Text → Option ℕ → Reader ℕ
used_at wanted x (Some place) = advance >> give place
used_at wanted x None = undeclared wanted x

unfoldable pub used : NameKind → (Text → State → Option ℕ) → Reader ℕ
used wanted find = do
  name ← name_here
  place ← ask (find name)
  used_at wanted name place

abbrev pub known_at : NameKind → Text → Option ℕ → Reader ℕ
known_at wanted x (Some place) = give place
known_at wanted x None = undeclared wanted x

unfoldable pub known : NameKind → (Text → State → Option ℕ) → Reader ℕ
known wanted find = do
  name ← name_here
  place ← ask (find name)
  known_at wanted name place

-- the fault where a name of a kind should stand and does not
unfoldable pub no_name : NameKind → Reader ℕ
no_name wanted = do
  name ← name_here
  undeclared wanted name

abbrev pub used_register : Reader ℕ
used_register = used named.Register (λ x s. name_place x s.registers)

abbrev pub used_variable : Reader ℕ
used_variable = used named.Variable (λ x s. name_place x s.variables)

abbrev pub used_lam : Reader ℕ
used_lam = used named.Lam (λ x s. lam_place x s.lams)

abbrev pub used_table : Reader ℕ
used_table = used named.Table (λ x s. table_place x s.tables)

abbrev pub variable_here : Reader ℕ
variable_here = known named.Variable (λ x s. name_place x s.variables)

abbrev pub procedure_here : Reader ℕ
procedure_here = known named.Procedure (λ x s. procedure_place x s.procedures)

-- the number of parameters of what is called, where so many brackets and braces may be open
abbrev pub callable_by : ℕ → Option Callable → Reader ℕ
callable_by room None = fail (text_case.Undeclared named.Procedure found.Nothing)
callable_by room (Some q) = do
  check (nat_le q.depth room) (text_case.Limit limit.CallDepth)
  advance
  give q.parameters

-- the same of the procedure with this number, whose name stands next
unfoldable pub called : ℕ → ℕ → Reader ℕ
called room place = do
  known ← ask (λ s. s.callables)
  callable_by room (slice_get known place)

-- ---- statements

-- the first token of a statement, which is counted
unfoldable pub begin : Reader (Unit {0})
begin = do
  so_far ← ask (λ s. s.statements)
  check (nat_lt so_far 4096) (text_case.Limit limit.Statements)
  change (λ s. record s { statements = suc s.statements })
  advance
