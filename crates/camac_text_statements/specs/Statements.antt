-- What is read at each place of a statement.
use Rattle.std.specs.Prelude.{ℕ, zero, suc, Bool, true, false, List, Option, Some, None, not, if◌then◌else◌, ◌≡◌, [], ◌∷◌, ◌++◌, Result, Ok, Err}
use Rattle.camac_lang.specs.Tree.{Expression, number, Move, no_data, into, from, Statement, assign, set_register, single, put, crate_call, lam_call, choose, choose_else, for_, for_each, while_, locked, Condition}
use Rattle.camac_lang.specs.View.{block_of, statement_of}
use Rattle.camac_lang.specs.declared.word.WordSize.{WordSize}
use Rattle.camac_lang.specs.declared.word.WordSize.TheVariants.{Full, Short}
use Rattle.camac_lang.specs.declared.word.CrateCall.{CrateCall}
use Rattle.camac_lang.specs.declared.word.CrateCall.TheVariants as crate_word
use Rattle.camac_lang.specs.declared.word.LamCall.{LamCall}
use Rattle.camac_lang.specs.declared.word.LamCall.TheVariants as lam_word
use Rattle.camac_tokens.specs.declared.token.Keyword.{Keyword}
use Rattle.camac_tokens.specs.declared.token.Keyword.TheVariants as word
use Rattle.camac_tokens.specs.declared.token.Sign.TheVariants as sign
use Rattle.camac_tokens.specs.declared.token.TokenKind.{TokenKind}
use Rattle.camac_tokens.specs.declared.token.TokenKind.TheVariants as kind
use Rattle.camac_tokens.specs.declared.fault.Limit.TheVariants as limit
use Rattle.camac_tokens.specs.declared.fault.TextCase.TheVariants as text_case
use Rattle.camac_text_cursor.specs.declared.choice.Choice.TheVariants as choice
use Rattle.camac_text_cursor.specs.Reading.{Reader, ◌>>=◌, ◌>>◌, give, peek, advance, spot_here, miss, missing, fail, unexpected, many, ask, check, State, Fault}
use Rattle.camac_text_cursor.specs.Readers.{begin, is_sign, is_each, expect, expect_sign, any_number, branch_number, function_number, set_name, used_register, used_variable, variable_here, used_lam}
use Rattle.camac_text_phrases.specs.Expressions.{expression_at}
use Rattle.camac_text_statements.specs.Transfers.{scan_statement, q_stop_statement, q_repeat_statement, call_statement}
use Rattle.camac_text_phrases.specs.Conditions.{condition_at}
use Rattle.camac_text_phrases.specs.declared.keeping.Own.TheVariants as of_loop
use Rattle.camac_text_phrases.specs.Keeps.{keeps_at}
use Rattle.camac_lang.specs.declared.spot.Spot.{Spot}
use Rattle.camac_lang.specs.declared.tree.Stmt.{Stmt}
use Rattle.camac_tokens.specs.declared.fault.TextFault.{TextFault}
use Rattle.camac_text_cursor.specs.Parser.{state, FailsWith}
use Rattle.camac_text_cursor.specs.declared.cursor.Parser.{Parser}

unfoldable pub assignment : ℕ → Spot → Reader Statement
assignment room spot = do
  place ← variable_here
  begin
  expect_sign sign.Equals
  value ← expression_at room
  give (assign spot place value)

unfoldable pub register_setting : ℕ → Spot → Reader Statement
register_setting room spot = do
  begin
  register ← set_name
  branch_number
  crate_no ← expression_at room
  station ← expression_at room
  sub_address ← expression_at room
  give (set_register spot register crate_no station sub_address)

-- what a single action moves
abbrev pub move_by : ℕ → Option TokenKind → Reader Move
move_by room (Some (kind.Sign sign.Into)) = do
  advance
  place ← used_variable
  give (into place)
move_by room (Some (kind.Sign sign.From)) = do
  advance
  value ← expression_at room
  give (from value)
move_by room _ = missing choice.Arrow no_data

unfoldable pub move_at : ℕ → Reader Move
move_at room = peek >>= move_by room

unfoldable pub single_action : WordSize → ℕ → Spot → Reader Statement
single_action size room spot = do
  begin
  function ← function_number
  register ← used_register
  move ← move_at room
  give (single spot size function register move)

unfoldable pub put_action : ℕ → Spot → Reader Statement
put_action room spot = do
  begin
  value ← expression_at room
  give (put spot value)

-- ---- crate calls and LAM calls

-- `on` or `off`
abbrev pub switch_by : Option TokenKind → Reader Bool
switch_by (Some (kind.Keyword word.On)) = advance >> give true
switch_by (Some (kind.Keyword word.Off)) = advance >> give false
switch_by _ = unexpected choice.Switch

unfoldable pub switch : Reader Bool
switch = peek >>= switch_by

unfoldable pub crate_action : CrateCall → ℕ → Spot → Reader Statement
crate_action call room spot = do
  begin
  crate_no ← expression_at room
  give (crate_call spot call crate_no)

-- one that is switched on or off
unfoldable pub crate_switch : CrateCall → CrateCall → ℕ → Spot → Reader Statement
crate_switch on off room spot = do
  begin
  crate_no ← expression_at room
  is_on ← switch
  give (crate_call spot (if is_on then on else off) crate_no)

unfoldable pub lam_action : LamCall → Spot → Reader Statement
lam_action call spot = do
  begin
  lam ← used_lam
  give (lam_call spot call lam)

unfoldable pub lam_switch : Spot → Reader Statement
lam_switch spot = do
  begin
  lam ← used_lam
  is_on ← switch
  give (lam_call spot (if is_on then lam_word.Enable else lam_word.Disable) lam)

abbrev pub lam_call_by : Spot → Option TokenKind → Reader Statement
lam_call_by spot (Some (kind.Keyword word.Cclm)) = lam_switch spot
lam_call_by spot (Some (kind.Keyword word.Cclc)) = lam_action lam_word.Clear spot
lam_call_by spot (Some (kind.Keyword word.Ctlm)) = lam_action lam_word.Test spot
lam_call_by spot _ = miss choice.Statement >> unexpected choice.Name

abbrev pub crate_call_by : ℕ → Spot → Option TokenKind → Reader Statement
crate_call_by room spot (Some (kind.Keyword word.Cccz)) = crate_action crate_word.Initialise room spot
crate_call_by room spot (Some (kind.Keyword word.Cccc)) = crate_action crate_word.Clear room spot
crate_call_by room spot (Some (kind.Keyword word.Ctci)) = crate_action crate_word.TestInhibit room spot
crate_call_by room spot (Some (kind.Keyword word.Ctcd)) = crate_action crate_word.TestDemandOutput room spot
crate_call_by room spot (Some (kind.Keyword word.Ctgl)) = crate_action crate_word.TestDemand room spot
crate_call_by room spot (Some (kind.Keyword word.Ccci)) = crate_switch crate_word.InhibitOn crate_word.InhibitOff room spot
crate_call_by room spot (Some (kind.Keyword word.Cccd)) = crate_switch crate_word.DemandOn crate_word.DemandOff room spot
crate_call_by room spot k = lam_call_by spot k

-- ---- all statements

-- a transfer or a call, whichever keyword stands next
abbrev pub transfer_by : ℕ → Spot → Option TokenKind → Reader Statement
transfer_by room spot (Some (kind.Keyword word.Cfmad)) = scan_statement room spot
transfer_by room spot (Some (kind.Keyword word.Cfubc)) = q_stop_statement room spot
transfer_by room spot (Some (kind.Keyword word.Cfubr)) = q_repeat_statement room spot
transfer_by room spot (Some (kind.Keyword word.Call)) = call_statement room spot
transfer_by room spot k = crate_call_by room spot k

-- ---- statements that hold blocks

-- what stands after a condition and its block
abbrev pub else_by : Reader (List Statement) → Spot → Condition → List Statement → Option TokenKind → Reader Statement
else_by block spot test body (Some (kind.Keyword word.Else)) = do
  advance
  other ← block
  give (choose_else spot test (block_of body) (block_of other))
else_by block spot test body _ = missing (choice.Word word.Else) (choose spot test (block_of body))

-- `if`
unfoldable pub if_statement : ℕ → Reader (List Statement) → Spot → Reader Statement
if_statement room block spot = do
  begin
  test ← condition_at room
  body ← block
  next ← peek
  else_by block spot test body next

-- the number that an expression is, if it is no more than that
abbrev pub single_number : Expression → Option ℕ
single_number (number n) = Some n
single_number _ = None

-- a `for` after its ends, where all its turns are judged at once
abbrev pub for_ends : Reader (List Statement) → Spot → ℕ → Expression → Expression → Reader Statement
for_ends block spot own first last = do
  keeps ← keeps_at (of_loop.Counter own)
  body ← block
  give (for_ spot own first last keeps (block_of body))

-- the same where each turn is judged by itself
abbrev pub each_ends : Reader (List Statement) → Spot → ℕ → ℕ → ℕ → Reader Statement
each_ends block spot own first last = do
  advance
  body ← block
  give (for_each spot own first last (block_of body))

-- between two numbers `each` may stand
abbrev pub ends_by : Reader (List Statement) → Spot → ℕ → Expression → Expression → Option ℕ → Option ℕ → Reader Statement
ends_by block spot own first last (Some a) (Some b) =
    peek >>= λ k. if is_each k then each_ends block spot own a b else (miss choice.Each >> for_ends block spot own first last)
ends_by block spot own first last _ _ = for_ends block spot own first last

-- `for`
unfoldable pub for_statement : ℕ → Reader (List Statement) → Spot → Reader Statement
for_statement room block spot = do
  begin
  own ← used_variable
  expect_sign sign.Equals
  first ← expression_at room
  expect word.To
  last ← expression_at room
  ends_by block spot own first last (single_number first) (single_number last)

-- `while`
unfoldable pub while_statement : ℕ → Reader (List Statement) → Spot → Reader Statement
while_statement room block spot = do
  begin
  test ← condition_at room
  expect word.Turns
  turns ← any_number
  expect word.By
  measure ← used_variable
  keeps ← keeps_at (of_loop.Measure measure)
  body ← block
  give (while_ spot test turns measure keeps (block_of body))

-- `lock`, which stands in no procedure
unfoldable pub lock_statement : ℕ → Reader (List Statement) → Spot → Reader Statement
lock_statement room block spot = do
  is_procedure ← ask (λ s. s.in_procedure)
  check (not is_procedure) text_case.LockInProcedure
  begin
  crate_no ← expression_at room
  body ← block
  give (locked spot crate_no (block_of body))

-- a statement that holds blocks, which are read so
abbrev pub nested_by : ℕ → Reader (List Statement) → Spot → Option TokenKind → Reader Statement
nested_by room block spot (Some (kind.Keyword word.If)) = if_statement room block spot
nested_by room block spot (Some (kind.Keyword word.For)) = for_statement room block spot
nested_by room block spot (Some (kind.Keyword word.While)) = while_statement room block spot
nested_by room block spot (Some (kind.Keyword word.Lock)) = lock_statement room block spot
nested_by room block spot k = transfer_by room spot k

-- the words that begin what most scripts have most of
abbrev pub is_frequent : Keyword → Bool
is_frequent word.Cdreg = true
is_frequent word.Cfsa = true
is_frequent word.Cssa = true
is_frequent word.Put = true
is_frequent k = false

-- a statement, where so many brackets and braces may be open at once and this is read as a block
abbrev pub statement_by : ℕ → Reader (List Statement) → Spot → Option TokenKind → Reader Statement
statement_by room block spot (Some (kind.Name x)) = miss choice.Statement >> assignment room spot
statement_by room block spot (Some (kind.Keyword word.Cdreg)) = register_setting room spot
statement_by room block spot (Some (kind.Keyword word.Cfsa)) = single_action Full room spot
statement_by room block spot (Some (kind.Keyword word.Cssa)) = single_action Short room spot
statement_by room block spot (Some (kind.Keyword word.Put)) = put_action room spot
statement_by room block spot k = nested_by room block spot k

-- where a block may end, too
unfoldable pub statement_with : ℕ → Reader (List Statement) → Reader Statement
statement_with room block = do
  miss (choice.Mark sign.RightBrace)
  spot ← spot_here
  next ← peek
  statement_by room block spot next

-- ---- blocks

abbrev pub is_no_end : Option TokenKind → Bool
is_no_end k = not (is_sign sign.RightBrace k)

-- a block, where so many braces may be open at once
unfoldable pub block_at : ℕ → Reader (List Statement)
block_at zero = peek >>= λ k. if is_sign sign.LeftBrace k then fail (text_case.Limit limit.Depth) else unexpected (choice.Mark sign.LeftBrace)
block_at (suc room) = do
  expect_sign sign.LeftBrace
  body ← many is_no_end (statement_with room (block_at room))
  expect_sign sign.RightBrace
  give body

-- What the functions return that put a statement behind others.

-- The statement that is read comes behind those before it, unless memory was refused.
abbrev pub Adds : List Stmt → List Stmt → Result (Unit {0}) TextFault → Parser → Result (Statement × State) Fault → Type 0
Adds before body (Ok nothing) after read = (x : Stmt) × (body ≡ before ++ x ∷ []) × (read ≡ Ok (statement_of x, state after))
Adds before body (Err fault) after read = FailsWith fault (state after).tried read
