-- What stands before a place of a script that is right up to there.
use Rattle.std.specs.Prelude.{ℕ, ◌-◌, ◌==◌, Bool, false, ◌&&◌, ◌||◌, not, List, [], ◌∷◌, ◌++◌, count_by, drop, filter, find, is_none, is_some, length, nat_lt, slice_get, take, Option, Some, None, if◌then◌else◌}
use Rattle.std.specs.Str.{bytes_eq}
use denote.Enum.Bare.{sameb}
use Rattle.camac_lines.specs.Words.{is_near}
use Rattle.camac_tokens.specs.contracts.fault.NameKind as name_kind_type
use Rattle.camac_tokens.specs.contracts.token.Sign as sign_type
use Rattle.camac_tokens.specs.declared.fault.NameKind.{NameKind}
use Rattle.camac_tokens.specs.declared.fault.NameKind.TheVariants as named
use Rattle.camac_tokens.specs.declared.token.Keyword.{Keyword}
use Rattle.camac_tokens.specs.declared.token.Keyword.TheVariants as word
use Rattle.camac_tokens.specs.declared.token.Sign.{Sign}
use Rattle.camac_tokens.specs.declared.token.Sign.TheVariants as sign
use Rattle.camac_tokens.specs.declared.token.Token.{Token}
use Rattle.camac_tokens.specs.declared.token.TokenKind.{TokenKind}
use Rattle.camac_tokens.specs.declared.token.TokenKind.TheVariants as kind
use Rattle.camac_text_cursor.specs.Choice.{begins_declaration, begins_statement}
use Rattle.camac_text_cursor.specs.Readers.{is_keyword, is_sign as is_sign_at}
use Rattle.camac_explain_text_place.specs.declared.before.Before as declared_before
use Rattle.camac_explain_text_place.specs.declared.before.Declared.{Declared}

-- the word of the language that a token is
abbrev pub word_of : Option TokenKind → Option Keyword
word_of (Some (kind.Keyword w)) = Some w
word_of _ = None

-- the procedure that a statement calls
abbrev pub called_in : List TokenKind → Option (List ℕ)
called_in (kind.Keyword word.Call ∷ kind.Name name ∷ rest) = Some name
called_in _ = None

abbrev pub is_sign : Sign → TokenKind → Bool
is_sign wanted (kind.Sign s) = sameb sign_type.the_type s wanted
is_sign wanted _ = false

-- how often a sign stands in a phrase
abbrev pub count_of : Sign → List TokenKind → ℕ
count_of wanted phrase = count_by (is_sign wanted) phrase

-- The phrase is the declaration or the statement in hand, as far as it goes. The names are those that are declared at the place, in order.
pub record Standing : Type 0 where
  pub phrase : List TokenKind
  pub open_lines : List ℕ
  pub names : List Declared
  pub in_procedure : Bool

abbrev pub standing_of : declared_before.Before → Standing
standing_of b = record { phrase = b.phrase.items; open_lines = b.blocks.items; names = b.names.items; in_procedure = b.in_procedure }

abbrev pub first_of : Standing → Option TokenKind
first_of s = slice_get s.phrase 0

abbrev pub last_of : Standing → Option TokenKind
last_of s = slice_get s.phrase (length s.phrase - 1)

abbrev pub in_body : Standing → Bool
in_body s = not (length s.open_lines == 0)

abbrev pub open_line : Standing → Option ℕ
open_line s = slice_get s.open_lines (length s.open_lines - 1)

abbrev pub is_in_brackets : Standing → Bool
is_in_brackets s = nat_lt (count_of sign.RightBracket s.phrase) (count_of sign.LeftBracket s.phrase)

abbrev pub is_kind : (k wanted : NameKind) → Bool
is_kind k wanted = sameb name_kind_type.the_type k wanted

abbrev pub is_named : (name : List ℕ) → Declared → Bool
is_named name d = bytes_eq d.name name

abbrev pub declared : (name : List ℕ) → Standing → Option Declared
declared name s = find (is_named name) s.names

-- a procedure sees its parameters in place of the variables of the script
abbrev pub seen_as : NameKind → Standing → NameKind
seen_as wanted s = if s.in_procedure && is_kind wanted named.Variable then named.Parameter else wanted

-- the first name of a kind that is near a word
abbrev pub near : (word : List ℕ) → NameKind → Standing → Option Declared
near name wanted s = find (λ (d : Declared). is_kind d.kind (seen_as wanted s) && is_near name d.name) s.names

-- as what a phrase that begins with this word and ends in this token declares the name that follows it
abbrev pub kind_behind : Keyword → TokenKind → Option NameKind
kind_behind word.Cdreg (kind.Keyword w) = Some named.Register
kind_behind word.Cdlam (kind.Keyword w) = Some named.Lam
kind_behind word.Table (kind.Keyword w) = Some named.Table
kind_behind word.Proc (kind.Keyword word.Proc) = Some named.Procedure
kind_behind word.Proc (kind.Sign sign.LeftBracket) = Some named.Parameter
kind_behind word.Proc (kind.Sign sign.Comma) = Some named.Parameter
kind_behind word.Var k = Some named.Variable
kind_behind _ _ = None

abbrev pub kind_between : Option Keyword → Option TokenKind → Option NameKind
kind_between (Some w) (Some k) = kind_behind w k
kind_between _ _ = None

abbrev pub kind_declared_next : Standing → Option NameKind
kind_declared_next s = kind_between (word_of (first_of s)) (last_of s)

-- behind this token stands the name of a variable
abbrev pub is_before_variable : Option TokenKind → Bool
is_before_variable k =
    is_keyword word.For k || (is_keyword word.Keep k || (is_keyword word.By k || (is_keyword word.Tally k || is_sign_at sign.Into k)))

abbrev pub wants_new_name : Standing → Bool
wants_new_name s = is_before_variable (last_of s) || is_some (kind_declared_next s)

-- A token is added to the phrase. Before that, a word that begins a declaration or a statement ends the phrase before.
abbrev pub longer : TokenKind → Standing → Standing
longer k s = record s { phrase = s.phrase ++ (k ∷ []) }

abbrev pub begun : Keyword → Standing → Standing
begun w s = if (if in_body s then begins_statement w else begins_declaration w) then record s { phrase = [] } else s

-- An `=` in a body makes the name before it the beginning of a statement, but in `for i =`.
abbrev pub last_alone : List TokenKind → List TokenKind
last_alone ks = drop (length ks - 1) ks

abbrev pub is_of_for : Standing → Bool
is_of_for s = (length s.phrase == 2) && is_keyword word.For (first_of s)

abbrev pub assigned : Standing → Standing
assigned s = if in_body s && not (is_of_for s) then record s { phrase = last_alone s.phrase } else s

abbrev pub declared_as : Option NameKind → (name : List ℕ) → (line : ℕ) → Standing → Standing
declared_as None name line s = s
declared_as (Some k) name line s =
    if is_none (declared name s) then record s { names = s.names ++ (record { name = name; kind = k; line = line; parameters = 0 } ∷ []) } else s

abbrev pub opened : (line : ℕ) → Standing → Standing
opened line s =
    record s {
      phrase = [];
      open_lines = s.open_lines ++ (line ∷ []);
      in_procedure = if in_body s then s.in_procedure else is_keyword word.Proc (first_of s);
    }

-- What a body declared, its registers and parameters, is declared no more. Its procedure, the last of the other names, stays with the number of its
-- parameters.
abbrev pub is_outside : Declared → Bool
is_outside d = not (is_kind d.kind named.Register || is_kind d.kind named.Parameter)

abbrev pub with_parameters : ℕ → List Declared → List Declared
with_parameters count [] = []
with_parameters count (d ∷ []) = record d { parameters = count } ∷ []
with_parameters count (d ∷ e ∷ ds) = d ∷ with_parameters count (e ∷ ds)

abbrev pub parameters : Standing → ℕ
parameters s = count_by (λ (d : Declared). is_kind d.kind named.Parameter) s.names

abbrev pub ended : Standing → Standing
ended s =
    record s {
      names = if s.in_procedure then with_parameters (parameters s) (filter is_outside s.names) else filter is_outside s.names;
      in_procedure = false;
    }

abbrev pub without_block : Standing → Standing
without_block s = record s { phrase = []; open_lines = take (length s.open_lines - 1) s.open_lines }

abbrev pub ended_outside : Standing → Standing
ended_outside s = if in_body s then s else ended s

abbrev pub closed : Standing → Standing
closed s = ended_outside (without_block s)

unfoldable pub behind_token : (line : ℕ) → TokenKind → Standing → Standing
behind_token line (kind.Sign sign.LeftBrace) s = opened line s
behind_token line (kind.Sign sign.RightBrace) s = closed s
behind_token line (kind.Sign sign.Equals) s = longer (kind.Sign sign.Equals) (assigned s)
behind_token line (kind.Keyword w) s = longer (kind.Keyword w) (begun w s)
behind_token line (kind.Name name) s = longer (kind.Name name) (declared_as (kind_declared_next s) name line s)
behind_token line k s = longer k s

abbrev pub behind : List Token → Standing → Standing
behind [] s = s
behind (t ∷ ts) s = behind ts (behind_token t.spot.line t.kind s)

-- what stands before a place, by the tokens before it
abbrev pub standing : List Token → Standing
standing ts = behind ts (record { phrase = []; open_lines = []; names = []; in_procedure = false })
