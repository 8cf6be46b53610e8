-- What is read at each place of a condition.
use Rattle.std.specs.Prelude.{ℕ, [], ◌∷◌, ◌++◌, length, Option, Some, nat_lt, if◌then◌else◌}
use Rattle.camac_range.specs.declared.comparison.Cmp.{Cmp}
use Rattle.camac_range.specs.declared.comparison.Cmp.TheVariants as cmp
use Rattle.camac_lang.specs.Tree.{Test, flag_q, flag_x, compare, Part, plain, negated, Condition}
use Rattle.camac_tokens.specs.declared.token.Keyword.TheVariants as word
use Rattle.camac_tokens.specs.declared.token.Sign.TheVariants as sign
use Rattle.camac_tokens.specs.declared.token.TokenKind.{TokenKind}
use Rattle.camac_tokens.specs.declared.token.TokenKind.TheVariants as kind
use Rattle.camac_tokens.specs.declared.fault.Limit.TheVariants as limit
use Rattle.camac_tokens.specs.declared.fault.TextCase.TheVariants as text_case
use Rattle.camac_text_cursor.specs.declared.choice.Choice.TheVariants as choice
use Rattle.camac_text_cursor.specs.Reading.{Reader, ◌>>=◌, ◌>>◌, give, peek, advance, miss, fail, unexpected, until}
use Rattle.camac_text_cursor.specs.Readers.{is_keyword, variable_here}
use Rattle.camac_text_phrases.specs.Expressions.{expression_at}

abbrev pub comparison_by : Option TokenKind → Reader Cmp
comparison_by (Some (kind.Sign sign.Less)) = advance >> give cmp.Less
comparison_by (Some (kind.Sign sign.AtMost)) = advance >> give cmp.AtMost
comparison_by (Some (kind.Sign sign.More)) = advance >> give cmp.More
comparison_by (Some (kind.Sign sign.AtLeast)) = advance >> give cmp.AtLeast
comparison_by (Some (kind.Sign sign.Same)) = advance >> give cmp.Same
comparison_by (Some (kind.Sign sign.Differs)) = advance >> give cmp.Differs
comparison_by _ = unexpected choice.Comparison

unfoldable pub comparison_sign : Reader Cmp
comparison_sign = peek >>= comparison_by

-- two expressions that are compared
unfoldable pub compared : ℕ → Reader Test
compared room = do
  left ← expression_at room
  how ← comparison_sign
  right ← expression_at room
  give (compare left how right)

abbrev pub test_by : ℕ → Option TokenKind → Reader Test
test_by room (Some (kind.Keyword word.Q)) = advance >> give flag_q
test_by room (Some (kind.Keyword word.X)) = advance >> give flag_x
test_by room _ = miss choice.Flag >> compared room

unfoldable pub test_at : ℕ → Reader Test
test_at room = peek >>= test_by room

abbrev pub part_by : ℕ → Option TokenKind → Reader Part
part_by room (Some (kind.Keyword word.Not)) = do
  advance
  test ← test_at room
  give (negated test)
part_by room _ = do
  miss (choice.Word word.Not)
  test ← test_at room
  give (plain test)

unfoldable pub part_at : ℕ → Reader Part
part_at room = peek >>= part_by room

-- the first token of a part too many, where it could begin a part
abbrev pub no_part_by : Option TokenKind → Reader (Unit {0})
no_part_by (Some (kind.Keyword word.Q)) = fail (text_case.Limit limit.Parts)
no_part_by (Some (kind.Keyword word.X)) = fail (text_case.Limit limit.Parts)
no_part_by (Some (kind.Keyword word.Not)) = fail (text_case.Limit limit.Parts)
no_part_by (Some (kind.Number n)) = fail (text_case.Limit limit.Parts)
no_part_by (Some (kind.Name x)) = variable_here >> fail (text_case.Limit limit.Parts)
no_part_by (Some (kind.Sign sign.LeftBracket)) = fail (text_case.Limit limit.Parts)
no_part_by _ = do
  miss (choice.Word word.Not)
  miss choice.Flag
  miss choice.Number
  miss choice.Name
  unexpected (choice.Mark sign.LeftBracket)

unfoldable pub part_limit : ℕ → Reader (Unit {0})
part_limit count = if nat_lt count 16 then give tt else (peek >>= no_part_by)

-- `and` and a part, after so many parts
unfoldable pub and_part : ℕ → ℕ → Reader Part
and_part room count = do
  advance
  part_limit count
  part_at room

abbrev pub one_more_part : ℕ → Condition → Reader Condition
one_more_part room parts = and_part room (length parts) >>= λ part. give (parts ++ part ∷ [])

unfoldable pub condition_at : ℕ → Reader Condition
condition_at room = do
  first ← part_at room
  until (choice.Word word.And) (is_keyword word.And) (one_more_part room) (first ∷ [])
