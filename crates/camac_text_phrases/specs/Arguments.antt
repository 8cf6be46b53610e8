-- What is read at each place of a call's arguments.
use Rattle.std.specs.Prelude.{ℕ, zero, suc, Bool, true, List, [], ◌∷◌, ◌++◌, Option, Some, if◌then◌else◌}
use Rattle.camac_lang.specs.Tree.{Expression}
use Rattle.camac_tokens.specs.declared.token.Sign.{Sign}
use Rattle.camac_tokens.specs.declared.token.Sign.TheVariants as sign
use Rattle.camac_tokens.specs.declared.token.TokenKind.{TokenKind}
use Rattle.camac_tokens.specs.declared.token.TokenKind.TheVariants as kind
use Rattle.camac_tokens.specs.declared.fault.Limit.TheVariants as limit
use Rattle.camac_tokens.specs.declared.fault.TextCase.TheVariants as text_case
use Rattle.camac_text_cursor.specs.declared.choice.Choice.TheVariants as choice
use Rattle.camac_text_cursor.specs.Reading.{Reader, ◌>>=◌, ◌>>◌, give, peek, advance, fail, unexpected}
use Rattle.camac_text_cursor.specs.Readers.{is_sign, expect_sign}
use Rattle.camac_text_phrases.specs.Expressions.{expression_at}

-- a sign of a call that wants so many arguments, where what passes this test shows that there are others
unfoldable pub counted_sign : Sign → (Option TokenKind → Bool) → ℕ → Reader (Unit {0})
counted_sign w shows wanted =
    peek >>= λ k. if is_sign w k then advance else (if shows k then fail (text_case.ArgumentCount wanted) else unexpected (choice.Mark w))

-- what begins an expression
abbrev pub begins_value : Option TokenKind → Bool
begins_value (Some (kind.Number n)) = true
begins_value (Some (kind.Name x)) = true
begins_value k = is_sign sign.LeftBracket k

-- what shows one argument too many after so many
abbrev pub shows_more : ℕ → Option TokenKind → Bool
shows_more zero k = begins_value k
shows_more (suc n) k = is_sign sign.Comma k

-- an argument after these, of so many
abbrev pub argument_after : ℕ → ℕ → List Expression → Reader Expression
argument_after wanted room [] = peek >>= λ k. if is_sign sign.RightBracket k then fail (text_case.ArgumentCount wanted) else expression_at room
argument_after wanted room (e ∷ es) = counted_sign sign.Comma (is_sign sign.RightBracket) wanted >> expression_at room

-- so many arguments more
unfoldable pub more_arguments : ℕ → ℕ → ℕ → List Expression → Reader (List Expression)
more_arguments wanted room zero es = give es
more_arguments wanted room (suc n) es = do
  e ← argument_after wanted room es
  more_arguments wanted room n (es ++ e ∷ [])

-- so many arguments in their brackets
unfoldable pub arguments_at : ℕ → ℕ → Reader (List Expression)
arguments_at zero n = peek >>= λ k. if is_sign sign.LeftBracket k then fail (text_case.Limit limit.Depth) else unexpected (choice.Mark sign.LeftBracket)
arguments_at (suc room) n = do
  expect_sign sign.LeftBracket
  es ← more_arguments n room n []
  counted_sign sign.RightBracket (shows_more n) n
  give es
