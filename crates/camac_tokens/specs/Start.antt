-- What stands at the start of a text, with its number of bytes.
use Rattle.std.specs.Prelude.{ℕ}
use Rattle.camac_tokens.specs.declared.token.TokenKind.{TokenKind}
use Rattle.camac_tokens.specs.declared.fault.TextCase.{TextCase}

pub data Start : Type 0 where
  -- blanks, or a comment
  Gap : ℕ → Start
  -- a token
  Found : TokenKind → ℕ → Start
  -- what is no token, and why
  Wrong : TextCase → Start
