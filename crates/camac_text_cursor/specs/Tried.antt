-- What was looked for at a place.
use Rattle.std.specs.Prelude.{ℕ, ◌+◌, Bool, false, ◌||◌, ◌==◌}
use denote.Enum.Declared.{tag_of}
use Rattle.camac_tokens.specs.contracts.token.Keyword as keyword_type
use Rattle.camac_tokens.specs.contracts.token.Sign as sign_type
use Rattle.camac_text_cursor.specs.declared.choice.Choice.{Choice}
use Rattle.camac_text_cursor.specs.declared.choice.Choice.TheVariants as choice

-- the number of a choice, which no other has
abbrev pub place : Choice → ℕ
place (choice.Word w) = tag_of keyword_type.the_type w
place (choice.Mark s) = 47 + tag_of sign_type.the_type s
place choice.Name = 67
place choice.Number = 68
place choice.Declaration = 69
place choice.Statement = 70
place choice.Flag = 71
place choice.Switch = 72
place choice.Arrow = 73
place choice.Sum = 74
place choice.Product = 75
place choice.Comparison = 76
place choice.Each = 77

-- sets of choices
abbrev pub none : Choice → Bool
none c = false

abbrev pub added : Choice → (Choice → Bool) → Choice → Bool
added c set d = place c == place d || set d

-- What was looked for at the next token and is not there, since the last one was taken, unless nothing is noted.
pub data Tried : Type 0 where
  Untold : Tried
  Told : (Choice → Bool) → Tried

abbrev pub noted : Choice → Tried → Tried
noted c Untold = Untold
noted c (Told set) = Told (added c set)

abbrev pub cleared : Tried → Tried
cleared Untold = Untold
cleared (Told set) = Told none
