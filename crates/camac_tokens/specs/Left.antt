-- What is left of the tokens of a text.
use Rattle.std.specs.Prelude.{◌≡◌, ℕ, zero, suc, ◌+◌, ◌-◌, ◌≤◌, ◌<◌, false, ◌==◌, List, [], ◌∷◌, length, count_by, slice_index, Option, Some, None, Result, Ok, Err}
use Rattle.camac_lang.specs.declared.spot.Spot.{Spot}
use Rattle.camac_tokens.specs.declared.token.Token.{Token}
use Rattle.camac_tokens.specs.Start.{Start}
use Rattle.camac_tokens.specs.Start as start
use Rattle.camac_tokens.specs.declared.fault.TextCase.{TextCase}
use Rattle.camac_tokens.specs.declared.fault.TextFault.{TextFault}
use Rattle.camac_tokens.specs.declared.fault.TextFault.TheVariants as fault
use Rattle.camac_tokens.specs.Fault.{Fault}
use Rattle.camac_tokens.specs.Scanning.{is_blank, start_of, wrong, line_number, spot_at, line_after, tokens_from, tokens_of, last_line}

-- of what stands at a spot
abbrev pub before_by : Start → Spot → (ℕ → List Token) → List Token
before_by (start.Gap n) spot more = more (n - 1)
before_by (start.Found k n) spot more = record { kind = k; spot = spot } ∷ more (n - 1)
before_by (start.Wrong case) spot more = []

-- The tokens before the first token fault, after so many bytes that belong to the one before, from a line on.
unfoldable pub tokens_before : ℕ → ℕ → List ℕ → List Token
tokens_before skip line [] = []
tokens_before zero line (b ∷ bs) = before_by (start_of b (b ∷ bs)) (spot_at line (length (b ∷ bs))) (λ skip. tokens_before skip (line_after line b) bs)
tokens_before (suc skip) line (b ∷ bs) = tokens_before skip (line_after line b) bs

-- what ends them: the line of the text's end, or that fault
abbrev pub end_by : Result (List Token) Fault → ℕ → Result ℕ Fault
end_by (Ok ts) line = Ok line
end_by (Err e) line = Err e

abbrev pub end_from : ℕ → List ℕ → Result ℕ Fault
end_from line bytes = end_by (tokens_from 0 line bytes) (line_number (count_by (λ b. b == 10) bytes + line))

-- the tokens up to the first token fault, and what ends them
pub record Ahead : Type 0 where
  pub tokens : List Token
  pub end : Result ℕ Fault

-- what is ahead in bytes that begin on a line, and in a text
abbrev pub ahead_from : ℕ → List ℕ → Ahead
ahead_from line bytes = record { tokens = tokens_before 0 line bytes; end = end_from line bytes }

abbrev pub ahead_of : List ℕ → Ahead
ahead_of text = record { tokens = tokens_before 0 1 text; end = end_by (tokens_of text) (last_line text) }

-- the next token, and what is ahead in the bytes behind it
abbrev pub with_next : Option Token → ℕ → List ℕ → Ahead
with_next None line bytes = record { tokens = []; end = end_from line bytes }
with_next (Some t) line bytes = record { tokens = t ∷ tokens_before 0 line bytes; end = end_from line bytes }

-- The program answered what ends the tokens. It needs no memory.
abbrev pub EndIs : Result ℕ TextFault → Result ℕ Fault → Type 0
EndIs (Ok line) end = end ≡ Ok line
EndIs (Err fault.OutOfMemory) end = ⊥
EndIs (Err (fault.Broken case spot)) end = end ≡ Err (record { case = case; spot = spot })

-- bytes that begin with neither a blank nor a comment
abbrev pub BeginsNoGap : List ℕ → Type 0
BeginsNoGap [] = Unit {0}
BeginsNoGap (b ∷ bs) = (is_blank b ≡ false) × ((b == 35) ≡ false)

-- With no next token, the bytes behind begin with a token fault, or there are none.
abbrev pub IsStop : Option Token → List ℕ → Type 0
IsStop (Some t) bytes = Unit {0}
IsStop None bytes = BeginsNoGap bytes × (0 < length bytes → (case : TextCase) × (wrong (start_of (slice_index bytes 0) bytes) ≡ Some case))

-- Each line has a number of 64 bits.
pub record IsLeft (next : Option Token) (line : ℕ) (bytes : List ℕ) : Type 0 where
  pub lines : line + length bytes ≤ 9223372036854775808
  pub stop : IsStop next bytes

-- in the bytes after the gaps at the start of others the same is ahead
pub record IsPastGaps (line : ℕ) (text : List ℕ) (after : ℕ) (rest : List ℕ) : Type 0 where
  pub same : ahead_from after rest ≡ ahead_from line text
  pub lines : after + length rest ≤ line + length text
  pub begins : BeginsNoGap rest

abbrev pub eight_spaces : List ℕ
eight_spaces = 32 ∷ 32 ∷ 32 ∷ 32 ∷ 32 ∷ 32 ∷ 32 ∷ 32 ∷ []

abbrev pub two_spaces : List ℕ
two_spaces = 32 ∷ 32 ∷ []

-- the token at the start, of n bytes, is put in its place, with the line of its bytes and how many are left; or none, where something is wrong there
abbrev pub IsPut : ℕ → Option Token → ℕ → ℕ → Start → Type 0
IsPut n (Some t) line left f = (f ≡ start.Found t.kind n) × (t.spot ≡ record { line = line; left = left })
IsPut n None line left f = (n ≡ 0) × ((case : TextCase) × (wrong f ≡ Some case))
