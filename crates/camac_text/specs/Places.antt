-- Where a fault of the parser is.
use Rattle.std.specs.Prelude.{◌≡◌, ℕ, List, ◌∷◌, ◌++◌, Result, Ok, Err}
use Rattle.camac_tokens.specs.declared.token.Token.{Token}
use Rattle.camac_tokens.specs.declared.fault.TextFault.{TextFault}
use Rattle.camac_tokens.specs.declared.fault.TextFault.TheVariants as text_fault
use Rattle.camac_tokens.specs.Fault.{Fault}
use Rattle.camac_tokens.specs.Scanning.{tokens_of, last_line}
use Rattle.camac_text_cursor.specs.Places.{CaseFits}
use Rattle.camac_text_cursor.specs.Reading.{kind_of, spot_of}
use Rattle.camac_text.specs.Parser.{tree_of_tokens}

-- The fault is that of a token, or of the text's end, and whatever follows that token, to whatever last line, it stays the
-- same fault.
pub record IsPlaced (tokens : List Token) (end_line : ℕ) (fault : Fault) : Type 0 where
  pub taken : List Token
  pub left : List Token
  pub parts : tokens ≡ taken ++ left
  pub place : fault.spot ≡ spot_of left end_line
  pub fits : CaseFits fault.case (kind_of left)
  pub settled : (t : Token) (after_first others : List Token) (last : ℕ) → left ≡ t ∷ after_first → tree_of_tokens (taken ++ t ∷ others) last ≡ Err fault

abbrev pub HasFaultAfter : Result (List Token) Fault → ℕ → Fault → Type 0
HasFaultAfter (Ok tokens) end_line fault = IsPlaced tokens end_line fault
HasFaultAfter (Err first) end_line fault = fault ≡ first

-- the first token fault where there is one, else a fault at a token
abbrev pub HasFault : List ℕ → Fault → Type 0
HasFault text fault = HasFaultAfter (tokens_of text) (last_line text) fault

abbrev pub FaultIs : {A : Type 0} → Result A TextFault → (Fault → Type 0) → Type 0
FaultIs (Ok x) P = Unit {0}
FaultIs (Err text_fault.OutOfMemory) P = Unit {0}
FaultIs (Err (text_fault.Broken case spot)) P = P (record { case = case; spot = spot })
