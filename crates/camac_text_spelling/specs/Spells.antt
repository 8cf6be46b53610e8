-- What spells a script, and the laws of the spelling.
use Rattle.std.specs.Prelude.{◌≡◌, ℕ, List, [], ◌∷◌, ◌++◌, Ok, Err, codes, IsTrue}
use Rattle.camac_lang.specs.Example.{adc, adc_service, straight_line}
use Rattle.camac_lang.specs.Tree.{number, variable, into, set_register, single, put, next_lam, next_variables, next_service, Script}
use Rattle.camac_lang.specs.View.{block_of}
use Rattle.camac_lang.specs.declared.word.WordSize.TheVariants.{Full}
use Rattle.camac_lang.specs.Scope.{is_well_formed}
use Rattle.camac_tokens.specs.declared.token.Token.{Token}
use Rattle.camac_tokens.specs.Fault.{Fault}
use Rattle.camac_tokens.specs.Scanning.{spot_at, tokens_of}
use Rattle.camac_text.specs.Parser.{tree_of_tokens, script_of}
use Rattle.camac_text.specs.Places.{IsPlaced}
use Rattle.camac_text_spelling.specs.Pieces.{Prefix}
use Rattle.camac_text_spelling.specs.Declarations.{script}

-- The tokens are the tree's, each spot that it holds is that of its first token, and every rule of the language holds: operators
-- grouped from the left, scopes, numbers and limits.
pub record Spells (tokens : List Token) (tree : Script) : Type 0 where
  pub all : Prefix tokens (script tree) []
  pub stands : IsTrue (is_well_formed tree)

-- the text's tokens spell the tree
pub record IsSpelled (text : List ℕ) (tree : Script) : Type 0 where
  pub tokens : List Token
  pub made : tokens_of text ≡ Ok tokens
  pub spelled : Spells tokens tree

-- the text of the standard example
abbrev pub example_text : List ℕ
example_text =
    codes "cdlam adc 1 1 5 12\nvar v\nservice adc within 3 cycles event 1 words {\ncdreg r 1 1 5 0\ncfsa 0 r -> v\nput v }"

-- its tree, with the spots of this text
abbrev pub example_tree : Script
example_tree = record straight_line {
  order = next_lam ∷ next_variables (spot_at 2 87) 1 ∷ next_service ∷ [];
  lams = record adc { spot = spot_at 1 106 } ∷ [];
  services = record adc_service {
    spot = spot_at 3 81;
    body = block_of (set_register (spot_at 4 37) 0 (number 1) (number 5) (number 0) ∷ single (spot_at 5 21) Full 0 0 (into 0) ∷ put (spot_at 6 7) (variable 0) ∷ []);
  } ∷ [];
}

abbrev pub ExampleIsSpelled : Type 0
ExampleIsSpelled = IsSpelled example_text example_tree

-- the tree that is read of a text is one that its tokens spell
abbrev pub ReadIsSpelled : Type 0
ReadIsSpelled = (text : List ℕ) (tree : Script) → script_of text ≡ Ok tree → IsSpelled text tree

-- a tree that tokens spell is read of them
abbrev pub SpelledTokensAreRead : Type 0
SpelledTokensAreRead =
    (tokens : List Token) (end_line : ℕ) (tree : Script) → Spells tokens tree → tree_of_tokens tokens end_line ≡ Ok tree

-- and of a text that has these tokens
abbrev pub SpelledIsRead : Type 0
SpelledIsRead = (text : List ℕ) (tree : Script) → IsSpelled text tree → script_of text ≡ Ok tree

-- tokens spell one tree at most
abbrev pub SpelledOnce : Type 0
SpelledOnce = (tokens : List Token) (a b : Script) → Spells tokens a → Spells tokens b → a ≡ b

-- No list with the same tokens, up to the one at which the fault is, spells a tree.
abbrev pub FaultSpellsNothing : Type 0
FaultSpellsNothing =
    (tokens : List Token) (end_line : ℕ) (fault : Fault) (at : IsPlaced tokens end_line fault) (t : Token) (rest others : List Token) (tree : Script)
    → at.left ≡ t ∷ rest → Spells (at.taken ++ t ∷ others) tree → ⊥

-- nor do the tokens of a text that is refused
abbrev pub RefusedIsNotSpelled : Type 0
RefusedIsNotSpelled = (text : List ℕ) (fault : Fault) → script_of text ≡ Err fault → (tree : Script) → IsSpelled text tree → ⊥
