-- What `camac plan --commands` lists of a type: its commands, in lines of neighbours that are alike.
use Rattle.std.specs.Prelude.{◌≡◌, ◌≢◌, ◌<◌, ◌≤◌, ◌⊎◌, ℕ, ◌+◌, List, [], ◌∷◌, Some}
use Rattle.std.specs.List.{flat_map}
use Rattle.camac_module.specs.Entry.{Entry}
use Rattle.camac_module.specs.Commands.{Commands, entry}
use Rattle.camac_lines.specs.Commands.{command_line, commands_text}

-- a function, from a first sub-address to a last one
pub record CommandLine : Type 0 where
  pub function : ℕ
  pub first : ℕ
  pub last : ℕ
  pub entry : Entry

abbrev pub line_text : CommandLine → List ℕ
line_text l = command_line l.function l.first l.last l.entry

-- All its sub-addresses have this command, of one width and kind. The neighbours on both sides have not.
pub record IsDeclared (commands : Commands) (l : CommandLine) : Type 0 where
  pub function : l.function < 32
  pub some : l.first ≤ l.last
  pub last : l.last < 16
  pub each : (a : ℕ) → l.first ≤ a → a ≤ l.last → entry commands l.function a ≡ Some l.entry
  pub before : (a : ℕ) → l.first ≡ a + 1 → entry commands l.function a ≢ Some l.entry
  pub after : l.last + 1 < 16 → entry commands l.function (l.last + 1) ≢ Some l.entry

abbrev pub AreDeclared : Commands → List CommandLine → Type 0
AreDeclared commands [] = Unit {0}
AreDeclared commands (l ∷ ls) = IsDeclared commands l × AreDeclared commands ls

-- of a greater function, or of the same one and further on
abbrev pub IsBehind : CommandLine → CommandLine → Type 0
IsBehind l m = (l.function < m.function) ⊎ ((l.function ≡ m.function) × (l.last < m.first))

abbrev pub AreBehind : CommandLine → List CommandLine → Type 0
AreBehind l [] = Unit {0}
AreBehind l (m ∷ ms) = IsBehind l m × AreBehind l ms

abbrev pub AreInOrder : List CommandLine → Type 0
AreInOrder [] = Unit {0}
AreInOrder (l ∷ ls) = AreBehind l ls × AreInOrder ls

-- one of the lines tells of this function at this sub-address
abbrev pub HasCommand : CommandLine → (function sub_address : ℕ) → Type 0
HasCommand l f a = (l.function ≡ f) × (l.first ≤ a) × (a ≤ l.last)

abbrev pub OneTells : List CommandLine → (function sub_address : ℕ) → Type 0
OneTells [] f a = ⊥
OneTells (l ∷ ls) f a = HasCommand l f a ⊎ OneTells ls f a

-- The text is lines in order, each of which is declared, and each command that is declared stands in one of them: in one alone, since each line
-- is behind all before it.
abbrev pub CommandsAreListed : Type 0
CommandsAreListed =
    (commands : Commands)
    → (lines : List CommandLine) × (commands_text commands ≡ flat_map line_text lines) × AreDeclared commands lines × AreInOrder lines
    × ((f a : ℕ) (e : Entry) → f < 32 → a < 16 → entry commands f a ≡ Some e → OneTells lines f a)
