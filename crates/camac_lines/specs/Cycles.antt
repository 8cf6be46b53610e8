-- The line of a dataway cycle.
use Rattle.std.specs.Prelude.{ℕ, Bool, true, false, List, ◌++◌, codes, decimal}
use Rattle.camac_lines.specs.Digits.{hex_word}
use Rattle.camac_func.specs.declared.data.DataMove.{DataMove}
use Rattle.camac_func.specs.declared.data.DataMove.TheVariants as moved
use Rattle.camac_branch.specs.Address.{Address}
use Rattle.camac_branch.specs.Branch.{Reply}

abbrev pub flag_text : Bool → List ℕ
flag_text true = codes "1"
flag_text false = codes "0"

-- a read with all 24 bits of the reply, a write with the word sent
abbrev pub move_text : DataMove → Reply → List ℕ
move_text moved.In r = codes "in " ++ hex_word r.word
move_text (moved.Out word) r = codes "out " ++ hex_word word
move_text moved.None r = codes "none"

-- `cycle CRATE STATION SUB_ADDRESS FUNCTION `
abbrev pub cycle_start : Address → ℕ → List ℕ
cycle_start at f =
    codes "cycle " ++ decimal at.crate_no ++ codes " " ++ decimal at.station ++ codes " " ++ decimal at.sub_address
    ++ codes " " ++ decimal f ++ codes " "

-- and then `MOVE xX qQ wait WAIT`
abbrev pub cycle_text : Address → ℕ → DataMove → Reply → ℕ → List ℕ
cycle_text at f moves r wait =
    cycle_start at f ++ move_text moves r ++ codes " x" ++ flag_text r.x ++ codes " q" ++ flag_text r.q ++ codes " wait " ++ decimal wait ++ codes "\n"
