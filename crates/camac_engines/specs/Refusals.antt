-- All that is refused of a script's text for a plan, and the lines that `camac explain` tells of it after the first.
use Rattle.std.specs.Prelude.{ℕ, ◌+◌, ◌-◌, ◌^◌, ◌&&◌, Bool, false, min, nat_eq, List, [], ◌∷◌, ◌++◌, Option, Some, None, codes, flat_map, if◌then◌else◌, map}
use Rattle.std.specs.List.{list_any}
use Rattle.camac_lang.specs.Tree.{Script}
use Rattle.camac_lang.specs.declared.spot.Spot.{Spot}
use Rattle.camac_branch.specs.Plan.{Layout}
use Rattle.camac_names.specs.Link.{link_faults}
use Rattle.camac_names.specs.declared.fault.LinkCase.{LinkCase}
use Rattle.camac_names.specs.declared.fault.LinkCase.TheVariants.{Place}
use Rattle.camac_names.specs.declared.fault.LinkRule.TheVariants.{LamNotInstalled, StationWithoutBit}
use Rattle.camac_names.specs.declared.fault.LinkFault.{LinkFault}
use Rattle.camac_names.specs.declared.fault.LinkFault.TheVariants as link
use Rattle.camac_check.specs.Refusals.{CheckFault, OutOfMemory, Broken, fault_of, refusals}
use Rattle.camac_check_costs.specs.Turns.{last_turn}
use Rattle.camac_explain.specs.Source.{column_of}
use Rattle.camac_explain.specs.declared.finding.Finding.{Finding}
use Rattle.camac_explain.specs.declared.finding.Finding.TheVariants as finding
use Rattle.camac_explain_case.specs.Case.{case_lines}
use Rattle.camac_lines.specs.Refusal.{refusal_text, refusal_text_at}
use Rattle.camac_lines.specs.declared.refusal.Refusal.TheVariants as refusal

-- a fault as it is found; none where memory was refused
abbrev pub link_finding : LinkFault → List Finding
link_finding (link.Broken rule spot case) = finding.Link rule spot case ∷ []
link_finding link.OutOfMemory = []

abbrev pub check_finding : CheckFault → List Finding
check_finding (Broken rule spot case) = finding.Check rule spot case ∷ []
check_finding OutOfMemory = []

abbrev pub same_place : LinkCase → LinkCase → Bool
same_place (Place c n) (Place d m) = nat_eq c d && nat_eq n m
same_place p q = false

-- it says that this place has no module
abbrev pub is_missing : LinkCase → LinkFault → Bool
is_missing place (link.Broken LamNotInstalled spot case) = same_place place case
is_missing place f = false

-- that a service's station has no bit is told by the L1 of its LAM, if there is no module at all
abbrev pub is_told_by : List LinkFault → LinkFault → Bool
is_told_by faults (link.Broken StationWithoutBit spot place) = list_any (is_missing place) faults
is_told_by faults f = false

abbrev pub further_finding : List LinkFault → LinkFault → List Finding
further_finding faults f = if is_told_by faults f then [] else link_finding f

-- a script that linking refuses is not judged by the checker, and one cause is told once
abbrev pub linked_findings : Layout → Script → List LinkFault → List Finding
linked_findings plan script [] = flat_map check_finding (map fault_of (refusals plan script))
linked_findings plan script (f ∷ fs) = link_finding f ++ flat_map (further_finding (f ∷ fs)) fs

abbrev pub findings_of : Layout → Script → List Finding
findings_of plan script = linked_findings plan script (link_faults plan script)

-- the column of a spot of a text; a number stays at the greatest of 64 bits
abbrev pub column_from_one : (text : List ℕ) → Spot → ℕ
column_from_one text s = min (column_of text s + 1) (2 ^ 64 - 1)

-- the line of a refusal, with the column of its spot in the text; that of a plan has none
abbrev pub placed_refusal : (text : List ℕ) → Finding → List ℕ
placed_refusal text (finding.Plan rule) = refusal_text (refusal.Plan rule)
placed_refusal text (finding.Text rule spot) = refusal_text_at (refusal.Text rule spot.line) (column_from_one text spot)
placed_refusal text (finding.Link rule spot case) = refusal_text_at (refusal.Link rule spot.line) (column_from_one text spot)
placed_refusal text (finding.Check rule spot case) = refusal_text_at (refusal.Check rule spot.line) (column_from_one text spot)

-- `also refused CODE line LINE column COLUMN: MEANING`
abbrev pub also_line : (text : List ℕ) → Finding → List ℕ
also_line text f = codes "also " ++ placed_refusal text f

-- `Turn: VARIABLE = NUMBER`: the turn in which the checker refuses a statement, if an `each` loop is around it
abbrev pub turn_line_of : (turn : List ℕ) → List ℕ
turn_line_of [] = []
turn_line_of (b ∷ bs) = codes "Turn: " ++ (b ∷ bs) ++ codes "\n"

-- beside the explanation of a finding: its turn, and what its case tells
abbrev pub detail_lines : Layout → (text : List ℕ) → Script → Finding → List ℕ
detail_lines plan text script (finding.Check rule spot case) =
    turn_line_of (last_turn plan script spot.left) ++ case_lines plan text rule spot case
detail_lines plan text script _ = []

-- after the explanation of the first: its details, and a line for each other
abbrev pub after_first : Layout → (text : List ℕ) → Script → List Finding → List ℕ
after_first plan text script [] = []
after_first plan text script (f ∷ fs) = detail_lines plan text script f ++ flat_map (also_line text) fs

-- a text that is no script is refused by its first fault alone
abbrev pub told_after : Layout → (text : List ℕ) → Option Script → List ℕ
told_after plan text None = []
told_after plan text (Some script) = after_first plan text script (findings_of plan script)
