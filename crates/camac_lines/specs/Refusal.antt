-- The line of a refusal.
use Rattle.std.specs.Prelude.{ℕ, List, [], ◌++◌, codes, decimal}
use Rattle.camac_lines.specs.Codes.{plan_code, text_code, link_code, check_code, answer_code, event_code}
use Rattle.camac_lines.specs.declared.refusal.Refusal.{Refusal}
use Rattle.camac_lines.specs.declared.refusal.Refusal.TheVariants.{Plan, Text, Link, Check, Answer, Event}

-- the code of the rule that is broken
abbrev pub code_of : Refusal → List ℕ × List ℕ
code_of (Plan rule) = plan_code rule
code_of (Text rule line) = text_code rule
code_of (Link rule line) = link_code rule
code_of (Check rule line) = check_code rule
code_of (Answer rule line) = answer_code rule
code_of (Event flaw) = event_code flaw.rule

-- the line or the byte at which it is broken; none is told of a plan
abbrev pub place_text : Refusal → List ℕ
place_text (Plan rule) = []
place_text (Text rule line) = codes " line " ++ decimal line
place_text (Link rule line) = codes " line " ++ decimal line
place_text (Check rule line) = codes " line " ++ decimal line
place_text (Answer rule line) = codes " line " ++ decimal line
place_text (Event flaw) = codes " byte " ++ decimal flaw.offset

-- `refused CODE PLACE: MEANING`
abbrev pub refusal_text : Refusal → List ℕ
refusal_text r = codes "refused " ++ (code_of r).0 ++ place_text r ++ codes ": " ++ (code_of r).1 ++ codes "\n"

-- the same with a column: `refused CODE PLACE column COLUMN: MEANING`
abbrev pub refusal_text_at : Refusal → (column : ℕ) → List ℕ
refusal_text_at r column =
    codes "refused " ++ (code_of r).0 ++ place_text r ++ codes " column " ++ decimal column ++ codes ": " ++ (code_of r).1 ++ codes "\n"
