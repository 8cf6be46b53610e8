-- What `camac explain --at` tells of a plan and a script.
use Rattle.std.specs.Prelude.{◌≡◌, ℕ, List, ◌++◌, codes, decimal, Option, Some, None, Result, Ok, Err}
use Rattle.camac_lang.specs.Tree.{Script}
use Rattle.camac_lang.specs.declared.spot.Spot.{Spot}
use Rattle.camac_branch.specs.Plan.{Layout}
use Rattle.camac_tokens.specs.Scanning.{tokens_of}
use Rattle.camac_tokens.specs.Fault.{Fault as TextFault}
use Rattle.camac_tokens.specs.Rules.{rule_of}
use Rattle.camac_tokens.specs.declared.token.Token.{Token}
use Rattle.camac_text.specs.Parser.{script_of}
use Rattle.camac_names.specs.Link.{link_fault}
use Rattle.camac_names.specs.declared.fault.LinkFault.{LinkFault}
use Rattle.camac_names.specs.declared.fault.LinkFault.TheVariants as link_fault_of
use Rattle.camac_rules.specs.Capped.{capped}
use Rattle.camac_rules.specs.Fault.{Fault as CheckFault, broken}
use Rattle.camac_check_costs.specs.Known.{known_text}
use Rattle.camac_check_costs.specs.Places.{Place, place_with}
use Rattle.camac_lines.specs.declared.refusal.Refusal.TheVariants as refusal
use Rattle.camac_engines.specs.Report.{Report, refused}
use Rattle.camac_engines.specs.Standing.{standing_at}
use Rattle.camac_engines.specs.declared.known.Known.{Known}
use Rattle.camac_engines.specs.declared.known.Known.TheVariants as known
use Rattle.camac_engines.specs.declared.fault.ToolFault.{ToolFault}
use Rattle.camac_engines.specs.declared.fault.ToolFault.TheVariants as fault
use Rattle.camac_engines.specs.declared.outcome.Outcome.TheVariants.{Good, Refused}

-- if the checker comes to the statement, what it knows there; else that it does not come there, or the refusal before it
abbrev pub known_found : Script → Result (Option Place) CheckFault → Report
known_found script (Ok (Some p)) = Some (Good, known_text script p)
known_found script (Ok None) = Some (Good, codes "not reached\n")
known_found script (Err (broken rule spot case)) = refused (refusal.Check rule spot.line)

abbrev pub no_statement : (line column : ℕ) → Report
no_statement line column = Some (Refused, codes "no statement at " ++ decimal line ++ codes ":" ++ decimal column ++ codes "\n")

-- of the statement at the place, in the turns that are chosen
abbrev pub known_there : Layout → Script → (line column : ℕ) → (turns : List ℕ) → Option Spot → Report
known_there plan script line column turns None = no_statement line column
known_there plan script line column turns (Some s) = known_found script (place_with capped plan script s.left turns)

-- by the tokens of the text
abbrev pub standing_among : List ℕ → (line column : ℕ) → Result (List Token) TextFault → Option Spot
standing_among text line column (Ok ts) = standing_at text ts line column
standing_among text line column (Err flaw) = None

-- of what linking says of the script
abbrev pub known_linked : Layout → List ℕ → (line column : ℕ) → (turns : List ℕ) → Script → Option LinkFault → Report
known_linked plan text line column turns script None = known_there plan script line column turns (standing_among text line column (tokens_of text))
known_linked plan text line column turns script (Some (link_fault_of.Broken rule spot case)) = refused (refusal.Link rule spot.line)
known_linked plan text line column turns script (Some link_fault_of.OutOfMemory) = None

-- of what reading the text gives
abbrev pub known_read : Layout → List ℕ → (line column : ℕ) → (turns : List ℕ) → Result Script TextFault → Report
known_read plan text line column turns (Ok script) = known_linked plan text line column turns script (link_fault plan script)
known_read plan text line column turns (Err flaw) = refused (refusal.Text (rule_of flaw.case) flaw.spot.line)

-- of a script's text
abbrev pub known_report : (line column : ℕ) → (turns : List ℕ) → Layout → List ℕ → Report
known_report line column turns plan text = known_read plan text line column turns (script_of text)

abbrev pub known_report_of : (line column : ℕ) → Known → Report
known_report_of line column (known.Reached lines) = Some (Good, lines.items)
known_report_of line column known.NotReached = Some (Good, codes "not reached\n")
known_report_of line column known.NoStatement = no_statement line column
known_report_of line column (known.Refused r) = refused r

-- it was found, or memory was refused
abbrev pub FindsKnown : (line column : ℕ) → Result Known ToolFault → Report → Type 0
FindsKnown line column (Ok found) r = r ≡ known_report_of line column found
FindsKnown line column (Err fault.Memory) r = Unit {0}
FindsKnown line column (Err _) r = ⊥

-- the statement was found, or memory was refused
abbrev pub FindsStanding : Result (Option Spot) ToolFault → Option Spot → Type 0
FindsStanding (Ok found) s = found ≡ s
FindsStanding (Err fault.Memory) s = Unit {0}
FindsStanding (Err _) s = ⊥
