-- What a script does not do of its part in the promise of look-at-mes.
use Rattle.std.specs.Prelude.{ℕ, ◌+◌, ◌&&◌, ◌||◌, Bool, List, [], ◌∷◌, Option, Some, None, insert, nat_eq, nat_le, nat_lt, not, slice_get, if◌then◌else◌, drop, min, unwrap_or}
use Rattle.std.specs.List.{list_any}
use Rattle.camac_lang.specs.Tree.{Service, Script, Statement, choose, choose_else, for_, for_each, while_, locked, call, Block, done, next}
use Rattle.camac_branch.specs.Address.{Address}
use Rattle.camac_branch.specs.Plan.{Layout}
use Rattle.camac_rules.specs.Capped.{capped}
use Rattle.camac_check_costs.specs.Body.{BodyRows}
use Rattle.camac_check_costs.specs.Bodies.{costs_with, sections_of}
use Rattle.camac_response_times.specs.declared.source.Source.{Source}
use Rattle.camac_response.specs.declared.least.Question.TheVariants.{Clears, Hides}
use Rattle.camac_response.specs.declared.unkept.Unkept.{Unkept}
use Rattle.camac_response.specs.declared.unkept.Why.{Why}
use Rattle.camac_response.specs.declared.unkept.Why.TheVariants.{NotCleared, ClearedBy, HiddenBy}
use Rattle.camac_response.specs.Lams.{lams_of}
use Rattle.camac_response.specs.Reach.{clears_lam, could_clear, could_hide}
use Rattle.camac_check_rows.specs.declared.row.Row.{Row}
use Rattle.camac_commands.specs.declared.command.Command.{Command}
use Rattle.camac_commands.specs.Commands.{made_alone, detail_told, behind, behind_block, told_over}
use Rattle.camac_response.specs.declared.least.Question.{Question}

-- The least line of the commands of a body that pass a test, by its rows.

-- of this line and those so far
abbrev pub or_before : ℕ → Option ℕ → ℕ
or_before line None = line
or_before line (Some other) = min line other

abbrev pub with_line : Bool → ℕ → Option ℕ → Option ℕ
with_line passes line so_far = if passes then Some (or_before line so_far) else so_far

abbrev pub lesser : Option ℕ → Option ℕ → Option ℕ
lesser so_far None = so_far
lesser so_far (Some line) = Some (or_before line so_far)

-- of a list of commands
abbrev pub least_line : (Command → Bool) → Option ℕ → List Command → Option ℕ
least_line test so_far [] = so_far
least_line test so_far (c ∷ cs) = least_line test (with_line (test c) c.spot.line so_far) cs

-- of a statement or block and the lines so far, with that of each procedure before it, by its number
abbrev mutual
  pub first_made : (Command → Bool) → List (Option ℕ) → Option ℕ → Statement → List Row → Option ℕ
  first_made test ps so_far (choose spot e a) rows = first_block test ps so_far a (drop 1 rows)
  first_made test ps so_far (choose_else spot e a b) rows = first_block test ps (first_block test ps so_far a (drop 1 rows)) b (drop 1 (behind_block a (drop 1 rows)))
  first_made test ps so_far (for_ spot x e1 e2 keeps body) rows = first_block test ps so_far body (drop 1 rows)
  first_made test ps so_far (for_each spot x v last body) rows = first_block test ps so_far body (drop 1 rows)
  first_made test ps so_far (while_ spot e most m keeps body) rows = first_block test ps so_far body (drop 1 rows)
  first_made test ps so_far (locked spot e body) rows = first_block test ps so_far body (drop 1 rows)
  first_made test ps so_far (call spot p es) rows = lesser so_far (unwrap_or (slice_get ps p) None)
  first_made test ps so_far s rows = least_line test so_far (made_alone s (detail_told rows))

  pub first_block : (Command → Bool) → List (Option ℕ) → Option ℕ → Block → List Row → Option ℕ
  first_block test ps so_far done rows = so_far
  first_block test ps so_far (next s rest) rows = first_block test ps (first_made test ps so_far s rows) rest (behind s rows)

-- of a body
abbrev pub first_in : (Command → Bool) → List (Option ℕ) → Block → List Row → Option ℕ
first_in test ps b rows = first_block test ps None b rows

-- what is asked of a command, for the look-at-me at this address
abbrev pub asks : Layout → Question → Address → Command → Bool
asks plan Clears lam = could_clear plan lam
asks plan Hides lam = could_hide lam

-- of each service, by these rows of the bodies
abbrev pub lines_of : Layout → Script → List BodyRows → Question → Address → List (Option ℕ)
lines_of plan script bodies q lam = told_over (first_in (asks plan q lam)) [] (sections_of script) bodies

-- one more of them: in the order of the bits, then of the lines, after those that are as they are
abbrev pub comes_after : (bit line : ℕ) → Unkept → Bool
comes_after bit line v = nat_lt bit v.bit || (nat_eq v.bit bit && nat_lt line v.line)

abbrev pub rank_of : (bit line : ℕ) → List Unkept → ℕ
rank_of bit line [] = 0
rank_of bit line (v ∷ us) = if comes_after bit line v then 0 else rank_of bit line us + 1

abbrev pub with_unkept : Unkept → List Unkept → List Unkept
with_unkept u us = insert us (rank_of u.bit u.line us) u

-- one on a line, if there is one
abbrev pub with_unkept_at : (bit service : ℕ) → Why → (line : Option ℕ) → List Unkept → List Unkept
with_unkept_at bit j why None us = us
with_unkept_at bit j why (Some line) us = with_unkept (record { bit = bit; service = j; line = line; why = why }) us

-- The look-at-me of service number j, whose address and bit are these. Its service does not clear it on every way: the line of its heading
abbrev pub not_cleared : Layout → Script → List BodyRows → Address → (j : ℕ) → Service → Option ℕ
not_cleared plan script bodies lam j v = if clears_lam plan script bodies lam j then None else Some v.spot.line

-- other services may clear it, the services from number i on: of each the least line of a command that could
abbrev pub of_other : (j i : ℕ) → Option ℕ → Option ℕ
of_other j i line = if nat_eq i j then None else line

abbrev pub told_cleared : (bit j : ℕ) → ℕ → List (Option ℕ) → List Unkept → List Unkept
told_cleared bit j i [] us = us
told_cleared bit j i (line ∷ rest) us = told_cleared bit j (i + 1) rest (with_unkept_at bit j (ClearedBy i) (of_other j i line) us)

-- any service may hide it
abbrev pub told_hidden : (bit j : ℕ) → ℕ → List (Option ℕ) → List Unkept → List Unkept
told_hidden bit j i [] us = us
told_hidden bit j i (line ∷ rest) us = told_hidden bit j (i + 1) rest (with_unkept_at bit j (HiddenBy i) line us)

-- all of this, by these rows of the bodies
abbrev pub told_of : Layout → Script → List BodyRows → (bit j : ℕ) → Address → Service → List Unkept → List Unkept
told_of plan script bodies bit j lam v us =
    told_hidden bit j 0 (lines_of plan script bodies Hides lam)
    (told_cleared bit j 0 (lines_of plan script bodies Clears lam) (with_unkept_at bit j NotCleared (not_cleared plan script bodies lam j v) us))

abbrev pub told_if : Layout → Script → List BodyRows → (bit j : ℕ) → Option Service → Option Address → List Unkept → List Unkept
told_if plan script bodies bit j None lam us = us
told_if plan script bodies bit j (Some v) None us = us
told_if plan script bodies bit j (Some v) (Some lam) us = told_of plan script bodies bit j lam v us

-- of the services from number j on, which are these sources
abbrev pub told_from : Layout → Script → List BodyRows → ℕ → List Source → List Unkept → List Unkept
told_from plan script bodies j [] us = us
told_from plan script bodies j (t ∷ ts) us =
    told_from plan script bodies (j + 1) ts (told_if plan script bodies t.bit j (slice_get script.services j) (lams_of script j) us)

abbrev pub unkept_of : Layout → Script → List Source → List Unkept
unkept_of plan script ts = told_from plan script (costs_with capped plan script) 0 ts []

-- whether a number is told for a bit: nothing is told of a look-at-me up to it
abbrev pub is_kept_to : List Unkept → (bit : ℕ) → Bool
is_kept_to us bit = not (list_any (λ u. nat_le u.bit bit) us)
