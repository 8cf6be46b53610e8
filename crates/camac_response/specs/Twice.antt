-- How often a service may clear its look-at-me on one way, counted up to two: by the rows of its bodies.
use Rattle.std.specs.Prelude.{ℕ, ◌+◌, ◌-◌, Bool, false, List, [], ◌∷◌, Option, Some, None, drop, max, min, nat_eq, nat_le, slice_get, unwrap_or, if◌then◌else◌}
use Rattle.std.specs.List.{range_with_len}
use Rattle.camac_lang.specs.Tree.{Statement, address_scan, q_stop, q_repeat, choose, choose_else, for_, for_each, while_, locked, call, Block, done, next, Service, Script}
use Rattle.camac_branch.specs.Address.{Address}
use Rattle.camac_branch.specs.Plan.{Layout}
use Rattle.camac_rules.specs.Capped.{capped}
use Rattle.camac_check_costs.specs.Body.{BodyRows}
use Rattle.camac_check_costs.specs.Bodies.{costs_with, sections_of}
use Rattle.camac_check_rows.specs.declared.row.Detail.{Detail}
use Rattle.camac_check_rows.specs.declared.row.Detail.TheVariants as detail
use Rattle.camac_check_rows.specs.declared.row.Row.{Row}
use Rattle.camac_commands.specs.declared.command.Command.{Command}
use Rattle.camac_commands.specs.Commands.{made_alone, detail_told, behind, behind_block, told_over}
use Rattle.camac_response.specs.Lams.{lams_of}
use Rattle.camac_response.specs.Reach.{clears_at, could_clear}

-- a sum that stops at two
abbrev pub up_to_two : ℕ → ℕ → ℕ
up_to_two a b = min (a + b) 2

-- how many of these numbers pass
abbrev pub count : (ℕ → Bool) → List ℕ → ℕ
count test [] = 0
count test (a ∷ rest) = up_to_two (if test a then 1 else 0) (count test rest)

-- in so many turns
abbrev pub in_turns : (turns once : ℕ) → ℕ
in_turns turns n = if nat_eq turns 0 then 0 else (if nat_eq turns 1 then n else up_to_two n n)

-- the cycles of a statement that may clear: a transfer has a step of its own and one for each; a scan comes to no address twice
abbrev pub cycles_of : Statement → (steps places : ℕ) → ℕ
cycles_of (address_scan spot f r1 r2 most x) steps places = min (min (steps - 1) 2) places
cycles_of (q_stop spot f r t most x) steps places = min (steps - 1) 2
cycles_of (q_repeat spot f r t most limit x) steps places = min (steps - 1) 2
cycles_of s steps places = 1

-- of a statement that holds no others and calls no procedure, by its command, if it has one
abbrev pub clears_alone : Layout → (lam : Address) → Statement → (steps : ℕ) → List Command → ℕ
clears_alone plan lam s steps [] = 0
clears_alone plan lam s steps (c ∷ cs) = if could_clear plan lam c then cycles_of s steps (count (clears_at plan lam c) (range_with_len 0 16)) else 0

-- the most steps of one time of the first statement, and the most turns of it
abbrev pub steps_told : List Row → ℕ
steps_told [] = 0
steps_told (row ∷ rows) = row.each.steps

abbrev pub turns_told : Detail → ℕ
turns_told (detail.Turns n) = n
turns_told told = 0

-- of a statement, and of a block after those so far, with that of each procedure before it, by its number
abbrev mutual
  pub clears_made : Layout → (lam : Address) → List ℕ → Statement → List Row → ℕ
  clears_made plan lam ps (choose spot t a) rows = clears_block plan lam ps 0 a (drop 1 rows)
  clears_made plan lam ps (choose_else spot t a b) rows =
      max (clears_block plan lam ps 0 a (drop 1 rows)) (clears_block plan lam ps 0 b (drop 1 (behind_block a (drop 1 rows))))
  clears_made plan lam ps (for_ spot x e1 e2 keeps body) rows = in_turns (turns_told (detail_told rows)) (clears_block plan lam ps 0 body (drop 1 rows))
  clears_made plan lam ps (for_each spot x v last body) rows = in_turns (turns_told (detail_told rows)) (clears_block plan lam ps 0 body (drop 1 rows))
  clears_made plan lam ps (while_ spot t most m keeps body) rows = in_turns (turns_told (detail_told rows)) (clears_block plan lam ps 0 body (drop 1 rows))
  clears_made plan lam ps (locked spot e body) rows = clears_block plan lam ps 0 body (drop 1 rows)
  clears_made plan lam ps (call spot p es) rows = unwrap_or (slice_get ps p) 0
  clears_made plan lam ps s rows = clears_alone plan lam s (steps_told rows) (made_alone s (detail_told rows))

  pub clears_block : Layout → (lam : Address) → List ℕ → ℕ → Block → List Row → ℕ
  clears_block plan lam ps so_far done rows = so_far
  clears_block plan lam ps so_far (next s rest) rows = clears_block plan lam ps (up_to_two so_far (clears_made plan lam ps s rows)) rest (behind s rows)

-- of a body
abbrev pub clears_in : Layout → (lam : Address) → List ℕ → Block → List Row → ℕ
clears_in plan lam ps b rows = clears_block plan lam ps 0 b rows

-- of each service, by these rows of the bodies
abbrev pub clears_of : Layout → Script → List BodyRows → (lam : Address) → List ℕ
clears_of plan script bodies lam = told_over (clears_in plan lam) [] (sections_of script) bodies

-- whether the service of this number may clear its own, which is at this address, twice
abbrev pub is_twice : Layout → Script → List BodyRows → (j : ℕ) → Option Address → Bool
is_twice plan script bodies j None = false
is_twice plan script bodies j (Some lam) = nat_le 2 (unwrap_or (slice_get (clears_of plan script bodies lam) j) 0)

-- of the services from number j on
abbrev pub twice_from : Layout → Script → List BodyRows → ℕ → List Service → List Bool
twice_from plan script bodies j [] = []
twice_from plan script bodies j (v ∷ vs) = is_twice plan script bodies j (lams_of script j) ∷ twice_from plan script bodies (j + 1) vs

abbrev pub twice_of : Layout → Script → List Bool
twice_of plan script = twice_from plan script (costs_with capped plan script) 0 script.services
