-- The commands that each service of a script may make, by the rows of its bodies. No rule is stated here.
use Rattle.std.specs.Prelude.{◌≡◌, ℕ, ◌&&◌, Bool, true, List, [], ◌∷◌, ◌++◌, Option, Some, None, Ok, IsTrue, drop, nat_eq, nat_le, option_map, unwrap_or, slice_get}
use Rattle.std.specs.List.{list_any}
use Rattle.camac_range.specs.Interval.{interval}
use Rattle.camac_range.specs.Interval as numbers
use Rattle.camac_lang.specs.declared.word.CrateCall.{CrateCall}
use Rattle.camac_lang.specs.Scope.{is_well_formed}
use Rattle.camac_lang.specs.Tree.{Statement, single, address_scan, q_stop, q_repeat, crate_call, lam_call, choose, choose_else, for_, for_each, while_, locked, call, Block, done, next, Service, Script}
use Rattle.camac_branch.specs.Address.{Address}
use Rattle.camac_branch.specs.Branch.{Branch, Answer}
use Rattle.camac_branch.specs.Plan.{Layout, IsPlan}
use Rattle.camac_model.specs.Behaviour.{Piece, cycled}
use Rattle.camac_model.specs.Fine.{Bounds}
use Rattle.camac_model.specs.Headline.{no_count, nothing}
use Rattle.camac_model.specs.Meaning.{context, crate_address, crate_function, lam_function}
use Rattle.camac_model.specs.Moments.{Meets, Any, AnyStop}
use Rattle.camac_model.specs.Run.{service_meaning}
use Rattle.camac_rules.specs.Accept.{Section, of_procedure, of_service, accept}
use Rattle.camac_rules.specs.Calls.{single_region}
use Rattle.camac_rules.specs.Capped.{capped}
use Rattle.camac_rules.specs.Known.{Region, region}
use Rattle.camac_check_rows.specs.declared.row.Detail.{Detail}
use Rattle.camac_check_rows.specs.declared.row.Detail.TheVariants as detail
use Rattle.camac_check_rows.specs.declared.row.Row.{Row}
use Rattle.camac_check_costs.specs.Body.{BodyRows}
use Rattle.camac_check_costs.specs.Bodies.{costs_with, sections_of}
use Rattle.camac_lang.specs.declared.spot.Spot.{Spot}
pub use Rattle.camac_commands.specs.declared.command.Command.{Command}

abbrev pub is_inside : Region → (crate_no station sub_address : ℕ) → Bool
is_inside g c n a =
    (nat_le g.crates.lo c && nat_le c g.crates.hi)
    && ((nat_le g.stations.lo n && nat_le n g.stations.hi) && (nat_le g.sub_addresses.lo a && nat_le a g.sub_addresses.hi))

abbrev pub lies_in : Region → Address → Bool
lies_in g at = is_inside g at.crate_no at.station at.sub_address

-- a cycle of this function at this address is one of the command
abbrev pub is_told : Address → (function : ℕ) → Command → Bool
is_told at f c = nat_eq f c.function && lies_in c.region at

-- each cycle is one of these commands
abbrev pub IsListed : List Command → Unit {0} → Piece → Type 0
IsListed cs u (cycled at f d r w) = list_any (is_told at f) cs ≡ true
IsListed cs u _ = Unit {0}

-- of a service, whatever the branch is like and answers
abbrev pub MakesOnly : Layout → Script → Service → List Command → Type 0
MakesOnly plan script v cs =
    (b : Branch) (answers : List Answer) → Meets no_count (IsListed cs) AnyStop Any nothing (service_meaning (context plan script) 65535 v b answers)

-- at one of these addresses, where they are known
abbrev pub made_at : (spot : Spot) (function : ℕ) → Option Region → List Command
made_at spot f None = []
made_at spot f (Some g) = record { spot = spot; function = f; region = g } ∷ []

-- all sub-addresses of the stations from those of the first register to those of the last, if there is one
abbrev pub span : Region → Region → Option Region
span g h = option_map (λ stations. region g.crates stations (interval 0 15)) (numbers.span g.stations.lo h.stations.hi)

-- the addresses that a row tells: those of a register or LAM, or those between two registers
abbrev pub told_region : Detail → Option Region
told_region (detail.At g) = Some g
told_region (detail.Between g h) = span g h
told_region told = None

-- where a crate call goes: its crate is one number each time, in the turns of an `each` one after the other
abbrev pub called_at : CrateCall → Detail → Option Region
called_at which (detail.Crates r) = Some (record (single_region (crate_address which r.lo)) { crates = r })
called_at which told = None

-- the command of a statement that holds no others and calls no procedure, by what its row tells
abbrev pub made_alone : Statement → Detail → List Command
made_alone (single spot size f r move) told = made_at spot f (told_region told)
made_alone (address_scan spot f r1 r2 max x) told = made_at spot f (told_region told)
made_alone (q_stop spot f r t max x) told = made_at spot f (told_region told)
made_alone (q_repeat spot f r t max limit x) told = made_at spot f (told_region told)
made_alone (crate_call spot which e) told = made_at spot (crate_function which) (called_at which told)
made_alone (lam_call spot which l) told = made_at spot (lam_function which) (told_region told)
made_alone s told = []

-- as a list of one or none
abbrev pub as_list : Option Command → List Command
as_list None = []
as_list (Some c) = c ∷ []

-- what the first row tells
abbrev pub detail_told : List Row → Detail
detail_told [] = detail.Nothing
detail_told (row ∷ rows) = row.detail

-- The rows of a body are those of its statements, in the order of the text, with one for each `else`. These are the rows behind those of a
-- statement or block.
abbrev mutual
  pub behind : Statement → List Row → List Row
  behind (choose spot test a) rows = behind_block a (drop 1 rows)
  behind (choose_else spot test a b) rows = behind_block b (drop 1 (behind_block a (drop 1 rows)))
  behind (for_ spot x e1 e2 keeps body) rows = behind_block body (drop 1 rows)
  behind (for_each spot x v last body) rows = behind_block body (drop 1 rows)
  behind (while_ spot test most m keeps body) rows = behind_block body (drop 1 rows)
  behind (locked spot e body) rows = behind_block body (drop 1 rows)
  behind s rows = drop 1 rows

  pub behind_block : Block → List Row → List Row
  behind_block done rows = rows
  behind_block (next s rest) rows = behind_block rest (behind s rows)

-- the commands of a statement or block by its rows, with those of each procedure before it, by its number
abbrev mutual
  pub made : List (List Command) → Statement → List Row → List Command
  made ps (choose spot test a) rows = made_block ps a (drop 1 rows)
  made ps (choose_else spot test a b) rows = made_block ps a (drop 1 rows) ++ made_block ps b (drop 1 (behind_block a (drop 1 rows)))
  made ps (for_ spot x e1 e2 keeps body) rows = made_block ps body (drop 1 rows)
  made ps (for_each spot x v last body) rows = made_block ps body (drop 1 rows)
  made ps (while_ spot test most m keeps body) rows = made_block ps body (drop 1 rows)
  made ps (locked spot e body) rows = made_block ps body (drop 1 rows)
  made ps (call spot p es) rows = unwrap_or (slice_get ps p) []
  made ps s rows = made_alone s (detail_told rows)

  pub made_block : List (List Command) → Block → List Row → List Command
  made_block ps done rows = []
  made_block ps (next s rest) rows = made ps s rows ++ made_block ps rest (behind s rows)

-- what is told of the bodies of services, in the order of the text: of each by its rows, with what is told of each procedure before it
abbrev pub told_over : {A : Type 0} → (List A → Block → List Row → A) → List A → List Section → List BodyRows → List A
told_over told ps [] bodies = []
told_over told ps (section ∷ rest) [] = []
told_over told ps (of_procedure p ∷ rest) (b ∷ bodies) = told_over told (ps ++ told ps p.body b.rows ∷ []) rest bodies
told_over told ps (of_service v ∷ rest) (b ∷ bodies) = told ps v.body b.rows ∷ told_over told ps rest bodies

abbrev pub commands_over : List (List Command) → List Section → List BodyRows → List (List Command)
commands_over ps ss bodies = told_over made_block ps ss bodies

abbrev pub commands_of : Layout → Script → List (List Command)
commands_of plan s = commands_over [] (sections_of s) (costs_with capped plan s)

-- the law: a service of an accepted script makes only the commands of its list
abbrev pub CyclesAreListed : Type 0
CyclesAreListed =
    (plan : Layout) → IsPlan plan → (script : Script) (ks : List Bounds) → IsTrue (is_well_formed script) → accept plan script ≡ Ok ks
    → (i : ℕ) (v : Service) (cs : List Command) → slice_get script.services i ≡ Some v → slice_get (commands_of plan script) i ≡ Some cs → MakesOnly plan script v cs
