-- What C is told of what comes next, whatever is answered.
use Rattle.std.specs.Prelude.{ℕ, Bool, true, false, List, [], ◌∷◌, ◌++◌, replicate, set, slice_index_or, unwrap_or}
use Rattle.camac_branch.specs.Plan.{Layout, crate_waits}
use Rattle.camac_lang.specs.declared.word.WordSize.TheVariants.{Full}
use Rattle.camac_run.specs.Requested.{held_in}
use Rattle.camac_run.specs.Runner.{RunnerState}
use Rattle.camac_run.specs.declared.member.Member.{Member}
use Rattle.camac_run.specs.declared.member.Member.TheVariants.{Makes, Block, Release}
use Rattle.camac_run.specs.declared.progress.Wanted.{Wanted}
use Rattle.camac_run.specs.declared.progress.Wanted.TheVariants.{Demand, Cycle, Lock}
use Rattle.camac_c.specs.Plain.{no_want, short_in}
use Rattle.camac_c.specs.Told.{want_in}
use Rattle.camac_c.specs.Transfer.{mode_in}
use Rattle.camac_c.specs.Width.{width_read}
use Rattle.camac_c.specs.declared.plain.CamacWant.{CamacWant}

-- the numbers of a want, in the order of its fields
abbrev pub fields_of : CamacWant → List ℕ
fields_of w = w.kind ∷ w.c ∷ w.n ∷ w.a ∷ w.f ∷ w.data ∷ w.waits ∷ w.width ∷ w.word ∷ w.is_short ∷ []

-- which crates are locked, by their numbers
abbrev pub locks_in : RunnerState → List Bool
locks_in h = false ∷ held_in h 1 ∷ held_in h 2 ∷ held_in h 3 ∷ held_in h 4 ∷ held_in h 5 ∷ held_in h 6 ∷ held_in h 7 ∷ []

-- and behind members of a list
abbrev pub locks_behind : Member → List Bool → List Bool
locks_behind (Makes Demand size) locks = locks
locks_behind (Makes (Cycle k) size) locks = locks
locks_behind (Makes (Lock c) size) locks = set locks c true
locks_behind (Block t) locks = locks
locks_behind (Release c) locks = set locks c false

-- the longest wait that is permitted where these are locked
abbrev pub waits_if : (locked : Bool) → Layout → (crate_no : ℕ) → ℕ
waits_if true plan c = 0
waits_if false plan c = unwrap_or (crate_waits plan c) 0

abbrev pub waits_behind : Layout → (locks : List Bool) → Wanted → ℕ
waits_behind plan locks Demand = 15
waits_behind plan locks (Cycle k) = waits_if (slice_index_or locks k.c false) plan k.c
waits_behind plan locks (Lock c) = waits_if (slice_index_or locks c false) plan c

abbrev pub want_behind : Layout → RunnerState → (locks : List Bool) → Wanted → CamacWant
want_behind plan h locks o = record (want_in (width_read plan o) h o) { waits = waits_behind plan locks o }

-- 5 is a block, of which its first cycle is told, 6 a release
abbrev pub member_in : Layout → RunnerState → (locks : List Bool) → Member → CamacWant
member_in plan h locks (Makes o size) = record (want_behind plan h locks o) { is_short = short_in size }
member_in plan h locks (Block t) = record (want_behind plan h locks (Cycle t.first)) { kind = 5 }
member_in plan h locks (Release c) = record no_want { kind = 6; c = c }

-- of a block its mode, the final station and sub-address, and the most cycles and words
abbrev pub block_in : Member → List ℕ
block_in (Makes o size) = replicate 5 0
block_in (Block t) = mode_in t.mode ∷ t.last.station ∷ t.last.sub_address ∷ t.cycles ∷ t.words ∷ []
block_in (Release c) = replicate 5 0

abbrev pub numbers_behind : Layout → RunnerState → (locks : List Bool) → List Member → List ℕ
numbers_behind plan h locks [] = []
numbers_behind plan h locks (m ∷ ms) = (fields_of (member_in plan h locks m) ++ block_in m) ++ numbers_behind plan h (locks_behind m locks) ms

-- an operation of the controllers, which is of no statement
abbrev pub of_none : Wanted → Member
of_none o = Makes o Full

-- of members one after another
abbrev pub numbers_ahead : Layout → RunnerState → List Member → List ℕ
numbers_ahead plan h = numbers_behind plan h (locks_in h)
