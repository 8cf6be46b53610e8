-- Of how many bits the words are that a cycle moves, by the statement that wants it.
use Rattle.std.specs.Prelude.{◌≡◌, ◌++◌, List, [], ◌∷◌, Option, None, Some, if◌then◌else◌}
use Rattle.std.specs.List.{All}
use Rattle.camac_lang.specs.Tree.{Statement, single}
use Rattle.camac_lang.specs.declared.word.WordSize.{WordSize}
use Rattle.camac_lang.specs.declared.word.WordSize.TheVariants.{Full}
use Rattle.camac_machine.specs.Rest.{is_asking}
use Rattle.camac_run.specs.Runner.{RunnerState}
use Rattle.camac_run.specs.declared.member.Member.{Member}
use Rattle.camac_run.specs.declared.member.Member.TheVariants.{Makes, Block, Release}

-- those of `cssa` have 16, all others 24
abbrev pub size_of : Statement → WordSize
size_of (single spot size f r move) = size
size_of st = Full

abbrev pub size_begun : Option Statement → WordSize
size_begun None = Full
size_begun (Some st) = size_of st

-- where a run stands: those of the statement that was begun last, which wants what the service in progress waits for
abbrev pub size_in : RunnerState → WordSize
size_in h = if is_asking h.pending then size_begun h.begun else Full

-- an operation of a list has words of this size
abbrev pub HasSize : WordSize → Member → Type 0
HasSize size (Makes o its) = its ≡ size
HasSize size (Block b) = Unit {0}
HasSize size (Release c) = Unit {0}

abbrev pub FirstHasSize : WordSize → List Member → Type 0
FirstHasSize size [] = Unit {0}
FirstHasSize size (m ∷ os) = HasSize size m

-- and so has each that is added
abbrev pub AddsOfSize : WordSize → (old new : List Member) → Type 0
AddsOfSize size old new = (added : List Member) × (new ≡ old ++ added) × All (HasSize size) added
