-- Of how many bits the words are that a run's next cycle moves.
use Rattle.std.specs.Prelude.{◌≡◌, true, false, List, Some}
use Rattle.camac_lang.specs.Tree.{Statement}
use Rattle.camac_lang.specs.declared.word.WordSize.TheVariants.{Full}
use Rattle.camac_machine.specs.Rest.{is_asking}
use Rattle.camac_run.specs.Ahead.{IsAhead}
use Rattle.camac_run.specs.Runner.{RunnerState}
use Rattle.camac_run.specs.Size.{FirstHasSize, size_in, size_of}
use Rattle.camac_run.specs.declared.member.Member.{Member}

-- Where a run stands at a statement, the cycle that it wants has words of the statement's size; elsewhere of 24 bits. The list that it has ahead says the
-- same of its first one.
abbrev pub SizesAreOfStatements : Type 0
SizesAreOfStatements =
    (h : RunnerState) (os : List Member) → IsAhead h os
    → FirstHasSize (size_in h) os
    × ((st : Statement) → is_asking h.pending ≡ true → h.begun ≡ Some st → size_in h ≡ size_of st)
    × (is_asking h.pending ≡ false → size_in h ≡ Full)
