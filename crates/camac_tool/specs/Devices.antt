-- What the devices of a run are given, and what EVENTS holds.
use Rattle.std.specs.Prelude.{◌≡◌, ◌⊎◌, ℕ, Bool, true, List, Option, Result, Err}
use Rattle.std.specs.Io.KnownBytes.{Keeps, append_known}
use Rattle.camac_engines.specs.declared.fault.ToolFault.{ToolFault}
use Rattle.camac_engines.specs.declared.fault.ToolFault.TheVariants.{Write}
use Rattle.camac_engines.specs.declared.outcome.Outcome.{Outcome}
use Rattle.camac_play.specs.RunIo.{RunState}
use Rattle.camac_play.specs.Sent.{Outputs}
use Rattle.camac_play.specs.declared.telling.Telling.TheVariants.{Listing}
use Rattle.camac_tool_run.specs.Run.{Runs}
use Rattle.camac_tool_run.specs.World.{World}

-- a device has got all that was given but its end, which it has not
abbrev pub HasBeginning : (given got : Option (List ℕ)) → Type 0
HasBeginning given got = (rest : List ℕ) × Keeps given (append_known got rest)

-- Both devices have got the beginning of what a run gave. They have all of it, and the run ends as it did, unless one has failed.
abbrev pub IsHandedOn : (given : RunState) → (listed recorded : Option (List ℕ)) → (ran outcome : Result Outcome ToolFault) → Type 0
IsHandedOn given listed recorded ran outcome =
    HasBeginning given.listed listed × HasBeginning given.recorded recorded
    × (((outcome ≡ ran) × Keeps given.listed listed × Keeps given.recorded recorded) ⊎ (outcome ≡ Err Write))

-- a run from this world, which gives what the devices are handed
abbrev pub RunsOnDevices : {P : Type 0} → World P → (RunState → World P) → (listed recorded : Option (List ℕ)) → Result Outcome ToolFault → Type 0
RunsOnDevices old after listed recorded outcome =
    (ran : Result Outcome ToolFault) × (given : RunState) × Runs old (after given) Listing ran × IsHandedOn given listed recorded ran outcome

-- what an output and EVENTS hold
abbrev pub outputs : {D E : Type 0} → (contents : D → Option (List ℕ)) → (holds : E → Option (List ℕ)) → D → E → Outputs
outputs contents holds out events = record { listing = contents out; events = holds events }

-- these bytes are on the disk, or nothing was written
abbrev pub IsKept : (begun : Option (List ℕ)) → (saves : Option (List ℕ) → Bool) → Option (List ℕ) → Type 0
IsKept begun saves bytes = (bytes ≡ begun) ⊎ (saves bytes ≡ true)
