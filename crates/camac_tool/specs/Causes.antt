-- What has come about where a job ends with a fault of a file or of an output.
use Rattle.std.specs.Prelude.{◌≡◌, ◌⊎◌, Bool, true, Option}
use Rattle.clap.specs.Words.{Text}
use Rattle.camac_engines.specs.declared.fault.ToolFault.{ToolFault}
use Rattle.camac_engines.specs.declared.fault.ToolFault.TheVariants.{Memory, Write}
use Rattle.camac_tool_words.specs.declared.words.Job.{Job}
use Rattle.camac_tool_words.specs.declared.words.Job.TheVariants as job
use Rattle.camac_tool_host.specs.Apart.{IsTakenBy, Words}
use Rattle.camac_tool.specs.Jobs.{drive_words, run_words}
use Rattle.camac_tool_host.specs.declared.host.FileId.{FileId}

-- of an engine that writes to memory
abbrev pub held_fault : ToolFault → ToolFault
held_fault Write = Memory
held_fault fault = fault

-- whether a call of the host fails
module _ (finds : Text → Option FileId → Type 0) (fails : Bool) where
  -- Of a run: a call of its output has failed, or one of the host; or the file of EVENTS is that of an input or of a standard output.
  abbrev pub RunCanFail : Words → (failed : Bool) → Type 0
  RunCanFail w failed = (failed ≡ true) ⊎ ((fails ≡ true) ⊎ IsTakenBy finds w)

  -- of another job: a call of its output has failed
  abbrev pub CanFail : Job → (failed : Bool) → Type 0
  CanFail (job.Run plan script answers events) failed = RunCanFail (run_words plan.now script.now answers.now events.now) failed
  CanFail (job.Drive plan script events) failed = RunCanFail (drive_words plan.now script.now events.now) failed
  CanFail job failed = failed ≡ true

-- Of a read fault: a call of the host fails. For the text of a rule nothing is read.
abbrev pub CanBeUnread : (fails : Bool) → Job → Type 0
CanBeUnread fails (job.ExplainRule code) = ⊥
CanBeUnread fails job = fails ≡ true
