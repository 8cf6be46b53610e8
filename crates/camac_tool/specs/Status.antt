-- The exit status, and the reason for it.
use Rattle.std.specs.Prelude.{◌≡◌, ◌≤◌, ◌⊎◌, ℕ, List, [], Bool, true, Option, Result, Ok, Err}
use Rattle.clap.specs.Words.{Text, kind_of, subcommand_of}
use Rattle.clap.specs.declared.error.kind.ErrorKind.{ErrorKind}
use Rattle.clap.specs.declared.error.kind.ErrorKind.TheVariants as kind
use Rattle.camac_play.specs.Sent.{Outputs, Sends}
use Rattle.camac_response_times.specs.declared.setting.Misuse.{Misuse}
use Rattle.camac_response_times.specs.declared.setting.Misuse.TheVariants.{Form}
use Rattle.camac_engines.specs.Engine.{is_write_fault, status_of}
use Rattle.camac_engines.specs.Reading.{is_read_fault}
use Rattle.camac_engines.specs.declared.fault.ToolFault.{ToolFault}
use Rattle.camac_engines.specs.declared.fault.ToolFault.TheVariants.{Write}
use Rattle.camac_tool_words.specs.Words.{IsFaultOf, IsJob, camac_app, input_count_of}
use Rattle.camac_tool_words.specs.declared.words.Job.{Job}
use Rattle.camac_tool_words.specs.declared.words.JobFault.{JobFault}
use Rattle.camac_tool_words.specs.declared.words.JobFault.TheVariants.{Usage, InTwice}
use Rattle.camac_tool_host.specs.Apart.{Words}
use Rattle.camac_tool.specs.Causes.{CanBeUnread, CanFail}
use Rattle.camac_tool.specs.Jobs.{DoesJob}
use Rattle.camac_tool_host.specs.declared.host.FileId.{FileId}
use Rattle.camac_tool.specs.declared.program.Done.{Done}
use Rattle.camac_tool.specs.declared.program.Done.TheVariants.{Answered, Misused, NoCode}

-- after a fault 3, and after a write to a pipe that its reader closed what a shell tells of a tool that is ended by SIGPIPE (own)
abbrev pub fault_status : ToolFault → (is_closed : Bool) → ℕ
fault_status Write true = 141
fault_status fault is_closed = 3

-- by whether the last call that failed found its pipe closed
abbrev pub EndsStopped : ToolFault → ℕ → Type 0
EndsStopped fault s = (is_closed : Bool) × (s ≡ fault_status fault is_closed)

-- words that are wrong; the text on those of a wrong form takes memory
abbrev pub EndsMisuse : Misuse → ℕ → Type 0
EndsMisuse (Form option word) s = (s ≡ 2) ⊎ (s ≡ 3)
EndsMisuse misuse s = s ≡ 2

-- by what became of a job
abbrev pub EndsAs : Result Done ToolFault → ℕ → Type 0
EndsAs (Ok (Answered outcome)) s = s ≡ status_of (Ok outcome)
EndsAs (Ok (Misused misuse)) s = EndsMisuse misuse s
EndsAs (Ok (NoCode word)) s = s ≡ 2
EndsAs (Err fault) s = EndsStopped fault s

-- A job whose output and EVENTS had a, and have b, and whose output has failed or not. A fault had a cause.
abbrev pub EndsJob : (bytes_of : Text → Option (List ℕ)) → (finds : Text → Option FileId → Type 0) → (saved : Words → Option (List ℕ) → Bool) → (fails : Bool) → Job
    → (a b : Outputs) → (failed : Bool) → ℕ → Type 0
EndsJob bytes_of finds saved fails job a b failed s =
    (done : Result Done ToolFault) × DoesJob bytes_of finds saved job a b done × (is_write_fault done ≡ true → CanFail finds fails job failed)
    × (is_read_fault done ≡ true → CanBeUnread fails job) × EndsAs done s

-- Of what `clap` answers in place of a job: out of memory; help or version, which end well unless they cannot be written, where a call of the host fails; a
-- mistake.
abbrev pub EndsUsage : (fails : Bool) → ErrorKind → ℕ → Type 0
EndsUsage fails kind.OutOfMemory s = s ≡ 3
EndsUsage fails kind.DisplayHelp s = (s ≡ 0) ⊎ ((fails ≡ true) × EndsStopped Write s)
EndsUsage fails kind.DisplayVersion s = (s ≡ 0) ⊎ ((fails ≡ true) × EndsStopped Write s)
EndsUsage fails k s = s ≡ 2

abbrev pub EndsFault : (fails : Bool) → JobFault → ℕ → Type 0
EndsFault fails InTwice s = s ≡ 2
EndsFault fails (Usage e) s = EndsUsage fails (kind_of e) s

-- Of these words: of the job that they name, which takes standard input at most once. Or nothing is told: of their fault, or since there are no places for
-- the standard streams, where a call of the host fails.
abbrev pub Ends : (bytes_of : Text → Option (List ℕ)) → (finds : Text → Option FileId → Type 0) → (saved : Words → Option (List ℕ) → Bool) → (fails : Bool) → List Text
    → (a b : Outputs) → (failed : Bool) → ℕ → Type 0
Ends bytes_of finds saved fails words a b failed s =
    ((job : Job) × IsJob job (subcommand_of camac_app words) × (input_count_of job ≤ 1) × EndsJob bytes_of finds saved fails job a b failed s)
    ⊎ (Sends a b [] × (((fault : JobFault) × IsFaultOf words fault × EndsFault fails fault s) ⊎ ((s ≡ 3) × (fails ≡ true))))
