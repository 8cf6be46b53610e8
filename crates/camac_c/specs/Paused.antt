-- What C is told where a run goes on after a pause.
use Rattle.std.specs.Prelude.{◌≡◌, ℕ, length, Bool, true, false, Option, None, Some}
use Rattle.arrayvec.specs.ArrayVec.{ArrayVec}
use Rattle.camac_branch.specs.declared.answer.Overrun.{Overrun}
use Rattle.camac_machine.specs.MachineState.{Left}
use Rattle.camac_machine.specs.Rest.{is_paused}
use Rattle.camac_run.specs.Runner.{KeepsLimit, Resumes, last_words_in}
use Rattle.camac_c.specs.Held.{without}
use Rattle.camac_c.specs.Plain.{only_code}
use Rattle.camac_c.specs.Told.{did_on, while_paused}
use Rattle.camac_c.specs.Width.{KnowsWidth}
use Rattle.camac_c.specs.declared.last.Deed.TheVariants.{Pause}
use Rattle.camac_c.specs.declared.plain.Told.{Told}
use Rattle.camac_c.specs.declared.session.Session.{Session}

-- the crates that were released, and the event; 8 where it pauses again
pub record GoesOn (s after : Session) (told : Told) : Type 0 where
  pub unlocks : ArrayVec ℕ
  pub event : Option Left
  pub resumes : Resumes s.runner unlocks.items event after.runner
  pub keeps : KeepsLimit s.runner after.runner
  pub told_is : told ≡ while_paused (is_paused after.runner.pending) (did_on unlocks.items event (length (last_words_in after.runner)))
  pub last : after.last ≡ record { deed = Pause; used = record s.last.used { unlocks = unlocks; event = event } }
  pub held : after.held.items ≡ without (length unlocks.items) s.held.items
  pub checked : after.checked ≡ s.checked
  pub knows : KnowsWidth after

-- 4 after a wait that was not permitted
abbrev pub code_of : Option Overrun → ℕ
code_of None = 0
code_of (Some o) = 4

-- a run that does not pause stays where it is
abbrev pub GoesOnIf : Bool → Session → Session → Told → Type 0
GoesOnIf true s after told = GoesOn s after told
GoesOnIf false s after told = (after ≡ s) × (told ≡ only_code (code_of s.runner.overrun))

-- all else stays as it is
pub record Limits (most : ℕ) (s after : Session) : Type 0 where
  pub runner : after.runner ≡ record s.runner { limit = most }
  pub checked : after.checked ≡ s.checked
  pub last : after.last ≡ s.last
  pub held : after.held ≡ s.held
  pub width : after.width ≡ s.width
