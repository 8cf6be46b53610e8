-- The crate calls and LAM calls: where each goes, and its function (codes and effects own, after type A1 of EUR 4600).
use Rattle.std.specs.Prelude.{ℕ, ◌≤◌, ◌<◌}
use Rattle.camac_func.specs.declared.data.DataMove.{DataMove}
use Rattle.camac_lang.specs.declared.word.CrateCall.{CrateCall}
use Rattle.camac_lang.specs.declared.word.CrateCall.TheVariants.{Initialise, Clear, InhibitOn, InhibitOff, TestInhibit, DemandOn, DemandOff, TestDemandOutput, TestDemand}
use Rattle.camac_lang.specs.declared.word.LamCall as lam_word
use Rattle.camac_branch.specs.Address.{Address, address}
use Rattle.camac_branch.specs.declared.answer.Command.{Command}

abbrev pub crate_address : CrateCall → ℕ → Address
crate_address Initialise c = address c 28 8
crate_address Clear c = address c 28 9
crate_address InhibitOn c = address c 30 9
crate_address InhibitOff c = address c 30 9
crate_address TestInhibit c = address c 30 9
crate_address DemandOn c = address c 30 10
crate_address DemandOff c = address c 30 10
crate_address TestDemandOutput c = address c 30 10
crate_address TestDemand c = address c 30 11

abbrev pub crate_function : CrateCall → ℕ
crate_function Initialise = 26
crate_function Clear = 26
crate_function InhibitOn = 26
crate_function InhibitOff = 24
crate_function TestInhibit = 27
crate_function DemandOn = 26
crate_function DemandOff = 24
crate_function TestDemandOutput = 27
crate_function TestDemand = 27

-- at the LAM's address
abbrev pub lam_function : lam_word.LamCall → ℕ
lam_function lam_word.TheVariants.Enable = 26
lam_function lam_word.TheVariants.Disable = 24
lam_function lam_word.TheVariants.Clear = 10
lam_function lam_word.TheVariants.Test = 8

-- an address in numbers that there are
pub record IsOnBranch (at : Address) : Type 0 where
  pub crate_from_1 : 1 ≤ at.crate_no
  pub crate_to_7 : at.crate_no ≤ 7
  pub station : at.station < 32
  pub sub_address : at.sub_address < 16

abbrev pub command_at : Address → (function : ℕ) → DataMove → Command
command_at at f d = record { c = at.crate_no; n = at.station; a = at.sub_address; f = f; mv = d }
