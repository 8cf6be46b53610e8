-- How wide the register is that an operation reads, as the plan declares it.
use Rattle.std.specs.Prelude.{◌≡◌, ℕ, Option, None, Some}
use Rattle.camac_branch.specs.Allowed.{width}
use Rattle.camac_branch.specs.Plan.{Layout}
use Rattle.camac_machine.specs.Rest.{address_of}
use Rattle.camac_run.specs.Operation.{Wants}
use Rattle.camac_run.specs.declared.progress.Wanted.{Wanted}
use Rattle.camac_run.specs.declared.progress.Wanted.TheVariants.{Demand, Cycle, Lock}
use Rattle.camac_c.specs.Told.{read_in}
use Rattle.camac_c.specs.declared.session.Session.{Session}

-- a register of a controller has 24 bits; 0 where none is read
abbrev pub width_read : Layout → Wanted → ℕ
width_read plan Demand = 0
width_read plan (Cycle k) = read_in k.mv (width plan (address_of k) k.f)
width_read plan (Lock c) = 0

abbrev pub width_wanted : Layout → Option Wanted → ℕ
width_wanted plan None = 0
width_wanted plan (Some o) = width_read plan o

-- the session has the width of what the run wants next
pub record KnowsWidth (s : Session) : Type 0 where
  pub wanted : Option Wanted
  pub wants : Wants s.runner wanted
  pub width : s.width ≡ width_wanted s.checked.now.plan wanted
