-- The commands of a crate controller (after type A1 of EUR 4600; the codes and their effects are the project's own).
use Rattle.std.specs.Prelude.{ℕ, List, [], ◌∷◌, Option, ◌&&◌, nat_eq, find, option_map}
use Rattle.camac_crate.specs.declared.command.ControllerOp.{ControllerOp}
use Rattle.camac_crate.specs.declared.command.ControllerOp.TheVariants.{Initialise, Clear, ReadGl, InhibitOff, InhibitOn, TestInhibit, DemandOff, DemandOn, TestDemandOutput, TestDemand}

pub record ControllerCommand : Type 0 where
  pub station : ℕ
  pub sub_address : ℕ
  pub function : ℕ
  pub op : ControllerOp

abbrev pub entry : (station sub_address function : ℕ) → ControllerOp → ControllerCommand
entry n a f op = record { station = n; sub_address = a; function = f; op = op }

abbrev pub controller_table : List ControllerCommand
controller_table =
    entry 28 8 26 Initialise ∷
    entry 28 9 26 Clear ∷
    entry 30 0 0 ReadGl ∷
    entry 30 9 24 InhibitOff ∷
    entry 30 9 26 InhibitOn ∷
    entry 30 9 27 TestInhibit ∷
    entry 30 10 24 DemandOff ∷
    entry 30 10 26 DemandOn ∷
    entry 30 10 27 TestDemandOutput ∷
    entry 30 11 27 TestDemand ∷
    []

-- the controller command that a function makes at a station and sub-address, if it makes one
abbrev pub controller : (station sub_address function : ℕ) → Option ControllerOp
controller n a f =
    option_map (λ c. c.op)
    (find (λ c. nat_eq c.station n && (nat_eq c.sub_address a && nat_eq c.function f)) controller_table)
