-- What a command does beside moving its data.
use Rattle.std.specs.Prelude.{Bool, true, false}
use Rattle.camac_module.specs.declared.kind.CommandKind.{CommandKind}
use Rattle.camac_module.specs.declared.kind.CommandKind.TheVariants.{Plain, Clearing, Probe}

-- a probe clears nothing
abbrev pub kind_of : (probe clears : Bool) → CommandKind
kind_of true clears = Probe
kind_of false true = Clearing
kind_of false false = Plain

abbrev pub is_probe : CommandKind → Bool
is_probe Plain = false
is_probe Clearing = false
is_probe Probe = true

abbrev pub clears : CommandKind → Bool
clears Plain = false
clears Clearing = true
clears Probe = false

abbrev pub same_kind : CommandKind → CommandKind → Bool
same_kind Plain Plain = true
same_kind Clearing Clearing = true
same_kind Probe Probe = true
same_kind a b = false
