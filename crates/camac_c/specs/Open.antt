-- What opening a session answers.
use Rattle.std.specs.Prelude.{◌≡◌, ◌⊎◌, ℕ, List, ◌++◌, Option, Some, None, Result, Ok, Err}
use Rattle.std.specs.Global.{Vec}
use Rattle.camac_rules.specs.Checked.{CheckedScript, IsChecked}
use Rattle.camac_engines.specs.Accepted.{accepted}
use Rattle.camac_engines.specs.Ask.{TellsFound}
use Rattle.camac_engines.specs.declared.ask.Ask.TheVariants.{Check}
use Rattle.camac_engines.specs.declared.fault.ToolFault.{ToolFault}
use Rattle.camac_engines.specs.declared.fault.ToolFault.TheVariants as fault
use Rattle.camac_engines.specs.declared.outcome.Outcome.TheVariants.{Good, Refused}
use Rattle.camac_c.specs.Filled.{Gives, GivesNothing}
use Rattle.camac_c.specs.Talk.{Holds, StartsOn}
use Rattle.camac_c.specs.Texts.{AreLongTexts, found_in}
use Rattle.camac_c.specs.declared.handle.Handle.{Handle}
use Rattle.camac_c.specs.declared.session.Session.{Session}
use Rattle.camac_engines.specs.Plan.{plan_found}

-- the script that the two texts spell
abbrev pub Spells : (plan script : List ℕ) → CheckedScript → Type 0
Spells plan script c = (plan_found plan ≡ Ok c.plan) × (accepted c.plan script ≡ Some (Ok c.script))

-- a session at the beginning of the run of the script that the two texts spell
abbrev pub IsOpened : (plan script : List ℕ) → Option Session → Type 0
IsOpened plan script v = Holds v (λ s. (c : CheckedScript) × Spells plan script c × IsChecked c × StartsOn c s)

-- the text is that of `check`: 0 with a session, 1 without; 3 for want of memory, 7 where a text is too long
abbrev pub OpensNone : (plan script : List ℕ) (after : Option Session) → ℕ → (old new : List ℕ) (size : ℕ) → Type 0
OpensNone plan script after code old new size =
    ((text : List ℕ) × TellsFound Check (found_in (plan_found plan) script) Good text × IsOpened plan script after × (code ≡ 0) × Gives text old new size)
    ⊎ ((text : List ℕ) × TellsFound Check (found_in (plan_found plan) script) Refused text × (after ≡ None) × (code ≡ 1) × Gives text old new size)
    ⊎ ((after ≡ None) × (code ≡ 3) × GivesNothing old new size)
    ⊎ ((after ≡ None) × (code ≡ 7) × AreLongTexts plan script × GivesNothing old new size)

-- a session that is open stays
abbrev pub Opens : Option Session → (plan script : List ℕ) (after : Option Session) → ℕ → (old new : List ℕ) (size : ℕ) → Type 0
Opens None plan script after code old new size = OpensNone plan script after code old new size
Opens (Some s) plan script after code old new size = (after ≡ Some s) × (code ≡ 2) × GivesNothing old new size

-- the same before the text goes out: it was written behind what stood there
abbrev pub OpensInto : (plan script : List ℕ) → (old new : Vec ℕ) → Result (Option Handle) ToolFault → Type 0
OpensInto plan script old new (Ok (Some h)) =
    (text : List ℕ) × TellsFound Check (found_in (plan_found plan) script) Good text × IsOpened plan script h.value × (new.items ≡ old.items ++ text)
OpensInto plan script old new (Ok None) = (text : List ℕ) × TellsFound Check (found_in (plan_found plan) script) Refused text × (new.items ≡ old.items ++ text)
OpensInto plan script old new (Err fault.TooLong) = AreLongTexts plan script
OpensInto plan script old new (Err _) = Unit {0}
