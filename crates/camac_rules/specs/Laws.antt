-- What acceptance promises.
use Rattle.std.specs.Prelude.{◌≡◌, ◌≤◌, List, [], ◌∷◌, Ok, IsTrue}
use Rattle.camac_lang.specs.Scope.{is_well_formed}
use Rattle.camac_lang.specs.Tree.{Service, Script}
use Rattle.camac_branch.specs.Plan.{Layout, IsPlan}
use Rattle.camac_model.specs.Fine.{Bounds, AreFineServices, AreFineProcedures}
use Rattle.camac_model.specs.Headline.{WithinHeadings}
use Rattle.camac_rules.specs.Accept.{accept}

-- Each service of an accepted script is fine by its costs: whatever the branch answers, each cycle is safe, it is neither wrong nor in a
-- loop without end, and at each moment it has cost no more.
abbrev pub AcceptedAreFine : Type 0
AcceptedAreFine =
    (plan : Layout) (script : Script) (ks : List Bounds) → IsPlan plan → IsTrue (is_well_formed script)
    → accept plan script ≡ Ok ks → AreFineServices plan script ks

-- Each procedure of an accepted script is fine by its heading: on all arguments in their ranges, whatever the branch is like, its locks
-- too, and answers.
abbrev pub AcceptedProceduresAreFine : Type 0
AcceptedProceduresAreFine =
    (plan : Layout) (script : Script) (ks : List Bounds) → IsPlan plan → IsTrue (is_well_formed script)
    → accept plan script ≡ Ok ks → AreFineProcedures plan script

-- each event of a heading fits the plan's buffer, as linking tests it
abbrev pub EventsFit : Layout → List Service → Type 0
EventsFit plan [] = Unit {0}
EventsFit plan (v ∷ vs) = (v.words ≤ plan.buffer) × EventsFit plan vs

-- Its costs are within its heading.
abbrev pub AcceptedAreWithin : Type 0
AcceptedAreWithin =
    (plan : Layout) (script : Script) (ks : List Bounds) → IsPlan plan → IsTrue (is_well_formed script)
    → EventsFit plan script.services → accept plan script ≡ Ok ks → WithinHeadings plan script ks
