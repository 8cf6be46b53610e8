-- Numbers of headings that are at most those of others.
use Rattle.std.specs.Prelude.{◌≡◌, ℕ, ◌≤◌, Some, slice_get, Result, Ok, Err, List, None, IsTrue}
use Rattle.camac_lang.specs.Headings.{unannotated}
use Rattle.camac_lang.specs.Tree.{Procedure, Service, Script, Block}
use Rattle.camac_model.specs.Fine.{Bounds}
use Rattle.camac_branch.specs.Plan.{Layout}
use Rattle.camac_rules.specs.Fault.{Fault}
use Rattle.camac_rules.specs.Known.{Facts}
use Rattle.camac_rules.specs.Costs.{Verdict}
use Rattle.camac_rules.specs.Cycles.{Around}
use Rattle.camac_rules.specs.Statements.{accept_block}
use Rattle.camac_check.specs.Least.{after_procedures, Finds, least}
use Rattle.camac_lang.specs.Scope.{is_well_formed}
use Rattle.camac_names.specs.Link.{link_fault}
use Rattle.camac_names.specs.Linked.{LinkedScript, IsLinked}
use Rattle.camac_rules.specs.Accept.{accept}
use Rattle.camac_rules.specs.Checked.{CheckedScript}
use Rattle.camac_check.specs.Judges.{Judges}
use Rattle.camac_check.specs.declared.fault.LeastFault.{LeastFault}
use Rattle.camac_check.specs.declared.fault.LeastFault.TheVariants.{OutOfMemory, Link, Check}

-- each number at most that in its place
pub record AtMost (a b : Bounds) : Type 0 where
  pub cycles : a.cycles ≤ b.cycles
  pub words : a.words ≤ b.words
  pub steps : a.steps ≤ b.steps

pub record ProcedureAtMost (p q : Procedure) : Type 0 where
  pub cycles : p.cycles ≤ q.cycles
  pub words : p.words ≤ q.words
  pub steps : p.steps ≤ q.steps

pub record ServiceAtMost (v w : Service) : Type 0 where
  pub cycles : v.cycles ≤ w.cycles
  pub words : v.words ≤ w.words

-- The two scripts differ in the numbers of their headings alone, and each of the first is at most that of the second.
pub record HasAtMost (s t : Script) : Type 0 where
  pub same : unannotated s ≡ unannotated t
  pub procedures :
      (i : ℕ) (p q : Procedure) → slice_get s.procedures i ≡ Some p → slice_get t.procedures i ≡ Some q → ProcedureAtMost p q
  pub services :
      (i : ℕ) (v w : Service) → slice_get s.services i ≡ Some v → slice_get t.services i ≡ Some w → ServiceAtMost v w

-- Costs grow with the numbers of the headings.

-- the same refusal; or the same is known after it, and it costs at most as much
abbrev pub CostsAtMost : Result Verdict Fault → Result Verdict Fault → Type 0
CostsAtMost (Ok v) (Ok w) = (v.after ≡ w.after) × AtMost v.costs w.costs
CostsAtMost (Ok v) (Err g) = ⊥
CostsAtMost (Err f) (Ok w) = ⊥
CostsAtMost (Err f) (Err g) = f ≡ g

-- Where no number of a heading is above that of the other script, a block after the same procedures costs at most as much. All else that is
-- found of it is the same.
abbrev pub CostsGrow : Type 0
CostsGrow =
    (plan : Layout) (s t : Script) → HasAtMost s t → (n : ℕ) (around : Around) (b : Block) (k : Facts)
    → CostsAtMost (accept_block (after_procedures plan s n) around b k) (accept_block (after_procedures plan t n) around b k)

-- The least headings of a script are there wherever some headings are accepted, and no number of them is greater.

-- Where a script is linked and accepted with some headings, whatever their numbers, its least headings are there, and no number of them is
-- greater.
abbrev pub LeastAreLeast : Type 0
LeastAreLeast =
    (plan : Layout) (script headed : Script) (ks : List Bounds) → unannotated headed ≡ unannotated script
    → IsTrue (is_well_formed headed) → link_fault plan headed ≡ None → accept plan headed ≡ Ok ks
    → (t : Script) × (least plan script ≡ Ok t) × HasAtMost t headed

-- Where there are no least headings, no numbers in the headings make the script linked and accepted.
abbrev pub RefusedHaveNone : Type 0
RefusedHaveNone =
    (plan : Layout) (script headed : Script) (e : LeastFault) (ks : List Bounds) → least plan script ≡ Err e
    → unannotated headed ≡ unannotated script → IsTrue (is_well_formed headed) → link_fault plan headed ≡ None → accept plan headed ≡ Ok ks → ⊥

-- headings that are at most those of the script, unless memory ran out
abbrev pub AnswersAtMost : Script → Result CheckedScript LeastFault → Type 0
AnswersAtMost s (Ok c) = HasAtMost c.script s
AnswersAtMost s (Err OutOfMemory) = Unit {0}
AnswersAtMost s (Err (Link rule spot case)) = ⊥
AnswersAtMost s (Err (Check rule spot case)) = ⊥

-- Of a linked script that `check` accepts, the call `least` answers headings that are at most its own, unless memory ran out.
abbrev pub CheckedHaveLeast : Type 0
CheckedHaveLeast =
    (l : LinkedScript) (c : CheckedScript) (found : Result CheckedScript LeastFault) → IsTrue (is_well_formed l.script) → IsLinked l
    → Judges l (Ok c) → Finds (λ d. d.script) found (least l.plan l.script) → AnswersAtMost l.script found
