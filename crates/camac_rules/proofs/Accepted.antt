-- Accepted scripts keep the promises of acceptance.
use Rattle.std.proofs.Common.{◌≡◌, ℕ, Bool, List, [], ◌∷◌, Ok, refl, subst, arith}
use Rattle.std.specs.Prelude.{IfOk, IsTrue}
use Rattle.camac_lang.specs.Laws.{inside}
use Rattle.camac_lang.specs.Scope.{is_well_formed}
use Rattle.camac_lang.specs.Tree.{Parameter, Script}
use Rattle.camac_lang.proofs.Standing.{procedures_stand}
use Rattle.camac_branch.specs.Plan.{Layout, IsPlan}
use Rattle.camac_branch.proofs.Allowed.{allowed-in_range}
use Rattle.camac_branch.specs.Branch.{Branch, Answer}
use Rattle.camac_model.specs.State.{State, fresh}
use Rattle.camac_model.specs.Behaviour.{Behaviour, does, ends, stops}
use Rattle.camac_model.specs.Meaning.{entered, context}
use Rattle.camac_model.specs.Fine.{Bounds, IsWithinBounds, IsFine, AreInRanges, annotated}
use Rattle.camac_rules.specs.Accept.{accept}
use Rattle.camac_rules.specs.Known.{Known}
use Rattle.camac_rules.specs.Laws.{AcceptedAreFine, AcceptedProceduresAreFine, AcceptedAreWithin}
use Rattle.camac_rules.proofs.Lockless.{block_lockless}
use Rattle.camac_rules.proofs.Settings.{found_at, AreLockless, are_lockless}
use Rattle.camac_rules.proofs.Services.{services_in, procedures_in, AreFirst, items_accepted, all_fine, all_within}
use Rattle.camac_rules.proofs.Orders.{order_procedures, order_services}
use Rattle.camac_rules.proofs.ParameterNumbers.{AreNumbers, parameters_are_numbers}
use Rattle.camac_rules.proofs.Stores.{Place}
use Rattle.camac_rules.proofs.Sound.{Paid, Sound}
use Rattle.camac_rules.proofs.Routines.{called, AreSmall, RoutineSound}

pub lockless : (script : Script) → IsTrue (is_well_formed script) → AreLockless script.procedures
lockless script formed =
    are_lockless script.procedures (λ j p at.
    let stands = procedures_stand script formed j p at in
    block_lockless (inside script j p) refl p.body 0 _ stands.body)

pub first_accepted : (plan : Layout) (script : Script) (ks : List Bounds) → IsPlan plan → IsTrue (is_well_formed script) → accept plan script ≡ Ok ks → AreFirst plan script (services_in script.order) (procedures_in script.order) [] script.procedures script.services ks
first_accepted plan script ks is formed e =
    subst (λ r. IfOk r (AreFirst plan script (services_in script.order) (procedures_in script.order) [] script.procedures script.services)) e
    (items_accepted plan script (λ at f w h. (allowed-in_range plan is at f w h).1) script.order [] [] script.procedures script.services tt refl (lockless script formed)).holds

pub accepted_fine : AcceptedAreFine
accepted_fine plan script ks is formed e =
    let first = first_accepted plan script ks is formed e in
    let count = first.count in
    let all = order_services script formed in
    all_fine plan script ks script.services first.accepted (omega arith)

pub accepted_within : AcceptedAreWithin
accepted_within plan script ks is formed events e =
    let first = first_accepted plan script ks is formed e in
    let count = first.count in
    let all = order_services script formed in
    all_within plan script ks script.services first.accepted (omega arith) events

pub in_range_small : (vs : List ℕ) (ps : List Parameter) → AreInRanges vs ps → AreNumbers ps → AreSmall vs
in_range_small [] ps h n = tt
in_range_small (v ∷ vs) [] h n = absurd h
in_range_small (v ∷ vs) (p ∷ ps) h n =
    let low = h.1 in
    let high = n.0 in
    (omega arith, in_range_small vs ps h.2 n.1)

-- where a call leaves a branch and flags as they are, and nothing is counted yet
abbrev pub at_call : Branch → Bool → Bool → List Answer → State
at_call b q x answers = record (fresh b answers) { branch = b; q = q; x = x }

called_within : (k : Bounds) (vs : List ℕ) (b : Branch) (q x : Bool) (answers : List Answer) (t : State) → Paid k (entered vs (at_call b q x answers)) t → IsWithinBounds k t
called_within k vs b q x answers t p = record {
  cycles = omega (arith, p.cycles);
  words = omega (arith, p.words);
  steps = omega (arith, p.steps);
  are_words = p.are_words tt;
}

called_fine : (plan : Layout) (around : Place) (after : Known) (k : Bounds) (vs : List ℕ) (b : Branch) (q x : Bool) (answers : List Answer) (o : Behaviour State) → Sound plan around after k (entered vs (at_call b q x answers)) o → IsFine plan k o
called_fine plan around after k vs b q x answers (does p o) h = (h.0, called_fine plan around after k vs b q x answers o h.1)
called_fine plan around after k vs b q x answers (ends t) h = called_within k vs b q x answers t h.paid
called_fine plan around after k vs b q x answers (stops w t) h = (h.of_answers, called_within k vs b q x answers t h.paid)

pub accepted_procedures_fine : AcceptedProceduresAreFine
accepted_procedures_fine plan script ks is formed e j p body at there n le vs inside b q x answers =
    let first = first_accepted plan script ks is formed e in
    let all = first.procedures.all (order_procedures script formed) in
    let found = found_at plan (context plan script).routines script.procedures j p all at in
    let known = found.is in
    let same : found.routine ≡ body = cc in
    let s : State = at_call b q x answers in
    let sound = subst (λ r. RoutineSound plan p r) same found.sound in
    let small = in_range_small vs p.parameters inside (parameters_are_numbers script formed j p at) in
    called_fine plan (called sound.body (λ c. (b c).locked)) sound.after (annotated p) vs b q x answers (body n (entered vs s))
    (sound.each n le (λ c. (b c).locked) vs inside small s (λ c. refl))
