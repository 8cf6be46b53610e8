-- Services that are accepted are fine by their costs, and within their headings; so are procedures.
use Rattle.std.proofs.Common.{◌≡◌, ℕ, ◌+◌, ◌≤◌, false, List, [], ◌∷◌, ◌++◌, length, Some, refl, sym, ◌∙◌, subst, append_assoc, arith}
use Rattle.std.specs.Prelude.{min}
use Rattle.std.proofs.lemmas.Bool.{leb-true, false≢true}
use Rattle.std.proofs.lemmas.List.{append-nil}
use Rattle.camac_lang.specs.Tree.{Procedure, Service, Item, next_table, next_lam, next_variables, next_procedure, next_service, Script}
use Rattle.camac_range.specs.Number.{greatest}
use Rattle.camac_range.specs.Interval.{only, IsWithin}
use Rattle.camac_branch.specs.Branch.{Branch, Answer}
use Rattle.camac_branch.specs.Plan.{Layout}
use Rattle.camac_model.specs.State.{State, fresh}
use Rattle.camac_model.specs.Behaviour.{Behaviour, does, ends, stops, Action}
use Rattle.camac_model.specs.Headline.{AreWithinHeadings}
use Rattle.camac_model.specs.Meaning.{context, routines_with, block_meaning}
use Rattle.camac_model.specs.Fine.{Bounds, IsWithinBounds, IsFine, IsFineService, AreFine}
use Rattle.camac_rules.specs.Known.{Known}
use Rattle.camac_rules.specs.declared.case.Body.{Body}
use Rattle.camac_rules.specs.declared.case.Body.TheVariants as body
use Rattle.camac_rules.specs.Cycles.{alone_in}
use Rattle.camac_rules.specs.Laws.{EventsFit}
use Rattle.camac_rules.specs.Statements.{accept_block}
use Rattle.camac_rules.specs.EachLimit.{count_block}
use Rattle.camac_rules.specs.Accept.{at_start, own_body, accept_procedure, accept_service, accept_items}
use Rattle.camac_rules.proofs.Allows.{after_any, Allows, allowed, then_allowed, required_allowed, for_each, allowed_more}
use Rattle.camac_rules.proofs.Stores.{Place, Inside}
use Rattle.camac_rules.proofs.Sound.{Paid, Sound, SoundFor}
use Rattle.camac_rules.proofs.Actions.{HasWidths, Setting, of, seen}
use Rattle.camac_rules.proofs.Lockless.{block_has_lock}
use Rattle.camac_rules.proofs.Routines.{called, RoutineSound, Serves, routine_sound}
use Rattle.camac_rules.proofs.Statements.{block_sound}
use Rattle.camac_rules.proofs.Settings.{bare_with, setting, Matched, matched_push, serves_own, serves_all, AreLockless}

zero_within : IsWithin (only 0) 0
zero_within = record { low = omega arith; high = omega arith }

-- where a service runs
abbrev pub outermost : Body → Place
outermost body = called body (λ c. false)

-- a service starts inside what is known there
pub start_inside : (body : Body) (b : Branch) (answers : List Answer) → Inside (outermost body) at_start (fresh b answers)
start_inside body b answers = record {
  variables = record { each = λ x. zero_within; small = λ x. omega arith };
  registers = λ r. tt;
  locks = λ c. refl;
}

paid_within : (k : Bounds) (b : Branch) (answers : List Answer) (t : State) → Paid k (fresh b answers) t → IsWithinBounds k t
paid_within k b answers t p = record {
  cycles = omega (arith, p.cycles);
  words = omega (arith, p.words);
  steps = omega (arith, p.steps);
  are_words = p.are_words tt;
}

sound_fine : (plan : Layout) (around : Place) (after : Known) (k : Bounds) (b : Branch) (answers : List Answer) (o : Behaviour State) → Sound plan around after k (fresh b answers) o → IsFine plan k o
sound_fine plan around after k b answers (does p o) h = (h.0, sound_fine plan around after k b answers o h.1)
sound_fine plan around after k b answers (ends t) h = paid_within k b answers t h.paid
sound_fine plan around after k b answers (stops w t) h = (h.of_answers, paid_within k b answers t h.paid)

-- costs within the numbers of a heading
pub record AreCosts (k : Bounds) (v : Service) : Type 0 where
  pub cycles : k.cycles ≤ v.cycles
  pub words : k.words ≤ v.words
  pub steps : k.steps ≤ greatest

pub record IsAccepted (plan : Layout) (script : Script) (v : Service) (k : Bounds) : Type 0 where
  pub fine : IsFineService plan script k v
  pub costs : AreCosts k v

service_accepted : (plan : Layout) (script : Script) → HasWidths plan → (done : List Procedure) → Serves (setting plan script (context plan script).routines done) → (v : Service) → Allows (accept_service (seen (setting plan script (context plan script).routines done)) v) (IsAccepted plan script v)
service_accepted plan script narrow done serves v =
    after_any (count_block (body.Service v.lam) v.body 0) (λ judged. then_allowed (block_sound (setting plan script (context plan script).routines done) narrow serves (outermost (body.Service v.lam)) v.body (λ e c. refl) at_start) (λ found h.
    required_allowed _ v.spot _ (λ words.
    required_allowed _ v.spot _ (λ cycles.
    required_allowed _ v.spot _ (λ steps. allowed (record {
      fine = λ n le b answers. sound_fine plan (outermost (body.Service v.lam)) found.after found.costs b answers (block_meaning (context plan script) n v.body (fresh b answers)) (h.each n le (fresh b answers) (start_inside (body.Service v.lam) b answers));
      costs = record { cycles = leb-true found.costs.cycles v.cycles cycles; words = leb-true found.costs.words v.words words; steps = leb-true found.costs.steps greatest steps };
    }))))))

-- each of these services by the costs in its place, as far as there are costs
abbrev pub AreAccepted : Layout → Script → List Bounds → List Service → Type 0
AreAccepted plan script [] vs = Unit {0}
AreAccepted plan script (k ∷ ks) [] = ⊥
AreAccepted plan script (k ∷ ks) (v ∷ vs) = IsAccepted plan script v k × AreAccepted plan script ks vs

-- how many services these items name
abbrev pub services_in : List Item → ℕ
services_in [] = 0
services_in (next_table ∷ rest) = services_in rest
services_in (next_lam ∷ rest) = services_in rest
services_in (next_variables spot n ∷ rest) = services_in rest
services_in (next_procedure ∷ rest) = services_in rest
services_in (next_service ∷ rest) = services_in rest + 1

-- how many procedures these items name
abbrev pub procedures_in : List Item → ℕ
procedures_in [] = 0
procedures_in (next_table ∷ rest) = procedures_in rest
procedures_in (next_lam ∷ rest) = procedures_in rest
procedures_in (next_variables spot n ∷ rest) = procedures_in rest
procedures_in (next_procedure ∷ rest) = procedures_in rest + 1
procedures_in (next_service ∷ rest) = procedures_in rest

-- these procedures, of which so many are named, stand after those that are done
pub record AreSound (plan : Layout) (script : Script) (n : ℕ) (done ps : List Procedure) : Type 0 where
  pub all : n ≡ length ps → Matched plan (context plan script).routines (done ++ ps)

pub record AreFirst (plan : Layout) (script : Script) (n m : ℕ) (done ps : List Procedure) (vs : List Service) (ks : List Bounds) : Type 0 where
  pub accepted : AreAccepted plan script ks vs
  pub count : length ks ≡ min n (length vs)
  pub procedures : AreSound plan script m done ps

procedure_accepted : (plan : Layout) (script : Script) → HasWidths plan → (rs : List (ℕ → Action)) (done : List Procedure) → Matched plan rs done → (p : Procedure) → block_has_lock p.body ≡ false → Allows (accept_procedure (seen (setting plan script rs done)) p) (λ found. RoutineSound plan p (λ n. block_meaning (of (setting plan script rs done)) n p.body))
procedure_accepted plan script narrow rs done m p free =
    let c : Setting = setting plan script rs done in
    let run : ℕ → Action = λ n. block_meaning (of c) n p.body in
    after_any (count_block (own_body (seen c)) p.body 0) (λ judged. routine_sound plan (own_body (seen c)) p run (accept_block (seen c) (alone_in (own_body (seen c))) p.body) (λ k.
    for_each (λ outside. Unit {0}) (λ outside v. SoundFor plan (called (own_body (seen c)) outside) (Some k) run v) (λ outside u.
    block_sound c narrow (serves_own plan script rs done m) (called (own_body (seen c)) outside) p.body (λ e. absurd (false≢true (sym free ∙ e))) k)))

none_left : (plan : Layout) (script : Script) (rs : List (ℕ → Action)) (done ps : List Procedure) → Matched plan rs done → routines_with (bare_with plan script rs) ps ≡ (context plan script).routines → 0 ≡ length ps → Matched plan (context plan script).routines (done ++ ps)
none_left plan script rs done [] m e n = subst (λ l. Matched plan (context plan script).routines l) (sym (append-nil done)) (subst (λ l. Matched plan l done) e m)
none_left plan script rs done (p ∷ ps) m e n = absurd (omega arith)

module _ (plan : Layout) (script : Script) (narrow : HasWidths plan) where
  pub items_accepted : (items : List Item) (rs : List (ℕ → Action)) (done ps : List Procedure) (vs : List Service) → Matched plan rs done → routines_with (bare_with plan script rs) ps ≡ (context plan script).routines → AreLockless ps → Allows (accept_items (seen (setting plan script rs done)) items ps vs) (AreFirst plan script (services_in items) (procedures_in items) done ps vs)
  items_accepted [] rs done ps vs m e free = allowed (record { accepted = tt; count = omega arith; procedures = record { all = λ n. none_left plan script rs done ps m e n } })
  items_accepted (next_table ∷ rest) rs done ps vs m e free = items_accepted rest rs done ps vs m e free
  items_accepted (next_lam ∷ rest) rs done ps vs m e free = items_accepted rest rs done ps vs m e free
  items_accepted (next_variables spot n ∷ rest) rs done ps vs m e free = items_accepted rest rs done ps vs m e free
  items_accepted (next_procedure ∷ rest) rs done [] vs m e free =
      allowed_more (items_accepted rest rs done [] vs m e free) (λ ks h.
      record { accepted = h.accepted; count = h.count; procedures = record { all = λ n. absurd (omega arith) } })
  items_accepted (next_procedure ∷ rest) rs done (p ∷ ps) vs m e free =
      then_allowed (procedure_accepted plan script narrow rs done m p free.0) (λ found sound.
      let run : ℕ → Action = λ n. block_meaning (of (setting plan script rs done)) n p.body in
      allowed_more (items_accepted rest (rs ++ run ∷ []) (done ++ p ∷ []) ps vs (matched_push plan rs done run p m sound) e free.1) (λ ks h.
      record {
        accepted = h.accepted;
        count = h.count;
        procedures = record { all = λ n. subst (λ l. Matched plan (context plan script).routines l) (append_assoc done (p ∷ []) ps) (h.procedures.all (omega arith)) };
      }))
  items_accepted (next_service ∷ rest) rs done ps [] m e free =
      allowed_more (items_accepted rest rs done ps [] m e free) (λ ks h.
      record { accepted = h.accepted; count = let c = h.count in omega arith; procedures = h.procedures })
  items_accepted (next_service ∷ rest) rs done ps (v ∷ vs) m e free =
      then_allowed (service_accepted plan script narrow done (serves_all plan script rs done ps m e) v) (λ k first.
      then_allowed (items_accepted rest rs done ps vs m e free) (λ ks others.
      allowed (record { accepted = (first, others.accepted); count = let c = others.count in omega arith; procedures = others.procedures })))

pub all_fine : (plan : Layout) (script : Script) (ks : List Bounds) (vs : List Service) → AreAccepted plan script ks vs → length ks ≡ length vs → AreFine plan script ks vs
all_fine plan script [] [] h e = tt
all_fine plan script [] (v ∷ vs) h e = absurd (omega arith)
all_fine plan script (k ∷ ks) [] h e = absurd (omega arith)
all_fine plan script (k ∷ ks) (v ∷ vs) h e = (h.0.fine, all_fine plan script ks vs h.1 (omega arith))

pub all_within : (plan : Layout) (script : Script) (ks : List Bounds) (vs : List Service) → AreAccepted plan script ks vs → length ks ≡ length vs → EventsFit plan vs → AreWithinHeadings plan ks vs
all_within plan script [] [] h e f = tt
all_within plan script [] (v ∷ vs) h e f = absurd (omega arith)
all_within plan script (k ∷ ks) [] h e f = absurd (omega arith)
all_within plan script (k ∷ ks) (v ∷ vs) h e f =
    let c = h.0.costs in
    (record { cycles = c.cycles; words = c.words; buffer = f.0; steps = c.steps }, all_within plan script ks vs h.1 (omega arith) f.1)
