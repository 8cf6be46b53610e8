-- Each service of an accepted script makes only the commands of its list.
use Rattle.std.proofs.Common.{◌≡◌, ℕ, ◌+◌, ◌≤◌, zero, suc, List, [], ◌∷◌, ◌++◌, Some, Bool, false, true, refl, sym, subst, ◌∙◌, arith}
use Rattle.std.specs.Prelude.{IfOk, slice_get}
use Rattle.std.proofs.lemmas.Bool.{false≢true}
use Rattle.camac_lang.specs.Tree.{Block, Procedure, Service, Item, next_table, next_lam, next_variables, next_procedure, next_service, Script}
use Rattle.camac_branch.specs.Address.{Address}
use Rattle.camac_branch.specs.Plan.{Layout}
use Rattle.camac_branch.proofs.Allowed.{allowed-in_range}
use Rattle.camac_model.specs.State.{State, fresh}
use Rattle.camac_model.specs.Behaviour.{Action}
use Rattle.camac_model.specs.Fine.{most_turns}
use Rattle.camac_model.specs.Meaning.{context, routines_with, entered, block_meaning}
use Rattle.camac_rules.specs.declared.case.Body.{Body}
use Rattle.camac_rules.specs.declared.case.Body.TheVariants as body
use Rattle.camac_rules.specs.Known.{Known}
use Rattle.camac_rules.specs.Refusal.{if_reached}
use Rattle.camac_rules.specs.Procedures.{at_entry}
use Rattle.camac_rules.specs.Costs.{unreached}
use Rattle.camac_rules.specs.Cycles.{alone_in}
use Rattle.camac_rules.specs.Statements.{accept_block}
use Rattle.camac_rules.specs.EachLimit.{count_block}
use Rattle.camac_rules.specs.Accept.{sections, at_start, own_body, accept_procedure, accept_service, accept_items}
use Rattle.camac_rules.proofs.Allows.{Allows, after_any, allowed, then_allowed, for_each, if_reached_allowed}
use Rattle.camac_rules.proofs.Stores.{Reaches}
use Rattle.camac_rules.proofs.Sound.{SoundFor}
use Rattle.camac_rules.proofs.Actions.{Setting, of, HasWidths, seen}
use Rattle.camac_rules.proofs.Accepted.{lockless}
use Rattle.camac_rules.proofs.Lockless.{block_has_lock}
use Rattle.camac_rules.proofs.Routines.{called, RoutineSound, entry_reached, routine_sound, Serves}
use Rattle.camac_rules.proofs.Services.{outermost, start_inside}
use Rattle.camac_rules.proofs.Settings.{bare_with, setting, Matched, matched_push, serves_own, serves_all, AreLockless}
use Rattle.camac_rules.proofs.Statements.{block_sound}
use Rattle.camac_check.proofs.Capped.{in_code}
use Rattle.camac_check_costs.specs.Bodies.{procedure_costs, service_costs, costs_over}
use Rattle.camac_check_rows.specs.declared.row.Row.{Row}
use Rattle.camac_check_rows.specs.Rows.{block_rows}
use Rattle.camac_commands.specs.Commands.{Command, MakesOnly, made_block, told_over, commands_of, CyclesAreListed}
use Rattle.camac_commands.specs.Surely.{surely_block, surely_of, MakesOne, TellsOf, SureOnesAreMade}
use Rattle.camac_commands.proofs.ByRows.{Over, over_body}
use Rattle.camac_commands.proofs.Actions.{Listed, always, with_result}
use Rattle.camac_commands.proofs.Statements.{Matches, matches_all, matches_push, RoutineLists, both_allowed, block_lists}
use Rattle.camac_commands.proofs.Made.{Makes, RoutineMakes, block_makes}

module _ (plan : Layout) (script : Script) (narrow : HasWidths plan) where
  abbrev turns : ℕ
  turns = 65535

  enough : most_turns ≤ turns
  unfolding most_turns
  enough = omega arith

  abbrev With : List (ℕ → Action) → List Procedure → Setting
  With rs done = setting plan script rs done

  module _ (rs : List (ℕ → Action)) (done : List Procedure) (m : Matched plan rs done) where
    abbrev Here : Setting
    Here = With rs done

    procedure_accepted : (p : Procedure) → block_has_lock p.body ≡ false → Allows (accept_procedure (seen Here) p) (λ found. RoutineSound plan p (λ n. block_meaning (of Here) n p.body))
    procedure_accepted p free =
        let run : ℕ → Action = λ n. block_meaning (of Here) n p.body in
        after_any (count_block (own_body (seen Here)) p.body 0) (λ judged.
        routine_sound plan (own_body (seen Here)) p run (accept_block (seen Here) (alone_in (own_body (seen Here))) p.body) (λ q.
        for_each (λ outside. Unit {0}) (λ outside v. SoundFor plan (called (own_body (seen Here)) outside) (Some q) run v) (λ outside u.
        block_sound Here narrow (serves_own plan script rs done m) (called (own_body (seen Here)) outside) p.body (λ e. absurd (false≢true (sym free ∙ e))) q)))

    procedure_lists : (ls : List (List Command)) → Matches (RoutineLists turns) rs done ls → (i : ℕ) (p : Procedure) → block_has_lock p.body ≡ false
        → Allows (accept_procedure (seen Here) p) (λ found. RoutineLists turns p (made_block ls p.body (procedure_costs (in_code (seen Here)) i p).rows) (λ n. block_meaning (of Here) n p.body))
    procedure_lists ls k i p free =
        let own : Body = own_body (seen Here) in
        let Q : (ℕ → Bool) → Known → Type 0 = λ outside q.
        (rows rest : List Row) → Over rows (block_rows (in_code (seen Here)) (alone_in own) p.body q) rest → (s : State) → Reaches (called own outside) q s → Listed (made_block ls p.body rows) (block_meaning (of Here) turns p.body s) in
        after_any (count_block own p.body 0) (λ judged. then_allowed
        (with_result (if_reached_allowed unreached (at_entry p.parameters) (accept_block (seen Here) (alone_in own) p.body) (λ q v. (outside : ℕ → Bool) → Unit {0} → Q outside q) (λ outside u rows rest o s r. absurd r) (λ q.
        for_each (λ outside. Unit {0}) (λ outside v. Q outside (Some q)) (λ outside u.
        block_lists Here narrow (serves_own plan script rs done m) turns enough ls k (called own outside) p.body (λ e. absurd (false≢true (sym free ∙ e))) q))))
        (λ v h. always _ (λ vs inside small s. (
        let outside : ℕ → Bool = λ j. (s.branch j).locked in
        h.1 outside tt _ [] (over_body (seen Here) (alone_in own) p.body (at_entry p.parameters) v h.0) (entered vs s) (entry_reached own outside p.parameters vs s inside small (λ j. refl))))))

    procedure_makes : (test : Command → Bool) (meant : Address → ℕ → Bool) → TellsOf test meant → (bs : List Bool) → Matches (RoutineMakes meant turns) rs done bs → (i : ℕ) (p : Procedure) → block_has_lock p.body ≡ false
        → Allows (accept_procedure (seen Here) p) (λ found. RoutineMakes meant turns p (surely_block test bs p.body (procedure_costs (in_code (seen Here)) i p).rows) (λ n. block_meaning (of Here) n p.body))
    procedure_makes test meant tells bs k i p free =
        let own : Body = own_body (seen Here) in
        let Q : (ℕ → Bool) → Known → Type 0 = λ outside q.
        (rows rest : List Row) → Over rows (block_rows (in_code (seen Here)) (alone_in own) p.body q) rest → surely_block test bs p.body rows ≡ true → (s : State) → Reaches (called own outside) q s → Makes meant (block_meaning (of Here) turns p.body s) in
        after_any (count_block own p.body 0) (λ judged. then_allowed
        (with_result (if_reached_allowed unreached (at_entry p.parameters) (accept_block (seen Here) (alone_in own) p.body) (λ q v. (outside : ℕ → Bool) → Unit {0} → Q outside q) (λ outside u rows rest o e s r. absurd r) (λ q.
        for_each (λ outside. Unit {0}) (λ outside v. Q outside (Some q)) (λ outside u.
        block_makes Here narrow (serves_own plan script rs done m) turns enough test meant tells bs k (called own outside) p.body (λ e. absurd (false≢true (sym free ∙ e))) q))))
        (λ v h. always _ (λ e vs inside small s. (
        let outside : ℕ → Bool = λ j. (s.branch j).locked in
        h.1 outside tt _ [] (over_body (seen Here) (alone_in own) p.body (at_entry p.parameters) v h.0) e (entered vs s) (entry_reached own outside p.parameters vs s inside small (λ j. refl))))))

  abbrev Whole : List Procedure → Setting
  Whole done = With (context plan script).routines done

  service_lists : (done : List Procedure) → Serves (Whole done) → (ls : List (List Command)) → Matches (RoutineLists turns) (context plan script).routines done ls → (j : ℕ) (v : Service)
      → Allows (accept_service (seen (Whole done)) v) (λ found. MakesOnly plan script v (made_block ls v.body (service_costs (in_code (seen (Whole done))) j v).rows))
  unfolding if_reached
  service_lists done serves ls k j v =
      let own : Body = body.Service v.lam in
      after_any (count_block own v.body 0) (λ judged.
      then_allowed (with_result (block_lists (Whole done) narrow serves turns enough ls k (outermost own) v.body (λ e j. refl) at_start)) (λ found h.
      always _ (λ b answers. h.1 _ [] (over_body (seen (Whole done)) (alone_in own) v.body (Some at_start) found h.0) (fresh b answers) (start_inside own b answers))))

  -- where it is told of a service that it makes one
  abbrev MakesIf : (Address → ℕ → Bool) → Service → Bool → Type 0
  MakesIf meant v b = b ≡ true → MakesOne plan script v meant

  service_makes : (test : Command → Bool) (meant : Address → ℕ → Bool) → TellsOf test meant → (done : List Procedure) → Serves (Whole done) → (bs : List Bool) → Matches (RoutineMakes meant turns) (context plan script).routines done bs
      → (j : ℕ) (v : Service) → Allows (accept_service (seen (Whole done)) v) (λ found. MakesIf meant v (surely_block test bs v.body (service_costs (in_code (seen (Whole done))) j v).rows))
  unfolding if_reached
  service_makes test meant tells done serves bs k j v =
      let own : Body = body.Service v.lam in
      after_any (count_block own v.body 0) (λ judged.
      then_allowed (with_result (block_makes (Whole done) narrow serves turns enough test meant tells bs k (outermost own) v.body (λ e j. refl) at_start)) (λ found h.
      always _ (λ e b answers. h.1 _ [] (over_body (seen (Whole done)) (alone_in own) v.body (Some at_start) found h.0) e (fresh b answers) (start_inside own b answers) false)))

  module _ {A : Type 0} (told : List A → Block → List Row → A) (Tells : Procedure → A → (ℕ → Action) → Type 0) (Says : Service → A → Type 0) where
    -- each of these services by what is told in its place
    abbrev ServicesSay : List Service → List A → Type 0
    ServicesSay vs found = (i : ℕ) (v : Service) (x : A) → slice_get vs i ≡ Some v → slice_get found i ≡ Some x → Says v x

    first_said : (v : Service) (vs : List Service) (x : A) (found : List A) → Says v x → ServicesSay vs found → ServicesSay (v ∷ vs) (x ∷ found)
    first_said v vs x found h others zero w y e f =
        let one : v ≡ w = cc in
        let two : x ≡ y = cc in
        subst (λ u. Says u y) one (subst (λ u. Says v u) two h)
    first_said v vs x found h others (suc i) w y e f = others i w y e f

    module _
        (procedure_told : (rs : List (ℕ → Action)) (done : List Procedure) → Matched plan rs done → (ls : List A) → Matches Tells rs done ls → (i : ℕ) (p : Procedure) → block_has_lock p.body ≡ false
        → Allows (accept_procedure (seen (With rs done)) p) (λ found. Tells p (told ls p.body (procedure_costs (in_code (seen (With rs done))) i p).rows) (λ n. block_meaning (of (With rs done)) n p.body)))
        (service_told : (done : List Procedure) → Serves (Whole done) → (ls : List A) → Matches Tells (context plan script).routines done ls → (j : ℕ) (v : Service)
        → Allows (accept_service (seen (Whole done)) v) (λ found. Says v (told ls v.body (service_costs (in_code (seen (Whole done))) j v).rows))) where
      items_told : (i j : ℕ) (items : List Item) (rs : List (ℕ → Action)) (done ps : List Procedure) (vs : List Service) (ls : List A) → Matched plan rs done → Matches Tells rs done ls
          → routines_with (bare_with plan script rs) ps ≡ (context plan script).routines → AreLockless ps
          → Allows (accept_items (seen (setting plan script rs done)) items ps vs) (λ ks. ServicesSay vs (told_over told ls (sections items ps vs) (costs_over (in_code (seen (setting plan script rs done))) i j (sections items ps vs))))
      items_told i j [] rs done ps vs ls m k e free = allowed (λ n v x at there. absurd (cc))
      items_told i j (next_table ∷ rest) rs done ps vs ls m k e free = items_told i j rest rs done ps vs ls m k e free
      items_told i j (next_lam ∷ rest) rs done ps vs ls m k e free = items_told i j rest rs done ps vs ls m k e free
      items_told i j (next_variables spot n ∷ rest) rs done ps vs ls m k e free = items_told i j rest rs done ps vs ls m k e free
      items_told i j (next_procedure ∷ rest) rs done [] vs ls m k e free = items_told i j rest rs done [] vs ls m k e free
      items_told i j (next_procedure ∷ rest) rs done (p ∷ ps) vs ls m k e free =
          let run : ℕ → Action = λ n. block_meaning (of (setting plan script rs done)) n p.body in
          let l : A = told ls p.body (procedure_costs (in_code (seen (setting plan script rs done))) i p).rows in
          then_allowed (both_allowed (procedure_accepted rs done m p free.0) (procedure_told rs done m ls k i p free.0)) (λ found h.
          items_told (i + 1) j rest (rs ++ run ∷ []) (done ++ p ∷ []) ps vs (ls ++ l ∷ []) (matched_push plan rs done run p m h.1) (matches_push Tells plan rs done ls run p l m k h.2) e free.1)
      items_told i j (next_service ∷ rest) rs done ps [] ls m k e free = items_told i j rest rs done ps [] ls m k e free
      items_told i j (next_service ∷ rest) rs done ps (v ∷ vs) ls m k e free =
          let there : Matches Tells (context plan script).routines done ls = subst (λ l. Matches Tells l done ls) e (matches_all Tells (bare_with plan script rs) ps done ls k) in
          then_allowed (service_told done (serves_all plan script rs done ps m e) ls there j v) (λ one first.
          then_allowed (items_told i (j + 1) rest rs done ps vs ls m k e free) (λ ks others.
          allowed (first_said v vs _ _ first others)))

pub cycles_are_listed : CyclesAreListed
cycles_are_listed plan is script ks formed accepted =
    let narrow : HasWidths plan = λ at f w h. (allowed-in_range plan is at f w h).1 in
    let Tells : Procedure → List Command → (ℕ → Action) → Type 0 = RoutineLists 65535 in
    let Says : Service → List Command → Type 0 = MakesOnly plan script in
    subst (λ r. IfOk r (λ ks. ServicesSay plan script narrow made_block Tells Says script.services (commands_of plan script))) accepted
    (items_told plan script narrow made_block Tells Says (procedure_lists plan script narrow) (service_lists plan script narrow) 0 0 script.order [] [] script.procedures script.services [] tt tt refl (lockless script formed)).holds

pub sure_ones_are_made : SureOnesAreMade
sure_ones_are_made plan is script ks formed accepted test meant tells i v at sure =
    let narrow : HasWidths plan = λ at f w h. (allowed-in_range plan is at f w h).1 in
    let Tells : Procedure → Bool → (ℕ → Action) → Type 0 = RoutineMakes meant 65535 in
    let Says : Service → Bool → Type 0 = MakesIf plan script narrow meant in
    let all : ServicesSay plan script narrow (surely_block test) Tells Says script.services (surely_of test plan script) =
    subst (λ r. IfOk r (λ ks. ServicesSay plan script narrow (surely_block test) Tells Says script.services (surely_of test plan script))) accepted
    (items_told plan script narrow (surely_block test) Tells Says (λ rs done m. procedure_makes plan script narrow rs done m test meant tells) (service_makes plan script narrow test meant tells)
    0 0 script.order [] [] script.procedures script.services [] tt tt refl (lockless script formed)).holds in
    all i v true at sure refl
