-- The least headings of a script that is accepted with some headings: they are found, and no number of them is greater.
use Rattle.std.proofs.Common.{length, ◌≡◌, ℕ, zero, suc, List, [], ◌∷◌, map, Option, Some, None, Result, Ok, refl, ap, subst, ◌+◌, ◌*◌, ◌≤◌, Err, arith, ◌++◌, sym, ◌∙◌, Bool, true}
use Rattle.std.proofs.Math.Nat.{mul-le-mul_left}
use Rattle.std.proofs.lemmas.Bool.{le-leb}
use Rattle.std.specs.Prelude.{slice_get, take, unwrap_or, IsTrue, ◌||◌, not, nat_le, is_some}
use Rattle.camac_lang.specs.declared.word.WordSize.{WordSize}
use Rattle.camac_lang.specs.Headings.{annotate, annotate_service, unannotated}
use Rattle.camac_lang.specs.Tree.{Move, no_data, into, from, Statement, assign, set_register, single, address_scan, q_stop, q_repeat, put, crate_call, lam_call, choose, choose_else, for_, for_each, while_, locked, call, Block, done, next, Procedure, Script, Service, Item, next_table, next_lam, next_variables, next_procedure, next_service, Lam}
use Rattle.camac_lang.specs.declared.spot.Spot.{Spot}
use Rattle.camac_lang.specs.Scope.{is_well_formed}
use Rattle.camac_lang.proofs.Standing.{procedures_stand, services_stand}
use Rattle.camac_range.specs.Interval.{Interval, only}
use Rattle.camac_range.specs.Number.{greatest}
use Rattle.camac_branch.specs.Plan.{crate_waits, Layout}
use Rattle.camac_model.specs.Fine.{annotated, Bounds}
use Rattle.camac_rules.specs.declared.rule.CheckRule.TheVariants.{KeepFailsAfterTurn, ArgumentOutOfRange}
use Rattle.camac_rules.specs.Fault.{Fault}
use Rattle.camac_rules.specs.declared.case.Case.TheVariants.{Malformed}
use Rattle.camac_rules.specs.Refusal.{go_on, required, given, if_reached}
use Rattle.camac_rules.specs.Known.{Facts, Known, with_range}
use Rattle.camac_rules.specs.Conditions.{split}
use Rattle.camac_rules.specs.Costs.{costs, no_costs, call_costs, Verdict, verdict, unreached, plus, choice_costs, lock_costs, loop_costs}
use Rattle.camac_rules.specs.Cycles.{Context, Around, with_locked, single_rule, alone_in}
use Rattle.camac_rules.specs.Loops.{with_fixed, for_limits, for_head, keeps_hold_after, turns_between, while_head, turn_bound}
use Rattle.camac_rules.specs.Each.{each_from, each_begins, turn_costs, each_turns}
use Rattle.camac_rules.specs.Procedures.{ranges_of, arguments_fit, unfit, at_entry}
use Rattle.camac_rules.specs.Calls.{lock_rule}
use Rattle.camac_rules.specs.Statements.{accept_statement, accept_block}
use Rattle.camac_rules.specs.Accept.{bare, at_start, own_body, within, accept_procedure, accept_service, with_procedure, accept_items, accept}
use Rattle.camac_rules.specs.declared.case.Body.{Body}
use Rattle.camac_rules.specs.declared.case.Body.TheVariants as body
use Rattle.camac_rules.specs.EachLimit.{count_block}
use Rattle.camac_rules.specs.Laws.{EventsFit}
use Rattle.camac_laws.specs.Lower.{AtMost, ProcedureAtMost, CostsAtMost, CostsGrow, ServiceAtMost, HasAtMost, LeastAreLeast, RefusedHaveNone, AnswersAtMost, CheckedHaveLeast}
use Rattle.camac_laws.proofs.Steps.{go_ok, go_is, then_is, within_ok, within_is, event_is, lower_ok}
use Rattle.camac_names.specs.Link.{link_fault, unless, at_lam, served_by, lams_fault, lam_bit, is_on, is_served, service_fault, served_fault, or_else, services_fault}
use Rattle.camac_names.specs.declared.fault.LinkCase.{LinkCase}
use Rattle.camac_names.specs.declared.fault.LinkCase.TheVariants.{Words}
use Rattle.camac_names.specs.declared.fault.LinkFault.{LinkFault}
use Rattle.camac_names.specs.declared.fault.LinkRule.{LinkRule}
use Rattle.camac_names.specs.declared.fault.LinkRule.TheVariants.{StationWithoutBit, StationServedTwice, EventAboveBuffer}
use Rattle.camac_rules.specs.Checked.{CheckedScript}
use Rattle.camac_check.specs.Least.{Finds, Headed, and_then, checked, event_fits, least, least_items, least_unannotated, linked, most, needing, procedure_first, procedure_needs, service_first, service_needing, service_needs}
use Rattle.camac_check.specs.declared.fault.LeastFault.{LeastFault}
use Rattle.camac_check.specs.declared.fault.LeastFault.TheVariants.{OutOfMemory, Link, Check}
use Rattle.camac_check.proofs.Judged.{linked_events, or_else_parts, unless_parts}

-- With lower numbers in the headings of its procedures each statement and block is judged the same, and costs no more.

-- Each cost grows with its parts.

pub itself : (a : Bounds) → AtMost a a
itself a = record { cycles = omega arith; words = omega arith; steps = omega arith }

pub plus_grown : (a b c d : Bounds) → AtMost a b → AtMost c d → AtMost (plus a c) (plus b d)
plus_grown a b c d h g = record {
  cycles = omega (arith, h.cycles, g.cycles);
  words = omega (arith, h.words, g.words);
  steps = omega (arith, h.steps, g.steps);
}

pub choice_grown : (a b c d : Bounds) → AtMost a b → AtMost c d → AtMost (choice_costs a c) (choice_costs b d)
choice_grown a b c d h g = record {
  cycles = omega (arith, h.cycles, g.cycles);
  words = omega (arith, h.words, g.words);
  steps = omega (arith, h.steps, g.steps);
}

pub lock_grown : (waits : ℕ) (a b : Bounds) → AtMost a b → AtMost (lock_costs waits a) (lock_costs waits b)
lock_grown waits a b h = record {
  cycles = omega (arith, h.cycles);
  words = omega (arith, h.words);
  steps = omega (arith, h.steps);
}

pub loop_grown : (turns : ℕ) (a b : Bounds) → AtMost a b → AtMost (loop_costs turns a) (loop_costs turns b)
loop_grown turns a b h =
    let step : 1 + a.steps ≤ 1 + b.steps = omega (arith, h.steps) in
    let steps : turns * (1 + a.steps) ≤ turns * (1 + b.steps) = mul-le-mul_left turns step in
    record {
      cycles = mul-le-mul_left turns h.cycles;
      words = mul-le-mul_left turns h.words;
      steps = omega (arith, steps);
    }

pub turn_grown : (a b : Bounds) → AtMost a b → AtMost (turn_costs a) (turn_costs b)
turn_grown a b h = record { cycles = h.cycles; words = h.words; steps = omega (arith, h.steps) }

pub call_grown : (a b : Bounds) → AtMost a b → AtMost (call_costs a) (call_costs b)
call_grown a b h = record { cycles = h.cycles; words = h.words; steps = omega (arith, h.steps) }

-- a step that has no costs, and one that has
pub go_same : {A : Type 0} (r : Result A Fault) (k l : A → Result Verdict Fault) → ((x : A) → CostsAtMost (k x) (l x)) → CostsAtMost (go_on r k) (go_on r l)
unfolding go_on
go_same (Ok x) k l h = h x
go_same (Err e) k l h = refl

pub go_grown : (q r : Result Verdict Fault) (k l : Verdict → Result Verdict Fault) → CostsAtMost q r
    → ((after : Known) (a b : Bounds) → AtMost a b → CostsAtMost (k (verdict after a)) (l (verdict after b))) → CostsAtMost (go_on q k) (go_on r l)
unfolding go_on
go_grown (Ok v) (Ok w) k l (same, most) h = subst (λ x. CostsAtMost (k v) (l (verdict x w.costs))) same (h v.after v.costs w.costs most)
go_grown (Ok v) (Err g) k l e h = absurd e
go_grown (Err f) (Ok w) k l e h = absurd e
go_grown (Err f) (Err g) k l e h = e

pub if_reached_grown : (known : Option Facts) (k l : Facts → Result Verdict Fault) → ((q : Facts) → CostsAtMost (k q) (l q)) → CostsAtMost (if_reached unreached known k) (if_reached unreached known l)
unfolding if_reached
if_reached_grown None k l h = (refl, itself unreached.costs)
if_reached_grown (Some q) k l h = h q

pub same_grown : (r : Result Verdict Fault) → CostsAtMost r r
same_grown (Ok v) = (refl, itself v.costs)
same_grown (Err f) = refl

-- the turns of an `each`
each_turns_grown : (n x v last : ℕ) (check other : Facts → Result Verdict Fault) → ((q : Facts) → CostsAtMost (check q) (other q)) → (k : Facts)
    → CostsAtMost (each_turns (λ c. c) n x v last check k) (each_turns (λ c. c) n x v last other k)
each_turns_grown zero x v last check other h k = (refl, itself no_costs)
each_turns_grown (suc n) x v last check other h k =
    go_grown (check (with_range x (only v) k)) (other (with_range x (only v) k)) _ _ (h (with_range x (only v) k)) (λ known a b turn.
    go_grown (if_reached unreached known (each_turns (λ c. c) n x (v + 1) last check)) (if_reached unreached known (each_turns (λ c. c) n x (v + 1) last other)) _ _
    (if_reached_grown known (each_turns (λ c. c) n x (v + 1) last check) (each_turns (λ c. c) n x (v + 1) last other) (λ q. each_turns_grown n x (v + 1) last check other h q))
    (λ after c d rest. (refl, plus_grown (turn_costs a) (turn_costs b) c d (turn_grown a b turn) rest)))

pub each_grown : (n x v last : ℕ) (check other : Facts → Result Verdict Fault) → ((q : Facts) → CostsAtMost (check q) (other q)) → (k : Facts)
    → CostsAtMost (each_from (λ c. c) n x v last check k) (each_from (λ c. c) n x v last other k)
each_grown zero x v last check other h k = (refl, itself no_costs)
each_grown (suc n) x v last check other h k = each_turns_grown (suc n) x v last check other h k

-- the same procedure but for the numbers of its heading, which are at most those of the second
pub record IsLower (p q : Procedure) : Type 0 where
  pub same : annotate 0 0 0 p ≡ annotate 0 0 0 q
  pub numbers : AtMost (annotated p) (annotated q)

abbrev pub AreLower : List Procedure → List Procedure → Type 0
AreLower [] [] = Unit {0}
AreLower [] (q ∷ qs) = ⊥
AreLower (p ∷ ps) [] = ⊥
AreLower (p ∷ ps) (q ∷ qs) = IsLower p q × AreLower ps qs

-- these procedures, and costs that are not cut
abbrev pub calling : Context → List Procedure → Context
calling c ps = record { plan = c.plan; tables = c.tables; lams = c.lams; procedures = ps; limit = λ k. k }

-- both there or neither
abbrev BothLower : Option Procedure → Option Procedure → Type 0
BothLower None None = Unit {0}
BothLower None (Some q) = ⊥
BothLower (Some p) None = ⊥
BothLower (Some p) (Some q) = IsLower p q

got : (ps qs : List Procedure) → AreLower ps qs → (i : ℕ) → BothLower (slice_get ps i) (slice_get qs i)
got [] [] h i = tt
got [] (q ∷ qs) h i = absurd h
got (p ∷ ps) [] h i = absurd h
got (p ∷ ps) (q ∷ qs) (first, others) zero = first
got (p ∷ ps) (q ∷ qs) (first, others) (suc i) = got ps qs others i

-- there are as many
pub as_many : (ps qs : List Procedure) → AreLower ps qs → length ps ≡ length qs
as_many [] [] h = refl
as_many [] (q ∷ qs) h = absurd h
as_many (p ∷ ps) [] h = absurd h
as_many (p ∷ ps) (q ∷ qs) (first, others) = ap suc (as_many ps qs others)

-- the end of the rule of a call, by the heading that was found
abbrev called : Spot → ℕ → List Interval → Facts → Option Procedure → Result Verdict Fault
called spot number rs k o =
    go_on (given o ArgumentOutOfRange spot Malformed) (λ procedure.
    go_on (required (arguments_fit rs procedure.parameters) ArgumentOutOfRange spot (unfit number 0 rs procedure.parameters)) (λ _. Ok (verdict (Some k) (call_costs (annotated procedure)))))

called_lower : (spot : Spot) (number : ℕ) (rs : List Interval) (k : Facts) (o o' : Option Procedure) → BothLower o o' → CostsAtMost (called spot number rs k o) (called spot number rs k o')
unfolding go_on given
called_lower spot number rs k None None h = refl
called_lower spot number rs k None (Some q) h = absurd h
called_lower spot number rs k (Some p) None h = absurd h
called_lower spot number rs k (Some p) (Some q) h =
    let parameters : p.parameters ≡ q.parameters = ap (λ (x : Procedure). x.parameters) h.same in
    subst
    (λ xs. CostsAtMost (called spot number rs k (Some p)) (go_on (required (arguments_fit rs xs) ArgumentOutOfRange spot (unfit number 0 rs xs)) (λ _. Ok (verdict (Some k) (call_costs (annotated q))))))
    parameters
    (go_same (required (arguments_fit rs p.parameters) ArgumentOutOfRange spot (unfit number 0 rs p.parameters)) (λ _. Ok (verdict (Some k) (call_costs (annotated p)))) (λ _. Ok (verdict (Some k) (call_costs (annotated q))))
    (λ _. (refl, call_grown (annotated p) (annotated q) h.numbers)))

single_lower : (c : Context) (ps qs : List Procedure) (around : Around) (spot : Spot) (size : WordSize) (f r : ℕ) (m : Move) (k : Facts) → CostsAtMost (single_rule (calling c ps) around spot size f r m k) (single_rule (calling c qs) around spot size f r m k)
single_lower c ps qs around spot size f r no_data k = same_grown (single_rule (calling c ps) around spot size f r no_data k)
single_lower c ps qs around spot size f r (into x) k = same_grown (single_rule (calling c ps) around spot size f r (into x) k)
single_lower c ps qs around spot size f r (from e) k = same_grown (single_rule (calling c ps) around spot size f r (from e) k)

mutual
  statement_lower : (c : Context) (ps qs : List Procedure) → AreLower ps qs → (around : Around) (s : Statement) (k : Facts) → CostsAtMost (accept_statement (calling c ps) around s k) (accept_statement (calling c qs) around s k)
  statement_lower c ps qs h around (assign spot x e) k = same_grown (accept_statement (calling c ps) around (assign spot x e) k)
  statement_lower c ps qs h around (set_register spot r e1 e2 e3) k = same_grown (accept_statement (calling c ps) around (set_register spot r e1 e2 e3) k)
  statement_lower c ps qs h around (single spot size f r m) k = single_lower c ps qs around spot size f r m k
  statement_lower c ps qs h around (put spot e) k = same_grown (accept_statement (calling c ps) around (put spot e) k)
  statement_lower c ps qs h around (crate_call spot which e) k = same_grown (accept_statement (calling c ps) around (crate_call spot which e) k)
  statement_lower c ps qs h around (address_scan spot f r1 r2 max x) k = same_grown (accept_statement (calling c ps) around (address_scan spot f r1 r2 max x) k)
  statement_lower c ps qs h around (q_stop spot f r t max x) k = same_grown (accept_statement (calling c ps) around (q_stop spot f r t max x) k)
  statement_lower c ps qs h around (q_repeat spot f r t max limit x) k = same_grown (accept_statement (calling c ps) around (q_repeat spot f r t max limit x) k)
  statement_lower c ps qs h around (lam_call spot which l) k = same_grown (accept_statement (calling c ps) around (lam_call spot which l) k)
  statement_lower c ps qs h around (choose spot test a) k =
      go_same (split spot test k) _ _ (λ ways.
      go_grown (if_reached unreached ways.holds (accept_block (calling c ps) around a)) (if_reached unreached ways.holds (accept_block (calling c qs) around a)) _ _
      (if_reached_grown ways.holds (accept_block (calling c ps) around a) (accept_block (calling c qs) around a) (λ q. block_lower c ps qs h around a q))
      (λ after x y first. (refl, choice_grown x y no_costs no_costs first (itself no_costs))))
  statement_lower c ps qs h around (choose_else spot test a b) k =
      go_same (split spot test k) _ _ (λ ways.
      go_grown (if_reached unreached ways.holds (accept_block (calling c ps) around a)) (if_reached unreached ways.holds (accept_block (calling c qs) around a)) _ _
      (if_reached_grown ways.holds (accept_block (calling c ps) around a) (accept_block (calling c qs) around a) (λ q. block_lower c ps qs h around a q))
      (λ after x y first.
      go_grown (if_reached unreached ways.fails (accept_block (calling c ps) around b)) (if_reached unreached ways.fails (accept_block (calling c qs) around b)) _ _
      (if_reached_grown ways.fails (accept_block (calling c ps) around b) (accept_block (calling c qs) around b) (λ q. block_lower c ps qs h around b q))
      (λ after' x' y' second. (refl, choice_grown x y x' y' first second))))
  statement_lower c ps qs h around (for_ spot x e1 e2 keeps body) k =
      go_same (for_limits around spot x e1 e2 keeps k) _ _ (λ l.
      go_grown (if_reached unreached (for_head x l keeps body k) (accept_block (calling c ps) (with_fixed x around) body)) (if_reached unreached (for_head x l keeps body k) (accept_block (calling c qs) (with_fixed x around) body)) _ _
      (if_reached_grown (for_head x l keeps body k) (accept_block (calling c ps) (with_fixed x around) body) (accept_block (calling c qs) (with_fixed x around) body) (λ q. block_lower c ps qs h (with_fixed x around) body q))
      (λ after a b turn. go_same (required (keeps_hold_after keeps after) KeepFailsAfterTurn spot _) _ _ (λ _. (refl, loop_grown (turns_between l) a b turn))))
  statement_lower c ps qs h around (for_each spot x v last body) k =
      go_same (each_begins around spot x v last) _ _ (λ turns.
      go_grown (each_from (λ k. k) turns x v last (accept_block (calling c ps) (with_fixed x around) body) k) (each_from (λ k. k) turns x v last (accept_block (calling c qs) (with_fixed x around) body) k) _ _
      (each_grown turns x v last (accept_block (calling c ps) (with_fixed x around) body) (accept_block (calling c qs) (with_fixed x around) body) (λ q. block_lower c ps qs h (with_fixed x around) body q) k)
      (λ after a b all. (refl, plus_grown (costs 0 0 1) (costs 0 0 1) a b (itself (costs 0 0 1)) all)))
  statement_lower c ps qs h around (while_ spot test most m keeps body) k =
      go_same (while_head around.body spot most m keeps body k) _ _ (λ top.
      go_same (split spot test top) _ _ (λ arms.
      go_grown (if_reached unreached arms.holds (accept_block (calling c ps) around body)) (if_reached unreached arms.holds (accept_block (calling c qs) around body)) _ _
      (if_reached_grown arms.holds (accept_block (calling c ps) around body) (accept_block (calling c qs) around body) (λ q. block_lower c ps qs h around body q))
      (λ after a b turn. go_same (required (keeps_hold_after keeps after) KeepFailsAfterTurn spot _) _ _ (λ _. (refl, loop_grown (turn_bound arms.holds most) a b turn)))))
  statement_lower c ps qs h around (locked spot e body) k =
      go_same (lock_rule (calling c ps) around spot e k) _ _ (λ n.
      go_grown (accept_block (calling c ps) (with_locked n around) body k) (accept_block (calling c qs) (with_locked n around) body k) _ _ (block_lower c ps qs h (with_locked n around) body k)
      (λ after a b inner. (refl, lock_grown (unwrap_or (crate_waits c.plan n) 0) a b inner)))
  statement_lower c ps qs h around (call spot p es) k =
      go_same (ranges_of spot es k.ranges) _ _ (λ rs. called_lower spot p rs k (slice_get ps p) (slice_get qs p) (got ps qs h p))

  pub block_lower : (c : Context) (ps qs : List Procedure) → AreLower ps qs → (around : Around) (b : Block) (k : Facts) → CostsAtMost (accept_block (calling c ps) around b k) (accept_block (calling c qs) around b k)
  block_lower c ps qs h around done k = (refl, itself no_costs)
  block_lower c ps qs h around (next s rest) k =
      go_grown (accept_statement (calling c ps) around s k) (accept_statement (calling c qs) around s k) _ _ (statement_lower c ps qs h around s k) (λ known a b first.
      go_grown (if_reached unreached known (accept_block (calling c ps) around rest)) (if_reached unreached known (accept_block (calling c qs) around rest)) _ _
      (if_reached_grown known (accept_block (calling c ps) around rest) (accept_block (calling c qs) around rest) (λ q. block_lower c ps qs h around rest q))
      (λ after a' b' second. (refl, plus_grown a b a' b' first second)))

-- ---- two scripts

take_lower : (ps qs : List Procedure) → AreLower ps qs → (n : ℕ) → AreLower (take n ps) (take n qs)
take_lower [] [] h zero = tt
take_lower [] [] h (suc n) = tt
take_lower [] (q ∷ qs) h n = absurd h
take_lower (p ∷ ps) [] h n = absurd h
take_lower (p ∷ ps) (q ∷ qs) h zero = tt
take_lower (p ∷ ps) (q ∷ qs) (first, others) (suc n) = (first, take_lower ps qs others n)

are_lower : (ps qs : List Procedure) → map (annotate 0 0 0) ps ≡ map (annotate 0 0 0) qs
    → ((i : ℕ) (p q : Procedure) → slice_get ps i ≡ Some p → slice_get qs i ≡ Some q → ProcedureAtMost p q) → AreLower ps qs
are_lower [] [] same most = tt
are_lower [] (q ∷ qs) same most = absurd (cc)
are_lower (p ∷ ps) [] same most = absurd (cc)
are_lower (p ∷ ps) (q ∷ qs) same most =
    let first : annotate 0 0 0 p ≡ annotate 0 0 0 q = cc in
    let others : map (annotate 0 0 0) ps ≡ map (annotate 0 0 0) qs = cc in
    let numbers = most 0 p q refl refl in (
      record { same = first; numbers = record { cycles = numbers.cycles; words = numbers.words; steps = numbers.steps } },
      are_lower ps qs others (λ i x y at at'. most (suc i) x y at at'),
    )

pub costs_grow : CostsGrow
costs_grow plan s t h n around b k =
    let lower = are_lower s.procedures t.procedures (ap (λ (x : Script). x.procedures) h.same) h.procedures in
    subst
    (λ (x : Script). CostsAtMost (accept_block (calling (bare (λ k. k) plan s) (take n s.procedures)) around b k) (accept_block (calling (bare (λ k. k) plan x) (take n t.procedures)) around b k))
    h.same
    (block_lower (bare (λ k. k) plan s) (take n s.procedures) (take n t.procedures) (take_lower s.procedures t.procedures lower n) around b k)

-- The least headings of a script that is accepted with some headings: they are found, and no number of them is greater.

-- With no numbers in its headings a linked script is linked.

abbrev emptied : List Service → List Service
emptied vs = map (annotate_service 0 0) vs

same_served : (lams : List Lam) (l : Lam) (vs : List Service) → is_served lams l (emptied vs) ≡ is_served lams l vs
same_served lams l [] = refl
same_served lams l (v ∷ vs) = ap (λ b. is_on l (slice_get lams v.lam) || b) (same_served lams l vs)

emptied_more : (vs : List Service) (v : Service) → emptied vs ++ annotate_service 0 0 v ∷ [] ≡ emptied (vs ++ v ∷ [])
emptied_more [] v = refl
emptied_more (w ∷ vs) v = ap (λ ws. annotate_service 0 0 w ∷ ws) (emptied_more vs v)

unless_none : (test : Bool) (rule : LinkRule) (spot : Spot) (case : LinkCase) (later : Option LinkFault) → test ≡ true → later ≡ None → unless test rule spot case later ≡ None
unless_none test rule spot case later e n = ap (λ b. unless b rule spot case later) e ∙ n

or_else_none : (o p : Option LinkFault) → o ≡ None → p ≡ None → or_else o p ≡ None
or_else_none o p e n = ap (λ x. or_else x p) e ∙ n

emptied_service : (plan : Layout) (lams : List Lam) (earlier : List Service) (v : Service) (o : Option Lam) → served_fault plan lams earlier v o ≡ None → served_fault plan lams (emptied earlier) (annotate_service 0 0 v) o ≡ None
emptied_service plan lams earlier v None e = absurd (cc)
emptied_service plan lams earlier v (Some l) e =
    let third : Option LinkFault = unless (nat_le v.words plan.buffer) EventAboveBuffer v.spot (Words v.words plan.buffer) None in
    let second : Option LinkFault = unless (not (is_served lams l earlier)) StationServedTwice v.spot (served_by lams l earlier) third in
    let a = unless_parts (is_some (lam_bit plan l)) StationWithoutBit v.spot (at_lam l) second e in
    let b = unless_parts (not (is_served lams l earlier)) StationServedTwice v.spot (served_by lams l earlier) third a.1 in
    unless_none (is_some (lam_bit plan l)) StationWithoutBit v.spot _ _ a.0
    (unless_none (not (is_served lams l (emptied earlier))) StationServedTwice v.spot _ _ (ap not (same_served lams l earlier) ∙ b.0)
    (unless_none (nat_le 0 plan.buffer) EventAboveBuffer v.spot _ None (le-leb 0 plan.buffer (omega arith)) refl))

emptied_services : (plan : Layout) (lams : List Lam) (earlier vs : List Service) → services_fault plan lams earlier vs ≡ None → services_fault plan lams (emptied earlier) (emptied vs) ≡ None
emptied_services plan lams earlier [] e = refl
emptied_services plan lams earlier (v ∷ vs) e =
    let p = or_else_parts (service_fault plan lams earlier v) (services_fault plan lams (earlier ++ v ∷ []) vs) e in
    or_else_none (service_fault plan lams (emptied earlier) (annotate_service 0 0 v)) (services_fault plan lams (emptied earlier ++ annotate_service 0 0 v ∷ []) (emptied vs))
    (emptied_service plan lams earlier v (slice_get lams v.lam) p.0)
    (ap (λ ws. services_fault plan lams ws (emptied vs)) (emptied_more earlier v) ∙ emptied_services plan lams (earlier ++ v ∷ []) vs p.1)

pub emptied_linked : (plan : Layout) (s : Script) → link_fault plan s ≡ None → link_fault plan (unannotated s) ≡ None
emptied_linked plan s e =
    let p = or_else_parts (lams_fault plan s.lams) (services_fault plan s.lams [] s.services) e in
    or_else_none (lams_fault plan s.lams) (services_fault plan s.lams [] (emptied s.services)) p.0 (emptied_services plan s.lams [] s.services p.1)

-- ---- a procedure, and a service

-- numbers that a heading may have
record AreNumbers (p : Procedure) : Type 0 where
  cycles : p.cycles ≤ greatest
  words : p.words ≤ greatest
  steps : p.steps ≤ greatest

record Fits (plan : Layout) (v : Service) : Type 0 where
  cycles : v.cycles ≤ greatest
  words : v.words ≤ greatest
  buffer : v.words ≤ plan.buffer

procedure_least : (c : Context) (low own : List Procedure) → AreLower low own → (p : Procedure) (found : Bounds) → AreNumbers p → accept_procedure (calling c own) p ≡ Ok found
    → (k : Bounds) × (procedure_needs (calling c low) (annotate 0 0 0 p) ≡ Ok k) × AtMost k (annotated p)
procedure_least c low own h p found numbers e =
    let place : Body = own_body (calling c own) in
    let around : Around = alone_in place in
    let judged : Result Verdict Fault = if_reached unreached (at_entry p.parameters) (accept_block (calling c own) around p.body) in
    let lower : Result Verdict Fault = if_reached unreached (at_entry p.parameters) (accept_block (calling c low) around p.body) in
    let counted = go_ok (count_block place p.body 0) (λ _. go_on judged (λ v. within place (annotated p) v.costs p.spot)) found e in
    let v = go_ok judged (λ v. within place (annotated p) v.costs p.spot) found counted.2 in
    let inside = within_ok place (annotated p) v.0.costs found p.spot v.2 in
    let w =
    lower_ok lower judged
    (if_reached_grown (at_entry p.parameters) (accept_block (calling c low) around p.body) (accept_block (calling c own) around p.body)
    (block_lower c low own h around p.body))
    v.0 v.1 in
    let below = w.2 in (
      w.0.costs,
      ap checked
          (ap (λ n. go_on (count_block (body.Procedure n) p.body 0) (λ _. go_on (if_reached unreached (at_entry p.parameters) (accept_block (calling c low) (alone_in (body.Procedure n)) p.body)) (λ v. within (body.Procedure n) most v.costs p.spot))) (as_many low own h)
          ∙ go_is (count_block place p.body 0) counted.0 (λ _. go_on lower (λ v. within place most v.costs p.spot)) counted.1
          ∙ go_is lower w.0 (λ v. within place most v.costs p.spot) w.1
          ∙ within_is place most w.0.costs p.spot (record {
            cycles = omega (arith, below.cycles, inside.cycles, numbers.cycles);
            words = omega (arith, below.words, inside.words, numbers.words);
            steps = omega (arith, below.steps, inside.steps, numbers.steps);
          })),
      record {
        cycles = omega (arith, below.cycles, inside.cycles);
        words = omega (arith, below.words, inside.words);
        steps = omega (arith, below.steps, inside.steps);
      },
    )

service_least : (c : Context) (low own : List Procedure) → AreLower low own → (v : Service) (found : Bounds) → Fits c.plan v → accept_service (calling c own) v ≡ Ok found
    → (k : Bounds) × (service_needs (calling c low) (annotate_service 0 0 v) ≡ Ok k) × AtMost k (costs v.cycles v.words greatest)
service_least c low own h v found fits e =
    let place : Body = body.Service v.lam in
    let around : Around = alone_in place in
    let judged : Result Verdict Fault = accept_block (calling c own) around v.body at_start in
    let lower : Result Verdict Fault = accept_block (calling c low) around v.body at_start in
    let counted = go_ok (count_block place v.body 0) (λ _. go_on judged (λ u. within place (costs v.cycles v.words greatest) u.costs v.spot)) found e in
    let u = go_ok judged (λ u. within place (costs v.cycles v.words greatest) u.costs v.spot) found counted.2 in
    let inside = within_ok place (costs v.cycles v.words greatest) u.0.costs found v.spot u.2 in
    let w = lower_ok lower judged (block_lower c low own h around v.body at_start) u.0 u.1 in
    let below = w.2 in (
      w.0.costs,
      then_is (checked (count_block place v.body 0)) counted.0 (λ _. and_then (checked lower) (λ found. and_then (event_fits place c.plan found.costs.words v.spot) (λ _. checked (within place most found.costs v.spot)))) (ap checked counted.1)
          ∙ then_is (checked lower) w.0 (λ found. and_then (event_fits place c.plan found.costs.words v.spot) (λ _. checked (within place most found.costs v.spot))) (ap checked w.1)
          ∙ then_is (event_fits place c.plan w.0.costs.words v.spot) tt (λ _. checked (within place most w.0.costs v.spot))
          (event_is place c.plan w.0.costs.words v.spot (omega (arith, below.words, inside.words, fits.words)) (omega (arith, below.words, inside.words, fits.buffer)))
          ∙ ap checked
          (within_is place most w.0.costs v.spot (record {
            cycles = omega (arith, below.cycles, inside.cycles, fits.cycles);
            words = omega (arith, below.words, inside.words, fits.words);
            steps = omega (arith, below.steps, inside.steps);
          })),
      record {
        cycles = omega (arith, below.cycles, inside.cycles);
        words = omega (arith, below.words, inside.words);
        steps = omega (arith, below.steps, inside.steps);
      },
    )

-- ---- all of them, in the order of the text

record IsLowerService (v w : Service) : Type 0 where
  same : annotate_service 0 0 v ≡ annotate_service 0 0 w
  numbers : ServiceAtMost v w

abbrev AreLowerServices : List Service → List Service → Type 0
AreLowerServices [] [] = Unit {0}
AreLowerServices [] (w ∷ ws) = ⊥
AreLowerServices (v ∷ vs) [] = ⊥
AreLowerServices (v ∷ vs) (w ∷ ws) = IsLowerService v w × AreLowerServices vs ws

none_are_lower : (ps : List Procedure) → AreLower (map (annotate 0 0 0) ps) ps
none_are_lower [] = tt
none_are_lower (p ∷ ps) = (record { same = refl; numbers = record { cycles = omega arith; words = omega arith; steps = omega arith } }, none_are_lower ps)

no_services_are_lower : (vs : List Service) → AreLowerServices (map (annotate_service 0 0) vs) vs
no_services_are_lower [] = tt
no_services_are_lower (v ∷ vs) = (record { same = refl; numbers = record { cycles = omega arith; words = omega arith } }, no_services_are_lower vs)

one_more : (low own : List Procedure) (p q : Procedure) → AreLower low own → IsLower p q → AreLower (low ++ p ∷ []) (own ++ q ∷ [])
one_more [] [] p q h g = (g, tt)
one_more [] (y ∷ own) p q h g = absurd h
one_more (x ∷ low) [] p q h g = absurd h
one_more (x ∷ low) (y ∷ own) p q (first, others) g = (first, one_more low own p q others g)

-- each element of a list
abbrev Each : {A : Type 0} → (A → Type 0) → List A → Type 0
Each P xs = (i : ℕ) (x : _) → slice_get xs i ≡ Some x → P x

-- headings that were found, and are at most those of these procedures and services
record Lower (found : Result Headed LeastFault) (ps : List Procedure) (vs : List Service) : Type 0 where
  headed : Headed
  is : found ≡ Ok headed
  procedures : AreLower headed.procedures ps
  services : AreLowerServices headed.services vs

items_least : (c : Context) (low own : List Procedure) → AreLower low own → (items : List Item) (ps : List Procedure) (vs : List Service) (ks : List Bounds) → Each AreNumbers ps → Each (Fits c.plan) vs
    → accept_items (calling c own) items ps vs ≡ Ok ks → Lower (least_items (calling c low) items (map (annotate 0 0 0) ps) (map (annotate_service 0 0) vs)) ps vs
items_least c low own h [] ps vs ks numbers fits e = record {
  headed = record { procedures = map (annotate 0 0 0) ps; services = map (annotate_service 0 0) vs };
  is = refl;
  procedures = none_are_lower ps;
  services = no_services_are_lower vs;
}
items_least c low own h (next_table ∷ rest) ps vs ks numbers fits e = items_least c low own h rest ps vs ks numbers fits e
items_least c low own h (next_lam ∷ rest) ps vs ks numbers fits e = items_least c low own h rest ps vs ks numbers fits e
items_least c low own h (next_variables spot n ∷ rest) ps vs ks numbers fits e = items_least c low own h rest ps vs ks numbers fits e
items_least c low own h (next_procedure ∷ rest) [] vs ks numbers fits e = items_least c low own h rest [] vs ks numbers fits e
items_least c low own h (next_procedure ∷ rest) (p ∷ ps) vs ks numbers fits e =
    let x = go_ok (accept_procedure (calling c own) p) (λ _. accept_items (with_procedure p (calling c own)) rest ps vs) ks e in
    let k = procedure_least c low own h p x.0 (numbers 0 p refl) x.1 in
    let lower : IsLower (needing k.0 (annotate 0 0 0 p)) p = record { same = refl; numbers = record { cycles = k.2.cycles; words = k.2.words; steps = k.2.steps } } in
    let all = items_least c (low ++ needing k.0 (annotate 0 0 0 p) ∷ []) (own ++ p ∷ []) (one_more low own (needing k.0 (annotate 0 0 0 p)) p h lower) rest ps vs ks (λ i q at. numbers (suc i) q at) fits x.2 in
    record {
      headed = procedure_first (needing k.0 (annotate 0 0 0 p)) all.headed;
      is =
          then_is (procedure_needs (calling c low) (annotate 0 0 0 p)) k.0 _ k.1
          ∙ then_is (least_items (calling c (low ++ needing k.0 (annotate 0 0 0 p) ∷ [])) rest (map (annotate 0 0 0) ps) (map (annotate_service 0 0) vs)) all.headed _ all.is;
      procedures = (lower, all.procedures);
      services = all.services;
    }
items_least c low own h (next_service ∷ rest) ps [] ks numbers fits e = items_least c low own h rest ps [] ks numbers fits e
items_least c low own h (next_service ∷ rest) ps (v ∷ vs) ks numbers fits e =
    let x = go_ok (accept_service (calling c own) v) (λ first. go_on (accept_items (calling c own) rest ps vs) (λ others. Ok (first ∷ others))) ks e in
    let y = go_ok (accept_items (calling c own) rest ps vs) (λ others. Ok (x.0 ∷ others)) ks x.2 in
    let k = service_least c low own h v x.0 (fits 0 v refl) x.1 in
    let all = items_least c low own h rest ps vs y.0 numbers (λ i w at. fits (suc i) w at) y.1 in
    record {
      headed = service_first (service_needing k.0 (annotate_service 0 0 v)) all.headed;
      is =
          then_is (service_needs (calling c low) (annotate_service 0 0 v)) k.0 _ k.1
          ∙ then_is (least_items (calling c low) rest (map (annotate 0 0 0) ps) (map (annotate_service 0 0) vs)) all.headed _ all.is;
      procedures = all.procedures;
      services = (record { same = refl; numbers = record { cycles = k.2.cycles; words = k.2.words } }, all.services);
    }

-- ---- the script

same_procedures : (ps qs : List Procedure) → AreLower ps qs → map (annotate 0 0 0) ps ≡ map (annotate 0 0 0) qs
same_procedures [] [] h = refl
same_procedures [] (q ∷ qs) h = absurd h
same_procedures (p ∷ ps) [] h = absurd h
same_procedures (p ∷ ps) (q ∷ qs) (first, others) = let e = first.same in let es = same_procedures ps qs others in cc

same_services : (vs ws : List Service) → AreLowerServices vs ws → map (annotate_service 0 0) vs ≡ map (annotate_service 0 0) ws
same_services [] [] h = refl
same_services [] (w ∷ ws) h = absurd h
same_services (v ∷ vs) [] h = absurd h
same_services (v ∷ vs) (w ∷ ws) (first, others) = let e = first.same in let es = same_services vs ws others in cc

procedure_at : (ps qs : List Procedure) → AreLower ps qs → (i : ℕ) (p q : Procedure) → slice_get ps i ≡ Some p → slice_get qs i ≡ Some q → ProcedureAtMost p q
procedure_at [] qs h i p q at at' = absurd (cc)
procedure_at (x ∷ ps) [] h i p q at at' = absurd h
procedure_at (x ∷ ps) (y ∷ qs) (first, others) zero p q at at' =
    let n = first.numbers in
    let a : x ≡ p = cc in
    let b : y ≡ q = cc in
    subst (λ z. ProcedureAtMost z q) a (subst (λ z. ProcedureAtMost x z) b (record { cycles = n.cycles; words = n.words; steps = n.steps }))
procedure_at (x ∷ ps) (y ∷ qs) (first, others) (suc i) p q at at' = procedure_at ps qs others i p q at at'

service_at : (vs ws : List Service) → AreLowerServices vs ws → (i : ℕ) (v w : Service) → slice_get vs i ≡ Some v → slice_get ws i ≡ Some w → ServiceAtMost v w
service_at [] ws h i v w at at' = absurd (cc)
service_at (x ∷ vs) [] h i v w at at' = absurd h
service_at (x ∷ vs) (y ∷ ws) (first, others) zero v w at at' =
    let a : x ≡ v = cc in
    let b : y ≡ w = cc in
    subst (λ z. ServiceAtMost z w) a (subst (λ z. ServiceAtMost x z) b first.numbers)
service_at (x ∷ vs) (y ∷ ws) (first, others) (suc i) v w at at' = service_at vs ws others i v w at at'

fit_at : (plan : Layout) (vs : List Service) → EventsFit plan vs → (i : ℕ) (v : Service) → slice_get vs i ≡ Some v → v.words ≤ plan.buffer
fit_at plan [] h i v at = absurd (cc)
fit_at plan (x ∷ vs) (first, others) zero v at = let a : x ≡ v = cc in subst (λ (z : Service). z.words ≤ plan.buffer) a first
fit_at plan (x ∷ vs) (first, others) (suc i) v at = fit_at plan vs others i v at

script_least : (plan : Layout) (s : Script) (ks : List Bounds) → IsTrue (is_well_formed s) → link_fault plan s ≡ None → accept plan s ≡ Ok ks → (t : Script) × (least plan s ≡ Ok t) × HasAtMost t s
script_least plan s ks formed link e =
    let c : Context = bare (λ k. k) plan s in
    let events = linked_events plan s link in
    let numbers : Each AreNumbers s.procedures = λ i p at. let stands = procedures_stand s formed i p at in record { cycles = stands.cycles; words = stands.words; steps = stands.steps } in
    let fits : Each (Fits plan) s.services = λ i v at. let stands = services_stand s formed i v at in record { cycles = stands.cycles; words = stands.words; buffer = fit_at plan s.services events i v at } in
    let all = items_least c [] [] tt s.order s.procedures s.services ks numbers fits e in
    let t : Script = record (unannotated s) { procedures = all.headed.procedures; services = all.headed.services } in (
      t,
      then_is (linked (link_fault plan (unannotated s))) tt _ (ap linked (emptied_linked plan s link))
          ∙ then_is (least_items (calling c []) s.order (map (annotate 0 0 0) s.procedures) (map (annotate_service 0 0) s.services)) all.headed _ all.is,
      record {
        same =
            ap (λ ps. record (unannotated s) { procedures = ps; services = map (annotate_service 0 0) all.headed.services }) (same_procedures all.headed.procedures s.procedures all.procedures)
            ∙ ap (λ vs. record (unannotated s) { services = vs }) (same_services all.headed.services s.services all.services);
        procedures = procedure_at all.headed.procedures s.procedures all.procedures;
        services = service_at all.headed.services s.services all.services;
      },
    )

pub least_are_least : LeastAreLeast
least_are_least plan script headed ks same formed link e =
    let found = script_least plan headed ks formed link e in
    (found.0, ap (least_unannotated plan) (sym same) ∙ found.1, found.2)

pub refused_have_none : RefusedHaveNone
refused_have_none plan script headed f ks refused same formed link e =
    let found = least_are_least plan script headed ks same formed link e in
    let is = found.1 in
    absurd (cc)

pub checked_have_least : CheckedHaveLeast
checked_have_least l c found formed link judged finds =
    let all = script_least l.plan l.script c.bounds formed link judged.2 in
    go found all.0 all.1 all.2 finds
  where
    go : (found : Result CheckedScript LeastFault) (t : Script) → least l.plan l.script ≡ Ok t → HasAtMost t l.script → Finds (λ (d : CheckedScript). d.script) found (least l.plan l.script) → AnswersAtMost l.script found
    go (Ok d) t is at_most finds =
        let same : t ≡ d.script = cc in
        subst (λ x. HasAtMost x l.script) same at_most
    go (Err OutOfMemory) t is at_most finds = tt
    go (Err (Link rule spot case)) t is at_most finds = absurd (cc)
    go (Err (Check rule spot case)) t is at_most finds = absurd (cc)
