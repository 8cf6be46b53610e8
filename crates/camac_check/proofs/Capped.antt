-- Costs that are cut at 64 bits: they are judged as the costs themselves, and so is what a body needs.
use Rattle.std.proofs.Common.{◌≡◌, ℕ, ◌+◌, ◌-◌, ◌*◌, ◌^◌, zero, suc, ◌<◌, ◌≤◌, Bool, true, false, Option, Some, None, Result, Ok, Err, refl, sym, ap, ◌∙◌, ⊎_elim, lit<, arith}
use Rattle.std.proofs.lemmas.Bool.{leb-true, lt-leb, le-leb, cases_lt}
use Rattle.std.specs.Prelude.{◌&&◌, min, nat_lt, nat_le, slice_get, unwrap_or, if◌then◌else◌}
use Rattle.camac_func.specs.Class.{class_of}
use Rattle.camac_func.specs.declared.code.FunctionClass.TheVariants.{Read, Write, Control}
use Rattle.camac_lang.specs.declared.word.WordSize.{WordSize}
use Rattle.camac_lang.specs.Tree.{Expression, Move, no_data, into, from, Statement, assign, set_register, single, address_scan, q_stop, q_repeat, put, crate_call, lam_call, choose, choose_else, for_, for_each, while_, locked, call, Block, done, next, Procedure, Service}
use Rattle.camac_lang.specs.declared.spot.Spot.{Spot}
use Rattle.camac_esone.specs.Calls.{lam_function}
use Rattle.camac_branch.specs.Plan.{crate_waits, Layout}
use Rattle.camac_model.specs.Fine.{Bounds, annotated}
use Rattle.camac_model.specs.Meaning.{fits_size}
use Rattle.camac_range.specs.Number.{greatest}
use Rattle.camac_rules.specs.declared.case.Case.{Case}
use Rattle.camac_rules.specs.declared.case.Case.TheVariants.{Budget}
use Rattle.camac_rules.specs.Cases.{budget}
use Rattle.camac_rules.specs.declared.case.Body.{Body}
use Rattle.camac_rules.specs.declared.case.Body.TheVariants as body
use Rattle.camac_rules.specs.declared.rule.CheckRule.{CheckRule}
use Rattle.camac_rules.specs.declared.rule.CheckRule.TheVariants.{StationNotInstalled, CommandNotDeclared, ScanCratesDiffer, WrongDirection, ValueTooWide, RegisterUnset, LoopVariableAssigned, CrateUnfit, WordTooWide, KeepFailsAfterTurn, TooManyWords, TooManyCycles, TooManySteps, ArgumentOutOfRange}
use Rattle.camac_rules.specs.Fault.{Fault, broken}
use Rattle.camac_rules.specs.Refusal.{go_on, required, given, if_reached}
use Rattle.camac_rules.specs.Known.{region_at, Facts}
use Rattle.camac_rules.specs.Joined.{join}
use Rattle.camac_rules.specs.Expressions.{range_of}
use Rattle.camac_rules.specs.Conditions.{split}
use Rattle.camac_rules.specs.Costs.{costs, no_costs, plus, choice_costs, lock_costs, loop_costs, Verdict, verdict, unreached}
use Rattle.camac_rules.specs.Capped.{capped}
use Rattle.camac_rules.specs.Addresses.{command_widths}
use Rattle.camac_rules.specs.Cycles.{Context, Around, alone_in, with_locked, may_write, same_class, single_rule}
use Rattle.camac_rules.specs.Loops.{with_fixed, for_limits, for_head, for_after, keeps_hold_after, turns_between, while_head, turn_bound}
use Rattle.camac_rules.specs.Procedures.{ranges_of, arguments_fit, at_entry}
use Rattle.camac_rules.specs.Transfers.{is_one_crate, has_sub_addresses, scan_rule, block_region}
use Rattle.camac_rules.specs.Windows.{window_of, is_installed, is_declared}
use Rattle.camac_rules.specs.Calls.{is_crate, lam_region, lock_rule}
use Rattle.camac_rules.specs.Statements.{greatest_word, accept_statement, accept_block}
use Rattle.camac_rules.specs.Each.{each_from, each_begins}
use Rattle.camac_rules.specs.EachLimit.{count_block}
use Rattle.camac_rules.specs.Accept.{at_start, own_body, within, accept_procedure, accept_service}
use Rattle.camac_rules.proofs.EachCosts.{each_cut}
use Rattle.camac_check_loops.proofs.Counts.{scaled}
use Rattle.camac_check_simple.specs.declared.context.Context as code
use Rattle.camac_check_simple.specs.Gives.{by_code, by_rules}
use Rattle.camac_names.specs.declared.fault.LinkCase.TheVariants.{Words}
use Rattle.camac_names.specs.declared.fault.LinkRule.TheVariants.{EventAboveBuffer}
use Rattle.camac_check.specs.declared.fault.LeastFault.{LeastFault}
use Rattle.camac_check.specs.declared.fault.LeastFault.TheVariants as least
use Rattle.camac_check.specs.Least.{and_then, checked, event_fits, most, service_needs}
pub use Rattle.camac_rules.proofs.EachCosts.{cut, cut_all}

-- Costs that are cut at 64 bits are judged as the costs themselves.

-- these costs stay at the greatest number of 64 bits
abbrev pub in_code : Context → Context
in_code c = record c { limit = capped }

-- these are of any size
abbrev pub in_rules : Context → Context
in_rules c = record c { limit = λ k. k }

-- a step that has no costs, and one that has
go_same : {A : Type 0} (r : Result A Fault) (k l : A → Result Verdict Fault) → ((x : A) → k x ≡ cut_all (l x)) → go_on r k ≡ cut_all (go_on r l)
unfolding go_on
go_same (Ok x) k l h = h x
go_same (Err e) k l h = refl

go_cut : (q r : Result Verdict Fault) (k l : Verdict → Result Verdict Fault) → q ≡ cut_all r → ((v : Verdict) → k (cut v) ≡ cut_all (l v)) → go_on q k ≡ cut_all (go_on r l)
unfolding go_on
go_cut q (Ok v) k l e h = ap (λ x. go_on x k) e ∙ h v
go_cut q (Err f) k l e h = ap (λ x. go_on x k) e

pub if_reached_cut : (known : Option Facts) (k l : Facts → Result Verdict Fault) → ((q : Facts) → k q ≡ cut_all (l q)) → if_reached unreached known k ≡ cut_all (if_reached unreached known l)
unfolding if_reached
if_reached_cut None k l h = refl
if_reached_cut (Some q) k l h = h q

same_costs : (a b c d e f : ℕ) → a ≡ d → b ≡ e → c ≡ f → costs a b c ≡ costs d e f
same_costs a b c d e f p q r = cc

plus_cut : (a b : Bounds) → capped (plus (capped a) (capped b)) ≡ capped (plus a b)
plus_cut a b = same_costs _ _ _ _ _ _ (omega arith) (omega arith) (omega arith)

choice_cut : (a b : Bounds) → capped (choice_costs (capped a) (capped b)) ≡ capped (choice_costs a b)
choice_cut a b = same_costs _ _ _ _ _ _ (omega arith) (omega arith) (omega arith)

lock_cut : (w : ℕ) (a : Bounds) → capped (lock_costs w (capped a)) ≡ capped (lock_costs w a)
lock_cut w a = same_costs _ _ _ _ _ _ (omega arith) (omega arith) (omega arith)

loop_cut : (t : ℕ) (a : Bounds) → capped (loop_costs t (capped a)) ≡ capped (loop_costs t a)
loop_cut t a = same_costs _ _ _ _ _ _ (scaled t a.cycles (2 ^ 64 - 1)) (scaled t a.words (2 ^ 64 - 1)) (steps_scaled t a.steps (2 ^ 64 - 1))
  where
    steps_scaled : (t s k : ℕ) → min (1 + t * (1 + min s k)) k ≡ min (1 + t * (1 + s)) k
    steps_scaled t s k =
        let inner : min (1 + min s k) k ≡ min (1 + s) k = omega arith in
        let a = scaled t (1 + min s k) k in
        let b = scaled t (1 + s) k in
        let c = ap (λ m. min (t * m) k) inner in
        omega arith

single_cut : (context : Context) (around : Around) (spot : Spot) (size : WordSize) (f r : ℕ) (m : Move) (k : Facts) → single_rule (in_code context) around spot size f r m k ≡ cut_all (single_rule (in_rules context) around spot size f r m k)
single_cut context around spot size f r no_data k =
    go_same (given (region_at k.registers r) RegisterUnset spot _) _ _ (λ g.
    go_same (command_widths context.plan spot f g) _ _ (λ w.
    go_same (required (same_class Control (class_of f)) WrongDirection spot _) _ _ (λ _. refl)))
single_cut context around spot size f r (into x) k =
    go_same (required (may_write around x) LoopVariableAssigned spot _) _ _ (λ _.
    go_same (given (region_at k.registers r) RegisterUnset spot _) _ _ (λ g.
    go_same (command_widths context.plan spot f g) _ _ (λ w.
    go_same (required (same_class Read (class_of f)) WrongDirection spot _) _ _ (λ _. refl))))
single_cut context around spot size f r (from e) k =
    go_same (range_of spot e k.ranges) _ _ (λ v.
    go_same (given (region_at k.registers r) RegisterUnset spot _) _ _ (λ g.
    go_same (command_widths context.plan spot f g) _ _ (λ w.
    go_same (required (same_class Write (class_of f)) WrongDirection spot _) _ _ (λ _.
    go_same (required (nat_lt v.hi (2 ^ w.lo) && fits_size size v.hi) ValueTooWide spot _) _ _ (λ _. refl)))))

scan_cut : (context : Context) (around : Around) (spot : Spot) (f r1 r2 : ℕ) (e : Expression) (x : ℕ) (k : Facts) → scan_rule (in_code context) around spot f r1 r2 e x k ≡ cut_all (scan_rule (in_rules context) around spot f r1 r2 e x k)
scan_cut context around spot f r1 r2 e x k =
    go_same (range_of spot e k.ranges) _ _ (λ most.
    go_same (required (may_write around x) LoopVariableAssigned spot _) _ _ (λ _.
    go_same (given (region_at k.registers r1) RegisterUnset spot _) _ _ (λ g.
    go_same (given (region_at k.registers r2) RegisterUnset spot _) _ _ (λ h.
    go_same (required (is_one_crate g h) ScanCratesDiffer spot _) _ _ (λ _.
    go_same (required (is_installed context.plan (window_of g h)) StationNotInstalled spot _) _ _ (λ _.
    go_same (required (has_sub_addresses g && (has_sub_addresses h && is_declared context.plan f (window_of g h))) CommandNotDeclared spot _) _ _ (λ _.
    go_same (required (same_class Read (class_of f)) WrongDirection spot _) _ _ (λ _. refl))))))))

step_cut : (a : Bounds) → capped (plus (costs 0 0 1) (capped a)) ≡ capped (plus (costs 0 0 1) a)
step_cut a = same_costs _ _ _ _ _ _ (omega arith) (omega arith) (omega arith)

from_cut : (n x v last : ℕ) (check rule : Facts → Result Verdict Fault) (k : Facts) → ((q : Facts) → check q ≡ cut_all (rule q)) → each_from capped n x v last check k ≡ cut_all (each_from (λ c. c) n x v last rule k)
from_cut zero x v last check rule k h = refl
from_cut (suc n) x v last check rule k h = each_cut (suc n) x v last check rule h k

mutual
  pub statement_cut : (context : Context) (around : Around) (s : Statement) (k : Facts) → accept_statement (in_code context) around s k ≡ cut_all (accept_statement (in_rules context) around s k)
  statement_cut context around (assign spot x e) k =
      go_same (range_of spot e k.ranges) _ _ (λ r. go_same (required (may_write around x) LoopVariableAssigned spot _) _ _ (λ _. refl))
  statement_cut context around (set_register spot r e1 e2 e3) k =
      go_same (range_of spot e1 k.ranges) _ _ (λ c. go_same (range_of spot e2 k.ranges) _ _ (λ n. go_same (range_of spot e3 k.ranges) _ _ (λ a. refl)))
  statement_cut context around (single spot size f r m) k = single_cut context around spot size f r m k
  statement_cut context around (put spot e) k =
      go_same (range_of spot e k.ranges) _ _ (λ r. go_same (required (nat_le r.hi greatest_word) WordTooWide spot _) _ _ (λ _. refl))
  statement_cut context around (crate_call spot which e) k =
      go_same (range_of spot e k.ranges) _ _ (λ r. go_same (required (is_crate context.plan r) CrateUnfit spot _) _ _ (λ _. refl))
  statement_cut context around (address_scan spot f r1 r2 max x) k = scan_cut context around spot f r1 r2 max x k
  statement_cut context around (q_stop spot f r t max x) k =
      go_same (range_of spot max k.ranges) _ _ (λ most. go_same (block_region (in_rules context) around spot f r t most.hi x k) _ _ (λ g. refl))
  statement_cut context around (q_repeat spot f r t max limit x) k =
      go_same (range_of spot max k.ranges) _ _ (λ most.
      go_same (range_of spot limit k.ranges) _ _ (λ cycles. go_same (block_region (in_rules context) around spot f r t most.hi x k) _ _ (λ g. refl)))
  statement_cut context around (lam_call spot which l) k =
      go_same (given (lam_region (in_rules context) l) StationNotInstalled spot _) _ _ (λ g.
      go_same (command_widths context.plan spot (lam_function which) g) _ _ (λ w. refl))
  statement_cut context around (choose spot test a) k =
      go_same (split spot test k) _ _ (λ ways.
      go_cut (if_reached unreached ways.holds (accept_block (in_code context) around a)) (if_reached unreached ways.holds (accept_block (in_rules context) around a)) _ _
      (if_reached_cut ways.holds (accept_block (in_code context) around a) (accept_block (in_rules context) around a) (λ q. block_cut context around a q))
      (λ first. ap (λ c. Ok (verdict (join first.after ways.fails) c)) (choice_cut first.costs no_costs)))
  statement_cut context around (choose_else spot test a b) k =
      go_same (split spot test k) _ _ (λ ways.
      go_cut (if_reached unreached ways.holds (accept_block (in_code context) around a)) (if_reached unreached ways.holds (accept_block (in_rules context) around a)) _ _
      (if_reached_cut ways.holds (accept_block (in_code context) around a) (accept_block (in_rules context) around a) (λ q. block_cut context around a q))
      (λ first.
      go_cut (if_reached unreached ways.fails (accept_block (in_code context) around b)) (if_reached unreached ways.fails (accept_block (in_rules context) around b)) _ _
      (if_reached_cut ways.fails (accept_block (in_code context) around b) (accept_block (in_rules context) around b) (λ q. block_cut context around b q))
      (λ second. ap (λ c. Ok (verdict (join first.after second.after) c)) (choice_cut first.costs second.costs))))
  statement_cut context around (for_ spot x e1 e2 keeps body) k =
      go_same (for_limits around spot x e1 e2 keeps k) _ _ (λ l.
      go_cut (if_reached unreached (for_head x l keeps body k) (accept_block (in_code context) (with_fixed x around) body)) (if_reached unreached (for_head x l keeps body k) (accept_block (in_rules context) (with_fixed x around) body)) _ _
      (if_reached_cut (for_head x l keeps body k) (accept_block (in_code context) (with_fixed x around) body) (accept_block (in_rules context) (with_fixed x around) body) (λ q. block_cut context (with_fixed x around) body q))
      (λ turn.
      go_same (required (keeps_hold_after keeps turn.after) KeepFailsAfterTurn spot _) _ _ (λ _.
      ap (λ c. Ok (verdict (for_after x l keeps body k) c)) (loop_cut (turns_between l) turn.costs))))
  statement_cut context around (for_each spot x v last body) k =
      go_same (each_begins around spot x v last) _ _ (λ n.
      go_cut (each_from capped n x v last (accept_block (in_code context) (with_fixed x around) body) k) (each_from (λ c. c) n x v last (accept_block (in_rules context) (with_fixed x around) body) k) _ _
      (from_cut n x v last (accept_block (in_code context) (with_fixed x around) body) (accept_block (in_rules context) (with_fixed x around) body) k (λ q. block_cut context (with_fixed x around) body q))
      (λ turns. ap (λ c. Ok (verdict turns.after c)) (step_cut turns.costs)))
  statement_cut context around (while_ spot test most m keeps body) k =
      go_same (while_head around.body spot most m keeps body k) _ _ (λ top.
      go_same (split spot test top) _ _ (λ arms.
      go_cut (if_reached unreached arms.holds (accept_block (in_code context) around body)) (if_reached unreached arms.holds (accept_block (in_rules context) around body)) _ _
      (if_reached_cut arms.holds (accept_block (in_code context) around body) (accept_block (in_rules context) around body) (λ q. block_cut context around body q))
      (λ turn.
      go_same (required (keeps_hold_after keeps turn.after) KeepFailsAfterTurn spot _) _ _ (λ _.
      ap (λ c. Ok (verdict arms.fails c)) (loop_cut (turn_bound arms.holds most) turn.costs)))))
  statement_cut context around (locked spot e body) k =
      go_same (lock_rule (in_rules context) around spot e k) _ _ (λ c.
      go_cut (accept_block (in_code context) (with_locked c around) body k) (accept_block (in_rules context) (with_locked c around) body k) _ _ (block_cut context (with_locked c around) body k)
      (λ inner. ap (λ d. Ok (verdict inner.after d)) (lock_cut (unwrap_or (crate_waits context.plan c) 0) inner.costs)))
  statement_cut context around (call spot p es) k =
      go_same (ranges_of spot es k.ranges) _ _ (λ rs.
      go_same (given (slice_get (in_rules context).procedures p) ArgumentOutOfRange spot _) _ _ (λ procedure.
      go_same (required (arguments_fit rs procedure.parameters) ArgumentOutOfRange spot _) _ _ (λ _. refl)))

  pub block_cut : (context : Context) (around : Around) (b : Block) (k : Facts) → accept_block (in_code context) around b k ≡ cut_all (accept_block (in_rules context) around b k)
  block_cut context around done k = refl
  block_cut context around (next s rest) k =
      go_cut (accept_statement (in_code context) around s k) (accept_statement (in_rules context) around s k) _ _ (statement_cut context around s k) (λ first.
      go_cut (if_reached unreached first.after (accept_block (in_code context) around rest)) (if_reached unreached first.after (accept_block (in_rules context) around rest)) _ _
      (if_reached_cut first.after (accept_block (in_code context) around rest) (accept_block (in_rules context) around rest) (λ q. block_cut context around rest q))
      (λ second. ap (λ c. Ok (verdict second.after c)) (plus_cut first.costs second.costs)))

leb_cut : (n w k : ℕ) → w < k → nat_le (min n k) w ≡ nat_le n w
leb_cut n w k h =
    ⊎_elim
    (λ more. lt-leb (min n k) w (omega arith) ∙ sym (lt-leb n w more))
    (λ le. le-leb (min n k) w (omega arith) ∙ sym (le-leb n w le))
    (cases_lt w n)

guard_same : {B : Type 0} (b c : Bool) (rule : CheckRule) (spot : Spot) (d e : Case) (r q : Result B Fault) → b ≡ c → d ≡ e → (c ≡ true → r ≡ q) → go_on (required b rule spot d) (λ _. r) ≡ go_on (required c rule spot e) (λ _. q)
unfolding go_on required
guard_same b true rule spot d e r q is same h = ap (λ x. go_on (required x rule spot d) (λ _. r)) is ∙ h refl
guard_same b false rule spot d e r q is same h = ap (λ x. go_on (required x rule spot d) (λ _. r)) is ∙ ap (λ c. Err (broken rule spot c)) same

-- a cost that is cut is the cost
pub told_cut : (place : Body) (n allowed : ℕ) → budget place (min n (2 ^ 64 - 1)) allowed ≡ budget place n allowed
told_cut place n allowed =
    let k : ℕ = 2 ^ 64 - 1 in
    let same : min (min n k) k ≡ min n k = omega arith in
    ap (λ m. Budget place m allowed) same

uncut : (n w k : ℕ) → w < k → nat_le n w ≡ true → min n k ≡ n
uncut n w k h e = let le : n ≤ w = leb-true n w e in omega arith

pub within_cut : (place : Body) (most found : Bounds) (spot : Spot) → most.cycles < 2 ^ 64 - 1 → most.words < 2 ^ 64 - 1 → most.steps < 2 ^ 64 - 1 → within place most (capped found) spot ≡ within place most found spot
within_cut place most found spot hc hw hs =
    let k = 2 ^ 64 - 1 in
    guard_same (nat_le (min found.words k) most.words) (nat_le found.words most.words) TooManyWords spot _ _ _ _ (leb_cut found.words most.words k hw) (told_cut place found.words most.words) (λ w.
    guard_same (nat_le (min found.cycles k) most.cycles) (nat_le found.cycles most.cycles) TooManyCycles spot _ _ _ _ (leb_cut found.cycles most.cycles k hc) (told_cut place found.cycles most.cycles) (λ c.
    guard_same (nat_le (min found.steps k) most.steps) (nat_le found.steps most.steps) TooManySteps spot _ _ _ _ (leb_cut found.steps most.steps k hs) (told_cut place found.steps most.steps) (λ s.
    ap (λ x. Ok x) (same_costs _ _ _ _ _ _ (uncut found.cycles most.cycles k hc c) (uncut found.words most.words k hw w) (uncut found.steps most.steps k hs s)))))

finish_all : (place : Body) (most : Bounds) (spot : Spot) → most.cycles < 2 ^ 64 - 1 → most.words < 2 ^ 64 - 1 → most.steps < 2 ^ 64 - 1 → (q r : Result Verdict Fault) → q ≡ cut_all r → go_on q (λ v. within place most v.costs spot) ≡ go_on r (λ v. within place most v.costs spot)
unfolding go_on
finish_all place most spot hc hw hs q (Ok v) e = ap (λ x. go_on x (λ v. within place most v.costs spot)) e ∙ within_cut place most v.costs spot hc hw hs
finish_all place most spot hc hw hs q (Err f) e = ap (λ x. go_on x (λ v. within place most v.costs spot)) e

pub service_cut : (context : code.Context) (v : Service) → v.cycles < 2 ^ 64 - 1 → v.words < 2 ^ 64 - 1 → accept_service (by_code context) v ≡ accept_service (by_rules context) v
service_cut context v hc hw =
    let around : Around = alone_in (body.Service v.lam) in
    ap (λ x. go_on (count_block (body.Service v.lam) v.body 0) (λ _. x))
    (finish_all (body.Service v.lam) (costs v.cycles v.words greatest) v.spot hc hw (lit< tt) (accept_block (by_code context) around v.body at_start) (accept_block (by_rules context) around v.body at_start)
    (block_cut (by_rules context) around v.body at_start))

pub procedure_cut : (context : code.Context) (p : Procedure) → p.cycles < 2 ^ 64 - 1 → p.words < 2 ^ 64 - 1 → p.steps < 2 ^ 64 - 1 → accept_procedure (by_code context) p ≡ accept_procedure (by_rules context) p
procedure_cut context p hc hw hs =
    let place : Body = own_body (by_rules context) in
    let around : Around = alone_in place in
    ap (λ x. go_on (count_block place p.body 0) (λ _. x))
    (finish_all place (annotated p) p.spot hc hw hs
    (if_reached unreached (at_entry p.parameters) (accept_block (by_code context) around p.body))
    (if_reached unreached (at_entry p.parameters) (accept_block (by_rules context) around p.body))
    (if_reached_cut (at_entry p.parameters) (accept_block (by_code context) around p.body) (accept_block (by_rules context) around p.body) (block_cut (by_rules context) around p.body)))

-- What a body needs, by costs that are cut at 64 bits.

event_cut : (place : Body) (plan : Layout) (n : ℕ) (spot : Spot) → event_fits place plan (min n (2 ^ 64 - 1)) spot ≡ event_fits place plan n spot
event_cut place plan n spot =
    let k : ℕ = 2 ^ 64 - 1 in
    let fits : ℕ → Result (Unit {0}) LeastFault = λ w. if nat_le w plan.buffer then Ok tt else Err (least.Link EventAboveBuffer spot (Words w plan.buffer)) in
    let fails : ℕ → Result (Unit {0}) LeastFault = λ w. Err (least.Check TooManyWords spot (budget place w greatest)) in
    ⊎_elim
    (λ more.
    ap (λ b. if b then fits (min n k) else fails (min n k)) (lt-leb (min n k) greatest (omega (arith, more)))
    ∙ ap (λ case. Err (least.Check TooManyWords spot case)) (told_cut place n greatest) ∙ sym (ap (λ b. if b then fits n else fails n) (lt-leb n greatest more)))
    (λ le. let same : min n k ≡ n = omega (arith, le) in ap (λ m. event_fits place plan m spot) same)
    (cases_lt greatest n)

-- what follows the body
abbrev judged : Body → Layout → Spot → Verdict → Result Bounds LeastFault
judged place plan spot v = and_then (event_fits place plan v.costs.words spot) (λ _. checked (within place most v.costs spot))

judged_cut : (place : Body) (plan : Layout) (spot : Spot) (v : Verdict) → judged place plan spot (cut v) ≡ judged place plan spot v
judged_cut place plan spot v =
    ap (λ x. and_then x (λ _. checked (within place most (capped v.costs) spot))) (event_cut place plan v.costs.words spot)
    ∙ ap (λ x. and_then (event_fits place plan v.costs.words spot) (λ _. checked x)) (within_cut place most v.costs spot (lit< tt) (lit< tt) (lit< tt))

finish_needs : (place : Body) (plan : Layout) (spot : Spot) (q r : Result Verdict Fault) → q ≡ cut_all r → and_then (checked q) (judged place plan spot) ≡ and_then (checked r) (judged place plan spot)
unfolding and_then
finish_needs place plan spot q (Ok v) e = ap (λ x. and_then (checked x) (judged place plan spot)) e ∙ judged_cut place plan spot v
finish_needs place plan spot q (Err f) e = ap (λ x. and_then (checked x) (judged place plan spot)) e

pub needs_cut : (context : code.Context) (v : Service) → service_needs (by_code context) v ≡ service_needs (by_rules context) v
needs_cut context v =
    let around : Around = alone_in (body.Service v.lam) in
    ap (λ x. and_then (checked (count_block (body.Service v.lam) v.body 0)) (λ _. x))
    (finish_needs (body.Service v.lam) context.plan.now v.spot (accept_block (by_code context) around v.body at_start) (accept_block (by_rules context) around v.body at_start)
    (block_cut (by_rules context) around v.body at_start))
