-- Statements of a block and turns of an `each`, one at a time.
use Rattle.std.proofs.Common.{◌≡◌, ℕ, Option, Some, None, Result, Ok, Err, refl, sym, ap, ◌∙◌, arith, zero, suc, ◌+◌}
use Rattle.std.specs.Prelude.{option_map}
use Rattle.camac_lang.specs.Tree.{Statement, Block, done, next}
use Rattle.camac_model.specs.Fine.{Bounds}
use Rattle.camac_rules.specs.Fault.{Fault, broken}
use Rattle.camac_rules.specs.Refusal.{go_on, if_reached}
use Rattle.camac_rules.specs.Known.{Facts, with_range}
use Rattle.camac_rules.specs.Costs.{costs, no_costs, plus, Verdict, verdict, unreached}
use Rattle.camac_rules.specs.Capped.{capped}
use Rattle.camac_rules.specs.Cycles.{Around}
use Rattle.camac_rules.specs.Statements.{accept_statement, accept_block}
use Rattle.camac_rules.specs.Each.{turn_costs, each_turns}
use Rattle.camac_check_simple.specs.declared.context.Context as code
use Rattle.camac_check_simple.specs.Gives.{Fails, by_code}
use Rattle.camac_check_known.specs.declared.fault.CheckFault.{CheckFault}
use Rattle.camac_check_known.specs.declared.fault.CheckFault.TheVariants.{OutOfMemory, Broken}
use Rattle.camac_check_known.specs.Gives.{Fails as FailsOfGives}
use Rattle.camac_range.specs.Interval.{only}
use Rattle.camac_check.specs.Ends.{each_judged, turn_rule}

-- A block, a statement at a time: what was found so far, and then the rest.

same_costs : (a b c d e f : ℕ) → a ≡ d → b ≡ e → c ≡ f → costs a b c ≡ costs d e f
same_costs a b c d e f p q r = cc

pub capped_twice : (a : Bounds) → capped (capped a) ≡ capped a
capped_twice a = same_costs _ _ _ _ _ _ (omega arith) (omega arith) (omega arith)

capped_then : (a b c : Bounds) → capped (plus a (capped (plus b c))) ≡ capped (plus (capped (plus a b)) c)
capped_then a b c = same_costs _ _ _ _ _ _ (omega arith) (omega arith) (omega arith)

capped_first : (a : Bounds) → capped (plus no_costs (capped a)) ≡ capped a
capped_first a = same_costs _ _ _ _ _ _ (omega arith) (omega arith) (omega arith)

capped_last : (a : Bounds) → capped (plus a no_costs) ≡ capped a
capped_last a = same_costs _ _ _ _ _ _ (omega arith) (omega arith) (omega arith)

-- one after the other
abbrev pub joined : Verdict → Verdict → Verdict
joined a v = verdict v.after (capped (plus a.costs v.costs))

-- the rest of a block after what was found
abbrev pub rest_rule : code.Context → Around → Verdict → Block → Result Verdict Fault
rest_rule context around a b = go_on (if_reached unreached a.after (accept_block (by_code context) around b)) (λ v. Ok (joined a v))

verdict_ok : (known : Option Facts) (a b : Bounds) → a ≡ b → ◌≡◌ {A = Result Verdict Fault} (Ok (verdict known a)) (Ok (verdict known b))
verdict_ok known a b e = ap (λ c. Ok (verdict known c)) e

-- at the beginning nothing was found
block_begins : (context : code.Context) (around : Around) (b : Block) (k : Facts) → rest_rule context around (verdict (Some k) no_costs) b ≡ accept_block (by_code context) around b k
unfolding go_on if_reached
block_begins context around done k = refl
block_begins context around (next s rest) k = go (accept_statement (by_code context) around s k)
  where
    inner : (first : Verdict) (r : Result Verdict Fault) → go_on (go_on r (λ second. Ok (verdict second.after (capped (plus first.costs second.costs))))) (λ v. Ok (verdict v.after (capped (plus no_costs v.costs)))) ≡ go_on r (λ second. Ok (verdict second.after (capped (plus first.costs second.costs))))
    inner first (Ok second) = verdict_ok second.after _ _ (capped_first (plus first.costs second.costs))
    inner first (Err f) = refl

    go : (r : Result Verdict Fault) → go_on (go_on r (λ first. go_on (if_reached unreached first.after (accept_block (by_code context) around rest)) (λ second. Ok (verdict second.after (capped (plus first.costs second.costs)))))) (λ v. Ok (verdict v.after (capped (plus no_costs v.costs)))) ≡ go_on r (λ first. go_on (if_reached unreached first.after (accept_block (by_code context) around rest)) (λ second. Ok (verdict second.after (capped (plus first.costs second.costs)))))
    go (Ok first) = inner first (if_reached unreached first.after (accept_block (by_code context) around rest))
    go (Err f) = refl

-- the same of a block that may not be reached
pub block_starts : (context : code.Context) (around : Around) (b : Block) (known : Option Facts) → rest_rule context around (verdict known no_costs) b ≡ if_reached unreached known (accept_block (by_code context) around b)
unfolding go_on if_reached
block_starts context around b None = refl
block_starts context around b (Some k) = block_begins context around b k

-- one more statement
pub block_step : (context : code.Context) (around : Around) (k : Facts) (c : Bounds) (s : Statement) (rest : Block) (found : Verdict) → accept_statement (by_code context) around s k ≡ Ok found → rest_rule context around (joined (verdict (Some k) c) found) rest ≡ rest_rule context around (verdict (Some k) c) (next s rest)
unfolding go_on if_reached
block_step context around k c s rest found e =
    inner (if_reached unreached found.after (accept_block (by_code context) around rest))
    ∙ ap (λ r. go_on (go_on r (λ first. go_on (if_reached unreached first.after (accept_block (by_code context) around rest)) (λ second. Ok (verdict second.after (capped (plus first.costs second.costs)))))) (λ v. Ok (joined (verdict (Some k) c) v))) (sym e)
  where
    inner : (r : Result Verdict Fault) → go_on r (λ v. Ok (joined (joined (verdict (Some k) c) found) v)) ≡ go_on (go_on r (λ second. Ok (verdict second.after (capped (plus found.costs second.costs))))) (λ v. Ok (joined (verdict (Some k) c) v))
    inner (Ok second) = verdict_ok second.after _ _ (sym (capped_then c found.costs second.costs))
    inner (Err f) = refl

-- what is not reached costs nothing
pub block_skips : (context : code.Context) (around : Around) (c : Bounds) (s : Statement) (rest : Block) → rest_rule context around (joined (verdict None c) unreached) rest ≡ rest_rule context around (verdict None c) (next s rest)
unfolding go_on if_reached
block_skips context around c s rest = verdict_ok None _ _ (capped_last (capped (plus c no_costs)) ∙ capped_twice (plus c no_costs))

-- a statement that is refused
pub block_fails : (context : code.Context) (around : Around) (k : Facts) (c : Bounds) (s : Statement) (rest : Block) (f : Fault) → accept_statement (by_code context) around s k ≡ Err f → rest_rule context around (verdict (Some k) c) (next s rest) ≡ Err f
unfolding go_on if_reached
block_fails context around k c s rest f e =
    ap (λ r. go_on (go_on r (λ first. go_on (if_reached unreached first.after (accept_block (by_code context) around rest)) (λ second. Ok (verdict second.after (capped (plus first.costs second.costs)))))) (λ v. Ok (joined (verdict (Some k) c) v))) e

-- nothing is left
pub block_ends : (context : code.Context) (around : Around) (a : Verdict) → capped a.costs ≡ a.costs → rest_rule context around a done ≡ Ok (verdict a.after a.costs)
unfolding go_on if_reached
block_ends context around a e = go a.after
  where
    go : (known : Option Facts) → go_on (if_reached unreached known (λ k. Ok (verdict (Some k) no_costs))) (λ v. Ok (verdict v.after (capped (plus a.costs v.costs)))) ≡ Ok (verdict known a.costs)
    go None = verdict_ok None _ _ (capped_last a.costs ∙ e)
    go (Some k) = verdict_ok (Some k) _ _ (capped_last a.costs ∙ e)

-- one more statement, whether it is reached or not
pub block_goes_on : (context : code.Context) (around : Around) (known : Option Facts) (c : Bounds) (s : Statement) (rest : Block) (found : Verdict) → if_reached unreached known (accept_statement (by_code context) around s) ≡ Ok found → rest_rule context around (joined (verdict known c) found) rest ≡ rest_rule context around (verdict known c) (next s rest)
unfolding if_reached
block_goes_on context around None c s rest found e =
    let same : found ≡ unreached = cc in
    ap (λ v. rest_rule context around (joined (verdict None c) v) rest) same ∙ block_skips context around c s rest
block_goes_on context around (Some k) c s rest found e = block_step context around k c s rest found e

block_refused : (context : code.Context) (around : Around) (known : Option Facts) (c : Bounds) (s : Statement) (rest : Block) (f : Fault) → if_reached unreached known (accept_statement (by_code context) around s) ≡ Err f → rest_rule context around (verdict known c) (next s rest) ≡ Err f
unfolding if_reached
block_refused context around None c s rest f e = cc
block_refused context around (Some k) c s rest f e = block_fails context around k c s rest f e

pub block_stops : (context : code.Context) (around : Around) (known : Option Facts) (c : Bounds) (s : Statement) (rest : Block) (e : CheckFault) → Fails e (if_reached unreached known (accept_statement (by_code context) around s)) → Fails e (rest_rule context around (verdict known c) (next s rest))
block_stops context around known c s rest OutOfMemory h = tt
block_stops context around known c s rest (Broken rule spot case) h = block_refused context around known c s rest (broken rule spot case) h

-- The turns of an `each`, one at a time: what was found so far, and then the rest.

-- so many turns that are left, after what was found
abbrev pub rest_turns : (left variable next last : ℕ) → (Facts → Result Verdict Fault) → Verdict → Result Verdict Fault
rest_turns n x v last check a = go_on (if_reached unreached a.after (each_turns capped n x v last check)) (λ w. Ok (joined a w))

capped_turn : (a b c : Bounds) → capped (plus (capped (plus a (capped b))) c) ≡ capped (plus a (capped (plus b c)))
capped_turn a b c = same_costs _ _ _ _ _ _ (omega arith) (omega arith) (omega arith)

pub rest_at : (n m x v w last : ℕ) (check : Facts → Result Verdict Fault) (a b : Verdict) → n ≡ m → v ≡ w → a ≡ b → rest_turns n x v last check a ≡ rest_turns m x w last check b
rest_at n m x v w last check a b p q r = cc

-- it begins with the statement's own step
pub turns_begin : (n x v last : ℕ) (check : Facts → Result Verdict Fault) (k : Facts) → (n ≡ 0 → ⊥) → each_judged n x v last check k ≡ rest_turns n x v last check (verdict (Some k) (costs 0 0 1))
unfolding go_on if_reached
turns_begin zero x v last check k ne = absurd (ne refl)
turns_begin (suc n) x v last check k ne = refl

pub no_turns : (n x v last : ℕ) (check : Facts → Result Verdict Fault) (k : Facts) → n ≡ 0 → each_judged n x v last check k ≡ Ok (verdict (Some k) (costs 0 0 1))
unfolding go_on
no_turns n x v last check k e = ap (λ m. each_judged m x v last check k) e

-- one more turn, whether it is reached or not
pub turn_goes_on : (n x v last : ℕ) (check : Facts → Result Verdict Fault) (known : Option Facts) (c : Bounds) (found : Verdict) → if_reached unreached known (turn_rule x v check) ≡ Ok found → rest_turns n x (v + 1) last check (joined (verdict known c) found) ≡ rest_turns (suc n) x v last check (verdict known c)
unfolding go_on if_reached
turn_goes_on n x v last check None c found e =
    let same : found ≡ unreached = cc in
    ap (λ w. rest_turns n x (v + 1) last check (joined (verdict None c) w)) same ∙ verdict_ok None _ _ (capped_last (capped (plus c no_costs)) ∙ capped_twice (plus c no_costs))
turn_goes_on n x v last check (Some k) c found e = go (check (with_range x (only v) k)) e
  where
    inner : (turn : Verdict) (r : Result Verdict Fault) → go_on r (λ w. Ok (joined (joined (verdict (Some k) c) (verdict turn.after (capped (turn_costs turn.costs)))) w)) ≡ go_on (go_on r (λ rest. Ok (verdict rest.after (capped (plus (turn_costs turn.costs) rest.costs))))) (λ w. Ok (joined (verdict (Some k) c) w))
    inner turn (Ok rest) = verdict_ok rest.after _ _ (capped_turn c (turn_costs turn.costs) rest.costs)
    inner turn (Err f) = refl

    go : (r : Result Verdict Fault) → go_on r (λ turn. Ok (verdict turn.after (capped (turn_costs turn.costs)))) ≡ Ok found → rest_turns n x (v + 1) last check (joined (verdict (Some k) c) found) ≡ go_on (go_on r (λ turn. go_on (if_reached unreached turn.after (each_turns capped n x (v + 1) last check)) (λ rest. Ok (verdict rest.after (capped (plus (turn_costs turn.costs) rest.costs)))))) (λ w. Ok (joined (verdict (Some k) c) w))
    go (Ok turn) h =
        let same : found ≡ verdict turn.after (capped (turn_costs turn.costs)) = cc in
        ap (λ w. rest_turns n x (v + 1) last check (joined (verdict (Some k) c) w)) same ∙ inner turn (if_reached unreached turn.after (each_turns capped n x (v + 1) last check))
    go (Err f) h = cc

-- a turn that is refused
turn_refused : (n x v last : ℕ) (check : Facts → Result Verdict Fault) (known : Option Facts) (c : Bounds) (f : Fault) → if_reached unreached known (turn_rule x v check) ≡ Err f → rest_turns (suc n) x v last check (verdict known c) ≡ Err f
unfolding go_on if_reached
turn_refused n x v last check None c f e = cc
turn_refused n x v last check (Some k) c f e = go (check (with_range x (only v) k)) e
  where
    go : (r : Result Verdict Fault) → go_on r (λ turn. Ok (verdict turn.after (capped (turn_costs turn.costs)))) ≡ Err f → go_on (go_on r (λ turn. go_on (if_reached unreached turn.after (each_turns capped n x (v + 1) last check)) (λ rest. Ok (verdict rest.after (capped (plus (turn_costs turn.costs) rest.costs)))))) (λ w. Ok (joined (verdict (Some k) c) w)) ≡ Err f
    go (Ok turn) h = cc
    go (Err g) h = cc

pub turn_stops : (n x v last : ℕ) (check : Facts → Result Verdict Fault) (known : Option Facts) (c : Bounds) (e : CheckFault) → FailsOfGives e (if_reached unreached known (turn_rule x v check)) → FailsOfGives e (rest_turns (suc n) x v last check (verdict known c))
turn_stops n x v last check known c OutOfMemory h = tt
turn_stops n x v last check known c (Broken rule spot case) h = turn_refused n x v last check known c (broken rule spot case) h

-- no turn is left
pub turns_end : (x v last : ℕ) (check : Facts → Result Verdict Fault) (known : Option Facts) (c : Bounds) → capped c ≡ c → rest_turns zero x v last check (verdict known c) ≡ Ok (verdict (option_map (with_range x (only last)) known) c)
unfolding go_on if_reached
turns_end x v last check None c e = verdict_ok None _ _ (capped_last c ∙ e)
turns_end x v last check (Some k) c e = verdict_ok _ _ _ (capped_last c ∙ e)
