-- The turns of an `each` with costs that stay at the greatest number of 64 bits, for the code.
use Rattle.std.proofs.Common.{◌≡◌, ℕ, zero, suc, ◌+◌, Option, Some, None, Result, Ok, Err, refl, ap, ◌∙◌, arith}
use Rattle.camac_range.specs.Interval.{only}
use Rattle.camac_model.specs.Fine.{Bounds}
use Rattle.camac_rules.specs.Fault.{Fault}
use Rattle.camac_rules.specs.Refusal.{go_on, if_reached}
use Rattle.camac_rules.specs.Known.{Facts, with_range}
use Rattle.camac_rules.specs.Costs.{costs, plus, Verdict, verdict, unreached}
use Rattle.camac_rules.specs.Capped.{capped}
use Rattle.camac_rules.specs.Each.{turn_costs, each_turns}

-- a verdict with its costs cut
abbrev pub cut : Verdict → Verdict
cut v = verdict v.after (capped v.costs)

abbrev pub cut_all : Result Verdict Fault → Result Verdict Fault
cut_all (Ok v) = Ok (cut v)
cut_all (Err f) = Err f

go_cut : (q r : Result Verdict Fault) (k l : Verdict → Result Verdict Fault) → q ≡ cut_all r → ((v : Verdict) → k (cut v) ≡ cut_all (l v)) → go_on q k ≡ cut_all (go_on r l)
unfolding go_on
go_cut q (Ok v) k l e h = ap (λ x. go_on x k) e ∙ h v
go_cut q (Err f) k l e h = ap (λ x. go_on x k) e

if_reached_cut : (known : Option Facts) (k l : Facts → Result Verdict Fault) → ((q : Facts) → k q ≡ cut_all (l q)) → if_reached unreached known k ≡ cut_all (if_reached unreached known l)
unfolding if_reached
if_reached_cut None k l h = refl
if_reached_cut (Some q) k l h = h q

same_costs : (a b c d e f : ℕ) → a ≡ d → b ≡ e → c ≡ f → costs a b c ≡ costs d e f
same_costs a b c d e f p q r = cc

turn_cut : (a b : Bounds) → capped (plus (turn_costs (capped a)) (capped b)) ≡ capped (plus (turn_costs a) b)
turn_cut a b = same_costs _ _ _ _ _ _ (omega arith) (omega arith) (omega arith)

verdict_ok : (known : Option Facts) (a b : Bounds) → a ≡ b → ◌≡◌ {A = Result Verdict Fault} (Ok (verdict known a)) (Ok (verdict known b))
verdict_ok known a b e = ap (λ c. Ok (verdict known c)) e

-- cut at each turn or not at all, the judgement is the same
pub each_cut : (n x v last : ℕ) (check rule : Facts → Result Verdict Fault) → ((q : Facts) → check q ≡ cut_all (rule q)) → (k : Facts) → each_turns capped n x v last check k ≡ cut_all (each_turns (λ c. c) n x v last rule k)
each_cut zero x v last check rule h k = refl
each_cut (suc n) x v last check rule h k =
    go_cut (check (with_range x (only v) k)) (rule (with_range x (only v) k)) _ _ (h (with_range x (only v) k)) (λ turn.
    go_cut (if_reached unreached turn.after (each_turns capped n x (v + 1) last check)) (if_reached unreached turn.after (each_turns (λ c. c) n x (v + 1) last rule)) _ _
    (if_reached_cut turn.after (each_turns capped n x (v + 1) last check) (each_turns (λ c. c) n x (v + 1) last rule) (λ q. each_cut n x (v + 1) last check rule h q))
    (λ rest. verdict_ok rest.after _ _ (turn_cut turn.costs rest.costs)))
