-- The rules of all statements: what is known after each and what it can cost, or the first rule that it breaks.
use Rattle.std.specs.Prelude.{ℕ, Some, Result, Ok, nat_le, unwrap_or}
use Rattle.camac_lang.specs.Tree.{Expression, Statement, assign, set_register, single, address_scan, q_stop, q_repeat, put, crate_call, lam_call, choose, choose_else, for_, for_each, while_, locked, call, Block, done, next}
use Rattle.camac_branch.specs.Plan.{crate_waits}
use Rattle.camac_rules.specs.declared.case.Case.TheVariants.{Word, Counted}
use Rattle.camac_rules.specs.declared.rule.CheckRule.TheVariants.{WordTooWide, LoopVariableAssigned}
use Rattle.camac_rules.specs.Fault.{Fault}
use Rattle.camac_rules.specs.Refusal.{◌>>=◌, ◌>>◌, required, if_reached}
use Rattle.camac_rules.specs.Known.{Facts, region, with_range, with_region}
use Rattle.camac_rules.specs.Joined.{join}
use Rattle.camac_rules.specs.Expressions.{range_of}
use Rattle.camac_rules.specs.Conditions.{split}
use Rattle.camac_rules.specs.Costs.{costs, no_costs, plus, choice_costs, lock_costs, Verdict, verdict, unreached}
use Rattle.camac_rules.specs.Cycles.{Context, Around, with_locked, may_write, single_rule}
use Rattle.camac_rules.specs.Calls.{crate_rule, lam_rule, lock_rule}
use Rattle.camac_rules.specs.Loops.{with_fixed, for_rule, while_rule}
use Rattle.camac_rules.specs.Each.{each_rule}
use Rattle.camac_rules.specs.Transfers.{scan_rule, q_stop_rule, q_repeat_rule}
use Rattle.camac_rules.specs.Procedures.{call_rule}
use Rattle.camac_lang.specs.declared.spot.Spot.{Spot}

-- the greatest word of 24 bits
abbrev pub greatest_word : ℕ
greatest_word = 16777215

abbrev pub assign_rule : Around → Spot → ℕ → Expression → Facts → Result Verdict Fault
assign_rule around spot x e k = do
  r ← range_of spot e k.ranges
  required (may_write around x) LoopVariableAssigned spot (Counted around.body x)
  Ok (verdict (Some (with_range x r k)) (costs 0 0 1))

abbrev pub register_rule : Spot → ℕ → Expression → Expression → Expression → Facts → Result Verdict Fault
register_rule spot r e1 e2 e3 k = do
  c ← range_of spot e1 k.ranges
  n ← range_of spot e2 k.ranges
  a ← range_of spot e3 k.ranges
  Ok (verdict (Some (with_region r (region c n a) k)) (costs 0 0 1))

abbrev pub put_rule : Spot → Expression → Facts → Result Verdict Fault
put_rule spot e k = do
  r ← range_of spot e k.ranges
  required (nat_le r.hi greatest_word) WordTooWide spot (Word r.hi)
  Ok (verdict (Some k) (costs 0 1 1))

abbrev mutual
  pub accept_statement : Context → Around → Statement → Facts → Result Verdict Fault
  accept_statement c around (assign spot x e) k = assign_rule around spot x e k
  accept_statement c around (set_register spot r e1 e2 e3) k = register_rule spot r e1 e2 e3 k
  accept_statement c around (single spot size f r move) k = single_rule c around spot size f r move k
  accept_statement c around (address_scan spot f r1 r2 max x) k = scan_rule c around spot f r1 r2 max x k
  accept_statement c around (q_stop spot f r t max x) k = q_stop_rule c around spot f r t max x k
  accept_statement c around (q_repeat spot f r t max limit x) k = q_repeat_rule c around spot f r t max limit x k
  accept_statement c around (choose spot test a) k = do
    arms ← split spot test k
    first ← if_reached unreached arms.holds (accept_block c around a)
    Ok (verdict (join first.after arms.fails) (c.limit (choice_costs first.costs no_costs)))
  accept_statement c around (choose_else spot test a b) k = do
    arms ← split spot test k
    first ← if_reached unreached arms.holds (accept_block c around a)
    second ← if_reached unreached arms.fails (accept_block c around b)
    Ok (verdict (join first.after second.after) (c.limit (choice_costs first.costs second.costs)))
  accept_statement c around (locked spot e body) k = do
    crate_no ← lock_rule c around spot e k
    inner ← accept_block c (with_locked crate_no around) body k
    Ok (verdict inner.after (c.limit (lock_costs (unwrap_or (crate_waits c.plan crate_no) 0) inner.costs)))
  accept_statement c around (put spot e) k = put_rule spot e k
  accept_statement c around (crate_call spot which e) k = crate_rule c around spot e k
  accept_statement c around (lam_call spot which l) k = lam_rule c around spot which l k
  accept_statement c around (for_ spot x e1 e2 keeps body) k =
      for_rule c around spot x e1 e2 keeps body (accept_block c (with_fixed x around) body) k
  accept_statement c around (for_each spot x v last body) k = each_rule c around spot x v last (accept_block c (with_fixed x around) body) k
  accept_statement c around (while_ spot test most m keeps body) k = while_rule c around spot test most m keeps body (accept_block c around body) k
  accept_statement c around (call spot p es) k = call_rule c spot p es k

  -- a list costs the sum
  pub accept_block : Context → Around → Block → Facts → Result Verdict Fault
  accept_block c around done k = Ok (verdict (Some k) no_costs)
  accept_block c around (next s rest) k = do
    first ← accept_statement c around s k
    second ← if_reached unreached first.after (accept_block c around rest)
    Ok (verdict second.after (c.limit (plus first.costs second.costs)))
