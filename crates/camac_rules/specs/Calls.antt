-- The rules of crate calls and LAM calls, and of the crate that a lock takes.
use Rattle.std.specs.Prelude.{ℕ, Bool, not, ◌&&◌, Option, Some, Result, Ok, nat_eq, nat_lt, option_map, slice_get, if◌then◌else◌}
use Rattle.camac_lang.specs.declared.word.LamCall.{LamCall}
use Rattle.camac_lang.specs.Tree.{Expression}
use Rattle.camac_range.specs.Interval.{Interval, only}
use Rattle.camac_branch.specs.Address.{Address}
use Rattle.camac_branch.specs.Plan.{Layout}
use Rattle.camac_esone.specs.Calls.{lam_function}
use Rattle.camac_rules.specs.declared.case.Case.{Case}
use Rattle.camac_rules.specs.declared.case.Case.TheVariants.{Malformed, Locked}
use Rattle.camac_rules.specs.declared.rule.CheckRule.TheVariants.{StationNotInstalled, CrateUnfit}
use Rattle.camac_rules.specs.Cases.{crate_of}
use Rattle.camac_rules.specs.Fault.{Fault}
use Rattle.camac_rules.specs.Refusal.{◌>>=◌, ◌>>◌, required, given}
use Rattle.camac_rules.specs.Known.{Region, region, Facts}
use Rattle.camac_rules.specs.Expressions.{range_of}
use Rattle.camac_rules.specs.Costs.{Verdict, verdict}
use Rattle.camac_rules.specs.Addresses.{crate_end, in_plan, is_among, command_widths}
use Rattle.camac_rules.specs.Cycles.{Context, Around, one_cycle}
use Rattle.camac_lang.specs.declared.spot.Spot.{Spot}

-- one number, which is that of a crate of the plan
abbrev pub is_crate : Layout → Interval → Bool
is_crate plan r = nat_eq r.lo r.hi && (nat_lt r.lo crate_end && in_plan plan r.lo)

abbrev pub crate_rule : Context → Around → Spot → Expression → Facts → Result Verdict Fault
crate_rule c around spot e k = do
  r ← range_of spot e k.ranges
  required (is_crate c.plan r) CrateUnfit spot (crate_of r)
  Ok (verdict (Some k) (one_cycle c around r))

-- one address alone
abbrev pub single_region : Address → Region
single_region at = region (only at.crate_no) (only at.station) (only at.sub_address)

abbrev pub lam_region : Context → ℕ → Option Region
lam_region c l = option_map single_region (slice_get c.lams l)

-- at the LAM's address; a LAM that is not there is at no station
abbrev pub lam_rule : Context → Around → Spot → LamCall → ℕ → Facts → Result Verdict Fault
lam_rule c around spot which l k = do
  g ← given (lam_region c l) StationNotInstalled spot Malformed
  widths ← command_widths c.plan spot (lam_function which) g
  Ok (verdict (Some k) (one_cycle c around g.crates))

-- a crate that a `lock` can't take: locked already, or not one of the plan
abbrev pub lock_unfit : Layout → Interval → Case
lock_unfit plan r = if is_crate plan r then Locked r.lo else crate_of r

-- the crate that a `lock` takes: in the plan, and not locked around it
abbrev pub lock_rule : Context → Around → Spot → Expression → Facts → Result ℕ Fault
lock_rule c around spot e k = do
  r ← range_of spot e k.ranges
  required (is_crate c.plan r && not (is_among r.lo around.locked)) CrateUnfit spot (lock_unfit c.plan r)
  Ok r.lo
