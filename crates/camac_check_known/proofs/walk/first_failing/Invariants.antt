use Rattle.std.proofs.Common.{◌≡◌, ◌-◌, ◌<◌, ℕ, Bool}
use Rattle.camac_rules.specs.Walks.{first_failing}
use Rattle.camac_check_known.proofs.walk.first_failing.Given as goal

-- what is left to search is what there was
abbrev pub invariant-loop-n : goal.invariant-loop-n
invariant-loop-n g l =
    (holds : ℕ → Bool) → ((n : ℕ) (b : Bool) → n < l.end → goal.F-post g l.test n b → b ≡ holds n) → first_failing holds l.n (l.end - l.n) ≡ first_failing holds l.from (l.end - l.from)
