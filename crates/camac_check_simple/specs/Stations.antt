-- What is tested at each station of a window at which it has a sub-address.
use Rattle.std.specs.Prelude.{ℕ, Bool, ◌&&◌, nat_lt}
use Rattle.camac_branch.specs.Plan.{Layout}
use Rattle.camac_rules.specs.Addresses.{crate_end, in_plan, is_station}
use Rattle.camac_rules.specs.Windows.{Window, holds_at, is_installed_at, is_declared_at}

abbrev pub has_station : Layout → ℕ → ℕ → Bool
has_station plan c n = nat_lt c crate_end && (in_plan plan c && is_station plan c n)

abbrev pub installed_at : Layout → Window → ℕ → Bool
installed_at plan w = holds_at w (is_installed_at plan w)

abbrev pub declared_at : Layout → ℕ → Window → ℕ → Bool
declared_at plan f w = holds_at w (is_declared_at plan f w)
