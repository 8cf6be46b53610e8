use Rattle.std.proofs.Common.{◌+◌, ◌*◌, ◌/◌, ◌^◌, ap, ◌∙◌, arith, ◌≡◌, ℕ, ◌-◌, ◌<◌, ◌≤◌}
use Rattle.camac_response_times.proofs.source.Rate.times_in.Goals as goal
use Rattle.std.proofs.Math.Nat.{div-mul-le_self, lt-div-mul-add}
use Rattle.std.proofs.lemmas.Nat.{mul-le, le-div, div_below}

-- A product with a share of 2^64 in place of a division.

-- so many parts of 2^64 as t has of it, rounded down, n + 1 times
module _ (n t m : ℕ) (low : 1 ≤ t) (high : t < 2 ^ 32) (is : m ≡ (2 ^ 64 - 1) / t) (small : n < 2 ^ 32) where
  times_at_least : n / t * 2 ^ 64 ≤ (n + 1) * m
  times_at_least =
      let whole : n / t * t ≤ n = div-mul-le_self n t in
      let more : (2 ^ 64 - 1) < m * t + t = rw is (lt-div-mul-add (omega (arith, low))) in
      let many : n / t * t ≤ m = omega (arith, whole, small, le-div (2 ^ 32) (2 ^ 64 - 1) t (omega (arith, low)) (omega (arith, high)), is) in
      let first = mul-le (n / t) (2 ^ 64) (n / t) (m * t + t) (omega arith) (omega (arith, more)) in
      let second = mul-le (n / t * t) m n m whole (omega arith) in
      grind (arith, first, second, many)

  times_below : (n + 1) * m < (n / t + 1) * 2 ^ 64
  times_below =
      let next : n < n / t * t + t = lt-div-mul-add (omega (arith, low)) in
      let less : m * t ≤ 2 ^ 64 - 1 = rw is (div-mul-le_self (2 ^ 64 - 1) t) in
      let first = mul-le (n + 1) m (n / t * t + t) m (omega (arith, next)) (omega arith) in
      let second = mul-le (n / t + 1) (m * t) (n / t + 1) (2 ^ 64 - 1) (omega arith) less in
      grind (arith, first, second)

  times_are : (n + 1) * m / 2 ^ 64 ≡ n / t
  times_are =
      let least = le-div (n / t) ((n + 1) * m) (2 ^ 64) (omega arith) times_at_least in
      let most = div_below ((n + 1) * m) (2 ^ 64) (n / t + 1) (omega arith) times_below in
      omega (arith, least, most)

pub returns : goal.returns
returns c =
    let at = c.self.invariant in
    let is = times_are c.args.cycles c.self.inside.cycles c.self.inside.share at.0 (omega arith) at.1 (omega arith) in
    ap (λ n. (n + 1) * c.from-2.result / 2 ^ 64) c.from.ensures ∙ ap (λ m. (c.args.cycles + 1) * m / 2 ^ 64) c.from-2.ensures ∙ is ∙ ap (λ t. c.args.cycles / t) c.self.view_is
