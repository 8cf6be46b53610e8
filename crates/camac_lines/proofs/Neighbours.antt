-- Neighbours of one width and kind, a sub-address at a time.
use Rattle.std.proofs.Common.{◌≡◌, ℕ, ◌+◌, ◌-◌, ◌<◌, ◌≤◌, true, false, cond, ap, ◌∙◌, suc, arith}
use Rattle.std.specs.List.{prefix_len}
use Rattle.camac_module.specs.Entry.{Entry}
use Rattle.camac_module.specs.Commands.{Commands, entry}
use Rattle.camac_lines.specs.Commands.{is_same, entries_from}

-- how many are the same from here on
abbrev pub same_from : Commands → ℕ → Entry → ℕ → ℕ
same_from commands f e a = prefix_len (is_same e) (entries_from commands f a (16 - a))

step : (commands : Commands) (f : ℕ) (e : Entry) (a : ℕ) → a < 16 → same_from commands f e a ≡ cond (is_same e (entry commands f a)) (1 + same_from commands f e (a + 1)) 0
step commands f e a below =
    let count : 16 - a ≡ suc (16 - (a + 1)) = omega arith in
    ap (λ n. prefix_len (is_same e) (entries_from commands f a n)) count

pub same_next : (commands : Commands) (f : ℕ) (e : Entry) (a : ℕ) → a < 16 → is_same e (entry commands f a) ≡ true → same_from commands f e a ≡ 1 + same_from commands f e (a + 1)
same_next commands f e a below is = step commands f e a below ∙ ap (λ b. cond b (1 + same_from commands f e (a + 1)) 0) is

pub same_stops : (commands : Commands) (f : ℕ) (e : Entry) (a : ℕ) → a < 16 → is_same e (entry commands f a) ≡ false → same_from commands f e a ≡ 0
same_stops commands f e a below is = step commands f e a below ∙ ap (λ b. cond b (1 + same_from commands f e (a + 1)) 0) is

pub same_ends : (commands : Commands) (f : ℕ) (e : Entry) (a : ℕ) → 16 ≤ a → same_from commands f e a ≡ 0
same_ends commands f e a past =
    let count : 16 - a ≡ 0 = omega arith in
    ap (λ n. prefix_len (is_same e) (entries_from commands f a n)) count
