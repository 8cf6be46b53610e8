-- The crates whose lockout is held, in the order in which it was taken. A branch has seven.
use Rattle.std.specs.Prelude.{ℕ, ◌-◌, List, [], ◌∷◌, ◌++◌, length, take, nat_lt, if◌then◌else◌}
use Rattle.camac_run.specs.declared.progress.Progress.{Progress}
use Rattle.camac_run.specs.declared.progress.Progress.TheVariants.{Went, Overrun}
use Rattle.camac_machine.specs.declared.item.Item.{Item}
use Rattle.camac_machine.specs.declared.item.Item.TheVariants as item

abbrev pub with_taken : Item → List ℕ → List ℕ
with_taken (item.Lock c wait) held = if nat_lt (length held) 7 then held ++ c ∷ [] else held
with_taken _ held = held

-- without the last n
abbrev pub without : ℕ → List ℕ → List ℕ
without n held = take (length held - n) held

-- after an item, and so many releases
abbrev pub held_after : Item → ℕ → List ℕ → List ℕ
held_after done n held = without n (with_taken done held)

abbrev pub held_then : Progress → List ℕ → List ℕ
held_then (Overrun o) held = held
held_then (Went done unlocks event) held = held_after done (length unlocks.items) held
