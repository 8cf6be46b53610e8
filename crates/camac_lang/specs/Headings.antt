-- The numbers of headings, and scripts that differ in them alone.
use Rattle.std.specs.Prelude.{ℕ, zero, suc, List, [], ◌∷◌, map}
use Rattle.camac_lang.specs.Tree.{Procedure, Service, Script}

-- a heading with these most cycles, event words and steps
abbrev pub annotate : ℕ → ℕ → ℕ → Procedure → Procedure
annotate cycles words steps p = record p { cycles = cycles; words = words; steps = steps }

abbrev pub annotate_service : ℕ → ℕ → Service → Service
annotate_service cycles words v = record v { cycles = cycles; words = words }

-- a list with the element of this number changed
abbrev pub changed_at : {A : Type 0} → ℕ → (A → A) → List A → List A
changed_at i f [] = []
changed_at zero f (x ∷ xs) = f x ∷ xs
changed_at (suc i) f (x ∷ xs) = x ∷ changed_at i f xs

-- with 0 for each number of its headings
abbrev pub unannotated : Script → Script
unannotated s = record s { procedures = map (annotate 0 0 0) s.procedures; services = map (annotate_service 0 0) s.services }
