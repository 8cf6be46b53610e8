-- Searches among names.
use Rattle.std.proofs.Common.{◌≡◌, ℕ, ◌+◌, min, nat_lt, arith, Bool, true, false, not, cond, ◌&&◌, List, [], ◌∷◌, map, Option, Some, refl, ap}
use Rattle.std.specs.Prelude.{is_none}
use Rattle.std.specs.List.{position_from}
use Rattle.std.specs.Str.{bytes_eq}
use Rattle.camac_lang.specs.Tests.{is_new}
use Rattle.camac_lang.specs.Tree.{Text}
use Rattle.camac_lang.specs.View.{table_of, lam_of, procedure_of}
use Rattle.camac_lang.specs.declared.script.Table as rust_table
use Rattle.camac_lang.specs.declared.script.Lam as rust
use Rattle.camac_lang.specs.declared.script.Procedure as rust_procedure
use Rattle.camac_text_cursor.specs.Names.{name_place, lam_place, table_place, procedure_place}

pub position_from-map : {A B : Type 0} (f : A → B) (test : B → Bool) (i : ℕ) (xs : List A) → position_from test i (map f xs) ≡ position_from (λ x. test (f x)) i xs
position_from-map f test i [] = refl
position_from-map f test i (x ∷ xs) = ap (λ (rest : Option ℕ). cond (test (f x)) (Some i) rest) (position_from-map f test (i + 1) xs)

pub lam_place_map : (x : Text) (ls : List rust.Lam) → lam_place x (map lam_of ls) ≡ position_from (λ (l : rust.Lam). bytes_eq x l.name) 0 ls
lam_place_map x ls = position_from-map lam_of (λ l. bytes_eq x l.name) 0 ls

pub table_place_map : (x : Text) (ts : List rust_table.Table) → table_place x (map table_of ts) ≡ position_from (λ (t : rust_table.Table). bytes_eq x t.name) 0 ts
table_place_map x ts = position_from-map table_of (λ t. bytes_eq x t.name) 0 ts

pub procedure_place_map : (x : Text) (ps : List rust_procedure.Procedure) → procedure_place x (map procedure_of ps) ≡ position_from (λ (p : rust_procedure.Procedure). bytes_eq x p.name) 0 ps
procedure_place_map x ps = position_from-map procedure_of (λ p. bytes_eq x p.name) 0 ps

none_step : (x y : Text) (ys : List Text) (b : Bool) (i : ℕ) → is_none (position_from (bytes_eq x) (i + 1) ys) ≡ is_new x ys → is_none (cond b (Some i) (position_from (bytes_eq x) (i + 1) ys)) ≡ (not b && is_new x ys)
none_step x y ys true i e = refl
none_step x y ys false i e = e

none_from : (x : Text) (i : ℕ) (ys : List Text) → is_none (position_from (bytes_eq x) i ys) ≡ is_new x ys
none_from x i [] = refl
none_from x i (y ∷ ys) = none_step x y ys (bytes_eq x y) i (none_from x (i + 1) ys)

-- a name is new where it has no place
pub is_new_none : (x : Text) (ys : List Text) → is_none (name_place x ys) ≡ is_new x ys
is_new_none x ys = none_from x 0 ys

-- ---- registers

-- whether there is room does not depend on how far past it others are
pub room_for_one : (others own : ℕ) → nat_lt (min 64 others + own) 64 ≡ nat_lt (others + own) 64
room_for_one others own = grind arith
