-- Arguments that are written to the places of a procedure, one by one.
use Rattle.std.proofs.Common.{◌≡◌, ℕ, zero, suc, ◌+◌, ◌-◌, ◌<◌, ◌≤◌, List, [], ◌∷◌, ◌++◌, length, set, take, drop, get_or, replicate, Some, refl, sym, ap, ◌∙◌, append_assoc, arith, length-take-le, take_at, drop_at}
use Rattle.std.proofs.lemmas.List.{drop_more, get_or-take, get_or-set_same, replicate_more, take-take, take-set-le, take_more_set}
use Rattle.std.proofs.lemmas.Slice.{between_is}
use Rattle.std.proofs.Math.Path.{fun_ext}
use Rattle.std.specs.Prelude.{slice_range}
use Rattle.camac_lang.specs.Tree.{Expression}
use Rattle.camac_model.specs.Meaning.{arguments}
use Rattle.camac_model.specs.Value.{value, value_and, values}
use Rattle.camac_machine.specs.declared.scope.Places.{Places}
use Rattle.camac_machine.specs.Store.{size, variables_in, held_at}
use Rattle.camac_machine.proofs.Scopes.{held_before}

-- places of a list
range_more : {A : Type 0} (d : A) (xs : List A) (a n : ℕ) → a < length xs → slice_range xs a (a + suc n) ≡ get_or xs a d ∷ slice_range xs (a + 1) (a + 1 + n)
range_more d xs a n lt =
    let all : a + suc n - a ≡ suc n = omega arith in
    let rest : n ≡ a + 1 + n - (a + 1) = omega arith in
    ap (λ k. take k (drop a xs)) all
    ∙ ap (take (suc n)) (drop_more xs a d lt)
    ∙ ap (λ k. get_or xs a d ∷ take k (drop (a + 1) xs)) rest

-- a place that was set, and nothing up to it was written after
set_stays : {A : Type 0} (d : A) (xs ys : List A) (a : ℕ) (v : A) → a < length xs → take (a + 1) ys ≡ take (a + 1) (set xs a v) → get_or ys a d ≡ v
set_stays d xs ys a v lt e =
    sym (get_or-take (a + 1) ys a d (omega arith))
    ∙ ap (λ zs. get_or zs a d) e
    ∙ get_or-take (a + 1) (set xs a v) a d (omega arith)
    ∙ get_or-set_same xs a v d lt

pub before_set : {A : Type 0} (xs ys : List A) (a : ℕ) (v : A) → take (a + 1) ys ≡ take (a + 1) (set xs a v) → take a ys ≡ take a xs
before_set xs ys a v e =
    sym (take-take a (a + 1) ys (omega arith))
    ∙ ap (take a) e
    ∙ take-take a (a + 1) (set xs a v) (omega arith)
    ∙ take-set-le a xs a v (omega arith)

module _ (e : Expression) (es : List Expression) (p : Places) (place v : ℕ) (old : List ℕ) (after : p.end ≤ place) where
  -- a write after the caller's places leaves what it sees
  same_caller : held_at p (set old place v) ≡ held_at p old
  same_caller = held_before p place (set old place v) old after (take-set-le place old place v (omega arith))

  -- one argument more
  pub pass_more : (n : ℕ) (new : List ℕ) → place < length old → length new ≡ length old → value e (variables_in (held_at p old)) ≡ Some v
      → values es (variables_in (held_at p (set old place v))) ≡ Some (slice_range new (place + 1) (place + 1 + n)) → take (place + 1) new ≡ take (place + 1) (set old place v)
      → values (e ∷ es) (variables_in (held_at p old)) ≡ Some (slice_range new place (place + suc n))
  pass_more n new lt len first rest before =
      ap (λ o. value_and o (values es (variables_in (held_at p old)))) first
      ∙ ap (λ l. value_and (Some v) (values es (variables_in l))) (sym same_caller)
      ∙ ap (value_and (Some v)) rest
      ∙ ap (λ w. Some (w ∷ slice_range new (place + 1) (place + 1 + n))) (sym (set_stays 0 old new place v lt before))
      ∙ ap (λ l. Some l) (sym (range_more 0 new place n (omega (arith, lt, len))))

-- one place more holds this value
pub wiped_more : {A : Type 0} (v : A) (old all : List A) (start place : ℕ) → start ≤ place → place < length all → take place all ≡ take start old ++ replicate (place - start) v
    → take (place + 1) (set all place v) ≡ take start old ++ replicate (place + 1 - start) v
wiped_more v old all start place le lt so_far =
    let next' : place - start + 1 ≡ place + 1 - start = omega (arith, le) in
    take_more_set all place v lt
    ∙ ap (λ l. l ++ v ∷ []) so_far
    ∙ append_assoc (take start old) (replicate (place - start) v) (v ∷ [])
    ∙ ap (λ l. take start old ++ l) (replicate_more (place - start) v)
    ∙ ap (λ n. take start old ++ replicate n v) next'

module _ {A : Type 0} (v : A) (p : Places) (old new : List A) (room : p.start ≤ length old) (all : take p.end new ≡ take p.start old ++ replicate (size p) v) where
  pub wiped : held_at p new ≡ replicate (size p) v
  wiped = between_is new p.start p.end ∙ ap (drop p.start) all ∙ drop_at (take p.start old) (replicate (size p) v) p.start (length-take-le p.start old room)

  pub before_wiped : p.start ≤ p.end → take p.start new ≡ take p.start old
  before_wiped order =
      sym (take-take p.start p.end new order) ∙ ap (take p.start) all ∙ take_at (take p.start old) (replicate (size p) v) p.start (length-take-le p.start old room)

-- the values of arguments as the variables of a body
argument_at : (vs : List ℕ) (i : ℕ) → variables_in vs i ≡ arguments vs i
argument_at [] i = refl
argument_at (v ∷ vs) zero = refl
argument_at (v ∷ vs) (suc i) = argument_at vs i

pub arguments_are : (vs : List ℕ) → ◌≡◌ {A = ℕ → ℕ} (variables_in vs) (arguments vs)
arguments_are vs = fun_ext (argument_at vs)
