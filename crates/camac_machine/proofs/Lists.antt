-- A list by its first element, by its last, and by one at a place.
use Rattle.std.proofs.Common.{◌≡◌, ℕ, zero, suc, ◌+◌, ◌-◌, ◌<◌, ◌≤◌, ◌==◌, true, false, List, [], ◌∷◌, ◌++◌, length, length-append, take, drop, get_or, take_at, slice_index_or, slice_set, Some, refl, sym, ap, subst, ◌∙◌, arith}
use Rattle.std.specs.Prelude.{slice_get}
use Rattle.std.specs.Borrow.{Bor}
use Rattle.std.proofs.lemmas.Bool.{false≢true, eqb-true}
use Rattle.camac_lang.specs.declared.tree.Stmt.{Stmt}
use Rattle.camac_machine.specs.declared.machine.Frame.{Frame}
use Rattle.camac_machine.specs.declared.machine.Owner.TheVariants.{For, Return}
use Rattle.camac_machine.specs.declared.scope.Scope.{Scope}
use Rattle.camac_machine.specs.MachineState.{TakesFirst, TurnsAgain, ReturnsTo}

take_all : {A : Type 0} (xs : List A) → take (length xs) xs ≡ xs
take_all [] = refl
take_all (x ∷ xs) = ap (λ ys. x ∷ ys) (take_all xs)

pub first_of : {A : Type 0} (xs : List A) (x : A) → 1 ≤ length xs → x ≡ get_or xs 0 x → xs ≡ x ∷ take (length xs - 1) (drop 1 xs)
first_of [] x h e = absurd (omega arith)
first_of (y ∷ ys) x h e =
    let n : length ys ≡ length (y ∷ ys) - 1 = omega arith in
    let same : x ≡ y = e in
    ap (λ z. z ∷ ys) (sym same) ∙ ap (λ zs. x ∷ zs) (sym (take_all ys)) ∙ ap (λ k. x ∷ take k ys) n

-- a list by its last element
pub split_last : {A : Type 0} (n : ℕ) (xs : List A) (d : A) → length xs ≡ suc n → (before : List A) × (xs ≡ before ++ slice_index_or xs n d ∷ []) × ((y : A) → slice_set xs n y ≡ before ++ y ∷ [])
split_last zero [] d e = absurd (omega (arith, e))
split_last zero (x ∷ []) d e = ([], refl, λ y. refl)
split_last zero (x ∷ z ∷ zs) d e = absurd (omega (arith, e))
split_last (suc n) [] d e = absurd (omega (arith, e))
split_last (suc n) (x ∷ xs) d e =
    let less : length xs ≡ suc n = omega (arith, e) in
    let r = split_last n xs d less in (x ∷ r.0, ap (λ l. x ∷ l) r.1, λ y. ap (λ l. x ∷ l) (r.2 y))

-- the last frame with its first statement taken
pub first_taken : (fs : List Frame) (d : Frame) (rest' : Bor (List Stmt)) (first : Stmt) → 1 ≤ length fs → (slice_index_or fs (length fs - 1) d).rest.now ≡ first ∷ rest'.now → TakesFirst fs first (slice_set fs (length fs - 1) (record (slice_index_or fs (length fs - 1) d) { rest = rest' }))
first_taken fs d rest' first some e =
    let r = split_last (length fs - 1) fs d (omega (arith, some)) in
    record { before = r.0; last = slice_index_or fs (length fs - 1) d; rest = rest'; was = r.1; first_is = e; is = r.2 (record (slice_index_or fs (length fs - 1) d) { rest = rest' }) }

-- the last frame with the next turn of its `for`
pub turned_again : (fs : List Frame) (d : Frame) (x v w n : ℕ) (body : Bor (List Stmt)) → 1 ≤ length fs → (slice_index_or fs (length fs - 1) d).owner ≡ For x v w n body → v < w → TurnsAgain fs x (v + 1) (slice_set fs (length fs - 1) (record { rest = body; owner = For x (v + 1) w (n - 1) body }))
turned_again fs d x v w n body some e below =
    let r = split_last (length fs - 1) fs d (omega (arith, some)) in
    let f : Frame = slice_index_or fs (length fs - 1) d in
    record {
      before = r.0;
      rest = f.rest;
      current = v;
      last = w;
      turns = n;
      body = body;
      was = r.1 ∙ ap (λ o. r.0 ++ record { rest = f.rest; owner = o } ∷ []) e;
      below = below;
      value_is = refl;
      is = r.2 (record { rest = body; owner = For x (v + 1) w (n - 1) body });
    }

-- the last frame with the caller of its procedure
pub caller_last : (fs : List Frame) (d : Frame) (p : Scope) → 1 ≤ length fs → (slice_index_or fs (length fs - 1) d).owner ≡ Return p → ReturnsTo fs p
caller_last fs d p some e =
    let r = split_last (length fs - 1) fs d (omega (arith, some)) in
    let f : Frame = slice_index_or fs (length fs - 1) d in
    record { before = r.0; rest = f.rest; was = r.1 ∙ ap (λ o. r.0 ++ record { rest = f.rest; owner = o } ∷ []) e }

-- a slice that was written whole
pub filled : {A : Type 0} (xs ws : List A) → length ws ≡ length xs → take (length xs) (ws ++ drop (length ws) xs) ≡ ws
filled [] [] e = refl
filled [] (w ∷ ws) e = absurd (omega (arith, e))
filled (x ∷ xs) [] e = absurd (omega (arith, e))
filled (x ∷ xs) (w ∷ ws) e = let less : length ws ≡ length xs = omega (arith, e) in ap (λ l. w ∷ l) (filled xs ws less)

-- and what holds of it
pub of_whole : {A : Type 0} (P : List A → List A → Type 0) (xs ys ws : List A) → length ws ≡ length ys → ys ≡ xs → P ys ws → P xs (take (length xs) (ws ++ drop (length ws) xs))
of_whole P xs ys ws long e p = subst (λ l. P xs l) (sym (filled xs ws (long ∙ ap length e))) (subst (λ l. P l ws) e p)

pub longer : {A : Type 0} (xs : List A) (x : A) → length (xs ++ x ∷ []) ≡ length xs + 1
longer xs x = omega (arith, length-append xs (x ∷ []))

pub without_last : {A : Type 0} (before : List A) (x : A) (xs : List A) → xs ≡ before ++ x ∷ [] → take (length xs - 1) xs ≡ before
without_last before x xs e =
    let n : length xs - 1 ≡ length before = omega (arith, ap length e, longer before x) in
    ap (λ k. take k xs) n ∙ ap (take (length before)) e ∙ take_at before (x ∷ []) (length before) refl

-- whether a list is empty, by its length
pub some_of : {A : Type 0} (xs : List A) → false ≡ (length xs == 0) → 1 ≤ length xs
some_of [] e = absurd (false≢true e)
some_of (x ∷ xs) e = omega arith

pub none_of : {A : Type 0} (xs : List A) → true ≡ (length xs == 0) → xs ≡ []
none_of [] e = refl
none_of (x ∷ xs) e = let none = eqb-true (length (x ∷ xs)) 0 (sym e) in absurd (omega (arith, none))

-- a place of a list, and what follows it
pub place : {A : Type 0} (xs : List A) (i : ℕ) → i < length xs → (x : A) × (slice_get xs i ≡ Some x) × (drop i xs ≡ x ∷ drop (i + 1) xs)
place [] i h = absurd (omega arith)
place (x ∷ xs) zero h = (x, refl, refl)
place (x ∷ xs) (suc i) h =
    let p = place xs i (omega arith) in
    let e : suc (i + 1) ≡ suc i + 1 = omega arith in (p.0, p.1, p.2 ∙ ap (λ n. p.0 ∷ drop n (x ∷ xs)) e)
