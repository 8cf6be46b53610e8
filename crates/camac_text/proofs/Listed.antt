-- Lists of names and of declarations, and what is put after them.
use Rattle.std.proofs.Common.{false, ◌≡◌, ℕ, ◌+◌, Bool, true, not, ◌&&◌, nat_eq, List, [], ◌∷◌, ◌++◌, length, take, drop, Some, refl, sym, ap, ◌∙◌, append_assoc, arith}
use Rattle.std.specs.Prelude.{slice_get, option_and_then}
use Rattle.std.specs.Str.{bytes_eq}
use Rattle.std.proofs.Math.Bool.{and_comm}
use Rattle.std.proofs.Math.Seq.{take-append_seam, drop-append_seam}
use Rattle.camac_lang.specs.Scope.{Before, are_declarable, declared, all_declared}
use Rattle.camac_lang.specs.Tests.{each, total, is_name, is_new, are_new}
use Rattle.camac_lang.specs.Tree.{Text, Item, Script}
use Rattle.camac_text_statements.proofs.Bodies.{and_then_some}

-- ---- lists

pub at_place : {A : Type 0} (xs : List A) (x : A) (ys : List A) → slice_get ((xs ++ x ∷ []) ++ ys) (length xs) ≡ Some x
at_place [] x ys = refl
at_place (z ∷ xs) x ys = at_place xs x ys

pub between : {A : Type 0} (xs ys zs : List A) → take (length ys) (drop (length xs) ((xs ++ ys) ++ zs)) ≡ ys
between xs ys zs =
    ap (λ (w : List _). take (length ys) (drop (length xs) w)) (append_assoc xs ys zs)
    ∙ ap (take (length ys)) (drop-append_seam xs (ys ++ zs))
    ∙ take-append_seam ys zs

pub total_push : {A : Type 0} (f : A → ℕ) (xs : List A) (x : A) → total f (xs ++ x ∷ []) ≡ total f xs + f x
total_push f [] x = omega arith
total_push f (y ∷ ys) x = let rest : total f (ys ++ x ∷ []) ≡ total f ys + f x = total_push f ys x in omega arith

pub same_number : (n : ℕ) → nat_eq n n ≡ true
same_number n = grind arith

-- ---- names

pub each_append : {A : Type 0} (test : A → Bool) (xs ys : List A) → each test (xs ++ ys) ≡ (each test xs && each test ys)
each_append test [] ys = refl
each_append test (x ∷ xs) ys = ap (λ (b : Bool). test x && b) (each_append test xs ys) ∙ sym (and_assoc (test x) (each test xs) (each test ys)) where
  and_assoc : (a b c : Bool) → ((a && b) && c) ≡ (a && (b && c))
  and_assoc true b c = refl
  and_assoc false b c = refl

-- new names among those of one list are new among those of another where each name is so
pub new_same : (xs ys zs : List Text) → ((x : Text) → is_new x ys ≡ is_new x zs) → are_new xs ys ≡ are_new xs zs
new_same [] ys zs same = refl
new_same (x ∷ xs) ys zs same =
    ap (λ (b : Bool). b && are_new xs (x ∷ ys)) (same x)
    ∙ ap (λ (b : Bool). is_new x zs && b) (new_same xs (x ∷ ys) (x ∷ zs) (λ z. ap (λ (b : Bool). not (bytes_eq z x) && b) (same z)))

pub declarable_same : (xs ys zs : List Text) → ((x : Text) → is_new x ys ≡ is_new x zs) → are_declarable xs ys ≡ are_declarable xs zs
declarable_same xs ys zs same = ap (λ (b : Bool). each is_name xs && b) (new_same xs ys zs same)

-- names before are as good as names after
pub prefix_or_after : (names known : List Text) (xs : List Text) → ((x : Text) → is_new x known ≡ is_new x xs) → (x : Text) → is_new x (names ++ known) ≡ is_new x (xs ++ names)
prefix_or_after names known xs same x =
    each_append _ names known ∙ ap (λ (b : Bool). is_new x names && b) (same x) ∙ and_comm (is_new x names) (is_new x xs) ∙ sym (each_append _ xs names)

-- ---- declarations

pub declared_push : (t : Script) (b : Before) (xs : List Item) (i : Item) (k m : Before) → all_declared t b xs ≡ Some k → declared t k i ≡ Some m → all_declared t b (xs ++ i ∷ []) ≡ Some m
declared_push t b [] i k m e h = ap (option_and_then (λ (j : Before). Some j)) (ap (λ (j : Before). declared t j i) (some_before b k e) ∙ h) where
  some_before : (b k : Before) → Some b ≡ Some k → b ≡ k
  some_before b k e = cc
declared_push t b (y ∷ ys) i k m e h =
    let first = and_then_some (λ (j : Before). all_declared t j ys) (declared t b y) k e in
    ap (option_and_then (λ (j : Before). all_declared t j (ys ++ i ∷ []))) first.1 ∙ declared_push t first.0 ys i k m first.2 h
