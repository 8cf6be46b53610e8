-- A set of choices, as a number and as what was looked for.
use Rattle.std.proofs.Common.{◌≡◌, ℕ, zero, suc, ◌+◌, List, [], ◌∷◌, map, take, Some, ap, ◌∙◌, sym, length, get_or, ◌<◌, arith, add-one, Option, ◌*◌, ◌^◌, ◌%◌, Bool, true, false, eqb, ◌||◌, bit_or, refl}
use Rattle.std.proofs.lemmas.Option.{slice_get-get_or}
use Rattle.std.proofs.Math.Path.{fun_ext}
use Rattle.std.proofs.lemmas.Bool.{eqb-true, eqb-false}
use Rattle.std.proofs.lemmas.Nat.Bits.{bit_at_set_same, bit_at_set_other}
use Rattle.std.specs.Prelude.{slice_get}
use Rattle.std.specs.Int.{bit_at}
use Rattle.camac_lang.specs.Tests.{total}
use mir.Syntax.{w128}
use denote.Enum.Declared.{tag_of, rowss}
use denote.Enum.Enum.{tag_below}
use denote.Enum.Bare.{tag_one}
use Rattle.camac_tokens.specs.contracts.token.Keyword as keyword_type
use Rattle.camac_tokens.specs.contracts.token.Sign as sign_type
use Rattle.camac_tokens.specs.declared.token.Keyword.{Keyword}
use Rattle.camac_tokens.specs.declared.token.Sign.{Sign}
use Rattle.camac_tokens.specs.declared.token.Token.{Token}
use Rattle.camac_tokens.specs.declared.token.TokenKind.{TokenKind}
use Rattle.camac_text_cursor.specs.declared.choice.Choice.{Choice}
use Rattle.camac_text_cursor.specs.declared.choice.Choice.TheVariants as choice
use Rattle.camac_text_cursor.specs.declared.choice.Choices.{Choices}
use Rattle.camac_text_cursor.specs.Choice.{held}
use Rattle.camac_text_cursor.specs.Expected.{suits, Admits}
use Rattle.camac_text_cursor.specs.Tried.{place, none, added, Told, noted}
use Rattle.camac_text_cursor.proofs.Places.{noted_all, carried, admits}

-- Sums over the prefix of a list.

same_value : {A : Type 0} (x y : A) → Some x ≡ Some y → x ≡ y
same_value x y e = cc

-- one more
prefix_more : {A B : Type 0} (f : B → ℕ) (g : A → B) (xs : List A) (i : ℕ) (x : A) → slice_get xs i ≡ Some x → total f (map g (take (suc i) xs)) ≡ total f (map g (take i xs)) + f (g x)
prefix_more f g [] i x e = absurd cc
prefix_more f g (y ∷ ys) zero x e = let same : f (g y) ≡ f (g x) = ap (λ (z : _). f (g z)) (same_value y x e) in omega arith
prefix_more f g (y ∷ ys) (suc i) x e = let rest : total f (map g (take (suc i) ys)) ≡ total f (map g (take i ys)) + f (g x) = prefix_more f g ys i x e in omega arith

pub total_more : {A B : Type 0} (f : B → ℕ) (g : A → B) (xs : List A) (i : ℕ) (x : A) → i < length xs → x ≡ get_or xs i x → total f (map g (take (i + 1) xs)) ≡ total f (map g (take i xs)) + f (g x)
total_more f g xs i x within is = rw add-one (prefix_more f g xs i x (slice_get-get_or xs i x within ∙ ap (λ (z : _). Some z) (sym is)))

-- A set of choices: as a number, and as what was looked for.

word_below : (w : Keyword) → tag_of keyword_type.the_type w < 47
word_below w = tag_below (rowss keyword_type.the_type.parts) (keyword_type.the_type.to w)

sign_below : (s : Sign) → tag_of sign_type.the_type s < 20
sign_below s = tag_below (rowss sign_type.the_type.parts) (sign_type.the_type.to s)

-- a choice has a number of its own
pub same_place : (c d : Choice) → place c ≡ place d → c ≡ d
same_place (choice.Word v) (choice.Word w) e = ap choice.Word (tag_one keyword_type.the_type tt v w e)
same_place (choice.Mark v) (choice.Mark w) e = ap choice.Mark (tag_one sign_type.the_type tt v w (omega (arith, e)))
same_place (choice.Word v) d e = absurd (let h = word_below v in omega (arith, e, h))
same_place (choice.Mark v) (choice.Word w) e = absurd (let h = word_below w in omega (arith, e, h))
same_place (choice.Mark v) d e = absurd (let h = sign_below v in omega (arith, e, h))
same_place c (choice.Word w) e = absurd (let h = word_below w in omega (arith, e, h))
same_place c (choice.Mark w) e = absurd (let h = sign_below w in omega (arith, e, h))
same_place choice.Name choice.Name e = refl
same_place choice.Number choice.Number e = refl
same_place choice.Declaration choice.Declaration e = refl
same_place choice.Statement choice.Statement e = refl
same_place choice.Flag choice.Flag e = refl
same_place choice.Switch choice.Switch e = refl
same_place choice.Arrow choice.Arrow e = refl
same_place choice.Sum choice.Sum e = refl
same_place choice.Product choice.Product e = refl
same_place choice.Comparison choice.Comparison e = refl
same_place choice.Each choice.Each e = refl
same_place c d e = absurd (omega (arith, e))

place_below : (c : Choice) → place c < 128
place_below (choice.Word w) = let h = word_below w in omega arith
place_below (choice.Mark s) = let h = sign_below s in omega arith
place_below _ = omega arith

one_added : (set : Choices) (c d : Choice) (b : Bool) → eqb (place c) (place d) ≡ b → eqb (bit_at (bit_or set.0 (1 * 2 ^ place c % 2 ^ 128)) (place d)) 1 ≡ (b || held set d)
one_added set c d true e =
    ap (λ (i : ℕ). eqb (bit_at (bit_or set.0 (1 * 2 ^ place c % 2 ^ 128)) i) 1) (sym (eqb-true (place c) (place d) e))
    ∙ ap (λ (m : ℕ). eqb m 1) (bit_at_set_same w128 set.0 (place c) (place_below c))
one_added set c d false e = ap (λ (m : ℕ). eqb m 1) (bit_at_set_other w128 set.0 (place c) (place_below c) (place d) (λ same. eqb-false (place c) (place d) e (sym same)))

pub held_with : (set : Choices) (c : Choice) → held (record { 0 = bit_or set.0 (1 * 2 ^ place c % 2 ^ 128) }) ≡ added c (held set)
held_with set c = fun_ext (λ d. one_added set c d (eqb (place c) (place d)) refl)

-- ---- what was looked for

pub set_of : List Choice → Choice → Bool
set_of [] = none
set_of (c ∷ cs) = added c (set_of cs)

pub told_set : (cs : List Choice) → noted_all cs (Told none) ≡ Told (set_of cs)
unfolding set_of
told_set [] = refl
told_set (c ∷ cs) = ap (noted c) (told_set cs)

pub none_carried : (ts : List Token) → carried ts (Told none) ≡ Told none
none_carried [] = refl
none_carried (t ∷ ts) = refl

or_true : (b : Bool) → (b || true) ≡ true
or_true true = refl
or_true false = refl

same_number : (n : ℕ) → eqb n n ≡ true
same_number n = grind arith

-- the set admits what its list admits
admitted_more : (c : Choice) (cs : List Choice) (at : Option TokenKind) (b : Bool) → suits c at ≡ b → (b || admits cs at) ≡ true → (admits cs at ≡ true → Admits (set_of cs) at) → Admits (added c (set_of cs)) at
admitted_more c cs at true fit is rest = (c, ap (λ (b : Bool). b || set_of cs c) (same_number (place c)), fit)
admitted_more c cs at false free is rest = let d = rest is in (d.0, ap (λ (b : Bool). eqb (place c) (place d.0) || b) d.1 ∙ or_true (eqb (place c) (place d.0)), d.2)

pub admitted_in : (cs : List Choice) (at : Option TokenKind) → admits cs at ≡ true → Admits (set_of cs) at
unfolding set_of
admitted_in [] at is = absurd cc
admitted_in (c ∷ cs) at is = admitted_more c cs at (suits c at) refl is (admitted_in cs at)

in_more : (c : Choice) (cs : List Choice) (at : Option TokenKind) (d : Choice) (b : Bool) → eqb (place c) (place d) ≡ b → (b || set_of cs d) ≡ true → suits d at ≡ true → (Admits (set_of cs) at → admits cs at ≡ true) → (suits c at || admits cs at) ≡ true
in_more c cs at d true e has fit rest = ap (λ (w : Choice). suits w at || admits cs at) (same_place c d (eqb-true (place c) (place d) e)) ∙ ap (λ (b : Bool). b || admits cs at) fit
in_more c cs at d false e has fit rest = ap (λ (b : Bool). suits c at || b) (rest (d, has, fit)) ∙ or_true (suits c at)

pub in_admitted : (cs : List Choice) (at : Option TokenKind) → Admits (set_of cs) at → admits cs at ≡ true
unfolding set_of
in_admitted [] at is = absurd (let h = is.1 in cc)
in_admitted (c ∷ cs) at is = in_more c cs at is.0 (eqb (place c) (place is.0)) refl is.1 is.2 (in_admitted cs at)
