-- Values that are there unless a rule is broken, and tests that are joined.
use Rattle.std.proofs.Common.{◌≡◌, Option, Some, None, Bool, true, false, refl, ap, ◌∙◌}
use Rattle.std.specs.Prelude.{◌&&◌, option_and_then}
use Rattle.std.proofs.lemmas.Bool.{and_parts, and_from}
use Rattle.camac_lang.specs.Tests.{unless_broken}

-- where one is there, so is the other, and they are the same
abbrev pub Implies : {A : Type 0} → Option A → Option A → Type 0
Implies {A} o p = (k : A) → o ≡ Some k → p ≡ Some k

pub unless_parts : {A : Type 0} (t : Bool) (a k : A) → unless_broken t a ≡ Some k → (t ≡ true) × (a ≡ k)
unless_parts true a k e = (refl, cc)
unless_parts false a k e = absurd (cc)

pub then_parts : {A B : Type 0} (f : A → Option B) (o : Option A) (k : B) → option_and_then f o ≡ Some k → (a : A) × (o ≡ Some a) × (f a ≡ Some k)
then_parts f None k e = absurd (cc)
then_parts f (Some a) k e = (a, refl, e)

pub unless_implies : {A : Type 0} (t u : Bool) (a : A) → (t ≡ true → u ≡ true) → Implies (unless_broken t a) (unless_broken u a)
unless_implies true true a h k e = e
unless_implies true false a h k e = let bad : false ≡ true = h refl in absurd (cc)
unless_implies false u a h k e = absurd (cc)

pub then_implies : {A B : Type 0} (f g : A → Option B) (o p : Option A) → Implies o p → ((a : A) → Implies (f a) (g a)) → Implies (option_and_then f o) (option_and_then g p)
then_implies f g None p h i k e = absurd (cc)
then_implies f g (Some a) None h i k e = let bad : None ≡ Some a = h a refl in absurd (cc)
then_implies f g (Some a) (Some b) h i k e = let same : Some b ≡ Some a = h a refl in let eq : b ≡ a = cc in rw eq (i a k e)

pub and_implies : (a b c d : Bool) → (a ≡ true → c ≡ true) → (b ≡ true → d ≡ true) → (a && b) ≡ true → (c && d) ≡ true
and_implies a b c d f g e = and_from c d (f (and_parts a b e).0) (g (and_parts a b e).1)

pub and_keeps : (a b d : Bool) → (b ≡ true → d ≡ true) → (a && b) ≡ true → (a && d) ≡ true
and_keeps a b d g e = and_from a d (and_parts a b e).0 (g (and_parts a b e).1)

pub then_is : {A B : Type 0} (f : A → Option B) (o : Option A) (a : A) (k : B) → o ≡ Some a → f a ≡ Some k → option_and_then f o ≡ Some k
then_is f o a k e h = ap (option_and_then f) e ∙ h

pub unless_is : {A : Type 0} (t : Bool) (a : A) → t ≡ true → unless_broken t a ≡ Some a
unless_is t a e = rw e refl
