-- The parts of an explanation, put one after the other; and an entry that is found.
use Rattle.std.proofs.Common.{◌≡◌, ℕ, List, ◌++◌, Option, ap, ◌∙◌, option_map, map, slice_get}
use Rattle.camac_explain_rule.specs.Advice.{Told, why_and_fix}
use Rattle.camac_explain.specs.Explanation.{closing, sentence_line}
use Rattle.std.proofs.lemmas.Option.{slice_get-map}

pub same_closing : (hint hint' : Option (List ℕ)) (why fix code code' : List ℕ) (t : Told) → hint ≡ hint' → why ≡ t.why → fix ≡ t.fix → code ≡ code'
    → closing hint (why_and_fix why fix) code ≡ closing hint' t code'
same_closing hint hint' why fix code code' t e f g h =
    ap (λ o. closing o (why_and_fix why fix) code) e ∙ ap (λ x. closing hint' (why_and_fix x fix) code) f ∙ ap (λ y. closing hint' (why_and_fix t.why y) code) g
    ∙ ap (λ z. closing hint' (why_and_fix t.why t.fix) z) h

-- source line, sentence and what closes
pub explained : (source l1 l2 l3 advice wanted : List ℕ) (s t : Option (List ℕ)) → l1 ≡ source → l2 ≡ l1 ++ sentence_line s → s ≡ t → l3 ≡ l2 ++ advice
    → advice ≡ wanted → l3 ≡ (source ++ sentence_line t) ++ wanted
explained source l1 l2 l3 advice wanted s t e1 e2 e3 e4 e5 =
    e4 ∙ ap (λ l. l ++ advice) (e2 ∙ ap (λ l. l ++ sentence_line s) e1 ∙ ap (λ o. source ++ sentence_line o) e3)
    ∙ ap (λ a. (source ++ sentence_line t) ++ a) e5

-- An entry that is found, as contracts see it.

pub found : {A B : Type 0} (f : A → B) (xs : List A) (i : ℕ) → slice_get (map f xs) i ≡ option_map f (slice_get xs i)
found f xs i = slice_get-map f xs i
