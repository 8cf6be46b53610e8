-- What may be meant, in words.
use Rattle.std.specs.Prelude.{ℕ, List, [], ◌∷◌, decimal, nat_eq, if◌then◌else◌}
use Rattle.camac_lines.specs.Words.{quoted, shown_text}
use Rattle.camac_sentence.specs.Filled.{filled, part_text, with}
use Rattle.camac_explain_text.specs.declared.hint.Hint.{Hint}
use Rattle.camac_explain_text.specs.declared.hint.Hint.TheVariants as hint
use Rattle.camac_explain_text.specs.declared.texts.TheConstants.{ABSENT, NO_ARROW, TAKES, TAKES_ONE}

-- how many arguments a procedure takes
abbrev pub takes_text : (procedure : List ℕ) → (count : ℕ) → List ℕ
takes_text procedure count =
    if nat_eq count 1 then with TAKES_ONE.now (quoted procedure) else filled TAKES.now (quoted procedure ∷ decimal count ∷ [])

abbrev pub no_arrow_text : (name : List ℕ) → List ℕ
no_arrow_text name = filled NO_ARROW.now (shown_text name ∷ shown_text name ∷ shown_text name ∷ [])

-- the language has none; what to write in its place
abbrev pub absent_text : List ℕ × List ℕ → List ℕ
absent_text t = filled ABSENT.now (quoted t.0 ∷ t.1 ∷ [])

abbrev pub hint_text : Hint → List ℕ
hint_text (hint.Told text) = text.now
hint_text (hint.One text a) = with text.now (part_text a)
hint_text (hint.Two text a b) = filled text.now (part_text a ∷ part_text b ∷ [])
hint_text (hint.Three text a b c) = filled text.now (part_text a ∷ part_text b ∷ part_text c ∷ [])
