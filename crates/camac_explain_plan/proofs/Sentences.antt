-- The sentence of a plan, by what its text is.
use Rattle.std.proofs.Common.{◌≡◌, ℕ, Bool, true, false, List, [], Option, Some, None, Global, option_map, string_bytes, IfOk, ap, sym, ◌∙◌, refl}
use Rattle.std.proofs.lemmas.Bool.{false≢true}
use Rattle.std.proofs.lemmas.Str.{is_utf8-from_IsUtf8, IsUtf8-from_is_utf8}
use Rattle.std.specs.Prelude.{Result, Ok, Err, String, if◌then◌else◌}
use Rattle.std.specs.Str.{IsUtf8, is_utf8}
use Rattle.toml.specs.Data.{Members}
use Rattle.toml.specs.Parse.{parse_document}
use Rattle.camac_plan.specs.declared.fault.PlanCase.{PlanCase}
use Rattle.camac_explain_plan.specs.Sentence.{IsPlanSentence, IsReadSentence, by_table, document, in_table, nested_at, nested_or, nested_text, no_table}

pub told_nested : {E : Type 0} (text : List ℕ) (c : PlanCase) (at : ℕ) (o : Option ℕ) (r : Result (Option (String Global)) E) → o ≡ nested_at c → o ≡ Some at
    → IfOk r (λ s. option_map string_bytes s ≡ Some (nested_text text at)) → IfOk r (λ s. IsPlanSentence text c (option_map string_bytes s))
told_nested text c at o (Ok s) e f h = ([], h ∙ sym (ap (λ n. nested_or text n (by_table [] text c (document text))) (sym e ∙ f)))
told_nested text c at o (Err x) e f h = tt

pub told_read : {E : Type 0} (text : List ℕ) (c : PlanCase) (o : Option ℕ) (r : Result (Option (String Global)) E) → o ≡ nested_at c → o ≡ None
    → IfOk r (λ s. IsReadSentence text c (option_map string_bytes s)) → IfOk r (λ s. IsPlanSentence text c (option_map string_bytes s))
told_read text c o (Ok s) e f (m, h) = (m, h ∙ sym (ap (λ n. nested_or text n (by_table m text c (document text))) (sym e ∙ f)))
told_read text c o (Err x) e f h = tt

document-read : (text : List ℕ) (ms : Members) → IsUtf8 text × (parse_document text ≡ Some ms) → document text ≡ Some ms
document-read text ms (u, e) = ap (λ b. if b then parse_document text else None) (is_utf8-from_IsUtf8 text u) ∙ e

refused_if : (text : List ℕ) (b : Bool) (o : Option Members) → is_utf8 text ≡ b → (IsUtf8 text → o ≡ None) → (if b then o else None) ≡ None
refused_if text true o e h = h (IsUtf8-from_is_utf8 text e)
refused_if text false o e h = refl

pub told_table : {E : Type 0} (text : List ℕ) (c : PlanCase) (ms : Members) (r : Result (Option (String Global)) E) → IsUtf8 text × (parse_document text ≡ Some ms)
    → IfOk r (λ s. option_map string_bytes s ≡ in_table ms c) → IfOk r (λ s. IsReadSentence text c (option_map string_bytes s))
told_table text c ms (Ok s) e h = ([], h ∙ sym (ap (by_table [] text c) (document-read text ms e)))
told_table text c ms (Err x) e h = tt

pub told_text : {E : Type 0} (text : List ℕ) (c : PlanCase) (message : List ℕ) (r : Result (Option (String Global)) E) → (IsUtf8 text → parse_document text ≡ None)
    → IfOk r (λ s. option_map string_bytes s ≡ no_table message text c) → IfOk r (λ s. IsReadSentence text c (option_map string_bytes s))
told_text text c message (Ok s) e h = (message, h ∙ sym (ap (by_table message text c) (refused_if text (is_utf8 text) (parse_document text) refl e)))
told_text text c message (Err x) e h = tt
