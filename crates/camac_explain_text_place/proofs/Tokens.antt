-- The tokens of a text whose cutting is known by an equation, and the last of several.
use Rattle.std.proofs.Common.{◌≡◌, ℕ, List, [], sym, ap, ◌∙◌, ◌-◌, ◌∷◌, ◌++◌, length, refl, arith, length-append}
use Rattle.std.specs.Prelude.{Ok, Err}
use Rattle.std.proofs.lemmas.List.{drop_at}
use Rattle.camac_tokens.specs.Fault.{Fault}
use Rattle.camac_tokens.specs.Scanning.{tokens_of}
use Rattle.camac_tokens.specs.declared.token.Token.{Token}
use Rattle.camac_tokens.specs.declared.token.TokenKind.{TokenKind}
use Rattle.camac_explain_text_place.specs.Place.{or_none, tokens_in}
use Rattle.camac_explain_text_place.specs.Before.{last_alone, with_parameters}
use Rattle.camac_explain_text_place.specs.declared.before.Declared.{Declared}

pub of_tokens : (text : List ℕ) (ts : List Token) → tokens_of text ≡ Ok ts → ts ≡ tokens_in text
of_tokens text ts e = sym (ap or_none e)

pub of_token_fault : (text : List ℕ) (f : Fault) (ts : List Token) → tokens_of text ≡ Err f → ts ≡ [] → ts ≡ tokens_in text
of_token_fault text f ts e none = none ∙ sym (ap or_none e)

before_last : (ks : List TokenKind) (k : TokenKind) → length ks ≡ length (ks ++ (k ∷ [])) - 1
before_last ks k = simp length-append (omega arith)

pub last_of_more : (ks : List TokenKind) (k : TokenKind) → last_alone (ks ++ (k ∷ [])) ≡ k ∷ []
last_of_more ks k = drop_at ks (k ∷ []) (length (ks ++ (k ∷ [])) - 1) (before_last ks k)

pub with_last : (count : ℕ) (ds : List Declared) (d : Declared) → with_parameters count (ds ++ (d ∷ [])) ≡ ds ++ (record d { parameters = count } ∷ [])
with_last count [] d = refl
with_last count (e ∷ []) d = refl
with_last count (e ∷ f ∷ ds) d = ap (λ rest. e ∷ rest) (with_last count (f ∷ ds) d)
