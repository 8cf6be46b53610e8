-- A loop of the parser beside the loop that reads.
use Rattle.std.proofs.Common.{◌≡◌, Bool, true, false, List, [], ◌∷◌, ◌++◌, Option, Result, Ok, refl, sym, ap, ◌∙◌}
use Rattle.camac_tokens.specs.declared.token.TokenKind.{TokenKind}
use Rattle.camac_text_cursor.specs.Parser.{FailsWith}
use Rattle.camac_text_cursor.specs.declared.choice.Choice.{Choice}
use Rattle.camac_text_cursor.specs.Tried.{Tried}
use Rattle.camac_tokens.specs.declared.fault.TextFault.{TextFault}
use Rattle.camac_tokens.specs.declared.fault.TextFault.TheVariants as fault
use Rattle.camac_text_cursor.specs.Reading.{State, Reader, then_read, give, kind_of, while_next, one_more, Fault, missed, missing, until}
use Rattle.camac_text_cursor.proofs.Steps.{Progresses, while_on, while_off}

module _ {A : Type 0} (goes_on : Option TokenKind → Bool) (turn : A → Reader A) (progress : Progresses goes_on turn) (x : A) (s : State) (total : Result (A × State) Fault) where
  pub goes : (y : A) (s' : State) → goes_on (kind_of s.rest) ≡ true → turn x s ≡ Ok (y, s') → while_next goes_on turn x s ≡ total → while_next goes_on turn y s' ≡ total
  goes y s' on took so_far = ap (λ (r : Result (A × State) Fault). then_read r (while_next goes_on turn)) (sym took) ∙ sym (while_on goes_on turn progress x s on) ∙ so_far

  pub fails : (e : TextFault) (tried : Tried) → goes_on (kind_of s.rest) ≡ true → FailsWith e tried (turn x s) → while_next goes_on turn x s ≡ total → FailsWith e tried total
  fails fault.OutOfMemory tried on failed so_far = tt
  fails (fault.Broken case spot) tried on failed so_far = sym so_far ∙ while_on goes_on turn progress x s on ∙ ap (λ (r : Result (A × State) Fault). then_read r (while_next goes_on turn)) failed

  pub ends : goes_on (kind_of s.rest) ≡ false → while_next goes_on turn x s ≡ total → total ≡ Ok (x, s)
  ends off so_far = sym so_far ∙ while_off goes_on turn x s off

-- the same where the token behind the last turn was looked for
module _ {A : Type 0} (c : Choice) (goes_on : Option TokenKind → Bool) (turn : A → Reader A) (progress : Progresses goes_on turn) (x : A) (s : State) (total : Result (A × State) Fault) where
  pub until_goes : (y : A) (s' : State) → goes_on (kind_of s.rest) ≡ true → turn x s ≡ Ok (y, s') → until c goes_on turn x s ≡ total → until c goes_on turn y s' ≡ total
  until_goes y s' on took so_far = ap (λ (r : Result (A × State) Fault). then_read r (missing c)) (goes goes_on turn progress x s (while_next goes_on turn x s) y s' on took refl) ∙ so_far

  pub until_fails : (e : TextFault) (tried : Tried) → goes_on (kind_of s.rest) ≡ true → FailsWith e tried (turn x s) → until c goes_on turn x s ≡ total → FailsWith e tried total
  until_fails fault.OutOfMemory tried on failed so_far = tt
  until_fails (fault.Broken case spot) tried on failed so_far = sym so_far ∙ ap (λ (r : Result (A × State) Fault). then_read r (missing c)) (fails goes_on turn progress x s (while_next goes_on turn x s) (fault.Broken case spot) tried on failed refl)

  pub until_ends : goes_on (kind_of s.rest) ≡ false → until c goes_on turn x s ≡ total → total ≡ Ok (x, missed c s)
  until_ends off so_far = sym so_far ∙ ap (λ (r : Result (A × State) Fault). then_read r (missing c)) (while_off goes_on turn x s off)

-- a loop that makes a list
module _ {A : Type 0} (goes_on : Option TokenKind → Bool) (read : Reader A) (progress : Progresses goes_on (one_more read)) (xs : List A) (s : State) (total : Result (List A × State) Fault) where
  pub more : (x : A) (s' : State) → goes_on (kind_of s.rest) ≡ true → read s ≡ Ok (x, s') → while_next goes_on (one_more read) xs s ≡ total → while_next goes_on (one_more read) (xs ++ x ∷ []) s' ≡ total
  more x s' on took so_far = goes goes_on (one_more read) progress xs s total (xs ++ x ∷ []) s' on (ap (λ (r : Result (A × State) Fault). then_read r (λ y. give (xs ++ y ∷ []))) took) so_far

  pub more_fails : (e : TextFault) (tried : Tried) → goes_on (kind_of s.rest) ≡ true → FailsWith e tried (read s) → while_next goes_on (one_more read) xs s ≡ total → FailsWith e tried total
  more_fails fault.OutOfMemory tried on failed so_far = tt
  more_fails (fault.Broken case spot) tried on failed so_far = fails goes_on (one_more read) progress xs s total (fault.Broken case spot) tried on (ap (λ (r : Result (A × State) Fault). then_read r (λ y. give (xs ++ y ∷ []))) failed) so_far

-- and such a one that makes a list
module _ {A : Type 0} (c : Choice) (goes_on : Option TokenKind → Bool) (read : Reader A) (progress : Progresses goes_on (one_more read)) (xs : List A) (s : State) (total : Result (List A × State) Fault) where
  pub until_more : (x : A) (s' : State) → goes_on (kind_of s.rest) ≡ true → read s ≡ Ok (x, s') → until c goes_on (one_more read) xs s ≡ total → until c goes_on (one_more read) (xs ++ x ∷ []) s' ≡ total
  until_more x s' on took so_far = until_goes c goes_on (one_more read) progress xs s total (xs ++ x ∷ []) s' on (ap (λ (r : Result (A × State) Fault). then_read r (λ y. give (xs ++ y ∷ []))) took) so_far

  pub until_more_fails : (e : TextFault) (tried : Tried) → goes_on (kind_of s.rest) ≡ true → FailsWith e tried (read s) → until c goes_on (one_more read) xs s ≡ total → FailsWith e tried total
  until_more_fails fault.OutOfMemory tried on failed so_far = tt
  until_more_fails (fault.Broken case spot) tried on failed so_far = until_fails c goes_on (one_more read) progress xs s total (fault.Broken case spot) tried on (ap (λ (r : Result (A × State) Fault). then_read r (λ y. give (xs ++ y ∷ []))) failed) so_far

-- what fails, fails whatever would follow it
pub then_fails : {A B : Type 0} (e : TextFault) (tried : Tried) (r : Result (A × State) Fault) (g : A → Reader B) → FailsWith e tried r → FailsWith e tried (then_read r g)
then_fails fault.OutOfMemory tried r g failed = tt
then_fails (fault.Broken case spot) tried r g failed = ap (λ (q : Result (_ × State) Fault). then_read q g) failed
