-- What follows from an answer of a reader made of others, and of a loop.
use Rattle.std.proofs.Common.{◌≡◌, ℕ, zero, suc, ◌<◌, Bool, true, false, cond, length, Option, Result, Ok, Err, refl, ◌∙◌, subst, ◌⊎◌, inl, inr, arith}
use Rattle.camac_tokens.specs.declared.token.TokenKind.{TokenKind}
use Rattle.camac_text_cursor.specs.declared.choice.Choice.{Choice}
use Rattle.camac_text_cursor.specs.Reading.{State, Reader, then_read, ◌>>=◌, give, peek, kind_of, turns, while_next, Fault, missed, missing, until}

pub ok_is : {A : Type 0} (p q : A × State) → (let r : Result (A × State) Fault = Ok p in r) ≡ Ok q → p ≡ q
ok_is p q e = cc

pub err_is : {A : Type 0} (d e : Fault) → (let r : Result (A × State) Fault = Err d in r) ≡ Err e → d ≡ e
err_is d e h = cc

pub err_no_ok : {A : Type 0} (d : Fault) (p : A × State) → (let r : Result (A × State) Fault = Err d in r) ≡ Ok p → ⊥
err_no_ok d p e = cc

-- the value of a step that did not fail
pub then_ok : {A B : Type 0} (r : Result (A × State) Fault) (g : A → Reader B) (y : B × State) → then_read r g ≡ Ok y → (x : A × State) × (r ≡ Ok x) × (g x.0 x.1 ≡ Ok y)
then_ok (Ok x) g y e = (x, refl, e)
then_ok (Err d) g y e = absurd cc

-- each turn takes a token at least
abbrev pub Progresses : {A : Type 0} → (Option TokenKind → Bool) → (A → Reader A) → Type 0
Progresses {A} goes_on turn = (x : A) (s : State) (y : A) (s' : State) → goes_on (kind_of s.rest) ≡ true → turn x s ≡ Ok (y, s') → length s'.rest < length s.rest

-- the two rests agree where they are asked
then_same : {A B : Type 0} (r : Result (A × State) Fault) (g h : A → Reader B) → ((x : A) (s : State) → r ≡ Ok (x, s) → g x s ≡ h x s) → then_read r g ≡ then_read r h
then_same (Ok x) g h same = same x.0 x.1 refl
then_same (Err e) g h same = refl

choice_same : {A : Type 0} (b : Bool) (f g h : Reader A) (s : State) → (b ≡ true → f s ≡ g s) → cond b f h s ≡ cond b g h s
choice_same true f g h s same = same refl
choice_same false f g h s same = refl

choice_true : {A : Type 0} (b : Bool) (f h : Reader A) (s : State) → b ≡ true → cond b f h s ≡ f s
choice_true true f h s e = refl
choice_true false f h s e = absurd cc

choice_false : {A : Type 0} (b : Bool) (f h : Reader A) (s : State) → b ≡ false → cond b f h s ≡ h s
choice_false true f h s e = absurd cc
choice_false false f h s e = refl

-- more turns than tokens are enough
pub turns_enough : {A : Type 0} (goes_on : Option TokenKind → Bool) (turn : A → Reader A) → Progresses goes_on turn → (n m : ℕ) (x : A) (s : State) → length s.rest < n → length s.rest < m → turns n goes_on turn x s ≡ turns m goes_on turn x s
unfolding turns
turns_enough goes_on turn progress zero m x s few _ = absurd (omega arith)
turns_enough goes_on turn progress (suc n) zero x s _ few = absurd (omega arith)
turns_enough {A} goes_on turn progress (suc n) (suc m) x s below-n below-m =
    choice_same (goes_on (kind_of s.rest)) (turn x >>= turns n goes_on turn) (turn x >>= turns m goes_on turn) (give x) s (λ on. then_same (turn x s) (turns n goes_on turn) (turns m goes_on turn) (λ y s' took. let less : length s'.rest < length s.rest = progress x s y s' on took in turns_enough goes_on turn progress n m y s' (omega arith) (omega arith)))

-- a loop that goes on is one turn, and the loop again
pub while_on : {A : Type 0} (goes_on : Option TokenKind → Bool) (turn : A → Reader A) → Progresses goes_on turn → (x : A) (s : State) → goes_on (kind_of s.rest) ≡ true → while_next goes_on turn x s ≡ then_read (turn x s) (while_next goes_on turn)
unfolding while_next turns
while_on goes_on turn progress x s on =
    choice_true (goes_on (kind_of s.rest)) (turn x >>= turns (length s.rest) goes_on turn) (give x) s on ∙ then_same (turn x s) (turns (length s.rest) goes_on turn) (while_next goes_on turn) (λ y s' took. let less : length s'.rest < length s.rest = progress x s y s' on took in turns_enough goes_on turn progress (length s.rest) (suc (length s'.rest)) y s' (omega arith) (omega arith))

pub while_off : {A : Type 0} (goes_on : Option TokenKind → Bool) (turn : A → Reader A) (x : A) (s : State) → goes_on (kind_of s.rest) ≡ false → while_next goes_on turn x s ≡ Ok (x, s)
unfolding while_next turns
while_off goes_on turn x s off = choice_false (goes_on (kind_of s.rest)) (turn x >>= turns (length s.rest) goes_on turn) (give x) s off

-- both in one
pub while_choice : {A : Type 0} (goes_on : Option TokenKind → Bool) (turn : A → Reader A) → Progresses goes_on turn → (x : A) (s : State) → (peek >>= λ k. cond (goes_on k) (turn x >>= while_next goes_on turn) (give x)) s ≡ while_next goes_on turn x s
unfolding while_next turns
while_choice goes_on turn progress x s =
    choice_same (goes_on (kind_of s.rest)) (turn x >>= while_next goes_on turn) (turn x >>= turns (length s.rest) goes_on turn) (give x) s (λ on. then_same (turn x s) (while_next goes_on turn) (turns (length s.rest) goes_on turn) (λ y s' took. let less : length s'.rest < length s.rest = progress x s y s' on took in turns_enough goes_on turn progress (suc (length s'.rest)) (length s.rest) y s' (omega arith) (omega arith)))

-- ---- what a loop keeps

turns_choose : {A : Type 0} (b : Bool) (f : Reader A) (x : A) (s : State) (y : A × State) → cond b f (give x) s ≡ Ok y → ((b ≡ true) × (f s ≡ Ok y)) ⊎ ((let p : A × State = (x, s) in p) ≡ y)
turns_choose true f x s y e = inl (refl, e)
turns_choose false f x s y e = inr (ok_is (x, s) y e)

turns_keep : {A : Type 0} (P : A → State → Type 0) (goes_on : Option TokenKind → Bool) (turn : A → Reader A) → ((x : A) (s : State) (y : A) (s' : State) → P x s → goes_on (kind_of s.rest) ≡ true → turn x s ≡ Ok (y, s') → P y s') → (n : ℕ) (x : A) (s : State) (y : A × State) → P x s → turns n goes_on turn x s ≡ Ok y → P y.0 y.1
unfolding turns
turns_keep P goes_on turn keeps zero x s y p e = subst (λ (q : _ × State). P q.0 q.1) (ok_is (x, s) y e) p
turns_keep P goes_on turn keeps (suc n) x s y p e =
    elim (turns_choose (goes_on (kind_of s.rest)) (turn x >>= turns n goes_on turn) x s y e) [
      | inl h ↦ (let m = then_ok (turn x s) (turns n goes_on turn) y h.1 in turns_keep P goes_on turn keeps n m.0.0 m.0.1 y (keeps x s m.0.0 m.0.1 p h.0 m.1) m.2)
      | inr h ↦ subst (λ (q : _ × State). P q.0 q.1) h p
    ]

pub while_keeps : {A : Type 0} (P : A → State → Type 0) (goes_on : Option TokenKind → Bool) (turn : A → Reader A) → ((x : A) (s : State) (y : A) (s' : State) → P x s → goes_on (kind_of s.rest) ≡ true → turn x s ≡ Ok (y, s') → P y s') → (x : A) (s : State) (y : A × State) → P x s → while_next goes_on turn x s ≡ Ok y → P y.0 y.1
unfolding while_next
while_keeps P goes_on turn keeps x s y p e = turns_keep P goes_on turn keeps (suc (length s.rest)) x s y p e

pub until_keeps : {A : Type 0} (P : A → State → Type 0) (c : Choice) → ((x : A) (s : State) → P x s → P x (missed c s)) → (goes_on : Option TokenKind → Bool) (turn : A → Reader A) → ((x : A) (s : State) (y : A) (s' : State) → P x s → goes_on (kind_of s.rest) ≡ true → turn x s ≡ Ok (y, s') → P y s') → (x : A) (s : State) (y : A × State) → P x s → until c goes_on turn x s ≡ Ok y → P y.0 y.1
until_keeps P c stays goes_on turn keeps x s y p e =
    let m = then_ok (while_next goes_on turn x s) (missing c) y e in
    subst (λ (q : _ × State). P q.0 q.1) (ok_is (m.0.0, missed c m.0.1) y m.2) (stays m.0.0 m.0.1 (while_keeps P goes_on turn keeps x s m.0 p m.1))
