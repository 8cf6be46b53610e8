-- Where readers stop: what a reader answers depends on no token after the one where it stops, and with another token there it does the same
-- unless it has looked for that one.
use Rattle.std.proofs.Common.{◌≡◌, ℕ, ◌+◌, Bool, true, false, ◌||◌, List, [], ◌∷◌, ◌++◌, length, Option, Some, Result, Ok, Err, refl, sym, ap, subst, ◌∙◌, append_assoc, length-append, arith, ◌⊎◌, inl, inr}
use Rattle.camac_lang.specs.declared.spot.Spot.{Spot}
use Rattle.camac_tokens.specs.declared.token.Token.{Token}
use Rattle.camac_tokens.specs.declared.token.TokenKind.{TokenKind}
use Rattle.camac_tokens.specs.declared.fault.TextCase.{TextCase}
use Rattle.camac_tokens.specs.declared.fault.TextCase.TheVariants as text_case
use Rattle.camac_text_cursor.specs.declared.choice.Choice.{Choice}
use Rattle.camac_text_cursor.specs.Tried.{Tried, Untold, Told, noted, cleared}
use Rattle.camac_text_cursor.specs.Reading.{State, Reader, then_read, ◌>>=◌, ask, spot_here, peek, kind_of, spot_of, left_of, Fault}
use Rattle.camac_text_cursor.specs.Expected.{suits, is_of_order, Ends}
use Rattle.camac_text_cursor.specs.Places.{CaseFits}
use Rattle.camac_text_cursor.proofs.Steps.{then_ok}

-- this state where nothing is noted
abbrev pub hushed : State → State
hushed s = record s { tried = Untold }

abbrev pub without : Fault → Fault
without e = record e { tried = Untold }

-- the same with other tokens ahead
abbrev pub with_rest : ℕ → State → List Token → State
with_rest n s ts = record s { rest = ts; end_line = n; tried = Untold }

-- the tokens that are ahead, the line of the text's end, and what was looked for
abbrev pub ahead : State → List Token × ℕ × Tried
ahead s = (s.rest, s.end_line, s.tried)

-- ---- what was looked for

-- all of these, the first one last
abbrev pub noted_all : List Choice → Tried → Tried
noted_all [] tried = tried
noted_all (c ∷ cs) tried = noted c (noted_all cs tried)

abbrev pub missed_all : List Choice → State → State
missed_all cs s = record s { tried = noted_all cs s.tried }

-- what was looked for before a token that is taken is forgotten
abbrev pub carried : List Token → Tried → Tried
carried [] tried = tried
carried (t ∷ ts) tried = cleared tried

-- what two readers looked for at the last token, of which the second one took these
abbrev pub joined : List Token → List Choice → List Choice → List Choice
joined [] cs before = cs ++ before
joined (t ∷ ts) cs before = cs

abbrev pub admits : List Choice → Option TokenKind → Bool
admits [] at = false
admits (c ∷ cs) at = suits c at || admits cs at

-- ---- how a run ends

-- the fault is at one of these tokens, or behind them
abbrev pub IsIn : List Token → Fault → Type 0
IsIn ts e = (left : List Token) × Ends left ts × (e.spot.left ≡ left_of left)

-- a run over these tokens
abbrev pub Within : {A : Type 0} → List Token → Result (A × State) Fault → Type 0
Within ts (Ok y) = Ends y.1.rest ts
Within ts (Err e) = IsIn ts e

-- The token before these was taken, or refused for what it says.
abbrev pub Passes : {A : Type 0} → List Token → Result (A × State) Fault → Type 0
Passes ts (Ok y) = Ends y.1.rest ts
Passes ts (Err e) = is_of_order e.case ≡ true → IsIn ts e

-- The token does not fit.
abbrev pub Refuses : {A : Type 0} → Token → Result (A × State) Fault → Type 0
Refuses t (Ok y) = ⊥
Refuses t (Err e) = (is_of_order e.case ≡ true) × (e.spot ≡ t.spot)

-- Where a reader stopped with a value: what it took, and what it looked for there. With another token there it does the same, unless it looked
-- for that one; then it passes it.
pub record StopsAt {A : Type 0} (f : Reader A) (s : State) (x : A) (s' : State) : Type 0 where
  pub taken : List Token
  pub mine : List Choice
  pub parts : s.rest ≡ taken ++ s'.rest
  pub same_end : s'.end_line ≡ s.end_line
  pub tries : s'.tried ≡ noted_all mine (carried taken s.tried)
  pub untold : f (hushed s) ≡ Ok (x, hushed s')
  pub again : (t : Token) (r : List Token) (n : ℕ) → admits mine (Some t.kind) ≡ false → f (with_rest n s (taken ++ t ∷ r)) ≡ Ok (x, with_rest n s' (t ∷ r))
  pub passes : (t : Token) (r : List Token) (n : ℕ) → admits mine (Some t.kind) ≡ true → Passes r (f (with_rest n s (taken ++ t ∷ r)))

-- Where a reader failed: with the same tokens up to the one there it fails in the same way. Where that did not fit, no token fits but what was
-- looked for.
pub record FailsAt {A : Type 0} (f : Reader A) (s : State) (e : Fault) : Type 0 where
  pub taken : List Token
  pub left : List Token
  pub mine : List Choice
  pub parts : s.rest ≡ taken ++ left
  pub place : e.spot ≡ spot_of left s.end_line
  pub fits : CaseFits e.case (kind_of left)
  pub tries : e.tried ≡ noted_all mine (carried taken s.tried)
  pub untold : f (hushed s) ≡ Err (without e)
  pub again : (t : Token) (r r' : List Token) (n : ℕ) → left ≡ t ∷ r → f (with_rest n s (taken ++ t ∷ r')) ≡ Err (without e)
  pub refuses : e.case ≡ text_case.Unexpected → (t : Token) (r : List Token) (n : ℕ) → admits mine (Some t.kind) ≡ false → Refuses t (f (with_rest n s (taken ++ t ∷ r)))
  pub passes : e.case ≡ text_case.Unexpected → (t : Token) (r : List Token) (n : ℕ) → admits mine (Some t.kind) ≡ true → Passes r (f (with_rest n s (taken ++ t ∷ r)))

pub record IsLocal {A : Type 0} (f : Reader A) (s : State) : Type 0 where
  pub stops : (x : A) (s' : State) → f s ≡ Ok (x, s') → StopsAt f s x s'
  pub fails : (e : Fault) → f s ≡ Err e → FailsAt f s e

abbrev pub IsSome : List Token → Type 0
IsSome [] = ⊥
IsSome (t ∷ ts) = Unit {0}

-- It takes the next token, or refuses it for what it says.
pub record Begins {A : Type 0} (f : Reader A) (s : State) : Type 0 where
  pub stops : (x : A) (s' : State) → f s ≡ Ok (x, s') → (a : StopsAt f s x s') × IsSome a.taken
  pub fails : (e : Fault) → f s ≡ Err e → (a : FailsAt f s e) × (is_of_order e.case ≡ true → IsSome a.taken)

pub local_of : {A : Type 0} (f : Reader A) (s : State) → Begins f s → IsLocal f s
local_of f s a = record { stops = λ x s' e. (a.stops x s' e).0; fails = λ e h. (a.fails e h).0 }

-- a token is next
abbrev pub IsHere : State → Type 0
IsHere s = (k : TokenKind) × (kind_of s.rest ≡ Some k)

-- ---- lists and sets

append_nil : (ts : List Token) → ts ++ [] ≡ ts
append_nil [] = refl
append_nil (t ∷ ts) = ap (λ (w : List Token). t ∷ w) (append_nil ts)

ends_of_ends : (us vs ws : List Token) → Ends us vs → Ends vs ws → Ends us ws
ends_of_ends us vs ws a b = (b.0 ++ a.0, b.1 ∙ ap (λ (w : List Token). b.0 ++ w) a.1 ∙ sym (append_assoc b.0 a.0 us))

or_false : (b : Bool) → (b || false) ≡ b
or_false true = refl
or_false false = refl

or_assoc : (a b c : Bool) → (a || (b || c)) ≡ ((a || b) || c)
or_assoc true b c = refl
or_assoc false b c = refl

or_left : (a b : Bool) → (a || b) ≡ false → a ≡ false
or_left true b h = absurd cc
or_left false b h = refl

pub or_right : (a b : Bool) → (a || b) ≡ false → b ≡ false
or_right true b h = absurd cc
or_right false b h = h

pub or_either : (a b : Bool) → (a || b) ≡ true → b ≡ false → a ≡ true
or_either true b h f = refl
or_either false b h f = absurd (let both = sym h ∙ f in cc)

pub admits_one : (c : Choice) (at : Option TokenKind) → admits (c ∷ []) at ≡ suits c at
admits_one c at = or_false (suits c at)

pub admits_append : (cs ds : List Choice) (at : Option TokenKind) → admits (cs ++ ds) at ≡ (admits cs at || admits ds at)
admits_append [] ds at = refl
admits_append (c ∷ cs) ds at = ap (λ (b : Bool). suits c at || b) (admits_append cs ds at) ∙ or_assoc (suits c at) (admits cs at) (admits ds at)

noted_append : (cs ds : List Choice) (tried : Tried) → noted_all (cs ++ ds) tried ≡ noted_all cs (noted_all ds tried)
noted_append [] ds tried = refl
noted_append (c ∷ cs) ds tried = ap (noted c) (noted_append cs ds tried)

pub noted_untold : (cs : List Choice) → noted_all cs Untold ≡ Untold
noted_untold [] = refl
noted_untold (c ∷ cs) = ap (noted c) (noted_untold cs)

cleared_noted : (cs : List Choice) (tried : Tried) → cleared (noted_all cs tried) ≡ cleared tried
cleared_noted [] tried = refl
cleared_noted (c ∷ cs) tried = one (noted_all cs tried) ∙ cleared_noted cs tried where
  one : (w : Tried) → cleared (noted c w) ≡ cleared w
  one Untold = refl
  one (Told set) = refl

cleared_carried : (ts : List Token) (tried : Tried) → cleared (carried ts tried) ≡ cleared tried
cleared_carried [] tried = refl
cleared_carried (t ∷ ts) Untold = refl
cleared_carried (t ∷ ts) (Told set) = refl

carried_on : (us : List Token) (t : Token) (ts : List Token) (tried : Tried) → carried (us ++ t ∷ ts) tried ≡ cleared tried
carried_on [] t ts tried = refl
carried_on (u ∷ us) t ts tried = refl

-- what both readers looked for
pub not_after : (taken : List Token) (cs before : List Choice) (at : Option TokenKind) → admits (joined taken cs before) at ≡ false → admits cs at ≡ false
not_after [] cs before at free = or_left (admits cs at) (admits before at) (sym (admits_append cs before at) ∙ free)
not_after (t ∷ ts) cs before at free = free

pub tried_joined : (us taken : List Token) (cs before : List Choice) (tried w : Tried) → w ≡ noted_all before (carried us tried) → noted_all cs (carried taken w) ≡ noted_all (joined taken cs before) (carried (us ++ taken) tried)
tried_joined us [] cs before tried w is =
    ap (noted_all cs) is ∙ sym (noted_append cs before (carried us tried)) ∙ ap (λ (ts : List Token). noted_all (cs ++ before) (carried ts tried)) (sym (append_nil us))
tried_joined us (t ∷ ts) cs before tried w is =
    ap (noted_all cs) (ap cleared is ∙ cleared_noted before (carried us tried) ∙ cleared_carried us tried ∙ sym (carried_on us t ts tried))

-- ---- how runs end

pub within_ends : {A : Type 0} (us ts : List Token) (r : Result (A × State) Fault) → Ends us ts → Within us r → Within ts r
within_ends us ts (Ok y) e at = ends_of_ends y.1.rest us ts at e
within_ends us ts (Err d) e at = (at.0, ends_of_ends at.0 us ts at.1 e, at.2)

pub passes_within : {A : Type 0} (ts : List Token) (r : Result (A × State) Fault) → Within ts r → Passes ts r
passes_within ts (Ok y) at = at
passes_within ts (Err e) at = λ _. at

abbrev pub GoesOn : {A B : Type 0} → (A → Reader B) → Type 0
GoesOn {A} {B} g = (x : A) (s : State) → Within s.rest (g x s)

pub passes_then : {A B : Type 0} (ts : List Token) (r : Result (A × State) Fault) (g : A → Reader B) → GoesOn g → Passes ts r → Passes ts (then_read r g)
passes_then ts (Ok y) g on at = passes_within ts (g y.0 y.1) (within_ends y.1.rest ts (g y.0 y.1) at (on y.0 y.1))
passes_then ts (Err e) g on at = at

pub within_then : {A B : Type 0} (ts : List Token) (r : Result (A × State) Fault) (g : A → Reader B) → GoesOn g → Within ts r → Within ts (then_read r g)
within_then ts (Ok y) g on at = within_ends y.1.rest ts (g y.0 y.1) at (on y.0 y.1)
within_then ts (Err e) g on at = at

pub refuses_then : {A B : Type 0} (t : Token) (r : Result (A × State) Fault) (g : A → Reader B) → Refuses t r → Refuses t (then_read r g)
refuses_then t (Ok y) g at = absurd at
refuses_then t (Err e) g at = at

pub left_at : (ts : List Token) (end_line : ℕ) → (spot_of ts end_line).left ≡ left_of ts
left_at [] end_line = refl
left_at (t ∷ ts) end_line = refl

pub in_place : {A : Type 0} (f : Reader A) (s : State) (e : Fault) (a : FailsAt f s e) → e.spot.left ≡ left_of a.left
in_place f s e a = ap (λ (p : Spot). p.left) a.place ∙ left_at a.left s.end_line

pub within_local : {A : Type 0} (f : Reader A) (s : State) → IsLocal f s → Within s.rest (f s)
within_local {A} f s at = by (f s) refl where
  by : (r : Result (A × State) Fault) → f s ≡ r → Within s.rest r
  by (Ok y) e = let a = at.stops y.0 y.1 e in (a.taken, a.parts)
  by (Err d) e = let a = at.fails d e in (a.left, (a.taken, a.parts), in_place f s d a)

-- behind the first token
tail_ends : (t : Token) (ts taken left : List Token) → t ∷ ts ≡ taken ++ left → IsSome taken → Ends left ts
tail_ends t ts [] left e some = absurd some
tail_ends t ts (c ∷ cs) left e some = (cs, cc)

pub passes_begins : {A : Type 0} (f : Reader A) (s : State) (t : Token) (ts : List Token) → s.rest ≡ t ∷ ts → Begins f s → Passes ts (f s)
passes_begins {A} f s t ts here at = by (f s) refl where
  by : (r : Result (A × State) Fault) → f s ≡ r → Passes ts r
  by (Ok y) e = let a = at.stops y.0 y.1 e in tail_ends t ts a.0.taken y.1.rest (sym here ∙ a.0.parts) a.1
  by (Err d) e = let a = at.fails d e in λ is. (a.0.left, tail_ends t ts a.0.taken a.0.left (sym here ∙ a.0.parts) (a.1 is), in_place f s d a.0)

-- ---- one after the other

-- the same token is next after the same tokens
pub kind_same : (ts taken left : List Token) (t : Token) (r r' : List Token) → ts ≡ taken ++ left → left ≡ t ∷ r → kind_of (taken ++ t ∷ r') ≡ kind_of ts
kind_same ts [] left t r r' parts h = rw (parts, h) refl
kind_same ts (c ∷ cs) left t r r' parts h = rw parts refl

spot_same : (ts taken left : List Token) (end_line n : ℕ) (t : Token) (r r' : List Token) → ts ≡ taken ++ left → left ≡ t ∷ r → spot_of (taken ++ t ∷ r') n ≡ spot_of ts end_line
spot_same ts [] left end_line n t r r' parts h = rw (parts, h) refl
spot_same ts (c ∷ cs) left end_line n t r r' parts h = rw parts refl

too_long : (t : Token) (ts : List Token) → Ends (t ∷ ts) ts → ⊥
too_long t ts e =
    let whole : length ts ≡ length e.0 + length (t ∷ ts) = ap (λ (w : List Token). length w) e.1 ∙ length-append e.0 (t ∷ ts) in
    omega (arith, whole)

-- A reader did not look for the token at which it stopped.
not_mine : {A : Type 0} (f : Reader A) (s : State) (x : A) (s' : State) (a : StopsAt f s x s') (t : Token) (r : List Token) (b : Bool) → s'.rest ≡ t ∷ r → admits a.mine (Some t.kind) ≡ b → b ≡ false
not_mine f s x s' a t r false h is = refl
not_mine {A} f s x s' a t r true h is =
    let same : a.taken ++ t ∷ r ≡ s.rest = ap (λ (w : List Token). a.taken ++ w) (sym h) ∙ sym a.parts in
    let far : Passes r (f (hushed s)) = subst (λ (w : List Token). Passes r (f (with_rest s.end_line s w))) same (a.passes t r s.end_line is) in
    let ended : Ends s'.rest r = subst (λ (q : Result (A × State) Fault). Passes r q) a.untold far in
    absurd (too_long t r (subst (λ (w : List Token). Ends w r) h ended))

pub same_again : {A : Type 0} (f : Reader A) (s : State) (x : A) (s' : State) (a : StopsAt f s x s') (t : Token) (r r' : List Token) (n : ℕ) → s'.rest ≡ t ∷ r → f (with_rest n s (a.taken ++ t ∷ r')) ≡ Ok (x, with_rest n s' (t ∷ r'))
same_again f s x s' a t r r' n h = a.again t r' n (not_mine f s x s' a t r (admits a.mine (Some t.kind)) h refl)

-- a stop lets what follows begin anew
pub resumes : {A : Type 0} (f : Reader A) (s : State) (x : A) (s' : State) (a : StopsAt f s x s') (more : List Token) (t : Token) (r r' : List Token) (n : ℕ) → s'.rest ≡ more ++ t ∷ r → f (with_rest n s (a.taken ++ (more ++ t ∷ r'))) ≡ Ok (x, with_rest n s' (more ++ t ∷ r'))
resumes f s x s' a [] t r r' n h = same_again f s x s' a t r r' n h
resumes f s x s' a (c ∷ cs) t r r' n h = same_again f s x s' a c (cs ++ t ∷ r) (cs ++ t ∷ r') n h

pub join_parts : (ts a us b vs : List Token) → ts ≡ a ++ us → us ≡ b ++ vs → ts ≡ (a ++ b) ++ vs
join_parts ts a us b vs p q = p ∙ ap (λ (w : List Token). a ++ w) q ∙ sym (append_assoc a b vs)

module _ {A B : Type 0} (f : Reader A) (g : A → Reader B) (on : GoesOn g) (s : State) (x : A) (s' : State) (a : StopsAt f s x s') where
  -- what the first one leaves lets the second one run on another token
  pub runs_on : (taken : List Token) (cs : List Choice) (left : List Token) → s'.rest ≡ taken ++ left → (t : Token) (r : List Token) (n : ℕ) → admits (joined taken cs a.mine) (Some t.kind) ≡ false → (f >>= g) (with_rest n s ((a.taken ++ taken) ++ t ∷ r)) ≡ g x (with_rest n s' (taken ++ t ∷ r))
  runs_on [] cs left p t r n free =
      ap (λ (w : List Token). (f >>= g) (with_rest n s w)) (append_assoc a.taken [] (t ∷ r))
      ∙ ap (λ (q : Result (A × State) Fault). then_read q g) (a.again t r n (or_right (admits cs (Some t.kind)) (admits a.mine (Some t.kind)) (sym (admits_append cs a.mine (Some t.kind)) ∙ free)))
  runs_on (c ∷ ts) cs left p t r n free =
      ap (λ (w : List Token). (f >>= g) (with_rest n s w)) (append_assoc a.taken (c ∷ ts) (t ∷ r))
      ∙ ap (λ (q : Result (A × State) Fault). then_read q g) (same_again f s x s' a c (ts ++ left) (ts ++ t ∷ r) n p)

  pub passes_first : (cs : List Choice) → ((t : Token) (r : List Token) (n : ℕ) → admits cs (Some t.kind) ≡ true → Passes r (g x (with_rest n s' (t ∷ r)))) → (t : Token) (r : List Token) (n : ℕ) (b : Bool) → admits a.mine (Some t.kind) ≡ b → (admits cs (Some t.kind) || admits a.mine (Some t.kind)) ≡ true → Passes r ((f >>= g) (with_rest n s (a.taken ++ t ∷ r)))
  passes_first cs inner t r n true is either = passes_then r (f (with_rest n s (a.taken ++ t ∷ r))) g on (a.passes t r n is)
  passes_first cs inner t r n false is either =
      subst (λ (q : Result (A × State) Fault). Passes r (then_read q g)) (sym (a.again t r n is)) (inner t r n (or_either (admits cs (Some t.kind)) (admits a.mine (Some t.kind)) either is))

  pub passes_on : (taken : List Token) (cs : List Choice) (left : List Token) → s'.rest ≡ taken ++ left → ((t : Token) (r : List Token) (n : ℕ) → admits cs (Some t.kind) ≡ true → Passes r (g x (with_rest n s' (taken ++ t ∷ r)))) → (t : Token) (r : List Token) (n : ℕ) → admits (joined taken cs a.mine) (Some t.kind) ≡ true → Passes r ((f >>= g) (with_rest n s ((a.taken ++ taken) ++ t ∷ r)))
  passes_on [] cs left p inner t r n is =
      subst (λ (w : List Token). Passes r ((f >>= g) (with_rest n s w))) (sym (append_assoc a.taken [] (t ∷ r))) (passes_first cs inner t r n (admits a.mine (Some t.kind)) refl (sym (admits_append cs a.mine (Some t.kind)) ∙ is))
  passes_on (c ∷ ts) cs left p inner t r n is =
      subst (λ (w : List Token). Passes r ((f >>= g) (with_rest n s w))) (sym (append_assoc a.taken (c ∷ ts) (t ∷ r)))
      (subst (λ (q : Result (A × State) Fault). Passes r (then_read q g)) (sym (same_again f s x s' a c (ts ++ left) (ts ++ t ∷ r) n p)) (inner t r n is))

  abbrev pub stops_then : (y : B) (s'' : State) → StopsAt (g x) s' y s'' → StopsAt (f >>= g) s y s''
  stops_then y s'' b = record {
    taken = a.taken ++ b.taken;
    mine = joined b.taken b.mine a.mine;
    parts = join_parts s.rest a.taken s'.rest b.taken s''.rest a.parts b.parts;
    same_end = b.same_end ∙ a.same_end;
    tries = b.tries ∙ tried_joined a.taken b.taken b.mine a.mine s.tried s'.tried a.tries;
    untold = ap (λ (q : Result (A × State) Fault). then_read q g) a.untold ∙ b.untold;
    again = λ t r n free. runs_on b.taken b.mine s''.rest b.parts t r n free ∙ b.again t r n (not_after b.taken b.mine a.mine (Some t.kind) free);
    passes = λ t r n is. passes_on b.taken b.mine s''.rest b.parts b.passes t r n is;
  }

  abbrev pub fails_then : (e : Fault) → FailsAt (g x) s' e → FailsAt (f >>= g) s e
  fails_then e b = record {
    taken = a.taken ++ b.taken;
    left = b.left;
    mine = joined b.taken b.mine a.mine;
    parts = join_parts s.rest a.taken s'.rest b.taken b.left a.parts b.parts;
    place = b.place ∙ ap (spot_of b.left) a.same_end;
    fits = b.fits;
    tries = b.tries ∙ tried_joined a.taken b.taken b.mine a.mine s.tried s'.tried a.tries;
    untold = ap (λ (q : Result (A × State) Fault). then_read q g) a.untold ∙ b.untold;
    again = λ t r r' n h.
        let first = resumes f s x s' a b.taken t r r' n (b.parts ∙ ap (λ (w : List Token). b.taken ++ w) h) in
        ap (λ (w : List Token). (f >>= g) (with_rest n s w)) (append_assoc a.taken b.taken (t ∷ r')) ∙ ap (λ (q : Result (A × State) Fault). then_read q g) first ∙ b.again t r r' n h;
    refuses = λ is t r n free. subst (λ (q : Result (B × State) Fault). Refuses t q) (sym (runs_on b.taken b.mine b.left b.parts t r n free)) (b.refuses is t r n (not_after b.taken b.mine a.mine (Some t.kind) free));
    passes = λ is t r n fit. passes_on b.taken b.mine b.left b.parts (b.passes is) t r n fit;
  }

abbrev pub fails_first : {A B : Type 0} (f : Reader A) (g : A → Reader B) → GoesOn g → (s : State) (e : Fault) → FailsAt f s e → FailsAt (f >>= g) s e
fails_first {A} f g on s e a = record {
  taken = a.taken;
  left = a.left;
  mine = a.mine;
  parts = a.parts;
  place = a.place;
  fits = a.fits;
  tries = a.tries;
  untold = ap (λ (q : Result (A × State) Fault). then_read q g) a.untold;
  again = λ t r r' n h. ap (λ (q : Result (A × State) Fault). then_read q g) (a.again t r r' n h);
  refuses = λ is t r n free. refuses_then t (f (with_rest n s (a.taken ++ t ∷ r))) g (a.refuses is t r n free);
  passes = λ is t r n fit. passes_then r (f (with_rest n s (a.taken ++ t ∷ r))) g on (a.passes is t r n fit);
}

-- the failure of the first, or of what follows it
pub then_err : {A B : Type 0} (r : Result (A × State) Fault) (g : A → Reader B) (e : Fault) → then_read r g ≡ Err e → (r ≡ Err e) ⊎ ((x : A × State) × (r ≡ Ok x) × (g x.0 x.1 ≡ Err e))
then_err (Ok x) g e h = inr (x, refl, h)
then_err (Err d) g e h = inl cc

-- Where the second is local only after an answer of the first, it still goes no way back.
pub local_after : {A B : Type 0} (f : Reader A) (g : A → Reader B) (s : State) → GoesOn g → IsLocal f s → ((x : A) (s' : State) → f s ≡ Ok (x, s') → IsLocal (g x) s') → IsLocal (f >>= g) s
local_after f g s on first next = record {
  stops = λ y s'' e.
      let m = then_ok (f s) g (y, s'') e in
      stops_then f g on s m.0.0 m.0.1 (first.stops m.0.0 m.0.1 m.1) y s'' ((next m.0.0 m.0.1 m.1).stops y s'' m.2);
  fails = λ e h.
      elim (then_err (f s) g e h) [
        | inl d ↦ fails_first f g on s e (first.fails e d)
        | inr m ↦ fails_then f g on s m.0.0 m.0.1 (first.stops m.0.0 m.0.1 m.1) e ((next m.0.0 m.0.1 m.1).fails e m.2)
      ];
}

pub local_then : {A B : Type 0} (f : Reader A) (g : A → Reader B) (s : State) → IsLocal f s → ((x : A) (s' : State) → IsLocal (g x) s') → IsLocal (f >>= g) s
local_then f g s first next = local_after f g s (λ x u. within_local (g x) u (next x u)) first (λ x u _. next x u)

some_append : (us vs : List Token) → IsSome us → IsSome (us ++ vs)
some_append [] vs some = absurd some
some_append (u ∷ us) vs some = tt

pub begins_after : {A B : Type 0} (f : Reader A) (g : A → Reader B) (s : State) → GoesOn g → Begins f s → ((x : A) (s' : State) → f s ≡ Ok (x, s') → IsLocal (g x) s') → Begins (f >>= g) s
begins_after {A} {B} f g s on first next = record {
  stops = λ y s'' e.
      let m = then_ok (f s) g (y, s'') e in
      let a = first.stops m.0.0 m.0.1 m.1 in
      let b = (next m.0.0 m.0.1 m.1).stops y s'' m.2 in
      (stops_then f g on s m.0.0 m.0.1 a.0 y s'' b, some_append a.0.taken b.taken a.1);
  fails = λ e h. by e (then_err (f s) g e h);
} where
  by : (e : Fault) → (f s ≡ Err e) ⊎ ((x : A × State) × (f s ≡ Ok x) × (g x.0 x.1 ≡ Err e)) → (a : FailsAt (f >>= g) s e) × (is_of_order e.case ≡ true → IsSome a.taken)
  by e (inl d) = let a = first.fails e d in (fails_first f g on s e a.0, a.1)
  by e (inr m) =
      let a = first.stops m.0.0 m.0.1 m.1 in
      let b = (next m.0.0 m.0.1 m.1).fails e m.2 in
      (fails_then f g on s m.0.0 m.0.1 a.0 e b, λ _. some_append a.0.taken b.taken a.1)

pub begins_then : {A B : Type 0} (f : Reader A) (g : A → Reader B) (s : State) → Begins f s → ((x : A) (s' : State) → IsLocal (g x) s') → Begins (f >>= g) s
begins_then f g s first next = begins_after f g s (λ x u. within_local (g x) u (next x u)) first (λ x u _. next x u)

-- ---- readers that do the same

module _ {A : Type 0} (f g : Reader A) (s : State) (here : f s ≡ g s) (same : (ts : List Token) (n : ℕ) → f (with_rest n s ts) ≡ g (with_rest n s ts)) where
  abbrev stops_same : (x : A) (s' : State) → StopsAt g s x s' → StopsAt f s x s'
  stops_same x s' a = record {
    taken = a.taken;
    mine = a.mine;
    parts = a.parts;
    same_end = a.same_end;
    tries = a.tries;
    untold = same s.rest s.end_line ∙ a.untold;
    again = λ t r n free. same (a.taken ++ t ∷ r) n ∙ a.again t r n free;
    passes = λ t r n is. subst (λ (q : Result (A × State) Fault). Passes r q) (sym (same (a.taken ++ t ∷ r) n)) (a.passes t r n is);
  }

  abbrev fails_same : (e : Fault) → FailsAt g s e → FailsAt f s e
  fails_same e a = record {
    taken = a.taken;
    left = a.left;
    mine = a.mine;
    parts = a.parts;
    place = a.place;
    fits = a.fits;
    tries = a.tries;
    untold = same s.rest s.end_line ∙ a.untold;
    again = λ t r r' n h. same (a.taken ++ t ∷ r') n ∙ a.again t r r' n h;
    refuses = λ is t r n free. subst (λ (q : Result (A × State) Fault). Refuses t q) (sym (same (a.taken ++ t ∷ r) n)) (a.refuses is t r n free);
    passes = λ is t r n fit. subst (λ (q : Result (A × State) Fault). Passes r q) (sym (same (a.taken ++ t ∷ r) n)) (a.passes is t r n fit);
  }

  local_alike : IsLocal g s → IsLocal f s
  local_alike at = record { stops = λ x s' e. stops_same x s' (at.stops x s' (sym here ∙ e)); fails = λ e h. fails_same e (at.fails e (sym here ∙ h)) }

  begins_alike : Begins g s → Begins f s
  begins_alike at = record {
    stops = λ x s' e. let a = at.stops x s' (sym here ∙ e) in (stops_same x s' a.0, a.1);
    fails = λ e h. let a = at.fails e (sym here ∙ h) in (fails_same e a.0, a.1);
  }

pub local_same : {A : Type 0} (f g : Reader A) (s : State) → ((u : State) → f u ≡ g u) → IsLocal g s → IsLocal f s
local_same f g s same at = local_alike f g s (same s) (λ ts n. same (with_rest n s ts)) at

pub begins_same : {A : Type 0} (f g : Reader A) (s : State) → ((u : State) → f u ≡ g u) → Begins g s → Begins f s
begins_same f g s same at = begins_alike f g s (same s) (λ ts n. same (with_rest n s ts)) at

-- a look at what is declared
pub local_ask : {A B : Type 0} (look : State → A) → ((s : State) (ts : List Token) (n : ℕ) → look (with_rest n s ts) ≡ look s) → (g : A → Reader B) (s : State) → IsLocal (g (look s)) s → IsLocal (ask look >>= g) s
local_ask {A} look same g s at = local_alike (ask look >>= g) (g (look s)) s refl (λ ts n. ap (λ (v : A). g v (with_rest n s ts)) (same s ts n)) at

pub begins_ask : {A B : Type 0} (look : State → A) → ((s : State) (ts : List Token) (n : ℕ) → look (with_rest n s ts) ≡ look s) → (g : A → Reader B) (s : State) → Begins (g (look s)) s → Begins (ask look >>= g) s
begins_ask {A} look same g s at = begins_alike (ask look >>= g) (g (look s)) s refl (λ ts n. ap (λ (v : A). g v (with_rest n s ts)) (same s ts n)) at

-- Where a token is taken, only what is read at the same first token has to be the same.
same_kind : (ts : List Token) (taken left : List Token) (us : List Token) → ts ≡ taken ++ left → IsSome taken → kind_of (taken ++ us) ≡ kind_of ts
same_kind ts [] left us parts some = absurd some
same_kind ts (c ∷ cs) left us parts some = rw parts refl

same_spot : (ts : List Token) (taken left : List Token) (us : List Token) (n m : ℕ) → ts ≡ taken ++ left → IsSome taken → spot_of (taken ++ us) n ≡ spot_of ts m
same_spot ts [] left us n m parts some = absurd some
same_spot ts (c ∷ cs) left us n m parts some = rw parts refl

unexpected_is : (case : TextCase) → case ≡ text_case.Unexpected → is_of_order case ≡ true
unexpected_is case is = ap is_of_order is

pub begins_first : {A : Type 0} (f g : Reader A) (s : State) → f s ≡ g s → ((ts : List Token) (n : ℕ) → kind_of ts ≡ kind_of s.rest → spot_of ts n ≡ spot_of s.rest s.end_line → f (with_rest n s ts) ≡ g (with_rest n s ts)) → Begins g s → Begins f s
begins_first {A} f g s here same at = record {
  stops = λ x s' e.
      let a = at.stops x s' (sym here ∙ e) in (
        record {
          taken = a.0.taken;
          mine = a.0.mine;
          parts = a.0.parts;
          same_end = a.0.same_end;
          tries = a.0.tries;
          untold = same s.rest s.end_line refl refl ∙ a.0.untold;
          again = λ t r n free. like a.0.taken s'.rest a.0.parts a.1 (t ∷ r) n ∙ a.0.again t r n free;
          passes = λ t r n is. subst (λ (q : Result (A × State) Fault). Passes r q) (sym (like a.0.taken s'.rest a.0.parts a.1 (t ∷ r) n)) (a.0.passes t r n is);
        },
        a.1,
      );
  fails = λ e h.
      let a = at.fails e (sym here ∙ h) in (
        record {
          taken = a.0.taken;
          left = a.0.left;
          mine = a.0.mine;
          parts = a.0.parts;
          place = a.0.place;
          fits = a.0.fits;
          tries = a.0.tries;
          untold = same s.rest s.end_line refl refl ∙ a.0.untold;
          again = λ t r r' n k. same (a.0.taken ++ t ∷ r') n (kind_same s.rest a.0.taken a.0.left t r r' a.0.parts k) (spot_same s.rest a.0.taken a.0.left s.end_line n t r r' a.0.parts k) ∙ a.0.again t r r' n k;
          refuses = λ is t r n free. subst (λ (q : Result (A × State) Fault). Refuses t q) (sym (like a.0.taken a.0.left a.0.parts (a.1 (unexpected_is e.case is)) (t ∷ r) n)) (a.0.refuses is t r n free);
          passes = λ is t r n fit. subst (λ (q : Result (A × State) Fault). Passes r q) (sym (like a.0.taken a.0.left a.0.parts (a.1 (unexpected_is e.case is)) (t ∷ r) n)) (a.0.passes is t r n fit);
        },
        a.1,
      );
} where
  like : (taken left : List Token) → s.rest ≡ taken ++ left → IsSome taken → (us : List Token) (n : ℕ) → f (with_rest n s (taken ++ us)) ≡ g (with_rest n s (taken ++ us))
  like taken left parts some us n = same (taken ++ us) n (same_kind s.rest taken left us parts some) (same_spot s.rest taken left us n s.end_line parts some)

pub begins_spot : {B : Type 0} (g : Spot → Reader B) (s : State) → Begins (g (spot_of s.rest s.end_line)) s → Begins (spot_here >>= g) s
begins_spot g s at = begins_first (spot_here >>= g) (g (spot_of s.rest s.end_line)) s refl (λ ts n k p. ap (λ (q : Spot). g q (with_rest n s ts)) p) at

pub begins_peek : {B : Type 0} (g : Option TokenKind → Reader B) (s : State) → Begins (g (kind_of s.rest)) s → Begins (peek >>= g) s
begins_peek g s at = begins_first (peek >>= g) (g (kind_of s.rest)) s refl (λ ts n k l. ap (λ (w : Option TokenKind). g w (with_rest n s ts)) k) at
