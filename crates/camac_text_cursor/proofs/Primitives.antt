-- The steps of which readers are made are local, and so are choices by the next token, and loops.
use Rattle.std.proofs.Common.{◌≡◌, ℕ, zero, suc, ◌<◌, Bool, true, false, cond, ◌||◌, List, [], ◌∷◌, ◌++◌, length, Option, Some, None, Result, Ok, Err, refl, sym, ap, subst, ◌∙◌, arith, inl, inr}
use Rattle.camac_tokens.specs.declared.token.Token.{Token}
use Rattle.camac_tokens.specs.declared.token.TokenKind.{TokenKind}
use Rattle.camac_tokens.specs.declared.fault.TextCase.{TextCase}
use Rattle.camac_tokens.specs.declared.fault.TextCase.TheVariants as text_case
use Rattle.camac_text_cursor.specs.declared.choice.Choice.{Choice}
use Rattle.camac_text_cursor.specs.declared.choice.Choice.TheVariants as choice
use Rattle.camac_text_cursor.specs.Tried.{Tried, Untold, cleared}
use Rattle.camac_text_cursor.specs.Reading.{State, Reader, then_read, ◌>>=◌, ◌>>◌, give, change, peek, advance, past, fail, check, kind_of, after_first, spot_of, miss, while_next, missing, until, Fault}
use Rattle.camac_text_cursor.specs.Expected.{suits, is_of_order}
use Rattle.camac_text_cursor.specs.Places.{CaseFits}
use Rattle.camac_text_cursor.proofs.Steps.{then_ok, ok_is, err_is, Progresses, while_choice, while_on, while_off}
use Rattle.camac_text_cursor.proofs.Places.{hushed, with_rest, ahead, noted_all, missed_all, carried, joined, admits, Within, Passes, Refuses, StopsAt, FailsAt, IsLocal, IsSome, Begins, IsHere, local_of, admits_one, admits_append, not_after, noted_untold, tried_joined, or_right, or_either, kind_same, GoesOn, passes_then, passes_begins, within_ends, within_then, within_local, begins_first, begins_peek, begins_after, then_err, stops_then, fails_first, fails_then}

-- ---- from one answer

none_admitted : {A : Type 0} (at : Option TokenKind) → admits [] at ≡ true → A
none_admitted at is = absurd cc

local_ok : {A : Type 0} (f : Reader A) (s : State) (x : A) (s' : State) → f s ≡ Ok (x, s') → StopsAt f s x s' → IsLocal f s
local_ok {A} f s x s' e at = record {
  stops = λ y u h. subst (λ (p : A × State). StopsAt f s p.0 p.1) (ok_is (x, s') (y, u) (sym e ∙ h)) at;
  fails = λ d h. absurd (let both = sym e ∙ h in cc);
}

local_err : {A : Type 0} (f : Reader A) (s : State) (e : Fault) → f s ≡ Err e → FailsAt f s e → IsLocal f s
local_err {A} f s e h at = record {
  stops = λ y u k. absurd (let both = sym h ∙ k in cc);
  fails = λ d k. subst (λ (c : Fault). FailsAt f s c) (err_is {A = A} e d (sym h ∙ k)) at;
}

begins_of_ok : {A : Type 0} (f : Reader A) (s : State) (x : A) (s' : State) → f s ≡ Ok (x, s') → (a : StopsAt f s x s') → IsSome a.taken → Begins f s
begins_of_ok {A} f s x s' e at some = record {
  stops = λ y u h. subst (λ (p : A × State). (a : StopsAt f s p.0 p.1) × IsSome a.taken) (ok_is (x, s') (y, u) (sym e ∙ h)) (at, some);
  fails = λ d h. absurd (let both = sym e ∙ h in cc);
}

begins_of_err : {A : Type 0} (f : Reader A) (s : State) (e : Fault) → f s ≡ Err e → is_of_order e.case ≡ false → FailsAt f s e → Begins f s
begins_of_err {A} f s e h free at = record {
  stops = λ y u k. absurd (let both = sym h ∙ k in cc);
  fails = λ d k. subst (λ (c : Fault). (a : FailsAt f s c) × (is_of_order c.case ≡ true → IsSome a.taken)) (err_is {A = A} e d (sym h ∙ k)) (at, λ fit. absurd (let both = sym free ∙ fit in cc));
}

pub local_give : {A : Type 0} (x : A) (s : State) → IsLocal (give x) s
local_give x s = local_ok (give x) s x s refl (record { taken = []; mine = []; parts = refl; same_end = refl; tries = refl; untold = refl; again = λ t r n free. refl; passes = λ t r n is. none_admitted (Some t.kind) is })

abbrev fault_at : TextCase → State → Fault
fault_at case s = record { case = case; spot = spot_of s.rest s.end_line; tried = s.tried }

fails_at : {A : Type 0} (case : TextCase) (s : State) → CaseFits case (kind_of s.rest) → FailsAt (let f : Reader A = fail case in f) s (fault_at case s)
fails_at case s fits = record {
  taken = [];
  left = s.rest;
  mine = [];
  parts = refl;
  place = refl;
  fits = fits;
  tries = refl;
  untold = refl;
  again = λ t r r' n h. rw h refl;
  refuses = λ is t r n free. (ap is_of_order is, refl);
  passes = λ is t r n fit. none_admitted (Some t.kind) fit;
}

pub local_fail : {A : Type 0} (case : TextCase) (s : State) → CaseFits case (kind_of s.rest) → IsLocal (let f : Reader A = fail case in f) s
local_fail case s fits = local_err (fail case) s (fault_at case s) refl (fails_at case s fits)

pub begins_fail : {A : Type 0} (case : TextCase) (s : State) → is_of_order case ≡ false → CaseFits case (kind_of s.rest) → Begins (let f : Reader A = fail case in f) s
begins_fail case s free fits = begins_of_err (fail case) s (fault_at case s) refl free (fails_at case s fits)

-- ---- a token that is taken

first_of_rest : List Token → List Token
first_of_rest [] = []
first_of_rest (t ∷ ts) = t ∷ []

first_parts : (ts : List Token) → ts ≡ first_of_rest ts ++ after_first ts
unfolding first_of_rest
first_parts [] = refl
first_parts (t ∷ ts) = refl

first_again : (ts us : List Token) (k : TokenKind) → kind_of ts ≡ Some k → after_first (first_of_rest ts ++ us) ≡ us
unfolding first_of_rest
first_again [] us k h = absurd cc
first_again (c ∷ cs) us k h = refl

first_some : (ts : List Token) (k : TokenKind) → kind_of ts ≡ Some k → IsSome (first_of_rest ts)
unfolding first_of_rest
first_some [] k h = absurd cc
first_some (c ∷ cs) k h = tt

first_clears : (ts : List Token) (k : TokenKind) (tried : Tried) → kind_of ts ≡ Some k → cleared tried ≡ carried (first_of_rest ts) tried
unfolding first_of_rest
first_clears [] k tried h = absurd cc
first_clears (c ∷ cs) k tried h = refl

pub begins_advance : (s : State) → IsHere s → Begins advance s
begins_advance s here = begins_of_ok advance s tt (past s) refl (record {
  taken = first_of_rest s.rest;
  mine = [];
  parts = first_parts s.rest;
  same_end = refl;
  tries = first_clears s.rest here.0 s.tried here.1;
  untold = refl;
  again = λ t r n free. ap (λ (ts : List Token). let q : Result (Unit {0} × State) Fault = Ok (tt, record s { rest = ts; end_line = n; tried = Untold }) in q) (first_again s.rest (t ∷ r) here.0 here.1);
  passes = λ t r n is. none_admitted (Some t.kind) is;
}) (first_some s.rest here.0 here.1)

pub within_advance : GoesOn (λ (_ : Unit {0}). advance)
within_advance x s = (first_of_rest s.rest, first_parts s.rest)

-- ---- changes, tests and cases

-- a change of what is declared
abbrev changes_at : (to : State → State) → ((s : State) (ts : List Token) (n : ℕ) → to (with_rest n s ts) ≡ with_rest n (to s) ts) → ((s : State) → ahead (to s) ≡ ahead s) → (s : State) → StopsAt (change to) s tt (to s)
changes_at to same stay s = record {
  taken = [];
  mine = [];
  parts = sym (ap (λ (p : List Token × ℕ × Tried). p.0) (stay s));
  same_end = ap (λ (p : List Token × ℕ × Tried). p.1) (stay s);
  tries = ap (λ (p : List Token × ℕ × Tried). p.2) (stay s);
  untold = ap (λ (u : State). let q : Result (Unit {0} × State) Fault = Ok (tt, u) in q) (same s s.rest s.end_line ∙ ap (λ (p : List Token × ℕ × Tried). with_rest p.1 (to s) p.0) (sym (stay s)));
  again = λ t r n free. ap (λ (u : State). let q : Result (Unit {0} × State) Fault = Ok (tt, u) in q) (same s (t ∷ r) n);
  passes = λ t r n is. none_admitted (Some t.kind) is;
}

pub local_change : (to : State → State) → ((s : State) (ts : List Token) (n : ℕ) → to (with_rest n s ts) ≡ with_rest n (to s) ts) → ((s : State) → ahead (to s) ≡ ahead s) → (s : State) → IsLocal (change to) s
local_change to same stay s = local_ok (change to) s tt (to s) refl (changes_at to same stay s)

pub begins_change : {B : Type 0} (to : State → State) → ((s : State) (ts : List Token) (n : ℕ) → to (with_rest n s ts) ≡ with_rest n (to s) ts) → ((s : State) → ahead (to s) ≡ ahead s) → (g : Reader B) → GoesOn (λ (_ : Unit {0}). g) → (s : State) → Begins g (to s) → Begins (change to >> g) s
begins_change to same stay g on s at = record {
  stops = λ y s'' e. let b = at.stops y s'' e in (stops_then (change to) (λ _. g) on s tt (to s) (changes_at to same stay s) y s'' b.0, b.1);
  fails = λ e h. let b = at.fails e h in (fails_then (change to) (λ _. g) on s tt (to s) (changes_at to same stay s) e b.0, b.1);
}

pub local_if : {A : Type 0} (b : Bool) (f g : Reader A) (s : State) → (b ≡ true → IsLocal f s) → (b ≡ false → IsLocal g s) → IsLocal (cond b f g) s
local_if true f g s on off = on refl
local_if false f g s on off = off refl

pub begins_if : {A : Type 0} (b : Bool) (f g : Reader A) (s : State) → (b ≡ true → Begins f s) → (b ≡ false → Begins g s) → Begins (cond b f g) s
begins_if true f g s on off = on refl
begins_if false f g s on off = off refl

pub begins_check : {B : Type 0} (holds : Bool) (case : TextCase) (g : Reader B) (s : State) → is_of_order case ≡ false → CaseFits case (kind_of s.rest) → (holds ≡ true → Begins g s) → Begins (check holds case >> g) s
begins_check true case g s free fits next = next refl
begins_check false case g s free fits next = begins_fail case s free fits

-- ---- by the next token

-- A choice takes a token that is there.
suits_none : (c : Choice) → suits c None ≡ false
suits_none (choice.Word w) = refl
suits_none (choice.Mark m) = refl
suits_none choice.Name = refl
suits_none choice.Number = refl
suits_none choice.Declaration = refl
suits_none choice.Statement = refl
suits_none choice.Flag = refl
suits_none choice.Switch = refl
suits_none choice.Arrow = refl
suits_none choice.Sum = refl
suits_none choice.Product = refl
suits_none choice.Comparison = refl
suits_none choice.Each = refl

admits_none : (cs : List Choice) → admits cs None ≡ false
admits_none [] = refl
admits_none (c ∷ cs) = ap (λ (b : Bool). b || admits cs None) (suits_none c) ∙ admits_none cs

some_admitted : (cs : List Choice) (at : Option TokenKind) → admits cs at ≡ true → (k : TokenKind) × (at ≡ Some k)
some_admitted cs None is = absurd (let both = sym (admits_none cs) ∙ is in cc)
some_admitted cs (Some k) is = (k, refl)

pub here_admitted : (cs : List Choice) (s : State) → admits cs (kind_of s.rest) ≡ true → IsHere s
here_admitted cs s is = some_admitted cs (kind_of s.rest) is

-- No token that the first reader looks for is next: then it does what the second one does after these were looked for.
module _ {A : Type 0} (cs : List Choice) (f g : Reader A) (s : State) (off : admits cs (kind_of s.rest) ≡ false) (other : (u : State) → admits cs (kind_of u.rest) ≡ false → f u ≡ g (missed_all cs u)) (passing : (t : Token) (r : List Token) (n : ℕ) → admits cs (Some t.kind) ≡ true → Passes r (f (with_rest n s (t ∷ r)))) where
  to_other : (ts : List Token) (n : ℕ) → admits cs (kind_of ts) ≡ false → f (with_rest n s ts) ≡ g (with_rest n s ts)
  to_other ts n free = other (with_rest n s ts) free ∙ ap (λ (w : Tried). g (record s { rest = ts; end_line = n; tried = w })) (noted_untold cs)

  first_off : (taken left : List Token) (us : List Token) → s.rest ≡ taken ++ left → IsSome taken → admits cs (kind_of (taken ++ us)) ≡ false
  first_off [] left us p some = absurd some
  first_off (c ∷ ts) left us p some = ap (λ (w : List Token). admits cs (kind_of w)) (sym p) ∙ off

  other_again : (taken : List Token) (ds : List Choice) (left : List Token) → s.rest ≡ taken ++ left → (t : Token) (r : List Token) (n : ℕ) → admits (joined taken ds cs) (Some t.kind) ≡ false → f (with_rest n s (taken ++ t ∷ r)) ≡ g (with_rest n s (taken ++ t ∷ r))
  other_again [] ds left p t r n free = to_other (t ∷ r) n (or_right (admits ds (Some t.kind)) (admits cs (Some t.kind)) (sym (admits_append ds cs (Some t.kind)) ∙ free))
  other_again (c ∷ ts) ds left p t r n free = to_other (c ∷ (ts ++ t ∷ r)) n (first_off (c ∷ ts) left (t ∷ r) p tt)

  other_first : (ds : List Choice) → ((t : Token) (r : List Token) (n : ℕ) → admits ds (Some t.kind) ≡ true → Passes r (g (with_rest n s (t ∷ r)))) → (t : Token) (r : List Token) (n : ℕ) (b : Bool) → admits cs (Some t.kind) ≡ b → (admits ds (Some t.kind) || admits cs (Some t.kind)) ≡ true → Passes r (f (with_rest n s (t ∷ r)))
  other_first ds inner t r n true is either = passing t r n is
  other_first ds inner t r n false is either = subst (λ (q : Result (A × State) Fault). Passes r q) (sym (to_other (t ∷ r) n is)) (inner t r n (or_either (admits ds (Some t.kind)) (admits cs (Some t.kind)) either is))

  other_passes : (taken : List Token) (ds : List Choice) (left : List Token) → s.rest ≡ taken ++ left → ((t : Token) (r : List Token) (n : ℕ) → admits ds (Some t.kind) ≡ true → Passes r (g (with_rest n s (taken ++ t ∷ r)))) → (t : Token) (r : List Token) (n : ℕ) → admits (joined taken ds cs) (Some t.kind) ≡ true → Passes r (f (with_rest n s (taken ++ t ∷ r)))
  other_passes [] ds left p inner t r n is = other_first ds inner t r n (admits cs (Some t.kind)) refl (sym (admits_append ds cs (Some t.kind)) ∙ is)
  other_passes (c ∷ ts) ds left p inner t r n is = subst (λ (q : Result (A × State) Fault). Passes r q) (sym (to_other (c ∷ (ts ++ t ∷ r)) n (first_off (c ∷ ts) left (t ∷ r) p tt))) (inner t r n is)

  local_other : IsLocal g (missed_all cs s) → IsLocal f s
  local_other at = record {
    stops = λ x s' e.
        let a = at.stops x s' (sym (other s off) ∙ e) in
        record {
          taken = a.taken;
          mine = joined a.taken a.mine cs;
          parts = a.parts;
          same_end = a.same_end;
          tries = a.tries ∙ tried_joined [] a.taken a.mine cs s.tried (noted_all cs s.tried) refl;
          untold = to_other s.rest s.end_line off ∙ a.untold;
          again = λ t r n free. other_again a.taken a.mine s'.rest a.parts t r n free ∙ a.again t r n (not_after a.taken a.mine cs (Some t.kind) free);
          passes = λ t r n is. other_passes a.taken a.mine s'.rest a.parts a.passes t r n is;
        };
    fails = λ e h.
        let a = at.fails e (sym (other s off) ∙ h) in
        record {
          taken = a.taken;
          left = a.left;
          mine = joined a.taken a.mine cs;
          parts = a.parts;
          place = a.place;
          fits = a.fits;
          tries = a.tries ∙ tried_joined [] a.taken a.mine cs s.tried (noted_all cs s.tried) refl;
          untold = to_other s.rest s.end_line off ∙ a.untold;
          again = λ t r r' n k. to_other (a.taken ++ t ∷ r') n (ap (admits cs) (kind_same s.rest a.taken a.left t r r' a.parts k) ∙ off) ∙ a.again t r r' n k;
          refuses = λ is t r n free. subst (λ (q : Result (A × State) Fault). Refuses t q) (sym (other_again a.taken a.mine a.left a.parts t r n free)) (a.refuses is t r n (not_after a.taken a.mine cs (Some t.kind) free));
          passes = λ is t r n fit. other_passes a.taken a.mine a.left a.parts (a.passes is) t r n fit;
        };
  }

pub local_choice : {A : Type 0} (cs : List Choice) (f g : Reader A) (s : State) (b : Bool) → admits cs (kind_of s.rest) ≡ b → (b ≡ true → IsLocal f s) → ((t : Token) (r : List Token) (n : ℕ) → admits cs (Some t.kind) ≡ true → Passes r (f (with_rest n s (t ∷ r)))) → ((u : State) → admits cs (kind_of u.rest) ≡ false → f u ≡ g (missed_all cs u)) → IsLocal g (missed_all cs s) → IsLocal f s
local_choice cs f g s true is on passing other at = on refl
local_choice cs f g s false is on passing other at = local_other cs f g s is other passing at

-- A reader that begins with one of these, and without them does what another one does after they were looked for.
pub local_match : {A : Type 0} (cs : List Choice) (f g : Reader A) (s : State) → ((u : State) → admits cs (kind_of u.rest) ≡ true → Begins f u) → ((u : State) → admits cs (kind_of u.rest) ≡ false → f u ≡ g (missed_all cs u)) → ((u : State) → IsLocal g u) → IsLocal f s
local_match cs f g s on other at =
    local_choice cs f g s (admits cs (kind_of s.rest)) refl (λ is. local_of f s (on s is)) (λ t r n is. passes_begins f (with_rest n s (t ∷ r)) t r refl (on (with_rest n s (t ∷ r)) is)) other (at (missed_all cs s))

-- how a token is refused that begins nothing: by its number of arguments, or since it was not looked for
abbrev pub refusal : {A : Type 0} → List Choice → Option ℕ → Reader A
refusal cs None = λ u. let f : Reader _ = fail text_case.Unexpected in f (missed_all cs u)
refusal cs (Some wanted) = fail (text_case.ArgumentCount wanted)

-- A reader that begins with one of these, and refuses all else.
pub local_refusing : {A : Type 0} (cs : List Choice) (bars : Option TokenKind → Option ℕ) (f : Reader A) (s : State) → ((u : State) → admits cs (kind_of u.rest) ≡ true → Begins f u) → ((u : State) → admits cs (kind_of u.rest) ≡ false → f u ≡ refusal cs (bars (kind_of u.rest)) u) → IsLocal f s
local_refusing {A} cs bars f s on other = by (admits cs (kind_of s.rest)) refl (bars (kind_of s.rest)) refl where
  refused : (b : Option ℕ) (t : Token) (r : List Token) (n : ℕ) → Refuses t (let q : Result (A × State) Fault = refusal cs b (with_rest n s (t ∷ r)) in q)
  refused None t r n = (refl, refl)
  refused (Some wanted) t r n = (refl, refl)

  first : (t : Token) (r r' : List Token) (n : ℕ) (b : Option ℕ) → s.rest ≡ t ∷ r → admits cs (kind_of s.rest) ≡ false → bars (kind_of s.rest) ≡ b → f (with_rest n s (t ∷ r')) ≡ refusal cs b (with_rest n s (t ∷ r'))
  first t r r' n b here off is =
      let kind_is : kind_of s.rest ≡ Some t.kind = ap kind_of here in
      other (with_rest n s (t ∷ r')) (ap (admits cs) (sym kind_is) ∙ off) ∙ ap (λ (w : Option ℕ). let q : Result (A × State) Fault = refusal cs w (with_rest n s (t ∷ r')) in q) (ap bars (sym kind_is) ∙ is)

  hushed_is : (u : State) → (let q : Result (A × State) Fault = refusal cs None u in q) ≡ Err (record { case = text_case.Unexpected; spot = spot_of u.rest u.end_line; tried = noted_all cs u.tried })
  hushed_is u = refl

  by : (fit : Bool) → admits cs (kind_of s.rest) ≡ fit → (b : Option ℕ) → bars (kind_of s.rest) ≡ b → IsLocal f s
  by true is b bar = local_of f s (on s is)
  by false off None bar = local_err f s (fault_at text_case.Unexpected (missed_all cs s)) (other s off ∙ ap (λ (w : Option ℕ). let q : Result (A × State) Fault = refusal cs w s in q) bar) (record {
    taken = [];
    left = s.rest;
    mine = cs;
    parts = refl;
    place = refl;
    fits = tt;
    tries = refl;
    untold = other (hushed s) off ∙ ap (λ (w : Option ℕ). let q : Result (A × State) Fault = refusal cs w (hushed s) in q) bar ∙ ap (λ (w : Tried). let q : Result (A × State) Fault = Err (record { case = text_case.Unexpected; spot = spot_of s.rest s.end_line; tried = w }) in q) (noted_untold cs);
    again = λ t r r' n h. first t r r' n None h off bar ∙ ap (λ (w : Tried). let q : Result (A × State) Fault = Err (record { case = text_case.Unexpected; spot = t.spot; tried = w }) in q) (noted_untold cs) ∙ rw h refl;
    refuses = λ is t r n free. subst (λ (q : Result (A × State) Fault). Refuses t q) (sym (other (with_rest n s (t ∷ r)) free)) (refused (bars (Some t.kind)) t r n);
    passes = λ is t r n fit. passes_begins f (with_rest n s (t ∷ r)) t r refl (on (with_rest n s (t ∷ r)) fit);
  })
  by false off (Some wanted) bar = local_err f s (fault_at (text_case.ArgumentCount wanted) s) (other s off ∙ ap (λ (w : Option ℕ). let q : Result (A × State) Fault = refusal cs w s in q) bar) (record {
    taken = [];
    left = s.rest;
    mine = [];
    parts = refl;
    place = refl;
    fits = tt;
    tries = refl;
    untold = other (hushed s) off ∙ ap (λ (w : Option ℕ). let q : Result (A × State) Fault = refusal cs w (hushed s) in q) bar;
    again = λ t r r' n h. first t r r' n (Some wanted) h off bar ∙ rw h refl;
    refuses = λ is t r n free. absurd cc;
    passes = λ is t r n fit. none_admitted (Some t.kind) fit;
  })

-- one that refuses all else by the grammar
pub local_wanting : {A : Type 0} (cs : List Choice) (f : Reader A) (s : State) → ((u : State) → admits cs (kind_of u.rest) ≡ true → Begins f u) → ((u : State) → admits cs (kind_of u.rest) ≡ false → f u ≡ refusal cs None u) → IsLocal f s
local_wanting cs f s on other = local_refusing cs (λ _. None) f s on other

-- A test of the next token, which was looked for where it fails.
pub local_test : {A : Type 0} (c : Choice) (test : Option TokenKind → Bool) → ((at : Option TokenKind) → test at ≡ suits c at) → (f g : Reader A) (s : State) → ((u : State) → test (kind_of u.rest) ≡ true → Begins f u) → ((u : State) → IsLocal g u) → IsLocal (peek >>= λ k. cond (test k) f (miss c >> g)) s
local_test c test same f g s on off =
    local_match (c ∷ []) (peek >>= λ k. cond (test k) f (miss c >> g)) g s
    (λ u is. let holds = by (kind_of u.rest) true is in begins_peek (λ k. cond (test k) f (miss c >> g)) u (begins_if (test (kind_of u.rest)) f (miss c >> g) u (λ _. on u holds) (λ fails. absurd (let both = sym holds ∙ fails in cc))))
    (λ u free. other u (test (kind_of u.rest)) (by (kind_of u.rest) false free)) off where
      by : (at : Option TokenKind) (b : Bool) → admits (c ∷ []) at ≡ b → test at ≡ b
      by at b is = same at ∙ sym (admits_one c at) ∙ is

      other : (u : State) (b : Bool) → b ≡ false → (let h : Reader _ = cond b f (miss c >> g) in h u) ≡ g (missed_all (c ∷ []) u)
      other u true fails = absurd cc
      other u false fails = refl

-- what is looked for before a token that is taken does not count
joined_some : (taken : List Token) (cs ds : List Choice) → IsSome taken → joined taken cs ds ≡ cs
joined_some [] cs ds some = absurd some
joined_some (t ∷ ts) cs ds some = refl

pub begins_missed : {A : Type 0} (cs : List Choice) (g : Reader A) (s : State) → Begins g (missed_all cs s) → Begins (λ u. g (missed_all cs u)) s
begins_missed {A} cs g s at = record {
  stops = λ x s' e.
      let a = at.stops x s' e in (
        record {
          taken = a.0.taken;
          mine = joined a.0.taken a.0.mine cs;
          parts = a.0.parts;
          same_end = a.0.same_end;
          tries = a.0.tries ∙ tried_joined [] a.0.taken a.0.mine cs s.tried (noted_all cs s.tried) refl;
          untold = alike s.rest s.end_line ∙ a.0.untold;
          again = λ t r n free. alike (a.0.taken ++ t ∷ r) n ∙ a.0.again t r n (not_after a.0.taken a.0.mine cs (Some t.kind) free);
          passes = λ t r n is. subst (λ (q : Result (A × State) Fault). Passes r q) (sym (alike (a.0.taken ++ t ∷ r) n)) (a.0.passes t r n (mine a.0.taken a.0.mine a.1 (Some t.kind) is));
        },
        a.1,
      );
  fails = λ e h.
      let a = at.fails e h in (
        record {
          taken = a.0.taken;
          left = a.0.left;
          mine = joined a.0.taken a.0.mine cs;
          parts = a.0.parts;
          place = a.0.place;
          fits = a.0.fits;
          tries = a.0.tries ∙ tried_joined [] a.0.taken a.0.mine cs s.tried (noted_all cs s.tried) refl;
          untold = alike s.rest s.end_line ∙ a.0.untold;
          again = λ t r r' n k. alike (a.0.taken ++ t ∷ r') n ∙ a.0.again t r r' n k;
          refuses = λ is t r n free. subst (λ (q : Result (A × State) Fault). Refuses t q) (sym (alike (a.0.taken ++ t ∷ r) n)) (a.0.refuses is t r n (not_after a.0.taken a.0.mine cs (Some t.kind) free));
          passes = λ is t r n fit. subst (λ (q : Result (A × State) Fault). Passes r q) (sym (alike (a.0.taken ++ t ∷ r) n)) (a.0.passes is t r n (mine a.0.taken a.0.mine (a.1 (ap is_of_order is)) (Some t.kind) fit));
        },
        a.1,
      );
} where
  alike : (ts : List Token) (n : ℕ) → g (missed_all cs (with_rest n s ts)) ≡ g (with_rest n s ts)
  alike ts n = ap (λ (w : Tried). g (record s { rest = ts; end_line = n; tried = w })) (noted_untold cs)

  mine : (taken : List Token) (ds : List Choice) → IsSome taken → (at : Option TokenKind) → admits (joined taken ds cs) at ≡ true → admits ds at ≡ true
  mine taken ds some at is = ap (λ (w : List Choice). admits w at) (sym (joined_some taken ds cs some)) ∙ is

-- ---- loops

-- A loop goes no way back, where no turn does.
within_turns : {A : Type 0} (goes_on : Option TokenKind → Bool) (turn : A → Reader A) → Progresses goes_on turn → ((x : A) (s : State) → goes_on (kind_of s.rest) ≡ true → Within s.rest (turn x s)) → (n : ℕ) (x : A) (s : State) → length s.rest < n → Within s.rest (while_next goes_on turn x s)
within_turns goes_on turn progress each zero x s few = absurd (omega arith)
within_turns {A} goes_on turn progress each (suc n) x s few =
    subst (λ (q : Result (A × State) Fault). Within s.rest q) (while_choice goes_on turn progress x s)
    (by (λ y s' on took. let less : length s'.rest < length s.rest = progress x s y s' on took in within_turns goes_on turn progress each n y s' (omega arith)) (goes_on (kind_of s.rest)) refl) where
      after : ((y : A) (s' : State) → turn x s ≡ Ok (y, s') → Within s'.rest (while_next goes_on turn y s')) → (r : Result (A × State) Fault) → turn x s ≡ r → Within s.rest r → Within s.rest (then_read r (while_next goes_on turn))
      after next (Ok y) took at = within_ends y.1.rest s.rest (while_next goes_on turn y.0 y.1) at (next y.0 y.1 took)
      after next (Err e) took at = at

      by : ((y : A) (s' : State) → goes_on (kind_of s.rest) ≡ true → turn x s ≡ Ok (y, s') → Within s'.rest (while_next goes_on turn y s')) → (b : Bool) → goes_on (kind_of s.rest) ≡ b → Within s.rest (cond b (turn x >>= while_next goes_on turn) (give x) s)
      by next true on = after (λ y s' took. next y s' on took) (turn x s) refl (each x s on)
      by next false off = ([], refl)

pub within_while : {A : Type 0} (goes_on : Option TokenKind → Bool) (turn : A → Reader A) → Progresses goes_on turn → ((x : A) (s : State) → goes_on (kind_of s.rest) ≡ true → Within s.rest (turn x s)) → GoesOn (while_next goes_on turn)
within_while goes_on turn progress each x s = within_turns goes_on turn progress each (suc (length s.rest)) x s (omega arith)

-- a loop behind whose last turn this was looked for: it goes on at each token that this choice takes
module _ {A : Type 0} (c : Choice) (goes_on : Option TokenKind → Bool) (turn : A → Reader A) (progress : Progresses goes_on turn) (same : (at : Option TokenKind) → goes_on at ≡ suits c at) (each : (x : A) (s : State) → goes_on (kind_of s.rest) ≡ true → Begins (turn x) s) where
  until_goes_on : GoesOn (until c goes_on turn)
  until_goes_on x s = within_then s.rest (while_next goes_on turn x s) (missing c) (λ y u. ([], refl)) (within_while goes_on turn progress (λ y u on. within_local (turn y) u (local_of (turn y) u (each y u on))) x s)

  choose_until : (b : Bool) (x : A) (u : State) → then_read (let f : Reader A = cond b (turn x >>= while_next goes_on turn) (give x) in f u) (missing c) ≡ cond b (turn x >>= until c goes_on turn) (missing c x) u
  choose_until true x u = by (turn x u) where
    by : (r : Result (A × State) Fault) → then_read (then_read r (while_next goes_on turn)) (missing c) ≡ then_read r (until c goes_on turn)
    by (Ok y) = refl
    by (Err e) = refl
  choose_until false x u = refl

  until_by : (x : A) (u : State) (b : Bool) → goes_on (kind_of u.rest) ≡ b → until c goes_on turn x u ≡ cond b (turn x >>= until c goes_on turn) (missing c x) u
  until_by x u b is =
      ap (λ (r : Result (A × State) Fault). then_read r (missing c)) (sym (while_choice goes_on turn progress x u))
      ∙ choose_until (goes_on (kind_of u.rest)) x u
      ∙ ap (λ (w : Bool). let f : Reader A = cond w (turn x >>= until c goes_on turn) (missing c x) in f u) is

  on_by : (at : Option TokenKind) → admits (c ∷ []) at ≡ true → goes_on at ≡ true
  on_by at is = same at ∙ sym (admits_one c at) ∙ is

  off_by : (at : Option TokenKind) → admits (c ∷ []) at ≡ false → goes_on at ≡ false
  off_by at is = same at ∙ sym (admits_one c at) ∙ is

  local_turns : (n : ℕ) (x : A) (s : State) → length s.rest < n → IsLocal (until c goes_on turn x) s
  local_turns zero x s few = absurd (omega arith)
  local_turns (suc n) x s few =
      local_choice (c ∷ []) (until c goes_on turn x) (give x) s (admits (c ∷ []) (kind_of s.rest)) refl
      (λ is. let on = on_by (kind_of s.rest) is in
      local_of (until c goes_on turn x) s
      (begins_first (until c goes_on turn x) (turn x >>= until c goes_on turn) s (until_by x s true on) (λ ts m k l. until_by x (with_rest m s ts) true (ap goes_on k ∙ on))
      (begins_after (turn x) (until c goes_on turn) s until_goes_on (each x s on) (λ y s' took. let less : length s'.rest < length s.rest = progress x s y s' on took in local_turns n y s' (omega arith)))))
      (λ t r m is. let on = on_by (Some t.kind) is in
      subst (λ (q : Result (A × State) Fault). Passes r q) (sym (until_by x (with_rest m s (t ∷ r)) true on))
      (passes_then r (turn x (with_rest m s (t ∷ r))) (until c goes_on turn) until_goes_on (passes_begins (turn x) (with_rest m s (t ∷ r)) t r refl (each x (with_rest m s (t ∷ r)) on))))
      (λ u free. until_by x u false (off_by (kind_of u.rest) free))
      (local_give x (missed_all (c ∷ []) s))

  pub local_until : (x : A) (s : State) → IsLocal (until c goes_on turn x) s
  local_until x s = local_turns (suc (length s.rest)) x s (omega arith)

-- A loop over all tokens, up to the text's end: no token is left there that it could have looked for.
pub record IsLocalToEnd {A : Type 0} (f : Reader A) (s : State) : Type 0 where
  pub same_end : (x : A) (s' : State) → f s ≡ Ok (x, s') → s'.end_line ≡ s.end_line
  pub untold : (x : A) (s' : State) → f s ≡ Ok (x, s') → f (hushed s) ≡ Ok (x, hushed s')
  pub fails : (e : Fault) → f s ≡ Err e → FailsAt f s e

module _ {A : Type 0} (goes_on : Option TokenKind → Bool) (turn : A → Reader A) (progress : Progresses goes_on turn) (always : (k : TokenKind) → goes_on (Some k) ≡ true) (each : (x : A) (s : State) → IsLocal (turn x) s) where
  end_goes_on : GoesOn (while_next goes_on turn)
  end_goes_on = within_while goes_on turn progress (λ x s _. within_local (turn x) s (each x s))

  at_token : (x : A) (s : State) (t : Token) (ts : List Token) (n : ℕ) → while_next goes_on turn x (with_rest n s (t ∷ ts)) ≡ (turn x >>= while_next goes_on turn) (with_rest n s (t ∷ ts))
  at_token x s t ts n = while_on goes_on turn progress x (with_rest n s (t ∷ ts)) (always t.kind)

  at_some : (x : A) (s : State) (taken : List Token) (t : Token) (ts : List Token) (n : ℕ) → while_next goes_on turn x (with_rest n s (taken ++ t ∷ ts)) ≡ (turn x >>= while_next goes_on turn) (with_rest n s (taken ++ t ∷ ts))
  at_some x s [] t ts n = at_token x s t ts n
  at_some x s (c ∷ cs) t ts n = at_token x s c (cs ++ t ∷ ts) n

  abbrev Next : A → State → Type 0
  Next x s = (y : A) (s' : State) → goes_on (kind_of s.rest) ≡ true → turn x s ≡ Ok (y, s') → IsLocalToEnd (while_next goes_on turn y) s'

  turn_fails : (x : A) (s : State) → Next x s → goes_on (kind_of s.rest) ≡ true → (e : Fault) → (turn x >>= while_next goes_on turn) s ≡ Err e → FailsAt (turn x >>= while_next goes_on turn) s e
  turn_fails x s next on e h = elim (then_err (turn x s) (while_next goes_on turn) e h) [
    | inl d ↦ fails_first (turn x) (while_next goes_on turn) end_goes_on s e ((each x s).fails e d)
    | inr m ↦ fails_then (turn x) (while_next goes_on turn) end_goes_on s m.0.0 m.0.1 ((each x s).stops m.0.0 m.0.1 m.1) e ((next m.0.0 m.0.1 on m.1).fails e m.2)
  ]

  one_turn : (x : A) (s : State) → Next x s → (b : Bool) → goes_on (kind_of s.rest) ≡ b → IsLocalToEnd (while_next goes_on turn x) s
  one_turn x s next true on = record {
    same_end = λ y s'' e.
        let m = then_ok (turn x s) (while_next goes_on turn) (y, s'') (sym (while_on goes_on turn progress x s on) ∙ e) in
        (next m.0.0 m.0.1 on m.1).same_end y s'' m.2 ∙ ((each x s).stops m.0.0 m.0.1 m.1).same_end;
    untold = λ y s'' e.
        let m = then_ok (turn x s) (while_next goes_on turn) (y, s'') (sym (while_on goes_on turn progress x s on) ∙ e) in
        while_on goes_on turn progress x (hushed s) on
        ∙ ap (λ (q : Result (A × State) Fault). then_read q (while_next goes_on turn)) ((each x s).stops m.0.0 m.0.1 m.1).untold
        ∙ (next m.0.0 m.0.1 on m.1).untold y s'' m.2;
    fails = λ e h.
        let a = turn_fails x s next on e (sym (while_on goes_on turn progress x s on) ∙ h) in
        record {
          taken = a.taken;
          left = a.left;
          mine = a.mine;
          parts = a.parts;
          place = a.place;
          fits = a.fits;
          tries = a.tries;
          untold = while_on goes_on turn progress x (hushed s) on ∙ a.untold;
          again = λ t r r' m k. at_some x s a.taken t r' m ∙ a.again t r r' m k;
          refuses = λ is t r m free. subst (λ (q : Result (A × State) Fault). Refuses t q) (sym (at_some x s a.taken t r m)) (a.refuses is t r m free);
          passes = λ is t r m fit. subst (λ (q : Result (A × State) Fault). Passes r q) (sym (at_some x s a.taken t r m)) (a.passes is t r m fit);
        };
  }
  one_turn x s next false off = record {
    same_end = λ y s'' e. sym (ap (λ (p : A × State). p.1.end_line) (ok_is (x, s) (y, s'') (sym (while_off goes_on turn x s off) ∙ e)));
    untold = λ y s'' e. while_off goes_on turn x (hushed s) off ∙ ap (λ (p : A × State). let q : Result (A × State) Fault = Ok (p.0, hushed p.1) in q) (ok_is (x, s) (y, s'') (sym (while_off goes_on turn x s off) ∙ e));
    fails = λ e h. absurd (let both = sym (while_off goes_on turn x s off) ∙ h in cc);
  }

  local_to : (n : ℕ) (x : A) (s : State) → length s.rest < n → IsLocalToEnd (while_next goes_on turn x) s
  local_to zero x s few = absurd (omega arith)
  local_to (suc n) x s few = one_turn x s (λ y s' on took. let less : length s'.rest < length s.rest = progress x s y s' on took in local_to n y s' (omega arith)) (goes_on (kind_of s.rest)) refl

  pub local_to_end : (x : A) (s : State) → IsLocalToEnd (while_next goes_on turn x) s
  local_to_end x s = local_to (suc (length s.rest)) x s (omega arith)
