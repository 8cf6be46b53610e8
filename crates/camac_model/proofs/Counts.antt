-- What a service counts is what its pieces tell.
use Rattle.std.proofs.Common.{◌≡◌, ℕ, zero, suc, ◌+◌, List, [], ◌∷◌, Bool, true, false, refl, sym, ◌∙◌, ap, subst, arith, length}
use Rattle.std.specs.Prelude.{min, drop}
use Rattle.camac_branch.specs.Branch.{Answer}
use Rattle.camac_model.specs.State.{State, missed_with, fresh}
use Rattle.camac_model.specs.Behaviour.{piece_uses, uses, Behaviour, does, ends, stops, Piece, pieces, reached, piece_cost, cost, without_x, piece_misses, misses}
use Rattle.camac_model.specs.Run.{service_meaning}
use Rattle.camac_model.specs.Meaning.{context}
use Rattle.camac_model.specs.Laws.{ServicesCount}
use Rattle.camac_model.proofs.Rules.{Meets}
use Rattle.camac_model.proofs.Kept.{IsStepwise, script_keeps}

-- a number that each piece adds to
abbrev pub adding : (Piece → ℕ) → ℕ → Piece → ℕ
adding f x p = x + f p

abbrev pub sum_of : (Piece → ℕ) → List Piece → ℕ
sum_of f [] = 0
sum_of f (p ∷ ps) = f p + sum_of f ps

-- what holds of the sum at each end and stop holds of all the pieces
module _ (f : Piece → ℕ) (I : ℕ → State → Type 0) where
  abbrev MeetsSum : ℕ → Behaviour State → Type 0
  MeetsSum x b = Meets (adding f) (λ _ _. Unit {0}) (λ y w s. I y s) I x b

  in_all : (x : ℕ) (b : Behaviour State) → MeetsSum x b → (k : ℕ) → k ≡ x + sum_of f (pieces b) → I k (reached b)
  in_all x (does p b) h k e = in_all (x + f p) b h.1 k (omega (arith, e))
  in_all x (ends s) h k e = let same : x ≡ k = omega (arith, e) in subst (λ j. I j s) same h
  in_all x (stops w s) h k e = let same : x ≡ k = omega (arith, e) in subst (λ j. I j s) same h

abbrev pub AnyPiece : ℕ → Piece → Type 0
AnyPiece x p = Unit {0}

abbrev Cycles : ℕ → State → Type 0
Cycles x s = s.cost ≡ x

cycles_stepwise : IsStepwise (adding piece_cost) AnyPiece Cycles
cycles_stepwise = record {
  on_step = λ x s i. i;
  on_store = λ x env regs s i. i;
  on_word = λ x w s i. i;
  on_cycle = λ x at f d r a rest s e i. (tt, ap (λ k. k + (1 + a.wait)) i);
  on_lock = λ x c a rest s e free i. (tt, ap (λ k. k + a.wait) i);
  on_release = λ x c s i. (tt, omega (arith, i));
}

abbrev Missed : ℕ → State → Type 0
Missed x s = s.missed ≡ min 65535 x

pub one_missed : (b : Bool) (m x : ℕ) → m ≡ min 65535 x → missed_with b m ≡ min 65535 (x + without_x b)
one_missed true m x e = omega (arith, e)
one_missed false m x e = omega (arith, e)

none_missed : (m x : ℕ) → m ≡ min 65535 x → m ≡ min 65535 (x + 0)
none_missed m x e = omega (arith, e)

missed_stepwise : IsStepwise (adding piece_misses) AnyPiece Missed
missed_stepwise = record {
  on_step = λ x s i. i;
  on_store = λ x env regs s i. i;
  on_word = λ x w s i. i;
  on_cycle = λ x at f d r a rest s e i. (tt, one_missed r.x s.missed x i);
  on_lock = λ x c a rest s e free i. (tt, none_missed s.missed x i);
  on_release = λ x c s i. (tt, none_missed s.missed x i);
}

abbrev Left : List Answer → ℕ → State → Type 0
Left answers x s = s.answers ≡ drop x answers

drop_one : (k : ℕ) (l : List Answer) (a : Answer) (rest : List Answer) → drop k l ≡ a ∷ rest → rest ≡ drop (suc k) l
drop_one zero [] a rest e = absurd (cc)
drop_one zero (b ∷ l) a rest e = cc
drop_one (suc k) [] a rest e = absurd (cc)
drop_one (suc k) (b ∷ l) a rest e = drop_one k l a rest e

used_one : (k : ℕ) (l : List Answer) (s : State) (a : Answer) (rest : List Answer) → s.answers ≡ a ∷ rest → s.answers ≡ drop k l → rest ≡ drop (k + 1) l
used_one k l s a rest e i =
    let next : suc k ≡ k + 1 = omega arith in
    drop_one k l a rest (sym i ∙ e) ∙ ap (λ j. drop j l) next

left_stepwise : (answers : List Answer) → IsStepwise (adding piece_uses) AnyPiece (Left answers)
left_stepwise answers = record {
  on_step = λ x s i. i;
  on_store = λ x env regs s i. i;
  on_word = λ x w s i. i;
  on_cycle = λ x at f d r a rest s e i. (tt, used_one x answers s a rest e i);
  on_lock = λ x c a rest s e free i. (tt, used_one x answers s a rest e i);
  on_release = λ x c s i. let same : x ≡ x + 0 = omega arith in (tt, i ∙ ap (λ j. drop j answers) same);
}

-- answers used and answers left are all the answers
abbrev pub Whole : List Answer → ℕ → State → Type 0
Whole answers x s = x + length s.answers ≡ length answers

whole_one : (answers : List Answer) (x : ℕ) (s : State) (a : Answer) (rest : List Answer) → s.answers ≡ a ∷ rest → Whole answers x s → (x + 1) + length rest ≡ length answers
whole_one answers x s a rest e i = let l : length s.answers ≡ length (a ∷ rest) = ap length e in omega (arith, i, l)

pub whole_stepwise : (answers : List Answer) → IsStepwise (adding piece_uses) AnyPiece (Whole answers)
whole_stepwise answers = record {
  on_step = λ x s i. i;
  on_store = λ x env regs s i. i;
  on_word = λ x w s i. i;
  on_cycle = λ x at f d r a rest s e i. (tt, whole_one answers x s a rest e i);
  on_lock = λ x c a rest s e free i. (tt, whole_one answers x s a rest e i);
  on_release = λ x c s i. (tt, omega (arith, i));
}

costs : (ps : List Piece) → cost ps ≡ sum_of piece_cost ps
costs [] = refl
costs (p ∷ ps) = ap (λ k. piece_cost p + k) (costs ps)

all_misses : (ps : List Piece) → misses ps ≡ sum_of piece_misses ps
all_misses [] = refl
all_misses (p ∷ ps) = ap (λ k. piece_misses p + k) (all_misses ps)

pub all_uses : (ps : List Piece) → uses ps ≡ sum_of piece_uses ps
all_uses [] = refl
all_uses (p ∷ ps) = ap (λ k. piece_uses p + k) (all_uses ps)

pub services_count : ServicesCount
services_count plan script n v b answers =
    let o : Behaviour State = service_meaning (context plan script) n v b answers in
    record {
      cycles = in_all piece_cost Cycles 0 o (script_keeps (adding piece_cost) AnyPiece Cycles cycles_stepwise plan script v.body n 0 (fresh b answers) refl) (cost (pieces o)) (omega (arith, costs (pieces o)));
      missed = in_all piece_misses Missed 0 o (script_keeps (adding piece_misses) AnyPiece Missed missed_stepwise plan script v.body n 0 (fresh b answers) refl) (misses (pieces o)) (omega (arith, all_misses (pieces o)));
      answers_left = in_all piece_uses (Left answers) 0 o (script_keeps (adding piece_uses) AnyPiece (Left answers) (left_stepwise answers) plan script v.body n 0 (fresh b answers) refl) (uses (pieces o)) (omega (arith, all_uses (pieces o)));
      no_more =
          let whole = in_all piece_uses (Whole answers) 0 o (script_keeps (adding piece_uses) AnyPiece (Whole answers) (whole_stepwise answers) plan script v.body n 0 (fresh b answers) (omega arith)) (uses (pieces o)) (omega (arith, all_uses (pieces o))) in omega (arith, whole);
    }
