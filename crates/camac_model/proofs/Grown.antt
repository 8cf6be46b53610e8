-- The counts of a service only grow.
use Rattle.std.proofs.Common.{ℕ, [], ◌∷◌, ◌++◌, sym, ◌∙◌, ap, arith, append_assoc}
use Rattle.std.proofs.lemmas.List.{append-nil}
use Rattle.camac_model.specs.State.{State, with_word}
use Rattle.camac_model.specs.Behaviour.{Piece, Behaviour, does, ends, stops, reached}
use Rattle.camac_model.specs.Meaning.{context, block_meaning}
use Rattle.camac_model.specs.Laws.{HasGrown, CountsGrow}
use Rattle.camac_model.proofs.Rules.{Meets}
use Rattle.camac_model.proofs.Kept.{IsStepwise, Still, script_keeps}

abbrev step : Unit {0} → Piece → Unit {0}
step u p = u

abbrev AnyPiece : Unit {0} → Piece → Type 0
AnyPiece u p = Unit {0}

abbrev Grown : State → Unit {0} → State → Type 0
Grown s u t = HasGrown s t

one_more : (s t : State) (w : ℕ) → HasGrown s t → HasGrown s (with_word w t)
one_more s t w h = record {
  steps = h.steps;
  cost = h.cost;
  words = (h.words.0 ++ w ∷ [], ap (λ l. l ++ w ∷ []) h.words.1 ∙ append_assoc s.words h.words.0 (w ∷ []));
}

stepwise : (s : State) → IsStepwise step AnyPiece (Grown s)
stepwise s = record {
  on_step = λ u t h. record { steps = let le = h.steps in omega arith; cost = h.cost; words = h.words };
  on_store = λ u env regs t h. record { steps = h.steps; cost = h.cost; words = h.words };
  on_word = λ u w t h. one_more s t w h;
  on_cycle = λ u at f d r a rest t e h. (tt, record { steps = h.steps; cost = let le = h.cost in omega arith; words = h.words });
  on_lock = λ u c a rest t e free h. (tt, record { steps = h.steps; cost = let le = h.cost in omega arith; words = h.words });
  on_release = λ u c t h. (tt, record { steps = let le = h.steps in omega arith; cost = h.cost; words = h.words });
}

at_last : (s : State) (u : Unit {0}) (b : Behaviour State) → Meets step AnyPiece (Still step AnyPiece (Grown s)) (Grown s) u b → HasGrown s (reached b)
at_last s u (does p b) h = at_last s u b h.1
at_last s u (ends t) h = h
at_last s u (stops w t) h = h

pub counts_grow : CountsGrow
counts_grow plan script n b s =
    at_last s tt (block_meaning (context plan script) n b s)
    (script_keeps step AnyPiece (Grown s) (stepwise s) plan script b n tt s (record { steps = omega arith; cost = omega arith; words = ([], sym (append-nil s.words)) }))
