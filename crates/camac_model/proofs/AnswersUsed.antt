-- How many answers a run uses, and that further rounds change nothing.
use Rattle.std.proofs.Common.{◌≡◌, ℕ, ◌+◌, ◌≤◌, List, [], ◌∷◌, length, Some, None, false, refl, sym, ◌∙◌, ap, subst, arith}
use Rattle.std.proofs.lemmas.List.{append-nil}
use Rattle.std.specs.Prelude.{slice_get}
use Rattle.camac_lang.specs.Tree.{Script}
use Rattle.camac_branch.specs.Branch.{Branch, Answer, start}
use Rattle.camac_branch.specs.Plan.{Layout}
use Rattle.camac_model.specs.State.{State, fresh}
use Rattle.camac_model.specs.Behaviour.{demanded, event_left, piece_uses, Behaviour, does, ends, stops, Stop, stop_of, pieces}
use Rattle.camac_model.specs.Meaning.{context}
use Rattle.camac_model.specs.Run.{Chosen, event_of, service_meaning, rounds, run}
use Rattle.camac_model.specs.Laws.{Extends, RunEnd, RunsUseAnswers, RoundsSuffice}
use Rattle.camac_model.proofs.Rules.{Meets}
use Rattle.camac_model.proofs.Kept.{Still, script_keeps}
use Rattle.camac_model.proofs.Counts.{adding, AnyPiece, sum_of, Whole, whole_stepwise, all_uses}
use Rattle.camac_model.proofs.Runs.{Further, rounds_extend}
use Rattle.camac_model.proofs.Rounds.{meets_mapped, rounds_meet}

module _ (plan : Layout) (script : Script) (n total : ℕ) where
  -- so many answers are used, and these are left
  abbrev Left : ℕ → List Answer → Type 0
  Left x answers = x + length answers ≡ total

  abbrev AtStop : ℕ → Stop → State → Type 0
  AtStop x w s = x ≤ total

  idle : (x : ℕ) (a : Answer) (rest : List Answer) (p : ℕ) → Left x (a ∷ rest) → AnyPiece x (demanded p None) × Left (x + 1) rest
  idle x a rest p e = (tt, omega (arith, e))

  -- x were used before the service, and y of its own
  further : (x : ℕ) (rest : List Answer) → x + length rest ≡ total → (y : ℕ) (b : Behaviour State) → Meets (adding piece_uses) AnyPiece (Still (adding piece_uses) AnyPiece (Whole rest)) (Whole rest) y b → Meets (adding piece_uses) AnyPiece AtStop (λ z s. Left z s.answers) (x + y) b
  further x rest e y (does p b) h =
      let same : x + (y + piece_uses p) ≡ (x + y) + piece_uses p = omega arith in
      (tt, subst (λ z. Meets (adding piece_uses) AnyPiece AtStop (λ w s. Left w s.answers) z b) same (further x rest e (y + piece_uses p) b h.1))
  further x rest e y (ends s) h = omega (arith, e, h)
  further x rest e y (stops w s) h = omega (arith, e, h)

  served : (x : ℕ) (a : Answer) (rest : List Answer) (p : ℕ) (v : Chosen) (b : Branch) → slice_get script.services v.number ≡ Some v.service → Left x (a ∷ rest)
      → AnyPiece x (demanded p (Some v.number)) × Meets (adding piece_uses) AnyPiece AtStop (λ y s. AnyPiece y (event_left (event_of v.bit s)) × Left (y + 0) s.answers) (x + 1) (service_meaning (context plan script) n v.service b rest)
  served x a rest p v b listed e =
      let o : Behaviour State = service_meaning (context plan script) n v.service b rest in
      let before : (x + 1) + length rest ≡ total = omega (arith, e) in
      let from_zero : (x + 1) + 0 ≡ x + 1 = omega arith in (
        tt,
        meets_mapped (adding piece_uses) AnyPiece AtStop AnyPiece AtStop (λ z s. Left z s.answers) (λ y s. AnyPiece y (event_left (event_of v.bit s)) × Left (y + 0) s.answers)
            (λ y q h. tt) (λ y w s h. h) (λ y s h. (tt, omega (arith, h))) (x + 1) o
            (subst (λ z. Meets (adding piece_uses) AnyPiece AtStop (λ y s. Left y s.answers) z o) from_zero
            (further (x + 1) rest before 0 o (script_keeps (adding piece_uses) AnyPiece (Whole rest) (whole_stepwise rest) plan script v.service.body n 0 (fresh b rest) (omega arith)))),
      )

  used : (x : ℕ) (b : Behaviour (Unit {0})) → Meets (adding piece_uses) AnyPiece AtStop (λ y u. Left y []) x b → (x + sum_of piece_uses (pieces b) ≤ total) × (stop_of b ≡ None → x + sum_of piece_uses (pieces b) ≡ total)
  used x (does p b) h = let g = used (x + piece_uses p) b h.1 in ((let le = g.0 in omega arith), λ e. (let all = g.1 e in omega arith))
  used x (ends u) h = (omega (arith, h), λ e. omega (arith, h))
  used x (stops w s) h = (omega (arith, h), λ e. absurd (cc))

pub runs_use_answers : RunsUseAnswers
runs_use_answers plan script n answers =
    let total : ℕ = length answers in
    let o : Behaviour (Unit {0}) = run n plan script answers in
    let h = used plan script n total 0 o (rounds_meet (adding piece_uses) AnyPiece (AtStop plan script n total) plan script n (Left plan script n total) (idle plan script n total) (served plan script n total) total 0 start answers (omega arith) (omega arith)) in
    let same = all_uses (pieces o) in
    record {
      no_more = let le = h.0 in omega (arith, same);
      all_at_end = λ e. (let all = h.1 e in omega (arith, same));
    }

-- nothing is open, so what goes on is the same
nothing_open : (n : ℕ) → Further (λ w. false) n n []
nothing_open n = record { turns = omega arith; same_turns = λ e. refl; same_answers = λ e. refl }

same : (a b : Behaviour (Unit {0})) → Extends (RunEnd []) (λ w. false) [] a b → b ≡ a
same (does p a) b h = h.1 ∙ ap (does p) (same a h.0 h.2)
same (ends u) b h = h refl
same (stops w s) b h = h refl ∙ ap (λ l. stops w (record s { answers = l })) (append-nil s.answers)

pub rounds_suffice : RoundsSuffice
rounds_suffice plan script n k b answers le =
    let few : ℕ → Behaviour (Unit {0}) = λ i. rounds i (context plan script) n script.services b answers in
    same (few (length answers)) (few k)
    (subst (λ l. Extends (RunEnd []) (λ w. false) [] (few (length answers)) (rounds k (context plan script) n script.services b l)) (append-nil answers)
    (rounds_extend (λ w. false) n n [] (nothing_open n) plan script (length answers) k answers b (omega arith) (let l : length answers ≡ length (answers) = refl in subst (λ l. length l ≤ k) (sym (append-nil answers)) le)))
