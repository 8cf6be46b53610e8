-- The cycles of a transfer are those that its test for one more cycle wants, and so a list of Q-stop, Q-repeat or Scan.
use Rattle.std.proofs.Common.{◌≡◌, ℕ, ◌+◌, List, [], ◌∷◌, ◌++◌, length, Option, Some, None, Bool, true, false, refl, sym, ◌∙◌, ap, subst, arith, append_assoc, length-append}
use Rattle.std.specs.Prelude.{if◌then◌else◌}
use Rattle.std.proofs.lemmas.Bool.{eq-eqb}
use Rattle.std.proofs.lemmas.List.{append-nil}
use Rattle.camac_func.specs.declared.data.DataMove.{DataMove}
use Rattle.camac_branch.specs.Address.{Address}
use Rattle.camac_branch.specs.Allowed.{width}
use Rattle.camac_branch.specs.Branch.{Answer, Reply, reply_to}
use Rattle.camac_branch.specs.Plan.{Layout}
use Rattle.camac_esone.specs.Transfers.{NextAddress, tally, q_stop_next, q_repeat_next, scan_next}
use Rattle.camac_esone.specs.Lists.{Cycle, replies, IsQStopList, IsQRepeatList, IsScanList}
use Rattle.camac_esone.specs.Laws.{IsDriven, IsDrivenToEnd, IsDrivenSoFar, GivesExactly}
use Rattle.camac_esone.proofs.Parts.{replies-append, each_more, each_none}
use Rattle.camac_esone.proofs.Drives.{is_some}
use Rattle.camac_esone.proofs.QStopLists.{q_stop_gives}
use Rattle.camac_esone.proofs.QRepeatLists.{q_repeat_gives}
use Rattle.camac_esone.proofs.ScanLists.{scan_gives}
use Rattle.camac_model.specs.State.{State, stepped, with_variable, with_word, set_at}
use Rattle.camac_model.specs.Behaviour.{Piece, cycled, Behaviour, does, ends, stops, Stop, Action, pieces, reached, stop_of}
use Rattle.camac_model.specs.Cycle.{after_cycle, kept}
use Rattle.camac_model.specs.Transfer.{transfer_data, keep_word}
use Rattle.camac_model.specs.Meaning.{transfer_to}
use Rattle.camac_model.specs.Moments.{Any, AnyStop}
use Rattle.camac_model.specs.Transferred.{cycle_in, cycles_in, word_in, words_in, words_kept, HasMade, with_piece, MovesNext, IsTransfer, StopsAreQStop, RepeatsAreQRepeat, ScansAreScan}
use Rattle.camac_model.proofs.Rules.{Meets, transfer_meets}
use Rattle.camac_model.proofs.Rounds.{meets_mapped}

cycles-append : (ps qs : List Piece) → cycles_in (ps ++ qs) ≡ cycles_in ps ++ cycles_in qs
cycles-append [] qs = refl
cycles-append (p ∷ ps) qs = ap (λ l. cycle_in p ++ l) (cycles-append ps qs) ∙ sym (append_assoc (cycle_in p) (cycles_in ps) (cycles_in qs))

words-append : (plan : Layout) (ps qs : List Piece) → words_in plan (ps ++ qs) ≡ words_in plan ps ++ words_in plan qs
words-append plan [] qs = refl
words-append plan (p ∷ ps) qs = ap (λ l. word_in plan p ++ l) (words-append plan ps qs) ∙ sym (append_assoc (word_in plan p) (words_in plan ps) (words_in plan qs))

same_place : {A : Type 0} (x : ℕ) (v : A) (old : ℕ → A) → set_at x v old x ≡ v
same_place x v old = ap (λ t. if t then v else old x) (eq-eqb x x refl)

module _ (plan : Layout) (f : ℕ) (table : Option (List ℕ)) (next_address : NextAddress) (x : ℕ) (s : State) where
  pub record SoFar (ps : List Piece) (qs : List Bool) (t : State) : Type 0 where
    driven : IsDriven next_address (cycles_in ps)
    q : replies (cycles_in ps) ≡ qs
    made : HasMade plan table s ps t

  pub record AtEnd (ps : List Piece) (t : State) : Type 0 where
    pub driven : IsDrivenToEnd next_address (cycles_in ps)
    pub made : HasMade plan table s ps t
    pub tally : t.variables x ≡ tally (replies (cycles_in ps))

  pub record AtStop (ps : List Piece) (w : Stop) (t : State) : Type 0 where
    pub driven : IsDrivenSoFar next_address (cycles_in ps)
    pub made : HasMade plan table s ps t

  so_far : (ps : List Piece) (qs : List Bool) (t : State) (w : Stop) (at : Address) → SoFar ps qs t → next_address qs ≡ Some at → AtStop ps w t
  so_far ps qs t w at i e = record {
    driven = record { driven = i.driven; goes_on = is_some (next_address (replies (cycles_in ps))) at (ap next_address i.q ∙ e) };
    made = i.made;
  }

  words_after : (r : Reply) (at : Address) (d : DataMove) (wait : ℕ) (g : Option (List ℕ)) (ps : List Piece) (t : State) → t.words ≡ s.words ++ words_kept plan g ps → (keep_word g (width plan at f) r t).words ≡ s.words ++ words_kept plan g (with_piece ps (cycled at f d r wait))
  words_after r at d wait (Some ws) ps t e = e
  words_after r at d wait None ps t e =
      go r.q ∙ ap (λ l. s.words ++ l) (sym (words-append plan ps (cycled at f d r wait ∷ []) ∙ ap (λ l. words_in plan ps ++ l) (append-nil (word_in plan (cycled at f d r wait)))))
    where
      go : (b : Bool) → (if b then with_word (kept (width plan at f) r) t else t).words ≡ s.words ++ (words_in plan ps ++ (if b then kept (width plan at f) r ∷ [] else []))
      go true = ap (λ l. l ++ kept (width plan at f) r ∷ []) e ∙ append_assoc s.words (words_in plan ps) (kept (width plan at f) r ∷ [])
      go false = e ∙ ap (λ l. s.words ++ l) (sym (append-nil (words_in plan ps)))

  steps_kept : (g : Option (List ℕ)) (w : ℕ) (r : Reply) (t : State) → (keep_word g w r t).steps ≡ t.steps
  steps_kept None w r t = go r.q
    where
      go : (b : Bool) → (if b then with_word (kept w r) t else t).steps ≡ t.steps
      go true = refl
      go false = refl
  steps_kept (Some ws) w r t = refl

  module _ (ps : List Piece) (qs : List Bool) (t : State) (at : Address) (d : DataMove) (r : Reply) (wait : ℕ) (rest : List Answer) (i : SoFar ps qs t) (e : next_address qs ≡ Some at) where
    more_cycles : cycles_in (with_piece ps (cycled at f d r wait)) ≡ cycles_in ps ++ (record { at = at; q = r.q }) ∷ []
    more_cycles = cycles-append ps (cycled at f d r wait ∷ [])

    one_on : SoFar (with_piece ps (cycled at f d r wait)) (qs ++ r.q ∷ []) (stepped (keep_word table (width plan at f) r (after_cycle at f r wait rest t)))
    one_on =
        let u : State = after_cycle at f r wait rest t in
        let c : Cycle = record { at = at; q = r.q } in
        record {
          driven = subst (IsDriven next_address) (sym more_cycles) (each_more (λ before k. next_address (replies before) ≡ Some k.at) (cycles_in ps) c i.driven (ap next_address i.q ∙ e));
          q = ap replies more_cycles ∙ replies-append (cycles_in ps) (c ∷ []) ∙ ap (λ l. l ++ r.q ∷ []) i.q;
          made = record {
            words = words_after r at d wait table ps u i.made.words;
            steps =
                let kept' = steps_kept table (width plan at f) r u in
                let before = i.made.steps in
                let count : length (cycles_in (with_piece ps (cycled at f d r wait))) ≡ length (cycles_in ps) + 1 = ap length more_cycles ∙ length-append (cycles_in ps) (c ∷ []) in
                omega (arith, kept', before, count);
          };
        }

  finish : List Bool → Action
  finish qs t = ends (with_variable x (tally qs) t)

  -- every cycle is wanted by those before it
  made_by : Meets with_piece (MovesNext table) AtStop AtEnd [] (transfer_to plan f table next_address x s)
  made_by =
      transfer_meets with_piece (MovesNext table) AtStop AtEnd plan f table next_address (λ qs t. ends (with_variable x (tally qs) t)) SoFar
      (record {
        no_word = λ ps qs t at i e _. so_far ps qs t _ at i e;
        no_crate = λ ps qs t at i e _. so_far ps qs t _ at i e;
        no_answer = λ ps qs t at i e _. so_far ps qs t _ at i e;
        no_wait = λ ps qs t at waits a rest i e _ _ _. so_far ps qs t _ at i e;
        keeps = λ ps qs t at d waits a rest i e data' _ _ _.
            (ap (transfer_data table) i.q ∙ data', one_on ps qs t at d (reply_to plan t.branch at f a) a.wait rest i e);
      })
      (λ ps qs t i e. record {
        driven = record { driven = i.driven; ended = ap next_address i.q ∙ e };
        made = record { words = i.made.words; steps = i.made.steps };
        tally = same_place x (tally qs) t.variables ∙ ap tally (sym i.q);
      })
      s.answers [] [] s refl (record { driven = each_none (λ before k. next_address (replies before) ≡ Some k.at); q = refl; made = record { words = none_yet table; steps = omega arith } })
    where
      none_yet : (g : Option (List ℕ)) → s.words ≡ s.words ++ words_kept plan g []
      none_yet None = sym (append-nil s.words)
      none_yet (Some ws) = sym (append-nil s.words)

  -- of all the pieces
  at_last : (ps : List Piece) (b : Behaviour State) → Meets with_piece (MovesNext table) AtStop AtEnd ps b → (stop_of b ≡ None → AtEnd (ps ++ pieces b) (reached b)) × ((w : Stop) → stop_of b ≡ Some w → AtStop (ps ++ pieces b) w (reached b))
  at_last ps (does p b) h =
      let g = at_last (with_piece ps p) b h.1 in
      let same : (ps ++ p ∷ []) ++ pieces b ≡ ps ++ p ∷ pieces b = append_assoc ps (p ∷ []) (pieces b) in
      (λ e. subst (λ l. AtEnd l (reached b)) same (g.0 e), λ w e. subst (λ l. AtStop l w (reached b)) same (g.1 w e))
  at_last ps (ends t) h = (λ e. subst (λ l. AtEnd l t) (sym (append-nil ps)) h, λ w e. absurd (cc))
  at_last ps (stops v t) h =
      (λ e. absurd (cc), λ w e. (let same : v ≡ w = cc in subst (λ z. AtStop (ps ++ []) z t) same (subst (λ l. AtStop l v t) (sym (append-nil ps)) h)))

  pub is_transfer : (IsList : List Cycle → Type 0) → GivesExactly next_address IsList → IsTransfer plan table x IsList s (transfer_to plan f table next_address x s)
  is_transfer IsList exact =
      let b : Behaviour State = transfer_to plan f table next_address x s in
      let all = at_last [] b made_by in
      record {
        ended = λ e. (let h = all.0 e in record { is_list = (exact.whole (cycles_in (pieces b))).1 h.driven; has_made = h.made; tally = h.tally });
        stopped = λ w e. (let h = all.1 w e in record { is_cut = (exact.cut (cycles_in (pieces b))).1 h.driven; has_made = h.made });
        moves = meets_mapped with_piece (MovesNext table) AtStop (MovesNext table) AnyStop AtEnd Any (λ y p h. h) (λ y w t h. tt) (λ y t h. tt) [] b made_by;
      }

pub stops_are_q_stop : StopsAreQStop
unfolding StopsAreQStop
stops_are_q_stop plan f table x s at max = is_transfer plan f table (q_stop_next at max) x s (IsQStopList at max) (q_stop_gives at max)

pub repeats_are_q_repeat : RepeatsAreQRepeat
unfolding RepeatsAreQRepeat
repeats_are_q_repeat plan f table x s at max limit = is_transfer plan f table (q_repeat_next at max limit) x s (IsQRepeatList at max limit) (q_repeat_gives at max limit)

pub scans_are_scan : ScansAreScan
unfolding ScansAreScan
scans_are_scan plan f table x s first last max = is_transfer plan f table (scan_next first last max) x s (IsScanList first last max) (scan_gives first last max)
