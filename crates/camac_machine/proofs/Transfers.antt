-- Transfers in progress: what is left of one after a cycle, and what is known where it is fine.
use Rattle.std.proofs.Common.{◌≡◌, ℕ, zero, suc, ◌+◌, List, [], ◌∷◌, ◌++◌, Option, Some, None, Bool, true, false, refl, sym, ap, subst, ◌∙◌, arith}
use Rattle.std.proofs.Math.Path.{fun_ext}
use Rattle.std.specs.Prelude.{option_map, slice_get, drop, IsSome, if◌then◌else◌}
use Rattle.camac_func.specs.declared.data.DataMove.{DataMove}
use Rattle.camac_func.specs.declared.data.DataMove.TheVariants as moved
use Rattle.camac_branch.specs.Address.{Address}
use Rattle.camac_branch.specs.Allowed.{width}
use Rattle.camac_branch.specs.Branch.{Answer, Reply}
use Rattle.camac_branch.specs.Plan.{Layout, crate_waits}
use Rattle.camac_esone.specs.Progress.{Left, Continues}
use Rattle.camac_esone.specs.Transfers.{NextAddress, tally}
use Rattle.camac_model.specs.State.{State, stepped, with_variable, with_word}
use Rattle.camac_model.specs.Behaviour.{ends, stops, short, Action, then_do, given}
use Rattle.camac_model.specs.Cycle.{cycle, make_cycle, kept}
use Rattle.camac_model.specs.Fine.{Bounds, IsWithinBounds, IsFine}
use Rattle.camac_model.specs.Meaning.{transfer_to}
use Rattle.camac_model.specs.Safe.{IsSafe}
use Rattle.camac_model.specs.Transfer.{transfer_data, keep_word, request, transfer}
use Rattle.camac_machine.specs.Course.{words_from, words_after}
use Rattle.camac_machine.specs.Rest.{transfer_left}
use Rattle.camac_machine.proofs.Fine.{blank, fine_given, fine_follow, fine_cycle}

-- a transfer after one Q more is one that wants, sends and ends by the further Q alone
module _ (plan : Layout) (f : ℕ) (old new : Option (List ℕ)) (next_address later : NextAddress) (finish over : List Bool → Action) (q : Bool)
    (next_is : (qs : List Bool) → later qs ≡ next_address (q ∷ qs))
    (sends : (qs : List Bool) → transfer_data new qs ≡ transfer_data old (q ∷ qs))
    (keeps : (bits : ℕ) (r : Reply) (s : State) → keep_word new bits r s ≡ keep_word old bits r s)
    (finishes : (qs : List Bool) (s : State) → over qs s ≡ finish (q ∷ qs) s) where
  same_request : (qs : List Bool) (s : State) (go to : Address → DataMove → Action) → ((at : Address) (d : DataMove) (t : State) → go at d t ≡ to at d t)
      → request (next_address (q ∷ qs)) (λ at. given (transfer_data old (q ∷ qs)) (go at)) (finish (q ∷ qs)) s ≡ request (later qs) (λ at. given (transfer_data new qs) (to at)) (over qs) s
  same_request qs s go to same =
      ap (λ o. request o (λ at. given (transfer_data old (q ∷ qs)) (go at)) (finish (q ∷ qs)) s) (sym (next_is qs))
      ∙ ap (λ m. request (later qs) (λ at. given m (go at)) (finish (q ∷ qs)) s) (sym (sends qs))
      ∙ ap (λ (e : Action). request (later qs) (λ at. given (transfer_data new qs) (go at)) e s) (fun_ext (λ t. sym (finishes qs t)))
      ∙ ap (λ (n : Address → DataMove → Action). request (later qs) (λ at. given (transfer_data new qs) (n at)) (over qs) s) (fun_ext (λ at. fun_ext (λ d. fun_ext (λ t. same at d t))))

  pub transfer_moves : (answers : List Answer) (qs : List Bool) (s : State) → transfer plan f old next_address finish (q ∷ qs) answers s ≡ transfer plan f new later over qs answers s
  transfer_moves [] qs s =
      same_request qs s (λ at d. cycle plan at f d [] (λ r. stops short)) (λ at d. cycle plan at f d [] (λ r. stops short)) (λ at d t. refl)
  transfer_moves (a ∷ rest) qs s =
      let before : Address → Reply → Action = λ at r t. transfer plan f old next_address finish (q ∷ (qs ++ r.q ∷ [])) rest (stepped (keep_word old (width plan at f) r t)) in
      let after : Address → Reply → Action = λ at r t. transfer plan f new later over (qs ++ r.q ∷ []) rest (stepped (keep_word new (width plan at f) r t)) in
      let same : (at : Address) → before at ≡ after at = λ at. fun_ext (λ r. fun_ext (λ t.
      transfer_moves rest (qs ++ r.q ∷ []) (stepped (keep_word old (width plan at f) r t))
      ∙ ap (λ (u : State). transfer plan f new later over (qs ++ r.q ∷ []) rest (stepped u)) (sym (keeps (width plan at f) r t)))) in
      same_request qs s (λ at d. cycle plan at f d (a ∷ rest) (before at)) (λ at d. cycle plan at f d (a ∷ rest) (after at))
      (λ at d t. ap (λ (go : Reply → Action). cycle plan at f d (a ∷ rest) go t) (same at))

get_past : {A : Type 0} (n : ℕ) (xs : List A) (i : ℕ) → slice_get (drop n xs) i ≡ slice_get xs (n + i)
get_past zero xs i = let e : i ≡ 0 + i = omega arith in ap (slice_get xs) e
get_past (suc n) [] i = refl
get_past (suc n) (x ∷ xs) i = get_past n xs i ∙ let e : suc (n + i) ≡ suc n + i = omega arith in ap (slice_get (x ∷ xs)) e

one_more : (q : Bool) (qs : List Bool) → tally (q ∷ qs) ≡ tally (q ∷ []) + tally qs
one_more true qs = omega arith
one_more false qs = omega arith

sends_from : (n : ℕ) (table : Option (List ℕ)) (q : Bool) (qs : List Bool) → transfer_data (words_from (n + tally (q ∷ [])) table) qs ≡ transfer_data (words_from n table) (q ∷ qs)
sends_from n None q qs = refl
sends_from n (Some ws) q qs =
    let e : n + tally (q ∷ []) + tally qs ≡ n + tally (q ∷ qs) = let m = one_more q qs in omega (arith, m) in
    ap (option_map moved.Out) (get_past (n + tally (q ∷ [])) ws (tally qs) ∙ ap (slice_get ws) e ∙ sym (get_past n ws (tally (q ∷ qs))))

keeps_from : (n m : ℕ) (table : Option (List ℕ)) (bits : ℕ) (r : Reply) (s : State) → keep_word (words_from n table) bits r s ≡ keep_word (words_from m table) bits r s
keeps_from n m None bits r s = refl
keeps_from n m (Some ws) bits r s = refl

-- after a cycle with this Q
pub transfer_continues : (plan : Layout) (f : ℕ) (table : Option (List ℕ)) (old new : Left) (x : ℕ) (q : Bool) (s : State) → Continues old q new → transfer_left plan f table old x (q ∷ []) s ≡ transfer_left plan f table new x [] s
transfer_continues plan f table old new x q s c =
    let n : ℕ = old.tally + tally (q ∷ []) in
    let finish : ℕ → List Bool → Action = λ k qs t. ends (with_variable x (k + tally qs) t) in
    transfer_moves plan f (words_from old.tally table) (words_from n table) old.next_address new.next_address (finish old.tally) (finish n) q
    c.next_address (sends_from old.tally table q) (keeps_from n old.tally table)
    (λ qs t. let m = one_more q qs in let e : n + tally qs ≡ old.tally + tally (q ∷ qs) = omega (arith, m) in ap (λ k. ends (with_variable x k t)) e) s.answers [] s
    ∙ ap (λ k. transfer plan f (words_from k table) new.next_address (finish k) [] s.answers s) (sym c.tally)

-- from the start
pub transfer_starts : (plan : Layout) (f : ℕ) (table : Option (List ℕ)) (next_address : NextAddress) (x : ℕ) (s : State) → transfer_left plan f table (record { next_address = next_address; tally = 0 }) x [] s ≡ transfer_to plan f table next_address x s
transfer_starts plan f table next_address x s =
    ap (λ g. transfer plan f g next_address (λ qs t. ends (with_variable x (0 + tally qs) t)) [] s.answers s) (all table)
    ∙ ap (λ (finish : List Bool → Action). transfer plan f table next_address finish [] s.answers s) (fun_ext (λ qs. fun_ext (λ t. let e : 0 + tally qs ≡ tally qs = omega arith in ap (λ n. ends (with_variable x n t)) e)))
  where
    all : (g : Option (List ℕ)) → words_from 0 g ≡ g
    all None = refl
    all (Some ws) = refl

-- the state after the word of a cycle
pub keep_is : (n : ℕ) (table : Option (List ℕ)) (bits : ℕ) (r : Reply) (s : State) → keep_word (words_from n table) bits r s ≡ record s { words = words_after table bits r s.words }
keep_is n (Some ws) bits r s = refl
keep_is n None bits r s = go r.q
  where
    go : (q : Bool) → (if q then with_word (kept bits r) s else s) ≡ record s { words = if q then s.words ++ kept bits r ∷ [] else s.words }
    go true = refl
    go false = refl

module _ (plan : Layout) (f : ℕ) (table : Option (List ℕ)) (next_address : NextAddress) (finish : List Bool → Action) (qs : List Bool) where
  -- no further cycle
  pub transfer_over : next_address qs ≡ None → (answers : List Answer) (s : State) → transfer plan f table next_address finish qs answers s ≡ finish qs s
  transfer_over e [] s =
      ap (λ o. request o (λ at. given (transfer_data table qs) (λ d. cycle plan at f d [] (λ r. stops short))) (finish qs) s) e
  transfer_over e (a ∷ rest) s =
      ap (λ o. request o (λ at. given (transfer_data table qs) (λ d. cycle plan at f d (a ∷ rest) (λ r t. transfer plan f table next_address finish (qs ++ r.q ∷ []) rest (stepped (keep_word table (width plan at f) r t))))) (finish qs) s) e

  -- one at this address, with this data
  module _ (at : Address) (d : DataMove) (next_is : next_address qs ≡ Some at) (sends : transfer_data table qs ≡ Some d) where
    pub transfer_waits : (s : State) → transfer plan f table next_address finish qs [] s ≡ cycle plan at f d [] (λ r. stops short) s
    transfer_waits s =
        ap (λ o. request o (λ at. given (transfer_data table qs) (λ d. cycle plan at f d [] (λ r. stops short))) (finish qs) s) next_is
        ∙ ap (λ o. given o (λ d. cycle plan at f d [] (λ r. stops short)) s) sends

    pub transfer_goes : (a : Answer) (rest : List Answer) (s : State) → transfer plan f table next_address finish qs (a ∷ rest) s
        ≡ cycle plan at f d (a ∷ rest) (λ r t. transfer plan f table next_address finish (qs ++ r.q ∷ []) rest (stepped (keep_word table (width plan at f) r t))) s
    transfer_goes a rest s =
        ap (λ o. request o (λ at. given (transfer_data table qs) (λ d. cycle plan at f d (a ∷ rest) (λ r t. transfer plan f table next_address finish (qs ++ r.q ∷ []) rest (stepped (keep_word table (width plan at f) r t))))) (finish qs) s) next_is
        ∙ ap (λ o. given o (λ d. cycle plan at f d (a ∷ rest) (λ r t. transfer plan f table next_address finish (qs ++ r.q ∷ []) rest (stepped (keep_word table (width plan at f) r t)))) s) sends

  -- what is known where it is fine to go on with it, and then with the rest
  module _ (k : Bounds) (rest : Action) where
    pub transfer_within : ((t : State) → IsFine plan k (then_do (finish qs t) rest) → IsWithinBounds k t) → (s : State) → IsFine plan k (then_do (transfer plan f table next_address finish qs [] s) rest) → IsWithinBounds k s
    transfer_within keeps s h = go (next_address qs) h
      where
        go : (o : Option Address) → IsFine plan k (then_do (request o (λ at. given (transfer_data table qs) (λ d. cycle plan at f d [] (λ r. stops short))) (finish qs) s) rest) → IsWithinBounds k s
        go None f = keeps s f
        go (Some at) g =
            let g1 = fine_given plan k (transfer_data table qs) (λ d. cycle plan at f d [] (λ r. stops short)) s rest g in
            let waits = fine_follow plan k at.crate_no (crate_waits plan at.crate_no) (s.branch at.crate_no).locked [] (make_cycle plan at f g1.0 (λ r. stops short)) s rest g1.2 in
            waits.2.1

    pub transfer_can : (at : Address) → next_address qs ≡ Some at → (s : State) → IsFine plan k (then_do (transfer plan f table next_address finish qs (blank ∷ []) s) rest) → (d : DataMove) × (transfer_data table qs ≡ Some d) × IsSome (crate_waits plan at.crate_no) × IsSafe plan at f d
    transfer_can at e s h =
        let next' : Address → Reply → Action = λ at r t. transfer plan f table next_address finish (qs ++ r.q ∷ []) [] (stepped (keep_word table (width plan at f) r t)) in
        let g = fine_given plan k (transfer_data table qs) (λ d. cycle plan at f d (blank ∷ []) (next' at)) s rest
        (subst (λ o. IsFine plan k (then_do (request o (λ at. given (transfer_data table qs) (λ d. cycle plan at f d (blank ∷ []) (next' at))) (finish qs) s) rest)) e h) in
        let can = fine_cycle plan k at f g.0 (next' at) s rest g.2 in (g.0, g.1, can.0, can.1)
