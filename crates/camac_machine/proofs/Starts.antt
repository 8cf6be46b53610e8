-- A service from its start.
use Rattle.std.proofs.Common.{◌≡◌, ℕ, List, [], ◌∷◌, length, map, replicate, Option, None, false, sym, ap, subst, ◌∙◌, arith}
use Rattle.std.proofs.Math.Path.{fun_ext}
use Rattle.arrayvec.specs.ArrayVec.{ArrayVec}
use Rattle.camac_lang.specs.Tree.{Service, Script}
use Rattle.camac_lang.specs.View.{statements_of}
use Rattle.camac_branch.specs.Address.{Address}
use Rattle.camac_branch.specs.Branch.{Branch, Answer}
use Rattle.camac_branch.specs.Crates.{branch_of}
use Rattle.camac_model.specs.State.{State, Variables, Registers, fresh}
use Rattle.camac_model.specs.Behaviour.{then_do}
use Rattle.camac_model.specs.Fine.{most_turns}
use Rattle.camac_model.specs.Meaning.{Context, block_meaning}
use Rattle.camac_model.specs.Run.{service_meaning}
use Rattle.camac_machine.specs.declared.machine.Frame.{Frame}
use Rattle.camac_machine.specs.declared.machine.Machine.{Machine}
use Rattle.camac_machine.specs.declared.scope.Scope.{Scope}
use Rattle.camac_machine.specs.declared.machine.Owner.TheVariants.{Plain}
use Rattle.camac_machine.specs.MachineState.{context_in, owner_of, open_in, open_of, opens_of, holds, AreHeld, bounds_at, state_of, stands, HasRoom}
use Rattle.camac_machine.specs.Rest.{owed, rest_in}
use Rattle.camac_machine.specs.Store.{size, variables_in, registers_in, held_at}
use Rattle.camac_machine.specs.Within.{reach_of, ScopeFits, Opens, OwnerFits, OpenFit}
use Rattle.camac_machine.proofs.Blocks.{then_ends}
use Rattle.camac_machine.proofs.Locks.{none_held, none_locked, held_push}
use Rattle.camac_machine.proofs.Bounds.{Small}
use Rattle.camac_machine.proofs.Stores.{all_same, unlocked_same}

-- one block alone
one_block : (c : Context) (ws : List ℕ) (qs : List (Option Address)) (fs : List Frame) (f : Frame) (s : State) → fs ≡ f ∷ [] → f.owner ≡ Plain → rest_in c (opens_of ws qs fs) s ≡ block_meaning c most_turns (statements_of f.rest.now) s
unfolding rest_in owed
one_block c ws qs fs f s e plain =
    ap (λ (gs : List Frame). rest_in c (opens_of ws qs gs) s) e
    ∙ ap (λ o. then_do (block_meaning c most_turns (statements_of f.rest.now) s) (owed c (owner_of ws qs o))) plain
    ∙ then_ends (block_meaning c most_turns (statements_of f.rest.now) s)

module _ {V D C : ℕ} (h : Machine V D C) (i : ℕ) (sc : Scope) (fs : ArrayVec Frame) (ws : List ℕ) (qs : List (Option Address)) where
  -- the machine at the start of a service
  abbrev pub begun : Machine V D C
  begun = record h {
    service = i;
    scope = sc;
    frames = fs;
    variables = ws;
    registers = qs;
    q = false;
    x = false;
    words = [];
    steps = 0;
    cost = 0;
    missed = 0;
  }

  -- no block is open before it
  idle_free : h.frames.items ≡ [] → HasRoom h → (c : ℕ) → (branch_of h.branch c).locked ≡ false
  idle_free idle r = none_held (branch_of h.branch) (subst (λ (gs : List Frame). AreHeld (branch_of h.branch) (map (open_in h) gs)) idle r.locks)

  pub room_begun : (f : Frame) → fs.items ≡ f ∷ [] → f.owner ≡ Plain → h.frames.items ≡ [] → HasRoom h → ScopeFits V h.checked.now.script sc → Opens (reach_of h.checked.now.script sc) D (statements_of f.rest.now) → Small C (bounds_at h.checked.now i) → length ws ≡ V → length qs ≡ V → HasRoom begun
  room_begun f e plain idle r scope fits small many more =
      let s : Script = h.checked.now.script in
      let one : OpenFit V s sc D (opens_of ws qs (f ∷ [])) = (fits, subst (λ o. OwnerFits V s sc D (owner_of ws qs o)) (sym plain) tt, tt) in
      let none : (c : ℕ) → holds c (owner_of ws qs f.owner) ≡ 0 = λ c. ap (λ o. holds c (owner_of ws qs o)) plain in
      let held : AreHeld (branch_of h.branch) (opens_of ws qs (f ∷ [])) = held_push (branch_of h.branch) [] (open_of ws qs f) none (none_locked (branch_of h.branch) (idle_free idle r)) in
      record {
        variables = many;
        registers = more;
        fits = r.fits;
        scope = scope;
        blocks = subst (λ (gs : List Frame). OpenFit V s sc D (opens_of ws qs gs)) (sym e) one;
        words = small.words;
        steps = small.steps;
        cycles = small.cycles;
        few_missed = omega arith;
        missed = omega arith;
        locks = subst (λ (gs : List Frame). AreHeld (branch_of h.branch) (opens_of ws qs gs)) (sym e) held;
        unlocks = r.unlocks;
      }

  -- it starts as the definitions say, where the service sees nothing in its store
  module _ (unset : held_at sc.variables ws ≡ replicate (size sc.variables) 0) (empty : held_at sc.registers qs ≡ replicate (size sc.registers) None) where
    state_begun : h.frames.items ≡ [] → HasRoom h → (answers : List Answer) → state_of begun answers ≡ fresh (branch_of h.branch) answers
    state_begun idle r answers =
        ap (λ (vs : List ℕ). record (state_of begun answers) { variables = variables_in vs }) unset
        ∙ ap (λ (vs : Variables). record (state_of begun answers) { variables = vs }) (fun_ext (all_same 0 (size sc.variables)))
        ∙ ap (λ (rs : List (Option Address)). record (state_of begun answers) { variables = λ _. 0; registers = registers_in rs }) empty
        ∙ ap (λ (rs : Registers). record (state_of begun answers) { variables = λ _. 0; registers = rs }) (fun_ext (all_same None (size sc.registers)))
        ∙ ap (λ (b : Branch). record (fresh (branch_of h.branch) answers) { branch = b }) (sym (unlocked_same (branch_of h.branch) (idle_free idle r)))

    pub goes_begun : (f : Frame) (v : Service) → fs.items ≡ f ∷ [] → f.owner ≡ Plain → h.frames.items ≡ [] → statements_of f.rest.now ≡ v.body → HasRoom h → (answers : List Answer) → stands None begun answers ≡ service_meaning (context_in h.checked.now) most_turns v (branch_of h.branch) answers
    goes_begun f v e plain idle b r answers =
        one_block (context_in h.checked.now) ws qs fs.items f (state_of begun answers) e plain
        ∙ ap (λ k. block_meaning (context_in h.checked.now) most_turns k (state_of begun answers)) b
        ∙ ap (block_meaning (context_in h.checked.now) most_turns v.body) (state_begun idle r answers)
