-- A machine with one block more or less.
use Rattle.std.proofs.Common.{◌≡◌, ℕ, ◌+◌, ◌-◌, ◌*◌, ◌<◌, ◌≤◌, List, [], ◌∷◌, ◌++◌, length, length-append, map, refl, sym, ap, subst, ◌∙◌, arith}
use Rattle.std.proofs.lemmas.List.{append-nil, map-append, length-map}
use Rattle.std.proofs.Math.Path.{fun_ext}
use Rattle.std.specs.Prelude.{Option, Some, None, IfSome, IsSomeAnd}
use Rattle.std.specs.Borrow.{Bor}
use Rattle.camac_rules.specs.Checked.{CheckedScript}
use Rattle.arrayvec.specs.ArrayVec.{ArrayVec}
use Rattle.camac_lang.specs.declared.tree.Stmt.{Stmt}
use Rattle.camac_lang.specs.Tree.{Statement, Block, next, Script}
use Rattle.camac_lang.specs.View.{statements_of}
use Rattle.camac_branch.specs.Branch.{Answer}
use Rattle.camac_branch.specs.Crates.{branch_of}
use Rattle.camac_model.specs.State.{State, stepped}
use Rattle.camac_model.specs.Behaviour.{Behaviour, Action, then_do}
use Rattle.camac_model.specs.Fine.{IsFine, most_turns}
use Rattle.camac_model.specs.Meaning.{Context, effect, block_meaning}
use Rattle.camac_model.proofs.Runs.{then_assoc}
use Rattle.camac_machine.specs.declared.machine.Frame.{Frame}
use Rattle.camac_machine.specs.declared.machine.Machine.{Machine}
use Rattle.camac_machine.specs.declared.machine.Owner.TheVariants.{Plain}
use Rattle.camac_machine.specs.declared.machine.Pending.{Pending}
use Rattle.camac_machine.specs.declared.machine.Pending.TheVariants.{Cycle, Read, Lock, Transfer, Pause}
use Rattle.camac_machine.specs.declared.scope.Scope.{Scope}
use Rattle.camac_machine.specs.Rest.{nothing, owed, Open, left_of, rest_in, says}
use Rattle.camac_machine.specs.Within.{StatementFits, Opens, OwnerFits, outer, OpenFit}
use Rattle.camac_machine.specs.MachineState.{bounds_at, bounds_of, open_in, opens_in, holds, AreHeld, free, reach, context_in, state_of, left_in, stands, IsFineHere, HasRoomFor, HasRoom, IsPending, Awaits, Wants, Enters, Advances}
use Rattle.camac_machine.proofs.Blocks.{then_ends, rest_push, opens_push, opens_pop, says_more, measure_falls}
use Rattle.camac_machine.proofs.Locks.{held_push, held_same}
use Rattle.camac_machine.proofs.Rooms.{room_with, room_kept}

-- what is left with a frame more
pub left_pushed : (c : Context) (go : Frame → Open) (fs : List Frame) (f : Frame) (s : State) → rest_in c (map go (fs ++ f ∷ [])) s ≡ then_do (left_of c (go f) s) (rest_in c (map go fs))
left_pushed c go fs f s = ap (λ os. rest_in c os s) (map-append go fs (f ∷ [])) ∙ rest_push c (map go fs) (go f) s

-- a block with nothing to do after it
plain_left : (c : Context) (b : Block) (s : State) → left_of c (record { block = b; owner = nothing }) s ≡ block_meaning c most_turns b s
unfolding owed
plain_left c b s = then_ends (block_meaning c most_turns b s)

module _ {V D C : ℕ} (h : Machine V D C) where
  -- what is left does not depend on the statement that was begun
  module _ (b : Option (Bor Stmt)) where
    pub ready_at : (o : Option Pending) → IfSome o (IsPending h) → IfSome o (IsPending (record h { begun = b }))
    ready_at None p = tt
    ready_at (Some (Cycle k)) p = p
    ready_at (Some (Read k x bits)) p = p
    ready_at (Some (Lock k body)) p = p
    ready_at (Some (Transfer w)) p = p
    ready_at (Some Pause) p = p

    pub stands_at : (o : Option Pending) (answers : List Answer) → stands o (record h { begun = b }) answers ≡ stands o h answers
    stands_at None answers = refl
    stands_at (Some w) answers = refl

  opens_length : length (opens_in h) ≡ length h.frames.items
  opens_length = length-map h.frames.items (open_in h)

  module _ (f : Frame) (fs : ArrayVec Frame) where
    opens_pushed : fs.items ≡ h.frames.items ++ f ∷ [] → map (open_in h) fs.items ≡ opens_in h ++ open_in h f ∷ []
    opens_pushed e = ap (map (open_in h)) e ∙ map-append (open_in h) h.frames.items (f ∷ [])

    -- with a block more, which holds no lock
    pub room_opened : fs.items ≡ h.frames.items ++ f ∷ [] → HasRoom h → Opens (reach h) (free h) (open_in h f).block → OwnerFits V h.checked.now.script h.scope (free h) (open_in h f).owner → outer h.scope (open_in h f).owner ≡ h.scope → ((c : ℕ) → holds c (open_in h f).owner ≡ 0) → HasRoom (record h { frames = fs })
    room_opened e r b w stays none =
        let s : Script = h.checked.now.script in
        let n : D - length h.frames.items ≡ D - length (opens_in h) = ap (λ k. D - k) (sym opens_length) in
        let fit = opens_push V s h.scope D (opens_in h) (open_in h f) (subst (λ (u : Scope). OpenFit V s u D (opens_in h)) (sym stays) r.blocks) (subst (λ d. Opens (reach h) d (open_in h f).block) n b) (subst (λ d. OwnerFits V s h.scope d (open_in h f).owner) n w) in
        let held = held_push (branch_of h.branch) (opens_in h) (open_in h f) none r.locks in
        room_with r r.variables r.registers r.scope (subst (OpenFit V h.checked.now.script h.scope D) (sym (opens_pushed e)) fit) (subst (AreHeld (branch_of h.branch)) (sym (opens_pushed e)) held) r.unlocks

    -- the same block with its first statement begun
    pub room_begun : (o : Open) (st : Statement) → fs.items ≡ h.frames.items ++ f ∷ [] → o.block ≡ next st (open_in h f).block → o.owner ≡ (open_in h f).owner → HasRoomFor h (opens_in h ++ o ∷ []) → HasRoom (record h { frames = fs }) × StatementFits (reach h) (D - length fs.items) st
    room_begun o st e b w r =
        let os : List Open = opens_in h in
        let s : Script = h.checked.now.script in
        let last = opens_pop V s h.scope D os o r.blocks in
        let block : Opens (reach h) (D - length os) (next st (open_in h f).block) = subst (λ q. Opens (reach h) (D - length os) q) b last.block in
        let fit = opens_push V s h.scope D os (open_in h f) (subst (λ q. OpenFit V s (outer h.scope q) D os) w last.others) (block.0, block.1.1) (subst (λ q. OwnerFits V s h.scope (D - length os) q) w last.owner) in
        let held = held_same (branch_of h.branch) os o (open_in h f) (λ c. ap (holds c) w) r.locks in
        let n : length fs.items ≡ length os + 1 = ap length e ∙ length-append h.frames.items (f ∷ []) ∙ ap (λ k. k + 1) (sym opens_length) in
        let d : D - length os - 1 ≡ D - length fs.items = omega (arith, n) in (
          room_with r r.variables r.registers r.scope (subst (OpenFit V h.checked.now.script h.scope D) (sym (opens_pushed e)) fit) (subst (AreHeld (branch_of h.branch)) (sym (opens_pushed e)) held) r.unlocks,
          subst (λ k. StatementFits (reach h) k st) d block.1.0,
        )

    -- what was left, with this frame first
    pub goes_pushed : fs.items ≡ h.frames.items ++ f ∷ [] → (b : Behaviour State) → then_do b (left_in (record h { frames = fs })) ≡ then_do (then_do b (left_of (context_in h.checked.now) (open_in h f))) (left_in h)
    goes_pushed e b =
        let c : Context = context_in h.checked.now in
        ap (λ (gs : List Frame). then_do b (rest_in c (map (open_in h) gs))) e
        ∙ ap (λ (go : Action). then_do b go) (fun_ext (left_pushed c (open_in h) h.frames.items f))
        ∙ sym (then_assoc b (left_of c (open_in h f)) (left_in h))

    -- what was left of a block, with its first statement begun
    pub goes_begun : (o : Open) (st : Statement) → fs.items ≡ h.frames.items ++ f ∷ [] → o.block ≡ next st (open_in h f).block → o.owner ≡ (open_in h f).owner → (s : State) → then_do (effect (context_in h.checked.now) most_turns st (stepped s)) (left_in (record h { frames = fs })) ≡ then_do (left_of (context_in h.checked.now) o s) (left_in h)
    goes_begun o st e b w s =
        let c : Context = context_in h.checked.now in
        goes_pushed e (effect c most_turns st (stepped s))
        ∙ ap (λ r. then_do r (left_in h))
        (sym (then_assoc (effect c most_turns st (stepped s)) (block_meaning c most_turns (open_in h f).block) (owed c (open_in h f).owner))
        ∙ ap (λ q. then_do (block_meaning c most_turns q s) (owed c (open_in h f).owner)) (sym b)
        ∙ ap (λ q. then_do (block_meaning c most_turns o.block s) (owed c q)) (sym w))

    -- the frame that is taken comes first
    pub room_popped : h.frames.items ≡ fs.items ++ f ∷ [] → HasRoom h → HasRoomFor (record h { frames = fs }) (map (open_in h) fs.items ++ open_in h f ∷ [])
    room_popped e r =
        let same : opens_in h ≡ map (open_in h) fs.items ++ open_in h f ∷ [] = ap (map (open_in h)) e ∙ map-append (open_in h) fs.items (f ∷ []) in
        room_with r r.variables r.registers r.scope (subst (OpenFit V h.checked.now.script h.scope D) same r.blocks) (subst (AreHeld (branch_of h.branch)) same r.locks) r.unlocks

    pub goes_popped : h.frames.items ≡ fs.items ++ f ∷ [] → (s : State) → left_in h s ≡ then_do (left_of (context_in h.checked.now) (open_in h f) s) (left_in (record h { frames = fs }))
    goes_popped e s =
        ap (λ (gs : List Frame). rest_in (context_in h.checked.now) (map (open_in h) gs) s) e ∙ left_pushed (context_in h.checked.now) (open_in h) fs.items f s

  -- a statement that wants an answer
  pub wants_advance : (st : Statement) (o : Option Pending) → HasRoom h → IsSomeAnd o (Awaits (record h { steps = h.steps + 1 }) (λ c. effect c most_turns st)) → Advances 2 h (λ c s. effect c most_turns st (stepped s)) o (record h { steps = h.steps + 1 })
  wants_advance st (Some w) r k = record {
    room = room_kept r;
    checked = refl;
    service = refl;
    awaits = k.awaits;
    pace = omega arith;
    few = omega arith;
    released = [];
    unlocks = sym (append-nil h.unlocks.items);
    goes = λ answers. ap (λ b. then_do b (left_in h)) (k.goes answers);
  }
  wants_advance st None r k = absurd k

  pub wants_first : (st : Statement) (o : Option Pending) → IsSomeAnd o (Awaits (record h { steps = h.steps + 1 }) (λ c. effect c most_turns st)) → IfSome o (Wants h (λ c s. effect c most_turns st (stepped s)) (record h { steps = h.steps + 1 }))
  wants_first st (Some w) k = k.goes
  wants_first st None k = absurd k

  pub block_length : (body : Bor (List Stmt)) (new : Machine V D C) → new.frames.items ≡ h.frames.items ++ record { rest = body; owner = Plain } ∷ [] → length new.frames.items ≡ length h.frames.items + 1
  block_length body new pushed = ap length pushed ∙ length-append h.frames.items (record { rest = body; owner = Plain } ∷ [])

  -- one that opens a block
  pub block_enters : (st : Statement) (body : Bor (List Stmt)) (new : Machine V D C) → new ≡ record h { frames = new.frames } → new.frames.items ≡ h.frames.items ++ record { rest = body; owner = Plain } ∷ [] → HasRoom new
      → ((answers : List Answer) → block_meaning (context_in h.checked.now) most_turns (statements_of body.now) (state_of h answers) ≡ effect (context_in h.checked.now) most_turns st (state_of h answers))
      → Enters h (λ c. effect c most_turns st) new
  block_enters st body new same pushed room goes = subst (λ n. HasRoom n → Enters h (λ c. effect c most_turns st) n) (sym same) (λ r. record {
    room = r;
    checked = refl;
    service = refl;
    steps = refl;
    blocks = block_length body new pushed;
    unlocks = refl;
    goes = λ answers.
        ap (λ (gs : List Frame). rest_in (context_in h.checked.now) (map (open_in h) gs) (state_of h answers)) pushed
        ∙ left_pushed (context_in h.checked.now) (open_in h) h.frames.items (record { rest = body; owner = Plain }) (state_of h answers)
        ∙ ap (λ b. then_do b (left_in h)) (plain_left (context_in h.checked.now) (statements_of body.now) (state_of h answers) ∙ goes answers);
  }) room

  pub enter_advances : (st : Statement) (new : Machine V D C) → Enters (record h { steps = h.steps + 1 }) (λ c. effect c most_turns st) new → Advances 2 h (λ c s. effect c most_turns st (stepped s)) None new
  enter_advances st new k = record {
    room = k.room;
    checked = k.checked;
    service = k.service;
    awaits = tt;
    pace = let n = k.blocks in let m = k.steps in omega (arith, n, m);
    few = let m = k.steps in omega (arith, m);
    released = [];
    unlocks = ap (λ (us : ArrayVec ℕ). us.items) k.unlocks ∙ sym (append-nil h.unlocks.items);
    goes = k.goes;
  }

  -- one that is done at once
  pub step_advances : (st : Statement) (w : Option Pending) (new : Machine V D C) → Advances 1 (record h { steps = h.steps + 1 }) (λ c. effect c most_turns st) w new → Advances 2 h (λ c s. effect c most_turns st (stepped s)) w new
  step_advances st w new k = record {
    room = k.room;
    checked = k.checked;
    service = k.service;
    awaits = k.awaits;
    pace = let p = k.pace in omega arith;
    few = let p = k.few in omega (arith, p);
    released = k.released;
    unlocks = k.unlocks;
    goes = k.goes;
  }

  -- no more than one step is no more than two
  pub advances_soon : (go : Context → Action) (w : Option Pending) (new : Machine V D C) → Advances 1 h go w new → Advances 2 h go w new
  advances_soon go w new k = record {
    room = k.room;
    checked = k.checked;
    service = k.service;
    awaits = k.awaits;
    pace = k.pace;
    few = let p = k.few in omega (arith, p);
    released = k.released;
    unlocks = k.unlocks;
    goes = k.goes;
  }

-- what is fine stays so along equations
pub fine_along : {V D C : ℕ} (a b : Machine V D C) → a.checked ≡ b.checked → a.service ≡ b.service → (x y : Behaviour State) → x ≡ y → IsFineHere b y → IsFineHere a x
fine_along a b e1 e2 x y e f =
    subst (λ z. IsFineHere a z) (sym e)
    (subst (λ (k : Bor CheckedScript). IsFine k.now.plan (bounds_at k.now a.service) y) (sym e1)
    (subst (λ n. IsFine b.checked.now.plan (bounds_at b.checked.now n) y) (sym e2) f))

-- the measure falls where a frame is taken and its block goes on
pub smaller : {V D C : ℕ} (new h : Machine V D C) (fs : ArrayVec Frame) (f : Frame) → new.checked ≡ h.checked → new.service ≡ h.service → new.steps ≤ (bounds_of new).steps
    → length new.frames.items + 2 * h.steps ≤ 2 * new.steps + length fs.items → h.frames.items ≡ fs.items ++ f ∷ [] → 2 * ((bounds_of new).steps - new.steps) + length new.frames.items < 2 * ((bounds_of h).steps - h.steps) + length h.frames.items
smaller new h fs f e1 e2 within pace popped =
    let n : length h.frames.items ≡ length fs.items + 1 = ap length popped ∙ more fs.items f in
    let b : (bounds_of new).steps ≡ (bounds_of h).steps = ap (λ (k : Bor CheckedScript). (bounds_at k.now new.service).steps) e1 ∙ ap (λ i. (bounds_at h.checked.now i).steps) e2 in
    let m = measure_falls (bounds_of new).steps h.steps new.steps (length h.frames.items) (length new.frames.items) (length fs.items) within pace n in
    omega (arith, m, b)
  where
    more : (gs : List Frame) (g : Frame) → length (gs ++ g ∷ []) ≡ length gs + 1
    more gs g = omega (arith, length-append gs (g ∷ []))

-- what was left, after what the frame that was taken came to
pub goes_further : {V D C : ℕ} (h new : Machine V D C) (f : Frame) (fs : ArrayVec Frame) → h.frames.items ≡ fs.items ++ f ∷ [] → (released : List ℕ) → new.unlocks.items ≡ h.unlocks.items ++ released → (w : Option Pending) (answers : List Answer)
    → says released (stands w new answers) ≡ then_do (left_of (context_in h.checked.now) (open_in h f) (state_of h answers)) (left_in (record h { frames = fs }))
    → says new.unlocks.items (stands w new answers) ≡ says h.unlocks.items (stands None h answers)
goes_further h new f fs popped released e w answers goes =
    ap (λ us. says us (stands w new answers)) e
    ∙ says_more h.unlocks.items released (stands w new answers)
    ∙ ap (says h.unlocks.items) (goes ∙ sym (goes_popped h f fs popped (state_of h answers)))
