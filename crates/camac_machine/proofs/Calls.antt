-- Entering a procedure.
use Rattle.std.proofs.Common.{◌≡◌, ℕ, suc, ◌+◌, ◌-◌, ◌<◌, ◌≤◌, List, [], ◌∷◌, ◌++◌, length, length-append, take, replicate, Option, Some, None, refl, sym, ap, subst, ◌∙◌, arith}
use Rattle.std.proofs.lemmas.List.{map-append, length-map, take-take}
use Rattle.std.proofs.lemmas.Option.{same_Some}
use Rattle.std.proofs.Math.Path.{fun_ext}
use Rattle.std.specs.Borrow.{Bor}
use Rattle.std.specs.Prelude.{IsTrue, slice_get, slice_range}
use Rattle.arrayvec.specs.ArrayVec.{ArrayVec}
use Rattle.camac_branch.specs.Address.{Address}
use Rattle.camac_branch.specs.Branch.{Answer}
use Rattle.camac_branch.specs.Crates.{branch_of}
use Rattle.camac_lang.specs.declared.tree.Stmt.{Stmt}
use Rattle.camac_lang.specs.Depth.{inner_depth, callables_after}
use Rattle.camac_lang.specs.Expressions.{Callable}
use Rattle.camac_lang.specs.Laws.{inside, ProcedureStands}
use Rattle.camac_lang.specs.Scope.{is_well_formed}
use Rattle.camac_lang.specs.Tree.{Expression, call, Procedure, Script, on_line}
use Rattle.camac_lang.specs.View.{statements_of}
use Rattle.camac_lang.proofs.Standing.{procedures_stand}
use Rattle.camac_model.specs.State.{State, Variables, Registers}
use Rattle.camac_model.specs.Behaviour.{ends, Action, then_do, given}
use Rattle.camac_model.specs.Fine.{most_turns}
use Rattle.camac_model.specs.Meaning.{Context, context, entered, returned, enter, effect, block_meaning}
use Rattle.camac_model.specs.Value.{values}
use Rattle.camac_machine.specs.declared.machine.Frame.{Frame}
use Rattle.camac_machine.specs.declared.machine.Machine.{Machine}
use Rattle.camac_machine.specs.declared.machine.Owner.TheVariants.{Return}
use Rattle.camac_machine.specs.declared.scope.Scope.{Scope}
use Rattle.camac_machine.specs.MachineState.{context_in, open_of, opens_of, opens_in, AreHeld, variables_here, reach, state_of, left_in, free, HasRoom, Enters}
use Rattle.camac_machine.specs.Rest.{owed, Open, left_of, rest_in}
use Rattle.camac_machine.specs.Store.{size, held_at, variables_in, registers_in, seen_by_procedure}
use Rattle.camac_machine.specs.Within.{reach_of, ScopeFits, CallFits, Opens, OpenFit}
use Rattle.camac_machine.proofs.Blocks.{opens_push}
use Rattle.camac_machine.proofs.Frames.{left_pushed}
use Rattle.camac_machine.proofs.Locks.{held_push}
use Rattle.camac_machine.proofs.Passed.{arguments_are}
use Rattle.camac_machine.proofs.Fitted.{block_fits}
use Rattle.camac_machine.proofs.Procedures.{Callee, callee_of, total_taken, before, routine_of, body_same}
use Rattle.camac_machine.proofs.Rooms.{room_with}
use Rattle.camac_machine.proofs.Scopes.{held_before, opens_same}
use Rattle.camac_machine.proofs.Stores.{all_same}

module _ (v d w : ℕ) (s : Script) (c : Scope) (i : ℕ) (p : Procedure) (there : slice_get s.procedures i ≡ Some p) where
  -- the places of the procedure, and those of the procedures that it sees, have room
  pub callee_fits : ScopeFits v s c → i < c.procedures → ScopeFits v s (seen_by_procedure c i p)
  callee_fits f below =
      let a = f.more_variables in
      let b = f.more_registers in
      let m = total_taken (λ q. length q.parameters) s.procedures c.procedures i p there below in
      let n = total_taken (λ q. length q.registers) s.procedures c.procedures i p there below in
      record {
        variables = omega arith;
        registers = omega arith;
        more_variables = omega (arith, a, m);
        more_registers = omega (arith, b, n);
      }

  -- its body refers to what it may
  pub body_reaches : IsTrue (is_well_formed s) → (n : ℕ) → suc (inner_depth (callables_after [] (take i s.procedures)) p.body) ≤ n → Opens (reach_of s (seen_by_procedure c i p)) n p.body
  body_reaches formed n deep =
      let st : ProcedureStands s i p = procedures_stand s formed i p there in (
        omega (arith, deep),
        block_fits (inside s i p) (reach_of s (seen_by_procedure c i p)) (record { variables = omega arith; tables = omega arith; lams = omega arith; procedures = refl }) p.body 0 (length p.registers) (n - 1) st.body (omega arith) (omega (arith, deep)),
      )

-- the machine that enters a procedure
module _ {V D C : ℕ} (h : Machine V D C) (i : ℕ) (es : List Expression) (room : HasRoom h) (may : CallFits (reach h) (free h) i es) where
  abbrev script : Script
  script = h.checked.now.script

  pub callee : Callee script h.scope.procedures i may.callee
  callee = callee_of script h.scope.procedures i may.callee may.there

  -- it has a parameter for each argument
  pub parameters : length es ≡ length callee.procedure.parameters
  parameters = may.count ∙ ap (λ (q : Callable). q.parameters) callee.is

  module _ (p : Procedure) (own : callee.procedure ≡ p) where
    abbrev pub seen : Scope
    seen = seen_by_procedure h.scope i p

    there : slice_get script.procedures i ≡ Some p
    there = callee.there ∙ ap (λ q. Some q) own

    pub seen_fits : ScopeFits V script seen
    seen_fits = callee_fits V D C script h.scope i p there room.scope callee.below

    depth : suc (inner_depth (callables_after [] (take i script.procedures)) p.body) ≤ free h
    depth =
        let e : may.callee.depth ≡ suc (inner_depth (callables_after [] (take i script.procedures)) p.body) = ap (λ (q : Callable). q.depth) callee.is ∙ ap (λ (q : Procedure). suc (inner_depth (callables_after [] (take i script.procedures)) q.body)) own in
        let le = may.depth in omega (arith, e, le)

    pub opens_body : IsTrue (is_well_formed script) → Opens (reach_of script seen) (free h) p.body
    opens_body formed = body_reaches V D C script h.scope i p there formed (free h) depth

    module _ (formed : IsTrue (is_well_formed script)) (body : Bor (List Stmt)) (is_body : statements_of body.now ≡ p.body) (ws : List ℕ) (qs : List (Option Address)) (fs : ArrayVec Frame) (vs : List ℕ)
        (are : values es (variables_here h) ≡ Some vs) (passed : held_at seen.variables ws ≡ vs) (before' : take h.scope.variables.end ws ≡ take h.scope.variables.end h.variables) (long : length ws ≡ length h.variables)
        (unset : held_at seen.registers qs ≡ replicate (size seen.registers) None) (before_too : take h.scope.registers.end qs ≡ take h.scope.registers.end h.registers) (long_too : length qs ≡ length h.registers)
        (pushed : fs.items ≡ h.frames.items ++ record { rest = body; owner = Return h.scope } ∷ []) where
      abbrev f : Frame
      f = record { rest = body; owner = Return h.scope }

      abbrev new : Machine V D C
      new = record h { variables = ws; registers = qs; scope = seen; frames = fs }

      abbrev o : Open
      o = open_of ws qs f

      same_opens : opens_in h ≡ opens_of ws qs h.frames.items
      same_opens =
          let a = room.scope.variables in
          let b = room.scope.registers in
          opens_same V script h.scope h.variables ws h.registers qs
          (sym (sym (take-take h.scope.variables.start h.scope.variables.end ws a) ∙ ap (take h.scope.variables.start) before' ∙ take-take h.scope.variables.start h.scope.variables.end h.variables a))
          (sym (sym (take-take h.scope.registers.start h.scope.registers.end qs b) ∙ ap (take h.scope.registers.start) before_too ∙ take-take h.scope.registers.start h.scope.registers.end h.registers b))
          D h.frames.items room.blocks

      opens_pushed : opens_of ws qs fs.items ≡ opens_of ws qs h.frames.items ++ o ∷ []
      opens_pushed = ap (opens_of ws qs) pushed ∙ map-append (open_of ws qs) h.frames.items (f ∷ [])

      room_entered : HasRoom new
      room_entered =
          let n : D - length h.frames.items ≡ D - length (opens_of ws qs h.frames.items) = ap (λ k. D - k) (sym (length-map h.frames.items (open_of ws qs))) in
          let opens : Opens (reach_of script seen) (free h) (statements_of body.now) = subst (Opens (reach_of script seen) (free h)) (sym is_body) (opens_body formed) in
          let fit : OpenFit V script seen D (opens_of ws qs h.frames.items ++ o ∷ []) =
          opens_push V script seen D (opens_of ws qs h.frames.items) o (subst (OpenFit V script h.scope D) same_opens room.blocks)
          (subst (λ k. Opens (reach_of script seen) k (statements_of body.now)) n opens)
          ((omega arith, omega arith), room.scope) in
          let held : AreHeld (branch_of h.branch) (opens_of ws qs h.frames.items ++ o ∷ []) = held_push (branch_of h.branch) (opens_of ws qs h.frames.items) o (λ c. refl) (subst (AreHeld (branch_of h.branch)) same_opens room.locks) in
          room_with room (long ∙ room.variables) (long_too ∙ room.registers) seen_fits (subst (OpenFit V script seen D) (sym opens_pushed) fit) (subst (AreHeld (branch_of h.branch)) (sym opens_pushed) held) room.unlocks

      none_set : registers_in (held_at seen.registers qs) ≡ (λ _. None)
      none_set = ap registers_in unset ∙ fun_ext (λ r. all_same None (size seen.registers) r)

      state_entered : (answers : List Answer) → state_of new answers ≡ entered vs (state_of h answers)
      state_entered answers =
          let s : State = state_of h answers in
          let a : Variables → Registers → State = λ env regs. record s { variables = env; registers = regs } in
          ap (λ env. a env (registers_in (held_at seen.registers qs))) (ap variables_in passed ∙ arguments_are vs)
          ∙ ap (a (entered vs s).variables) none_set

      -- the caller sees what it saw
      caller_variables : held_at h.scope.variables ws ≡ held_at h.scope.variables h.variables
      caller_variables = held_before h.scope.variables h.scope.variables.end ws h.variables (omega arith) before'

      caller_registers : held_at h.scope.registers qs ≡ held_at h.scope.registers h.registers
      caller_registers = held_before h.scope.registers h.scope.registers.end qs h.registers (omega arith) before_too

      abbrev ctx : Context
      ctx = context_in h.checked.now

      abbrev inner : Action
      inner = block_meaning (context h.checked.now.plan (before script i)) most_turns p.body

      call_is : (answers : List Answer) → effect ctx most_turns (call (on_line 0) i es) (state_of h answers) ≡ enter inner vs (state_of h answers)
      call_is answers =
          let s : State = state_of h answers in
          ap (λ r. given r (λ routine. given (values es s.variables) (λ us. enter (routine most_turns) us)) s) (routine_of h.checked.now.plan script i p there)
          ∙ ap (λ us. given us (enter inner) s) are

      body_left : (answers : List Answer) → left_of ctx o (state_of new answers) ≡ enter inner vs (state_of h answers)
      unfolding owed
      body_left answers =
          let s : State = state_of h answers in
          let back : List ℕ → List (Option Address) → Action = λ l m t. ends (record t { variables = variables_in l; registers = registers_in m }) in
          let go : Action = block_meaning ctx most_turns p.body in
          ap (λ b. then_do (block_meaning ctx most_turns b (state_of new answers)) (back (held_at h.scope.variables ws) (held_at h.scope.registers qs))) is_body
          ∙ ap (λ t. then_do (go t) (back (held_at h.scope.variables ws) (held_at h.scope.registers qs))) (state_entered answers)
          ∙ ap (λ l. then_do (go (entered vs s)) (back l (held_at h.scope.registers qs))) caller_variables
          ∙ ap (λ m. then_do (go (entered vs s)) (back (held_at h.scope.variables h.variables) m)) caller_registers
          ∙ ap (λ (run : Action). then_do (run (entered vs s)) (λ t. ends (returned s t))) (sym (body_same h.checked.now.plan script i most_turns (reach_of script seen) (free h - 1) p.body refl (opens_body formed).1))

      pub enters : Enters h (λ c. effect c most_turns (call (on_line 0) i es)) new
      enters = record {
        room = room_entered;
        checked = refl;
        service = refl;
        steps = refl;
        blocks = ap length pushed ∙ length-append h.frames.items (f ∷ []);
        unlocks = refl;
        goes = λ answers.
            ap (λ (gs : List Frame). rest_in ctx (opens_of ws qs gs) (state_of new answers)) pushed
            ∙ left_pushed ctx (open_of ws qs) h.frames.items f (state_of new answers)
            ∙ ap (λ os. then_do (left_of ctx o (state_of new answers)) (rest_in ctx os)) (sym same_opens)
            ∙ ap (λ b. then_do b (left_in h)) (body_left answers ∙ sym (call_is answers));
      }

-- the places of a procedure are filled: its arguments are passed, and no register is set
pub record Filled {V D C : ℕ} (h : Machine V D C) (es : List Expression) (u : Scope) (ws : List ℕ) (qs : List (Option Address)) : Type 0 where
  pub values : values es (variables_here h) ≡ Some (slice_range ws u.variables.start (u.variables.start + length es))
  pub variables_before : take u.variables.start ws ≡ take u.variables.start h.variables
  pub variables : length ws ≡ length h.variables
  pub unset : held_at u.registers qs ≡ replicate (size u.registers) None
  pub registers_before : take u.registers.start qs ≡ take u.registers.start h.registers
  pub registers : length qs ≡ length h.registers

module _ {V D C : ℕ} (h : Machine V D C) (i : ℕ) (es : List Expression) (room : HasRoom h) (may : CallFits (reach h) (free h) i es) (p : Procedure) (there : slice_get h.checked.now.script.procedures i ≡ Some p) (sc : Scope) (is : sc ≡ seen_by_procedure h.scope i p) where
  own : (callee h i es room may).procedure ≡ p
  own = same_Some (callee h i es room may).procedure p (sym (callee h i es room may).there ∙ there)

  as_many : length es ≡ length p.parameters
  as_many = parameters h i es room may ∙ ap (λ (q : Procedure). length q.parameters) own

  -- there is room for them after the caller's places
  pub variables_room : (h.scope.variables.end ≤ sc.variables.start) × (sc.variables.start + length es ≤ V)
  variables_room =
      let f = (seen_fits h i es room may p own).more_variables in
      let n = as_many in
      subst (λ (u : Scope). (h.scope.variables.end ≤ u.variables.start) × (u.variables.start + length es ≤ V)) (sym is) (omega arith, omega (arith, f, n))

  pub registers_room : (sc.registers.start ≤ sc.registers.end) × (sc.registers.end ≤ V)
  registers_room =
      let f = seen_fits h i es room may p own in
      let a = f.registers in
      let b = f.more_registers in
      subst (λ (u : Scope). (u.registers.start ≤ u.registers.end) × (u.registers.end ≤ V)) (sym is) (a, omega (arith, b))

  pub callee_free : IsTrue (is_well_formed h.checked.now.script) → length h.frames.items < D
  callee_free formed = let some = (opens_body h i es room may p own formed).0 in omega (arith, some)

  pub enters_filled : IsTrue (is_well_formed h.checked.now.script) → (body : Bor (List Stmt)) → statements_of body.now ≡ p.body → (ws : List ℕ) (qs : List (Option Address)) (fs : ArrayVec Frame) → Filled h es sc ws qs → fs.items ≡ h.frames.items ++ record { rest = body; owner = Return h.scope } ∷ [] → Enters h (λ c. effect c most_turns (call (on_line 0) i es)) (record h { variables = ws; registers = qs; scope = sc; frames = fs })
  enters_filled formed body is_body ws qs fs filled pushed =
      let own' : Scope = seen_by_procedure h.scope i p in
      let go : Filled h es own' ws qs → Enters h (λ c. effect c most_turns (call (on_line 0) i es)) (record h { variables = ws; registers = qs; scope = own'; frames = fs }) =
      λ f. enters h i es room may p own formed body is_body ws qs fs (held_at own'.variables ws)
      (f.values ∙ ap (λ n. Some (slice_range ws h.scope.variables.end (h.scope.variables.end + n))) as_many) refl f.variables_before f.variables f.unset f.registers_before f.registers pushed in
      subst (λ (u : Scope). Filled h es u ws qs → Enters h (λ c. effect c most_turns (call (on_line 0) i es)) (record h { variables = ws; registers = qs; scope = u; frames = fs })) (sym is) go filled
