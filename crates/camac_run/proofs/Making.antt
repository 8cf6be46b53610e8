-- What an action makes, and what actions one after the other make.
use Rattle.std.proofs.Common.{append-nil, append_assoc, add-one, ◌-◌, ◌≡◌, ◌∙◌, ℕ, suc, zero, ◌+◌, ◌<◌, ◌≤◌, List, [], ◌∷◌, ◌++◌, length, drop, replicate, set, get_or, Bool, true, false, Option, Some, None, inl, inr, refl, sym, ap, subst, arith}
use Rattle.std.proofs.Math.Path.{fun_ext}
use Rattle.std.specs.Prelude.{IsSomeAnd, slice_get, slice_index_or, unwrap_or, if◌then◌else◌}
use Rattle.std.proofs.lemmas.List.{drop_all, take-take}
use Rattle.camac_branch.specs.Address.{Address}
use Rattle.camac_branch.specs.Branch.{Answer}
use Rattle.camac_branch.specs.Plan.{Layout, crate_waits}
use Rattle.camac_branch.specs.declared.answer.Command.{Command}
use Rattle.camac_rules.specs.Checked.{CheckedScript}
use Rattle.camac_lang.specs.Tree.{Block, next, call, for_, locked, Expression, Keep, Procedure, Statement}
use Rattle.camac_lang.specs.View.{statement_of, statements_of}
use Rattle.camac_lang.specs.declared.spot.Spot.{Spot}
use Rattle.camac_lang.specs.declared.tree.Stmt.{Stmt}
use Rattle.camac_lang.specs.declared.word.WordSize.{WordSize}
use Rattle.camac_lang.specs.declared.word.WordSize.TheVariants.{Full}
use Rattle.camac_model.specs.Behaviour.{Behaviour, ends, stops, more, wrong, Action, then_do, given}
use Rattle.camac_model.specs.Cycle.{after_release, release, take_lock}
use Rattle.camac_model.specs.Fine.{Bounds, IsFine, most_turns}
use Rattle.camac_model.specs.Meaning.{Context, context, arguments, block_meaning, effect, enter, entered, returned, for_from, for_state, for_turns, transfer_to}
use Rattle.camac_model.specs.State.{State, Registers, Variables, stepped, with_variable}
use Rattle.camac_model.specs.Value.{value, values, value_and}
use Rattle.camac_model.proofs.Runs.{then_assoc}
use Rattle.camac_esone.specs.Transfers.{tally}
use Rattle.camac_machine.specs.Course.{words_sent}
use Rattle.camac_machine.specs.Rest.{awaited, locks}
use Rattle.camac_machine.proofs.Procedures.{before, routine_of, taken_at}
use Rattle.camac_run.specs.Ahead.{AreAhead}
use Rattle.camac_run.specs.Sure.{KnowsVariables, KnowsRegisters, HasValue, IsKnown, goes_on_with, on, MakesCycle, PassesFrom, IsSure, context_before, LeadsTo, Leads, Goes, Adds}
use Rattle.camac_run.specs.declared.ahead.Known.{Known}
use Rattle.camac_run.specs.declared.sure.Sure.{Sure}
use Rattle.camac_run.specs.declared.sure.Sure.TheVariants as sure
use Rattle.camac_run.specs.declared.member.Member.{Member}
use Rattle.camac_run.specs.declared.member.Member.TheVariants as member
use Rattle.camac_run.specs.declared.progress.Wanted.TheVariants as wanted
use Rattle.camac_run.specs.Transfer.{left_by, next_in}
use Rattle.camac_run.specs.declared.transfer.ReadBlock.{ReadBlock}
use Rattle.camac_run.specs.declared.transfer.TransferLeft.{TransferLeft}
use Rattle.camac_run.proofs.Following.{cycle_alone, knows_set, operation_leads}
use Rattle.camac_run.proofs.Transfers.{transfer_leads}

-- all that it makes, and what it makes first
abbrev pub Makes : Layout → Action → Known → List Member → Known → Type 0
Makes plan go before made after = Goes plan go before made true after

abbrev pub MakesFirst : Layout → Action → Known → List Member → Type 0
MakesFirst plan go before made = Goes plan go before made false before

-- where both do the same on all answers
pub leads_along : (plan : Layout) (bounds : Bounds) (go to : Action) (s t : State) (os : List Member) → ((answers : List Answer) → go (on answers s) ≡ to (on answers t)) → LeadsTo plan bounds to t os → LeadsTo plan bounds go s os
leads_along plan bounds go to s t os e h fine leave =
    subst (λ (r : List Answer → Behaviour (Unit {0})). AreAhead os r) (sym (fun_ext (λ answers. ap (λ (b : Behaviour State). then_do b leave) (e answers))))
    (h (λ answers. subst (λ (b : Behaviour State). IsFine plan bounds b) (e answers) (fine answers)) leave)

module _ (plan : Layout) (k k' : Known) where
  -- wherever so much is known
  module _ (go to : Action) (e : (s : State) → IsKnown k.variables k.registers s → go s ≡ to s) where
    leads_where : (bounds : Bounds) (around : Action) (os : List Member) → Leads plan bounds k (λ s. then_do (to s) around) os → Leads plan bounds k (λ s. then_do (go s) around) os
    leads_where bounds around os h s known =
        leads_along plan bounds (λ u. then_do (go u) around) (λ u. then_do (to u) around) s s os
        (λ answers. ap (λ (b : Behaviour State). then_do b around) (e (on answers s) (record { variables_are = known.variables_are; registers_are = known.registers_are })))
        (h s known)

    goes_where : (made : List Member) (all : Bool) → Goes plan to k made all k' → Goes plan go k made all k'
    goes_where made true h = λ bounds around os leads. leads_where bounds around (made ++ os) (h bounds around os leads)
    goes_where made false h = λ bounds around. leads_where bounds around made (h bounds around)

    pub adds_where : (old new : List Member) (all : Bool) → Adds plan to k old all k' new → Adds plan go k old all k' new
    adds_where old new all a = (a.0, a.1, goes_where a.0 all a.2)

  -- it is not known what comes
  pub adds_unknown : (go : Action) (old new : List Member) → new ≡ old → Adds plan go k old false k' new
  adds_unknown go old new e = ([], e ∙ sym (append-nil old), λ bounds around s known fine leave. tt)

  -- a loop that makes no more turns than it may never comes to this
  goes_never : (made : List Member) (all : Bool) → Goes plan (stops more) k made all k'
  goes_never made true = λ bounds around os leads s known fine leave. absurd ((fine []).0)
  goes_never made false = λ bounds around s known fine leave. absurd ((fine []).0)

  pub adds_never : (old new made : List Member) (all : Bool) → new ≡ old ++ made → Adds plan (stops more) k old all k' new
  adds_never old new made all e = (made, e, goes_never made all)

  -- what needs no answer
  pub adds_passing : (go : Action) (old new : List Member) → new ≡ old → ((s : State) → IsKnown k.variables k.registers s → PassesFrom s go k'.variables k'.registers) → Adds plan go k old true k' new
  adds_passing go old new e passes = ([], e ∙ sym (append-nil old), leads)
    where
      leads : Makes plan go k [] k'
      leads bounds around os h s known fine leave =
          elim (passes s known) [
            | inl is_wrong ↦
                let no : IsFine plan bounds (stops wrong (on [] is_wrong.0)) = subst (λ (b : Behaviour State). IsFine plan bounds (then_do b around)) (is_wrong.1 []) (fine []) in
                absurd no.0
            | inr p ↦
                leads_along plan bounds (λ u. then_do (go u) around) around s p.0 os (λ answers. ap (λ (b : Behaviour State). then_do b around) (p.2 answers)) (h p.0 p.1) fine leave
          ]

  -- after a change of the state that needs no answer
  module _ (k0 : Known) (go : Action) (change : State → State) (apart : (answers : List Answer) (s : State) → change (on answers s) ≡ on answers (change s)) (knows : (s : State) → IsKnown k0.variables k0.registers s → IsKnown k.variables k.registers (change s)) where
    changed : (bounds : Bounds) (around : Action) (os : List Member) → Leads plan bounds k (λ s. then_do (go s) around) os → Leads plan bounds k0 (λ s. then_do (go (change s)) around) os
    changed bounds around os h s known =
        leads_along plan bounds (λ u. then_do (go (change u)) around) (λ u. then_do (go u) around) s (change s) os (λ answers. ap (λ (t : State). then_do (go t) around) (apart answers s)) (h (change s) (knows s known))

    goes_changed : (made : List Member) (all : Bool) → Goes plan go k made all k' → Goes plan (λ s. go (change s)) k0 made all k'
    goes_changed made true h = λ bounds around os leads. changed bounds around (made ++ os) (h bounds around os leads)
    goes_changed made false h = λ bounds around. changed bounds around made (h bounds around)

    pub adds_changed : (old new : List Member) (all : Bool) → Adds plan go k old all k' new → Adds plan (λ s. go (change s)) k0 old all k' new
    adds_changed old new all a = (a.0, a.1, goes_changed a.0 all a.2)

-- nothing is done
pub adds_none : (plan : Layout) (k : Known) (go : Action) (old new : List Member) → new ≡ old → ((s : State) → go s ≡ ends s) → Adds plan go k old true k new
adds_none plan k go old new e is = adds_where plan k k go (λ s. ends s) (λ s known. is s) old new true ([], e ∙ sym (append-nil old), λ bounds around os h. h)

-- one after the other
module _ (plan : Layout) (f g go : Action) (is : (s : State) → go s ≡ then_do (f s) g) (k k1 k2 : Known) where
  abbrev both : Action
  both s = then_do (f s) g

  leads_both : (bounds : Bounds) (around : Action) (os : List Member) → Leads plan bounds k (λ s. then_do (f s) (λ t. then_do (g t) around)) os → Leads plan bounds k (λ s. then_do (both s) around) os
  leads_both bounds around os h s known =
      leads_along plan bounds (λ u. then_do (both u) around) (λ u. then_do (f u) (λ t. then_do (g t) around)) s s os (λ answers. then_assoc (f (on answers s)) g around) (h s known)

  goes_both : (m os : List Member) (all : Bool) → Makes plan f k m k1 → Goes plan g k1 os all k2 → Goes plan both k (m ++ os) all k2
  goes_both m os true h next' =
      λ bounds around others leads.
      subst (λ l. Leads plan bounds k (λ s. then_do (both s) around) l) (sym (append_assoc m os others))
      (leads_both bounds around (m ++ (os ++ others)) (h bounds (λ t. then_do (g t) around) (os ++ others) (next' bounds around others leads)))
  goes_both m os false h next' =
      λ bounds around. leads_both bounds around (m ++ os) (h bounds (λ t. then_do (g t) around) os (next' bounds around))

  pub adds_both : (old mid new : List Member) (all : Bool) → Adds plan f k old true k1 mid → Adds plan g k1 mid all k2 new → Adds plan go k old all k2 new
  adds_both old mid new all a b =
      adds_where plan k k2 go both (λ s known. is s) old new all
      (a.0 ++ b.0, b.1 ∙ ap (λ l. l ++ b.0) a.1 ∙ append_assoc old a.0 b.0, goes_both a.0 b.0 all a.2 b.2)

  pub adds_first : (old new : List Member) → Adds plan f k old false k1 new → Adds plan go k old false k2 new
  adds_first old new a =
      adds_where plan k k2 go both (λ s known. is s) old new false
      (a.0, a.1, λ bounds around. leads_both bounds around a.0 (a.2 bounds (λ t. then_do (g t) around)))

-- ---- statements

module _ (c : Context) (st : Statement) (k k' : Known) (old new : List Member) where
  cycle_adds : (command : Command) (size : WordSize) → k'.registers ≡ k.registers → MakesCycle c k.variables k.registers st command k'.variables → new ≡ old ++ member.Makes (wanted.Cycle command) size ∷ [] → Adds c.plan (effect c most_turns st) k old true k' new
  cycle_adds command size same m e = (member.Makes (wanted.Cycle command) size ∷ [], e, leads)
    where
      leads : Makes c.plan (effect c most_turns st) k (member.Makes (wanted.Cycle command) size ∷ []) k'
      leads bounds around os h s known =
          leads_along c.plan bounds (λ u. then_do (effect c most_turns st u) around) (λ u. then_do (awaited c m.operation u) around) s s (member.Makes (wanted.Cycle command) size ∷ os)
          (λ answers. ap (λ (b : Behaviour State). then_do b around) (m.begins (on answers s) (record { variables_are = known.variables_are; registers_are = known.registers_are })))
          (operation_leads c bounds m.operation (wanted.Cycle command) size s around os m.is_cycle
          (λ t e v.
          leads_along c.plan bounds (λ u. then_do (goes_on_with c m.operation u) around) around t t os
          (λ answers. ap (λ (b : Behaviour State). then_do b around) (cycle_alone c m.operation command m.is_cycle (on answers t)))
          (h t
          (record {
            variables_are = m.known s.variables t.variables known.variables_are v;
            registers_are = subst (λ (rs : List (Option Address)). KnowsRegisters rs t.registers) (sym same) (subst (λ (g : Registers). KnowsRegisters k.registers g) (sym e) known.registers_are);
          }))))

  pub sure_adds : (its : Sure) (command : Command) (size : WordSize) → IsSure c k.variables k.registers st its k'.variables k'.registers → its ≡ sure.Makes command → new ≡ old ++ member.Makes (wanted.Cycle command) size ∷ [] → Adds c.plan (effect c most_turns st) k old true k' new
  sure_adds its command size i is e =
      let m : IsSure c k.variables k.registers st (sure.Makes command) k'.variables k'.registers = subst (λ (x : Sure). IsSure c k.variables k.registers st x k'.variables k'.registers) is i in
      cycle_adds command size m.0 m.1 e

  pub none_adds : (its : Sure) → IsSure c k.variables k.registers st its k'.variables k'.registers → its ≡ sure.NeedsNone → new ≡ old → Adds c.plan (effect c most_turns st) k old true k' new
  none_adds its i is e =
      let n : IsSure c k.variables k.registers st sure.NeedsNone k'.variables k'.registers = subst (λ (x : Sure). IsSure c k.variables k.registers st x k'.variables k'.registers) is i in
      adds_passing c.plan k k' (effect c most_turns st) old new e n

  -- a block, where the list goes so far
  pub blocks_add : (its : Sure) (b : ReadBlock) (r : Bool) → IsSure c k.variables k.registers st its k'.variables k'.registers → its ≡ sure.Transfers b → new ≡ old ++ (if r then member.Block b ∷ [] else []) → Adds c.plan (effect c most_turns st) k old r k' new
  blocks_add its b r i is e = by r e
    where
      t : TransferLeft
      t = left_by b

      m : IsSure c k.variables k.registers st (sure.Transfers b) k'.variables k'.registers
      m = subst (λ (x : Sure). IsSure c k.variables k.registers st x k'.variables k'.registers) is i

      leads : Makes c.plan (effect c most_turns st) k (member.Block b ∷ []) k'
      leads bounds around os h s known =
          leads_along c.plan bounds (λ u. then_do (effect c most_turns st u) around) (λ u. then_do (transfer_to c.plan t.first.f (words_sent t.table) (next_in t) m.1.number u) around) s s (member.Block b ∷ os)
          (λ answers. ap (λ (b : Behaviour State). then_do b around) (m.1.begins (on answers s) (record { variables_are = known.variables_are; registers_are = known.registers_are })))
          (transfer_leads c.plan bounds t.first.f (words_sent t.table) (next_in t) m.1.number tally around s t os m.1.block (λ qs. refl)
          (λ u v same is'. h u (record {
            variables_are = subst (λ (g : Variables). KnowsVariables k'.variables g) (sym is') (m.1.known s.variables v known.variables_are);
            registers_are = subst (λ (rs : List (Option Address)). KnowsRegisters rs u.registers) (sym m.0) (subst (λ (g : Registers). KnowsRegisters k.registers g) (sym same) known.registers_are);
          })))

      by : (far : Bool) → new ≡ old ++ (if far then member.Block b ∷ [] else []) → Adds c.plan (effect c most_turns st) k old far k' new
      by true e' = (member.Block b ∷ [], e', leads)
      by false e' = adds_unknown c.plan k k' (effect c most_turns st) old new (e' ∙ append-nil old)

-- ---- a lock

-- what it makes first
pub goes_first : (plan : Layout) (go : Action) (k k' k2 : Known) (made : List Member) (all : Bool) → Goes plan go k made all k' → Goes plan go k made false k2
goes_first plan go k k' k2 made false h = h
goes_first plan go k k' k2 made true h = λ bounds around. subst (λ os. Leads plan bounds k (λ s. then_do (go s) around) os) (append-nil made) (h bounds around [] (λ s known fine leave. tt))

-- a release, where the list goes so far
pub adds_release : (plan : Layout) (n : ℕ) (k : Known) (old new : List Member) (r : Bool) → new ≡ old ++ (if r then member.Release n ∷ [] else []) → Adds plan (release n) k old r k new
adds_release plan n k old new false e = adds_unknown plan k k (release n) old new (e ∙ append-nil old)
adds_release plan n k old new true e = (member.Release n ∷ [], e, leads)
  where
    leads : Makes plan (release n) k (member.Release n ∷ []) k
    leads bounds around os h s known fine leave =
        (λ answers. refl, h (after_release n s) (record { variables_are = known.variables_are; registers_are = known.registers_are }) (λ answers. (fine answers).1) leave)

module _ (c : Context) (n : ℕ) (body : Block) (k k1 k2 : Known) where
  -- its block, and the release
  abbrev inside : Action
  inside u = then_do (block_meaning c most_turns body u) (release n)

  pub adds_inside : (old mid new : List Member) (r all : Bool) → r ≡ true → Adds c.plan (block_meaning c most_turns body) k old r k1 mid → new ≡ mid ++ (if all then member.Release n ∷ [] else []) → Adds c.plan (goes_on_with c (locks n body)) k old all k1 new
  adds_inside old mid new r all it a e =
      adds_both c.plan (block_meaning c most_turns body) (release n) (goes_on_with c (locks n body)) (λ s. refl) k k1 k1 old mid new all
      (subst (λ t. Adds c.plan (block_meaning c most_turns body) k old t k1 mid) it a) (adds_release c.plan n k1 mid new all e)

  pub adds_no_release : (old new : List Member) (r : Bool) → r ≡ false → Adds c.plan (block_meaning c most_turns body) k old r k1 new → Adds c.plan (goes_on_with c (locks n body)) k old false k2 new
  adds_no_release old new r it a =
      adds_first c.plan (block_meaning c most_turns body) (release n) (goes_on_with c (locks n body)) (λ s. refl) k k1 k2 old new
      (subst (λ t. Adds c.plan (block_meaning c most_turns body) k old t k1 new) it a)

  -- behind its taking
  pub adds_lock : (spot : Spot) (e : Expression) (old mid new : List Member) (all : Bool) → HasValue k.variables e n → mid ≡ old ++ member.Makes (wanted.Lock n) Full ∷ [] → Adds c.plan (goes_on_with c (locks n body)) k mid all k2 new → Adds c.plan (effect c most_turns (locked spot e body)) k old all k2 new
  unfolding awaited
  adds_lock spot e old mid new all has is a = (member.Makes (wanted.Lock n) Full ∷ a.0, a.1 ∙ ap (λ l. l ++ a.0) is ∙ append_assoc old (member.Makes (wanted.Lock n) Full ∷ []) a.0, by all a.2)
    where
      begins : (s : State) → IsKnown k.variables k.registers s → effect c most_turns (locked spot e body) s ≡ awaited c (locks n body) s
      begins s known =
          ap (λ o. given o (λ j. given (crate_waits c.plan j) (λ waits t. take_lock j waits (t.branch j).locked (λ u. then_do (block_meaning c most_turns body u) (release j)) t)) s) (has s.variables known.variables_are)

      leads : (bounds : Bounds) (around : Action) (os : List Member) → Leads c.plan bounds k (λ u. then_do (goes_on_with c (locks n body) u) around) os → Leads c.plan bounds k (λ u. then_do (effect c most_turns (locked spot e body) u) around) (member.Makes (wanted.Lock n) Full ∷ os)
      leads bounds around os h s known =
          leads_along c.plan bounds (λ u. then_do (effect c most_turns (locked spot e body) u) around) (λ u. then_do (awaited c (locks n body) u) around) s s (member.Makes (wanted.Lock n) Full ∷ os)
          (λ answers. ap (λ (b : Behaviour State). then_do b around) (begins (on answers s) (record { variables_are = known.variables_are; registers_are = known.registers_are })))
          (operation_leads c bounds (locks n body) (wanted.Lock n) Full s around os refl
          (λ t e v.
          h t
          (record {
            variables_are = subst (λ (g : Variables). KnowsVariables k.variables g) (sym v) known.variables_are;
            registers_are = subst (λ (g : Registers). KnowsRegisters k.registers g) (sym e) known.registers_are;
          })))

      by : (r : Bool) → Goes c.plan (goes_on_with c (locks n body)) k a.0 r k2 → Goes c.plan (effect c most_turns (locked spot e body)) k (member.Makes (wanted.Lock n) Full ∷ a.0) r k2
      by true h = λ bounds around os after. leads bounds around (a.0 ++ os) (h bounds around os after)
      by false h = λ bounds around. leads bounds around a.0 (h bounds around)

-- a statement is a step
pub adds_stepped : (plan : Layout) (k k' : Known) (go : Action) (old new : List Member) (all : Bool) → Adds plan go k old all k' new → Adds plan (λ s. go (stepped s)) k old all k' new
adds_stepped plan k k' go old new all a =
    adds_changed plan k k' k go stepped (λ answers s. refl) (λ s known. record { variables_are = known.variables_are; registers_are = known.registers_are }) old new all a

pub its_step : (c : Context) (st : Statement) (k k' : Known) (old mid new : List Member) (all : Bool) → mid ≡ old → Adds c.plan (effect c most_turns st) k mid all k' new → Adds c.plan (λ s. effect c most_turns st (stepped s)) k old all k' new
its_step c st k k' old mid new all same a = adds_stepped c.plan k k' (effect c most_turns st) old new all (subst (λ (os : List Member). Adds c.plan (effect c most_turns st) k os all k' new) same a)

-- the statements of a block, from one on
rest_after : (xs : List Stmt) (i : ℕ) (x : Stmt) → i < length xs → x ≡ get_or xs i x → statements_of (drop i xs) ≡ next (statement_of x) (statements_of (drop (suc i) xs))
rest_after [] i x less is = absurd (omega (arith, less))
rest_after (y ∷ ys) zero x less is = ap (λ z. next (statement_of z) (statements_of ys)) (sym is)
rest_after (y ∷ ys) (suc i) x less is = rest_after ys i x (omega (arith, less)) is

rest_of_block : (xs : List Stmt) (i : ℕ) (x : Stmt) → i < length xs → x ≡ get_or xs i x → statements_of (drop i xs) ≡ next (statement_of x) (statements_of (drop (i + 1) xs))
rest_of_block xs i x less is = rest_after xs i x less is ∙ ap (λ j. next (statement_of x) (statements_of (drop j xs))) (sym (add-one i))

-- Whatever the rest makes, the whole makes behind what it has made so far.
abbrev pub Extends : Layout → (whole : Action) → Known → List Member → (rest : Action) → Known → List Member → Type 0
Extends plan whole before old rest here mid = (all : Bool) (after : Known) (new : List Member) → Adds plan rest here mid all after new → Adds plan whole before old all after new

module _ (c : Context) (xs : List Stmt) (i : ℕ) (k0 here : Known) (old mid : List Member) (far : Extends c.plan (block_meaning c most_turns (statements_of xs)) k0 old (block_meaning c most_turns (statements_of (drop i xs))) here mid) where
  abbrev does_rest : ℕ → Action
  does_rest j = block_meaning c most_turns (statements_of (drop j xs))

  module _ (x : Stmt) (less : i < length xs) (is : x ≡ get_or xs i x) where
    abbrev does_it : Action
    does_it s = effect c most_turns (statement_of x) (stepped s)

    next_is : (s : State) → does_rest i s ≡ then_do (does_it s) (does_rest (i + 1))
    next_is s = ap (λ (b : Block). block_meaning c most_turns b s) (rest_of_block xs i x less is)

    pub block_goes_on : (r : Bool) (here' : Known) (mid' : List Member) → r ≡ true → Adds c.plan does_it here mid r here' mid' → Extends c.plan (block_meaning c most_turns (statements_of xs)) k0 old (does_rest (i + 1)) here' mid'
    block_goes_on r here' mid' it a all after new b =
        far all after new (adds_both c.plan does_it (does_rest (i + 1)) (does_rest i) next_is here here' after mid mid' new all (subst (λ t. Adds c.plan does_it here mid t here' mid') it a) b)

    pub block_stops : (r : Bool) (here' after : Known) (new : List Member) → r ≡ false → Adds c.plan does_it here mid r here' new → Adds c.plan (block_meaning c most_turns (statements_of xs)) k0 old false after new
    block_stops r here' after new it a =
        far false after new (adds_first c.plan does_it (does_rest (i + 1)) (does_rest i) next_is here here' after mid new (subst (λ t. Adds c.plan does_it here mid t here' new) it a))

  pub block_ends : length xs ≤ i → Adds c.plan (block_meaning c most_turns (statements_of xs)) k0 old true here mid
  block_ends over =
      far true here mid (adds_none c.plan here (does_rest i) mid mid refl (λ s. ap (λ (l : List Stmt). block_meaning c most_turns (statements_of l) s) (drop_all i xs over)))

-- ---- turns

module _ (plan : Layout) (n j x v w : ℕ) (body : Action) (k0 k1 k2 : Known) where
  abbrev turn : Action
  turn s = body (for_state x v s)

  pub adds_turn : (old mid new : List Member) (all : Bool) → Adds plan turn k0 old true k1 mid → Adds plan (for_turns j (n - 1) x (v + 1) w body) k1 mid all k2 new → Adds plan (for_turns (suc j) n x v w body) k0 old all k2 new
  adds_turn old mid new all a b = by n a b
    where
      by : (m : ℕ) → Adds plan turn k0 old true k1 mid → Adds plan (for_turns j (m - 1) x (v + 1) w body) k1 mid all k2 new → Adds plan (for_turns (suc j) m x v w body) k0 old all k2 new
      by zero a b =
          adds_where plan k0 k2 (for_turns (suc j) zero x v w body) (stops more) (λ s known. refl) old new all
          (adds_never plan k0 k2 old new (a.0 ++ b.0) all (b.1 ∙ ap (λ l. l ++ b.0) a.1 ∙ append_assoc old a.0 b.0))
      by (suc m) a b =
          adds_both plan turn (for_turns j (suc m - 1) x (v + 1) w body) (for_turns (suc j) (suc m) x v w body)
          (λ s. ap (λ i. then_do (turn s) (for_turns j i x (v + 1) w body)) (omega arith)) k0 k1 k2 old mid new all a b

  pub adds_first_turn : (old new : List Member) → Adds plan turn k0 old false k1 new → Adds plan (for_turns (suc j) n x v w body) k0 old false k2 new
  adds_first_turn old new a = by n
    where
      by : (m : ℕ) → Adds plan (for_turns (suc j) m x v w body) k0 old false k2 new
      by zero =
          adds_where plan k0 k2 (for_turns (suc j) zero x v w body) (stops more) (λ s known. refl) old new false
          (adds_never plan k0 k2 old new a.0 false a.1)
      by (suc m) = adds_first plan turn (for_turns j m x (v + 1) w body) (for_turns (suc j) (suc m) x v w body) (λ s. refl) k0 k1 k2 old new a

-- with the variable of the loop set
pub variable_known : (k : Known) (x v : ℕ) (s : State) → IsKnown k.variables k.registers s → IsKnown (set k.variables x (Some v)) k.registers (with_variable x v s)
variable_known k x v s known = record {
  variables_are = knows_set (λ i. i) k.variables s.variables x (Some v) v known.variables_are (λ i e. cc);
  registers_are = known.registers_are;
}

pub adds_in_turn : (plan : Layout) (k k' : Known) (x v : ℕ) (go : Action) (old new : List Member) (all : Bool) → Adds plan go (record k { variables = set k.variables x (Some v) }) old all k' new → Adds plan (λ s. go (for_state x v s)) k old all k' new
adds_in_turn plan k k' x v go old new all a =
    adds_changed plan (record k { variables = set k.variables x (Some v) }) k' k go (for_state x v) (λ answers s. refl)
    (λ s known. let it = variable_known k x v s known in record { variables_are = it.variables_are; registers_are = it.registers_are }) old new all a

-- after the last turn
pub adds_last : (plan : Layout) (n x v w : ℕ) (body : Action) (k : Known) (old new : List Member) → new ≡ old → Adds plan (for_turns zero n x v w body) k old true (record k { variables = set k.variables x (Some w) }) new
adds_last plan n x v w body k old new e =
    adds_passing plan k (record k { variables = set k.variables x (Some w) }) (for_turns zero n x v w body) old new e
    (λ s known. inr (with_variable x w s, variable_known k x w s known, λ answers. refl))

module _ (plan : Layout) (x first last value : ℕ) (body : Action) (k0 here : Known) (old mid : List Member) where
  -- the turns from this one on are left
  abbrev pub TurnsLeft : Type 0
  TurnsLeft =
      (n : ℕ) → Extends plan (for_turns (last + 1 - first) n x first last body) k0 old (for_turns (last + 1 - value) (n - (value - first)) x value last body) here mid

  module _ (far : TurnsLeft) (r : Bool) (here' : Known) (mid' : List Member) (a : Adds plan (λ s. body (for_state x value s)) here mid r here' mid') where
    pub turns_go_on : first ≤ value → value < last → r ≡ true → (n : ℕ) → Extends plan (for_turns (last + 1 - first) n x first last body) k0 old (for_turns (last + 1 - (value + 1)) (n - (value + 1 - first)) x (value + 1) last body) here' mid'
    turns_go_on begun less it n all after new b =
        let e1 : suc (last + 1 - (value + 1)) ≡ last + 1 - value = omega (arith, less) in
        let e2 : n - (value + 1 - first) ≡ n - (value - first) - 1 = omega (arith, begun) in
        far n all after new
        (subst (λ j. Adds plan (for_turns j (n - (value - first)) x value last body) here mid all after new) e1
        (adds_turn plan (n - (value - first)) (last + 1 - (value + 1)) x value last body here here' after mid mid' new all (subst (λ t. Adds plan (λ s. body (for_state x value s)) here mid t here' mid') it a)
        (subst (λ j. Adds plan (for_turns (last + 1 - (value + 1)) j x (value + 1) last body) here' mid' all after new) e2 b)))

    pub turns_stop : value ≤ last → r ≡ false → (after : Known) (n : ℕ) → Adds plan (for_turns (last + 1 - first) n x first last body) k0 old false after mid'
    turns_stop within it after n =
        let e1 : suc (last - value) ≡ last + 1 - value = omega (arith, within) in
        far n false after mid'
        (subst (λ j. Adds plan (for_turns j (n - (value - first)) x value last body) here mid false after mid') e1
        (adds_first_turn plan (n - (value - first)) (last - value) x value last body here here' after mid mid' (subst (λ t. Adds plan (λ s. body (for_state x value s)) here mid t here' mid') it a)))

    pub turns_end : value ≡ last → r ≡ true → (n : ℕ) → Adds plan (for_turns (last + 1 - first) n x first last body) k0 old true (record here' { variables = set here'.variables x (Some last) }) mid'
    turns_end there it n =
        let e1 : 1 ≡ last + 1 - value = omega (arith, there) in
        let after : Known = record here' { variables = set here'.variables x (Some last) } in
        far n true after mid'
        (subst (λ j. Adds plan (for_turns j (n - (value - first)) x value last body) here mid true after mid') e1
        (adds_turn plan (n - (value - first)) 0 x value last body here here' after mid mid' mid' true (subst (λ t. Adds plan (λ s. body (for_state x value s)) here mid t here' mid') it a)
        (adds_last plan (n - (value - first) - 1) x (value + 1) last body here' mid' mid' refl)))

-- a `for`, and one between two numbers
pub adds_for : (c : Context) (spot : Spot) (x : ℕ) (e1 e2 : Expression) (keeps : List Keep) (body : Block) (k k' : Known) (first last : ℕ) (old new : List Member) (all : Bool) → HasValue k.variables e1 first → HasValue k.variables e2 last
    → Adds c.plan (for_from (last + 1 - first) most_turns x first last (block_meaning c most_turns body)) k old all k' new → Adds c.plan (effect c most_turns (for_ spot x e1 e2 keeps body)) k old all k' new
adds_for c spot x e1 e2 keeps body k k' first last old new all h1 h2 a =
    adds_where c.plan k k' (effect c most_turns (for_ spot x e1 e2 keeps body)) (for_from (last + 1 - first) most_turns x first last (block_meaning c most_turns body))
    (λ s known.
    ap (λ o. given o (λ v. given (value e2 s.variables) (λ w. for_from (w + 1 - v) most_turns x v w (block_meaning c most_turns body))) s) (h1 s.variables known.variables_are)
    ∙ ap (λ o. given o (λ w. for_from (w + 1 - first) most_turns x first w (block_meaning c most_turns body)) s) (h2 s.variables known.variables_are)) old new all a

from_none : (j n x v w : ℕ) (body : Action) (s : State) → j ≡ 0 → for_from j n x v w body s ≡ ends s
from_none j n x v w body s e = ap (λ i. for_from i n x v w body s) e

from_some : (j n x v w : ℕ) (body : Action) (s : State) → 0 < j → for_from j n x v w body s ≡ for_turns j n x v w body s
from_some zero n x v w body s some = absurd (omega (arith, some))
from_some (suc j) n x v w body s some = refl

module _ (plan : Layout) (n x v w : ℕ) (body : Action) (k : Known) (old : List Member) where
  pub adds_no_turns : w < v → Adds plan (for_from (w + 1 - v) n x v w body) k old true k old
  adds_no_turns none = adds_none plan k (for_from (w + 1 - v) n x v w body) old old refl (λ s. from_none (w + 1 - v) n x v w body s (omega (arith, none)))

  pub adds_turns : (k' : Known) (new : List Member) (all : Bool) → v ≤ w → Adds plan (for_turns (w + 1 - v) n x v w body) k old all k' new → Adds plan (for_from (w + 1 - v) n x v w body) k old all k' new
  adds_turns k' new all some a =
      adds_where plan k k' (for_from (w + 1 - v) n x v w body) (for_turns (w + 1 - v) n x v w body)
      (λ s known. from_some (w + 1 - v) n x v w body s (omega (arith, some))) old new all a

-- ---- calls

value_at : (es : List Expression) (env : Variables) (vs : List ℕ) (i : ℕ) (e : Expression) → values es env ≡ Some vs → slice_get es i ≡ Some e → value e env ≡ slice_get vs i
value_at [] env vs i e all at = absurd (cc)
value_at (d ∷ es) env vs i e all at = by (value d env) (values es env) refl refl (λ us j is there. value_at es env us j e is there)
  where
    none_some : ◌≡◌ {A = Option (List ℕ)} None (Some vs) → ⊥
    none_some q = absurd (cc)

    here : (v : ℕ) (us : List ℕ) → value d env ≡ Some v → values es env ≡ Some us → Some (v ∷ us) ≡ Some vs → ((us : List ℕ) (j : ℕ) → values es env ≡ Some us → slice_get es j ≡ Some e → value e env ≡ slice_get us j) → (j : ℕ) → slice_get (d ∷ es) j ≡ Some e → value e env ≡ slice_get vs j
    here v us v_is us_is whole later zero there =
        let same : d ≡ e = cc in
        let list : v ∷ us ≡ vs = cc in
        ap (λ (f : Expression). value f env) (sym same) ∙ v_is ∙ ap (λ l. slice_get l zero) list
    here v us v_is us_is whole later (suc j) there =
        let list : v ∷ us ≡ vs = cc in
        later us j us_is there ∙ ap (λ l. slice_get l (suc j)) list

    by : (o : Option ℕ) (os : Option (List ℕ)) → value d env ≡ o → values es env ≡ os → ((us : List ℕ) (j : ℕ) → values es env ≡ Some us → slice_get es j ≡ Some e → value e env ≡ slice_get us j) → value e env ≡ slice_get vs i
    by None os o_is os_is later = absurd (none_some (sym (ap (λ p. value_and p (values es env)) o_is) ∙ all))
    by (Some v) None o_is os_is later = absurd (none_some (sym (ap (λ p. value_and p (values es env)) o_is ∙ ap (value_and (Some v)) os_is) ∙ all))
    by (Some v) (Some us) o_is os_is later = here v us o_is os_is (sym (ap (λ p. value_and p (values es env)) o_is ∙ ap (value_and (Some v)) os_is) ∙ all) later i at

-- what is known of parameters is the value of their arguments
abbrev pub ArePassed : List Expression → List (Option ℕ) → List (Option ℕ) → Type 0
ArePassed es variables known =
    (i v : ℕ) → slice_index_or known i None ≡ Some v → IsSomeAnd (slice_get es i) (λ e. HasValue variables e v)

arguments_known : (es : List Expression) (known passed : List (Option ℕ)) (env : Variables) (vs : List ℕ) → ArePassed es known passed → KnowsVariables known env → values es env ≡ Some vs → KnowsVariables passed (arguments vs)
arguments_known es known passed env vs are kn all i v there = by (slice_get es i) refl (are i v there)
  where
    by : (o : Option Expression) → slice_get es i ≡ o → IsSomeAnd o (λ e. HasValue known e v) → arguments vs i ≡ v
    by None is h = absurd h
    by (Some e) is h = ap (λ o. unwrap_or o 0) (sym (value_at es env vs i e all is) ∙ h env kn)

none_known : (i : ℕ) (n : ℕ) (at : Address) → get_or (replicate n None) i None ≡ Some at → ⊥
none_known i zero at e = absurd (cc)
none_known zero (suc n) at e = absurd (cc)
none_known (suc i) (suc n) at e = none_known i n at e

module _ (checked : CheckedScript) (i p : ℕ) (spot : Spot) (es : List Expression) (procedure : Procedure) (k passed after : Known) (below : p < i) (there : slice_get checked.script.procedures p ≡ Some procedure) (are : ArePassed es k.variables passed.variables) (none : passed.registers ≡ replicate 64 None) where
  abbrev body : Action
  body = block_meaning (context_before checked p) most_turns procedure.body

  abbrev calls : Action
  calls = effect (context_before checked i) most_turns (call spot p es)

  its_routine : slice_get (context_before checked i).routines p ≡ Some (λ n. block_meaning (context_before checked p) n procedure.body)
  its_routine =
      let run : List Procedure → ℕ → Action = λ ps n. block_meaning (context checked.plan (record checked.script { procedures = ps })) n procedure.body in
      routine_of checked.plan (before checked.script i) p procedure (taken_at checked.script.procedures i p below ∙ there)
      ∙ ap (λ ps. Some (run ps)) (take-take p i checked.script.procedures (omega (arith, below)))

  enters : (s : State) (o : Option (List ℕ)) → values es s.variables ≡ o → calls s ≡ given o (λ vs. enter body vs) s
  enters s o is =
      ap (λ (r : Option (ℕ → Action)). given r (λ routine. given (values es s.variables) (λ vs. enter (routine most_turns) vs)) s) its_routine
      ∙ ap (λ r. given r (λ vs. enter body vs) s) is

  passed_known : (s : State) (vs : List ℕ) → IsKnown k.variables k.registers s → values es s.variables ≡ Some vs → IsKnown passed.variables passed.registers (entered vs s)
  passed_known s vs known is = record {
    variables_are = arguments_known es k.variables passed.variables s.variables vs are known.variables_are is;
    registers_are = λ j at e. absurd (none_known j 64 at (sym (ap (λ (l : List (Option Address)). get_or l j None) none) ∙ e));
  }

  called : (bounds : Bounds) (around : Action) (os : List Member) → ((s : State) → IsKnown k.variables k.registers s → Leads checked.plan bounds passed (λ u. then_do (body u) (λ t. around (returned s t))) os) → Leads checked.plan bounds k (λ u. then_do (calls u) around) os
  called bounds around os h s known = by (values es s.variables) refl
    where
      by : (o : Option (List ℕ)) → values es s.variables ≡ o → LeadsTo checked.plan bounds (λ u. then_do (calls u) around) s os
      by None is =
          λ fine leave.
          let no : IsFine checked.plan bounds (stops wrong (on [] s)) = subst (λ (b : Behaviour State). IsFine checked.plan bounds (then_do b around)) (enters (on [] s) None is) (fine []) in
          absurd no.0
      by (Some vs) is =
          leads_along checked.plan bounds (λ u. then_do (calls u) around) (λ u. then_do (body u) (λ t. around (returned s t))) s (entered vs s) os
          (λ answers.
          ap (λ (b : Behaviour State). then_do b around) (enters (on answers s) (Some vs) is)
          ∙ then_assoc (body (entered vs (on answers s))) (λ t. ends (returned (on answers s) t)) around)
          (h s known (entered vs s) (passed_known s vs known is))

  back : (bounds : Bounds) (around : Action) (os : List Member) → Leads checked.plan bounds k around os → (s : State) → IsKnown k.variables k.registers s → Leads checked.plan bounds after (λ t. around (returned s t)) os
  back bounds around os h s known t of_body =
      leads_along checked.plan bounds (λ u. around (returned s u)) around t (returned s t) os (λ answers. refl)
      (h (returned s t) (record { variables_are = known.variables_are; registers_are = known.registers_are }))

  goes_call : (made : List Member) (all : Bool) → Goes checked.plan body passed made all after → Goes checked.plan calls k made all k
  goes_call made true h = λ bounds around os leads. called bounds around (made ++ os) (λ s known. h bounds (λ t. around (returned s t)) os (back bounds around os leads s known))
  goes_call made false h = λ bounds around. called bounds around made (λ s known. h bounds (λ t. around (returned s t)))

  pub adds_call : (old new : List Member) (all : Bool) → Adds checked.plan body passed old all after new → Adds checked.plan calls k old all k new
  adds_call old new all a = (a.0, a.1, goes_call a.0 all a.2)
