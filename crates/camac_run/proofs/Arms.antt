-- What `if` makes, and what is known after a block that makes no operation.
use Rattle.std.proofs.Common.{append-nil, ◌≡◌, ◌∙◌, ℕ, zero, suc, ◌+◌, ◌-◌, ◌<◌, List, [], ◌∷◌, get_or, replicate, set, Bool, true, false, Option, Some, None, inr, refl, sym, ap, subst}
use Rattle.camac_branch.specs.Address.{Address}
use Rattle.camac_branch.specs.Branch.{Answer}
use Rattle.camac_branch.specs.Plan.{Layout}
use Rattle.camac_rules.specs.Checked.{CheckedScript}
use Rattle.std.specs.Prelude.{slice_get}
use Rattle.camac_lang.specs.Tree.{Block, Condition, Expression, Keep, Procedure, Statement, assign, call, for_, for_each, set_register, while_}
use Rattle.camac_lang.specs.declared.spot.Spot.{Spot}
use Rattle.camac_model.specs.Behaviour.{Behaviour, ends, stops, more, wrong, Action, decide, given, then_do}
use Rattle.camac_model.specs.Fine.{IsFine, most_turns}
use Rattle.camac_model.specs.Meaning.{Context, block_meaning, effect, for_from, for_state, for_turns, turns}
use Rattle.camac_model.specs.State.{State, set_at, stepped, with_variable}
use Rattle.camac_model.specs.Value.{truth, value}
use Rattle.camac_run.specs.Sure.{IsKnown, Knows, KnowsVariables, HasTruth, KnowsLess, on, NeedsNone, LeadsTo, Goes, Adds, chooses, context_before}
use Rattle.camac_run.specs.declared.ahead.Known.{Known}
use Rattle.camac_run.specs.declared.member.Member.{Member}
use Rattle.camac_run.proofs.Following.{knows_set}
use Rattle.camac_run.proofs.Making.{adds_both, adds_call, adds_changed, adds_never, adds_none, adds_passing, adds_stepped, adds_turn, adds_where, its_step, leads_along}
use Rattle.camac_run.proofs.Steps.{assign_needs_none, register_needs_none}

-- ---- what is known

none_some : {A : Type 0} (v : A) → ◌≡◌ {A = Option A} None (Some v) → ⊥
none_some v e = absurd (cc)

module _ {A : Type 0} where
  -- without one of the values
  set_less : (xs : List (Option A)) (x i : ℕ) (v : A) → get_or (set xs x None) i None ≡ Some v → get_or xs i None ≡ Some v
  set_less [] x i v e = e
  set_less (y ∷ ys) zero zero v e = absurd (none_some v e)
  set_less (y ∷ ys) zero (suc i) v e = e
  set_less (y ∷ ys) (suc x) zero v e = e
  set_less (y ∷ ys) (suc x) (suc i) v e = set_less ys x i v e

  gone : (xs : List (Option A)) (x : ℕ) → get_or (set xs x None) x None ≡ None
  gone [] x = refl
  gone (y ∷ ys) zero = refl
  gone (y ∷ ys) (suc x) = gone ys x

  set_none : (xs : List (Option A)) (x : ℕ) → get_or xs x None ≡ None → set xs x None ≡ xs
  set_none [] x e = refl
  set_none (y ∷ ys) zero e = ap (λ z. z ∷ ys) (sym e)
  set_none (y ∷ ys) (suc x) e = ap (λ l. y ∷ l) (set_none ys x e)

  -- what is forgotten is not known where less is
  kept_set : (xs ys : List (Option A)) (x : ℕ) → Knows Some xs (λ i. get_or (set ys x None) i None) → set xs x None ≡ xs
  kept_set xs ys x less = set_none xs x (by (get_or xs x None) refl)
    where
      by : (o : Option A) → get_or xs x None ≡ o → get_or xs x None ≡ None
      by None e = e
      by (Some v) e = absurd (none_some v (sym (gone ys x) ∙ less x v e))

module _ (k : Known) where
  pub less_same : KnowsLess k k
  less_same = (λ i v e. e, λ i at e. e)

  module _ (x : ℕ) where
    pub variable_forgotten : KnowsLess k (record k { variables = set k.variables x None })
    variable_forgotten = (λ i v e. set_less k.variables x i v e, λ i at e. e)

    pub register_forgotten : KnowsLess k (record k { registers = set k.registers x None })
    register_forgotten = (λ i v e. e, λ i at e. set_less k.registers x i at e)

  module _ (k' : Known) (less : KnowsLess k k') where
    knows_less : (s : State) → IsKnown k.variables k.registers s → IsKnown k'.variables k'.registers s
    knows_less s known = record { variables_are = λ i v e. known.variables_are i v (less.0 i v e); registers_are = λ i at e. known.registers_are i at (less.1 i at e) }

    pub less_both : (k2 : Known) → KnowsLess k' k2 → KnowsLess k k2
    less_both k2 h = (λ i v e. less.0 i v (h.0 i v e), λ i at e. less.1 i at (h.1 i at e))

    pub goes_known : (plan : Layout) (go : Action) (k2 : Known) (made : List Member) (all : Bool) → Goes plan go k' made all k2 → Goes plan go k made all k2
    goes_known plan go k2 made true h = λ bounds around os leads s known. h bounds around os leads s (knows_less s known)
    goes_known plan go k2 made false h = λ bounds around s known. h bounds around s (knows_less s known)

-- ---- `if`

-- it is not known whether one is made
goes_unknown : (plan : Layout) (go : Action) (k k' : Known) → Goes plan go k [] false k'
goes_unknown plan go k k' bounds around s known fine leave = tt

module _ (plan : Layout) (test : Condition) (first second : Action) (k : Known) where
  abbrev either : Action
  either = chooses test first second

  -- by the arm that is taken
  pub adds_first_arm : (k' : Known) (old new : List Member) (all b : Bool) → b ≡ true → HasTruth k.variables (truth test) b → Adds plan first k old all k' new → Adds plan either k old all k' new
  adds_first_arm k' old new all b is h = adds_where plan k k' either first (λ s known. ap (λ o. decide o first second s) (h s.variables s.q s.x known.variables_are ∙ ap Some is)) old new all

  pub adds_second_arm : (k' : Known) (old new : List Member) (all b : Bool) → b ≡ false → HasTruth k.variables (truth test) b → Adds plan second k old all k' new → Adds plan either k old all k' new
  adds_second_arm k' old new all b is h = adds_where plan k k' either second (λ s known. ap (λ o. decide o first second s) (h s.variables s.q s.x known.variables_are ∙ ap Some is)) old new all

  module _ (h : Goes plan first k [] true k) where
    both_go : Goes plan second k [] true k → Goes plan either k [] true k
    both_go h' bounds around os leads s known = by (truth test s.variables s.q s.x) refl
      where
        by : (o : Option Bool) → truth test s.variables s.q s.x ≡ o → LeadsTo plan bounds (λ u. then_do (either u) around) s os
        by None is fine leave =
            let no : IsFine plan bounds (stops wrong (on [] s)) = subst (λ (b : Behaviour State). IsFine plan bounds (then_do b around)) (ap (λ o. decide o first second (on [] s)) is) (fine []) in
            absurd no.0
        by (Some true) is fine leave =
            leads_along plan bounds (λ u. then_do (either u) around) (λ u. then_do (first u) around) s s os (λ answers. ap (λ o. then_do (decide o first second (on answers s)) around) is)
            (h bounds around os leads s known) fine leave
        by (Some false) is fine leave =
            leads_along plan bounds (λ u. then_do (either u) around) (λ u. then_do (second u) around) s s os (λ answers. ap (λ o. then_do (decide o first second (on answers s)) around) is)
            (h' bounds around os leads s known) fine leave

    -- whichever it is, where none of both makes an operation
    pub goes_either : (all : Bool) → Goes plan second k [] all k → Goes plan either k [] all k
    goes_either true h' = both_go h'
    goes_either false h' = goes_unknown plan either k k

-- without an `else`
pub goes_lone : (plan : Layout) (test : Condition) (first : Action) (k : Known) (all : Bool) → Goes plan first k [] all k → Goes plan (chooses test first (λ s. ends s)) k [] all k
goes_lone plan test first k false h = goes_unknown plan (chooses test first (λ s. ends s)) k k
goes_lone plan test first k true h = goes_either plan test first (λ s. ends s) k h true (λ bounds around os leads. leads)

-- ---- what makes no operation

module _ (plan : Layout) (go : Action) (k k' : Known) (all : Bool) where
  pub adds_goes : (old new : List Member) → new ≡ old → Goes plan go k [] all k' → Adds plan go k old all k' new
  adds_goes old new same g = ([], same ∙ sym (append-nil old), g)

  pub goes_adds : Adds plan go k [] all k' [] → Goes plan go k [] all k'
  goes_adds a = subst (λ made. Goes plan go k made all k') (sym a.1) a.2

-- where it may not be known how it goes on
pub goes_if : (plan : Layout) (go : Action) (k : Known) (all : Bool) → Goes plan go k [] true k → Goes plan go k [] all k
goes_if plan go k true h = h
goes_if plan go k false h = goes_unknown plan go k k

module _ (c : Context) (k : Known) where
  pub goes_stepped : (st : Statement) (all : Bool) → Goes c.plan (effect c most_turns st) k [] all k → Goes c.plan (λ s. effect c most_turns st (stepped s)) k [] all k
  goes_stepped st all g =
      goes_adds c.plan (λ s. effect c most_turns st (stepped s)) k k all (its_step c st k k [] [] [] all refl (adds_goes c.plan (effect c most_turns st) k k all [] [] refl g))

  pub goes_passing : (st : Statement) → NeedsNone c k.variables k.registers st k.variables k.registers → Goes c.plan (effect c most_turns st) k [] true k
  goes_passing st passes = goes_adds c.plan (effect c most_turns st) k k true (adds_passing c.plan k k (effect c most_turns st) [] [] refl passes)

  module _ (known : Known) (spot : Spot) where
    pub goes_assign : (x : ℕ) (e : Expression) → KnowsLess (record known { variables = set known.variables x None }) k → Goes c.plan (effect c most_turns (assign spot x e)) k [] true k
    goes_assign x e less =
        goes_passing (assign spot x e)
        (subst (λ (vs : List (Option ℕ)). NeedsNone c k.variables k.registers (assign spot x e) vs k.registers) (kept_set k.variables known.variables x less.0) (assign_needs_none c k.variables k.registers spot x e None tt))

    pub goes_register : (r : ℕ) (e1 e2 e3 : Expression) → KnowsLess (record known { registers = set known.registers r None }) k → Goes c.plan (effect c most_turns (set_register spot r e1 e2 e3)) k [] true k
    goes_register r e1 e2 e3 less =
        goes_passing (set_register spot r e1 e2 e3)
        (subst (λ (rs : List (Option Address)). NeedsNone c k.variables k.registers (set_register spot r e1 e2 e3) k.variables rs) (kept_set k.registers known.registers r less.1) (register_needs_none c k.variables k.registers spot r e1 e2 e3 None tt))

-- ---- loops whose blocks make none

module _ (plan : Layout) (body : Action) (k : Known) (b : Adds plan body k [] true k []) where
  while_adds : (test : Condition) (n : ℕ) → Goes plan (turns n test body) k [] true k
  while_adds test zero = goes_lone plan test (λ s. stops more s) k true (goes_adds plan (λ s. stops more s) k k true (adds_never plan k k [] [] [] true refl))
  while_adds test (suc n) =
      goes_lone plan test (λ t. then_do (body (stepped t)) (turns n test body)) k true
      (goes_adds plan (λ t. then_do (body (stepped t)) (turns n test body)) k k true
      (adds_both plan (λ t. body (stepped t)) (turns n test body) (λ t. then_do (body (stepped t)) (turns n test body)) (λ s. refl) k k k [] [] [] true
      (adds_stepped plan k k body [] [] true b) (adds_goes plan (turns n test body) k k true [] [] refl (while_adds test n))))

  module _ (x : ℕ) (none : set k.variables x None ≡ k.variables) where
    variable_kept : (v : ℕ) (s : State) → IsKnown k.variables k.registers s → IsKnown k.variables k.registers (with_variable x v s)
    variable_kept v s known = record {
      variables_are = subst (λ (vs : List (Option ℕ)). KnowsVariables vs (set_at x v s.variables)) none (knows_set (λ i. i) k.variables s.variables x None v known.variables_are (λ i e. absurd (none_some i e)));
      registers_are = known.registers_are;
    }

    turns_add : (j n v w : ℕ) → Adds plan (for_turns j n x v w body) k [] true k []
    turns_add zero n v w = adds_passing plan k k (for_turns zero n x v w body) [] [] refl (λ s known. inr (with_variable x w s, variable_kept w s known, λ answers. refl))
    turns_add (suc j) n v w =
        adds_turn plan n j x v w body k k k [] [] [] true
        (adds_changed plan k k k body (for_state x v) (λ answers s. refl) (λ s known. let it = variable_kept v s known in record { variables_are = it.variables_are; registers_are = it.registers_are }) [] [] true b)
        (turns_add j (n - 1) (v + 1) w)

    from_adds : (j n v w : ℕ) → Goes plan (for_from j n x v w body) k [] true k
    from_adds j n v w = goes_adds plan (for_from j n x v w body) k k true (by j)
      where
        by : (i : ℕ) → Adds plan (for_from i n x v w body) k [] true k []
        by zero = adds_none plan k (for_from zero n x v w body) [] [] refl (λ s. refl)
        by (suc i) = adds_where plan k k (for_from (suc i) n x v w body) (for_turns (suc i) n x v w body) (λ s known. refl) [] [] true (turns_add (suc i) n v w)

module _ (c : Context) (body : Block) (k : Known) where
  abbrev its : Action
  its = block_meaning c most_turns body

  in_block : Goes c.plan its k [] true k → Adds c.plan its k [] true k []
  in_block h = adds_goes c.plan its k k true [] [] refl h

  module _ (spot : Spot) (keeps : List Keep) where
    pub goes_while : (test : Condition) (m x : ℕ) (all : Bool) → Goes c.plan its k [] all k → Goes c.plan (effect c most_turns (while_ spot test m x keeps body)) k [] all k
    goes_while test m x true h = while_adds c.plan its k (in_block h) test most_turns
    goes_while test m x false h = goes_unknown c.plan (effect c most_turns (while_ spot test m x keeps body)) k k

    module _ (known : Known) (x : ℕ) (less : KnowsLess (record known { variables = set known.variables x None }) k) where
      abbrev from : (j v w : ℕ) → Action
      from j v w = for_from j most_turns x v w its

      from_go : Goes c.plan its k [] true k → (j v w : ℕ) → Goes c.plan (from j v w) k [] true k
      from_go h j v w = from_adds c.plan its k (in_block h) x (kept_set k.variables known.variables x less.0) j most_turns v w

      pub goes_each : (v w : ℕ) (all : Bool) → Goes c.plan its k [] all k → Goes c.plan (effect c most_turns (for_each spot x v w body)) k [] all k
      goes_each v w true h = from_go h (w + 1 - v) v w
      goes_each v w false h = goes_unknown c.plan (effect c most_turns (for_each spot x v w body)) k k

      module _ (e1 e2 : Expression) where
        abbrev loop : Action
        loop = effect c most_turns (for_ spot x e1 e2 keeps body)

        for_go : Goes c.plan its k [] true k → Goes c.plan loop k [] true k
        for_go h bounds around os leads s known = by (value e1 s.variables) (value e2 s.variables) refl refl
          where
            between : (o p : Option ℕ) → Action
            between o p = given o (λ v. given p (λ w. from (w + 1 - v) v w))

            is : (o p : Option ℕ) → value e1 s.variables ≡ o → value e2 s.variables ≡ p → (answers : List Answer) → then_do (loop (on answers s)) around ≡ then_do (between o p (on answers s)) around
            is o p e1_is e2_is answers = rw (← e1_is, ← e2_is) refl

            no : (o p : Option ℕ) → value e1 s.variables ≡ o → value e2 s.variables ≡ p → between o p (on [] s) ≡ stops wrong (on [] s) → LeadsTo c.plan bounds (λ u. then_do (loop u) around) s os
            no o p e1_is e2_is wrongs fine leave =
                let it : IsFine c.plan bounds (stops wrong (on [] s)) = subst (λ (b : Behaviour State). IsFine c.plan bounds b) (is o p e1_is e2_is [] ∙ ap (λ (b : Behaviour State). then_do b around) wrongs) (fine []) in
                absurd it.0

            by : (o p : Option ℕ) → value e1 s.variables ≡ o → value e2 s.variables ≡ p → LeadsTo c.plan bounds (λ u. then_do (loop u) around) s os
            by None p e1_is e2_is = no None p e1_is e2_is refl
            by (Some v) None e1_is e2_is = no (Some v) None e1_is e2_is refl
            by (Some v) (Some w) e1_is e2_is =
                leads_along c.plan bounds (λ u. then_do (loop u) around) (λ u. then_do (from (w + 1 - v) v w u) around) s s os (λ answers. is (Some v) (Some w) e1_is e2_is answers)
                (from_go h (w + 1 - v) v w bounds around os leads s known)

        pub goes_for : (all : Bool) → Goes c.plan its k [] all k → Goes c.plan loop k [] all k
        goes_for true h = for_go h
        goes_for false h = goes_unknown c.plan loop k k

-- ---- a call of what makes none

-- nothing is known
abbrev pub nothing : Known
nothing = record { variables = replicate 64 None; registers = replicate 64 None }

none_in : {A : Type 0} (n i : ℕ) (v : A) → get_or (replicate n None) i None ≡ Some v → ⊥
none_in zero i v e = none_some v e
none_in (suc n) zero v e = none_some v e
none_in (suc n) (suc i) v e = none_in n i v e

pub less_nothing : (k : Known) → KnowsLess k nothing
less_nothing k = (λ i v e. absurd (none_in 64 i v e), λ i at e. absurd (none_in 64 i at e))

pub goes_call : (checked : CheckedScript) (i p : ℕ) (spot : Spot) (es : List Expression) (procedure : Procedure) (k : Known) (all : Bool) → p < i → slice_get checked.script.procedures p ≡ Some procedure
    → Goes checked.plan (block_meaning (context_before checked p) most_turns procedure.body) nothing [] all nothing → Goes checked.plan (effect (context_before checked i) most_turns (call spot p es)) k [] all k
goes_call checked i p spot es procedure k all below there h =
    goes_adds checked.plan (effect (context_before checked i) most_turns (call spot p es)) k k all
    (adds_call checked i p spot es procedure k nothing nothing below there (λ j v e. absurd (none_in 64 j v e)) refl [] [] all
    (adds_goes checked.plan (block_meaning (context_before checked p) most_turns procedure.body) nothing nothing all [] [] refl h))
