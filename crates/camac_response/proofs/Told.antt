-- What is told of the services of a checked script, and what follows where nothing is.
use Rattle.std.proofs.Common.{◌≡◌, ℕ, zero, suc, ◌+◌, List, [], ◌∷◌, Option, Some, None, Bool, true, false, refl, sym, ap, ◌∙◌, subst, arith, ◌++◌, map, length, length-append, ap₂}
use Rattle.std.proofs.lemmas.Bool.{eqb-true, true≢false}
use Rattle.std.proofs.lemmas.Option.{same_Some, slice_get-map}
use Rattle.std.proofs.lemmas.List.Folds.{list_any-append}
use Rattle.std.specs.Prelude.{insert, nat_eq, nat_le, not, option_and_then, slice_get, unwrap_or, if◌then◌else◌, IsTrue, Ok, ◌||◌, drop, option_map}
use Rattle.std.specs.List.{list_any}
use Rattle.camac_lang.specs.Scope.{is_well_formed}
use Rattle.camac_lang.specs.Tree.{Service, Script, Statement, assign, set_register, single, address_scan, q_stop, q_repeat, put, crate_call, lam_call, choose, choose_else, for_, for_each, while_, locked, call, Block, done, next, Lam}
use Rattle.camac_branch.specs.Address.{Address}
use Rattle.camac_branch.specs.Plan.{Layout, IsPlan, gl}
use Rattle.camac_model.specs.Fine.{Bounds, AreFine}
use Rattle.camac_model.specs.Meaning.{context, lam_address}
use Rattle.camac_model.specs.Run.{service_bit}
use Rattle.camac_rules.specs.Accept.{accept, Section, of_procedure, of_service}
use Rattle.camac_rules.specs.Capped.{capped}
use Rattle.camac_check_costs.specs.Body.{BodyRows}
use Rattle.camac_check_costs.specs.Bodies.{costs_with, sections_of}
use Rattle.camac_commands.specs.declared.command.Command.{Command}
use Rattle.camac_commands.specs.Commands.{commands_of, behind, behind_block, detail_told, made_alone, made, made_block, told_over}
use Rattle.camac_commands.specs.Surely.{surely_of}
use Rattle.camac_commands.proofs.Services.{cycles_are_listed, sure_ones_are_made}
use Rattle.camac_commands.proofs.Counted.{service_listed}
use Rattle.camac_response_times.specs.declared.source.Source.{Source}
use Rattle.camac_response_times.specs.Response.{is_up_to}
use Rattle.camac_response_times.specs.declared.setting.Setting.{Setting}
use Rattle.camac_response_times.specs.Rounds.{most_rounds}
use Rattle.camac_response_times.proofs.Rounds.{response_starts}
use Rattle.camac_response_times.proofs.Words.{each_of_more}
use Rattle.camac_response_times.proofs.Rates.{stretches_are_least}
use Rattle.camac_response.specs.declared.unkept.Unkept.{Unkept}
use Rattle.camac_response.specs.declared.unkept.Why.{Why}
use Rattle.camac_response.specs.declared.unkept.Why.TheVariants.{NotCleared, ClearedBy, HiddenBy}
use Rattle.camac_response.specs.Lams.{plan_clears, clears, lams_of, of_lam}
use Rattle.camac_response.specs.Laws.{AreSources, AnswersInTime, LookAtMesAreAnswered, LowestAreCalled, StretchesEnd}
use Rattle.camac_response.specs.Reach.{could_clear, could_hide, must_clear, clears_lam, IsDecided, DecidedServe}
use Rattle.camac_response.specs.Unkept.{rank_of, with_unkept_at, not_cleared, of_other, told_cleared, told_hidden, told_if, told_from, unkept_of, is_kept_to, lines_of, with_line, lesser, least_line, first_made, first_block, first_in}
use Rattle.camac_response.specs.declared.least.Question.TheVariants.{Clears, Hides}
use Rattle.camac_response.specs.Checked.{IsTold, AreTold, CheckedRespond}
use Rattle.camac_response.proofs.Lams.{or_false, same_at, lowest_are_called}
use Rattle.camac_response.proofs.Harmless.{must_tell, decided_serve}
use Rattle.camac_response.proofs.Answers.{answers_in_time, stretches_end}
use Rattle.camac_response.proofs.Waits.{look_at_mes_are_answered}
use Rattle.camac_check_rows.specs.declared.row.Row.{Row}
use Rattle.camac_names.specs.Link.{lam_bit, service_bit as link_bit}
use Rattle.camac_names.specs.Linked.{IsLinked}
use Rattle.camac_names.specs.OwnBits.{HasOwnBits}
use Rattle.camac_names.proofs.OwnBits.{linked_have_own_bits}
use Rattle.camac_rules.specs.Checked.{CheckedScript, linked_of}

-- Where nothing is told of look-at-mes up to a bit, the script does its part for them.

-- Where no command of a body has a line, none of its list passes the test.

pub both_false : (a b : Bool) → a ≡ false → b ≡ false → (a || b) ≡ false
both_false true b e f = e
both_false false b e f = f

module _ (test : Command → Bool) where
  -- where no command has a line, none passes the test
  some_line : (n : ℕ) (cs : List Command) → least_line test (Some n) cs ≡ None → ⊥
  some_line n [] e = absurd (cc)
  some_line n (c ∷ cs) e = go (test c) e (λ m. some_line m cs)
    where
      go : (b : Bool) → least_line test (with_line b c.spot.line (Some n)) cs ≡ None → ((m : ℕ) → least_line test (Some m) cs ≡ None → ⊥) → ⊥
      go true e ih = ih _ e
      go false e ih = ih n e

  no_line : (cs : List Command) → least_line test None cs ≡ None → list_any test cs ≡ false
  no_line [] e = refl
  no_line (c ∷ cs) e = go (test c) refl e (no_line cs)
    where
      go : (b : Bool) → test c ≡ b → least_line test (with_line b c.spot.line None) cs ≡ None → (least_line test None cs ≡ None → list_any test cs ≡ false) → (test c || list_any test cs) ≡ false
      go true is e ih = absurd (some_line c.spot.line cs e)
      go false is e ih = both_false (test c) (list_any test cs) is (ih e)

  -- of the lines so far and of these commands
  abbrev NoneOf : Option ℕ → List Command → Type 0
  NoneOf so_far cs = (so_far ≡ None) × (list_any test cs ≡ false)

  none_line : (so_far : Option ℕ) (cs : List Command) → least_line test so_far cs ≡ None → NoneOf so_far cs
  none_line None cs e = (refl, no_line cs e)
  none_line (Some n) cs e = absurd (some_line n cs e)

  none_both : (so_far : Option ℕ) (xs ys : List Command) → NoneOf so_far xs → list_any test ys ≡ false → NoneOf so_far (xs ++ ys)
  none_both so_far xs ys first second = (first.0, list_any-append test xs ys ∙ both_false (list_any test xs) (list_any test ys) first.1 second)

  -- of procedures, in their places
  abbrev pub Agree : List (Option ℕ) → List (List Command) → Type 0
  Agree [] [] = Unit {0}
  Agree [] (q ∷ qs) = ⊥
  Agree (p ∷ ps) [] = ⊥
  Agree (p ∷ ps) (q ∷ qs) = (p ≡ None → list_any test q ≡ false) × Agree ps qs

  agree_at : (ps : List (Option ℕ)) (qs : List (List Command)) → Agree ps qs → (i : ℕ) → unwrap_or (slice_get ps i) None ≡ None → list_any test (unwrap_or (slice_get qs i) []) ≡ false
  agree_at [] [] h i e = refl
  agree_at [] (q ∷ qs) h i e = absurd h
  agree_at (p ∷ ps) [] h i e = absurd h
  agree_at (p ∷ ps) (q ∷ qs) h zero e = h.0 e
  agree_at (p ∷ ps) (q ∷ qs) h (suc i) e = agree_at ps qs h.1 i e

  agree_push : (ps : List (Option ℕ)) (qs : List (List Command)) (p : Option ℕ) (q : List Command) → Agree ps qs → (p ≡ None → list_any test q ≡ false) → Agree (ps ++ p ∷ []) (qs ++ q ∷ [])
  agree_push [] [] p q h one = (one, tt)
  agree_push [] (x ∷ qs) p q h one = absurd h
  agree_push (x ∷ ps) [] p q h one = absurd h
  agree_push (x ∷ ps) (y ∷ qs) p q h one = (h.0, agree_push ps qs p q h.1 one)

  module _ (ps : List (Option ℕ)) (qs : List (List Command)) (agree : Agree ps qs) where
    none_called : (so_far o : Option ℕ) (p : ℕ) → o ≡ unwrap_or (slice_get ps p) None → lesser so_far o ≡ None → NoneOf so_far (unwrap_or (slice_get qs p) [])
    none_called so_far None p is e = (e, agree_at ps qs agree p (sym is))
    none_called so_far (Some n) p is e = absurd (cc)

    mutual
      none_made : (so_far : Option ℕ) (s : Statement) (rows : List Row) → first_made test ps so_far s rows ≡ None → NoneOf so_far (made qs s rows)
      none_made so_far (choose spot t a) rows e = none_block so_far a (drop 1 rows) e
      none_made so_far (choose_else spot t a b) rows e =
          let others : List Row = drop 1 (behind_block a (drop 1 rows)) in
          let second = none_block (first_block test ps so_far a (drop 1 rows)) b others e in
          none_both so_far (made_block qs a (drop 1 rows)) (made_block qs b others) (none_block so_far a (drop 1 rows) second.0) second.1
      none_made so_far (for_ spot x e1 e2 keeps body) rows e = none_block so_far body (drop 1 rows) e
      none_made so_far (for_each spot x v last body) rows e = none_block so_far body (drop 1 rows) e
      none_made so_far (while_ spot t most m keeps body) rows e = none_block so_far body (drop 1 rows) e
      none_made so_far (locked spot c body) rows e = none_block so_far body (drop 1 rows) e
      none_made so_far (call spot p es) rows e = none_called so_far (unwrap_or (slice_get ps p) None) p refl e
      none_made so_far (assign spot x v) rows e = none_line so_far (made_alone (assign spot x v) (detail_told rows)) e
      none_made so_far (set_register spot r e1 e2 e3) rows e = none_line so_far (made_alone (set_register spot r e1 e2 e3) (detail_told rows)) e
      none_made so_far (single spot size f r move) rows e = none_line so_far (made_alone (single spot size f r move) (detail_told rows)) e
      none_made so_far (address_scan spot f r1 r2 max x) rows e = none_line so_far (made_alone (address_scan spot f r1 r2 max x) (detail_told rows)) e
      none_made so_far (q_stop spot f r t max x) rows e = none_line so_far (made_alone (q_stop spot f r t max x) (detail_told rows)) e
      none_made so_far (q_repeat spot f r t max limit x) rows e = none_line so_far (made_alone (q_repeat spot f r t max limit x) (detail_told rows)) e
      none_made so_far (put spot v) rows e = none_line so_far (made_alone (put spot v) (detail_told rows)) e
      none_made so_far (crate_call spot which v) rows e = none_line so_far (made_alone (crate_call spot which v) (detail_told rows)) e
      none_made so_far (lam_call spot which l) rows e = none_line so_far (made_alone (lam_call spot which l) (detail_told rows)) e

      none_block : (so_far : Option ℕ) (b : Block) (rows : List Row) → first_block test ps so_far b rows ≡ None → NoneOf so_far (made_block qs b rows)
      none_block so_far done rows e = (e, refl)
      none_block so_far (next s rest) rows e =
          let later = none_block (first_made test ps so_far s rows) rest (behind s rows) e in
          none_both so_far (made qs s rows) (made_block qs rest (behind s rows)) (none_made so_far s rows later.0) later.1

    none_in : (b : Block) (rows : List Row) → first_in test ps b rows ≡ None → list_any test (made_block qs b rows) ≡ false
    none_in b rows e = (none_block None b rows e).1

  -- A service with a list of commands has a line, or none of them passes.
  abbrev pub LineOf : List (Option ℕ) → (k : ℕ) → List Command → Type 0
  LineOf lines k cs = (o : Option ℕ) × (slice_get lines k ≡ Some o) × (o ≡ None → list_any test cs ≡ false)

  pub line_of : (ps : List (Option ℕ)) (qs : List (List Command)) → Agree ps qs → (ss : List Section) (bodies : List BodyRows) (k : ℕ) (cs : List Command)
      → slice_get (told_over made_block qs ss bodies) k ≡ Some cs → LineOf (told_over (first_in test) ps ss bodies) k cs
  line_of ps qs agree [] bodies k cs at = absurd (cc)
  line_of ps qs agree (of_procedure p ∷ rest) [] k cs at = absurd (cc)
  line_of ps qs agree (of_service v ∷ rest) [] k cs at = absurd (cc)
  line_of ps qs agree (of_procedure p ∷ rest) (b ∷ bodies) k cs at =
      line_of (ps ++ first_in test ps p.body b.rows ∷ []) (qs ++ made_block qs p.body b.rows ∷ []) (agree_push ps qs (first_in test ps p.body b.rows) (made_block qs p.body b.rows) agree (none_in ps qs agree p.body b.rows)) rest bodies k cs at
  line_of ps qs agree (of_service v ∷ rest) (b ∷ bodies) zero cs at =
      (first_in test ps v.body b.rows, refl, λ e. ap (list_any test) (sym (same_Some (made_block qs v.body b.rows) cs at)) ∙ none_in ps qs agree v.body b.rows e)
  line_of ps qs agree (of_service v ∷ rest) (b ∷ bodies) (suc k) cs at = line_of ps qs agree rest bodies k cs at

-- what was put in does not pass, and neither do the others
inserted : (test : Unkept → Bool) (us : List Unkept) (n : ℕ) (u : Unkept) → list_any test (insert us n u) ≡ false → (test u ≡ false) × (list_any test us ≡ false)
inserted test us zero u e = or_false (test u) (list_any test us) e
inserted test [] (suc n) u e = or_false (test u) false e
inserted test (x ∷ us) (suc n) u e =
    let parts = or_false (test x) (list_any test (insert us n u)) e in
    let rest = inserted test us n u parts.1 in
    (rest.0, both_false (test x) (list_any test us) parts.0 rest.1)

-- a service that clears it has no line
its_heading : (b : Bool) (n : ℕ) → (if b then None else Some n) ≡ None → b ≡ true
its_heading true n e = refl
its_heading false n e = absurd (cc)

other_line : (b : Bool) (o : Option ℕ) → b ≡ false → (if b then None else o) ≡ None → o ≡ None
other_line true o is e = absurd (true≢false is)
other_line false o is e = e

module _ (g : ℕ) where
  abbrev up : Unkept → Bool
  up u = nat_le u.bit g

  abbrev NoneUp : List Unkept → Type 0
  NoneUp us = list_any up us ≡ false

  told_split : (bit j : ℕ) (why : Why) (o : Option ℕ) (us : List Unkept) → NoneUp (with_unkept_at bit j why o us) → (nat_le bit g ≡ true → o ≡ None) × NoneUp us
  told_split bit j why None us e = (λ low. refl, e)
  told_split bit j why (Some line) us e =
      let u : Unkept = record { bit = bit; service = j; line = line; why = why } in
      let parts = inserted up us (rank_of bit line us) u e in
      (λ low. absurd (true≢false (sym low ∙ parts.0)), parts.1)

  cleared_split : (bit j i : ℕ) (lines : List (Option ℕ)) (us : List Unkept) → NoneUp (told_cleared bit j i lines us)
      → (nat_le bit g ≡ true → (k : ℕ) (o : Option ℕ) → slice_get lines k ≡ Some o → of_other j (i + k) o ≡ None) × NoneUp us
  cleared_split bit j i [] us e = (λ low k o at. absurd (cc), e)
  cleared_split bit j i (line ∷ rest) us e =
      let later = cleared_split bit j (i + 1) rest (with_unkept_at bit j (ClearedBy i) (of_other j i line) us) e in
      let here = told_split bit j (ClearedBy i) (of_other j i line) us later.1 in
      (λ low. go low (here.0 low) (later.0 low), here.1)
    where
      go : nat_le bit g ≡ true → of_other j i line ≡ None → ((k : ℕ) (o : Option ℕ) → slice_get rest k ≡ Some o → of_other j (i + 1 + k) o ≡ None)
          → (k : ℕ) (o : Option ℕ) → slice_get (line ∷ rest) k ≡ Some o → of_other j (i + k) o ≡ None
      go low first others zero o at =
          let same : line ≡ o = same_Some line o at in
          let number : i ≡ i + 0 = omega arith in
          subst (λ n. of_other j n o ≡ None) number (subst (λ l. of_other j i l ≡ None) same first)
      go low first others (suc k) o at =
          let number : i + 1 + k ≡ i + suc k = omega arith in
          subst (λ n. of_other j n o ≡ None) number (others k o at)

  hidden_split : (bit j i : ℕ) (lines : List (Option ℕ)) (us : List Unkept) → NoneUp (told_hidden bit j i lines us)
      → (nat_le bit g ≡ true → (k : ℕ) (o : Option ℕ) → slice_get lines k ≡ Some o → o ≡ None) × NoneUp us
  hidden_split bit j i [] us e = (λ low k o at. absurd (cc), e)
  hidden_split bit j i (line ∷ rest) us e =
      let later = hidden_split bit j (i + 1) rest (with_unkept_at bit j (HiddenBy i) line us) e in
      let here = told_split bit j (HiddenBy i) line us later.1 in
      (λ low. go (here.0 low) (later.0 low), here.1)
    where
      go : line ≡ None → ((k : ℕ) (o : Option ℕ) → slice_get rest k ≡ Some o → o ≡ None)
          → (k : ℕ) (o : Option ℕ) → slice_get (line ∷ rest) k ≡ Some o → o ≡ None
      go first others zero o at = sym (same_Some line o at) ∙ first
      go first others (suc k) o at = others k o at

  module _ (plan : Layout) (script : Script) (bodies : List BodyRows) where
    -- nothing is told of the look-at-me of service number j
    record IsKept (j : ℕ) (lam : Address) (v : Service) : Type 0 where
      clears : clears_lam plan script bodies lam j ≡ true
      others : (k : ℕ) (o : Option ℕ) → slice_get (lines_of plan script bodies Clears lam) k ≡ Some o → of_other j k o ≡ None
      shown : (k : ℕ) (o : Option ℕ) → slice_get (lines_of plan script bodies Hides lam) k ≡ Some o → o ≡ None

    of_split : (bit j : ℕ) (w : Option Service) (o : Option Address) (us : List Unkept) → NoneUp (told_if plan script bodies bit j w o us)
        → (nat_le bit g ≡ true → (lam : Address) (v : Service) → o ≡ Some lam → w ≡ Some v → IsKept j lam v) × NoneUp us
    of_split bit j None o us e = (λ low lam v at its. absurd (cc), e)
    of_split bit j (Some v) None us e = (λ low lam' v' at its. absurd (cc), e)
    of_split bit j (Some v) (Some lam) us e =
        let hidden = hidden_split bit j 0 (lines_of plan script bodies Hides lam) (told_cleared bit j 0 (lines_of plan script bodies Clears lam) (with_unkept_at bit j NotCleared (not_cleared plan script bodies lam j v) us)) e in
        let cleared = cleared_split bit j 0 (lines_of plan script bodies Clears lam) (with_unkept_at bit j NotCleared (not_cleared plan script bodies lam j v) us) hidden.1 in
        let own = told_split bit j NotCleared (not_cleared plan script bodies lam j v) us cleared.1 in (
          λ low lam' v' at its.
              subst (λ l. IsKept j l v') (same_Some lam lam' at)
              (subst (λ x. IsKept j lam x) (same_Some v v' its)
              (record { clears = its_heading (clears_lam plan script bodies lam j) v.spot.line (own.0 low); others = λ k o at_k. let number : 0 + k ≡ k = omega arith in subst (λ n. of_other j n o ≡ None) number (cleared.0 low k o at_k); shown = hidden.0 low })),
          own.1,
        )

    from_split : (j : ℕ) (ts : List Source) (us : List Unkept) → NoneUp (told_from plan script bodies j ts us)
        → ((k : ℕ) (t : Source) → slice_get ts k ≡ Some t → is_up_to g t ≡ true → (lam : Address) (v : Service) → lams_of script (j + k) ≡ Some lam → slice_get script.services (j + k) ≡ Some v → IsKept (j + k) lam v) × NoneUp us
    from_split j [] us e = (λ k t at up. absurd (cc), e)
    from_split j (t ∷ ts) us e =
        let later = from_split (j + 1) ts (told_if plan script bodies t.bit j (slice_get script.services j) (lams_of script j) us) e in
        let here = of_split t.bit j (slice_get script.services j) (lams_of script j) us later.1 in
        (go here.0 later.0, here.1)
      where
        go : (nat_le t.bit g ≡ true → (lam : Address) (v : Service) → lams_of script j ≡ Some lam → slice_get script.services j ≡ Some v → IsKept j lam v)
            → ((k : ℕ) (u : Source) → slice_get ts k ≡ Some u → is_up_to g u ≡ true → (lam : Address) (v : Service) → lams_of script (j + 1 + k) ≡ Some lam → slice_get script.services (j + 1 + k) ≡ Some v → IsKept (j + 1 + k) lam v)
            → (k : ℕ) (u : Source) → slice_get (t ∷ ts) k ≡ Some u → is_up_to g u ≡ true → (lam : Address) (v : Service) → lams_of script (j + k) ≡ Some lam → slice_get script.services (j + k) ≡ Some v → IsKept (j + k) lam v
        go first others zero u at low lam v its is =
            let same : t ≡ u = same_Some t u at in
            let number : j + 0 ≡ j = omega arith in
            subst (λ n. IsKept n lam v) (sym number)
            (first (ap (is_up_to g) same ∙ low) lam v (sym (ap (lams_of script) number) ∙ its) (sym (ap (slice_get script.services) number) ∙ is))
        go first others (suc k) u at low lam v its is =
            let number : j + 1 + k ≡ j + suc k = omega arith in
            subst (λ n. IsKept n lam v) number (others k u at low lam v (ap (lams_of script) number ∙ its) (ap (slice_get script.services) number ∙ is))

    kept : (ts : List Source) → is_kept_to (told_from plan script bodies 0 ts []) g ≡ true → (k : ℕ) (t : Source) → slice_get ts k ≡ Some t → is_up_to g t ≡ true
        → (lam : Address) (v : Service) → lams_of script k ≡ Some lam → slice_get script.services k ≡ Some v → IsKept k lam v
    kept ts e k t at low lam v its is =
        let number : 0 + k ≡ k = omega arith in
        subst (λ n. IsKept n lam v) number
        ((from_split 0 ts [] (none (list_any up (told_from plan script bodies 0 ts [])) e)).0 k t at low lam v (ap (lams_of script) number ∙ its) (ap (slice_get script.services) number ∙ is))
      where
        none : (b : Bool) → not b ≡ true → b ≡ false
        none true e = absurd (cc)
        none false e = refl

-- a service that has a bit has a look-at-me
has_lam : (plan : Layout) (o : Option Address) (b : ℕ) → option_and_then (λ at. gl plan at.crate_no at.station) o ≡ Some b → (lam : Address) × (o ≡ Some lam)
has_lam plan None b e = absurd (cc)
has_lam plan (Some lam) b e = (lam, refl)

module _ (plan : Layout) (is_plan : IsPlan plan) (script : Script) (formed : IsTrue (is_well_formed script)) (ks : List Bounds) (accepted : accept plan script ≡ Ok ks)
    (ts : List Source) (are : AreSources plan script ks ts) (g : ℕ) (e : is_kept_to (unkept_of plan script ts) g ≡ true) where
  abbrev bodies : List BodyRows
  bodies = costs_with capped plan script

  abbrev lists : List (List Command)
  lists = commands_of plan script

  none_of : (o : Option Address) (test : Address → Bool) → ((lam : Address) → o ≡ Some lam → test lam ≡ false) → of_lam test o ≡ false
  none_of None test h = refl
  none_of (Some lam) test h = h lam refl

  -- what is known of the look-at-me of a source up to the bit
  its_kept : (j : ℕ) (t : Source) → slice_get ts j ≡ Some t → is_up_to g t ≡ true → (lam : Address) → lams_of script j ≡ Some lam → (v : Service) × IsKept g plan script bodies j lam v
  its_kept j t at low lam its =
      let there = same_at (service_bit (context plan script)) (λ u. Some u.bit) script.services ts are.bits j t at in
      (there.0, kept g plan script bodies ts e j t at low lam there.0 its there.1)

  pub decided : (i : ℕ) (v : Service) → slice_get script.services i ≡ Some v → (cs : List Command) → slice_get lists i ≡ Some cs → IsDecided plan script ts g i v
  decided i v at cs listed =
      let there = same_at (λ u. Some u.bit) (service_bit (context plan script)) ts script.services (sym are.bits) i v at in
      let found = has_lam plan (slice_get (context plan script).lams v.lam) there.0.bit (sym there.2) in
      let its : lams_of script i ≡ Some found.0 = ap (option_and_then (λ w. slice_get (context plan script).lams w.lam)) at ∙ found.1 in
      record {
        commands = cs;
        lam = found.0;
        lam_is = its;
        makes = cycles_are_listed plan is_plan script ks formed accepted i v cs at listed;
        careful = record {
          clear_no_other = λ j t at_t low other. none_of (lams_of script j) _ (λ lam its_lam. (
              let (o, here, none) = line_of (could_clear plan lam) [] [] tt (sections_of script) bodies i cs listed in
              none (other_line (nat_eq i j) o (not_same i j other) ((its_kept j t at_t low lam its_lam).1.others i o here))));
          hide_none = λ j t at_t low. none_of (lams_of script j) _ (λ lam its_lam. (
              let (o, here, none) = line_of (could_hide lam) [] [] tt (sections_of script) bodies i cs listed in
              none ((its_kept j t at_t low lam its_lam).1.shown i o here)));
        };
        clears = λ t at_t low. sure_ones_are_made plan is_plan script ks formed accepted (must_clear plan found.0) (clears (plan_clears plan) found.0) (must_tell plan found.0) i v at
            (is_there (slice_get (surely_of (must_clear plan found.0) plan script) i) (kept g plan script bodies ts e i t at_t low found.0 v its at).clears);
      }
    where
      is_there : (o : Option Bool) → unwrap_or o false ≡ true → o ≡ Some true
      is_there None e = absurd (cc)
      is_there (Some b) e = ap (λ x. Some x) e

      not_same : (i j : ℕ) → (i ≡ j → ⊥) → nat_eq i j ≡ false
      not_same i j other = go (nat_eq i j) refl
        where
          go : (b : Bool) → nat_eq i j ≡ b → b ≡ false
          go true same = absurd (other (eqb-true i j same))
          go false same = refl

-- The services of a checked script are sources as the laws want them.

same_lam : (plan : Layout) (o : Option Lam) → option_and_then (λ at. gl plan at.crate_no at.station) (option_map lam_address o) ≡ option_and_then (lam_bit plan) o
same_lam plan None = refl
same_lam plan (Some l) = refl

same_bit : (plan : Layout) (script : Script) (v : Service) → service_bit (context plan script) v ≡ link_bit plan script.lams v
same_bit plan script v =
    ap (option_and_then (λ at. gl plan at.crate_no at.station)) (slice_get-map lam_address script.lams v.lam) ∙ same_lam plan (slice_get script.lams v.lam)

fine_length : (plan : Layout) (script : Script) (ks : List Bounds) (vs : List Service) → AreFine plan script ks vs → length ks ≡ length vs
fine_length plan script [] [] h = refl
fine_length plan script [] (v ∷ vs) h = absurd h
fine_length plan script (k ∷ ks) [] h = absurd h
fine_length plan script (k ∷ ks) (v ∷ vs) h = let rest = fine_length plan script ks vs h.1 in omega (arith, rest)

-- the first of them
pub record IsSoFar (c : CheckedScript) (rates : List Setting) (n : ℕ) (ts : List Source) : Type 0 where
  pub all : length ts ≡ n
  pub each : (i : ℕ) (t : Source) → slice_get ts i ≡ Some t → IsTold c rates i t

-- two lists that are the same place by place
same_maps : {A B C : Type 0} (f : A → C) (g : B → C) (xs : List A) (ys : List B) → length xs ≡ length ys → ((i : ℕ) (x : A) (y : B) → slice_get xs i ≡ Some x → slice_get ys i ≡ Some y → f x ≡ g y) → map f xs ≡ map g ys
same_maps f g [] [] e h = refl
same_maps f g [] (y ∷ ys) e h = absurd (omega (arith, e))
same_maps f g (x ∷ xs) [] e h = absurd (omega (arith, e))
same_maps f g (x ∷ xs) (y ∷ ys) e h = ap₂ (λ z zs. z ∷ zs) (h 0 x y refl refl) (same_maps f g xs ys (omega (arith, e)) (λ i. h (suc i)))

module _ (c : CheckedScript) (is : IsPlan c.plan) (linked : IsLinked (linked_of c)) (rates : List Setting) (ts : List Source) (told : AreTold c rates ts) (many : length c.bounds ≡ length c.script.services) where
  told_bits : (i : ℕ) (v : Service) (t : Source) → slice_get c.script.services i ≡ Some v → slice_get ts i ≡ Some t → service_bit (context c.plan c.script) v ≡ Some t.bit
  told_bits i v t at_v at_t =
      same_bit c.plan c.script v ∙ sym (ap (option_and_then (link_bit c.plan c.script.lams)) at_v) ∙ (told.each i t at_t).bit

  told_cycles : (i : ℕ) (k : Bounds) (t : Source) → slice_get c.bounds i ≡ Some k → slice_get ts i ≡ Some t → k.cycles ≡ t.cycles
  told_cycles i k t at_k at_t =
      same_Some k.cycles t.cycles (sym (ap (option_map (λ k. k.cycles)) at_k) ∙ (told.each i t at_t).cycles)

  pub told_are_sources : AreSources c.plan c.script c.bounds ts
  told_are_sources =
      let own : HasOwnBits (linked_of c) = linked_have_own_bits (linked_of c) is linked in
      record {
        bits = same_maps (service_bit (context c.plan c.script)) (λ t. Some t.bit) c.script.services ts (sym told.all) told_bits;
        cycles = same_maps (λ k. k.cycles) (λ t. t.cycles) c.bounds ts (many ∙ sym told.all) told_cycles;
        apart = λ i j t u at_i at_j same. own.own i j t.bit (told.each i t at_i).bit ((told.each j u at_j).bit ∙ ap Some (sym same));
      }

pub checked_respond : CheckedRespond
unfolding CheckedRespond AnswersInTime DecidedServe LookAtMesAreAnswered LowestAreCalled StretchesEnd
checked_respond c is linked formed checked rates ts told =
    let many : length c.bounds ≡ length c.script.services = fine_length c.plan c.script c.bounds c.script.services checked.services in
    let are = told_are_sources c is linked rates ts told many in
    record {
      look_at_mes = λ s source its start found kept moods raises pauses answers.
          look_at_mes_are_answered c.plan is c.script c.bounds checked.runs ts are s source its start (response_starts ts source most_rounds start found) (plan_clears c.plan) moods raises pauses answers
          (decided_serve c.plan is c.script c.bounds ts are source.bit (λ i v at.
          let list = service_listed c.plan c.script c.bounds checked.accepted many i v at in decided c.plan is c.script formed c.bounds checked.accepted ts are source.bit kept i v at list.0 list.1) answers);
      calls = λ s source its start found. answers_in_time c.plan c.script c.bounds checked.runs ts are s source its start (response_starts ts source most_rounds start found);
      stretches = λ s source its most found. stretches_end c.plan c.script c.bounds checked.runs ts are source.bit most (stretches_are_least ts source most_rounds most found).enough;
      lowest = lowest_are_called c.plan is c.script c.bounds ts are;
    }

-- one more of them
pub one_more_told : (c : CheckedScript) (rates : List Setting) (n : ℕ) (ts all : List Source) (t : Source) → IsSoFar c rates n ts → all ≡ ts ++ t ∷ [] → IsTold c rates n t → IsSoFar c rates (n + 1) all
one_more_told c rates n ts all t so_far is told =
    let many = so_far.all in
    let longer : length all ≡ length ts + 1 = ap length is ∙ length-append ts (t ∷ []) in
    record {
      all = omega (arith, many, longer);
      each = λ i u at. each_of_more ts t i u (IsTold c rates) so_far.each (subst (λ j. IsTold c rates j t) (sym many) told) (ap (λ xs. slice_get xs i) (sym is) ∙ at);
    }
