-- Worked rows: responses, and runs that do what the law of lines asks or do not.
use Rattle.std.proofs.Common.{◌≡◌, ℕ, List, [], ◌∷◌, Option, Some, None, true, false, refl, take, zero, suc, ◌+◌, ◌*◌, ◌<◌, ◌≤◌, sym, ◌∙◌, ap, subst, arith}
use Rattle.std.proofs.lemmas.Bool.{true≢false}
use Rattle.std.proofs.lemmas.Option.{same_Some}
use Rattle.std.specs.Prelude.{Ok, codes, slice_get}
use Rattle.camac_lang.specs.declared.word.CrateCall.TheVariants as crate_word
use Rattle.camac_lang.specs.Tree.{number, Statement, crate_call, Script, Lam, Service, next_lam, next_service, on_line, lam_call}
use Rattle.camac_lang.specs.View.{block_of}
use Rattle.camac_lang.specs.declared.word.LamCall.TheVariants as lam_word
use Rattle.camac_branch.specs.Branch.{Answer, IsSet}
use Rattle.camac_branch.specs.Plan.{Layout}
use Rattle.camac_branch.specs.Address.{Address, address}
use Rattle.camac_model.specs.Behaviour.{pieces, Piece}
use Rattle.camac_model.specs.Run.{the_run}
use Rattle.camac_model.specs.Sample.{gap, adc, reg}
use Rattle.camac_model.specs.Moments.{Holds}
use Rattle.camac_model.proofs.SampleScripts.{answer, demand}
use Rattle.camac_rules.specs.Accept.{accept}
use Rattle.camac_rules.specs.Refusal.{go_on, if_reached, required}
use Rattle.camac_response_times.specs.declared.source.Source.{Source}
use Rattle.camac_response_times.specs.Rounds.{response, most_rounds}
use Rattle.camac_response_times.specs.Response.{is_up_to}
use Rattle.camac_response.specs.Stretch.{Stretch, no_stretch, stretch_after}
use Rattle.camac_response.specs.Modules.{Raises, Pauses, IsApart, AreApart, paused}
use Rattle.camac_response.specs.Lams.{Clears, Moods, lams_of, of_lam, may_clear, Book, first_page, book_after, is_shown, NoneHidden, ClearsNoOther, services_watch, Wires, first_wires, wires_after, IsOfLams, EndsByRate, RaisesAfter, IsQuiet, ModulesKeep}

-- Worked rows: responses, and a run in which a service is called as late as its response allows.

abbrev pub source : ℕ → ℕ → Option ℕ → Source
source bit cycles every = record { bit = bit; cycles = cycles; every = every }

-- adc of bit 3 with bound 3, reg of bit 7 with bound 6
abbrev two : Option ℕ → Option ℕ → List Source
two t u = source 3 3 t ∷ source 7 6 u ∷ []

adc_once : response (two None None) (source 3 3 None) ≡ Some 6
unfolding most_rounds
adc_once = refl

reg_once : response (two None None) (source 7 6 None) ≡ Some 3
unfolding most_rounds
reg_once = refl

adc_every_4 : response (two (Some 4) None) (source 3 3 (Some 4)) ≡ Some 6
unfolding most_rounds
adc_every_4 = refl

reg_every_4 : response (two (Some 4) None) (source 7 6 None) ≡ Some 3
unfolding most_rounds
reg_every_4 = refl

adc_every_20 : response (two (Some 20) (Some 12)) (source 3 3 (Some 20)) ≡ Some 6
unfolding most_rounds
adc_every_20 = refl

reg_every_12 : response (two (Some 20) (Some 12)) (source 7 6 (Some 12)) ≡ Some 3
unfolding most_rounds
reg_every_12 = refl

-- the services of bits 3 and 2: each makes a cycle in crate 2, which has no waits, and one in crate 1, which has up to 2
abbrev pub plan : Layout
plan = record {
  buffer = 4096;
  types = adc ∷ reg ∷ [];
  crates =
      Some (record { waits = 2; stations = gap 4 (Some (record { type_no = 0; gl = Some 3 }) ∷ gap 18 []) }) ∷
      Some (record { waits = 0; stations = gap 4 (Some (record { type_no = 0; gl = Some 2 }) ∷ gap 18 []) }) ∷
      gap 5 [];
}

abbrev pub lam_at : List ℕ → ℕ → Lam
lam_at name c = record { spot = on_line 1; name = name; crate_no = c; station = 5; sub_address = 12 }

abbrev pub served_by : ℕ → List Statement → Service
served_by l ss = record { spot = on_line 3; lam = l; cycles = 4; words = 0; registers = []; body = block_of ss }

abbrev pub both : Script
both = record {
  order = next_lam ∷ next_lam ∷ next_service ∷ next_service ∷ [];
  tables = [];
  lams = lam_at (codes "a") 1 ∷ lam_at (codes "b") 2 ∷ [];
  variables = [];
  procedures = [];
  services =
      served_by 0 (crate_call (on_line 4) crate_word.TestDemand (number 2) ∷ crate_call (on_line 4) crate_word.TestInhibit (number 1) ∷ []) ∷
      served_by 1 (crate_call (on_line 4) crate_word.TestDemand (number 2) ∷ crate_call (on_line 4) crate_word.TestInhibit (number 1) ∷ []) ∷
      [];
}

-- it is accepted, with 4 cycles each
is_accepted : accept plan both ≡ Ok (record { cycles = 4; words = 0; steps = 2 } ∷ record { cycles = 4; words = 0; steps = 2 } ∷ [])
unfolding go_on required if_reached
is_accepted = refl

abbrev pub of_both : List Source
of_both = source 3 4 None ∷ source 2 4 (Some 9) ∷ []

-- bit 2 comes while the service of bit 3 is in progress, and again during its own service
abbrev answers : List Answer
answers =
    demand 4 ∷ answer true false 0 0 0 ∷ answer true false 0 2 0 ∷
    demand 2 ∷ answer true false 0 0 0 ∷ answer true false 0 2 0 ∷
    demand 2 ∷ answer true false 0 0 0 ∷ []

abbrev after : ℕ → Stretch
after n = go (no_stretch None) (take n (pieces (the_run plan both answers)))
  where
    go : Stretch → List Piece → Stretch
    go x [] = x
    go x (p ∷ ps) = go (stretch_after of_both 2 x p) ps

response_of_2 : response of_both (source 2 4 (Some 9)) ≡ Some 4
unfolding most_rounds
response_of_2 = refl

-- an operation, two cycles and an event, and the next operation: it calls the service of bit 2, 4 cycles after the operation before
called_late : (after 5).elapsed ≡ 4
called_late = refl

called_first : (after 5).calls 1 ≡ 1
called_first = refl

-- its event comes 8 cycles after
ends_late : (after 8).elapsed ≡ 8
ends_late = refl

at_its_rate : (after 8).kept ≡ true
at_its_rate = refl

-- the second call is too early: rate 9 allows the second no sooner than 9 cycles after
called_again : (after 9).calls 1 ≡ 2
called_again = refl

too_early : (after 9).kept ≡ false
too_early = refl

abbrev pub first_answers : List Answer
first_answers =
    demand 4 ∷ answer true false 0 0 0 ∷ answer true false 0 2 0 ∷ demand 2 ∷ answer true false 0 0 0 ∷ answer true false 0 2 0 ∷ []

-- Runs in which services and modules do what the law of lines asks, and such in which a service does not.

-- the services of bits 3 and 2: each clears its own look-at-me, in crate 1, which has up to 2 waits, and in crate 2
abbrev each : Script
each = record {
  order = next_lam ∷ next_lam ∷ next_service ∷ next_service ∷ [];
  tables = [];
  lams = lam_at (codes "a") 1 ∷ lam_at (codes "b") 2 ∷ [];
  variables = [];
  procedures = [];
  services =
      served_by 0 (crate_call (on_line 4) crate_word.TestDemand (number 2) ∷ lam_call (on_line 4) lam_word.Clear 0 ∷ []) ∷
      served_by 1 (lam_call (on_line 4) lam_word.Clear 1 ∷ []) ∷
      [];
}

-- with this rate of bit 2
abbrev at_rate : ℕ → List Source
at_rate r = source 3 4 None ∷ source 2 1 (Some r) ∷ []

response_of_2_at_rate : response (at_rate 9) (source 2 1 (Some 9)) ≡ Some 4
unfolding most_rounds
response_of_2_at_rate = refl

-- Its E is 5: at a rate of 5 it has ended when its module calls again, at one of 4 it may not.
response_at_5 : response (at_rate 5) (source 2 1 (Some 5)) ≡ Some 4
unfolding most_rounds
response_at_5 = refl

response_at_4 : response (at_rate 4) (source 2 1 (Some 4)) ≡ Some 4
unfolding most_rounds
response_at_4 = refl

ends_at_5 : EndsByRate (at_rate 5) (source 2 1 (Some 5))
ends_at_5 = record { start = 4; rate = 5; found = response_at_5; given = refl; less = omega arith }

not_at_4 : EndsByRate (at_rate 4) (source 2 1 (Some 4)) → ⊥
not_at_4 h =
    let start : 4 ≡ h.start = same_Some 4 h.start (sym response_at_4 ∙ h.found) in
    let rate : 4 ≡ h.rate = same_Some 4 h.rate h.given in
    let less = h.less in
    omega (arith, start, rate, less)

abbrev no_others : Clears
no_others at f = false

abbrev any_mood : Moods
any_mood i n = true

-- what is known after so many pieces
abbrev page : List Answer → ℕ → Book
page given n = go first_page (take n (pieces (the_run plan each given)))
  where
    go : Book → List Piece → Book
    go x [] = x
    go x (p ∷ ps) = go (book_after (lams_of each) no_others x p) ps

abbrev wires : ℕ → Raises → Pauses → List Answer → ℕ → Wires
wires r raises pauses given n = go first_wires (take n (pieces (the_run plan each given)))
  where
    go : Wires → List Piece → Wires
    go x [] = x
    go x (p ∷ ps) = go (wires_after (at_rate r) (lams_of each) no_others any_mood raises pauses 2 x p) ps

-- up to bit 2 there is one service
of_one : (P : ℕ → Source → Type 0) (r i : ℕ) (t : Source) → slice_get (at_rate r) i ≡ Some t → is_up_to 2 t ≡ true → P 1 (source 2 1 (Some r)) → P i t
of_one P r zero t at up p = absurd (true≢false (sym up ∙ ap (is_up_to 2) (sym (same_Some (source 3 4 None) t at))))
of_one P r (suc zero) t at up p = subst (λ u. P 1 u) (same_Some (source 2 1 (Some r)) t at) p
of_one P r (suc (suc i)) t at up p = absurd (cc)

shown_one : (r : ℕ) (x : Book) → is_shown (lams_of each) x 1 ≡ true → NoneHidden (at_rate r) (lams_of each) 2 x
shown_one r x p i t at up = of_one (λ j u. is_shown (lams_of each) x j ≡ true) r i t at up p

clears_no_other : (r : ℕ) (x : Book) (at : Address) (f : ℕ) → ((x.called ≡ Some 1 → ⊥) → of_lam (λ lam. may_clear no_others lam at f) (lams_of each 1) ≡ false) → ClearsNoOther (at_rate r) (lams_of each) no_others 2 x at f
clears_no_other r x at f p i t it up = of_one (λ j u. (x.called ≡ Some j → ⊥) → of_lam (λ lam. may_clear no_others lam at f) (lams_of each j) ≡ false) r i t it up p

raises_after : (r : ℕ) (raises : Raises) (x : Wires) (at : Address) (f w : ℕ) → (x.book.called ≡ Some 1 → of_lam (λ lam. may_clear no_others lam at f) (lams_of each 1) ≡ true → x.clock.time + (1 + w) ≤ raises 1 (x.next 1))
    → RaisesAfter (at_rate r) (lams_of each) no_others raises 2 x at f w
raises_after r raises x at f w p i t it up early =
    of_one (λ j u. x.book.called ≡ Some j → of_lam (λ lam. may_clear no_others lam at f) (lams_of each j) ≡ true → x.clock.time + (1 + w) ≤ raises j (x.next j)) r i t it up p

shows_one : (r : ℕ) (raises : Raises) (d : ℕ) (x : Wires) (p : ℕ) → (raises 1 (x.cleared 1) < x.clock.time + d → IsSet p 2) → (IsSet p 2 → raises 1 (x.cleared 1) ≤ x.clock.time + d)
    → IsOfLams (at_rate r) (lams_of each) raises 2 x (paused d x.clock) p
shows_one r raises d x p up only = record {
  up = λ i t at up' shown. of_one (λ j u. raises j (x.cleared j) < x.clock.time + d → IsSet p u.bit) r i t at up' up;
  only = λ i t at up'. of_one (λ j u. IsSet p u.bit → raises j (x.cleared j) ≤ x.clock.time + d) r i t at up' only;
}

quiet_one : (r : ℕ) (raises : Raises) (d : ℕ) (x : Wires) → (1 ≤ d → x.clock.time + d ≤ raises 1 (x.cleared 1)) → IsQuiet (at_rate r) raises 2 x d (paused d x.clock)
quiet_one r raises d x quiet i t at up = of_one (λ j u. 1 ≤ d → x.clock.time + d ≤ raises j (x.cleared j)) r i t at up quiet

apart_one : (r : ℕ) (raises : Raises) → 1 ≤ r → ((k : ℕ) → raises 1 k + r ≤ raises 1 (k + 1)) → AreApart (at_rate r) 2 raises
apart_one r raises pos apart i t at up = of_one (λ j u. IsApart u.every (raises j)) r i t at up (pos, apart)

-- Both are raised at the start. That of bit 2 is seen at the second operation, 4 cycles later: it waits as long as its response.
abbrev raises : Raises
raises i k = k * 100

abbrev no_pause : Pauses
no_pause k = 0

abbrev answers_once : List Answer
answers_once = demand 4 ∷ answer true false 0 0 0 ∷ answer true false 0 2 0 ∷ demand 2 ∷ answer true false 0 0 0 ∷ []

waited : (wires 9 raises no_pause answers_once 4).clock.time ≡ 4
waited = refl

services_do : Holds (services_watch (at_rate 9) (lams_of each) no_others 2) first_page (the_run plan each answers_once)
services_do = (
  record { cleared = λ i t at up e. absurd (cc); shown = shown_one 9 (page answers_once 0) refl },
  (
    clears_no_other 9 (page answers_once 1) (address 2 30 11) 27 (λ not. refl),
    (
      clears_no_other 9 (page answers_once 2) (address 1 5 12) 10 (λ not. refl),
      (
        tt,
        (
          record { cleared = λ i t at up e. refl; shown = shown_one 9 (page answers_once 4) refl },
          (clears_no_other 9 (page answers_once 5) (address 2 5 12) 10 (λ not. absurd (not refl)), (tt, tt)),
        ),
      ),
    ),
  ),
)

modules_do : ModulesKeep (at_rate 9) (lams_of each) no_others any_mood raises no_pause 2 (the_run plan each answers_once)
modules_do = record {
  rates = record {
    every = apart_one 9 raises (omega arith) (λ k. omega arith);
    once = (λ t at up none. refl, (tt, (tt, (tt, (λ t at up none. refl, (tt, (tt, tt)))))));
  };
  again = (
    tt,
    (
      raises_after 9 raises (wires 9 raises no_pause answers_once 1) (address 2 30 11) 27 0 (λ e. absurd (cc)),
      (
        raises_after 9 raises (wires 9 raises no_pause answers_once 2) (address 1 5 12) 10 2 (λ e. absurd (cc)),
        (tt, (tt, (raises_after 9 raises (wires 9 raises no_pause answers_once 5) (address 2 5 12) 10 0 (λ e may. let h : 5 ≤ 100 = omega arith in h), (tt, tt)))),
      ),
    ),
  );
  shown = (
    shows_one 9 raises 0 (wires 9 raises no_pause answers_once 0) 4 (λ less. absurd (omega (arith, less))) (λ set. omega arith),
    (tt, (tt, (tt, (shows_one 9 raises 0 (wires 9 raises no_pause answers_once 4) 2 (λ less. refl) (λ set. let h : 0 ≤ 4 = omega arith in h), (tt, (tt, tt)))))),
  );
  alone = (
    quiet_one 9 raises 0 (wires 9 raises no_pause answers_once 0) (λ pause. absurd (omega (arith, pause))),
    (tt, (tt, (tt, (quiet_one 9 raises 0 (wires 9 raises no_pause answers_once 4) (λ pause. absurd (omega (arith, pause))), (tt, (tt, tt)))))),
  );
}

-- A live run without an operation that calls no service: the driver leaves the branch alone until the clock calls, every 1,000 cycles.
abbrev clock_raises : Raises
clock_raises i k = k * 1000

abbrev left_alone : Pauses
left_alone zero = 0
left_alone (suc zero) = 999
left_alone (suc (suc k)) = 0

abbrev clock_answers : List Answer
clock_answers = demand 2 ∷ answer true false 0 0 0 ∷ demand 2 ∷ answer true false 0 0 0 ∷ []

clock_calls : ModulesKeep (at_rate 1000) (lams_of each) no_others any_mood clock_raises left_alone 2 (the_run plan each clock_answers)
clock_calls = record {
  rates = record {
    every = apart_one 1000 clock_raises (omega arith) (λ k. omega arith);
    once = (λ t at up none. refl, (tt, (tt, (λ t at up none. refl, (tt, (tt, tt))))));
  };
  again = (
    tt,
    (
      raises_after 1000 clock_raises (wires 1000 clock_raises left_alone clock_answers 1) (address 2 5 12) 10 0 (λ e may. let h : 1 ≤ 1000 = omega arith in h),
      (
        tt,
        (tt, (raises_after 1000 clock_raises (wires 1000 clock_raises left_alone clock_answers 4) (address 2 5 12) 10 0 (λ e may. let h : 1001 ≤ 2000 = omega arith in h), (tt, tt))),
      ),
    ),
  );
  shown = (
    shows_one 1000 clock_raises 0 (wires 1000 clock_raises left_alone clock_answers 0) 2 (λ less. absurd (omega (arith, less))) (λ set. omega arith),
    (
      tt,
      (
        tt,
        (shows_one 1000 clock_raises 999 (wires 1000 clock_raises left_alone clock_answers 3) 2 (λ less. refl) (λ set. let h : 1000 ≤ 1000 = omega arith in h), (tt, (tt, tt))),
      ),
    ),
  );
  alone = (
    quiet_one 1000 clock_raises 0 (wires 1000 clock_raises left_alone clock_answers 0) (λ pause. absurd (omega (arith, pause))),
    (
      tt,
      (
        tt,
        (quiet_one 1000 clock_raises 999 (wires 1000 clock_raises left_alone clock_answers 3) (λ pause. let h : 1000 ≤ 1000 = omega arith in h), (tt, (tt, tt))),
      ),
    ),
  );
}

-- A service that does not clear its look-at-me does not do what is asked of it: seen at the operation after its call.
not_cleared : Holds (services_watch of_both (lams_of both) no_others 3) first_page (the_run plan both first_answers) → ⊥
not_cleared h = true≢false (sym (h.1.1.1.1.0.cleared 0 (source 3 4 None) refl refl refl))

-- Nor does one that sends Z into the crate of another one's.
abbrev with_z : Script
with_z = record each {
  services =
      served_by 0 (crate_call (on_line 4) crate_word.Initialise (number 2) ∷ lam_call (on_line 4) lam_word.Clear 0 ∷ []) ∷
      served_by 1 (lam_call (on_line 4) lam_word.Clear 1 ∷ []) ∷
      [];
}

cleared_by_z : Holds (services_watch (at_rate 9) (lams_of with_z) no_others 2) first_page (the_run plan with_z answers_once) → ⊥
cleared_by_z h = true≢false (h.1.0 1 (source 2 1 (Some 9)) refl refl (λ e. absurd (cc)))
