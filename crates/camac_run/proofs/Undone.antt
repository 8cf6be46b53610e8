-- What sets the crates back does so, and may be made.
use Rattle.std.proofs.Common.{◌≡◌, ◌∙◌, ℕ, zero, suc, ◌+◌, ◌-◌, ◌<◌, ◌≤◌, List, [], ◌∷◌, ◌++◌, map, Bool, true, false, Option, Some, None, refl, sym, ap, subst, arith, inl, inr, add-one, append_assoc}
use Rattle.std.proofs.lemmas.Bool.{cases_eq, eq-eqb, ne_eqb, false≢true}
use Rattle.std.proofs.lemmas.List.{map-append}
use Rattle.std.proofs.lemmas.List.Elements.{All-append, All-cons}
use Rattle.std.specs.Prelude.{◌⊎◌, ◌≢◌, IsSome, is_some, nat_eq, if◌then◌else◌, option_and_then}
use Rattle.std.specs.List.{All}
use Rattle.std.specs.Option.{option_or}
use Rattle.camac_crate.specs.declared.command.ControllerOp.{ControllerOp}
use Rattle.camac_crate.specs.declared.command.ControllerOp.TheVariants as op
use Rattle.camac_crate.specs.State.{CrateBits, effect}
use Rattle.camac_lang.specs.declared.word.CrateCall.{CrateCall}
use Rattle.camac_lang.specs.declared.word.CrateCall.TheVariants.{InhibitOn, InhibitOff, DemandOn, DemandOff}
use Rattle.camac_func.specs.Class.{class_of, fits}
use Rattle.camac_func.specs.declared.data.DataMove.TheVariants as moves
use Rattle.camac_branch.specs.Address.{Address}
use Rattle.camac_branch.specs.Allowed.{allowed, controller_width}
use Rattle.camac_branch.specs.Branch.{Branch, CrateNow, effect_in}
use Rattle.camac_branch.specs.Plan.{Layout, crate_waits, declared_width}
use Rattle.camac_branch.specs.declared.answer.Command.{Command}
use Rattle.camac_esone.specs.Calls.{crate_address, crate_function}
use Rattle.camac_machine.specs.Rest.{address_of}
use Rattle.camac_model.specs.Safe.{IsSafe}
use Rattle.camac_run.specs.Back.{SettingBackHolds, after_all, back_at, back_from, call_in, commands_in, to_set}
use Rattle.camac_run.specs.declared.progress.Wanted.{Wanted}
use Rattle.camac_run.specs.declared.progress.Wanted.TheVariants.{Cycle}

after_append : (xs ys : List Command) (b : Branch) → after_all (xs ++ ys) b ≡ after_all ys (after_all xs b)
after_append [] ys b = refl
after_append (k ∷ xs) ys b = after_append xs ys _

-- a controller command changes the bits of its crate alone
here : (c : ℕ) (o : ControllerOp) (b : Branch) → effect_in c (Some o) b c ≡ record (b c) { bits = effect o (b c).bits }
here c o b = ap (λ t. if t then record (b c) { bits = effect o (b c).bits } else b c) (eq-eqb c c refl)

elsewhere : (c d : ℕ) (o : ControllerOp) (b : Branch) → nat_eq d c ≡ false → effect_in c (Some o) b d ≡ b d
elsewhere c d o b e = ap (λ t. if t then record (b c) { bits = effect o (b c).bits } else b d) e

inhibit_here : (c : ℕ) (b : Branch) (now was : Bool) → (b c).bits.inhibit ≡ now
    → after_all (map (call_in c) (to_set now was InhibitOn InhibitOff)) b c ≡ record (b c) { bits = record ((b c).bits) { inhibit = was } }
inhibit_here c b true true e = ap (λ i. record (b c) { bits = record ((b c).bits) { inhibit = i } }) e
inhibit_here c b true false e = here c op.InhibitOff b
inhibit_here c b false true e = here c op.InhibitOn b
inhibit_here c b false false e = ap (λ i. record (b c) { bits = record ((b c).bits) { inhibit = i } }) e

demand_here : (c : ℕ) (b : Branch) (now was : Bool) → (b c).bits.demand ≡ now
    → after_all (map (call_in c) (to_set now was DemandOn DemandOff)) b c ≡ record (b c) { bits = record ((b c).bits) { demand = was } }
demand_here c b true true e = ap (λ i. record (b c) { bits = record ((b c).bits) { demand = i } }) e
demand_here c b true false e = here c op.DemandOff b
demand_here c b false true e = here c op.DemandOn b
demand_here c b false false e = ap (λ i. record (b c) { bits = record ((b c).bits) { demand = i } }) e

inhibit_elsewhere : (c d : ℕ) (b : Branch) (now was : Bool) → nat_eq d c ≡ false → after_all (map (call_in c) (to_set now was InhibitOn InhibitOff)) b d ≡ b d
inhibit_elsewhere c d b true true e = refl
inhibit_elsewhere c d b true false e = elsewhere c d op.InhibitOff b e
inhibit_elsewhere c d b false true e = elsewhere c d op.InhibitOn b e
inhibit_elsewhere c d b false false e = refl

demand_elsewhere : (c d : ℕ) (b : Branch) (now was : Bool) → nat_eq d c ≡ false → after_all (map (call_in c) (to_set now was DemandOn DemandOff)) b d ≡ b d
demand_elsewhere c d b true true e = refl
demand_elsewhere c d b true false e = elsewhere c d op.DemandOff b e
demand_elsewhere c d b false true e = elsewhere c d op.DemandOn b e
demand_elsewhere c d b false false e = refl

-- both bits of a crate
module _ (c : ℕ) (now was : CrateBits) (b : Branch) where
  abbrev inhibits : List Command
  inhibits = map (call_in c) (to_set now.inhibit was.inhibit InhibitOn InhibitOff)

  abbrev demands : List Command
  demands = map (call_in c) (to_set now.demand was.demand DemandOn DemandOff)

  in_two : after_all (commands_in c now was) b ≡ after_all demands (after_all inhibits b)
  in_two =
      ap (λ ks. after_all ks b) (map-append (call_in c) (to_set now.inhibit was.inhibit InhibitOn InhibitOff) (to_set now.demand was.demand DemandOn DemandOff))
      ∙ after_append inhibits demands b

  crate_here : (b c).bits ≡ now → after_all (commands_in c now was) b c ≡ record (b c) { bits = was }
  crate_here e =
      let first = inhibit_here c b now.inhibit was.inhibit (ap (λ k. k.inhibit) e) in
      let same : (after_all inhibits b c).bits.demand ≡ now.demand = ap (λ (k : CrateNow). k.bits.demand) first ∙ ap (λ k. k.demand) e in
      ap (λ (f : Branch). f c) in_two
      ∙ demand_here c (after_all inhibits b) now.demand was.demand same
      ∙ ap (λ (k : CrateNow). record k { bits = record (k.bits) { demand = was.demand } }) first

  crate_elsewhere : (d : ℕ) → nat_eq d c ≡ false → after_all (commands_in c now was) b d ≡ b d
  crate_elsewhere d e =
      ap (λ (f : Branch). f d) in_two
      ∙ demand_elsewhere c d (after_all inhibits b) now.demand was.demand e
      ∙ inhibit_elsewhere c d b now.inhibit was.inhibit e

module _ (plan : Layout) (now was : Branch) where
  at_elsewhere : (c d : ℕ) (b : Branch) (p : Bool) → nat_eq d c ≡ false → after_all (if p then commands_in c (now c).bits (was c).bits else []) b d ≡ b d
  at_elsewhere c d b true e = crate_elsewhere c (now c).bits (was c).bits b d e
  at_elsewhere c d b false e = refl

  at_here : (c : ℕ) (b : Branch) (p : Bool) → p ≡ true → b c ≡ now c → after_all (if p then commands_in c (now c).bits (was c).bits else []) b c ≡ record (now c) { bits = (was c).bits }
  at_here c b true planned e =
      crate_here c (now c).bits (was c).bits b (ap (λ (k : CrateNow). k.bits) e) ∙ ap (λ (k : CrateNow). record k { bits = (was c).bits }) e
  at_here c b false planned e = absurd (false≢true planned)

  first_of : (n c d : ℕ) (b : Branch) → after_all (back_from plan now was (suc n) c) b d ≡ after_all (back_from plan now was n (suc c)) (after_all (back_at plan now was c) b) d
  first_of n c d b = ap (λ (f : Branch). f d) (after_append (back_at plan now was c) (back_from plan now was n (suc c)) b)

  before : (n c d : ℕ) (b : Branch) → d < c → after_all (back_from plan now was n c) b d ≡ b d
  before zero c d b less = refl
  before (suc n) c d b less =
      first_of n c d b
      ∙ before n (suc c) d (after_all (back_at plan now was c) b) (omega (arith, less))
      ∙ at_elsewhere c d b (is_some (crate_waits plan c)) (ne_eqb d c (omega (arith, less)))

  abbrev IsBack : (n c d : ℕ) → Branch → Type 0
  IsBack n c d b = after_all (back_from plan now was n c) b d ≡ record (now d) { bits = (was d).bits }

  step : (n c d : ℕ) (b : Branch) → IsSome (crate_waits plan d) → b d ≡ now d → (c ≢ d → after_all (back_at plan now was c) b d ≡ b d → IsBack n (suc c) d (after_all (back_at plan now was c) b)) → (d ≡ c) ⊎ (d ≢ c) → IsBack (suc n) c d b
  step n c d b planned e later (inl same) =
      subst (λ (k : ℕ). IsBack (suc n) k d b) same
      (first_of n d d b ∙ before n (suc d) d (after_all (back_at plan now was d) b) (omega arith) ∙ at_here d b (is_some (crate_waits plan d)) planned e)
  step n c d b planned e later (inr other) =
      first_of n c d b ∙ later (λ s. other (sym s)) (at_elsewhere c d b (is_some (crate_waits plan c)) (ne_eqb d c other))

  within : (n c d : ℕ) (b : Branch) → c ≤ d → d < c + n → IsSome (crate_waits plan d) → b d ≡ now d → IsBack n c d b
  within zero c d b from to planned e = absurd (omega (arith, from, to))
  within (suc n) c d b from to planned e =
      step n c d b planned e (λ other same. within n (suc c) d (after_all (back_at plan now was c) b) (omega (arith, from, other)) (omega (arith, to)) planned (same ∙ e)) (cases_eq d c)

  -- one crate more
  pub next : (c : ℕ) (old new : List Wanted) → c < 8 → new ≡ old ++ map Cycle (back_at plan now was c)
      → new ++ map Cycle (back_from plan now was (8 - (c + 1)) (c + 1)) ≡ old ++ map Cycle (back_from plan now was (8 - c) c)
  next c old new less e =
      let rest = back_from plan now was (8 - (c + 1)) (suc c) in
      let left : 8 - c ≡ suc (8 - (c + 1)) = omega (arith, less) in
      ap (λ (l : List Wanted). l ++ map Cycle (back_from plan now was (8 - (c + 1)) (c + 1))) e
      ∙ ap (λ (k : ℕ). (old ++ map Cycle (back_at plan now was c)) ++ map Cycle (back_from plan now was (8 - (c + 1)) k)) (add-one c)
      ∙ append_assoc old (map Cycle (back_at plan now was c)) (map Cycle rest)
      ∙ ap (λ (l : List Wanted). old ++ l) (sym (map-append Cycle (back_at plan now was c) rest))
      ∙ ap (λ (k : ℕ). old ++ map Cycle (back_from plan now was k c)) (sym left)

-- ---- they may be made

own : (o : Option ℕ) → IsSome o → option_and_then {U = ℕ} (λ _. Some 24) o ≡ Some 24
own None none = absurd (false≢true none)
own (Some w) some = refl

module _ (plan : Layout) where
  abbrev May : Command → Type 0
  May k = IsSafe plan (address_of k) k.f k.mv

  nothing : All May []
  nothing = λ k d less. absurd (omega (arith, less))

  may : (at : Address) (f : ℕ) (o : Option ℕ) → declared_width plan at.crate_no at.station at.sub_address f ≡ o → controller_width plan at f ≡ Some 24
      → (w : ℕ) × (allowed plan at f ≡ Some w)
  may at f (Some w) e ours = (w, ap (λ (x : Option ℕ). option_or x (controller_width plan at f)) e)
  may at f None e ours = (24, ap (λ (x : Option ℕ). option_or x (controller_width plan at f)) e ∙ ours)

  module _ (c : ℕ) where
    call_may : (call : CrateCall) → controller_width plan (crate_address call c) (crate_function call) ≡ Some 24 → fits (class_of (crate_function call)) moves.None ≡ true → May (call_in c call)
    call_may call ours class =
        let at = crate_address call c in
        let its = may at (crate_function call) (declared_width plan at.crate_no at.station at.sub_address (crate_function call)) refl ours in
        record { width = its.0; is_allowed = its.1; is_of_class = class; fits_width = tt }

    set_may : (now was : Bool) (on off : CrateCall) → May (call_in c on) → May (call_in c off) → All May (map (call_in c) (to_set now was on off))
    set_may true true on off set remove = nothing
    set_may true false on off set remove = All-cons May (call_in c off) [] remove nothing
    set_may false true on off set remove = All-cons May (call_in c on) [] set nothing
    set_may false false on off set remove = nothing

    crate_may : IsSome (crate_waits plan c) → (now was : CrateBits) → All May (commands_in c now was)
    crate_may planned now was =
        let ours = own (crate_waits plan c) planned in
        let inhibits = to_set now.inhibit was.inhibit InhibitOn InhibitOff in
        let demands = to_set now.demand was.demand DemandOn DemandOff in
        subst (All May) (sym (map-append (call_in c) inhibits demands))
        (All-append May (map (call_in c) inhibits) (map (call_in c) demands)
        (set_may now.inhibit was.inhibit InhibitOn InhibitOff (call_may InhibitOn ours refl) (call_may InhibitOff ours refl))
        (set_may now.demand was.demand DemandOn DemandOff (call_may DemandOn ours refl) (call_may DemandOff ours refl)))

  module _ (now was : Branch) where
    at_may : (c : ℕ) (p : Bool) → is_some (crate_waits plan c) ≡ p → All May (if p then commands_in c (now c).bits (was c).bits else [])
    at_may c true planned = crate_may c planned (now c).bits (was c).bits
    at_may c false none = nothing

    all_may : (n c : ℕ) → All May (back_from plan now was n c)
    all_may zero c = nothing
    all_may (suc n) c =
        All-append May (back_at plan now was c) (back_from plan now was n (suc c)) (at_may c (is_some (crate_waits plan c)) refl) (all_may n (suc c))

pub setting_back_holds : SettingBackHolds
setting_back_holds plan now was = (λ c from to planned. within plan now was 7 1 c now from (omega (arith, to)) planned refl, all_may plan now was 7 1)
