-- What is true of each allowed command.
use Rattle.std.proofs.Common.{◌≡◌, ℕ, ◌≤◌, Option, Some, None, option_map, option_and_then, unwrap_or, refl, ◌∙◌, arith, ◌<◌, ◌&&◌, Bool, true, false, nat_eq, nat_lt, List, [], ◌∷◌, cond, find, sym, ap, suc}
use Rattle.std.proofs.lemmas.Option.{same_Some}
use Rattle.std.specs.Option.{option_or}
use Rattle.camac_module.specs.Commands.{width as command_width}
use Rattle.camac_module.proofs.Entries.{width-known}
use Rattle.camac_crate.specs.Controller.{controller, ControllerCommand, controller_table}
use Rattle.camac_branch.specs.declared.plan.Crate.{Crate}
use Rattle.camac_branch.specs.declared.plan.Installed.{Installed}
use Rattle.camac_branch.specs.Address.{Address}
use Rattle.camac_branch.specs.Plan.{Layout, IsPlan, kind, crate_at, crate_waits, numbered, installed, station, declared_width}
use Rattle.camac_branch.specs.Allowed.{controller_width, allowed, width, IsCommand, AllowsCommands}
use Rattle.camac_branch.proofs.Numbered.{none_is_some, numbered-in_range}
use Rattle.std.specs.List.{list_all}
use Rattle.std.proofs.lemmas.Bool.{false≢true, leb-true, eqb-true}
use Rattle.camac_crate.specs.declared.command.ControllerOp.{ControllerOp}

-- The numbers of the controller's commands.

pub and_left : (a b : Bool) → (a && b) ≡ true → a ≡ true
and_left true b h = refl
and_left false b h = absurd (false≢true h)

pub and_right : (a b : Bool) → (a && b) ≡ true → b ≡ true
and_right true b h = h
and_right false b h = absurd (false≢true h)

found_step : {X : Type 0} (test all : X → Bool) (x y : X) (rest : Option X) (b : Bool) → test x ≡ b → all x ≡ true
    → (rest ≡ Some y → (test y ≡ true) × (all y ≡ true)) → cond b (Some x) rest ≡ Some y → (test y ≡ true) × (all y ≡ true)
found_step test all x y rest true is every later e = (ap test (sym (same_Some _ _ e)) ∙ is, ap all (sym (same_Some _ _ e)) ∙ every)
found_step test all x y rest false is every later e = later e

-- what is found passes the test, and what all pass
found : {X : Type 0} (test all : X → Bool) (xs : List X) (y : X) → list_all all xs ≡ true → find test xs ≡ Some y → (test y ≡ true) × (all y ≡ true)
found test all [] y every h = absurd (none_is_some y h)
found test all (x ∷ xs) y every h =
    found_step test all x y (find test xs) (test x) refl (and_left (all x) (list_all all xs) every) (found test all xs y (and_right (all x) (list_all all xs) every)) h

-- whether a command has numbers that there are
has_numbers : ControllerCommand → Bool
has_numbers c = nat_lt c.station 32 && (nat_lt c.sub_address 16 && nat_lt c.function 32)

all_have_numbers : list_all has_numbers controller_table ≡ true
unfolding has_numbers
all_have_numbers = refl

below : (m n : ℕ) → nat_lt m n ≡ true → m < n
below m n h = leb-true (suc m) n h

-- the command at these numbers, as the search sees it
is_at : ℕ → ℕ → ℕ → ControllerCommand → Bool
is_at n a f c = nat_eq c.station n && (nat_eq c.sub_address a && nat_eq c.function f)

numbers_of : (n a f : ℕ) (c : ControllerCommand) → is_at n a f c ≡ true → has_numbers c ≡ true → (n < 32) × (a < 16) × (f < 32)
unfolding is_at has_numbers
numbers_of n a f c at known =
    let rest = and_right (nat_eq c.station n) _ at in
    let others = and_right (nat_lt c.station 32) _ known in
    let station : c.station ≡ n = eqb-true c.station n (and_left _ _ at) in
    let sub_address : c.sub_address ≡ a = eqb-true c.sub_address a (and_left _ _ rest) in
    let function : c.function ≡ f = eqb-true c.function f (and_right (nat_eq c.sub_address a) _ rest) in (
      rw (← station) (below c.station 32 (and_left _ _ known)),
      rw (← sub_address) (below c.sub_address 16 (and_left _ _ others)),
      rw (← function) (below c.function 32 (and_right (nat_lt c.sub_address 16) _ others)),
    )

numbers_found : (n a f : ℕ) (op : ControllerOp) (o : Option ControllerCommand) → find (is_at n a f) controller_table ≡ o → option_map (λ c. c.op) o ≡ Some op
    → (n < 32) × (a < 16) × (f < 32)
numbers_found n a f op None at h = absurd (none_is_some op h)
numbers_found n a f op (Some c) at h =
    let both = found (is_at n a f) has_numbers controller_table c all_have_numbers at in
    numbers_of n a f c both.0 both.1

-- a controller command has numbers that there are
pub controller-numbers : (n a f : ℕ) (op : ControllerOp) → controller n a f ≡ Some op → (n < 32) × (a < 16) × (f < 32)
unfolding is_at
controller-numbers n a f op h = numbers_found n a f op (find (is_at n a f) controller_table) refl h

-- what a function answers of something
bound : {X Y : Type 0} (g : X → Option Y) (o : Option X) (y : Y) → option_and_then g o ≡ Some y → (x : X) × (o ≡ Some x) × (g x ≡ Some y)
bound g None y h = absurd (none_is_some y h)
bound g (Some x) y h = (x, refl, h)

mapped : {X Y : Type 0} (g : X → Y) (o : Option X) (y : Y) → option_map g o ≡ Some y → (x : X) × (o ≡ Some x) × (g x ≡ y)
mapped g None y h = absurd (none_is_some y h)
mapped g (Some x) y h = (x, refl, same_Some _ _ h)

module _ (plan : Layout) (is : IsPlan plan) where
  crate_in_range : (c : ℕ) (k : Crate) → crate_at plan c ≡ Some k → (1 ≤ c) × (c ≤ 7)
  crate_in_range c k h = let range = numbered-in_range plan.crates c k h in (range.0, omega (arith, range.1, is.crate_places))

  -- a station with a module is one of those that there are
  pub installed-in_range : (c n : ℕ) (s : Installed) → installed plan c n ≡ Some s → (1 ≤ c) × (c ≤ 7) × (1 ≤ n) × (n ≤ 23)
  installed-in_range c n s h =
      let (k, in_crate, at) = bound (λ k. numbered k.stations n) (crate_at plan c) s h in
      let crates = crate_in_range c k in_crate in
      let stations = numbered-in_range k.stations n s at in
      let places = is.station_places c k in_crate in
      (crates.0, crates.1, stations.0, omega (arith, stations.1, places))

  pub declared-is_command : (at : Address) (f w : ℕ) → declared_width plan at.crate_no at.station at.sub_address f ≡ Some w → IsCommand at f w
  declared-is_command at f w h =
      let (t, typed, declared) = bound (λ t. command_width (kind plan t).commands f at.sub_address) (station plan at.crate_no at.station) w h in
      let (s, there, _) = mapped (λ s. s.type_no) (installed plan at.crate_no at.station) t typed in
      let place = installed-in_range at.crate_no at.station s there in
      let known = width-known (kind plan t).commands (is.known_commands t) f at.sub_address w declared in
      record {
        crate_from_1 = place.0;
        crate_to_7 = place.1;
        station = omega (arith, place.3);
        sub_address = known.1;
        function_to_31 = known.0;
        width_from_1 = known.2;
        width_to_24 = known.3;
      }

  pub controller-is_command : (at : Address) (f w : ℕ) → controller_width plan at f ≡ Some w → IsCommand at f w
  controller-is_command at f w h =
      let (waits, in_plan, rest) = bound (λ _. option_map (λ _. 24) (controller at.station at.sub_address f)) (crate_waits plan at.crate_no) w h in
      let (op, found, whole) = mapped (λ _. 24) (controller at.station at.sub_address f) w rest in
      let (k, in_crate, _) = mapped (λ k. k.waits) (crate_at plan at.crate_no) waits in_plan in
      let crates = crate_in_range at.crate_no k in_crate in
      let numbers = controller-numbers at.station at.sub_address f op found in
      record {
        crate_from_1 = crates.0;
        crate_to_7 = crates.1;
        station = numbers.0;
        sub_address = numbers.1;
        function_to_31 = numbers.2;
        width_from_1 = omega (arith, whole);
        width_to_24 = omega (arith, whole);
      }

  allowed_of : (at : Address) (f w : ℕ) (o : Option ℕ) → declared_width plan at.crate_no at.station at.sub_address f ≡ o → option_or o (controller_width plan at f) ≡ Some w → IsCommand at f w
  allowed_of at f w None declared h = controller-is_command at f w h
  allowed_of at f w (Some v) declared h = declared-is_command at f w (declared ∙ h)

  -- an allowed command has numbers that there are, and 1 to 24 bits
  pub allows_commands : AllowsCommands plan
  allows_commands at f w h = allowed_of at f w (declared_width plan at.crate_no at.station at.sub_address f) refl h

  pub allowed-in_range : (at : Address) (f w : ℕ) → allowed plan at f ≡ Some w → (1 ≤ w) × (w ≤ 24)
  allowed-in_range at f w h = let known = allows_commands at f w h in (known.width_from_1, known.width_to_24)

  width_of : (at : Address) (f : ℕ) (o : Option ℕ) → allowed plan at f ≡ o → (1 ≤ unwrap_or o 24) × (unwrap_or o 24 ≤ 24)
  width_of at f None h = (omega arith, omega arith)
  width_of at f (Some w) h = allowed-in_range at f w h

  -- the width of any command
  pub width-in_range : (at : Address) (f : ℕ) → (1 ≤ width plan at f) × (width plan at f ≤ 24)
  width-in_range at f = width_of at f (allowed plan at f) refl
