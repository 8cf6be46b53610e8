-- Where a value stands twice in a plan, the first table that has it is shown.
use Rattle.std.proofs.Common.{◌≡◌, ℕ, zero, suc, ◌+◌, ◌-◌, ◌<◌, ◌≤◌, Bool, true, false, List, [], ◌∷◌, ◌++◌, Option, Some, None, Result, Ok, Err, length, is_some, refl, sym, ap, ◌∙◌, subst, arith, inl, inr, ⊎_elim, length-append}
use Rattle.std.specs.Prelude.{◌&&◌, not, nat_eq, nat_le, nat_lt, pos, negsuc, unwrap_or, if◌then◌else◌}
use Rattle.std.specs.List.{list_any, range_with_len}
use Rattle.std.specs.Cmp.Lexicographic.{bytes_decides}
use Rattle.std.proofs.lemmas.Bool.{and_parts, cases_eq, eqb-true, eq-eqb, leb-true, false≢true}
use Rattle.toml.specs.Data.{Data, string, integer, float, boolean, datetime, table, array, Items, no_items, item, get_item, Members}
use Rattle.camac_module.specs.Commands.{Commands, none_declared, entry}
use Rattle.camac_branch.specs.Name.{same_text, is_type_name}
use Rattle.camac_branch.specs.declared.plan.Installed.{Installed}
use Rattle.camac_branch.specs.declared.plan.Kind.{Kind}
use Rattle.camac_branch.specs.Plan.{Layout, crate_at, installed, type_named, number_of_name, numbered, crate_has_bit, uses_bit, is_some_and, is_some_eq, with_crate, with_installed, no_crates}
use Rattle.camac_branch.proofs.Numbered.{nothing_numbered}
use Rattle.camac_plan.specs.declared.key.PlanKey.{PlanKey}
use Rattle.camac_plan.specs.declared.key.PlanKey.TheVariants as key
use Rattle.camac_plan.specs.declared.command.CommandLine.{CommandLine}
use Rattle.camac_plan.specs.declared.fault.PlanTable.{PlanTable}
use Rattle.camac_plan.specs.declared.fault.PlanTable.TheVariants.{Top, ModuleType, Command, Crate, Station}
use Rattle.camac_plan.specs.declared.fault.ValueKind.TheVariants as kind
use Rattle.camac_plan.specs.declared.fault.PlanCase.{PlanCase}
use Rattle.camac_plan.specs.declared.fault.PlanCase.TheVariants as case
use Rattle.camac_plan.specs.declared.fault.BrokenRule.{BrokenRule}
use Rattle.camac_plan.specs.declared.fault.PlanRule.TheVariants.{OutOfRange}
use Rattle.camac_plan.specs.Broken.{broken, next}
use Rattle.camac_plan.specs.Key.{keys_of}
use Rattle.camac_plan.specs.Field.{first_unknown, none_unknown, has_only, value_at, required, optional, some, number_in, flag_in, text_in, are_tables, tables_in, tables_or_none, is_number, has_number, first_with}
use Rattle.camac_plan.specs.Commands.{TypeCommands, command_of, with_places, with_commands}
use Rattle.camac_plan.specs.Types.{TypeLine, next_type, type_of, with_type_line, with_types}
use Rattle.camac_plan.specs.Crates.{StationLine, station_of, array_in, stations_in, first_with_bit, with_type_found, with_station, with_stations, CrateLine, crate_of, with_crate_line, with_crates}
use Rattle.camac_plan.specs.Reading.{empty_plan, plan_of}
use Rattle.camac_plan.specs.Twice.{items_at, is_name, has_name, HasAt, IsFirstOf, HasStation, IsEarlier, TwiceShown, TwiceAreShown}
use Rattle.camac_plan.proofs.Firsts.{first_of, first_bit, crate_added, bit_of_added, nothing_in_added, same_crates, station_added, bit_added}

-- ---- what the keys of a table hold

abbrev Before : (Data → Bool) → Items → ℕ → Type 0
Before test items n = (i : ℕ) × (i < n) × HasAt test items i

-- these are the items from n on
abbrev AreRest : Items → ℕ → Items → Type 0
AreRest items n rest = (i : ℕ) → get_item i rest ≡ get_item (n + i) items

first_is : (items : Items) (n : ℕ) (d : Data) (rest : Items) → AreRest items n (item d rest) → get_item n items ≡ Some d
first_is items n d rest h = let same : n + 0 ≡ n = omega arith in sym (ap (λ m. get_item m items) same) ∙ sym (h 0)

others_are : (items : Items) (n : ℕ) (d : Data) (rest : Items) → AreRest items n (item d rest) → AreRest items (n + 1) rest
others_are items n d rest h i = let same : n + suc i ≡ n + 1 + i = omega arith in h (suc i) ∙ ap (λ m. get_item m items) same

abbrev IsMaybe : Option Data → Option ℕ → Type 0
IsMaybe o None = Unit {0}
IsMaybe o (Some n) = is_number n o ≡ true

-- a key of a number, which has to be there
abbrev IsNumber : ℕ → Option Data → ℕ → Type 0
IsNumber low o n = (is_number n o ≡ true) × (low ≤ n)

record IsStation (t : Members) (s : StationLine) : Type 0 where
  number : IsNumber 1 (value_at key.N t) s.n
  bit : IsMaybe (value_at key.Gl t) s.gl

record IsCrate (place : ℕ) (t : Members) (k : CrateLine) : Type 0 where
  at : k.place ≡ place
  number : IsNumber 1 (value_at key.Number t) k.number
  stations : k.stations ≡ stations_in (table t)

module _ (types crates : Items) where
  -- what a case shows
  abbrev Shown : PlanCase → Type 0
  Shown (case.Twice at in_key first) = TwiceShown types crates at in_key first
  Shown c = Unit {0}

  abbrev Goes : {A : Type 0} → Result A BrokenRule → (A → Type 0) → Type 0
  Goes (Ok x) Q = Q x
  Goes (Err e) Q = Shown e.case

  -- Q holds of what is read; a record, so that its arguments are found
  record ReadsOrShows {A : Type 0} (r : Result A BrokenRule) (Q : A → Type 0) : Type 0 where
    goes : Goes r Q

  reads : {A : Type 0} {x : A} {Q : A → Type 0} → Q x → ReadsOrShows (Ok x) Q
  reads h = record { goes = h }

  shows : {A : Type 0} {e : BrokenRule} {Q : A → Type 0} → Shown e.case → ReadsOrShows (Err e) Q
  shows h = record { goes = h }

  then_tells : {A B : Type 0} {r : Result A BrokenRule} {f : A → Result B BrokenRule} {P : A → Type 0} {Q : B → Type 0} → ReadsOrShows r P → ((x : A) → P x → ReadsOrShows (f x) Q) → ReadsOrShows (next r f) Q
  then_tells {r = Ok x} h k = k x h.goes
  then_tells {r = Err e} h k = record { goes = h.goes }

  if_tells : {A : Type 0} (b : Bool) {r s : Result A BrokenRule} {Q : A → Type 0} → (b ≡ true → ReadsOrShows r Q) → (b ≡ false → ReadsOrShows s Q) → ReadsOrShows (if b then r else s) Q
  if_tells true h k = h refl
  if_tells false h k = k refl

  abbrev Any : {A : Type 0} → A → Type 0
  Any x = Unit {0}

  anyway : {A : Type 0} {r : Result A BrokenRule} {P : A → Type 0} → ReadsOrShows r P → ReadsOrShows r Any
  anyway {r = Ok x} h = record { goes = tt }
  anyway {r = Err e} h = record { goes = h.goes }

  only_tells : (at : PlanTable) (ms : Members) → ReadsOrShows (has_only at ms) Any
  only_tells at ms = go (first_unknown (keys_of at) 0 ms)
    where
      go : (o : Option ℕ) → ReadsOrShows (none_unknown at o) Any
      go None = reads tt
      go (Some n) = shows tt

  needed : (at : PlanTable) (k : PlanKey) (low high : ℕ) (o : Option Data) → ReadsOrShows (next (optional (number_in at k low high) o) (required at k (kind.Number low high))) (IsNumber low o)
  needed at k low high None = shows tt
  needed at k low high (Some (integer (pos n))) = inside (nat_le low n && nat_le n high) refl
    where
      inside : (b : Bool) → (nat_le low n && nat_le n high) ≡ b
          → ReadsOrShows (next (next (if b then Ok n else Err (broken OutOfRange (case.Range at k (pos n) low high))) some) (required at k (kind.Number low high))) (IsNumber low (Some (integer (pos n))))
      inside true e = reads (eq-eqb n n refl, leb-true low n (and_parts (nat_le low n) (nat_le n high) e).0)
      inside false e = shows tt
  needed at k low high (Some (integer (negsuc n))) = shows tt
  needed at k low high (Some (string s)) = shows tt
  needed at k low high (Some (float x)) = shows tt
  needed at k low high (Some (boolean b)) = shows tt
  needed at k low high (Some (datetime t)) = shows tt
  needed at k low high (Some (array ds)) = shows tt
  needed at k low high (Some (table ts)) = shows tt

  number_tells : (at : PlanTable) (k : PlanKey) (low high : ℕ) (o : Option Data) → ReadsOrShows (optional (number_in at k low high) o) (IsMaybe o)
  number_tells at k low high None = reads tt
  number_tells at k low high (Some (integer (pos n))) = inside (nat_le low n && nat_le n high)
    where
      inside : (b : Bool) → ReadsOrShows (next (if b then Ok n else Err (broken OutOfRange (case.Range at k (pos n) low high))) some) (IsMaybe (Some (integer (pos n))))
      inside true = reads (eq-eqb n n refl)
      inside false = shows tt
  number_tells at k low high (Some (integer (negsuc n))) = shows tt
  number_tells at k low high (Some (string s)) = shows tt
  number_tells at k low high (Some (float x)) = shows tt
  number_tells at k low high (Some (boolean b)) = shows tt
  number_tells at k low high (Some (datetime t)) = shows tt
  number_tells at k low high (Some (array ds)) = shows tt
  number_tells at k low high (Some (table ts)) = shows tt

  flag_tells : (at : PlanTable) (k : PlanKey) (o : Option Data) → ReadsOrShows (optional (flag_in at k) o) Any
  flag_tells at k None = reads tt
  flag_tells at k (Some (integer n)) = shows tt
  flag_tells at k (Some (string s)) = shows tt
  flag_tells at k (Some (float x)) = shows tt
  flag_tells at k (Some (boolean b)) = reads tt
  flag_tells at k (Some (datetime t)) = shows tt
  flag_tells at k (Some (array ds)) = shows tt
  flag_tells at k (Some (table ts)) = shows tt

  text_tells : (at : PlanTable) (k : PlanKey) (o : Option Data) → ReadsOrShows (next (required at k kind.Text o) (text_in at k)) (λ s. o ≡ Some (string s))
  text_tells at k None = shows tt
  text_tells at k (Some (integer n)) = shows tt
  text_tells at k (Some (string s)) = reads refl
  text_tells at k (Some (float x)) = shows tt
  text_tells at k (Some (boolean b)) = shows tt
  text_tells at k (Some (datetime t)) = shows tt
  text_tells at k (Some (array ds)) = shows tt
  text_tells at k (Some (table ts)) = shows tt

  tables_tells : (at : PlanTable) (k : PlanKey) (o : Option Data) → ReadsOrShows (tables_or_none at k o) (λ items. items ≡ array_in o)
  tables_tells at k None = reads refl
  tables_tells at k (Some (integer n)) = shows tt
  tables_tells at k (Some (string s)) = shows tt
  tables_tells at k (Some (float x)) = shows tt
  tables_tells at k (Some (boolean b)) = shows tt
  tables_tells at k (Some (datetime t)) = shows tt
  tables_tells at k (Some (array ds)) = if_tells (are_tables ds) (λ e. reads refl) (λ e. shows tt)
  tables_tells at k (Some (table ts)) = shows tt

  some_tables : (at : PlanTable) (k : PlanKey) (o : Option Data) → ReadsOrShows (next (required at k kind.Tables o) (tables_in at k)) Any
  some_tables at k None = shows tt
  some_tables at k (Some d) = anyway (tables_tells at k (Some d))

  station_tells : (at : PlanTable) (t : Members) → ReadsOrShows (station_of at t) (IsStation t)
  station_tells at t =
      then_tells (only_tells at t) (λ u v.
      then_tells (needed at key.N 1 23 (value_at key.N t)) (λ n number.
      then_tells (text_tells at key.TypeName (value_at key.TypeName t)) (λ name text.
      then_tells (number_tells at key.Gl 1 24 (value_at key.Gl t)) (λ gl bit.
      reads (record { number = number; bit = bit })))))

  crate_tells : (place : ℕ) (t : Members) → ReadsOrShows (crate_of place t) (IsCrate place t)
  crate_tells place t =
      then_tells (only_tells (Crate place) t) (λ u v.
      then_tells (needed (Crate place) key.Number 1 7 (value_at key.Number t)) (λ n number.
      then_tells (number_tells (Crate place) key.Waits 0 15 (value_at key.Waits t)) (λ waits w.
      then_tells (tables_tells (Crate place) key.Stations (value_at key.Stations t)) (λ stations same.
      reads (record { at = refl; number = number; stations = same })))))

  -- ---- types

  abbrev AreNamed : ℕ → List Kind → Type 0
  AreNamed i [] = Unit {0}
  AreNamed i (k ∷ ks) = HasAt (has_name k.name) types i × AreNamed (i + 1) ks

  one_more : (i : ℕ) (ks : List Kind) (k : Kind) → AreNamed i ks → HasAt (has_name k.name) types (i + length ks) → AreNamed i (ks ++ k ∷ [])
  one_more i [] k h has = (let same : i + 0 ≡ i = omega arith in subst (HasAt (has_name k.name) types) same has, tt)
  one_more i (x ∷ ks) k h has =
      (h.0, one_more (i + 1) ks k h.1 (let same : i + suc (length ks) ≡ i + 1 + length ks = omega arith in subst (HasAt (has_name k.name) types) same has))

  -- a table has one name
  one_name : (a b : List ℕ) (i : ℕ) → HasAt (has_name a) types i → HasAt (has_name b) types i → a ≡ b
  one_name a b i x y = by_data x.0 x.2 (subst (λ d. has_name b d ≡ true) (let e = sym x.1 ∙ y.1 in let same : y.0 ≡ x.0 = cc in same) y.2)
    where
      by_value : (o : Option Data) → is_name a o ≡ true → is_name b o ≡ true → a ≡ b
      by_value None p q = absurd (false≢true p)
      by_value (Some (integer n)) p q = absurd (false≢true p)
      by_value (Some (string s)) p q = sym ((bytes_decides s a).0 p) ∙ (bytes_decides s b).0 q
      by_value (Some (float x)) p q = absurd (false≢true p)
      by_value (Some (boolean t)) p q = absurd (false≢true p)
      by_value (Some (datetime t)) p q = absurd (false≢true p)
      by_value (Some (array ds)) p q = absurd (false≢true p)
      by_value (Some (table ts)) p q = absurd (false≢true p)

      by_data : (d : Data) → has_name a d ≡ true → has_name b d ≡ true → a ≡ b
      by_data (integer n) p q = absurd (false≢true p)
      by_data (string s) p q = absurd (false≢true p)
      by_data (float x) p q = absurd (false≢true p)
      by_data (boolean t) p q = absurd (false≢true p)
      by_data (datetime t) p q = absurd (false≢true p)
      by_data (array ds) p q = absurd (false≢true p)
      by_data (table ts) p q = by_value (value_at key.Name ts) p q

  -- the first type of a name is that of the first table that has it
  record IsNamedFirst (name : List ℕ) (i : ℕ) (ks : List Kind) (m : ℕ) : Type 0 where
    has : HasAt (has_name name) types m
    below : m < i + length ks
    earlier : (h : ℕ) → i ≤ h → h < m → HasAt (has_name name) types h → ⊥

  named_first : (name : List ℕ) (i : ℕ) (ks : List Kind) (m : ℕ) → AreNamed i ks → number_of_name name i ks ≡ Some m → IsNamedFirst name i ks m
  named_first name i [] m are e = absurd (cc)
  named_first name i (k ∷ ks) m are e = go (λ h. named_first name (i + 1) ks m are.1 h) (same_text k.name name) refl e
    where
      go : (number_of_name name (i + 1) ks ≡ Some m → IsNamedFirst name (i + 1) ks m) → (b : Bool) → same_text k.name name ≡ b → (if b then Some i else number_of_name name (i + 1) ks) ≡ Some m → IsNamedFirst name i (k ∷ ks) m
      go again true is e =
          let same : i ≡ m = cc in
          record {
            has = subst (HasAt (has_name name) types) same (subst (λ n. HasAt (has_name n) types i) ((bytes_decides k.name name).0 is) are.0);
            below = omega arith;
            earlier = λ h le lt. absurd (omega arith);
          }
      go again false is e =
          let f = again e in
          record {
            has = f.has;
            below = (let lt = f.below in omega arith);
            earlier = λ h le lt has. ⊎_elim
                (λ same. let own : k.name ≡ name = one_name k.name name i are.0 (subst (HasAt (has_name name) types) same has) in absurd (false≢true (sym is ∙ (bytes_decides k.name name).1 own)))
                (λ apart. f.earlier h (omega arith) lt has) (cases_eq h i);
          }

  record TypesSoFar (plan : Layout) : Type 0 where
    named : AreNamed 0 plan.types
    none : plan.crates ≡ no_crates

  command_tells : (at : PlanTable) (t : Members) → ReadsOrShows (command_of at t) Any
  command_tells at t =
      then_tells (only_tells at t) (λ u v.
      then_tells (needed at key.F 0 31 (value_at key.F t)) (λ f p.
      then_tells (needed at key.A 0 15 (value_at key.A t)) (λ a q.
      then_tells (number_tells at key.To a 15 (value_at key.To t)) (λ to r.
      then_tells (flag_tells at key.Probe (value_at key.Probe t)) (λ probe w.
      then_tells (then_tells (number_tells at key.Width 1 24 (value_at key.Width t)) (λ width x.
      if_tells (unwrap_or probe false && not (nat_eq (unwrap_or width 24) 24)) {Q = Any} (λ e. shows tt) (λ e. reads tt))) (λ width y.
      then_tells (then_tells (flag_tells at key.Clears (value_at key.Clears t)) (λ clears z.
      if_tells (unwrap_or probe false && unwrap_or clears false) {Q = Any} (λ e. shows tt) (λ e. reads tt))) (λ kind z. reads tt)))))))

  places_tell : (all : TypeCommands) (n : ℕ) (line : CommandLine) (commands : Commands) (a k : ℕ) → ReadsOrShows (with_places all n line commands a k) Any
  places_tell all n line commands a zero = reads tt
  places_tell all n line commands a (suc k) =
      then_tells (if_tells (is_some (entry commands line.f a)) {Q = Any} (λ e. shows tt) (λ e. reads tt)) (λ more u. places_tell all n line more (a + 1) k)

  commands_tell : (all : TypeCommands) (n : ℕ) (commands : Commands) (items : Items) → ReadsOrShows (with_commands all n commands items) Any
  commands_tell all n commands no_items = reads tt
  commands_tell all n commands (item (table t) rest) =
      then_tells (then_tells (command_tells (Command all.type_place n) t) (λ line u. places_tell all n line commands line.first (line.last + 1 - line.first)))
      (λ more u. commands_tell all (n + 1) more rest)
  commands_tell all n commands (item (integer z) rest) = shows tt
  commands_tell all n commands (item (string s) rest) = shows tt
  commands_tell all n commands (item (float x) rest) = shows tt
  commands_tell all n commands (item (boolean b) rest) = shows tt
  commands_tell all n commands (item (datetime t) rest) = shows tt
  commands_tell all n commands (item (array ds) rest) = shows tt

  abbrev IsType : Members → TypeLine → Type 0
  IsType t line = value_at key.Name t ≡ Some (string line.name)

  type_tells : (at : PlanTable) (t : Members) → ReadsOrShows (type_of at t) (IsType t)
  type_tells at t =
      then_tells (only_tells at t) (λ u v.
      then_tells (then_tells (text_tells at key.Name (value_at key.Name t)) (λ name is.
      if_tells (is_type_name name) {Q = λ s. value_at key.Name t ≡ Some (string s)} (λ e. reads is) (λ e. shows tt))) (λ name is.
      then_tells (some_tables at key.Commands (value_at key.Commands t)) (λ commands w. reads is)))

  line_tells : (plan : Layout) (t : Members) (line : TypeLine) → get_item (length plan.types) types ≡ Some (table t) → TypesSoFar plan → IsType t line
      → ReadsOrShows (with_type_line plan line) (λ p. TypesSoFar p × (length p.types ≡ length plan.types + 1))
  line_tells plan t line at so is =
      if_tells (is_some (type_named plan line.name)) (λ e. shows (go (type_named plan line.name) refl e))
      (λ e. then_tells (commands_tell (record { type_place = next_type plan; items = line.commands }) 0 (none_declared 16) line.commands)
      (λ commands u. reads (record { named = one_more 0 plan.types (record { name = line.name; commands = commands }) so.named own; none = so.none }, more commands)))
    where
      here : HasAt (has_name line.name) types (length plan.types)
      here = (table t, at, ap (is_name line.name) is ∙ (bytes_decides line.name line.name).1 refl)

      own : HasAt (has_name line.name) types (0 + length plan.types)
      own = let same : length plan.types ≡ 0 + length plan.types = omega arith in subst (HasAt (has_name line.name) types) same here

      more : (commands : Commands) → length (plan.types ++ (record { name = line.name; commands = commands }) ∷ []) ≡ length plan.types + 1
      more commands = length-append plan.types ((record { name = line.name; commands = commands }) ∷ [])

      go : (o : Option ℕ) → type_named plan line.name ≡ o → is_some o ≡ true → TwiceShown types crates (ModuleType (length plan.types)) key.Name (ModuleType (unwrap_or o 0))
      go None f e = absurd (false≢true e)
      go (Some m) f e =
          let n = named_first line.name 0 plan.types m so.named f in
          (line.name, record { own = here; first = n.has; before = (let lt = n.below in omega arith); earlier = λ h lt has. n.earlier h (omega arith) lt has })

  types_tell : (plan : Layout) (rest : Items) → AreRest types (length plan.types) rest → TypesSoFar plan → ReadsOrShows (with_types plan rest) (λ p. p.crates ≡ no_crates)
  types_tell plan no_items are so = reads so.none
  types_tell plan (item (table t) rest) are so =
      then_tells (if_tells (nat_lt (next_type plan) 64)
      (λ e. then_tells (type_tells (ModuleType (next_type plan)) t) (λ line is. line_tells plan t line (first_is types (length plan.types) (table t) rest are) so is)) (λ e. shows tt))
      (λ p next_so. types_tell p rest (subst (λ n. AreRest types n rest) (sym next_so.1) (others_are types (length plan.types) (table t) rest are)) next_so.0)
  types_tell plan (item (integer z) rest) are so = shows tt
  types_tell plan (item (string s) rest) are so = shows tt
  types_tell plan (item (float x) rest) are so = shows tt
  types_tell plan (item (boolean b) rest) are so = shows tt
  types_tell plan (item (datetime t) rest) are so = shows tt
  types_tell plan (item (array ds) rest) are so = shows tt

  -- ---- crates

  record CratesSoFar (c : ℕ) (plan : Layout) : Type 0 where
    numbers : (b : ℕ) → is_some (crate_at plan b) ≡ true → Before (has_number key.Number b) crates c
    bits : (b : ℕ) → uses_bit plan b ≡ true → (d : ℕ) × (m : ℕ) × (d < c) × HasStation (has_number key.Gl b) crates d m

  -- the stations of a crate
  module _ (k : CrateLine) (from : 1 ≤ k.number) (own : Data) (at : get_item k.place crates ≡ Some own) (are : k.stations ≡ stations_in own) where
    record StationsSoFar (n : ℕ) (plan : Layout) : Type 0 where
      numbers : (b : ℕ) → is_some (crate_at plan b) ≡ true → Before (has_number key.Number b) crates (k.place + 1)
      stations : (m : ℕ) → is_some (installed plan k.number m) ≡ true → Before (has_number key.N m) k.stations n
      bits : (b : ℕ) → uses_bit plan b ≡ true → (d : ℕ) × (m : ℕ) × IsEarlier d m k.place n × HasStation (has_number key.Gl b) crates d m

    further : (test : Data → Bool) (n : ℕ) → Before test k.stations n → Before test k.stations (n + 1)
    further test n h = (h.0, (let lt = h.1 in omega arith), h.2)

    later : (test : Data → Bool) (n : ℕ) → ((d : ℕ) × (m : ℕ) × IsEarlier d m k.place n × HasStation test crates d m)
        → (d : ℕ) × (m : ℕ) × IsEarlier d m k.place (n + 1) × HasStation test crates d m
    later test n h = (h.0, h.1, ⊎_elim (λ lt. inl lt) (λ t. inr (t.0, (let lt = t.1 in omega arith))) h.2, h.3)

    station_twice_shown : (n : ℕ) (plan : Layout) (t : Members) (number : ℕ) → get_item n k.stations ≡ Some (table t) → is_number number (value_at key.N t) ≡ true → StationsSoFar n plan
        → is_some (installed plan k.number number) ≡ true
        → TwiceShown types crates (Station k.place n) key.N (Station k.place (unwrap_or (first_with key.N number 0 k.stations) n))
    station_twice_shown n plan t number at_n is so e =
        let old = so.stations number e in
        let f = first_of key.N number 0 k.stations old.0 old.2 in
        let m : ℕ = f.0 in
        let shown : unwrap_or (first_with key.N number 0 k.stations) n ≡ m = ap (λ o. unwrap_or o n) f.1 ∙ (let z : 0 + m ≡ m = omega arith in z) in
        subst (λ x. TwiceShown types crates (Station k.place n) key.N (Station k.place x)) (sym shown) (
          refl,
          own,
          at,
          number,
          subst (λ q. IsFirstOf (has_number key.N number) q m n) are (record {
            own = (table t, at_n, is);
            first = f.2.has;
            before = (let le = f.2.most in let lt = old.1 in omega arith);
            earlier = f.2.earlier;
          }),
        )

    bit_shown : (n : ℕ) (plan : Layout) (t : Members) (g : Option ℕ) → get_item n k.stations ≡ Some (table t) → IsMaybe (value_at key.Gl t) g → StationsSoFar n plan
        → is_some_and (uses_bit plan) g ≡ true → TwiceShown types crates (Station k.place n) key.Gl (first_with_bit (unwrap_or g 0) 0 crates)
    bit_shown n plan t None at_n is so e = absurd (false≢true e)
    bit_shown n plan t (Some b) at_n is so e =
        let old = so.bits b e in
        let f = first_bit b 0 crates old.0 old.1 old.3 in
        let d : ℕ = f.0 in
        let m : ℕ = f.1 in
        let shown : first_with_bit b 0 crates ≡ Station d m = f.2 ∙ ap (λ x. Station x m) (let z : 0 + d ≡ d = omega arith in z) in
        subst (λ x. TwiceShown types crates (Station k.place n) key.Gl x) (sym shown) (
          b,
          record {
            own = (own, at, subst (λ q. HasAt (has_number key.Gl b) q n) are (table t, at_n, is));
            first = f.3.has;
            before = ⊎_elim
                (λ u. ⊎_elim
                (λ lt. ⊎_elim (λ lt2. inl (omega arith)) (λ s. inl (let same = s.0 in omega arith)) old.2)
                (λ s. ⊎_elim (λ lt2. inl (let same = s.0 in omega arith)) (λ w. inr (s.0 ∙ w.0, (let x = s.1 in let y = w.1 in omega arith))) old.2) u)
                (λ s. ⊎_elim (λ lt2. inl (let same = s.0 in omega arith)) (λ w. inr (s.0 ∙ w.0, (let x = s.1 in let y = w.1 in omega arith))) old.2)
                f.3.most;
            earlier = f.3.earlier;
          },
        )

    same_bit : (b : ℕ) (t : Members) (g : Option ℕ) → IsMaybe (value_at key.Gl t) g → is_some_eq b g ≡ true → is_number b (value_at key.Gl t) ≡ true
    same_bit b t None is e = absurd (false≢true e)
    same_bit b t (Some x) is e = subst (λ y. is_number y (value_at key.Gl t) ≡ true) (eqb-true x b e) is

    station_step : (n : ℕ) (plan : Layout) (t : Members) → get_item n k.stations ≡ Some (table t) → StationsSoFar n plan
        → ReadsOrShows (next (station_of (Station k.place n) t) (with_station crates k n plan)) (StationsSoFar (n + 1))
    station_step n plan t at_n so =
        then_tells (station_tells (Station k.place n) t) (λ s is.
        if_tells (is_some (installed plan k.number s.n)) (λ e. shows (station_twice_shown n plan t s.n at_n is.number.0 so e)) (λ e. typed s is (type_named plan s.type_name)))
      where
        put : (s : StationLine) → IsStation t s → (x : ℕ) → StationsSoFar (n + 1) (with_installed plan k.number s.n (record { type_no = x; gl = s.gl }))
        put s is x =
            let new : Installed = record { type_no = x; gl = s.gl } in
            record {
              numbers = λ b e. so.numbers b (same_crates plan k.number s.n new from b e);
              stations = λ m e. ⊎_elim
                  (λ same. (n, (let lt : n < n + 1 = omega arith in lt), (table t, at_n, subst (λ y. is_number y (value_at key.N t) ≡ true) (sym same) is.number.0)))
                  (λ h. further (has_number key.N m) n (so.stations m h)) (station_added plan k.number s.n new from is.number.1 m e);
              bits = λ b e. ⊎_elim
                  (λ h. later (has_number key.Gl b) n (so.bits b h))
                  (λ h. (k.place, n, inr (refl, (let lt : n < n + 1 = omega arith in lt)), (own, at, subst (λ q. HasAt (has_number key.Gl b) q n) are (table t, at_n, same_bit b t s.gl is.bit h))))
                  (bit_added plan k.number s.n new from b e);
            }

        typed : (s : StationLine) → IsStation t s → (o : Option ℕ) → ReadsOrShows (with_type_found crates k n plan s o) (StationsSoFar (n + 1))
        typed s is None = shows tt
        typed s is (Some x) = if_tells (is_some_and (uses_bit plan) s.gl) (λ e. shows (bit_shown n plan t s.gl at_n is.bit so e)) (λ e. reads (put s is x))

    all_stations : (n : ℕ) (plan : Layout) → StationsSoFar n plan → CratesSoFar (k.place + 1) plan
    all_stations n plan so = record {
      numbers = so.numbers;
      bits = λ b e. let h = so.bits b e in (h.0, h.1, ⊎_elim (λ lt. (let x : h.0 < k.place + 1 = omega arith in x)) (λ t. let same = t.0 in (let x : h.0 < k.place + 1 = omega arith in x)) h.2, h.3);
    }

    stations_tell : (n : ℕ) (plan : Layout) (rest : Items) → AreRest k.stations n rest → StationsSoFar n plan → ReadsOrShows (with_stations crates k n plan rest) (CratesSoFar (k.place + 1))
    stations_tell n plan no_items left so = reads (all_stations n plan so)
    stations_tell n plan (item (table t) rest) left so =
        then_tells (station_step n plan t (first_is k.stations n (table t) rest left) so) (λ p next_so. stations_tell (n + 1) p rest (others_are k.stations n (table t) rest left) next_so)
    stations_tell n plan (item (integer z) rest) left so = shows tt
    stations_tell n plan (item (string s) rest) left so = shows tt
    stations_tell n plan (item (float x) rest) left so = shows tt
    stations_tell n plan (item (boolean b) rest) left so = shows tt
    stations_tell n plan (item (datetime t) rest) left so = shows tt
    stations_tell n plan (item (array ds) rest) left so = shows tt

  crate_step : (plan : Layout) (t : Members) (k : CrateLine) → get_item k.place crates ≡ Some (table t) → IsNumber 1 (value_at key.Number t) k.number → k.stations ≡ stations_in (table t)
      → CratesSoFar k.place plan → ReadsOrShows (with_crate_line crates plan k) (CratesSoFar (k.place + 1))
  crate_step plan t k at is are so =
      if_tells (is_some (crate_at plan k.number)) (λ e. shows (twice e))
      (λ e. stations_tell k is.1 (table t) at are 0 (with_crate plan k.number k.waits) k.stations (λ i. let same : i ≡ 0 + i = omega arith in ap (λ m. get_item m k.stations) same) start)
    where
      twice : is_some (crate_at plan k.number) ≡ true → TwiceShown types crates (Crate k.place) key.Number (Crate (unwrap_or (first_with key.Number k.number 0 crates) k.place))
      twice e =
          let old = so.numbers k.number e in
          let f = first_of key.Number k.number 0 crates old.0 old.2 in
          let m : ℕ = f.0 in
          let shown : unwrap_or (first_with key.Number k.number 0 crates) k.place ≡ m = ap (λ o. unwrap_or o k.place) f.1 ∙ (let z : 0 + m ≡ m = omega arith in z) in
          subst (λ x. TwiceShown types crates (Crate k.place) key.Number (Crate x)) (sym shown) (
            k.number,
            record {
              own = (table t, at, is.0);
              first = f.2.has;
              before = (let le = f.2.most in let lt = old.1 in omega arith);
              earlier = f.2.earlier;
            },
          )

      start : StationsSoFar k is.1 (table t) at are 0 (with_crate plan k.number k.waits)
      start = record {
        numbers = λ b e. ⊎_elim
            (λ same. (k.place, (let lt : k.place < k.place + 1 = omega arith in lt), (table t, at, subst (λ y. is_number y (value_at key.Number t) ≡ true) (sym same) is.0)))
            (λ h. let old = so.numbers b h in (old.0, (let lt = old.1 in omega arith), old.2)) (crate_added plan k.number k.waits b is.1 e);
        stations = λ m e. absurd (nothing_in_added plan k.number k.waits m is.1 e);
        bits = λ b e. let old = so.bits b (bit_of_added plan k.number k.waits b e) in (old.0, old.1, inl old.2, old.3);
      }

  crates_tell : (c : ℕ) (plan : Layout) (rest : Items) → AreRest crates c rest → CratesSoFar c plan → ReadsOrShows (with_crates crates c plan rest) Any
  crates_tell c plan no_items left so = reads tt
  crates_tell c plan (item (table t) rest) left so =
      then_tells (then_tells (crate_tells c t) (λ k is.
      subst (λ q. get_item q crates ≡ Some (table t) → CratesSoFar q plan → ReadsOrShows (with_crate_line crates plan k) (CratesSoFar (q + 1))) is.at
      (λ at old. crate_step plan t k at is.number is.stations old) (first_is crates c (table t) rest left) so))
      (λ p next_so. crates_tell (c + 1) p rest (others_are crates c (table t) rest left) next_so)
  crates_tell c plan (item (integer z) rest) left so = shows tt
  crates_tell c plan (item (string s) rest) left so = shows tt
  crates_tell c plan (item (float x) rest) left so = shows tt
  crates_tell c plan (item (boolean b) rest) left so = shows tt
  crates_tell c plan (item (datetime t) rest) left so = shows tt
  crates_tell c plan (item (array ds) rest) left so = shows tt

  nothing_yet : (plan : Layout) → plan.crates ≡ no_crates → CratesSoFar 0 plan
  nothing_yet plan none = record {
    numbers = λ b e. absurd (false≢true (sym (ap (λ cs. is_some (numbered cs b)) none ∙ ap is_some (nothing_numbered b (range_with_len 0 7))) ∙ e));
    bits = λ b e. absurd (false≢true (sym (ap (λ cs. list_any (crate_has_bit b) cs) none) ∙ e));
  }

whole : (ms : Members) → ReadsOrShows (items_at key.Types ms) (items_at key.Crates ms) (plan_of ms) (λ p. Unit {0})
whole ms =
    then_tells types crates (only_tells types crates Top ms) (λ u v.
    then_tells types crates (number_tells types crates Top key.Buffer 1 4096 (value_at key.Buffer ms)) (λ buffer b.
    then_tells types crates (tables_tells types crates Top key.Types (value_at key.Types ms)) (λ ts same_types.
    then_tells types crates (tables_tells types crates Top key.Crates (value_at key.Crates ms)) (λ cs same_crates.
    subst (λ q. ReadsOrShows types crates (next (with_types (empty_plan (unwrap_or buffer 4096)) q) (λ plan. with_crates cs 0 plan cs)) (λ p. Unit {0})) (sym same_types)
    (subst (λ q. ReadsOrShows types crates (next (with_types (empty_plan (unwrap_or buffer 4096)) types) (λ plan. with_crates q 0 plan q)) (λ p. Unit {0})) (sym same_crates)
    (then_tells types crates
    (types_tell types crates (empty_plan (unwrap_or buffer 4096)) types (λ i. let same : i ≡ 0 + i = omega arith in ap (λ m. get_item m types) same) (record { named = tt; none = refl }))
    (λ plan none. crates_tell types crates 0 plan crates (λ i. let same : i ≡ 0 + i = omega arith in ap (λ m. get_item m crates) same) (nothing_yet types crates plan none))))))))
  where
    types : Items
    types = items_at key.Types ms

    crates : Items
    crates = items_at key.Crates ms

pub twice_are_shown : TwiceAreShown
twice_are_shown ms rule at first in_key e =
    let h = whole ms in
    subst (λ r. Goes (items_at key.Types ms) (items_at key.Crates ms) r (λ p. Unit {0})) e h.goes
