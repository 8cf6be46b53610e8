-- Which entries there are: in a map, in its rows, and in a row by function.
use Rattle.std.proofs.Common.{◌≡◌, ◌≢◌, ℕ, ◌<◌, ◌≤◌, Bool, true, false, not, ◌||◌, ◌&&◌, nat_eq, nat_le, List, [], ◌∷◌, Option, Some, None, is_some, option_map, IfSome, map, get_or, set, zero, suc, refl, sym, ◌∙◌, ap, ◌⊎◌, inl, inr, get_or-set_other, take, length, min, arith, ◌%◌, ◌^◌, bit_and, replicate, length-set, get_or-set_same}
use Rattle.std.proofs.lemmas.Bool.{cases_eq, false≢true, leb-true, eqb-true, cases_lt}
use Rattle.std.proofs.lemmas.Option.{same_Some}
use Rattle.std.proofs.Math.Seq.{take-nil}
use Rattle.std.proofs.lemmas.List.{get_or-map, get_or_past, map-set, length-map, length-replicate, get_or-replicate}
use Rattle.std.proofs.lemmas.List.Sums.{sum_by-cons, count_by-le-length}
use Rattle.std.proofs.lemmas.Nat.{and_le_l}
use Rattle.std.proofs.Math.Nat.{mod-eq_of_lt}
use Rattle.std.proofs.lemmas.List.FromFn.{length-map-range_with_len, get_or-map-range_with_len, fill_by_all}
use Rattle.std.specs.List.{range_with_len, sum_by}
use Rattle.camac_module.specs.Kind.{is_probe, kind_of, clears}
use Rattle.camac_module.specs.Entry.{Entry, no_entries, Entries, count_commands, count_probes, is_probe_entry}
use Rattle.camac_module.specs.Commands.{Commands, entry, IsDeclarable, IsCommandMap, declared, fits_width, none_declared, with_declared, width, DeclaresOne}
use Rattle.camac_module.specs.declared.map.Decl.{Decl}
use Rattle.camac_module.specs.Row.{entries_of, bit, entry_of}
use Rattle.camac_module.specs.declared.row.Row.{Row}
use Rattle.camac_module.specs.declared.kind.CommandKind.{CommandKind}
use Rattle.camac_module.specs.declared.kind.CommandKind.TheVariants.{Plain, Clearing, Probe}
use Rattle.camac_module.proofs.Bits.{one_if, bit_cases, bit-and, ones-counted}
use lib.Count.{ones}

-- Which entries there are: in a map of nothing, and after one more was declared.

pub none_is_some : {X : Type 0} (x : X) → None ≡ Some x → ⊥
none_is_some x e = false≢true (ap is_some e)

-- a list of nothing
nothing_at : {X : Type 0} (f : ℕ) (xs : List ℕ) → get_or (map {B = Option X} (λ _. None) xs) f None ≡ None
nothing_at f [] = refl
nothing_at zero (x ∷ xs) = refl
nothing_at (suc f) (x ∷ xs) = nothing_at f xs

no_entry : (f : ℕ) → get_or no_entries f None ≡ None
unfolding no_entries
no_entry f = nothing_at f (range_with_len 0 32)

no_row : (f a : ℕ) (xs : List ℕ) → get_or (get_or (map (λ _. no_entries) xs) a []) f None ≡ None
no_row f a [] = refl
no_row f zero (x ∷ xs) = no_entry f
no_row f (suc a) (x ∷ xs) = no_row f a xs

pub is_command_map-none_declared : (n : ℕ) → IsCommandMap (none_declared n)
is_command_map-none_declared n f a e h = absurd (none_is_some e (sym (no_row f a (range_with_len 0 n)) ∙ h))

-- what stands in a list after a write: what was written, or what stood there
after_write : {X : Type 0} (xs : List X) (i j : ℕ) (y d : X) → (get_or (set xs i y) j d ≡ y) ⊎ (get_or (set xs i y) j d ≡ get_or xs j d)
after_write [] i j y d = inr refl
after_write (x ∷ xs) zero zero y d = inl refl
after_write (x ∷ xs) zero (suc j) y d = inr refl
after_write (x ∷ xs) (suc i) zero y d = inr refl
after_write (x ∷ xs) (suc i) (suc j) y d = after_write xs i j y d

-- the entries at the sub-address of a declaration
entry_here : (m : Commands) (d : Decl) (f : ℕ)
    → ((f ≡ d.f) × (entry (with_declared m d) f d.a ≡ Some (declared d))) ⊎ (entry (with_declared m d) f d.a ≡ entry m f d.a)
entry_here m d f =
    elim (after_write m d.a d.a (set (get_or m d.a []) d.f (Some (declared d))) []) [
      | inl row ↦
          elim (cases_eq f d.f) [
            | inl same ↦ elim (after_write (get_or m d.a []) d.f f (Some (declared d)) None) [
              | inl new ↦ inl (same, rw row new)
              | inr old ↦ inr (rw row old)
            ]
            | inr other ↦ inr (rw row (get_or-set_other (get_or m d.a []) d.f f (Some (declared d)) None other))
          ]
      | inr row ↦ inr (rw row refl)
    ]

pub entry_elsewhere : (m : Commands) (d : Decl) (f a : ℕ) → a ≢ d.a → entry (with_declared m d) f a ≡ entry m f a
entry_elsewhere m d f a other = rw (get_or-set_other m d.a a _ [] other) refl

and_left : (a b : Bool) → (a && b) ≡ true → a ≡ true
and_left true b h = refl
and_left false b h = absurd (false≢true h)

and_right : (a b : Bool) → (a && b) ≡ true → b ≡ true
and_right true b h = h
and_right false b h = absurd (false≢true h)

equal : (m n : ℕ) → nat_eq m n ≡ true → m ≡ n
equal m n h = eqb-true m n h

probe_width : (d : Decl) → (not (is_probe d.kind) || nat_eq d.width 24) ≡ true → is_probe d.kind ≡ true → d.width ≡ 24
probe_width d h probe = equal d.width 24 (rw probe at h)

-- a declaration whose width fits can be declared
pub is_declarable : (d : Decl) → d.f < 32 → d.a < 16 → fits_width d ≡ true → IsDeclarable d.f d.a (declared d)
is_declarable d function place fits =
    let range = and_left (nat_le 1 d.width && nat_le d.width 24) _ fits in
    record {
      function = function;
      sub_address = place;
      width_from_1 = leb-true 1 d.width (and_left (nat_le 1 d.width) (nat_le d.width 24) range);
      width_to_24 = leb-true d.width 24 (and_right (nat_le 1 d.width) (nat_le d.width 24) range);
      probe = probe_width d (and_right (nat_le 1 d.width && nat_le d.width 24) _ fits);
    }

width_of : (m : Commands) → IsCommandMap m → (f a w : ℕ) (o : Option Entry) → entry m f a ≡ o → option_map (λ e. e.width) o ≡ Some w
    → (f < 32) × (a < 16) × (1 ≤ w) × (w ≤ 24)
width_of m is f a w None at h = absurd (none_is_some w h)
width_of m is f a w (Some e) at h =
    let known = is f a e at in
    rw (← same_Some _ _ h) (known.function, known.sub_address, known.width_from_1, known.width_to_24)

-- a declared command has numbers that there are, and a width in its range
pub width-known : (m : Commands) → IsCommandMap m → (f a w : ℕ) → width m f a ≡ Some w → (f < 32) × (a < 16) × (1 ≤ w) × (w ≤ 24)
width-known m is f a w h = width_of m is f a w (entry m f a) refl h

pub width-in_range : (m : Commands) → IsCommandMap m → (f a w : ℕ) → width m f a ≡ Some w → (1 ≤ w) × (w ≤ 24)
width-in_range m is f a w h = let known = width-known m is f a w h in (known.2, known.3)

-- the same of a width that there may be
pub width-if_some : (m : Commands) → IsCommandMap m → (f a : ℕ) (o : Option ℕ) → o ≡ width m f a → IfSome o (λ w. (1 ≤ w) × (w ≤ 24))
width-if_some m is f a None h = tt
width-if_some m is f a (Some w) h = width-in_range m is f a w (sym h)

pub is_command_map-with_declared : (m : Commands) (d : Decl) → IsDeclarable d.f d.a (declared d) → IsCommandMap m → IsCommandMap (with_declared m d)
is_command_map-with_declared m d fits is f a e h =
    elim (cases_eq a d.a) [
      | inl here ↦
          elim (entry_here m d f) [
            | inl new ↦
                let this : declared d ≡ e = same_Some _ _ (sym new.1 ∙ rw here at h) in
                rw (here, new.0, ← this) fits
            | inr old ↦ is f a e (rw here (sym old ∙ rw here at h))
          ]
      | inr other ↦ is f a e (sym (entry_elsewhere m d f a other) ∙ h)
    ]

-- Sums over rows of which those past a place have no entry.

count_commands-nothing : (es : Entries) → ((f : ℕ) → get_or es f None ≡ None) → count_commands es ≡ 0
count_commands-nothing [] h = refl
count_commands-nothing (x ∷ xs) h = let this : x ≡ None = h 0 in rw this (count_commands-nothing xs (λ f. h (suc f)))

count_probes-nothing : (es : Entries) → ((f : ℕ) → get_or es f None ≡ None) → count_probes es ≡ 0
count_probes-nothing [] h = refl
count_probes-nothing (x ∷ xs) h = let this : x ≡ None = h 0 in rw this (count_probes-nothing xs (λ f. h (suc f)))

-- what adds nothing can be left out
sum_past : {X : Type 0} (g : X → ℕ) (xs : List X) (k : ℕ) → ((i : ℕ) (d : X) → k ≤ i → i < length xs → g (get_or xs i d) ≡ 0) → sum_by g (take k xs) ≡ sum_by g xs
sum_past g [] k h = ap (sum_by g) (take-nil k)
sum_past g (x ∷ xs) zero h =
    let rest : 0 ≡ sum_by g xs = sum_past g xs zero (λ i d from below. h (suc i) d (omega arith) (omega (arith, below))) in
    rw (sum_by-cons g x xs, h 0 x (omega arith) (omega arith)) (omega (arith, rest))
sum_past g (x ∷ xs) (suc k) h =
    rw (sum_by-cons g x xs, sum_by-cons g x (take k xs), sum_past g xs k (λ i d from below. h (suc i) d (omega (arith, from)) (omega (arith, below)))) refl

sum_by-map : {X Y : Type 0} (g : Y → ℕ) (f : X → Y) (xs : List X) → sum_by g (map f xs) ≡ sum_by (λ x. g (f x)) xs
sum_by-map g f [] = refl
sum_by-map g f (x ∷ xs) = rw (sum_by-cons g (f x) (map f xs), sum_by-cons (λ y. g (f y)) x xs, sum_by-map g f xs) refl

absent : (m : Commands) → IsCommandMap m → (f a : ℕ) (o : Option Entry) → 16 ≤ a → entry m f a ≡ o → entry m f a ≡ None
absent m is f a None from e = e
absent m is f a (Some x) from e = absurd (omega (arith, (is f a x e).sub_address, from))

-- no entry stands in a row past the last sub-address
nothing_past : (rows : List Row) → IsCommandMap (map entries_of rows) → (i : ℕ) (d : Row) → 16 ≤ i → i < length rows → (f : ℕ) → get_or (entries_of (get_or rows i d)) f None ≡ None
nothing_past rows is i d from below f =
    let here : get_or (map entries_of rows) i [] ≡ entries_of (get_or rows i d) = get_or-map entries_of rows i d [] below in
    rw here at (absent (map entries_of rows) is f i (entry (map entries_of rows) f i) from refl)

-- so the first sixteen rows hold all that is counted
pub commands-counted : (rows : List Row) (k : ℕ) → (length rows ≤ k) ⊎ (16 ≤ k) → IsCommandMap (map entries_of rows)
    → sum_by (λ row. count_commands (entries_of row)) (take k rows) ≡ sum_by count_commands (map entries_of rows)
commands-counted rows k enough is =
    sum_past (λ row. count_commands (entries_of row)) rows k (λ i d from below.
    elim enough [
      | inl all ↦ absurd (omega (arith, all, from, below))
      | inr past ↦ count_commands-nothing (entries_of (get_or rows i d)) (nothing_past rows is i d (omega (arith, past, from)) below)
    ])
    ∙ sym (sum_by-map count_commands entries_of rows)

pub probes-counted : (rows : List Row) (k : ℕ) → (length rows ≤ k) ⊎ (16 ≤ k) → IsCommandMap (map entries_of rows)
    → sum_by (λ row. count_probes (entries_of row)) (take k rows) ≡ sum_by count_probes (map entries_of rows)
probes-counted rows k enough is =
    sum_past (λ row. count_probes (entries_of row)) rows k (λ i d from below.
    elim enough [
      | inl all ↦ absurd (omega (arith, all, from, below))
      | inr past ↦ count_probes-nothing (entries_of (get_or rows i d)) (nothing_past rows is i d (omega (arith, past, from)) below)
    ])
    ∙ sym (sum_by-map count_probes entries_of rows)

-- a number and 16
pub min_enough : (n : ℕ) → (n ≤ min n 16) ⊎ (16 ≤ min n 16)
min_enough n = elim (cases_lt n 16) [ inl few ↦ inl (omega (arith, few)) | inr many ↦ inr (omega (arith, many)) ]

-- The entries of a row, by function.

pub length-entries_of : (row : Row) → length (entries_of row) ≡ 32
unfolding entries_of
length-entries_of row = length-map-range_with_len (entry_of row) 0 32

pub get_or-entries_of : (row : Row) (f : ℕ) → f < 32 → get_or (entries_of row) f None ≡ entry_of row f
unfolding entries_of
get_or-entries_of row f h = get_or-map-range_with_len (entry_of row) 0 32 f f None h (omega arith)

pub same_entries_of : (row : Row) (es : Entries) → length es ≡ 32 → ((k : ℕ) → k < 32 → get_or es k None ≡ entry_of row k) → es ≡ entries_of row
unfolding entries_of
same_entries_of row es len at = fill_by_all (entry_of row) es 32 None len at

-- the masks and widths after a declaration
pub record IsDeclared (old new : Row) (f w : ℕ) (kind : CommandKind) : Type 0 where
  pub declared : bit new.declared f ≡ true
  pub probes : bit new.probes f ≡ is_probe kind
  pub clearing : bit new.clearing f ≡ clears kind
  pub widths : new.widths ≡ set old.widths f w
  pub other_declared : (k : ℕ) → k < 32 → k ≢ f → bit new.declared k ≡ bit old.declared k
  pub other_probes : (k : ℕ) → k < 32 → k ≢ f → bit new.probes k ≡ bit old.probes k
  pub other_clearing : (k : ℕ) → k < 32 → k ≢ f → bit new.clearing k ≡ bit old.clearing k

kind_again : (kind : CommandKind) → kind_of (is_probe kind) (clears kind) ≡ kind
kind_again Plain = refl
kind_again Clearing = refl
kind_again Probe = refl

probe_of : (probe clears : Bool) → is_probe (kind_of probe clears) ≡ probe
probe_of true clears = refl
probe_of false true = refl
probe_of false false = refl

declared_at : (old new : Row) (f w : ℕ) (kind : CommandKind) → f < 32 → length old.widths ≡ 32 → IsDeclared old new f w kind → (k : ℕ) → k < 32
    → get_or (set (entries_of old) f (Some (record { width = w; kind = kind }))) k None ≡ entry_of new k
declared_at old new f w kind below len is k h =
    elim (cases_eq k f) [
      | inl same ↦
          let inside : f < length (entries_of old) = rw (length-entries_of old) below in
          let within : f < length old.widths = rw len below in
          rw (same, get_or-set_same (entries_of old) f _ None inside, is.declared, is.probes, is.clearing, kind_again kind, is.widths, get_or-set_same old.widths f w 0 within) refl
      | inr other ↦
          rw (get_or-set_other (entries_of old) f k _ None other, get_or-entries_of old k h, is.other_declared k h other, is.other_probes k h other, is.other_clearing k h other, is.widths, get_or-set_other old.widths f k w 0 other) refl
    ]

pub entries_of-declared : (old new : Row) (f w : ℕ) (kind : CommandKind) → f < 32 → length old.widths ≡ 32 → IsDeclared old new f w kind
    → entries_of new ≡ set (entries_of old) f (Some (record { width = w; kind = kind }))
entries_of-declared old new f w kind below len is =
    sym (same_entries_of new _ (length-set (entries_of old) f _ ∙ length-entries_of old) (declared_at old new f w kind below len is))

counted : (row : Row) (j : ℕ) → one_if (is_some (entry_of row j)) ≡ one_if (bit row.declared j)
counted row j = elim (bit_cases row.declared j) [ inl clear ↦ rw clear refl | inr here ↦ rw here refl ]

counted_probe : (row : Row) (j : ℕ) → one_if (is_probe_entry (entry_of row j)) ≡ one_if (bit (bit_and row.declared row.probes) j)
counted_probe row j =
    rw (bit-and row.declared row.probes j)
    (elim (bit_cases row.declared j) [
      | inl clear ↦ rw clear refl
      | inr here ↦ rw (here, probe_of (bit row.probes j) (bit row.clearing j)) refl
    ])

pub count_commands-entries_of : (row : Row) → row.declared < 2 ^ 32 → ones row.declared ≡ count_commands (entries_of row)
unfolding entries_of
count_commands-entries_of row small =
    let is_whole : row.declared % 2 ^ 32 ≡ row.declared = mod-eq_of_lt small in
    rw is_whole at (ones-counted (λ e. one_if (is_some e)) (entry_of row) row.declared 32 (λ j h. counted row j))

pub count_probes-entries_of : (row : Row) → row.declared < 2 ^ 32 → ones (bit_and row.declared row.probes) ≡ count_probes (entries_of row)
unfolding entries_of
count_probes-entries_of row small =
    let both = and_le_l row.declared row.probes in
    let below : bit_and row.declared row.probes < 2 ^ 32 = omega (arith, both, small) in
    let is_whole : bit_and row.declared row.probes % 2 ^ 32 ≡ bit_and row.declared row.probes = mod-eq_of_lt below in
    rw is_whole at (ones-counted (λ e. one_if (is_probe_entry e)) (entry_of row) (bit_and row.declared row.probes) 32 (λ j h. counted_probe row j))

pub count_commands-le : (row : Row) → count_commands (entries_of row) ≤ 32
count_commands-le row = rw (length-entries_of row) at (count_by-le-length is_some (entries_of row))

pub count_probes-le : (row : Row) → count_probes (entries_of row) ≤ 32
count_probes-le row = rw (length-entries_of row) at (count_by-le-length is_probe_entry (entries_of row))

-- what a declaration in one of the rows does to the entries of all
pub map-entries_of-declared : (rows : List Row) (d : Decl) (a f : ℕ) (blank declared : Row) → a ≡ d.a → f ≡ d.f → a < length rows
    → entries_of declared ≡ set (entries_of (get_or rows a blank)) f (Some (record { width = d.width; kind = d.kind }))
    → map entries_of (set rows a declared) ≡ with_declared (map entries_of rows) d
map-entries_of-declared rows d a f blank declared place function below is =
    let old : get_or (map entries_of rows) a [] ≡ entries_of (get_or rows a blank) = get_or-map entries_of rows a blank [] below in
    rw (map-set entries_of rows a declared, is, ← place, ← function, old) refl

pub map-new : (row : Row) (n : ℕ) → entries_of row ≡ no_entries → map entries_of (replicate n row) ≡ none_declared n
map-new row n is =
    fill_by_all (λ _. no_entries) (map entries_of (replicate n row)) n [] (length-map (replicate n row) entries_of ∙ length-replicate n row)
    (λ k below.
    let inside : k < length (replicate n row) = rw (length-replicate n row) below in
    get_or-map entries_of (replicate n row) k row [] inside ∙ ap entries_of (get_or-replicate n k row row below) ∙ is)

-- one more declaration in rows of 32 functions changes its command alone
declares_here : (rows : List Row) (d : Decl) (blank : Row) → d.f < 32 → d.a < length rows → entry (with_declared (map entries_of rows) d) d.f d.a ≡ Some (declared d)
declares_here rows d blank function place =
    let there : d.a < length (map entries_of rows) = rw (length-map rows entries_of) place in
    let old : get_or (map entries_of rows) d.a [] ≡ entries_of (get_or rows d.a blank) = get_or-map entries_of rows d.a blank [] place in
    let inside : d.f < length (get_or (map entries_of rows) d.a []) = rw (old, length-entries_of (get_or rows d.a blank)) function in
    rw (get_or-set_same (map entries_of rows) d.a (set (get_or (map entries_of rows) d.a []) d.f (Some (declared d))) [] there)
    (get_or-set_same (get_or (map entries_of rows) d.a []) d.f (Some (declared d)) None inside)

declares_elsewhere : (m : Commands) (d : Decl) (f : ℕ) → f ≢ d.f → entry (with_declared m d) f d.a ≡ entry m f d.a
declares_elsewhere m d f other =
    elim (cases_lt d.a (length m)) [
      | inl below ↦
          rw (get_or-set_same m d.a (set (get_or m d.a []) d.f (Some (declared d))) [] below)
          (get_or-set_other (get_or m d.a []) d.f f (Some (declared d)) None other)
      | inr past ↦ rw (get_or_past (set m d.a (set (get_or m d.a []) d.f (Some (declared d)))) d.a [] (rw (length-set m d.a _) past), get_or_past m d.a [] past) refl
    ]

pub declares_one : (rows : List Row) (d : Decl) (blank : Row) → d.f < 32 → d.a < length rows → DeclaresOne (map entries_of rows) (with_declared (map entries_of rows) d) d
declares_one rows d blank function place = record {
  here = declares_here rows d blank function place;
  others = λ f a other.
      elim (cases_eq a d.a) [
        | inl same ↦ rw same (declares_elsewhere (map entries_of rows) d f (λ e. other (e, same)))
        | inr apart ↦ entry_elsewhere (map entries_of rows) d f a apart
      ];
}
