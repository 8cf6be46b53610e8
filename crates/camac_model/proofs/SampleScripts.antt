-- The sample scripts and the sample plan of the worked rows.
use Rattle.std.specs.Prelude.{ℕ, zero, suc, List, [], ◌∷◌, Option, Some, codes, Bool, true, false, length, option_map, slice_get, slice_index_or, option_and_then, ◌⊎◌}
use Rattle.std.proofs.Common.{◌≡◌, ◌+◌, ◌<◌, ◌≤◌, None, refl, sym, ◌∙◌, ap, subst, arith, inl, inr}
use Rattle.camac_lang.specs.View.{block_of}
use Rattle.camac_lang.specs.declared.word.WordSize.TheVariants.{Full}
use Rattle.camac_lang.specs.Tree.{Text, number, variable, into, Statement, set_register, single, put, Table, Lam, next_table, next_lam, next_variables, next_procedure, next_service, Procedure, Script, on_line}
use Rattle.camac_func.specs.declared.data.DataMove.{DataMove}
use Rattle.camac_branch.specs.Address.{address}
use Rattle.camac_branch.specs.Branch.{Answer, Reply, start}
use Rattle.camac_branch.specs.declared.plan.Crate.{Crate}
use Rattle.camac_branch.specs.declared.plan.Installed.{Installed}
use Rattle.camac_branch.specs.Plan.{IsPlan, numbered, crate_at, installed, gl, kind}
use Rattle.camac_model.specs.State.{State}
use Rattle.camac_model.specs.Behaviour.{Piece, demanded, cycled, Event, Behaviour, does, ends, reached}
use Rattle.camac_model.specs.Meaning.{context}
use Rattle.camac_model.specs.Run.{service_meaning, the_run}
use Rattle.camac_model.specs.Sample.{times, sample_plan, adc, reg, crate_one}
use Rattle.camac_module.specs.Commands.{IsDeclarable, IsCommandMap}
use Rattle.camac_module.specs.declared.kind.CommandKind.TheVariants.{Plain, Probe}

-- The standard opening of the worked rows.

-- `cdlam adc 1 1 5 12`
abbrev pub adc_lam : Lam
adc_lam = record { spot = on_line 1; name = codes "adc"; crate_no = 1; station = 5; sub_address = 12 }

-- a script of one service for that LAM: these variables on line 2, tables and procedures, the service's heading and registers
abbrev pub script_of : List Text → List Table → List Procedure → ℕ → ℕ → List Text → List Statement → Script
script_of variables tables procedures cycles words registers ss = record {
  order = next_lam ∷ next_variables (on_line 2) (length variables) ∷ times (length tables) next_table (times (length procedures) next_procedure (next_service ∷ []));
  tables = tables;
  lams = adc_lam ∷ [];
  variables = variables;
  procedures = procedures;
  services = record { spot = on_line 3; lam = 0; cycles = cycles; words = words; registers = registers; body = block_of ss } ∷ [];
}

-- the variables of the standard opening, and their numbers
abbrev pub opening : List Text
opening = codes "v" ∷ codes "k" ∷ codes "i" ∷ codes "t" ∷ []

abbrev pub v : ℕ
v = 0

abbrev pub k : ℕ
k = 1

abbrev pub i : ℕ
i = 2

abbrev pub t : ℕ
t = 3

-- the registers of a service that has one or two, and their numbers
abbrev pub with_r : List Text
with_r = codes "r" ∷ []

abbrev pub with_r_s : List Text
with_r_s = codes "r" ∷ codes "s" ∷ []

abbrev pub r : ℕ
r = 0

abbrev pub s : ℕ
s = 1

-- `cdreg` of a register, on line 4, in crate 1
abbrev pub register : (register station sub_address : ℕ) → Statement
register g n a = set_register (on_line 4) g (number 1) (number n) (number a)

-- a procedure that reads the converter at a sub-address from 0 to 11
abbrev pub get : Procedure
get = record {
  spot = on_line 3;
  name = codes "get";
  parameters = record { name = codes "s"; low = 0; high = 11 } ∷ [];
  cycles = 3;
  words = 1;
  steps = 3;
  registers = with_r;
  body = block_of (set_register (on_line 4) r (number 1) (number 5) (variable 0) ∷ single (on_line 5) Full 0 r (into 0) ∷ put (on_line 6) (variable 0) ∷ []);
}

-- the standard opening with this heading and these registers
abbrev pub script : (cycles words : ℕ) → List Text → List Statement → Script
script cycles words registers ss = script_of opening [] [] cycles words registers ss

abbrev pub answer : (x q : Bool) → (word wait gl : ℕ) → Answer
answer x q word wait gl = record { x = x; q = q; word = word; wait = wait; gl = gl }

-- an answer of a graded-L operation
abbrev pub demand : ℕ → Answer
demand gl = answer false false 0 0 gl

-- answers with X=1 and Q=1, no wait, and the words n down to 1
abbrev pub good : ℕ → List Answer
good zero = []
good (suc n) = answer true true (suc n) 0 0 ∷ good n

-- answers with X=1 and Q=0, and a wait of 2
abbrev pub busy : ℕ → List Answer
busy zero = []
busy (suc n) = answer true false 0 2 0 ∷ busy n

abbrev pub reply : (x q : Bool) → (word : ℕ) → Reply
reply x q word = record { x = x; q = q; word = word }

-- a cycle in crate 1
abbrev pub cycle_at : (station sub_address function : ℕ) → DataMove → Reply → (wait : ℕ) → Piece
cycle_at n a f d r wait = cycled (address 1 n a) f d r wait

abbrev pub event : (bit cycles missed : ℕ) → (words : List ℕ) → Event
event bit cycles missed words = record { bit = bit; cycles = cycles; missed = missed; words = words }

-- a demand of the LAM's service
abbrev pub called : Piece
called = demanded 4 (Some 0)

-- what a run does, piece by piece, until it ends
abbrev pub doing : List Piece → Behaviour (Unit {0})
doing [] = ends tt
doing (p ∷ ps) = does p (doing ps)

-- the run of a script under the sample plan, where a demand of its service comes first
abbrev pub served : Script → List Answer → Behaviour (Unit {0})
served script' answers = the_run sample_plan script' (demand 4 ∷ answers)

-- where the service of a script comes out, by itself from the branch's start
abbrev pub left_by : Script → List Answer → Option State
left_by script' answers =
    option_map (λ service. reached (service_meaning (context sample_plan script') 65535 service start answers)) (slice_get script'.services 0)

-- The sample plan keeps the rules of plans, so that what is said of plans is said of it.

-- P holds of each entry of a list and its place, from i on
abbrev Each : {A : Type 0} → (ℕ → A → Type 0) → ℕ → List (Option A) → Type 0
Each P i [] = Unit {0}
Each P i (None ∷ rest) = Each P (suc i) rest
Each P i (Some a ∷ rest) = P i a × Each P (suc i) rest

each_at : {A : Type 0} (P : ℕ → A → Type 0) (i : ℕ) (xs : List (Option A)) → Each P i xs → (k : ℕ) (a : A) → slice_index_or xs k None ≡ Some a → P (i + k) a
each_at P i [] h k a e = absurd (cc)
each_at P i (None ∷ rest) h zero a e = absurd (cc)
each_at P i (None ∷ rest) h (suc k) a e = let same : suc i + k ≡ i + suc k = omega arith in subst (λ j. P j a) same (each_at P (suc i) rest h k a e)
each_at P i (Some b ∷ rest) h zero a e =
    let same : b ≡ a = cc in
    let here : i ≡ i + 0 = omega arith in
    subst (λ j. P j a) here (subst (P i) same h.0)
each_at P i (Some b ∷ rest) h (suc k) a e = let same : suc i + k ≡ i + suc k = omega arith in subst (λ j. P j a) same (each_at P (suc i) rest h.1 k a e)

-- by its number, from 1
numbered_at : {A : Type 0} (P : ℕ → A → Type 0) (xs : List (Option A)) → Each P 1 xs → (n : ℕ) (a : A) → numbered xs n ≡ Some a → P n a
numbered_at P xs h zero a e = absurd (cc)
numbered_at P xs h (suc k) a e = let same : 1 + k ≡ suc k = omega arith in subst (λ j. P j a) same (each_at P 1 xs h k a e)

-- P holds of each entry of each row
abbrev EachRow : {A : Type 0} → (ℕ → ℕ → A → Type 0) → ℕ → List (List (Option A)) → Type 0
EachRow P i [] = Unit {0}
EachRow P i (row ∷ rows) = Each (λ f. P f i) 0 row × EachRow P (suc i) rows

row_at : {A : Type 0} (P : ℕ → ℕ → A → Type 0) (i : ℕ) (rows : List (List (Option A))) → EachRow P i rows → (f a : ℕ) (x : A) → slice_index_or (slice_index_or rows a []) f None ≡ Some x → P f (i + a) x
row_at P i [] h f a x e = absurd (cc)
row_at P i (row ∷ rows) h f zero x e =
    let here : i ≡ i + 0 = omega arith in
    let at_f : 0 + f ≡ f = omega arith in
    subst (λ j. P f j x) here (subst (λ g. P g i x) at_f (each_at (λ g. P g i) 0 row h.0 f x e))
row_at P i (row ∷ rows) h f (suc a) x e = let same : suc i + a ≡ i + suc a = omega arith in subst (λ j. P f j x) same (row_at P (suc i) rows h.1 f a x e)

from_first : {A : Type 0} (P : ℕ → ℕ → A → Type 0) (rows : List (List (Option A))) → EachRow P 0 rows → (f a : ℕ) (x : A) → slice_index_or (slice_index_or rows a []) f None ≡ Some x → P f a x
from_first P rows h f a x e = let same : 0 + a ≡ a = omega arith in subst (λ j. P f j x) same (row_at P 0 rows h f a x e)

-- a command of 12, 24 or 8 bits; a probe
command : (f a w : ℕ) → f < 32 → a < 16 → 1 ≤ w → w ≤ 24 → IsDeclarable f a (record { width = w; kind = Plain })
command f a w hf ha low high = record { function = hf; sub_address = ha; width_from_1 = low; width_to_24 = high; probe = λ e. absurd (cc) }

probed : (a : ℕ) → a < 16 → IsDeclarable 0 a (record { width = 24; kind = Probe })
probed a ha = record { function = omega arith; sub_address = ha; width_from_1 = omega arith; width_to_24 = omega arith; probe = λ e. refl }

bits_12 : (a : ℕ) → a < 16 → IsDeclarable 0 a (record { width = 12; kind = Plain })
bits_12 a ha = command 0 a 12 (omega arith) ha (omega arith) (omega arith)

adc_commands : IsCommandMap adc.commands
adc_commands f a e h =
    from_first IsDeclarable adc.commands
    ((bits_12 0 (omega arith), tt), ((bits_12 1 (omega arith), tt), ((bits_12 2 (omega arith), tt), ((bits_12 3 (omega arith), tt), ((bits_12 4 (omega arith), tt), ((bits_12 5 (omega arith), tt), ((bits_12 6 (omega arith), tt), ((bits_12 7 (omega arith), tt), ((bits_12 8 (omega arith), tt), ((bits_12 9 (omega arith), tt), ((bits_12 10 (omega arith), tt), ((bits_12 11 (omega arith), tt), ((probed 12 (omega arith), (at_12 8 (omega arith), (at_12 10 (omega arith), (at_12 24 (omega arith), (at_12 26 (omega arith), tt))))), ((probed 13 (omega arith), tt), ((probed 14 (omega arith), tt), ((probed 15 (omega arith), tt), tt)))))))))))))))) f a e h
  where
    at_12 : (f : ℕ) → f < 32 → IsDeclarable f 12 (record { width = 24; kind = Plain })
    at_12 f hf = command f 12 24 hf (omega arith) (omega arith) (omega arith)

reg_commands : IsCommandMap reg.commands
reg_commands f a e h =
    from_first IsDeclarable reg.commands
    ((at_0 0 24 (omega arith) (omega arith) (omega arith), (at_0 5 24 (omega arith) (omega arith) (omega arith), (at_0 16 8 (omega arith) (omega arith) (omega arith), (at_0 27 24 (omega arith) (omega arith) (omega arith), tt)))), (tt, (tt, (tt, (tt, (tt, (tt, (tt, (tt, (tt, (tt, (tt, (tt, (tt, (tt, (tt, tt)))))))))))))))) f a e h
  where
    at_0 : (f w : ℕ) → f < 32 → 1 ≤ w → w ≤ 24 → IsDeclarable f 0 (record { width = w; kind = Plain })
    at_0 f w hf low high = command f 0 w hf (omega arith) low high

commands_of : (t : ℕ) → IsCommandMap (kind sample_plan t).commands
commands_of zero = adc_commands
commands_of (suc zero) = reg_commands
commands_of (suc (suc t)) = λ f a e h. absurd (cc)

-- what is installed where
abbrev IsCrateOne : ℕ → Crate → Type 0
IsCrateOne c k = (c ≡ 1) × (k ≡ crate_one)

crates : (c : ℕ) (k : Crate) → crate_at sample_plan c ≡ Some k → IsCrateOne c k
crates c k e = numbered_at IsCrateOne sample_plan.crates ((refl, refl), tt) c k e

abbrev IsModule : ℕ → Installed → Type 0
IsModule n s = ((n ≡ 5) × (s.type_no ≡ 0) × (s.gl ≡ Some 3)) ⊎ ((n ≡ 6) × (s.type_no ≡ 1) × (s.gl ≡ None))

modules : (n : ℕ) (s : Installed) → numbered crate_one.stations n ≡ Some s → IsModule n s
modules n s e = numbered_at IsModule crate_one.stations (inl (refl, refl, refl), (inr (refl, refl, refl), tt)) n s e

-- what is installed at a station of the crate that is there
at_station : (c n : ℕ) (s : Installed) (o : Option Crate) → crate_at sample_plan c ≡ o → option_and_then (λ k. numbered k.stations n) o ≡ Some s → (c ≡ 1) × IsModule n s
at_station c n s None e h = absurd (cc)
at_station c n s (Some k) e h = let one = crates c k e in (one.0, modules n s (ap (λ k'. numbered k'.stations n) (sym one.1) ∙ h))

installed_at : (c n : ℕ) (s : Installed) → installed sample_plan c n ≡ Some s → (c ≡ 1) × IsModule n s
installed_at c n s h = at_station c n s (crate_at sample_plan c) refl h

waits_at : (o : Option Crate) (c w : ℕ) → crate_at sample_plan c ≡ o → option_map (λ k. k.waits) o ≡ Some w → w ≤ 15
waits_at None c w e h = absurd (cc)
waits_at (Some k) c w e h =
    let one = crates c k e in
    let same : k.waits ≡ w = cc in
    let two : k.waits ≡ 2 = ap (λ k'. k'.waits) one.1 in omega (arith, same, two)

type_at : (o : Option Installed) (c n t : ℕ) → installed sample_plan c n ≡ o → option_map (λ s. s.type_no) o ≡ Some t → t < 2
type_at None c n t e h = absurd (cc)
type_at (Some s) c n t e h =
    let same : s.type_no ≡ t = cc in
    elim ((installed_at c n s e).1) [
      | inl m ↦ let number = m.1 in omega (arith, same, number)
      | inr m ↦ let number = m.1 in omega (arith, same, number)
    ]

-- the one bit of the plan
bit_at_5 : (o : Option Installed) (c n b : ℕ) → installed sample_plan c n ≡ o → option_and_then (λ s. s.gl) o ≡ Some b → (c ≡ 1) × (n ≡ 5) × (b ≡ 3)
bit_at_5 None c n b e h = absurd (cc)
bit_at_5 (Some s) c n b e h =
    let at = installed_at c n s e in
    elim (at.1) [
      | inl m ↦ let three = m.2 in let same : 3 ≡ b = cc in (at.0, m.0, sym same)
      | inr m ↦ let none = m.2 in absurd (cc)
    ]

bit_of : (c n b : ℕ) → gl sample_plan c n ≡ Some b → (c ≡ 1) × (n ≡ 5) × (b ≡ 3)
bit_of c n b h = bit_at_5 (installed sample_plan c n) c n b refl h

pub sample_is_plan : IsPlan sample_plan
sample_is_plan = record {
  buffer_from_1 = omega arith;
  buffer_to_4096 = omega arith;
  few_types = omega arith;
  crate_places = refl;
  station_places = λ c k e. ap (λ k'. length k'.stations) (crates c k e).1;
  few_waits = λ c w e. waits_at (crate_at sample_plan c) c w refl e;
  known_commands = commands_of;
  known_types = λ c n t e. type_at (installed sample_plan c n) c n t refl e;
  bits_in_range = λ c n b e. (let b3 = (bit_of c n b e).2 in (omega arith, omega arith));
  bits_once = λ c n d m b e h.
      (let first = bit_of c n b e in let second = bit_of d m b h in (first.0 ∙ sym second.0, first.1 ∙ sym second.1));
}
