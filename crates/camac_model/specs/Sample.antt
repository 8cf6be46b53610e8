-- The sample plan.
use Rattle.std.specs.Prelude.{ℕ, zero, suc, List, [], ◌∷◌, Option, Some, None, codes}
use Rattle.camac_module.specs.Entry.{Entry, Entries}
use Rattle.camac_module.specs.declared.kind.CommandKind.TheVariants.{Plain, Probe}
use Rattle.camac_branch.specs.declared.plan.Kind.{Kind}
use Rattle.camac_branch.specs.declared.plan.Crate.{Crate}
use Rattle.camac_branch.specs.Plan.{Layout}

-- the same so many times, and then the rest
abbrev pub times : {A : Type 0} → ℕ → A → List A → List A
times zero a rest = rest
times (suc n) a rest = a ∷ times n a rest

-- nothing at so many places
abbrev pub gap : {A : Type 0} → ℕ → List (Option A) → List (Option A)
gap n rest = times n None rest

-- a command of so many bits, and a probe
abbrev pub bits : ℕ → Option Entry
bits w = Some (record { width = w; kind = Plain })

abbrev pub probe : Option Entry
probe = Some (record { width = 24; kind = Probe })

-- a converter: F0 at A0 to A11, probes up to A15, and F8, F10, F24 and F26 at A12
abbrev pub adc_lam_row : Entries
adc_lam_row = probe ∷ gap 7 (bits 24 ∷ gap 1 (bits 24 ∷ gap 13 (bits 24 ∷ gap 1 (bits 24 ∷ gap 5 []))))

abbrev pub adc : Kind
adc = record {
  name = codes "ADC";
  commands = times 12 (bits 12 ∷ gap 31 []) (adc_lam_row ∷ times 3 (probe ∷ gap 31 []) []);
}

-- an output register: F0, F5, F16 and F27 at A0
abbrev pub reg : Kind
reg = record {
  name = codes "REG";
  commands = (bits 24 ∷ gap 4 (bits 24 ∷ gap 10 (bits 8 ∷ gap 10 (bits 24 ∷ gap 4 [])))) ∷ times 15 (gap 32 []) [];
}

abbrev pub crate_one : Crate
crate_one = record {
  waits = 2;
  stations = gap 4 (Some (record { type_no = 0; gl = Some 3 }) ∷ Some (record { type_no = 1; gl = None }) ∷ gap 17 []);
}

abbrev pub sample_plan : Layout
sample_plan = record { buffer = 4096; types = adc ∷ reg ∷ []; crates = Some crate_one ∷ gap 6 [] }
