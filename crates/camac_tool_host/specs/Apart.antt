-- That EVENTS is another file than each input of a run, and than standard output and standard error.
use Rattle.std.specs.Prelude.{◌≡◌, ◌⊎◌, ◌&&◌, Bool, true, false, codes, Option, Some, None, nat_eq}
use Rattle.std.specs.Str.{bytes_eq}
use Rattle.clap.specs.Words.{Text}
use Rattle.camac_tool_host.specs.declared.host.Earlier.{Earlier}
use Rattle.camac_tool_host.specs.declared.host.FileId.{FileId}
use Rattle.camac_tool_host.specs.declared.host.RunWords.{RunWords}

-- the words of a run, and what becomes of an EVENTS that holds bytes
pub record Words : Type 0 where
  pub plan : Text
  pub script : Text
  pub answers : Text
  pub events : Text
  pub earlier : Earlier

abbrev pub words_of : RunWords → Words
words_of w = record {
  plan = w.plan.now;
  script = w.script.now;
  answers = w.answers.now;
  events = w.events.now;
  earlier = w.earlier;
}

-- one file has one device and one number there
abbrev pub is_same : FileId → FileId → Bool
is_same a b = nat_eq a.device b.device && nat_eq a.number b.number

-- such a file is there, and it is another than this
abbrev pub Differs : (Is : FileId → Type 0) → FileId → Type 0
Differs Is file = (other : FileId) × Is other × (is_same file other ≡ false)

-- such a file is there, and it is this
abbrev pub Meets : (Is : FileId → Type 0) → FileId → Type 0
Meets Is file = (other : FileId) × Is other × (is_same file other ≡ true)

-- of the plan's input; the sample plan is read from none
abbrev pub PlanMeets : {I : Type 0} → (reads : I → FileId → Type 0) → Option I → FileId → Type 0
PlanMeets reads None file = ⊥
PlanMeets reads (Some input) file = Meets (reads input) file

abbrev pub PlanDiffers : {I : Type 0} → (reads : I → FileId → Type 0) → Option I → FileId → Type 0
PlanDiffers reads None file = Unit {0}
PlanDiffers reads (Some input) file = Differs (reads input) file

abbrev pub is_sample : Text → Bool
is_sample word = bytes_eq word (codes "@sample")

abbrev pub name_in : (is_standard : Bool) → Text → Text
name_in true word = codes "/proc/self/fd/0"
name_in false word = word

-- the name of the file that the input of a word reads: `@in` is standard input
abbrev pub name_of : Text → Text
name_of word = name_in (bytes_eq word (codes "@in")) word

-- by which file was found under a name, if one that can be the same as another
module _ (finds : Text → Option FileId → Type 0) where
  abbrev pub IsOther : (name : Text) → FileId → Type 0
  IsOther name = Differs (λ other. finds name (Some other))

  -- the input of a word reads the file that was found under its name
  abbrev pub Opens : (reads : FileId → Type 0) → (word : Text) → Type 0
  Opens reads word = (file : FileId) → reads file → finds (name_of word) (Some file)

  abbrev pub OpensPlan : {I : Type 0} → (reads : I → FileId → Type 0) → (plan : Text) → Option I → Type 0
  OpensPlan reads plan None = is_sample plan ≡ true
  OpensPlan reads plan (Some input) = Opens (reads input) plan

  -- standard output and standard error are other files
  abbrev pub DiffersFromOutputs : FileId → Type 0
  DiffersFromOutputs file = IsOther (codes "/proc/self/fd/1") file × IsOther (codes "/proc/self/fd/2") file

  -- No file was found under the name of EVENTS that can be the same as another; or one was, and the standard outputs and the inputs are others.
  abbrev pub IsApart : (events : Text) → (InputsDiffer : FileId → Type 0) → Type 0
  IsApart events InputsDiffer = finds events None ⊎ ((file : FileId) × finds events (Some file) × DiffersFromOutputs file × InputsDiffer file)

  -- those of these words
  abbrev pub IsApartFrom : Words → Type 0
  IsApartFrom w =
      IsApart w.events (λ file. ((is_sample w.plan ≡ true) ⊎ IsOther (name_of w.plan) file) × IsOther (name_of w.script) file × IsOther (name_of w.answers) file)

  abbrev pub IsNamed : (name : Text) → FileId → Type 0
  IsNamed name = Meets (λ other. finds name (Some other))

  -- The file that was found under the name of EVENTS is that of a standard output or of an input.
  abbrev pub IsTaken : (events : Text) → (InputMeets : FileId → Type 0) → Type 0
  IsTaken events InputMeets =
      (file : FileId) × finds events (Some file) × ((IsNamed (codes "/proc/self/fd/1") file ⊎ IsNamed (codes "/proc/self/fd/2") file) ⊎ InputMeets file)

  -- an input of these words
  abbrev pub IsTakenBy : Words → Type 0
  IsTakenBy w = IsTaken w.events (λ file. IsNamed (name_of w.plan) file ⊎ (IsNamed (name_of w.script) file ⊎ IsNamed (name_of w.answers) file))
