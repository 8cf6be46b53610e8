-- The command line as `clap` is told of it, and the job that its matches name.
use Rattle.std.specs.Prelude.{◌≡◌, ◌⊎◌, ◌==◌, ◌<◌, ◌≤◌, ◌^◌, ℕ, Bool, true, false, ◌&&◌, nat_le, List, [], ◌∷◌, map, codes, count_by, Option, Some, None, unwrap_or}
use Rattle.std.specs.Char.{is_ascii_alphabetic}
use Rattle.std.specs.List.{before_first, after_first}
use Rattle.std.specs.Str.{bytes_eq}
use Rattle.std.specs.Str.Parse.{IsNumeral, digits_value}
use Rattle.clap.specs.Words.{App, HasKind, Row, Rule, Text, all_of, fault_of, first_of, kind_of, new_app, new_rule, subcommand_of, takes, with_rule, with_subcommand}
use Rattle.clap.specs.declared.builder.action.ArgAction.TheVariants.{Append, Set, SetTrue}
use Rattle.clap.specs.declared.error.Error.{Error}
use Rattle.clap.specs.declared.error.kind.ErrorKind.TheVariants as kind
use Rattle.camac_tool_words.specs.declared.words.Job.{Job}
use Rattle.camac_tool_words.specs.declared.words.Job.TheVariants.{Plan, Commands, Check, Explain, ExplainBounds, ExplainAt, ExplainPlan, ExplainRule, Bounds, Costs, Tell, Response, Run, Drive, Events}
use Rattle.camac_tool_words.specs.declared.words.JobFault.{JobFault}
use Rattle.camac_tool_words.specs.declared.words.JobFault.TheVariants.{Usage, InTwice}

abbrev pub word_rule : Text → Rule
word_rule name = record (new_rule name) { required = true }

-- that is shown by another name than its own
abbrev pub named_rule : Text → Rule
named_rule name = record (word_rule name) { value_names = 1 }

-- a word that may be missing
abbrev pub optional_rule : Text → Rule
optional_rule name = new_rule name

-- an option without a value, by its long name
abbrev pub option_rule : Text → Rule
option_rule name = record (new_rule name) { long = Some name; action = Some SetTrue }

-- an option with a value, which may stand several times
abbrev pub setting_rule : Text → Rule
setting_rule name = record (new_rule name) { long = Some name; action = Some Append; value_names = 1 }

-- an option with a value, which may stand once
abbrev pub place_rule : Text → Rule
place_rule name = record (new_rule name) { long = Some name; action = Some Set; value_names = 1 }

abbrev pub plan_app : App
plan_app = with_rule (with_rule (new_app (codes "plan")) (word_rule (codes "PLAN"))) (option_rule (codes "commands"))

-- of a command that takes a plan and a script
abbrev pub script_app : Text → App
script_app name = with_rule (with_rule (new_app name) (word_rule (codes "PLAN"))) (word_rule (codes "SCRIPT"))

abbrev pub check_app : App
check_app = script_app (codes "check")

abbrev pub explain_app : App
explain_app =
    with_rule (with_rule (with_rule (with_rule (with_rule (new_app (codes "explain")) (named_rule (codes "PLAN"))) (optional_rule (codes "SCRIPT"))) (place_rule (codes "at"))) (setting_rule (codes "turn"))) (option_rule (codes "bounds"))

abbrev pub bounds_app : App
bounds_app = script_app (codes "bounds")

abbrev pub costs_app : App
costs_app = script_app (codes "costs")

abbrev pub tell_app : App
tell_app = script_app (codes "tell")

abbrev pub response_app : App
response_app = with_rule (with_rule (script_app (codes "response")) (setting_rule (codes "every"))) (setting_rule (codes "within"))

abbrev pub run_app : App
run_app = with_rule (with_rule (script_app (codes "run")) (word_rule (codes "ANSWERS"))) (word_rule (codes "EVENTS"))

abbrev pub drive_app : App
drive_app =
    with_rule (with_rule (with_rule (new_app (codes "drive")) (word_rule (codes "PLAN"))) (word_rule (codes "SCRIPT"))) (word_rule (codes "EVENTS"))

abbrev pub events_app : App
events_app = with_rule (new_app (codes "events")) (word_rule (codes "FILE"))

-- the program's name is not among the words, a subcommand has to be named, and `--version` tells the version
abbrev pub camac_top : App
camac_top =
    record (new_app (codes "camac")) { top = record (new_app (codes "camac")).top { has_version = true; no_binary_name = true; subcommand_required = true } }

abbrev pub camac_app : App
camac_app =
    with_subcommand (with_subcommand (with_subcommand (with_subcommand (with_subcommand (with_subcommand (with_subcommand (with_subcommand (with_subcommand (with_subcommand camac_top plan_app.top) check_app.top) explain_app.top) bounds_app.top) costs_app.top) tell_app.top) response_app.top) run_app.top) drive_app.top) events_app.top

abbrev pub name_of : Job → Text
name_of (Plan plan) = codes "plan"
name_of (Commands plan) = codes "plan"
name_of (Check plan script) = codes "check"
name_of (Explain plan script) = codes "explain"
name_of (ExplainBounds plan script) = codes "explain"
name_of (ExplainAt line column turns plan script) = codes "explain"
name_of (ExplainPlan plan) = codes "explain"
name_of (ExplainRule code) = codes "explain"
name_of (Bounds plan script) = codes "bounds"
name_of (Costs plan script) = codes "costs"
name_of (Tell plan script) = codes "tell"
name_of (Response plan script every within) = codes "response"
name_of (Run plan script answers events) = codes "run"
name_of (Drive plan script events) = codes "drive"
name_of (Events file) = codes "events"

-- the names of a job's words, in order
abbrev pub ids_of : Job → List Text
ids_of (Plan plan) = codes "PLAN" ∷ []
ids_of (Commands plan) = codes "PLAN" ∷ []
ids_of (Check plan script) = codes "PLAN" ∷ codes "SCRIPT" ∷ []
ids_of (Explain plan script) = codes "PLAN" ∷ codes "SCRIPT" ∷ []
ids_of (ExplainBounds plan script) = codes "PLAN" ∷ codes "SCRIPT" ∷ []
ids_of (ExplainAt line column turns plan script) = codes "PLAN" ∷ codes "SCRIPT" ∷ []
ids_of (ExplainPlan plan) = codes "PLAN" ∷ []
ids_of (ExplainRule code) = codes "PLAN" ∷ []
ids_of (Bounds plan script) = codes "PLAN" ∷ codes "SCRIPT" ∷ []
ids_of (Costs plan script) = codes "PLAN" ∷ codes "SCRIPT" ∷ []
ids_of (Tell plan script) = codes "PLAN" ∷ codes "SCRIPT" ∷ []
ids_of (Response plan script every within) = codes "PLAN" ∷ codes "SCRIPT" ∷ []
ids_of (Run plan script answers events) = codes "PLAN" ∷ codes "SCRIPT" ∷ codes "ANSWERS" ∷ codes "EVENTS" ∷ []
ids_of (Drive plan script events) = codes "PLAN" ∷ codes "SCRIPT" ∷ codes "EVENTS" ∷ []
ids_of (Events file) = codes "FILE" ∷ []

abbrev pub words_of : Job → List Text
words_of (Plan plan) = plan.now ∷ []
words_of (Commands plan) = plan.now ∷ []
words_of (Check plan script) = plan.now ∷ script.now ∷ []
words_of (Explain plan script) = plan.now ∷ script.now ∷ []
words_of (ExplainBounds plan script) = plan.now ∷ script.now ∷ []
words_of (ExplainAt line column turns plan script) = plan.now ∷ script.now ∷ []
words_of (ExplainPlan plan) = plan.now ∷ []
words_of (ExplainRule code) = code.now ∷ []
words_of (Bounds plan script) = plan.now ∷ script.now ∷ []
words_of (Costs plan script) = plan.now ∷ script.now ∷ []
words_of (Tell plan script) = plan.now ∷ script.now ∷ []
words_of (Response plan script every within) = plan.now ∷ script.now ∷ []
words_of (Run plan script answers events) = plan.now ∷ script.now ∷ answers.now ∷ events.now ∷ []
words_of (Drive plan script events) = plan.now ∷ script.now ∷ events.now ∷ []
words_of (Events file) = file.now ∷ []

-- the words that name an input; the answers of a live run are standard input
abbrev pub inputs_of : Job → List Text
inputs_of (Plan plan) = plan.now ∷ []
inputs_of (Commands plan) = plan.now ∷ []
inputs_of (Check plan script) = plan.now ∷ script.now ∷ []
inputs_of (Explain plan script) = plan.now ∷ script.now ∷ []
inputs_of (ExplainBounds plan script) = plan.now ∷ script.now ∷ []
inputs_of (ExplainAt line column turns plan script) = plan.now ∷ script.now ∷ []
inputs_of (ExplainPlan plan) = plan.now ∷ []
inputs_of (ExplainRule code) = []
inputs_of (Bounds plan script) = plan.now ∷ script.now ∷ []
inputs_of (Costs plan script) = plan.now ∷ script.now ∷ []
inputs_of (Tell plan script) = plan.now ∷ script.now ∷ []
inputs_of (Response plan script every within) = plan.now ∷ script.now ∷ []
inputs_of (Run plan script answers events) = plan.now ∷ script.now ∷ answers.now ∷ []
inputs_of (Drive plan script events) = codes "@in" ∷ plan.now ∷ script.now ∷ []
inputs_of (Events file) = file.now ∷ []

-- a letter, and digits after it
abbrev pub is_digit : ℕ → Bool
is_digit c = nat_le 48 c && nat_le c 57

abbrev pub are_digits : Text → Bool
are_digits [] = true
are_digits (c ∷ cs) = is_digit c && are_digits cs

abbrev pub has_code_form : Text → Bool
has_code_form [] = false
has_code_form (c ∷ []) = false
has_code_form (c ∷ d ∷ cs) = (is_ascii_alphabetic c && is_digit d) && are_digits cs

-- decimal digits alone, and the number that they write
pub record IsNumber (digits : Text) (n : ℕ) : Type 0 where
  pub numeral : IsNumeral 10 digits
  pub value : n ≡ digits_value 10 digits
  pub most : n < 2 ^ 32

-- from 1 on
pub record IsCount (digits : Text) (n : ℕ) : Type 0 where
  pub number : IsNumber digits n
  pub least : 1 ≤ n

-- each of these words writes the number of its place
abbrev pub AreNumbers : List Text → List ℕ → Type 0
AreNumbers [] [] = Unit {0}
AreNumbers (word ∷ words) (n ∷ ns) = IsNumber word n × AreNumbers words ns
AreNumbers words ns = ⊥

-- on the two sides of the first colon
abbrev pub is_colon : ℕ → Bool
is_colon byte = byte == 58

pub record IsPlace (word : Text) (line column : ℕ) : Type 0 where
  pub line_is : IsCount (before_first is_colon word) line
  pub column_is : IsCount (after_first is_colon word) column

-- an option is among the words
abbrev pub is_true : Option Text → Bool
is_true None = false
is_true (Some text) = bytes_eq text (codes "true")

abbrev pub is_on : Text → List Row → Bool
is_on id rows = is_true (first_of id rows)

-- the values of an option
abbrev pub values_of : Text → List Row → List Text
values_of id rows = unwrap_or (all_of id rows) []

-- `explain` is given no place, and no turn
abbrev pub IsOfWhole : List Row → Type 0
IsOfWhole rows = (first_of (codes "at") rows ≡ None) × (first_of (codes "turn") rows ≡ None)

-- what tells jobs of one subcommand apart: the option of `plan`; whether `explain` is given a place, with turns, or asked of bounds, else whether it
-- is given a script, else whether its word may be a code; and what stands after the options of `response`
abbrev pub HasForm : Job → List Row → Type 0
HasForm (Plan plan) rows = is_on (codes "commands") rows ≡ false
HasForm (Commands plan) rows = is_on (codes "commands") rows ≡ true
HasForm (Explain plan script) rows = IsOfWhole rows × (is_on (codes "bounds") rows ≡ false)
HasForm (ExplainBounds plan script) rows = IsOfWhole rows × (is_on (codes "bounds") rows ≡ true)
HasForm (ExplainAt line column turns plan script) rows =
    (is_on (codes "bounds") rows ≡ false) × AreNumbers (values_of (codes "turn") rows) turns.items
    × (word : Text) × (first_of (codes "at") rows ≡ Some word) × IsPlace word line column
HasForm (ExplainPlan plan) rows = IsOfWhole rows × (is_on (codes "bounds") rows ≡ false) × (first_of (codes "SCRIPT") rows ≡ None) × (has_code_form plan.now ≡ false)
HasForm (ExplainRule code) rows = IsOfWhole rows × (is_on (codes "bounds") rows ≡ false) × (first_of (codes "SCRIPT") rows ≡ None) × (has_code_form code.now ≡ true)
HasForm (Response plan script every within) rows =
    (map (λ w. w.now) every.items ≡ values_of (codes "every") rows) × (map (λ w. w.now) within.items ≡ values_of (codes "within") rows)
HasForm _ rows = Unit {0}

-- the job is the subcommand in its form with the values that these matches hold, in order
abbrev pub IsJob : Job → Option (Text × List Row) → Type 0
IsJob job None = ⊥
IsJob job (Some found) =
    (found.0 ≡ name_of job) × HasForm job found.1 × (map (λ id. first_of id found.1) (ids_of job) ≡ map (λ word. Some word) (words_of job))

-- how many inputs are standard input
abbrev pub input_count_of : Job → ℕ
input_count_of job = count_by (λ word. bytes_eq word (codes "@in")) (inputs_of job)

-- no job is the subcommand with the values of these matches
abbrev pub NamesNoJob : Option (Text × List Row) → Type 0
NamesNoJob found = (job : Job) → IsJob job found → ⊥

-- the job that the matches name, if they name one
abbrev pub NamesJob : Option (Text × List Row) → Option Job → Type 0
NamesJob found (Some job) = IsJob job found
NamesJob found None = NamesNoJob found

abbrev pub IsOfMemory : JobFault → Type 0
IsOfMemory (Usage e) = kind_of e ≡ kind.OutOfMemory
IsOfMemory InTwice = ⊥

-- Memory ran out, or `clap` does not take the words: its error has the kind of the first step of its reading that fails. (Help and the
-- version are such kinds.)
abbrev pub IsRefusalOf : List Text → Error → Type 0
IsRefusalOf words e = (takes camac_app words ≡ true → kind_of e ≡ kind.OutOfMemory) × HasKind (fault_of camac_app words) e

-- Standard input is named twice among the inputs of the job that the words name; or `clap` does not take the words, or memory ran out, or
-- its matches name no job.
abbrev pub IsFaultOf : List Text → JobFault → Type 0
IsFaultOf words InTwice = (job : Job) × IsJob job (subcommand_of camac_app words) × (1 < input_count_of job)
IsFaultOf words (Usage e) = IsRefusalOf words e ⊎ NamesNoJob (subcommand_of camac_app words)
