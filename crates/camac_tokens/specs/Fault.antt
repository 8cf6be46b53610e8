-- A fault of a text, beside the refusals of memory.
use Rattle.std.specs.Prelude.{◌≡◌, Result, Ok, Err, List}
use Rattle.std.specs.Global.{Vec}
use Rattle.camac_lang.specs.declared.spot.Spot.{Spot}
use Rattle.camac_tokens.specs.declared.fault.TextCase.{TextCase}
use Rattle.camac_tokens.specs.declared.fault.TextFault.{TextFault}
use Rattle.camac_tokens.specs.declared.fault.TextFault.TheVariants as fault

-- how a rule is broken, and where the token stands that shows it
pub record Fault : Type 0 where
  pub case : TextCase
  pub spot : Spot

-- an error of the program: this fault, or memory that was refused
abbrev pub Fails : {A : Type 0} → TextFault → Result A Fault → Type 0
Fails fault.OutOfMemory read = Unit {0}
Fails (fault.Broken case spot) read = read ≡ Err (record { case = case; spot = spot })

-- The program answered the value that is read, or its fault, unless memory was refused.
abbrev pub Answers : {A : Type 0} → Result A TextFault → Result A Fault → Type 0
Answers (Ok x) read = read ≡ Ok x
Answers (Err e) read = Fails e read

-- the same for a list
abbrev pub AnswersList : {A : Type 0} → Result (Vec A) TextFault → Result (List A) Fault → Type 0
AnswersList (Ok v) read = read ≡ Ok v.items
AnswersList (Err e) read = Fails e read
