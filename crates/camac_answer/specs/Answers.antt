-- What is left of the lines of an answer text, and what one of them gives.
use Rattle.std.specs.Prelude.{◌≡◌, ◌<◌, ◌≤◌, ℕ, ◌+◌, nat_le, nat_lt, List, [], ◌∷◌, length, Option, Some, None, Result, Ok, Err, if◌then◌else◌}
use Rattle.std.specs.Io.KnownBytes.{Consumes}
use Rattle.camac_answer.specs.declared.fault.AnswerRule.{AnswerRule}
use Rattle.camac_answer.specs.declared.fault.AnswerRule.TheVariants.{TooMany}
use Rattle.camac_answer.specs.declared.given.Given.{Given}
use Rattle.camac_answer.specs.Lines.{lines, first_line, line_given}
use Rattle.camac_answer.specs.Reading.{Reading, Answered, no_more, with_given, reading_from, reading, broken}

-- what a text gives that follows n lines, where it is known
abbrev pub left_in : (limit : ℕ) → ℕ → Option (List ℕ) → Option Reading
left_in limit n None = None
left_in limit n (Some text) = Some (reading_from limit n (lines text))

-- The next result of what is left: that of a line, behind which this is left; or the end, or a fault.
abbrev pub IsNext : Option Reading → Answered → Option Reading → Type 0
IsNext None r new = Unit {0}
IsNext (Some old) (Ok (Some g)) new = (rest : Reading) × (old ≡ with_given g rest) × (new ≡ Some rest)
IsNext (Some old) (Ok None) new = old ≡ no_more None
IsNext (Some old) (Err f) new = old ≡ no_more (Some f)

-- how many bytes judge a line after n others: of one that is too many the first
abbrev pub window : (limit : ℕ) → ℕ → ℕ
window limit n = if nat_lt n limit then 20 else 1

-- the reader gave bytes that do not judge a line yet: fewer than so many, and no LF
pub record IsOpen (most : ℕ) (old new : Option (List ℕ)) : Type 0 where
  pub bytes : List ℕ
  pub taken : Consumes old new bytes
  pub few : length bytes < most
  pub no_end : length bytes ≤ length (first_line bytes)

-- a text gives no more than it may have lines
abbrev pub AnswersAreFew : Type 0
AnswersAreFew = (limit : ℕ) (text : List ℕ) → length (reading limit text).given ≤ limit

abbrev pub judged : ℕ → Result Given AnswerRule → Answered
judged n (Ok g) = Ok (Some g)
judged n (Err rule) = Err (broken rule (n + 1))

-- the result of the first line of a text after n others
abbrev pub next_answer : (limit : ℕ) → ℕ → List ℕ → Answered
next_answer limit n [] = Ok None
next_answer limit n (b ∷ text) =
    if nat_le limit n then Err (broken TooMany (limit + 1)) else judged n (line_given (first_line (b ∷ text)))
