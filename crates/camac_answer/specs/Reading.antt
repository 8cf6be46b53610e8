-- What an answer text gives: that of its lines up to the first fault, and that fault or none.
use Rattle.std.specs.Prelude.{ℕ, ◌+◌, nat_le, List, [], ◌∷◌, Option, Some, None, Result, Ok, Err, if◌then◌else◌}
use Rattle.camac_answer.specs.declared.fault.AnswerRule.{AnswerRule}
use Rattle.camac_answer.specs.declared.fault.AnswerRule.TheVariants.{TooMany}
use Rattle.camac_answer.specs.declared.fault.AnswerFault.{AnswerFault}
use Rattle.camac_answer.specs.declared.given.Given.{Given}
use Rattle.camac_answer.specs.Lines.{lines, line_given}

pub record Reading : Type 0 where
  pub given : List Given
  pub fault : Option AnswerFault

-- nothing but a fault, or nothing at all
abbrev pub no_more : Option AnswerFault → Reading
no_more f = record { given = []; fault = f }

abbrev pub with_given : Given → Reading → Reading
with_given g rest = record rest { given = g ∷ rest.given }

abbrev pub broken : AnswerRule → (line : ℕ) → AnswerFault
broken rule line = record { rule = rule; line = line }

-- a line after n others, and what the lines after it give
abbrev pub with_line : ℕ → Result Given AnswerRule → Reading → Reading
with_line n (Ok g) rest = with_given g rest
with_line n (Err rule) rest = no_more (Some (broken rule (n + 1)))

-- lines after n others, where a text may have so many; a line beyond that is one too many, whatever it holds
abbrev pub reading_from : (limit : ℕ) → ℕ → List (List ℕ) → Reading
reading_from limit n [] = no_more None
reading_from limit n (line ∷ rest) =
    if nat_le limit n then no_more (Some (broken TooMany (limit + 1))) else with_line n (line_given line) (reading_from limit (n + 1) rest)

abbrev pub reading : (limit : ℕ) → List ℕ → Reading
reading limit text = reading_from limit 0 (lines text)

-- what the next line gives, or none at the end, or its fault
abbrev pub Answered : Type 0
Answered = Result (Option Given) AnswerFault
