-- What is read at each place of the ranges that a loop keeps.
use Rattle.std.specs.Prelude.{ℕ, List, [], ◌∷◌, ◌++◌, map, Bool, not, nat_eq, if◌then◌else◌}
use Rattle.camac_lang.specs.Tests.{each}
use Rattle.camac_lang.specs.Tree.{Keep}
use Rattle.camac_tokens.specs.declared.token.Keyword.TheVariants as word
use Rattle.camac_tokens.specs.declared.token.Sign.TheVariants as sign
use Rattle.camac_tokens.specs.declared.fault.TextCase.{TextCase}
use Rattle.camac_tokens.specs.declared.fault.TextCase.TheVariants as text_case
use Rattle.camac_text_phrases.specs.declared.keeping.Own.{Own}
use Rattle.camac_text_phrases.specs.declared.keeping.Own.TheVariants as of_loop
use Rattle.camac_text_cursor.specs.declared.choice.Choice.TheVariants as choice
use Rattle.camac_text_cursor.specs.Reading.{Reader, ◌>>=◌, ◌>>◌, give, peek, advance, missing, check, until}
use Rattle.camac_text_cursor.specs.Readers.{is_keyword, is_sign, expect, expect_sign, any_number, variable_here}

-- the variable of a loop's own, and what is told where it is kept
abbrev pub own_place : Own → ℕ
own_place (of_loop.Counter place) = place
own_place (of_loop.Measure place) = place

abbrev pub own_case : Own → TextCase
own_case (of_loop.Counter place) = text_case.CounterKept
own_case (of_loop.Measure place) = text_case.MeasureKept

-- the variables that a further keep may not have: the loop's own, and those that are kept
abbrev pub taken : Own → List Keep → List ℕ
taken own keeps = own_place own ∷ map (λ k. k.variable) keeps

abbrev pub is_free : ℕ → Own → List Keep → Bool
is_free place own keeps = each (λ x. not (nat_eq x place)) (taken own keeps)

-- what is told of a variable that is not free
abbrev pub kept_case : Own → ℕ → TextCase
kept_case own place = if nat_eq (own_place own) place then own_case own else text_case.KeptTwice

unfoldable pub keep_at : Own → List Keep → Reader Keep
keep_at own keeps = do
  place ← variable_here
  check (is_free place own keeps) (kept_case own place)
  advance
  expect word.In
  low ← any_number
  expect_sign sign.UpTo
  high ← any_number
  give (record { variable = place; low = low; high = high })

-- `,` and a keep
unfoldable pub next_keep : Own → List Keep → Reader Keep
next_keep own keeps = advance >> keep_at own keeps

abbrev pub one_more_keep : Own → List Keep → Reader (List Keep)
one_more_keep own keeps = next_keep own keeps >>= λ k. give (keeps ++ k ∷ [])

unfoldable pub keep_list : Own → Reader (List Keep)
keep_list own = do
  advance
  first ← keep_at own []
  until (choice.Mark sign.Comma) (is_sign sign.Comma) (one_more_keep own) (first ∷ [])

-- the kept ranges of a loop with this variable of its own, if it has any
unfoldable pub keeps_at : Own → Reader (List Keep)
keeps_at own = peek >>= λ k. if is_keyword word.Keep k then keep_list own else missing (choice.Word word.Keep) []
