-- What is read at each place of a table.
use Rattle.std.specs.Prelude.{ℕ, List, [], ◌∷◌, ◌++◌, length, nat_lt}
use Rattle.camac_tokens.specs.declared.token.Sign.TheVariants as sign
use Rattle.camac_tokens.specs.declared.fault.Limit.TheVariants as limit
use Rattle.camac_tokens.specs.declared.fault.TextCase.TheVariants as text_case
use Rattle.camac_text_cursor.specs.declared.choice.Choice.TheVariants as choice
use Rattle.camac_text_cursor.specs.Reading.{Reader, ◌>>=◌, ◌>>◌, give, ask, change, advance, check, until}
use Rattle.camac_text_cursor.specs.Readers.{is_number, expect_sign, number_here, new_name}
use Rattle.camac_text_cursor.specs.Declaring.{with_table}
use Rattle.camac_lang.specs.declared.spot.Spot.{Spot}

-- a word after so many words
unfoldable pub word_after : ℕ → Reader ℕ
word_after count = do
  n ← number_here
  check (nat_lt n 16777216) (text_case.Number 16777215)
  check (nat_lt count 1024) (text_case.Limit limit.TableWords)
  advance
  give n

abbrev pub one_more_word : List ℕ → Reader (List ℕ)
one_more_word words = word_after (length words) >>= λ w. give (words ++ w ∷ [])

unfoldable pub table_words : Reader (List ℕ)
table_words = do
  first ← word_after 0
  until choice.Number is_number one_more_word (first ∷ [])

unfoldable pub table_declaration : Spot → Reader (Unit {0})
table_declaration spot = do
  known ← ask (λ s. s.tables)
  check (nat_lt (length known) 16) (text_case.Limit limit.Tables)
  advance
  name ← new_name
  advance
  expect_sign sign.Equals
  words ← table_words
  change (with_table (record { spot = spot; name = name; words = words }))
