-- What might stand at a place, in words: the noted choices as groups, signs and words.
use Rattle.std.specs.Prelude.{ℕ, ◌+◌, Bool, ◌&&◌, ◌||◌, not, List, [], ◌∷◌, ◌++◌, codes, filter, length, map, if◌then◌else◌}
use Rattle.std.specs.List.{concat}
use Rattle.camac_lines.specs.Words.{before_item}
use Rattle.camac_tokens.specs.declared.token.Keyword.{Keyword}
use Rattle.camac_tokens.specs.declared.token.Keyword.TheVariants as word
use Rattle.camac_tokens.specs.declared.token.Sign.{Sign}
use Rattle.camac_tokens.specs.declared.token.Sign.TheVariants as sign
use Rattle.camac_text_cursor.specs.Choice.{begins_declaration, begins_statement, compares, is_of_product, is_of_sum}
use Rattle.camac_text_cursor.specs.declared.choice.Choice.TheVariants as choice
use Rattle.camac_text_cursor.specs.declared.choice.Choices.{Choices}
use Rattle.camac_explain_text_place.specs.Place.{has}
use Rattle.camac_explain_text_words.specs.Spelled.{is_mark, is_word, keywords, sign_text, word_text}
use Rattle.camac_explain_text_place.specs.declared.expected.Expected.{Expected}
use Rattle.camac_explain_text_place.specs.declared.expected.Expected.TheVariants as expected
use Rattle.camac_explain_text_place.specs.declared.expected.Group.{Group}
use Rattle.camac_explain_text_place.specs.declared.expected.Group.TheVariants as group
use Rattle.camac_explain_text_place.specs.declared.expected.TheConstants.{DECLARATION, STATEMENT, CONDITION, EXPRESSION, NUMBER, NAME, OPERATOR, COMPARISON}

-- a second `not` may not stand after one
abbrev pub is_condition : Choices → Bool
is_condition noted = has noted choice.Flag && has noted (choice.Word word.Not)

abbrev pub is_value : Choices → Bool
is_value noted = has noted choice.Number && has noted (choice.Mark sign.LeftBracket)

-- a name might stand at a place, and neither a number nor the beginning of a statement
abbrev pub is_name : Choices → Bool
is_name noted = has noted choice.Name && (not (has noted choice.Number) && not (has noted choice.Statement))

abbrev pub is_group : Choices → Group → Bool
is_group noted group.Declaration = has noted choice.Declaration
is_group noted group.Statement = has noted choice.Statement
is_group noted group.Condition = is_condition noted
is_group noted group.Expression = is_value noted && not (is_condition noted)
is_group noted group.Number = has noted choice.Number && not (is_value noted)
is_group noted group.Name = is_name noted
is_group noted group.Operator = has noted choice.Sum
is_group noted group.Comparison = has noted choice.Comparison

-- a sign of arithmetic
abbrev pub is_operator : Sign → Bool
is_operator s = is_of_sum s || is_of_product s

-- a sign and a word that might stand there, and are in none of the groups
abbrev pub is_sign_alone : Choices → Sign → Bool
is_sign_alone noted s =
    has noted (choice.Mark s) && not (is_operator s || (compares s || (is_mark s sign.LeftBracket && is_value noted)))

abbrev pub is_of_condition : Keyword → Bool
is_of_condition w = is_word w word.Not || (is_word w word.Q || is_word w word.X)

abbrev pub is_word_alone : Choices → Keyword → Bool
is_word_alone noted w =
    has noted (choice.Word w)
    && not ((begins_declaration w && has noted choice.Declaration) || (begins_statement w || (is_of_condition w && is_condition noted)))

-- the word that is one nowhere else
abbrev pub each_if : Choices → List Expected
each_if noted = if has noted choice.Each then expected.Each ∷ [] else []

abbrev pub groups : List Group
groups =
    group.Declaration ∷ group.Statement ∷ group.Condition ∷ group.Expression ∷ group.Number ∷ group.Name ∷ group.Operator ∷ group.Comparison ∷ []

-- those of brackets, of expressions, of lists, of comparisons and of moves
abbrev pub signs : List Sign
signs =
    sign.LeftBrace ∷ sign.RightBrace ∷ sign.LeftBracket ∷ sign.RightBracket ∷ sign.Plus ∷ sign.Minus ∷ sign.Times ∷ sign.Over ∷ sign.Modulo
    ∷ sign.Equals ∷ sign.Comma ∷ sign.Less ∷ sign.AtMost ∷ sign.More ∷ sign.AtLeast ∷ sign.Same ∷ sign.Differs ∷ sign.Into ∷ sign.From ∷ sign.UpTo ∷ []

-- the groups, the signs and the words, each in the order of its list
unfoldable pub expected_of : Choices → List Expected
expected_of noted =
    ((map expected.Group (filter (is_group noted) groups) ++ map expected.Sign (filter (is_sign_alone noted) signs))
    ++ map expected.Word (filter (is_word_alone noted) keywords))
    ++ each_if noted

abbrev pub group_text : Group → List ℕ
group_text group.Declaration = DECLARATION.now
group_text group.Statement = STATEMENT.now
group_text group.Condition = CONDITION.now
group_text group.Expression = EXPRESSION.now
group_text group.Number = NUMBER.now
group_text group.Name = NAME.now
group_text group.Operator = OPERATOR.now
group_text group.Comparison = COMPARISON.now

abbrev pub expected_text : Expected → List ℕ
expected_text (expected.Group g) = group_text g
expected_text (expected.Sign s) = concat (codes "`" ∷ sign_text s ∷ codes "`" ∷ [])
expected_text (expected.Word w) = concat (codes "`" ∷ word_text w ∷ codes "`" ∷ [])
expected_text expected.Each = codes "`each`"

-- a list, the first of which has this number among so many
abbrev pub items_from : (number count : ℕ) → List Expected → List ℕ
items_from number count [] = []
items_from number count (e ∷ es) = (before_item number count (codes " or ") ++ expected_text e) ++ items_from (number + 1) count es

abbrev pub list_text : List Expected → List ℕ
list_text es = items_from 0 (length es) es
