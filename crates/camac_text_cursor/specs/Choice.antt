-- The tokens of which the grammar takes any one at a place.
use Rattle.std.specs.Prelude.{Bool, true, false, ◌||◌, ◌==◌, Option, Some, if◌then◌else◌}
use Rattle.std.specs.Int.{bit_at}
use Rattle.camac_tokens.specs.declared.token.Keyword.{Keyword}
use Rattle.camac_tokens.specs.declared.token.Keyword.TheVariants as word
use Rattle.camac_tokens.specs.declared.token.Sign.{Sign}
use Rattle.camac_tokens.specs.declared.token.Sign.TheVariants as sign
use Rattle.camac_tokens.specs.declared.token.TokenKind.{TokenKind}
use Rattle.camac_tokens.specs.declared.token.TokenKind.TheVariants as kind
use Rattle.camac_text_cursor.specs.Readers.{is_keyword, is_sign, is_name, is_number, is_each}
use Rattle.camac_text_cursor.specs.declared.choice.Choice.{Choice}
use Rattle.camac_text_cursor.specs.declared.choice.Choice.TheVariants as choice
use Rattle.camac_text_cursor.specs.declared.choice.Choices.{Choices}
use Rattle.camac_text_cursor.specs.Tried.{place}

abbrev pub is_word_that : (Keyword → Bool) → Option TokenKind → Bool
is_word_that test (Some (kind.Keyword w)) = test w
is_word_that test _ = false

abbrev pub is_sign_that : (Sign → Bool) → Option TokenKind → Bool
is_sign_that test (Some (kind.Sign s)) = test s
is_sign_that test _ = false

abbrev pub begins_declaration : Keyword → Bool
begins_declaration word.Table = true
begins_declaration word.Cdlam = true
begins_declaration word.Var = true
begins_declaration word.Proc = true
begins_declaration word.Service = true
begins_declaration _ = false

-- in a procedure, too
abbrev pub begins_anywhere : Keyword → Bool
begins_anywhere word.Cdreg = true
begins_anywhere word.Cfsa = true
begins_anywhere word.Cssa = true
begins_anywhere word.Cfmad = true
begins_anywhere word.Cfubc = true
begins_anywhere word.Cfubr = true
begins_anywhere word.Put = true
begins_anywhere word.Cccz = true
begins_anywhere word.Cccc = true
begins_anywhere word.Ctci = true
begins_anywhere word.Ctcd = true
begins_anywhere word.Ctgl = true
begins_anywhere word.Ccci = true
begins_anywhere word.Cccd = true
begins_anywhere word.Cclm = true
begins_anywhere word.Cclc = true
begins_anywhere word.Ctlm = true
begins_anywhere word.If = true
begins_anywhere word.For = true
begins_anywhere word.While = true
begins_anywhere word.Call = true
begins_anywhere _ = false

abbrev pub is_lock : Keyword → Bool
is_lock word.Lock = true
is_lock _ = false

-- `lock` begins a statement, too, and a procedure refuses it by a case of its own
abbrev pub begins_statement : Keyword → Bool
begins_statement w = begins_anywhere w || is_lock w

abbrev pub is_flag : Keyword → Bool
is_flag word.Q = true
is_flag word.X = true
is_flag _ = false

abbrev pub is_switch : Keyword → Bool
is_switch word.On = true
is_switch word.Off = true
is_switch _ = false

abbrev pub is_arrow : Sign → Bool
is_arrow sign.Into = true
is_arrow sign.From = true
is_arrow _ = false

abbrev pub is_of_sum : Sign → Bool
is_of_sum sign.Plus = true
is_of_sum sign.Minus = true
is_of_sum _ = false

abbrev pub is_of_product : Sign → Bool
is_of_product sign.Times = true
is_of_product sign.Over = true
is_of_product sign.Modulo = true
is_of_product _ = false

abbrev pub compares : Sign → Bool
compares sign.Less = true
compares sign.AtMost = true
compares sign.More = true
compares sign.AtLeast = true
compares sign.Same = true
compares sign.Differs = true
compares _ = false

abbrev pub takes : Choice → Option TokenKind → Bool
takes (choice.Word w) at = is_keyword w at
takes (choice.Mark s) at = is_sign s at
takes choice.Name at = is_name at
takes choice.Number at = is_number at
takes choice.Declaration at = is_word_that begins_declaration at
takes choice.Statement at = is_word_that begins_anywhere at
takes choice.Flag at = is_word_that is_flag at
takes choice.Switch at = is_word_that is_switch at
takes choice.Arrow at = is_sign_that is_arrow at
takes choice.Sum at = is_sign_that is_of_sum at
takes choice.Product at = is_sign_that is_of_product at
takes choice.Comparison at = is_sign_that compares at
takes choice.Each at = is_each at

-- ---- sets of choices

-- The choice that takes all that this one takes and more, if there is one.
abbrev pub group_of_word : Keyword → Choice
group_of_word w =
    if begins_declaration w then choice.Declaration
    else (if begins_anywhere w then choice.Statement
    else (if is_flag w then choice.Flag
    else (if is_switch w then choice.Switch else choice.Word w)))

abbrev pub group_of_sign : Sign → Choice
group_of_sign s =
    if is_arrow s then choice.Arrow
    else (if is_of_sum s then choice.Sum
    else (if is_of_product s then choice.Product
    else (if compares s then choice.Comparison else choice.Mark s)))

abbrev pub group : Choice → Choice
group (choice.Word w) = group_of_word w
group (choice.Mark s) = group_of_sign s
group c = c

-- whether all of a choice are in a set
abbrev pub has : Choice → (Choice → Bool) → Bool
has c set = set c || set (group c)

-- the set that the program holds
abbrev pub held : Choices → Choice → Bool
held set c = bit_at set.0 (place c) == 1
