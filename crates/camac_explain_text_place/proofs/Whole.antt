-- Each sign and each word of the language is looked at for what may stand at a place.
use Rattle.std.proofs.Common.{◌≡◌, true, refl}
use Rattle.std.specs.Prelude.{find, is_some}
use Rattle.camac_tokens.specs.declared.token.Keyword.{Keyword}
use Rattle.camac_tokens.specs.declared.token.Keyword.TheVariants as word
use Rattle.camac_tokens.specs.declared.token.Sign.{Sign}
use Rattle.camac_tokens.specs.declared.token.Sign.TheVariants as sign
use Rattle.camac_explain_text_words.specs.Spelled.{is_mark, is_word, keywords}
use Rattle.camac_explain_text_place.specs.Expected.{signs}

pub each_sign : (s : Sign) → is_some (find (is_mark s) signs) ≡ true
each_sign sign.LeftBrace = refl
each_sign sign.RightBrace = refl
each_sign sign.LeftBracket = refl
each_sign sign.RightBracket = refl
each_sign sign.Plus = refl
each_sign sign.Minus = refl
each_sign sign.Times = refl
each_sign sign.Over = refl
each_sign sign.Modulo = refl
each_sign sign.Equals = refl
each_sign sign.Comma = refl
each_sign sign.Less = refl
each_sign sign.AtMost = refl
each_sign sign.More = refl
each_sign sign.AtLeast = refl
each_sign sign.Same = refl
each_sign sign.Differs = refl
each_sign sign.Into = refl
each_sign sign.From = refl
each_sign sign.UpTo = refl

pub each_word : (w : Keyword) → is_some (find (is_word w) keywords) ≡ true
each_word word.Table = refl
each_word word.Cdlam = refl
each_word word.Var = refl
each_word word.Proc = refl
each_word word.Service = refl
each_word word.Within = refl
each_word word.Cycles = refl
each_word word.Event = refl
each_word word.Words = refl
each_word word.Steps = refl
each_word word.Cdreg = refl
each_word word.Cfsa = refl
each_word word.Cssa = refl
each_word word.Cfmad = refl
each_word word.Cfubc = refl
each_word word.Cfubr = refl
each_word word.Max = refl
each_word word.Limit = refl
each_word word.Tally = refl
each_word word.Put = refl
each_word word.Cccz = refl
each_word word.Cccc = refl
each_word word.Ctci = refl
each_word word.Ctcd = refl
each_word word.Ctgl = refl
each_word word.Ccci = refl
each_word word.Cccd = refl
each_word word.On = refl
each_word word.Off = refl
each_word word.Cclm = refl
each_word word.Cclc = refl
each_word word.Ctlm = refl
each_word word.If = refl
each_word word.Else = refl
each_word word.For = refl
each_word word.To = refl
each_word word.While = refl
each_word word.Turns = refl
each_word word.By = refl
each_word word.Keep = refl
each_word word.In = refl
each_word word.Lock = refl
each_word word.Call = refl
each_word word.And = refl
each_word word.Not = refl
each_word word.Q = refl
each_word word.X = refl
