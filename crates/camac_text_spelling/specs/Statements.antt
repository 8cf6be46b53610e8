-- The tokens of statements and blocks.
use Rattle.std.specs.Prelude.{List, [], ◌∷◌, ◌++◌}
use Rattle.camac_lang.specs.Tree.{Statement, assign, set_register, single, address_scan, q_stop, q_repeat, put, crate_call, lam_call, choose, choose_else, for_, for_each, while_, locked, call, Block, done, next}
use Rattle.camac_lang.specs.declared.word.WordSize.{WordSize}
use Rattle.camac_lang.specs.declared.word.WordSize.TheVariants as size
use Rattle.camac_lang.specs.declared.word.CrateCall.{CrateCall}
use Rattle.camac_lang.specs.declared.word.CrateCall.TheVariants as crate_word
use Rattle.camac_lang.specs.declared.word.LamCall.{LamCall}
use Rattle.camac_lang.specs.declared.word.LamCall.TheVariants as lam_word
use Rattle.camac_tokens.specs.declared.token.Keyword.{Keyword}
use Rattle.camac_tokens.specs.declared.token.Keyword.TheVariants as keyword
use Rattle.camac_tokens.specs.declared.token.Sign.TheVariants as mark
use Rattle.camac_tokens.specs.declared.token.TokenKind.TheVariants as kind
use Rattle.camac_text_cursor.specs.Readers.{each_word}
use Rattle.camac_text_spelling.specs.Pieces.{Piece, first_piece, first_word, word, sign, numeral, name, separated, Names, text_at, name_at}
use Rattle.camac_text_spelling.specs.Phrases.{expression, condition, move, keeps, table, most, tally}

abbrev pub single_word : WordSize → Keyword
single_word size.Full = keyword.Cfsa
single_word size.Short = keyword.Cssa

-- the word of a call on a crate, and what stands after the crate
abbrev pub crate_keyword : CrateCall → Keyword
crate_keyword crate_word.Initialise = keyword.Cccz
crate_keyword crate_word.Clear = keyword.Cccc
crate_keyword crate_word.InhibitOn = keyword.Ccci
crate_keyword crate_word.InhibitOff = keyword.Ccci
crate_keyword crate_word.TestInhibit = keyword.Ctci
crate_keyword crate_word.DemandOn = keyword.Cccd
crate_keyword crate_word.DemandOff = keyword.Cccd
crate_keyword crate_word.TestDemandOutput = keyword.Ctcd
crate_keyword crate_word.TestDemand = keyword.Ctgl

abbrev pub crate_switch : CrateCall → List Piece
crate_switch crate_word.InhibitOn = word keyword.On ∷ []
crate_switch crate_word.InhibitOff = word keyword.Off ∷ []
crate_switch crate_word.DemandOn = word keyword.On ∷ []
crate_switch crate_word.DemandOff = word keyword.Off ∷ []
crate_switch _ = []

-- the same of a call at a LAM
abbrev pub lam_keyword : LamCall → Keyword
lam_keyword lam_word.Enable = keyword.Cclm
lam_keyword lam_word.Disable = keyword.Cclm
lam_keyword lam_word.Clear = keyword.Cclc
lam_keyword lam_word.Test = keyword.Ctlm

abbrev pub lam_switch : LamCall → List Piece
lam_switch lam_word.Enable = word keyword.On ∷ []
lam_switch lam_word.Disable = word keyword.Off ∷ []
lam_switch _ = []

abbrev pub braced : List Piece → List Piece
braced ps = sign mark.LeftBrace ∷ (ps ++ sign mark.RightBrace ∷ [])

abbrev mutual
  pub statement : Names → Statement → List Piece
  statement n (assign spot x e) = first_piece spot (kind.Name (text_at n.variables x)) ∷ sign mark.Equals ∷ expression n e
  statement n (set_register spot r c s a) =
      first_word spot keyword.Cdreg ∷ name_at n.registers r ∷ numeral 1 ∷ (expression n c ++ (expression n s ++ expression n a))
  statement n (single spot size f r m) =
      first_word spot (single_word size) ∷ numeral f ∷ name_at n.registers r ∷ move n m
  statement n (address_scan spot f first last e x) =
      first_word spot keyword.Cfmad ∷ numeral f ∷ name_at n.registers first ∷ name_at n.registers last ∷ (most n e ++ tally n x)
  statement n (q_stop spot f r g e x) =
      first_word spot keyword.Cfubc ∷ numeral f ∷ name_at n.registers r ∷ (table n g ++ (most n e ++ tally n x))
  statement n (q_repeat spot f r g e limit x) =
      first_word spot keyword.Cfubr ∷ numeral f ∷ name_at n.registers r
      ∷ (table n g ++ (most n e ++ word keyword.Limit ∷ (expression n limit ++ tally n x)))
  statement n (put spot e) = first_word spot keyword.Put ∷ expression n e
  statement n (crate_call spot k e) = first_word spot (crate_keyword k) ∷ (expression n e ++ crate_switch k)
  statement n (lam_call spot k l) = first_word spot (lam_keyword k) ∷ name_at n.lams l ∷ lam_switch k
  statement n (choose spot c a) = first_word spot keyword.If ∷ (condition n c ++ braced (block n a))
  statement n (choose_else spot c a b) =
      first_word spot keyword.If ∷ (condition n c ++ (braced (block n a) ++ word keyword.Else ∷ braced (block n b)))
  statement n (for_ spot x e1 e2 ks body) =
      first_word spot keyword.For ∷ name_at n.variables x ∷ sign mark.Equals
      ∷ (expression n e1 ++ word keyword.To ∷ (expression n e2 ++ (keeps n ks ++ braced (block n body))))
  statement n (for_each spot x v last body) =
      first_word spot keyword.For ∷ name_at n.variables x ∷ sign mark.Equals
      ∷ numeral v ∷ word keyword.To ∷ numeral last ∷ name each_word ∷ braced (block n body)
  statement n (while_ spot c turns x ks body) =
      first_word spot keyword.While
      ∷ (condition n c ++ word keyword.Turns ∷ numeral turns ∷ word keyword.By ∷ name_at n.variables x ∷ (keeps n ks ++ braced (block n body)))
  statement n (locked spot e body) = first_word spot keyword.Lock ∷ (expression n e ++ braced (block n body))
  statement n (call spot p es) =
      first_word spot keyword.Call ∷ name_at n.procedures p ∷ sign mark.LeftBracket
      ∷ (separated (sign mark.Comma) (expression n) es ++ sign mark.RightBracket ∷ [])

  pub block : Names → Block → List Piece
  block n done = []
  block n (next s rest) = statement n s ++ block n rest
