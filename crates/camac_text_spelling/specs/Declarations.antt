-- The tokens of declarations, in their order.
use Rattle.std.specs.Prelude.{ℕ, ◌+◌, List, [], ◌∷◌, ◌++◌, map, take, drop, Option, Some, None, slice_get}
use Rattle.camac_lang.specs.Tree.{Text, Table, Lam, Parameter, Procedure, Service, Item, next_table, next_lam, next_variables, next_procedure, next_service, Script}
use Rattle.camac_tokens.specs.declared.token.Keyword.TheVariants as keyword
use Rattle.camac_tokens.specs.declared.token.Sign.TheVariants as mark
use Rattle.camac_text_spelling.specs.Pieces.{Piece, first_word, word, sign, numeral, name, separated, Names, name_at}
use Rattle.camac_text_spelling.specs.Statements.{braced, block}
use Rattle.camac_lang.specs.declared.spot.Spot.{Spot}

-- what a body of a service may name, and a body of a procedure
abbrev pub service_names : Script → Service → Names
service_names s v = record {
  tables = map (λ t. t.name) s.tables;
  lams = map (λ l. l.name) s.lams;
  procedures = map (λ p. p.name) s.procedures;
  variables = s.variables;
  registers = v.registers;
}

abbrev pub procedure_names : Script → Procedure → Names
procedure_names s p = record {
  tables = map (λ t. t.name) s.tables;
  lams = map (λ l. l.name) s.lams;
  procedures = map (λ q. q.name) s.procedures;
  variables = map (λ x. x.name) p.parameters;
  registers = p.registers;
}

-- ---- one declaration

abbrev pub table_declaration : Table → List Piece
table_declaration t = first_word t.spot keyword.Table ∷ name t.name ∷ sign mark.Equals ∷ map numeral t.words

abbrev pub lam_declaration : Lam → List Piece
lam_declaration l =
    first_word l.spot keyword.Cdlam ∷ name l.name ∷ numeral 1 ∷ numeral l.crate_no ∷ numeral l.station ∷ numeral l.sub_address ∷ []

abbrev pub variable_declaration : Spot → List Text → List Piece
variable_declaration spot xs = first_word spot keyword.Var ∷ map name xs

abbrev pub parameter : Parameter → List Piece
parameter p = name p.name ∷ word keyword.In ∷ numeral p.low ∷ sign mark.UpTo ∷ numeral p.high ∷ []

abbrev pub procedure_declaration : Script → Procedure → List Piece
procedure_declaration s p =
    first_word p.spot keyword.Proc ∷ name p.name ∷ sign mark.LeftBracket
    ∷ (separated (sign mark.Comma) parameter p.parameters ++ sign mark.RightBracket
    ∷ word keyword.Within ∷ numeral p.cycles ∷ word keyword.Cycles ∷ word keyword.Event ∷ numeral p.words ∷ word keyword.Words
    ∷ word keyword.Steps ∷ numeral p.steps ∷ braced (block (procedure_names s p) p.body))

abbrev pub service_declaration : Script → Service → List Piece
service_declaration s v =
    first_word v.spot keyword.Service ∷ name_at (map (λ l. l.name) s.lams) v.lam
    ∷ word keyword.Within ∷ numeral v.cycles ∷ word keyword.Cycles ∷ word keyword.Event ∷ numeral v.words ∷ word keyword.Words
    ∷ braced (block (service_names s v) v.body)

-- ---- all in their order

-- how many of each kind stand before a place
pub record Passed : Type 0 where
  pub tables : ℕ
  pub lams : ℕ
  pub variables : ℕ
  pub procedures : ℕ
  pub services : ℕ

abbrev pub none_passed : Passed
none_passed = record { tables = 0; lams = 0; variables = 0; procedures = 0; services = 0 }

abbrev pub pass : Item → Passed → Passed
pass next_table b = record b { tables = b.tables + 1 }
pass next_lam b = record b { lams = b.lams + 1 }
pass (next_variables spot n) b = record b { variables = b.variables + n }
pass next_procedure b = record b { procedures = b.procedures + 1 }
pass next_service b = record b { services = b.services + 1 }

abbrev pub if_there : {A : Type 0} → (A → List Piece) → Option A → List Piece
if_there spell None = []
if_there spell (Some x) = spell x

-- the declaration that is next of its kind
abbrev pub declaration : Script → Passed → Item → List Piece
declaration s b next_table = if_there table_declaration (slice_get s.tables b.tables)
declaration s b next_lam = if_there lam_declaration (slice_get s.lams b.lams)
declaration s b (next_variables spot n) = variable_declaration spot (take n (drop b.variables s.variables))
declaration s b next_procedure = if_there (procedure_declaration s) (slice_get s.procedures b.procedures)
declaration s b next_service = if_there (service_declaration s) (slice_get s.services b.services)

abbrev pub declarations : Script → Passed → List Item → List Piece
declarations s b [] = []
declarations s b (i ∷ rest) = declaration s b i ++ declarations s (pass i b) rest

-- the one list of tokens of a tree
abbrev pub script : Script → List Piece
script s = declarations s none_passed s.order
