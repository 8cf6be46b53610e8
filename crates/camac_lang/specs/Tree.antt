-- A script's tree as definitions see it: no boxes, no vectors.
-- Each use of a variable, register, table, LAM or procedure is its number; names stand where they are declared.
use Rattle.std.specs.Prelude.{ℕ, List, Option}
use Rattle.camac_range.specs.declared.comparison.Cmp.{Cmp}
use Rattle.camac_lang.specs.declared.word.CrateCall.{CrateCall}
use Rattle.camac_lang.specs.declared.word.LamCall.{LamCall}
use Rattle.camac_lang.specs.declared.word.WordSize.{WordSize}
use Rattle.camac_lang.specs.declared.spot.Spot.{Spot}

-- a name's bytes
abbrev pub Text : Type 0
Text = List ℕ

pub data Expression : Type 0 where
  number : ℕ → Expression
  variable : ℕ → Expression
  -- an expression in brackets
  group : Expression → Expression
  add : Expression → Expression → Expression
  subtract : Expression → Expression → Expression
  multiply : Expression → Expression → Expression
  -- by a literal from 1
  divide : Expression → ℕ → Expression
  remainder : Expression → ℕ → Expression

pub data Test : Type 0 where
  -- the flags of the last cycle
  flag_q : Test
  flag_x : Test
  compare : Expression → Cmp → Expression → Test

pub data Part : Type 0 where
  plain : Test → Part
  negated : Test → Part

-- parts joined by `and`
abbrev pub Condition : Type 0
Condition = List Part

-- what a single action moves
pub data Move : Type 0 where
  no_data : Move
  -- a read into a variable
  into : ℕ → Move
  -- a write of a value
  from : Expression → Move

-- a variable that a loop keeps in a range
pub record Keep : Type 0 where
  pub variable : ℕ
  pub low : ℕ
  pub high : ℕ

-- Each statement begins with the spot of its first token.
mutual
  pub data Statement : Type 0 where
    -- a variable and its value
    assign : (spot : Spot) → ℕ → Expression → Statement
    -- a register, and its crate, station and sub-address
    set_register : (spot : Spot) → ℕ → Expression → Expression → Expression → Statement
    -- one cycle: function, register and data
    single : (spot : Spot) → WordSize → ℕ → ℕ → Move → Statement
    -- function, first and final register, most words, tally
    address_scan : (spot : Spot) → ℕ → ℕ → ℕ → Expression → ℕ → Statement
    -- function, register, table of a write, most cycles, tally
    q_stop : (spot : Spot) → ℕ → ℕ → Option ℕ → Expression → ℕ → Statement
    -- function, register, table of a write, most words, most cycles, tally
    q_repeat : (spot : Spot) → ℕ → ℕ → Option ℕ → Expression → Expression → ℕ → Statement
    put : (spot : Spot) → Expression → Statement
    -- with the crate
    crate_call : (spot : Spot) → CrateCall → Expression → Statement
    -- with the LAM
    lam_call : (spot : Spot) → LamCall → ℕ → Statement
    -- `if`, without and with `else`
    choose : (spot : Spot) → Condition → Block → Statement
    choose_else : (spot : Spot) → Condition → Block → Block → Statement
    -- `for`: variable, first and last value, kept ranges, body
    for_ : (spot : Spot) → ℕ → Expression → Expression → List Keep → Block → Statement
    -- `for` with `each`, which is judged turn by turn: variable, first and last value, body
    for_each : (spot : Spot) (variable first last : ℕ) → Block → Statement
    -- `while`: condition, annotated turns, measure, kept ranges, body
    while_ : (spot : Spot) → Condition → ℕ → ℕ → List Keep → Block → Statement
    -- `lock`: crate, body
    locked : (spot : Spot) → Expression → Block → Statement
    -- procedure, arguments
    call : (spot : Spot) → ℕ → List Expression → Statement

  pub data Block : Type 0 where
    done : Block
    next : Statement → Block → Block

-- of its first token
abbrev pub spot_of : Statement → Spot
spot_of (assign spot x e) = spot
spot_of (set_register spot r c n a) = spot
spot_of (single spot size f r move) = spot
spot_of (address_scan spot f r1 r2 max x) = spot
spot_of (q_stop spot f r t max x) = spot
spot_of (q_repeat spot f r t max limit x) = spot
spot_of (put spot e) = spot
spot_of (crate_call spot which e) = spot
spot_of (lam_call spot which l) = spot
spot_of (choose spot test a) = spot
spot_of (choose_else spot test a b) = spot
spot_of (for_ spot x e1 e2 keeps body) = spot
spot_of (for_each spot x v last body) = spot
spot_of (while_ spot test most m keeps body) = spot
spot_of (locked spot e body) = spot
spot_of (call spot p es) = spot

pub record Table : Type 0 where
  pub spot : Spot
  pub name : Text
  pub words : List ℕ

pub record Lam : Type 0 where
  pub spot : Spot
  pub name : Text
  pub crate_no : ℕ
  pub station : ℕ
  pub sub_address : ℕ

-- a parameter and its range
pub record Parameter : Type 0 where
  pub name : Text
  pub low : ℕ
  pub high : ℕ

-- in its body a variable is its place among the parameters
pub record Procedure : Type 0 where
  pub spot : Spot
  pub name : Text
  pub parameters : List Parameter
  -- annotated
  pub cycles : ℕ
  pub words : ℕ
  pub steps : ℕ
  -- in the order of their first `cdreg`
  pub registers : List Text
  pub body : Block

-- in its body a variable is its place among those of the script
pub record Service : Type 0 where
  pub spot : Spot
  pub lam : ℕ
  -- annotated
  pub cycles : ℕ
  pub words : ℕ
  -- in the order of their first `cdreg`
  pub registers : List Text
  pub body : Block

-- A spot on a line, for worked examples: they leave open how much text follows.
abbrev pub on_line : ℕ → Spot
on_line n = record { line = n; left = 0 }

-- what stands next in the text: the next of its kind, or so many further variables
pub data Item : Type 0 where
  next_table : Item
  next_lam : Item
  next_variables : (spot : Spot) (count : ℕ) → Item
  next_procedure : Item
  next_service : Item

pub record Script : Type 0 where
  pub order : List Item
  pub tables : List Table
  pub lams : List Lam
  pub variables : List Text
  pub procedures : List Procedure
  pub services : List Service
