-- What the text of a statement tells of its row.
use Rattle.std.specs.Prelude.{ℕ, Bool, true, false, Option, Some, None, Result, Ok, Err}
use Rattle.camac_lang.specs.declared.word.WordSize.{WordSize}
use Rattle.camac_lang.specs.declared.word.WordSize.TheVariants as size
use Rattle.camac_lang.specs.declared.word.CrateCall.{CrateCall}
use Rattle.camac_lang.specs.declared.word.CrateCall.TheVariants as crate_word
use Rattle.camac_lang.specs.declared.word.LamCall.{LamCall}
use Rattle.camac_lang.specs.declared.word.LamCall.TheVariants as lam_word
use Rattle.camac_range.specs.Interval.{Interval}
use Rattle.camac_lang.specs.Tree.{Expression, Statement, assign, set_register, single, address_scan, q_stop, q_repeat, put, crate_call, lam_call, choose, choose_else, for_, for_each, while_, locked, call}
use Rattle.camac_model.specs.Fine.{Bounds}
use Rattle.camac_rules.specs.Known.{Region, Known, region_at}
use Rattle.camac_rules.specs.Fault.{Fault}
use Rattle.camac_rules.specs.Expressions.{range_of}
use Rattle.camac_rules.specs.Calls.{lam_region}
use Rattle.camac_rules.specs.Cycles.{Context}
use Rattle.camac_check_rows.specs.declared.row.Kind.{Kind}
use Rattle.camac_check_rows.specs.declared.row.Kind.TheVariants as kind
use Rattle.camac_check_rows.specs.declared.row.Detail.{Detail}
use Rattle.camac_check_rows.specs.declared.row.Detail.TheVariants as detail
use Rattle.camac_check_rows.specs.declared.row.Row.{Row}
use Rattle.camac_lang.specs.declared.spot.Spot.{Spot}

-- in the body itself
abbrev pub first_row : (spot : Spot) → Kind → (times : ℕ) → (each share : Bounds) → Detail → Row
first_row spot word times each share told = record { spot = spot; depth = 1; kind = word; times = times; each = each; share = share; detail = told }

abbrev pub single_kind : WordSize → Kind
single_kind size.Full = kind.Cfsa
single_kind size.Short = kind.Cssa

abbrev pub crate_kind : CrateCall → Kind
crate_kind crate_word.Initialise = kind.Cccz
crate_kind crate_word.Clear = kind.Cccc
crate_kind crate_word.InhibitOn = kind.Ccci
crate_kind crate_word.InhibitOff = kind.Ccci
crate_kind crate_word.TestInhibit = kind.Ctci
crate_kind crate_word.DemandOn = kind.Cccd
crate_kind crate_word.DemandOff = kind.Cccd
crate_kind crate_word.TestDemandOutput = kind.Ctcd
crate_kind crate_word.TestDemand = kind.Ctgl

abbrev pub lam_kind : LamCall → Kind
lam_kind lam_word.Enable = kind.Cclm
lam_kind lam_word.Disable = kind.Cclm
lam_kind lam_word.Clear = kind.Cclc
lam_kind lam_word.Test = kind.Ctlm

abbrev pub kind_of : Statement → Kind
kind_of (assign spot x e) = kind.Assign
kind_of (set_register spot r c n a) = kind.Cdreg
kind_of (single spot size f r move) = single_kind size
kind_of (address_scan spot f r1 r2 max x) = kind.Cfmad
kind_of (q_stop spot f r t max x) = kind.Cfubc
kind_of (q_repeat spot f r t max limit x) = kind.Cfubr
kind_of (put spot e) = kind.Put
kind_of (crate_call spot which e) = crate_kind which
kind_of (lam_call spot which l) = lam_kind which
kind_of (choose spot test a) = kind.If
kind_of (choose_else spot test a b) = kind.If
kind_of (for_ spot x e1 e2 keeps body) = kind.For
kind_of (for_each spot x v last body) = kind.For
kind_of (while_ spot test most m keeps body) = kind.While
kind_of (locked spot e body) = kind.Lock
kind_of (call spot p es) = kind.Call

abbrev pub at_region : Option Region → Detail
at_region None = detail.Nothing
at_region (Some g) = detail.At g

-- the addresses that a register may hold, where that is known
abbrev pub known_region : Known → ℕ → Option Region
known_region None r = None
known_region (Some k) r = region_at k.registers r

-- between the addresses of two registers
abbrev pub between : Option Region → Option Region → Detail
between None h = detail.Nothing
between (Some g) None = detail.Nothing
between (Some g) (Some h) = detail.Between g h

abbrev pub in_crates : Result Interval Fault → Detail
in_crates (Ok r) = detail.Crates r
in_crates (Err f) = detail.Nothing

-- the crates that an expression may name
abbrev pub crate_detail : Spot → Expression → Known → Detail
crate_detail spot e None = detail.Nothing
crate_detail spot e (Some k) = in_crates (range_of spot e k.ranges)

-- of a statement that holds no others
abbrev pub detail_of : Context → Statement → Known → Detail
detail_of c (single spot size f r move) k = at_region (known_region k r)
detail_of c (address_scan spot f r1 r2 max x) k = between (known_region k r1) (known_region k r2)
detail_of c (q_stop spot f r t max x) k = at_region (known_region k r)
detail_of c (q_repeat spot f r t max limit x) k = at_region (known_region k r)
detail_of c (crate_call spot which e) k = crate_detail spot e k
detail_of c (lam_call spot which l) k = at_region (lam_region c l)
detail_of c (call spot p es) k = detail.Procedure p
detail_of c s k = detail.Nothing
