-- The lines of `camac costs`.
use Rattle.std.specs.Prelude.{ℕ, ◌+◌, ◌-◌, ◌^◌, List, [], ◌++◌, Option, Some, None, codes, decimal, length, min, nat_eq, option_map, reverse, take, take_while, unwrap_or, slice_get, if◌then◌else◌}
use Rattle.std.specs.List.{flat_map}
use Rattle.camac_range.specs.Interval.{Interval, only}
use Rattle.camac_lang.specs.declared.spot.Spot.{Spot}
use Rattle.camac_lang.specs.Tree.{Text, Lam, Procedure, Service, Script}
use Rattle.camac_tokens.specs.Scanning.{is_no_line_feed}
use Rattle.camac_branch.specs.Plan.{Layout}
use Rattle.camac_names.specs.Link.{service_bit}
use Rattle.camac_model.specs.Fine.{Bounds}
use Rattle.camac_rules.specs.Known.{Region}
use Rattle.camac_rules.specs.Windows.{Window, window_of}
use Rattle.camac_check_costs.specs.declared.bodies.Owner.{Owner}
use Rattle.camac_check_costs.specs.declared.bodies.Owner.TheVariants as owner
use Rattle.camac_check_rows.specs.declared.row.Kind.{Kind}
use Rattle.camac_check_rows.specs.declared.row.Kind.TheVariants as kind
use Rattle.camac_check_rows.specs.declared.row.Detail.{Detail}
use Rattle.camac_check_rows.specs.declared.row.Detail.TheVariants as detail
use Rattle.camac_check_rows.specs.declared.row.Row.{Row}
use Rattle.camac_check_costs.specs.Body.{BodyRows}

-- the word of the statement
abbrev pub kind_word : Kind → List ℕ
kind_word kind.Assign = codes "="
kind_word kind.Cdreg = codes "cdreg"
kind_word kind.Put = codes "put"
kind_word kind.Cfsa = codes "cfsa"
kind_word kind.Cssa = codes "cssa"
kind_word kind.Cfmad = codes "cfmad"
kind_word kind.Cfubc = codes "cfubc"
kind_word kind.Cfubr = codes "cfubr"
kind_word kind.Cccz = codes "cccz"
kind_word kind.Cccc = codes "cccc"
kind_word kind.Ccci = codes "ccci"
kind_word kind.Ctci = codes "ctci"
kind_word kind.Cccd = codes "cccd"
kind_word kind.Ctcd = codes "ctcd"
kind_word kind.Ctgl = codes "ctgl"
kind_word kind.Cclm = codes "cclm"
kind_word kind.Cclc = codes "cclc"
kind_word kind.Ctlm = codes "ctlm"
kind_word kind.If = codes "if"
kind_word kind.Else = codes "else"
kind_word kind.For = codes "for"
kind_word kind.While = codes "while"
kind_word kind.Lock = codes "lock"
kind_word kind.Call = codes "call"

-- one number, or the first and the last of several
abbrev pub range_text : Interval → List ℕ
range_text r = if nat_eq r.lo r.hi then decimal r.lo else decimal r.lo ++ codes ".." ++ decimal r.hi

abbrev pub region_text : Region → List ℕ
region_text g = codes " at " ++ range_text g.crates ++ codes " " ++ range_text g.stations ++ codes " " ++ range_text g.sub_addresses

-- a station and a sub-address after a word and their crate, or several
abbrev pub address_after : List ℕ → (crates : Interval) → (station sub_address : ℕ) → List ℕ
address_after word crates n a = word ++ range_text crates ++ codes " " ++ decimal n ++ codes " " ++ decimal a

-- from its first address to its last one, in each of these crates: an `each` may have another one in each turn
abbrev pub window_text : (crates : Interval) → Window → List ℕ
window_text crates w =
    address_after (codes " at ") crates w.first_station w.first_sub_address
    ++ address_after (codes " to ") crates w.last_station w.last_sub_address

abbrev pub procedure_name : List Procedure → ℕ → Text
procedure_name ps i = unwrap_or (option_map (λ p. p.name) (slice_get ps i)) []

-- what else there is to tell of a statement
abbrev pub detail_text : List Procedure → Detail → List ℕ
detail_text ps detail.Nothing = []
detail_text ps (detail.At g) = region_text g
detail_text ps (detail.Turns n) = codes " turns " ++ decimal n
detail_text ps (detail.Between g h) = window_text g.crates (window_of g h)
detail_text ps (detail.Crates r) = codes " crate " ++ range_text r
detail_text ps (detail.Procedure i) = codes " proc " ++ procedure_name ps i

-- how many bytes stand after the last line feed
abbrev pub in_last_line : List ℕ → ℕ
in_last_line bytes = length (take_while is_no_line_feed (reverse bytes))

-- the column of a spot of a text, from 1; a number stays at the greatest of 64 bits
abbrev pub column_in : (text : List ℕ) → Spot → ℕ
column_in text s = min (in_last_line (take (length text - s.left) text) + 1) (2 ^ 64 - 1)

-- where a statement stands, with its column if the text is given
abbrev pub place_text : (text : Option (List ℕ)) → Spot → List ℕ
place_text None s = codes "line " ++ decimal s.line
place_text (Some text) s = codes "line " ++ decimal s.line ++ codes " column " ++ decimal (column_in text s)

-- where a statement stands, how deep, how often it is made, and what one time costs
abbrev pub row_start : (text : Option (List ℕ)) → Row → List ℕ
row_start text r =
    place_text text r.spot
    ++ codes " depth " ++ decimal r.depth ++ codes " " ++ kind_word r.kind ++ codes " times " ++ decimal r.times
    ++ codes " cycles " ++ decimal r.each.cycles ++ codes " words " ++ decimal r.each.words ++ codes " steps " ++ decimal r.each.steps

-- its share, and what else there is to tell
abbrev pub row_end : List Procedure → Row → List ℕ
row_end ps r =
    codes " share " ++ decimal r.share.cycles ++ codes " " ++ decimal r.share.words ++ codes " " ++ decimal r.share.steps
    ++ detail_text ps r.detail ++ codes "\n"

abbrev pub row_text : (text : Option (List ℕ)) → List Procedure → Row → List ℕ
row_text text ps r = row_start text r ++ row_end ps r

-- what a body can cost, each number beside that of its heading
abbrev pub procedure_line : Procedure → Bounds → List ℕ
procedure_line p costs =
    codes "proc " ++ p.name ++ codes " line " ++ decimal p.spot.line
    ++ codes " cycles " ++ decimal costs.cycles ++ codes " of " ++ decimal p.cycles
    ++ codes " words " ++ decimal costs.words ++ codes " of " ++ decimal p.words
    ++ codes " steps " ++ decimal costs.steps ++ codes " of " ++ decimal p.steps ++ codes "\n"

abbrev pub address_text : Lam → List ℕ
address_text l = address_after (codes " at ") (only l.crate_no) l.station l.sub_address

-- of a service with the GL bit and the address of its LAM
abbrev pub service_line : Lam → ℕ → Service → Bounds → List ℕ
service_line l bit v costs =
    codes "service " ++ l.name ++ codes " line " ++ decimal v.spot.line ++ codes " gl " ++ decimal bit
    ++ address_text l
    ++ codes " cycles " ++ decimal costs.cycles ++ codes " of " ++ decimal v.cycles
    ++ codes " words " ++ decimal costs.words ++ codes " of " ++ decimal v.words
    ++ codes " steps " ++ decimal costs.steps ++ codes "\n"

-- nothing where there is no such LAM
abbrev pub service_text : Layout → List Lam → Service → Bounds → List ℕ
service_text plan lams v costs =
    unwrap_or (option_map (λ l. service_line l (unwrap_or (service_bit plan lams v) 0) v costs) (slice_get lams v.lam)) []

abbrev pub head_text : Layout → Script → Owner → Bounds → List ℕ
head_text plan s (owner.Procedure i) costs = unwrap_or (option_map (λ p. procedure_line p costs) (slice_get s.procedures i)) []
head_text plan s (owner.Service i) costs = unwrap_or (option_map (λ v. service_text plan s.lams v costs) (slice_get s.services i)) []

-- a line of the body, and one for each of its rows
abbrev pub body_text : (text : Option (List ℕ)) → Layout → Script → BodyRows → List ℕ
body_text text plan s b = head_text plan s b.owner b.costs ++ flat_map (row_text text s.procedures) b.rows

abbrev pub costs_text : (text : Option (List ℕ)) → Layout → Script → List BodyRows → List ℕ
costs_text text plan s bodies = flat_map (body_text text plan s) bodies
