-- A text that is written line by line: the lines of events and of headings.
use Rattle.std.proofs.Common.{◌≡◌, ℕ, ◌+◌, ◌<◌, List, [], ◌∷◌, ◌++◌, length, drop, Option, Some, ap, sym, ◌∙◌, refl, zero, suc, append_assoc, add-one, arith, length-append, ◌-◌, ◌≤◌, get_or, take, map}
use Rattle.std.proofs.KnownBytes.{Appends-trans, Appends-nil}
use Rattle.std.proofs.lemmas.List.{take_rest}
use Rattle.std.specs.Prelude.{slice_get, Result, Ok, Err, codes}
use Rattle.std.specs.Result.{IsErr}
use Rattle.std.specs.Io.KnownBytes.{Appends}
use Rattle.std.specs.List.{flat_map}
use Rattle.camac_word.specs.Writing.{AppendsPrefix, Writes}
use Rattle.camac_word.proofs.Prefixes.{IsUnderWay}
use Rattle.camac_lang.specs.Tree.{Lam, Service, next_procedure, next_service}
use Rattle.camac_lang.specs.View.{item_of, parameter_of, procedure_of, service_of}
use Rattle.camac_lang.specs.declared.script.Item as rust_item
use Rattle.camac_lang.specs.declared.script.Parameter as rust_parameter
use Rattle.camac_lang.specs.declared.script.Procedure as rust_procedure
use Rattle.camac_lang.specs.declared.script.Service as rust_service
use Rattle.camac_lang.specs.declared.spot.Spot.{Spot}
use Rattle.camac_branch.specs.Plan.{Layout}
use Rattle.camac_model.specs.Fine.{Bounds}
use Rattle.camac_lines.specs.Verdict.{service_text, service_texts, lam_name}
use Rattle.camac_lines.specs.Events.{event_start, event_line, event_lines, word_text}
use Rattle.camac_lines.specs.Headings.{headings_of, parameter_text, parameters_after, procedure_heading, service_heading}
use Rattle.camac_event.specs.Spelling.{Entry}

-- A text that is written line by line.

-- the next line was written
pub under_way_next : (text rest line after : List ℕ) (a b c : Option (List ℕ)) → IsUnderWay text rest a b → rest ≡ line ++ after → Appends b c line → IsUnderWay text after a c
under_way_next text rest line after a b c so_far parts p = record {
  prefix = so_far.prefix ++ line;
  parts = so_far.parts ∙ ap (λ (l : List ℕ). so_far.prefix ++ l) parts ∙ sym (append_assoc so_far.prefix line after);
  written = Appends-trans a b c so_far.prefix line so_far.written p;
}

-- a prefix of the next line was written
pub under_way_stops : (text rest line after : List ℕ) (a b c : Option (List ℕ)) → IsUnderWay text rest a b → rest ≡ line ++ after → AppendsPrefix b c line → AppendsPrefix a c text
under_way_stops text rest line after a b c so_far parts (prefix, left, split, some, p) = (
  so_far.prefix ++ prefix,
  left ++ after,
  so_far.parts ∙ ap (λ (l : List ℕ). so_far.prefix ++ l) (parts ∙ ap (λ (l : List ℕ). l ++ after) split ∙ append_assoc prefix left after) ∙ sym (append_assoc so_far.prefix prefix (left ++ after)),
  omega (arith, length-append left after),
  Appends-trans a b c so_far.prefix prefix so_far.written p,
)

-- a prefix of a text's first part was written
pub prefix_longer : (line after : List ℕ) (a c : Option (List ℕ)) → AppendsPrefix a c line → AppendsPrefix a c (line ++ after)
prefix_longer line after a c (prefix, left, split, some, p) = (
  prefix,
  left ++ after,
  ap (λ (l : List ℕ). l ++ after) split ∙ append_assoc prefix left after,
  omega (arith, length-append left after),
  p,
)

-- the lines from a service on begin with that service's
pub service_texts-drop : (plan : Layout) (lams : List Lam) (vs : List Service) (ks : List Bounds) (i : ℕ) (v : Service) (k : Bounds)
    → slice_get vs i ≡ Some v → slice_get ks i ≡ Some k
    → service_texts plan lams (drop i vs) (drop i ks) ≡ service_text plan lams v k ++ service_texts plan lams (drop (suc i) vs) (drop (suc i) ks)
service_texts-drop plan lams [] ks i v k at_v at_k = cc
service_texts-drop plan lams (w ∷ vs) [] i v k at_v at_k = cc
service_texts-drop plan lams (w ∷ vs) (j ∷ ks) zero v k at_v at_k =
    let same_service : w ≡ v = cc in
    let same_bounds : j ≡ k = cc in
    ap (λ x. service_text plan lams x j ++ service_texts plan lams vs ks) same_service ∙ ap (λ x. service_text plan lams v x ++ service_texts plan lams vs ks) same_bounds
service_texts-drop plan lams (w ∷ vs) (j ∷ ks) (suc i) v k at_v at_k = service_texts-drop plan lams vs ks i v k at_v at_k

-- there is an element within a list
found : {X : Type 0} (xs : List X) (i : ℕ) → i < length xs → (x : X) × (slice_get xs i ≡ Some x)
found [] i lt = absurd (omega (arith, lt))
found (x ∷ xs) zero lt = (x, refl)
found (x ∷ xs) (suc i) lt = found xs i (omega arith)

-- the same of a line that is known by the service and the bounds of its number
pub service_texts-next : (plan : Layout) (lams : List Lam) (vs : List Service) (ks : List Bounds) (i : ℕ) (line : List ℕ) → i < length vs → i < length ks
    → ((v : Service) → (k : Bounds) → slice_get vs i ≡ Some v → slice_get ks i ≡ Some k → line ≡ service_text plan lams v k)
    → service_texts plan lams (drop i vs) (drop i ks) ≡ line ++ service_texts plan lams (drop (i + 1) vs) (drop (i + 1) ks)
service_texts-next plan lams vs ks i line in_vs in_ks is =
    let v = found vs i in_vs in
    let k = found ks i in_ks in
    let after : List ℕ = service_texts plan lams (drop (suc i) vs) (drop (suc i) ks) in
    service_texts-drop plan lams vs ks i v.0 k.0 v.1 k.1 ∙ ap (λ (l : List ℕ). l ++ after) (sym (is v.0 k.0 v.1 k.1))
    ∙ ap (λ (j : ℕ). line ++ service_texts plan lams (drop j vs) (drop j ks)) (sym (add-one i))

-- what an error leaves
pub Writes-at_err : {T E : Type 0} (r : Result T E) (a c : Option (List ℕ)) (text : List ℕ) → IsErr r → AppendsPrefix a c text → Writes a c r text
Writes-at_err (Ok x) a c text is prefix = cc
Writes-at_err (Err e) a c text is prefix = prefix

-- The lines of events.

-- the first of the events that are left, and the others
pub event_lines-first : (es others : List Entry) (read after number : ℕ) (e : Entry) (last : List ℕ) → es ≡ e ∷ others → number ≡ after → after ≡ read + 1
    → event_lines (read + 1) es ++ last ≡ event_line number e ++ (event_lines (after + 1) others ++ last)
event_lines-first es others read after number e last some same next =
    let line = event_line number e in
    let here : read + 1 ≡ number = sym (same ∙ next) in
    ap (λ (l : List Entry). event_lines (read + 1) l ++ last) some
    ∙ ap (λ (n : ℕ). (event_line n e ++ event_lines (n + 1) others) ++ last) here
    ∙ ap (λ (n : ℕ). (line ++ event_lines (n + 1) others) ++ last) same
    ∙ append_assoc line (event_lines (after + 1) others) last

-- the line of an event whose begin is laid out
pub event_line-laid : (number : ℕ) (e : Entry) (before laid : List ℕ) → laid ≡ before ++ event_start number e → laid ++ flat_map word_text e.words ++ codes "\n" ≡ before ++ event_line number e
unfolding event_line
event_line-laid number e before laid same =
    let start : List ℕ = event_start number e in
    let words : List ℕ = flat_map word_text e.words in
    let end : List ℕ = codes "\n" in
    ap (λ (l : List ℕ). l ++ words ++ end) same ∙ ap (λ (l : List ℕ). l ++ end) (append_assoc before start words) ∙ append_assoc before (start ++ words) end

-- The lines of headings.

-- nothing was written
pub under_way_begins : (text rest : List ℕ) (a : Option (List ℕ)) → text ≡ rest → IsUnderWay text rest a a
under_way_begins text rest a same = record { prefix = []; parts = same; written = Appends-nil a }

-- nothing of the next was written
pub under_way_same : (text rest after : List ℕ) (a b : Option (List ℕ)) → IsUnderWay text rest a b → rest ≡ after → IsUnderWay text after a b
under_way_same text rest after a b so_far same = record {
  prefix = so_far.prefix;
  parts = so_far.parts ∙ ap (λ (l : List ℕ). so_far.prefix ++ l) same;
  written = so_far.written;
}

-- what is seen of a list from one of its elements on
seen_from : {X Y : Type 0} (view : X → Y) (xs : List X) (i : ℕ) (d x : X) → i < length xs → get_or xs i d ≡ x → map view (drop i xs) ≡ view x ∷ map view (drop (suc i) xs)
seen_from view [] i d x lt is = absurd (omega (arith, lt))
seen_from view (y ∷ ys) zero d x lt is = ap (λ e. view e ∷ map view ys) is
seen_from view (y ∷ ys) (suc i) d x lt is = let less : i < length ys = omega (arith, lt) in seen_from view ys i d x less is

seen_next : {X Y : Type 0} (view : X → Y) (xs : List X) (i : ℕ) (d x : X) → i < length xs → get_or xs i d ≡ x → map view (drop i xs) ≡ view x ∷ map view (drop (i + 1) xs)
seen_next view xs i d x lt is = seen_from view xs i d x lt is ∙ ap (λ j. view x ∷ map view (drop j xs)) (sym (add-one i))

-- the same of the first, where those after it are a slice
seen_first : {X Y : Type 0} (view : X → Y) (xs : List X) (d x : X) → 0 < length xs → get_or xs 0 d ≡ x → map view xs ≡ view x ∷ map view (take (length xs - 1) (drop 1 xs))
seen_first view xs d x some is = seen_from view xs 0 d x some is ∙ ap (λ ys. view x ∷ map view ys) (sym (take_rest xs 1))

seen_none : {X Y : Type 0} (view : X → Y) (xs : List X) → length xs < 1 → map view xs ≡ []
seen_none view [] none = refl
seen_none view (x ∷ xs) none = absurd (omega (arith, none))

drop_none : {X : Type 0} (xs : List X) (i : ℕ) → length xs ≤ i → drop i xs ≡ []
drop_none [] zero le = refl
drop_none [] (suc i) le = refl
drop_none (x ∷ xs) zero le = absurd (omega (arith, le))
drop_none (x ∷ xs) (suc i) le = let less : length xs ≤ i = omega (arith, le) in drop_none xs i less

-- ---- parameters

pub parameters_next : (between : List ℕ) (ps : List rust_parameter.Parameter) (i : ℕ) (p : rust_parameter.Parameter) (line : List ℕ)
    → i < length ps → p ≡ get_or ps i p → line ≡ between ++ parameter_text (parameter_of p)
    → parameters_after between (map parameter_of (drop i ps)) ≡ line ++ parameters_after (codes ", ") (map parameter_of (drop (i + 1) ps))
parameters_next between ps i p line lt is text =
    ap (parameters_after between) (seen_next parameter_of ps i p p lt (sym is))
    ∙ ap (λ (l : List ℕ). l ++ parameters_after (codes ", ") (map parameter_of (drop (i + 1) ps))) (sym text)

pub parameters_none : (between : List ℕ) (ps : List rust_parameter.Parameter) (i : ℕ) → length ps ≤ i → parameters_after between (map parameter_of (drop i ps)) ≡ []
parameters_none between ps i le = ap (λ qs. parameters_after between (map parameter_of qs)) (drop_none ps i le)

-- ---- headings

-- those of what stands in these lists
abbrev pub headings_in : List Lam → List rust_item.Item → List rust_procedure.Procedure → List rust_service.Service → List ℕ
headings_in lams items ps vs = headings_of lams (map item_of items) (map procedure_of ps) (map service_of vs)

pub headings_none : (lams : List Lam) (items : List rust_item.Item) (i : ℕ) (ps : List rust_procedure.Procedure) (vs : List rust_service.Service)
    → length items ≤ i → headings_in lams (drop i items) ps vs ≡ []
headings_none lams items i ps vs le = ap (λ xs. headings_in lams xs ps vs) (drop_none items i le)

next_item : (lams : List Lam) (items : List rust_item.Item) (i : ℕ) (x : rust_item.Item) (ps : List rust_procedure.Procedure) (vs : List rust_service.Service)
    → i < length items → get_or items i rust_item.TheVariants.Table ≡ x
    → headings_in lams (drop i items) ps vs ≡ headings_of lams (item_of x ∷ map item_of (drop (i + 1) items)) (map procedure_of ps) (map service_of vs)
next_item lams items i x ps vs lt is = ap (λ xs. headings_of lams xs (map procedure_of ps) (map service_of vs)) (seen_next item_of items i rust_item.TheVariants.Table x lt is)

-- those after a table, a LAM or variables
abbrev pub NoHeading : rust_item.Item → Type 0
NoHeading x = (lams : List Lam) → (items : List rust_item.Item) → (i : ℕ) → (ps : List rust_procedure.Procedure) → (vs : List rust_service.Service)
    → i < length items → get_or items i rust_item.TheVariants.Table ≡ x
    → headings_in lams (drop i items) ps vs ≡ headings_in lams (drop (i + 1) items) ps vs

pub table_has_none : NoHeading rust_item.TheVariants.Table
table_has_none lams items i ps vs lt is = next_item lams items i rust_item.TheVariants.Table ps vs lt is

pub lam_has_none : NoHeading rust_item.TheVariants.Lam
lam_has_none lams items i ps vs lt is = next_item lams items i rust_item.TheVariants.Lam ps vs lt is

pub variables_have_none : (spot : Spot) (n : ℕ) → NoHeading (rust_item.TheVariants.Variables spot n)
variables_have_none spot n lams items i ps vs lt is = next_item lams items i (rust_item.TheVariants.Variables spot n) ps vs lt is

pub next_is_procedure : (lams : List Lam) (items : List rust_item.Item) (i : ℕ) (ps : List rust_procedure.Procedure) (d p : rust_procedure.Procedure) (vs : List rust_service.Service)
    → i < length items → get_or items i rust_item.TheVariants.Table ≡ rust_item.TheVariants.Procedure → 0 < length ps → get_or ps 0 d ≡ p
    → headings_in lams (drop i items) ps vs ≡ procedure_heading (procedure_of p) ++ headings_in lams (drop (i + 1) items) (take (length ps - 1) (drop 1 ps)) vs
next_is_procedure lams items i ps d p vs lt is some first =
    next_item lams items i rust_item.TheVariants.Procedure ps vs lt is
    ∙ ap (λ qs. headings_of lams (next_procedure ∷ map item_of (drop (i + 1) items)) qs (map service_of vs)) (seen_first procedure_of ps d p some first)

pub procedure_lacks : (lams : List Lam) (items : List rust_item.Item) (i : ℕ) (ps : List rust_procedure.Procedure) (vs : List rust_service.Service)
    → i < length items → get_or items i rust_item.TheVariants.Table ≡ rust_item.TheVariants.Procedure → length ps < 1
    → headings_in lams (drop i items) ps vs ≡ headings_in lams (drop (i + 1) items) ps vs
procedure_lacks lams items i ps vs lt is none =
    let after = map item_of (drop (i + 1) items) in
    let no_more = seen_none procedure_of ps none in
    next_item lams items i rust_item.TheVariants.Procedure ps vs lt is
    ∙ ap (λ qs. headings_of lams (next_procedure ∷ after) qs (map service_of vs)) no_more
    ∙ sym (ap (λ qs. headings_of lams after qs (map service_of vs)) no_more)

pub next_is_service : (lams : List Lam) (items : List rust_item.Item) (i : ℕ) (ps : List rust_procedure.Procedure) (vs : List rust_service.Service) (d v : rust_service.Service) (line : List ℕ)
    → i < length items → get_or items i rust_item.TheVariants.Table ≡ rust_item.TheVariants.Service → 0 < length vs → get_or vs 0 d ≡ v
    → line ≡ service_heading (lam_name lams v.lam) (service_of v)
    → headings_in lams (drop i items) ps vs ≡ line ++ headings_in lams (drop (i + 1) items) ps (take (length vs - 1) (drop 1 vs))
next_is_service lams items i ps vs d v line lt is some first text =
    next_item lams items i rust_item.TheVariants.Service ps vs lt is
    ∙ ap (λ ws. headings_of lams (next_service ∷ map item_of (drop (i + 1) items)) (map procedure_of ps) ws) (seen_first service_of vs d v some first)
    ∙ ap (λ (l : List ℕ). l ++ headings_in lams (drop (i + 1) items) ps (take (length vs - 1) (drop 1 vs))) (sym text)

pub service_lacks : (lams : List Lam) (items : List rust_item.Item) (i : ℕ) (ps : List rust_procedure.Procedure) (vs : List rust_service.Service)
    → i < length items → get_or items i rust_item.TheVariants.Table ≡ rust_item.TheVariants.Service → length vs < 1
    → headings_in lams (drop i items) ps vs ≡ headings_in lams (drop (i + 1) items) ps vs
service_lacks lams items i ps vs lt is none =
    let after = map item_of (drop (i + 1) items) in
    let no_more = seen_none service_of vs none in
    next_item lams items i rust_item.TheVariants.Service ps vs lt is
    ∙ ap (λ ws. headings_of lams (next_service ∷ after) (map procedure_of ps) ws) no_more
    ∙ sym (ap (λ ws. headings_of lams after (map procedure_of ps) ws) no_more)
