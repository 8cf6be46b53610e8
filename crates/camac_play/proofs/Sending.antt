-- What is sent over two writers: texts, pieces of the run, and what begins the event file.
use Rattle.std.proofs.Common.{◌≡◌, ℕ, ◌<◌, List, [], ◌∷◌, ◌++◌, length, Option, Some, None, refl, sym, ap, subst, ◌∙◌, append_assoc, append-nil, length-append, arith, ◌+◌, map, Bool, true, false}
use Rattle.std.proofs.KnownBytes.{Appends-trans, Appends-kept}
use Rattle.std.proofs.lemmas.Bool.{ne_eqb}
use Rattle.std.specs.Prelude.{Result, Ok, Err, MatchResult, IfSome, IfNone, unwrap_or}
use Rattle.std.specs.Io.KnownBytes.{Appends, Keeps}
use Rattle.camac_word.specs.Writing.{AppendsPrefix, Writes}
use Rattle.camac_play.specs.Sent.{Sent, listed, recorded, to_listing, to_events, listing_of, events_of, Outputs, Sends, SendsPrefix, SendsLastPart}
use Rattle.camac_play.specs.Told.{asked_text, item_line, line_of, record_text, number_after, piece_sent, pieces_sent, lines_sent, event_record, is_begun, begins_after, if_begun, called_for, report}
use Rattle.camac_play.specs.declared.telling.Telling.{Telling}
use Rattle.camac_play.specs.declared.telling.Telling.TheVariants.{Listing, Requests}
use Rattle.camac_lang.specs.Tree.{Script}
use Rattle.camac_model.specs.Behaviour.{Event, Piece, demanded, cycled, lock_taken, lock_released, event_left, event_in, events_in, uses, piece_uses}
use Rattle.camac_report.specs.Items.{unlock_text, unlock_texts, request_text, live_text}
use Rattle.camac_machine.specs.declared.item.Item.{Item}
use Rattle.camac_machine.specs.declared.item.Item.TheVariants as item
use Rattle.camac_machine.specs.MachineState.{piece_of, Left}
use Rattle.camac_run.specs.Operation.{operation_of}
use Rattle.camac_run.specs.declared.progress.Wanted.{Wanted}
use Rattle.camac_run.specs.declared.progress.Wanted.TheVariants as wanted
use Rattle.camac_run.specs.Holds.{event_pieces, told_after}
use Rattle.camac_answer.specs.declared.given.Given.{Given}
use Rattle.camac_branch.specs.Plan.{Layout}
use Rattle.camac_event.specs.Spelling.{header}
use Rattle.camac_event.specs.declared.event.Version.TheVariants.{Two}

-- Texts one after another over two writers.

-- all of it at `Ok`, and else a prefix
abbrev pub SendsBy : {T E : Type 0} → Outputs → Outputs → Result T E → List Sent → Type 0
SendsBy old new r sent = MatchResult r (λ _. Sends old new sent) (λ _. SendsPrefix old new sent)

pub listing_of-append : (a b : List Sent) → listing_of (a ++ b) ≡ listing_of a ++ listing_of b
listing_of-append [] b = refl
listing_of-append (listed x ∷ a) b = ap (λ (l : List ℕ). x ∷ l) (listing_of-append a b)
listing_of-append (recorded x ∷ a) b = listing_of-append a b

pub events_of-append : (a b : List Sent) → events_of (a ++ b) ≡ events_of a ++ events_of b
events_of-append [] b = refl
events_of-append (listed x ∷ a) b = events_of-append a b
events_of-append (recorded x ∷ a) b = ap (λ (l : List ℕ). x ∷ l) (events_of-append a b)

listing_listed : (t : List ℕ) → listing_of (to_listing t) ≡ t
listing_listed [] = refl
listing_listed (b ∷ t) = ap (λ (l : List ℕ). b ∷ l) (listing_listed t)

pub events_listed : (t : List ℕ) → events_of (to_listing t) ≡ []
events_listed [] = refl
events_listed (b ∷ t) = events_listed t

listing_recorded : (t : List ℕ) → listing_of (to_events t) ≡ []
listing_recorded [] = refl
listing_recorded (b ∷ t) = listing_recorded t

pub events_recorded : (t : List ℕ) → events_of (to_events t) ≡ t
events_recorded [] = refl
events_recorded (b ∷ t) = ap (λ (l : List ℕ). b ∷ l) (events_recorded t)

pub to_listing-append : (a b : List ℕ) → to_listing (a ++ b) ≡ to_listing a ++ to_listing b
to_listing-append [] b = refl
to_listing-append (x ∷ a) b = ap (λ (l : List Sent). listed x ∷ l) (to_listing-append a b)

to_events-append : (a b : List ℕ) → to_events (a ++ b) ≡ to_events a ++ to_events b
to_events-append [] b = refl
to_events-append (x ∷ a) b = ap (λ (l : List Sent). recorded x ∷ l) (to_events-append a b)

some_listed : (t : List ℕ) → 0 < length t → 0 < length (to_listing t)
some_listed [] h = absurd (omega (arith, h))
some_listed (x ∷ t) h = omega arith

some_recorded : (t : List ℕ) → 0 < length t → 0 < length (to_events t)
some_recorded [] h = absurd (omega (arith, h))
some_recorded (x ∷ t) h = omega arith

stays : (a : Option (List ℕ)) (t : List ℕ) → t ≡ [] → Appends a a t
stays None t e = tt
stays (Some xs) t e = sym (ap (λ (l : List ℕ). xs ++ l) e ∙ append-nil xs)

-- what two writers hold
abbrev pub both : (listing events : Option (List ℕ)) → Outputs
both listing events = record { listing = listing; events = events }

pub sends_nothing : (a : Outputs) → Sends a a []
sends_nothing a = record { listing = stays a.listing [] refl; events = stays a.events [] refl }

pub sends_listing : (l m e : Option (List ℕ)) (t : List ℕ) → Appends l m t → Sends (both l e) (both m e) (to_listing t)
sends_listing l m e t p = record {
  listing = subst (λ (x : List ℕ). Appends l m x) (sym (listing_listed t)) p;
  events = stays e (events_of (to_listing t)) (events_listed t);
}

pub sends_events : (l e f : Option (List ℕ)) (t : List ℕ) → Appends e f t → Sends (both l e) (both l f) (to_events t)
sends_events l e f t p = record {
  listing = stays l (listing_of (to_events t)) (listing_recorded t);
  events = subst (λ (x : List ℕ). Appends e f x) (sym (events_recorded t)) p;
}

pub prefix_listing : (l m e : Option (List ℕ)) (t : List ℕ) → AppendsPrefix l m t → SendsPrefix (both l e) (both m e) (to_listing t)
prefix_listing l m e t (prefix, rest, split, some, p) =
    (to_listing prefix, to_listing rest, ap to_listing split ∙ to_listing-append prefix rest, some_listed rest some, sends_listing l m e prefix p)

pub prefix_events : (l e f : Option (List ℕ)) (t : List ℕ) → AppendsPrefix e f t → SendsPrefix (both l e) (both l f) (to_events t)
prefix_events l e f t (prefix, rest, split, some, p) =
    (to_events prefix, to_events rest, ap to_events split ∙ to_events-append prefix rest, some_recorded rest some, sends_events l e f prefix p)

-- a text for the listing, as far as it went
pub by_listing : {T E : Type 0} (r : Result T E) (l m e : Option (List ℕ)) (t : List ℕ) → Writes l m r t → SendsBy (both l e) (both m e) r (to_listing t)
by_listing (Ok v) l m e t p = sends_listing l m e t p
by_listing (Err x) l m e t p = prefix_listing l m e t p

-- where the other writer stays
pub listing_sent : (l m e f : Option (List ℕ)) (t : List ℕ) → f ≡ e → Appends l m t → Sends (both l e) (both m f) (to_listing t)
listing_sent l m e f t same p = subst (λ (x : Option (List ℕ)). Sends (both l e) (both m x) (to_listing t)) (sym same) (sends_listing l m e t p)

pub listing_part : (l m e f : Option (List ℕ)) (t : List ℕ) → f ≡ e → AppendsPrefix l m t → SendsPrefix (both l e) (both m f) (to_listing t)
listing_part l m e f t same p = subst (λ (x : Option (List ℕ)). SendsPrefix (both l e) (both m x) (to_listing t)) (sym same) (prefix_listing l m e t p)

pub listing_by : {T E : Type 0} (r : Result T E) (l m e f : Option (List ℕ)) (t : List ℕ) → f ≡ e → Writes l m r t → SendsBy (both l e) (both m f) r (to_listing t)
listing_by r l m e f t same p = subst (λ (x : Option (List ℕ)). SendsBy (both l e) (both m x) r (to_listing t)) (sym same) (by_listing r l m e t p)

pub events_sent : (l m e f : Option (List ℕ)) (t : List ℕ) → m ≡ l → Appends e f t → Sends (both l e) (both m f) (to_events t)
events_sent l m e f t same p = subst (λ (x : Option (List ℕ)). Sends (both l e) (both x f) (to_events t)) (sym same) (sends_events l e f t p)

pub events_part : (l m e f : Option (List ℕ)) (t : List ℕ) → m ≡ l → AppendsPrefix e f t → SendsPrefix (both l e) (both m f) (to_events t)
events_part l m e f t same p = subst (λ (x : Option (List ℕ)). SendsPrefix (both l e) (both x f) (to_events t)) (sym same) (prefix_events l e f t p)

-- where what is known of both stays
pub Sends-kept : (a b c : Outputs) (x : List Sent) → Sends a b x → Keeps b.listing c.listing → Keeps b.events c.events → Sends a c x
Sends-kept a b c x p k l = record {
  listing = Appends-kept a.listing b.listing c.listing (listing_of x) p.listing k;
  events = Appends-kept a.events b.events c.events (events_of x) p.events l;
}

pub Sends-trans : (a b c : Outputs) (x y : List Sent) → Sends a b x → Sends b c y → Sends a c (x ++ y)
Sends-trans a b c x y p q = record {
  listing = subst (λ (l : List ℕ). Appends a.listing c.listing l) (sym (listing_of-append x y)) (Appends-trans a.listing b.listing c.listing (listing_of x) (listing_of y) p.listing q.listing);
  events = subst (λ (l : List ℕ). Appends a.events c.events l) (sym (events_of-append x y)) (Appends-trans a.events b.events c.events (events_of x) (events_of y) p.events q.events);
}

-- a prefix of the first text
pub SendsPrefix-longer : (a c : Outputs) (x y : List Sent) → SendsPrefix a c x → SendsPrefix a c (x ++ y)
SendsPrefix-longer a c x y (prefix, rest, split, some, p) =
    (prefix, rest ++ y, ap (λ (l : List Sent). l ++ y) split ∙ append_assoc prefix rest y, omega (arith, length-append rest y), p)

-- a prefix of the second text
pub SendsPrefix-after : (a b c : Outputs) (x y : List Sent) → Sends a b x → SendsPrefix b c y → SendsPrefix a c (x ++ y)
SendsPrefix-after a b c x y p (prefix, rest, split, some, q) =
    (x ++ prefix, rest, ap (λ (l : List Sent). x ++ l) split ∙ sym (append_assoc x prefix rest), some, Sends-trans a b c x prefix p q)

-- all of the first text, and a prefix of the second
pub last_part : (a b c : Outputs) (first last whole : List Sent) → Sends a b first → SendsPrefix b c last → whole ≡ first ++ last → SendsLastPart a c first whole
last_part a b c first last whole p (prefix, rest, split, some, q) e =
    (prefix, rest, e ∙ ap (λ (l : List Sent). first ++ l) split, some, Sends-trans a b c first prefix p q)

-- where more of the whole went before the second
pub later_part : (a b c : Outputs) (first more' last whole : List Sent) → Sends a b (first ++ more') → SendsPrefix b c last → whole ≡ (first ++ more') ++ last → SendsLastPart a c first whole
later_part a b c first more' last whole p (prefix, rest, split, some, q) e = (
  more' ++ prefix,
  rest,
  e ∙ ap (λ (l : List Sent). (first ++ more') ++ l) split ∙ append_assoc first more' (prefix ++ rest) ∙ ap (λ (l : List Sent). first ++ l) (sym (append_assoc more' prefix rest)),
  some,
  subst (λ (l : List Sent). Sends a c l) (append_assoc first more' prefix) (Sends-trans a b c (first ++ more') prefix p q),
)

-- What an answer did, as pieces of the run, and what is sent of them.

abbrev pub count_of : List Piece → ℕ
count_of ps = length (events_in ps)

pub count-append : (ps qs : List Piece) → count_of (ps ++ qs) ≡ count_of ps + count_of qs
count-append [] qs = omega arith
count-append (p ∷ ps) qs =
    length-append (event_in p) (events_in (ps ++ qs))
    ∙ ap (λ (n : ℕ). length (event_in p) + n) (count-append ps qs)
    ∙ omega (arith, length-append (event_in p) (events_in ps))

numbered : (n : ℕ) (p : Piece) → number_after n p ≡ n + length (event_in p)
numbered n (demanded k v) = omega arith
numbered n (cycled at f d r w) = omega arith
numbered n (lock_taken c w) = omega arith
numbered n (lock_released c) = omega arith
numbered n (event_left e) = omega arith

pub pieces_sent-append : (line : Piece → List ℕ) (n : ℕ) (ps qs : List Piece) → pieces_sent line n (ps ++ qs) ≡ pieces_sent line n ps ++ pieces_sent line (n + count_of ps) qs
pieces_sent-append line n [] qs =
    let same : n ≡ n + 0 = omega arith in
    ap (λ (k : ℕ). pieces_sent line k qs) same
pieces_sent-append line n (p ∷ ps) qs =
    let sent = piece_sent line n p in
    let k = number_after n p in
    let same : k + count_of ps ≡ n + count_of (p ∷ ps) = omega (arith, numbered n p, length-append (event_in p) (events_in ps)) in
    ap (λ (l : List Sent). sent ++ l) (pieces_sent-append line k ps qs ∙ ap (λ (j : ℕ). pieces_sent line k ps ++ pieces_sent line j qs) same)
    ∙ sym (append_assoc sent (pieces_sent line k ps) (pieces_sent line (n + count_of (p ∷ ps)) qs))

no_record : (line : Piece → List ℕ) (n : ℕ) (p : Piece) → length (event_in p) ≡ 0 → piece_sent line n p ≡ to_listing (line p)
no_record line n (demanded k v) e = append-nil (to_listing (line (demanded k v)))
no_record line n (cycled at f d r w) e = append-nil (to_listing (line (cycled at f d r w)))
no_record line n (lock_taken c w) e = append-nil (to_listing (line (lock_taken c w)))
no_record line n (lock_released c) e = append-nil (to_listing (line (lock_released c)))
no_record line n (event_left x) e = absurd (omega (arith, e))

-- of pieces without an event the lines alone
pub no_records : (line : Piece → List ℕ) (n : ℕ) (ps : List Piece) → count_of ps ≡ 0 → pieces_sent line n ps ≡ lines_sent line ps
no_records line n [] e = refl
no_records line n (p ∷ ps) e =
    let sum = length-append (event_in p) (events_in ps) in
    ap (λ (l : List Sent). l ++ pieces_sent line (number_after n p) ps) (no_record line n p (omega (arith, e, sum)))
    ∙ ap (λ (l : List Sent). to_listing (line p) ++ l) (no_records line (number_after n p) ps (omega (arith, e, sum)))

-- an item leaves no event
quiet_record : (n : ℕ) (told : Item) → record_text n (piece_of told) ≡ []
quiet_record n (item.Cycle d) = refl
quiet_record n (item.Lock c w) = refl
quiet_record n (item.Unlock c) = refl
quiet_record n (item.Demand p v) = refl

quiet_number : (n : ℕ) (told : Item) → number_after n (piece_of told) ≡ n
quiet_number n (item.Cycle d) = refl
quiet_number n (item.Lock c w) = refl
quiet_number n (item.Unlock c) = refl
quiet_number n (item.Demand p v) = refl

quiet_event : (told : Item) → length (event_in (piece_of told)) ≡ 0
quiet_event (item.Cycle d) = refl
quiet_event (item.Lock c w) = refl
quiet_event (item.Unlock c) = refl
quiet_event (item.Demand p v) = refl

-- the item of an answer is the operation that was asked for
asked_is : (told : Item) (o : Wanted) → operation_of (piece_of told) ≡ Some o → (live_text (piece_of told) ≡ request_text o) × (piece_uses (piece_of told) ≡ 1)
asked_is (item.Cycle d) o h = (ap (λ x. request_text (unwrap_or x wanted.Demand)) h, refl)
asked_is (item.Lock c w) o h = (ap (λ x. request_text (unwrap_or x wanted.Demand)) h, refl)
asked_is (item.Unlock c) o h = cc
asked_is (item.Demand p v) o h = (ap (λ x. request_text (unwrap_or x wanted.Demand)) h, refl)

-- its line is what was asked and what is told
line_splits : (t : Telling) (script : Script) (told : Item) (o : Wanted) → operation_of (piece_of told) ≡ Some o → line_of t script (piece_of told) ≡ asked_text t o ++ item_line t script (piece_of told)
line_splits Listing script told o h = refl
line_splits Requests script told o h = (asked_is told o h).0 ∙ sym (append-nil (request_text o))

releases : (t : Telling) (script : Script) (k : ℕ) → line_of t script (lock_released k) ≡ unlock_text k
releases Listing script k = refl
releases Requests script k = refl

leaves : (t : Telling) (script : Script) (e : Event) → line_of t script (event_left e) ≡ []
leaves Listing script e = refl
leaves Requests script e = refl

module _ (t : Telling) (script : Script) where
  abbrev line : Piece → List ℕ
  line = line_of t script

  event_sent : (n : ℕ) (event : Option Left) (words : List ℕ) → IfSome event (λ e. e.0 ≡ n) → pieces_sent line n (event_pieces event words) ≡ to_events (event_record event words)
  event_sent n None words h = refl
  event_sent n (Some e) words h =
      let left : Event = record { bit = e.1; cycles = e.2.cycles; missed = e.2.missed; words = words } in
      append-nil (piece_sent line n (event_left left))
      ∙ ap (λ (l : List ℕ). to_listing l ++ to_events (record_text n (event_left left))) (leaves t script left)
      ∙ ap (λ (k : ℕ). to_events (event_record (Some (k, e.1, e.2)) words)) (sym h)

  released_sent : (n : ℕ) (ks : List ℕ) (ps : List Piece) → pieces_sent line n (map lock_released ks ++ ps) ≡ to_listing (unlock_texts ks) ++ pieces_sent line n ps
  released_sent n [] ps = refl
  released_sent n (k ∷ ks) ps =
      let more' = pieces_sent line n ps in
      ap (λ (l : List ℕ). (to_listing l ++ []) ++ pieces_sent line n (map lock_released ks ++ ps)) (releases t script k)
      ∙ ap (λ (l : List Sent). (to_listing (unlock_text k) ++ []) ++ l) (released_sent n ks ps)
      ∙ ap (λ (l : List Sent). l ++ (to_listing (unlock_texts ks) ++ more')) (append-nil (to_listing (unlock_text k)))
      ∙ sym (append_assoc (to_listing (unlock_text k)) (to_listing (unlock_texts ks)) more')
      ∙ ap (λ (l : List Sent). l ++ more') (sym (to_listing-append (unlock_text k) (unlock_texts ks)))

  first_sent : (n : ℕ) (told : Item) (ps : List Piece) → pieces_sent line n (piece_of told ∷ ps) ≡ to_listing (line (piece_of told)) ++ pieces_sent line n ps
  first_sent n told ps =
      let words = to_listing (line (piece_of told)) in
      ap (λ (k : ℕ). piece_sent line n (piece_of told) ++ pieces_sent line k ps) (quiet_number n told)
      ∙ ap (λ (l : List ℕ). (words ++ to_events l) ++ pieces_sent line n ps) (quiet_record n told)
      ∙ ap (λ (l : List Sent). l ++ pieces_sent line n ps) (append-nil words)

  -- what is sent of an answer's pieces, after what asked for it
  abbrev pub told_sent : (told : Item) (ks : List ℕ) (event : Option Left) (words : List ℕ) → List Sent
  told_sent told ks event words = to_listing (item_line t script (piece_of told) ++ unlock_texts ks) ++ to_events (event_record event words)

  pub answer_sent : (n : ℕ) (o : Wanted) (told : Item) (ks : List ℕ) (event : Option Left) (words : List ℕ) → operation_of (piece_of told) ≡ Some o → IfSome event (λ e. e.0 ≡ n)
      → pieces_sent line n (piece_of told ∷ told_after ks event words) ≡ to_listing (asked_text t o) ++ told_sent told ks event words
  answer_sent n o told ks event words is h =
      let asked = to_listing (asked_text t o) in
      let item' : List ℕ = item_line t script (piece_of told) in
      let free = to_listing (unlock_texts ks) in
      let left = to_events (event_record event words) in
      first_sent n told (told_after ks event words)
      ∙ ap (λ (l : List Sent). to_listing (line (piece_of told)) ++ l) (released_sent n ks (event_pieces event words) ∙ ap (λ (l : List Sent). free ++ l) (event_sent n event words h))
      ∙ ap (λ (l : List Sent). l ++ (free ++ left)) (ap to_listing (line_splits t script told o is) ∙ to_listing-append (asked_text t o) item')
      ∙ append_assoc asked (to_listing item') (free ++ left)
      ∙ ap (λ (l : List Sent). asked ++ l) (sym (append_assoc (to_listing item') free left) ∙ ap (λ (l : List Sent). l ++ left) (sym (to_listing-append item' (unlock_texts ks))))

released_quiet : (ks : List ℕ) (ps : List Piece) → count_of (map lock_released ks ++ ps) ≡ count_of ps
released_quiet [] ps = refl
released_quiet (k ∷ ks) ps = released_quiet ks ps

event_counts : (event : Option Left) (words : List ℕ) (n m : ℕ) → IfNone event (m ≡ n) → IfSome event (λ e. m ≡ e.0) → IfSome event (λ e. e.0 ≡ n + 1) → m ≡ n + count_of (event_pieces event words)
event_counts None words n m a b h = omega (arith, a)
event_counts (Some e) words n m a b h = omega (arith, b, h)

-- the number of events after an answer
pub answer_counts : (told : Item) (ks : List ℕ) (event : Option Left) (words : List ℕ) (n m : ℕ) → IfNone event (m ≡ n) → IfSome event (λ e. m ≡ e.0) → IfSome event (λ e. e.0 ≡ n + 1)
    → m ≡ n + count_of (piece_of told ∷ told_after ks event words)
answer_counts told ks event words n m a b h =
    omega (arith, event_counts event words n m a b h, released_quiet ks (event_pieces event words), quiet_event told, length-append (event_in (piece_of told)) (events_in (told_after ks event words)))

pub uses-append : (ps qs : List Piece) → uses (ps ++ qs) ≡ uses ps + uses qs
uses-append [] qs = omega arith
uses-append (p ∷ ps) qs = let m = uses-append ps qs in omega (arith, m)

later_uses : (ks : List ℕ) (event : Option Left) (words : List ℕ) → uses (told_after ks event words) ≡ 0
later_uses [] None words = refl
later_uses [] (Some e) words = refl
later_uses (k ∷ ks) event words = let m = later_uses ks event words in omega (arith, m)

-- an answer is used once
pub answer_uses : (o : Wanted) (told : Item) (ks : List ℕ) (event : Option Left) (words : List ℕ) → operation_of (piece_of told) ≡ Some o → uses (piece_of told ∷ told_after ks event words) ≡ 1
answer_uses o told ks event words is = let one = (asked_is told o is).1 in let none = later_uses ks event words in omega (arith, one, none)

-- What begins the event file, and when.

abbrev pub start : List Sent
start = to_events (header Two)

-- the header, where it is due at first, and where it is due after so many answers
abbrev pub first_due : Telling → List Sent
first_due t = to_events (if_begun (is_begun t [] false) (header Two))

abbrev pub due : Telling → ℕ → List Sent
due t given = to_events (if_begun (begins_after t given) (header Two))

pub begun_then : (t : Telling) (xs ys : List Given) (a : Given) (ended : Bool) → is_begun t (xs ++ a ∷ ys) ended ≡ true
begun_then Requests xs ys a ended = refl
begun_then Listing [] ys a ended = refl
begun_then Listing (x ∷ xs) ys a ended = refl

pub begun_ended : (t : Telling) (xs : List Given) → is_begun t xs true ≡ true
begun_ended Requests xs = refl
begun_ended Listing [] = refl
begun_ended Listing (x ∷ xs) = refl

-- a listing asks for nothing
pub nothing_asked : (t : Telling) (o : Wanted) → t ≡ Listing → to_listing (asked_text t o) ≡ []
nothing_asked Listing o is = refl
nothing_asked Requests o is = cc

-- what asks for the operation comes after all that was sent
pub asked_after : (t : Telling) (taken : List Given) (o : Wanted) (sent : List Sent)
    → if_begun (is_begun t taken false) (start ++ (sent ++ to_listing (asked_text t o))) ≡ if_begun (is_begun t taken false) (start ++ sent) ++ to_listing (asked_text t o)
asked_after Requests taken o sent = sym (append_assoc start sent (to_listing (asked_text Requests o)))
asked_after Listing [] o sent = refl
asked_after Listing (x ∷ taken) o sent = sym (append_assoc start sent [])

not_due : (x : Given) (xs : List Given) → due Listing (length (x ∷ xs)) ≡ []
not_due x xs = ap (λ (yes : Bool). to_events (if_begun yes (header Two))) (ne_eqb (length (x ∷ xs)) 0 (λ z. omega (arith, z)))

-- the header comes before all else
pub begins : (t : Telling) (taken : List Given) (called : List Sent) → (t ≡ Listing → taken ≡ [] → called ≡ [])
    → if_begun (is_begun t taken true) (start ++ called) ≡ if_begun (is_begun t taken false) (start ++ called) ++ due t (length taken)
begins Requests taken called none = sym (append-nil (start ++ called))
begins Listing [] called none = ap (λ (l : List Sent). start ++ l) (none refl refl) ∙ append-nil start
begins Listing (x ∷ taken) called none = sym (append-nil (start ++ called)) ∙ ap (λ (l : List Sent). (start ++ called) ++ l) (sym (not_due x taken))

no_part : {T : Type 0} (c d : Outputs) → SendsPrefix c d [] → T
no_part c d (prefix, rest, split, some, p) = absurd (omega (arith, some, ap length split, length-append prefix rest))

-- a prefix of the header was written, which was due: nothing else was sent
pub first_part : (t : Telling) (plan : Layout) (script : Script) (taken : List Given) (a c d : Outputs) (whole tail : List Sent) → whole ≡ start ++ tail → Sends a c (report t plan script taken)
    → SendsPrefix c d (due t (length taken)) → SendsLastPart a d (report t plan script taken) whole
first_part Requests plan script taken a c d whole tail e sends prefix = no_part c d prefix
first_part Listing plan script [] a c d whole tail e sends prefix = last_part a c d [] (start ++ tail) whole sends (SendsPrefix-longer c d start tail prefix) e
first_part Listing plan script (x ∷ taken) a c d whole tail e sends prefix = no_part c d (subst (λ (l : List Sent). SendsPrefix c d l) (not_due x taken) prefix)

-- a prefix of the header was written before the first request
pub before_first : (t : Telling) (plan : Layout) (script : Script) (a b : Outputs) → SendsPrefix a b (first_due t) → SendsPrefix a b (report t plan script [])
before_first Listing plan script a b prefix = no_part a b prefix
before_first Requests plan script a b prefix = SendsPrefix-longer a b start (called_for Requests plan script []) prefix
