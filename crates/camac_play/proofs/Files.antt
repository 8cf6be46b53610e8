-- What is sent to the event file is the spelling of the events of the run on the answers that count.
use Rattle.std.proofs.Common.{◌≡◌, ℕ, ◌+◌, List, [], ◌∷◌, ◌++◌, length, drop, map, Bool, true, false, refl, sym, ap, ◌∙◌, inl, append_assoc, append-nil, arith}
use Rattle.std.proofs.lemmas.List.{map-append, length-map, drop_at}
use Rattle.std.specs.Prelude.{is_none}
use Rattle.camac_answer.specs.declared.given.Given.{Given}
use Rattle.camac_answer.specs.declared.given.Given.TheVariants as gives
use Rattle.camac_branch.specs.Branch.{Answer}
use Rattle.camac_branch.specs.Plan.{Layout}
use Rattle.camac_event.specs.Spelling.{Entry, header, record_of, records_from}
use Rattle.camac_event.specs.declared.event.Version.TheVariants.{Two}
use Rattle.camac_lang.specs.Tree.{Script}
use Rattle.camac_model.specs.Behaviour.{Behaviour, does, ends, stops, Event, Piece, demanded, cycled, lock_taken, lock_released, event_left, event_in, events_in, pieces}
use Rattle.camac_model.specs.Laws.{Extends, RunEnd, is_short}
use Rattle.camac_model.specs.Run.{the_run}
use Rattle.camac_model.proofs.Runs.{run_answers_extend}
use Rattle.camac_run.specs.Headline.{entry_of, event_file}
use Rattle.camac_play.specs.Headline.{ReportSendsEventFile, PlayedSendsEventFile}
use Rattle.camac_play.specs.Sent.{Sent, to_listing, to_events, events_of}
use Rattle.camac_play.specs.Told.{Counted, none_counted, before_service, called_for, counted, counted_from, if_begun, is_begun, last_line, left_sent, line_of, lines_sent, number_after, open_text, piece_sent, pieces_sent, record_text, sent_after, that_count, then_given, whole_report}
use Rattle.camac_play.specs.declared.telling.Telling.{Telling}
use Rattle.camac_play.proofs.Counting.{IsBetween, service_between, service_begins}
use Rattle.camac_play.proofs.Sending.{count_of, events_of-append, events_listed, events_recorded}

piece_records : (line : Piece → List ℕ) (n : ℕ) (p : Piece) → events_of (piece_sent line n p) ≡ record_text n p
piece_records line' n p =
    let line = line' p in
    let bytes = record_text n p in
    events_of-append (to_listing line) (to_events bytes) ∙ ap (λ (l : List ℕ). l ++ events_of (to_events bytes)) (events_listed line) ∙ events_recorded bytes

record_first : (n : ℕ) (p : Piece) (ps : List Piece) → record_text n p ++ records_from (number_after n p) (map entry_of (events_in ps)) ≡ records_from n (map entry_of (events_in (p ∷ ps)))
record_first n (demanded p v) ps = refl
record_first n (cycled at f d r w) ps = refl
record_first n (lock_taken c w) ps = refl
record_first n (lock_released c) ps = refl
record_first n (event_left e) ps = refl

records_sent : (line : Piece → List ℕ) (n : ℕ) (ps : List Piece) → events_of (pieces_sent line n ps) ≡ records_from n (map entry_of (events_in ps))
records_sent line n [] = refl
records_sent line n (p ∷ ps) =
    let rest = pieces_sent line (number_after n p) ps in
    events_of-append (piece_sent line n p) rest
    ∙ ap (λ (l : List ℕ). l ++ events_of rest) (piece_records line n p)
    ∙ ap (λ (l : List ℕ). record_text n p ++ l) (records_sent line (number_after n p) ps)
    ∙ record_first n p ps

-- lines add nothing
lines_quiet : (line : Piece → List ℕ) (ps : List Piece) → events_of (lines_sent line ps) ≡ []
lines_quiet line [] = refl
lines_quiet line (p ∷ ps) = events_of-append (to_listing (line p)) (lines_sent line ps) ∙ ap (λ (l : List ℕ). l ++ events_of (lines_sent line ps)) (events_listed (line p)) ∙ lines_quiet line ps

with_line : (sent : List Sent) (line : List ℕ) → events_of (sent ++ to_listing line) ≡ events_of sent
with_line sent line = events_of-append sent (to_listing line) ∙ ap (λ (l : List ℕ). events_of sent ++ l) (events_listed line) ∙ append-nil (events_of sent)

-- The records of pieces one after another.
abbrev records_of : List Piece → List ℕ
records_of ps = records_from 1 (map entry_of (events_in ps))

events_in-append : (ps qs : List Piece) → events_in (ps ++ qs) ≡ events_in ps ++ events_in qs
events_in-append [] qs = refl
events_in-append (p ∷ ps) qs =
    ap (λ (l : List Event). event_in p ++ l) (events_in-append ps qs) ∙ sym (append_assoc (event_in p) (events_in ps) (events_in qs))

records-append : (n : ℕ) (xs ys : List Entry) → records_from n (xs ++ ys) ≡ records_from n xs ++ records_from (n + length xs) ys
records-append n [] ys =
    let same : n ≡ n + 0 = omega arith in
    ap (λ (k : ℕ). records_from k ys) same
records-append n (x ∷ xs) ys =
    let same : (n + 1) + length xs ≡ n + length (x ∷ xs) = omega arith in
    ap (λ (l : List ℕ). record_of n x ++ l) (records-append (n + 1) xs ys ∙ ap (λ (k : ℕ). records_from (n + 1) xs ++ records_from k ys) same)
    ∙ sym (append_assoc (record_of n x) (records_from (n + 1) xs) (records_from (n + length (x ∷ xs)) ys))

records_split : (before more' : List Piece) → records_of (before ++ more') ≡ records_of before ++ records_from (1 + count_of before) (map entry_of (events_in more'))
records_split before more' =
    ap (λ (es : List Event). records_from 1 (map entry_of es)) (events_in-append before more')
    ∙ ap (records_from 1) (map-append entry_of (events_in before) (events_in more'))
    ∙ records-append 1 (map entry_of (events_in before)) (map entry_of (events_in more'))
    ∙ ap (λ (k : ℕ). records_of before ++ records_from (1 + k) (map entry_of (events_in more'))) (length-map (events_in before) entry_of)

-- With more answers a run has the same pieces first.
pieces_extend : (bs : List Answer) (a b : Behaviour (Unit {0})) → Extends (RunEnd bs) is_short bs a b → (ps : List Piece) × (pieces b ≡ pieces a ++ ps)
pieces_extend bs (does p a) b h =
    let g = pieces_extend bs a h.0 h.2 in
    (g.0, ap (λ (x : Behaviour (Unit {0})). pieces x) h.1 ∙ ap (λ (l : List Piece). p ∷ l) g.1)
pieces_extend bs (ends u) b h = (pieces b, refl)
pieces_extend bs (stops w s) b h = (pieces b, refl)

module _ (t : Telling) (plan : Layout) (script : Script) where
  run_extends : (xs bs : List Answer) → (ps : List Piece) × (pieces (the_run plan script (xs ++ bs)) ≡ pieces (the_run plan script xs) ++ ps)
  run_extends xs bs = pieces_extend bs (the_run plan script xs) (the_run plan script (xs ++ bs)) (run_answers_extend plan script 65535 xs bs)

  -- what was sent for what counts so far has the records of its events
  record IsSpelled (c : Counted) : Type 0 where
    base : List Answer
    more' : List Answer
    parts : c.answers ≡ base ++ more'
    told : c.before ≡ pieces (the_run plan script base)
    between : IsBetween plan script base
    spelled : events_of c.sent ≡ records_of c.before

  -- the run on these answers goes on from the pieces that were told
  after_told : (c : Counted) (answers more' base : List Answer) → answers ≡ base ++ more' → c.before ≡ pieces (the_run plan script base) → events_of c.sent ≡ records_of c.before
      → events_of (c.sent ++ sent_after (line_of t script) c.before plan script answers) ≡ records_of (pieces (the_run plan script answers))
  after_told c answers more' base parts told spelled =
      let e = run_extends base more' in
      let whole : pieces (the_run plan script answers) ≡ c.before ++ e.0 = ap (λ (l : List Answer). pieces (the_run plan script l)) parts ∙ e.1 ∙ ap (λ (l : List Piece). l ++ e.0) (sym told) in
      let rest : drop (length c.before) (pieces (the_run plan script answers)) ≡ e.0 = ap (drop (length c.before)) whole ∙ drop_at c.before e.0 (length c.before) refl in
      events_of-append c.sent (sent_after (line_of t script) c.before plan script answers)
      ∙ (λ k. spelled k ++ events_of (pieces_sent (line_of t script) (1 + count_of c.before) (rest k)))
      ∙ ap (λ (l : List ℕ). records_of c.before ++ l) (records_sent (line_of t script) (1 + count_of c.before) e.0)
      ∙ sym (records_split c.before e.0)
      ∙ ap records_of (sym whole)

  left_quiet : (answers : List Answer) (n : ℕ) → events_of (left_sent t plan script answers n) ≡ []
  left_quiet answers n = with_line (lines_sent (line_of t script) (drop n (pieces (the_run plan script answers)))) _ ∙ lines_quiet (line_of t script) (drop n (pieces (the_run plan script answers)))

  then_spelled : (c : Counted) (g : Given) → IsSpelled c → IsSpelled (then_given t plan script c g)
  then_spelled c (gives.Answer a) s = record {
    base = s.base;
    more' = s.more' ++ a ∷ [];
    parts = ap (λ (l : List Answer). l ++ a ∷ []) s.parts ∙ append_assoc s.base s.more' (a ∷ []);
    told = s.told;
    between = s.between;
    spelled = s.spelled;
  }
  then_spelled c gives.Abandon s =
      let here : List Answer = before_service plan script c.answers in
      let later = service_begins plan script s.base s.more' s.between in
      let from : here ≡ s.base ++ later.0 = ap (before_service plan script) s.parts ∙ later.1 in
      let first : List Sent = sent_after (line_of t script) c.before plan script here in
      let last : List Sent = left_sent t plan script c.answers (length (pieces (the_run plan script here))) in record {
        base = here;
        more' = [];
        parts = sym (append-nil here);
        told = refl;
        between = service_between plan script c.answers;
        spelled = ap events_of (sym (append_assoc c.sent first last))
            ∙ events_of-append (c.sent ++ first) last
            ∙ ap (λ (l : List ℕ). events_of (c.sent ++ first) ++ l) (left_quiet c.answers (length (pieces (the_run plan script here))))
            ∙ append-nil (events_of (c.sent ++ first))
            ∙ after_told c here later.0 s.base from s.told s.spelled;
      }

  all_spelled : (c : Counted) (gs : List Given) → IsSpelled c → IsSpelled (counted_from t plan script c gs)
  all_spelled c [] s = s
  all_spelled c (g ∷ gs) s = all_spelled (then_given t plan script c g) gs (then_spelled c g s)

  none_spelled : IsSpelled none_counted
  none_spelled = record { base = []; more' = []; parts = refl; told = refl; between = inl refl; spelled = refl }

  called_file : (gs : List Given) → events_of (called_for t plan script gs) ≡ records_of (pieces (the_run plan script (that_count t plan script gs)))
  called_file gs =
      let c : Counted = counted t plan script gs in
      let s = all_spelled none_counted gs none_spelled in
      let now : List Sent = sent_after (line_of t script) c.before plan script c.answers in
      let open' : List ℕ = open_text t plan script c.answers in
      ap events_of (sym (append_assoc c.sent now (to_listing open')))
      ∙ with_line (c.sent ++ now) open'
      ∙ after_told c c.answers s.more' s.base s.parts s.told s.spelled

  begun_file : (yes : Bool) (gs : List Given) → events_of (if_begun yes (to_events (header Two) ++ called_for t plan script gs)) ≡ if_begun yes (event_file plan script (that_count t plan script gs))
  begun_file false gs = refl
  begun_file true gs =
      events_of-append (to_events (header Two)) (called_for t plan script gs)
      ∙ ap (λ (l : List ℕ). l ++ events_of (called_for t plan script gs)) (events_recorded (header Two))
      ∙ ap (λ (l : List ℕ). header Two ++ l) (called_file gs)

pub report_file : ReportSendsEventFile
report_file t plan script gs = begun_file t plan script (is_begun t gs false) gs

pub played_file : PlayedSendsEventFile
played_file t plan script r =
    with_line (whole_report t plan script r) (last_line t plan script r) ∙ begun_file t plan script (is_begun t r.given (is_none r.fault)) r.given
