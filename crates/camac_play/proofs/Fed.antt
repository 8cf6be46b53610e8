-- A run that is fed: what a text gave, what was sent, and what it calls for.
use Rattle.std.proofs.Common.{◌≡◌, ℕ, ◌+◌, List, [], ◌∷◌, ◌++◌, length, drop, Option, Some, None, refl, sym, ap, subst, ◌∙◌, append_assoc, append-nil, length-append, arith, cond, ◌<◌, ◌≤◌, ◌^◌, ◌⊎◌, inl, inr, Bool, true, false, not}
use Rattle.std.proofs.Math.Seq.{take-append_seam}
use Rattle.std.proofs.lemmas.List.{drop_at}
use Rattle.std.specs.Prelude.{unwrap_or, Ok, Err, IfSome, IfNone, Result, take, option_map, is_none, is_some}
use Rattle.camac_branch.specs.Branch.{Answer}
use Rattle.camac_branch.specs.Plan.{Layout}
use Rattle.camac_branch.specs.declared.answer.Overrun.{Overrun}
use Rattle.camac_answer.specs.Answers.{left_in, IsNext, window, IsOpen}
use Rattle.camac_answer.specs.Reading.{Reading}
use Rattle.camac_answer.specs.declared.fault.AnswerFault.{AnswerFault}
use Rattle.camac_answer.specs.declared.given.Given.{Given}
use Rattle.camac_answer.specs.declared.given.Given.TheVariants as gives
use Rattle.camac_play.specs.Told.{Counted, none_counted, most_answers, is_begun, if_begun, asked_text, line_of, pieces_sent, open_text, sent_after, left_line, called_after, back_to, counted_from, counted, that_count, takes, taken_from, is_inside, called_by, called_for, report, report_by, played, last_line, ending_of}
use Rattle.camac_play.specs.declared.telling.Telling.{Telling}
use Rattle.camac_play.specs.Play.{IsHeard, with_taken, only, HasGiven, HasRead, ReadsNoMore, FailsAtWrite, Feeds, FeedsOver}
use Rattle.camac_play.specs.Sent.{Outputs, Sends, SendsPrefix, Sent, to_listing}
use Rattle.camac_play.specs.declared.ending.Ending.{Ending}
use Rattle.camac_play.specs.declared.ending.Ending.TheVariants as how
use Rattle.camac_play.specs.declared.fault.PlayFault.{PlayFault}
use Rattle.camac_play.specs.declared.fault.PlayFault.TheVariants as fault
use Rattle.camac_play.specs.declared.telling.Telling.TheVariants.{Listing, Requests}
use Rattle.camac_play.proofs.Sending.{count_of, count-append, pieces_sent-append, told_sent, answer_sent, answer_counts, answer_uses, uses-append, start, due, first_due, before_first, begun_then, begun_ended, asked_after, nothing_asked, begins, first_part, Sends-trans, SendsPrefix-longer, SendsPrefix-after, later_part}
use Rattle.camac_play.proofs.Counting.{is_between, cut_stopped, counted-append}
use Rattle.camac_play.proofs.Heard.{given_none, given_next, given_end, given_broken, given_all, has_read, heard_end, heard_given, known, known_taken}
use Rattle.camac_play.proofs.Left.{IsBased, based_then, idle_at_end, sent_left, base_is, whole}
use Rattle.camac_lang.specs.Tree.{Script}
use Rattle.camac_model.specs.Behaviour.{Behaviour, does, ends, stops, Piece, pieces, stop_of, Stop, short, overrun, wrong, more, events, events_in, uses}
use Rattle.camac_model.specs.Run.{the_run}
use Rattle.camac_machine.specs.MachineState.{piece_of, Left}
use Rattle.camac_machine.specs.Rest.{Operation}
use Rattle.camac_machine.specs.declared.item.Item.{Item}
use Rattle.camac_run.specs.Abandoned.{Leaves, LeavesIf}
use Rattle.camac_run.specs.Ends.{stop_in}
use Rattle.camac_run.specs.Holds.{after, HoldsAfter, told_after, told_of}
use Rattle.camac_run.specs.Operation.{operation_of, wanted_after, Begins, Waits, Wants}
use Rattle.camac_run.specs.Runner.{RunnerState, GoesOn, Stops, rest, last_words_in, state_in}
use Rattle.camac_run.specs.declared.progress.End.{End}
use Rattle.camac_run.specs.declared.progress.End.TheVariants as end
use Rattle.camac_run.specs.declared.progress.Wanted.{Wanted}
use Rattle.camac_run.proofs.Abandoned.{abandoning_holds}
use Rattle.camac_run.proofs.Holds.{pieces-after, stop_of-after, going_on_holds, told_all, wants_are_wanted}

-- A run that is fed, what it has sent, and what it calls for.

-- no line was taken; or what was sent is what those before the last one call for, and more
abbrev pub Follows : Telling → Layout → Script → List Given → List Sent → Type 0
Follows t plan script taken sent =
    (taken ≡ [])
    ⊎ ((before : List Given) × (g : Given) × (more' : List Sent) × (taken ≡ before ++ g ∷ []) × (sent ≡ report t plan script before ++ more'))

-- what is sent of these pieces since
abbrev pub told_now : Telling → Script → Counted → List Piece → List Sent
told_now t script c since = c.sent ++ pieces_sent (line_of t script) (1 + count_of c.before) since

-- the same after what begins the event file
abbrev pub sent_of : Telling → Script → Counted → List Given → List Piece → List Sent
sent_of t script c taken since = if_begun (is_begun t taken false) (start ++ told_now t script c since)

-- the lines so far did these pieces, which were sent, and the runner holds the rest
pub record IsFed (t : Telling) (plan : Layout) (script : Script) (left now : Option Reading) (first sent_now : Outputs) (runner : RunnerState) (count : ℕ) (called : Option ℕ) : Type 0 where
  pub taken : List Given
  pub c : Counted
  pub counts : counted t plan script taken ≡ c
  pub done : List Piece
  pub since : List Piece
  pub holds : HoldsAfter plan script c.answers done runner
  pub parts : done ≡ c.before ++ since
  pub sent : Sends first sent_now (sent_of t script c taken since)
  pub total : count ≡ count_of done
  pub used : uses done ≡ length c.answers
  pub given : HasGiven t plan script left now taken
  pub follows : Follows t plan script taken (sent_of t script c taken since)
  pub fresh : taken ≡ [] → (c.sent ≡ []) × (since ≡ [])
  pub based : IfSome runner.pending (λ w. IsBased plan script c done since called runner)

pub first_sent : (t : Telling) (script : Script) (a b : Outputs) → Sends a b (first_due t) → Sends a b (sent_of t script none_counted [] [])
first_sent Listing script a b sends = sends
first_sent Requests script a b sends = subst (λ (l : List Sent). Sends a b l) (sym (append-nil start)) sends

-- the header was sent, where that is due at first
abbrev pub starts : (t : Telling) (plan : Layout) (script : Script) (left now : Option Reading) (a b : Outputs) (runner : RunnerState) → ((answers : List Answer) → rest runner answers ≡ the_run plan script answers) → now ≡ left
    → Sends a b (first_due t) → IsFed t plan script left now a b runner 0 None
starts t plan script left now a b runner run same sends = record {
  taken = [];
  c = none_counted;
  counts = refl;
  done = [];
  since = [];
  holds = record { goes = λ (answers : List Answer). sym (run answers) };
  parts = refl;
  sent = first_sent t script a b sends;
  total = refl;
  used = refl;
  given = subst (λ (n : Option Reading). HasGiven t plan script left n []) (sym same) (given_none t plan script left);
  follows = inl refl;
  fresh = λ e. (refl, refl);
  based = (rw (idle_at_end runner (run [])) tt);
}

-- a prefix of the header was written before the first request
pub stops_at_first : (t : Telling) (plan : Layout) (script : Script) (left : Option Reading) (text : Option (List ℕ)) (a b : Outputs) (r : Result (Ending × ℕ) PlayFault) → r ≡ Err fault.Write → left ≡ left_in (most_answers t) 0 text
    → SendsPrefix a b (first_due t) → Feeds t plan script left text a b r
stops_at_first t plan script left text a b r write same prefix = rw write (inl (inl (has_read t plan script left left text [] (given_none t plan script left) same, before_first t plan script a b prefix)))

-- the answers of a run can be numbered in 32 bits
pub numbered : (t : Telling) → most_answers t ≤ 4294967295
numbered Listing = omega arith
numbered Requests = omega arith

ends_by : (e : End) → ending_of (stop_in e) None ≡ how.End e
ends_by end.Ended = refl
ends_by end.Short = refl
ends_by (end.Overrun o) = refl

-- a run that waits for an answer did not stop at a wait
refused_by : {A : Type 0} (b : Behaviour A) (f : AnswerFault) → Waits b → ending_of (stop_of b) (Some f) ≡ how.Refused f
refused_by (does p b) f h = absurd h
refused_by (ends x) f h = refl
refused_by (stops short s) f h = refl
refused_by (stops (overrun c w) s) f h = absurd h
refused_by (stops wrong s) f h = absurd h
refused_by (stops more s) f h = absurd h

no_overrun : {A : Type 0} (t : Telling) (plan : Layout) (script : Script) (left : Option Reading) (now : Option (List ℕ)) (e : End) (b : Behaviour A) → Waits b → stop_in e ≡ stop_of b → ReadsNoMore t plan script left now (how.End e)
no_overrun t plan script left now end.Ended b w h = tt
no_overrun t plan script left now end.Short b w h = tt
no_overrun t plan script left now (end.Overrun o) (does p b) w h = absurd w
no_overrun t plan script left now (end.Overrun o) (ends x) w h = cc
no_overrun t plan script left now (end.Overrun o) (stops short s) w h = cc
no_overrun t plan script left now (end.Overrun o) (stops (overrun c k) s) w h = absurd w
no_overrun t plan script left now (end.Overrun o) (stops wrong s) w h = absurd w
no_overrun t plan script left now (end.Overrun o) (stops more s) w h = absurd w

-- a run that waits for an answer does not end at a wait
waits_end : {A : Type 0} (t : Telling) (plan : Layout) (script : Script) (left : Option Reading) (now : Option (List ℕ)) (b : Behaviour A) → Waits b → ReadsNoMore t plan script left now (ending_of (stop_of b) None)
waits_end t plan script left now (does p b) w = absurd w
waits_end t plan script left now (ends x) w = tt
waits_end t plan script left now (stops short s) w = tt
waits_end t plan script left now (stops (overrun c k) s) w = absurd w
waits_end t plan script left now (stops wrong s) w = absurd w
waits_end t plan script left now (stops more s) w = absurd w

pub none_taken : {T : Type 0} (xs : List Given) (a : Given) → xs ++ a ∷ [] ≡ [] → T
none_taken xs a e = absurd (omega (arith, ap length e, length-append xs (a ∷ [])))

stops_now : (o : Option Overrun) (P : Type 0) → o ≡ None → IfNone o P → P
stops_now None P e h = h
stops_now (Some x) P e h = cc

pub next_number : (event : Option Left) (n k m : ℕ) → IfSome event (λ e. (e.0 ≡ n + 1) × (m ≡ e.0) × (e.2.missed ≤ e.2.cycles)) → n ≡ k → IfSome event (λ e. e.0 ≡ k + 1)
next_number None n k m h same = tt
next_number (Some e) n k m h same = h.0 ∙ ap (λ (j : ℕ). j + 1) same

one_on : (event : Option Left) (k : ℕ) → IfSome event (λ e. e.0 ≡ k + 1) → IfSome event (λ e. e.0 ≡ 1 + k)
one_on None k h = tt
one_on (Some e) k h = h ∙ omega arith

-- the number of events that the runner and the loop count
pub same_number : (event : Option Left) (n k m r : ℕ) → IfNone event (m ≡ n) → IfSome event (λ e. (e.0 ≡ n + 1) × (m ≡ e.0) × (e.2.missed ≤ e.2.cycles)) → n ≡ k → IfNone event (r ≡ k) → IfSome event (λ e. r ≡ e.0) → m ≡ r
same_number None n k m r a h same b d = a ∙ same ∙ sym b
same_number (Some e) n k m r a h same b d = h.1 ∙ sym d

-- where a run stands by a test of its runner
abbrev pub standing : Bool → RunnerState → Behaviour (Unit {0})
standing b h = cond b (stops short (state_in h [])) (ends tt)

inside_now : (b : Bool) (h : RunnerState) → is_inside (stop_of (standing b h)) ≡ b
inside_now true h = refl
inside_now false h = refl

between_now : (b : Bool) (h : RunnerState) → is_none (stop_of (standing b h)) ≡ not b
between_now true h = refl
between_now false h = refl

by_pending : (p : Option Operation) (P Q : Type 0) → (is_some p ≡ false → P) → (is_some p ≡ true → Q) → IfNone p P × IfSome p (λ w. Q)
by_pending None P Q none some = (none refl, tt)
by_pending (Some w) P Q none some = (tt, some refl)

module _ (t : Telling) (plan : Layout) (script : Script) (left now : Option Reading) (a b : Outputs) (runner : RunnerState) (count : ℕ) (called : Option ℕ) (fed : IsFed t plan script left now a b runner count called) (o : Wanted) (wants : Wants runner (Some o)) (inside : Bool) (stands : rest runner [] ≡ standing inside runner) where
  abbrev c : Counted
  c = fed.c

  abbrev done : List Piece
  done = fed.done

  abbrev asked : List Sent
  asked = to_listing (asked_text t o)

  pub did : pieces (the_run plan script c.answers) ≡ done
  did = told_all plan script c.answers done runner fed.holds wants.1

  stop_now : stop_of (the_run plan script c.answers) ≡ stop_of (rest runner [])
  stop_now =
      ap (λ (l : List Answer). stop_of (the_run plan script l)) (sym (append-nil c.answers))
      ∙ ap (λ (x : Behaviour (Unit {0})). stop_of x) (fed.holds.goes []) ∙ stop_of-after done (rest runner [])

  stop_counted : stop_of (the_run plan script (that_count t plan script fed.taken)) ≡ stop_of (rest runner [])
  stop_counted = ap (λ (x : Counted). stop_of (the_run plan script x.answers)) fed.counts ∙ stop_now

  count_now : count ≡ length (events (the_run plan script (that_count t plan script fed.taken)))
  count_now = fed.total ∙ ap (λ (ps : List Piece). length (events_in ps)) (sym did) ∙ ap (λ (x : Counted). length (events (the_run plan script x.answers))) (sym fed.counts)

  -- a service is in progress exactly where the runner says so
  takes_abandon : takes plan script (counted t plan script fed.taken) gives.Abandon ≡ inside
  takes_abandon = ap is_inside stop_counted ∙ ap (λ (x : Behaviour (Unit {0})). is_inside (stop_of x)) stands ∙ inside_now inside runner

  between_is : is_between plan script c.answers ≡ not inside
  between_is = ap (λ (x : Option Stop). is_none x) stop_now ∙ ap (λ (x : Behaviour (Unit {0})). is_none (stop_of x)) stands ∙ between_now inside runner

  takes_it : (g : Given) → (g ≡ gives.Abandon → inside ≡ true) → takes plan script (counted t plan script fed.taken) g ≡ true
  takes_it (gives.Answer x) h = refl
  takes_it gives.Abandon h = takes_abandon ∙ h refl

  -- what is wanted stands open as long as no answer was used for it
  open_at : (more' : List Answer) → pieces (the_run plan script (c.answers ++ more')) ≡ done → open_text t plan script (c.answers ++ more') ≡ asked_text t o
  open_at more' same =
      ap (λ (n : ℕ). unwrap_or (option_map (asked_text t) (wanted_after plan script (take n (c.answers ++ more')))) []) (ap uses same ∙ fed.used)
      ∙ ap (λ (answers : List Answer). unwrap_or (option_map (asked_text t) (wanted_after plan script answers)) []) (take-append_seam c.answers more')
      ∙ ap (λ (x : Option Wanted). unwrap_or (option_map (asked_text t) x) []) (wants_are_wanted plan script c.answers done runner o fed.holds wants)

  called_at : (more' : List Answer) → pieces (the_run plan script (c.answers ++ more')) ≡ done → called_by t plan script (record c { answers = c.answers ++ more' }) ≡ told_now t script c fed.since ++ asked
  called_at more' same =
      ap (λ (ps : List Piece). c.sent ++ (pieces_sent (line_of t script) (1 + count_of c.before) ps ++ to_listing (open_text t plan script (c.answers ++ more'))))
      (ap (drop (length c.before)) (same ∙ fed.parts) ∙ drop_at c.before fed.since (length c.before) refl)
      ∙ ap (λ (text : List ℕ). c.sent ++ (pieces_sent (line_of t script) (1 + count_of c.before) fed.since ++ to_listing text)) (open_at more' same)
      ∙ sym (append_assoc c.sent (pieces_sent (line_of t script) (1 + count_of c.before) fed.since) asked)

  called_now : called_for t plan script fed.taken ≡ told_now t script c fed.since ++ asked
  called_now =
      ap (called_by t plan script) fed.counts
      ∙ ap (λ (l : List Answer). called_by t plan script (record c { answers = l })) (sym (append-nil c.answers))
      ∙ called_at [] (ap (λ (l : List Answer). pieces (the_run plan script l)) (append-nil c.answers) ∙ did)

  report_now : report t plan script fed.taken ≡ sent_of t script c fed.taken fed.since ++ asked
  report_now = ap (λ (l : List Sent). if_begun (is_begun t fed.taken false) (start ++ l)) called_now ∙ asked_after t fed.taken o (told_now t script c fed.since)

  stops_after : (text : Option (List ℕ)) (d : Outputs) → HasRead t plan script left text fed.taken → SendsPrefix b d asked → Follows t plan script fed.taken (sent_of t script c fed.taken fed.since) → FailsAtWrite t plan script left text a d (report t plan script)
  stops_after text d read prefix (inl none) = inl (
    subst (λ (l : List Given). HasRead t plan script left text l) none read,
    subst (λ (l : List Given). SendsPrefix a d (report t plan script l)) none
        (subst (λ (l : List Sent). SendsPrefix a d l) (sym report_now) (SendsPrefix-after a b d (sent_of t script c fed.taken fed.since) asked fed.sent prefix)),
  )
  stops_after text d read prefix (inr (before, x, more', taken, sent)) = inr (
    before,
    x,
    subst (λ (l : List Given). HasRead t plan script left text l) taken read,
    later_part a b d (report t plan script before) more' asked (report t plan script (before ++ x ∷ []))
        (subst (λ (l : List Sent). Sends a b l) sent fed.sent) prefix
        (ap (report t plan script) (sym taken) ∙ report_now ∙ ap (λ (l : List Sent). l ++ asked) sent),
  )

  -- what asks for the operation was not written whole
  pub stops_asking : (r : Result (Ending × ℕ) PlayFault) (text : Option (List ℕ)) (d : Outputs) → r ≡ Err fault.Write → now ≡ left_in (most_answers t) (length fed.taken) text → SendsPrefix b d asked → Feeds t plan script left text a d r
  stops_asking r text d write same prefix = rw write (inl (stops_after text d (has_read t plan script left now text fed.taken fed.given same) prefix fed.follows))

  nothing_called : t ≡ Listing → fed.taken ≡ [] → called_for t plan script fed.taken ≡ []
  nothing_called is none =
      let new = fed.fresh none in
      called_now
      ∙ ap (λ (l : List Sent). (l ++ pieces_sent (line_of t script) (1 + count_of c.before) fed.since) ++ asked) new.0
      ∙ ap (λ (ps : List Piece). pieces_sent (line_of t script) (1 + count_of c.before) ps ++ asked) new.1
      ∙ nothing_asked t o is

  -- the header, where it is due by the next line or the end
  abbrev due_now : List Sent
  due_now = due t (length fed.taken)

  pub begun_now : report_by true t plan script fed.taken ≡ report t plan script fed.taken ++ due_now
  begun_now = begins t fed.taken (called_for t plan script fed.taken) nothing_called

  begun_all : report_by true t plan script fed.taken ≡ start ++ called_for t plan script fed.taken
  begun_all = ap (λ (yes : Bool). if_begun yes (start ++ called_for t plan script fed.taken)) (begun_ended t fed.taken)

  module _ (d : Outputs) (asks : Sends b d asked) where
    pub sends_all : Sends a d (report t plan script fed.taken)
    sends_all = subst (λ (l : List Sent). Sends a d l) (sym report_now) (Sends-trans a b d (sent_of t script c fed.taken fed.since) asked fed.sent asks)

    -- the text has a fault where the next line is wanted, or the run takes it not
    pub faults_here : (n : ℕ) (new : Option Reading) (text : Option (List ℕ)) (f : AnswerFault) → n ≡ length fed.taken → IsHeard inside n now (Err f) new → Feeds t plan script left text a d (Ok (how.Refused f, count))
    faults_here n new text f same s = (
      record { given = fed.taken; fault = Some f },
      given_broken t plan script left now new fed.taken fed.given inside n f same (λ e. takes_abandon ∙ e) s,
      sym (refused_by (rest runner []) f wants.1) ∙ ap (λ (x : Option Stop). ending_of x (Some f)) (sym stop_counted),
      tt,
      count_now,
      sends_all,
    )

    -- it was not read
    pub unread_here : (gathers : Bool) (before text : Option (List ℕ)) (e : PlayFault) (r : Result (Ending × ℕ) PlayFault) → r ≡ Err e → count < 2 ^ 32 → now ≡ left_in (most_answers t) (length fed.taken) before
        → (e ≡ fault.Read → IsOpen (window (most_answers t) (length fed.taken)) before text) → (e ≡ fault.Write → (text ≡ before) × (gathers ≡ true)) → FeedsOver gathers t plan script left text a d r
    unread_here gathers before text fault.Read r is few same open' unread =
        rw is (inl (fed.taken, before, has_read t plan script left now before fed.taken fed.given same, open' refl, (let n = count_now in omega (arith, n, few)), sends_all))
    unread_here gathers before text fault.Write r is few same open' unread =
        let u = unread refl in
        inr (is, (u.1, (fed.taken, has_read t plan script left now text fed.taken fed.given (same ∙ ap (left_in (most_answers t) (length fed.taken)) (sym u.0)), sends_all)))

    -- the header was not written whole, after a line or at the end of the text
    pub stops_beginning : (n : ℕ) (next : Option Given) (new : Option Reading) (text : Option (List ℕ)) (e : Outputs) (r : Result (Ending × ℕ) PlayFault) → r ≡ Err fault.Write → IsHeard inside n now (Ok next) new
        → ((g : Given) → new ≡ left_in (most_answers t) (length (fed.taken ++ g ∷ [])) text) → SendsPrefix d e due_now → Feeds t plan script left text a e r
    stops_beginning n (Some g) new text e r write given same prefix =
        let then' : List Given = fed.taken ++ g ∷ [] in
        let next' = heard_given inside n now new g given in
        rw write (inl (inr (
          fed.taken,
          g,
          has_read t plan script left new text then' (given_next t plan script left now new fed.taken fed.given g (takes_it g next'.1) next'.0) (same g),
          first_part t plan script fed.taken a d e (report t plan script then') (called_for t plan script then')
              (ap (λ (yes : Bool). if_begun yes (start ++ called_for t plan script then')) (begun_then t fed.taken [] g false)) sends_all prefix,
        )))
    stops_beginning n None new text e r write given same prefix =
        let line : List Sent = to_listing (last_line t plan script (only fed.taken)) in
        rw write (inr (
          only fed.taken,
          given_end t plan script left now new fed.taken fed.given (heard_end inside n now new given),
          subst (λ (x : Option Stop). ReadsNoMore t plan script left text (ending_of x None)) (sym stop_counted) (waits_end t plan script left text (rest runner []) wants.1),
          first_part t plan script fed.taken a d e (played t plan script (only fed.taken)) (called_for t plan script fed.taken ++ line)
              (ap (λ (l : List Sent). l ++ line) begun_all ∙ append_assoc start (called_for t plan script fed.taken) line) sends_all prefix,
        ))

    -- it was, or was not due
    pub sends_due : (e : Outputs) → Sends d e due_now → Sends a e (report_by true t plan script fed.taken)
    sends_due e due' = subst (λ (l : List Sent). Sends a e l) (sym begun_now) (Sends-trans a d e (report t plan script fed.taken) due_now sends_all due')

  module _ (d : Outputs) (sends_all : Sends a d (report_by true t plan script fed.taken)) where
    -- no line is left
    pub ends_here : (n : ℕ) (new : Option Reading) (text : Option (List ℕ)) (e : End) → IsHeard inside n now (Ok None) new → stop_in e ≡ stop_of (rest runner []) → Feeds t plan script left text a d (Ok (how.End e, count))
    ends_here n new text e s stop = (
      only fed.taken,
      given_end t plan script left now new fed.taken fed.given (heard_end inside n now new s),
      sym (ends_by e) ∙ ap (λ (x : Option Stop). ending_of x None) (stop ∙ sym stop_counted),
      no_overrun t plan script left text e (rest runner []) wants.1 stop,
      count_now,
      sends_all,
    )

    -- what follows a line, and what was sent before it
    pub follows_on : (g : Given) (last : List Sent) (after' : Counted) (since' : List Piece) → told_now t script after' since' ≡ called_for t plan script fed.taken ++ last
        → sent_of t script after' (fed.taken ++ g ∷ []) since' ≡ report_by true t plan script fed.taken ++ last
    follows_on g last after' since' e =
        ap (λ (yes : Bool). if_begun yes (start ++ told_now t script after' since')) (begun_then t fed.taken [] g false)
        ∙ ap (λ (l : List Sent). start ++ l) e
        ∙ sym (append_assoc start (called_for t plan script fed.taken) last)
        ∙ ap (λ (l : List Sent). l ++ last) (sym begun_all)

    pub follows_then : (g : Given) (last : List Sent) (after' : Counted) (since' : List Piece) → told_now t script after' since' ≡ called_for t plan script fed.taken ++ last
        → Follows t plan script (fed.taken ++ g ∷ []) (sent_of t script after' (fed.taken ++ g ∷ []) since')
    follows_then g last after' since' e = inr (
      fed.taken,
      g,
      due_now ++ last,
      refl,
      follows_on g last after' since' e ∙ ap (λ (l : List Sent). l ++ last) begun_now ∙ append_assoc (report t plan script fed.taken) due_now last,
    )

    -- a prefix of what a line calls for was written
    stops_then : (g : Given) (new : Option Reading) (text : Option (List ℕ)) (last more' : List Sent) (r : Result (Ending × ℕ) PlayFault) (e : Outputs) → r ≡ Err fault.Write → HasGiven t plan script left new (fed.taken ++ g ∷ [])
        → new ≡ left_in (most_answers t) (length (fed.taken ++ g ∷ [])) text → called_for t plan script (fed.taken ++ g ∷ []) ≡ called_for t plan script fed.taken ++ (last ++ more') → SendsPrefix d e last → Feeds t plan script left text a e r
    stops_then g new text last more' r e write given same called' prefix =
        let then' : List Given = fed.taken ++ g ∷ [] in
        let whole' : report t plan script then' ≡ (report t plan script fed.taken ++ due_now) ++ (last ++ more') =
        ap (λ (yes : Bool). if_begun yes (start ++ called_for t plan script then')) (begun_then t fed.taken [] g false)
        ∙ ap (λ (l : List Sent). start ++ l) called'
        ∙ sym (append_assoc start (called_for t plan script fed.taken) (last ++ more'))
        ∙ ap (λ (l : List Sent). l ++ (last ++ more')) (sym begun_all ∙ begun_now) in
        rw write (inl (inr (
          fed.taken,
          g,
          has_read t plan script left new text then' given same,
          later_part a d e (report t plan script fed.taken) due_now (last ++ more') (report t plan script then')
              (subst (λ (l : List Sent). Sends a d l) begun_now sends_all) (SendsPrefix-longer d e last more' prefix) whole',
        )))

    module _ (new : Option Reading) (text : Option (List ℕ)) (answer : Answer) (given : IsNext now (Ok (Some (gives.Answer answer))) new) where
      abbrev pub taken : List Given
      taken = fed.taken ++ gives.Answer answer ∷ []

      abbrev given_then : HasGiven t plan script left new taken
      given_then = given_next t plan script left now new fed.taken fed.given (gives.Answer answer) refl given

      abbrev c' : Counted
      c' = record c { answers = c.answers ++ answer ∷ [] }

      pub counts' : counted t plan script taken ≡ c'
      counts' =
          counted-append plan script t none_counted fed.taken (gives.Answer answer ∷ [])
          ∙ ap (λ (x : Counted). counted_from t plan script x (gives.Answer answer ∷ [])) fed.counts

      module _ (halt : Overrun) (runner' : RunnerState) (halts : Stops runner answer halt runner') where
        stopped : (answers : List Answer) → (pieces (the_run plan script (c.answers ++ answer ∷ answers)) ≡ done) × (stop_of (the_run plan script (c.answers ++ answer ∷ answers)) ≡ Some (overrun halt.c halt.wait))
        stopped answers =
            let at = state_in runner (answer ∷ answers) in
            let now' = stops_now runner.overrun ((more' : List Answer) → rest runner (answer ∷ more') ≡ stops (overrun halt.c halt.wait) (state_in runner (answer ∷ more'))) wants.0 halts.now answers in
            let run : the_run plan script (c.answers ++ answer ∷ answers) ≡ after done (stops (overrun halt.c halt.wait) at) = fed.holds.goes (answer ∷ answers) ∙ ap (after done) now' in (
              ap (λ (y : Behaviour (Unit {0})). pieces y) run ∙ pieces-after done (stops (overrun halt.c halt.wait) at) ∙ append-nil done,
              ap (λ (y : Behaviour (Unit {0})). stop_of y) run ∙ stop_of-after done (stops (overrun halt.c halt.wait) at),
            )

        -- what is counted of all that a run takes of the text then
        abbrev CountsTo : Counted → Type 0
        CountsTo x =
            (more' : List Answer) × (counted_from t plan script x (taken_from t plan script x (length taken) (known t plan script new).given (known t plan script new).fault).given ≡ record c { answers = c.answers ++ answer ∷ more' })

        counts_to : CountsTo (counted t plan script taken)
        counts_to =
            let cut = cut_stopped plan script t c' (length taken) (known t plan script new).given (known t plan script new).fault halt.c halt.wait
            (λ more'. ap (λ (l : List Answer). stop_of (the_run plan script l)) (append_assoc c.answers (answer ∷ []) more') ∙ (stopped more').1) in
            subst CountsTo (sym counts') (cut.0, cut.1 ∙ ap (λ (l : List Answer). record c { answers = l }) (append_assoc c.answers (answer ∷ []) cut.0))

        -- its wait is not permitted
        pub overruns_here : new ≡ left_in (most_answers t) (length taken) text → Feeds t plan script left text a d (Ok (how.End (end.Overrun halt), count))
        overruns_here same =
            let to = counts_to in
            let tail : Reading = known_taken t plan script new taken in
            let all : List Given = taken ++ tail.given in
            let s = stopped to.0 in
            let ended : Bool = is_none tail.fault in
            let counts_all : counted t plan script all ≡ record c { answers = c.answers ++ answer ∷ to.0 } = counted-append plan script t none_counted taken tail.given ∙ to.1 in
            let parts : all ≡ fed.taken ++ gives.Answer answer ∷ tail.given = append_assoc fed.taken (gives.Answer answer ∷ []) tail.given in (
              with_taken taken tail,
              given_all t plan script left new taken given_then,
              ap (λ (y : Option Stop). ending_of y tail.fault) (sym s.1 ∙ ap (λ (x : Counted). stop_of (the_run plan script x.answers)) (sym counts_all)),
              (
                taken,
                has_read t plan script left new text taken given_then same,
                ap (λ (y : Option Stop). ending_of y None) (ap (λ (x : Counted). stop_of (the_run plan script x.answers)) counts' ∙ (stopped []).1),
              ),
              fed.total ∙ ap (λ (ps : List Piece). length (events_in ps)) (sym s.0 ∙ ap (λ (x : Counted). pieces (the_run plan script x.answers)) (sym counts_all)),
              subst (λ (l : List Sent). Sends a d l) (begun_all ∙ ap (λ (l : List Sent). start ++ l) (called_now ∙ sym (called_at (answer ∷ to.0) s.0) ∙ ap (called_by t plan script) (sym counts_all))
                  ∙ sym (ap (λ (yes : Bool). if_begun yes (start ++ called_for t plan script all)) (ap (λ (l : List Given). is_begun t l ended) parts ∙ begun_then t fed.taken tail.given (gives.Answer answer) ended))) sends_all,
            )

      module _ (runner' : RunnerState) (told : Item) (ks : List ℕ) (event : Option Left) (words : List ℕ) (g : GoesOn runner answer told ks event runner') (same_words : words ≡ last_words_in runner') (same_count : runner.events ≡ count) where
        abbrev step : List Piece
        step = told_of told ks event (last_words_in runner')

        abbrev done' : List Piece
        done' = done ++ step

        abbrev since' : List Piece
        since' = fed.since ++ step

        abbrev holds' : HoldsAfter plan script c'.answers done' runner'
        holds' = going_on_holds plan script c.answers answer done runner runner' told ks event fed.holds g

        told_is : operation_of (piece_of told) ≡ Some o
        told_is = subst (λ (x : Behaviour (Unit {0})). Begins o answer x) (g.goes []) (wants.2 answer [])

        abbrev text_sent : List Sent
        text_sent = told_sent t script told ks event words

        numbers : IfSome event (λ e. e.0 ≡ 1 + count_of done)
        numbers = one_on event (count_of done) (next_number event runner.events (count_of done) runner'.events g.next (same_count ∙ fed.total))

        pub parts' : done' ≡ c.before ++ since'
        parts' = ap (λ (l : List Piece). l ++ step) fed.parts ∙ append_assoc c.before fed.since step

        number_now : (1 + count_of c.before) + count_of fed.since ≡ 1 + count_of done
        number_now = omega (arith, ap count_of fed.parts, count-append c.before fed.since)

        -- what was sent of all pieces is what the lines before this one call for, and what it did
        pub as_called : told_now t script c' since' ≡ called_for t plan script fed.taken ++ text_sent
        as_called =
            let before : List Sent = pieces_sent (line_of t script) (1 + count_of c.before) fed.since in
            ap (λ (l : List Sent). c.sent ++ l)
            (pieces_sent-append (line_of t script) (1 + count_of c.before) fed.since step
            ∙ ap (λ (k : ℕ). before ++ pieces_sent (line_of t script) k step) number_now
            ∙ ap (λ (l : List ℕ). before ++ pieces_sent (line_of t script) (1 + count_of done) (piece_of told ∷ told_after ks event l)) (sym same_words)
            ∙ ap (λ (l : List Sent). before ++ l) (answer_sent t script (1 + count_of done) o told ks event words told_is numbers)
            ∙ sym (append_assoc before asked text_sent))
            ∙ sym (append_assoc c.sent (before ++ asked) text_sent)
            ∙ ap (λ (l : List Sent). l ++ text_sent) (sym (append_assoc c.sent before asked) ∙ sym called_now)

        pub uses_then : uses done' ≡ length c'.answers
        uses_then =
            let sum = uses-append done step in
            let one = answer_uses o told ks event (last_words_in runner') told_is in
            let len = length-append c.answers (answer ∷ []) in
            let used = fed.used in
            omega (arith, sum, one, len, used)

        pub based' : inside ≡ is_some runner.pending → IfSome runner'.pending (λ w. IsBased plan script c' done' since' (called_after called (piece_of told)) runner')
        based' some =
            let by = by_pending runner.pending (is_between plan script c.answers ≡ true) (is_between plan script c.answers ≡ false) (λ e. between_is ∙ ap not (some ∙ e)) (λ e. between_is ∙ ap not (some ∙ e)) in
            based_then plan script c answer done fed.since called runner runner' told ks event g did runner.pending runner'.pending refl refl fed.holds fed.parts fed.used by.0 by.1 fed.based

        -- what it did was written
        abbrev pub goes_on : (e : Outputs) (n : ℕ) (v : Option ℕ) → v ≡ called_after called (piece_of told) → inside ≡ is_some runner.pending → IfNone event (n ≡ count) → IfSome event (λ x. n ≡ x.0) → Sends d e text_sent
            → IsFed t plan script left new a e runner' n v
        goes_on e n v calls some none left' sends = record {
          taken = taken;
          c = c';
          counts = counts';
          done = done';
          since = since';
          holds = holds';
          parts = parts';
          sent = subst (λ (l : List Sent). Sends a e l) (sym (follows_on (gives.Answer answer) text_sent c' since' as_called)) (Sends-trans a d e (report_by true t plan script fed.taken) text_sent sends_all sends);
          total = answer_counts told ks event (last_words_in runner') count n none left' (next_number event runner.events count runner'.events g.next same_count)
              ∙ ap (λ (k : ℕ). k + count_of step) fed.total ∙ sym (count-append done step);
          used = uses_then;
          given = given_then;
          follows = follows_then (gives.Answer answer) text_sent c' since' as_called;
          fresh = λ x. none_taken fed.taken (gives.Answer answer) x;
          based = subst (λ (u : Option ℕ). IfSome runner'.pending (λ w. IsBased plan script c' done' since' u runner')) (sym calls) (based' some);
        }

        -- a prefix of that was written
        pub stops_here : (r : Result (Ending × ℕ) PlayFault) (e : Outputs) → r ≡ Err fault.Write → new ≡ left_in (most_answers t) (length taken) text → SendsPrefix d e text_sent → Feeds t plan script left text a e r
        stops_here r e write same prefix =
            let more' : List Piece = pieces (rest runner' []) in
            let did_then : pieces (the_run plan script c'.answers) ≡ done' ++ more' =
            ap (λ (l : List Answer). pieces (the_run plan script l)) (sym (append-nil c'.answers)) ∙ ap (λ (y : Behaviour (Unit {0})). pieces y) (holds'.goes []) ∙ pieces-after done' (rest runner' []) in
            let since_then : drop (length c.before) (pieces (the_run plan script c'.answers)) ≡ since' ++ more' =
            ap (drop (length c.before)) (did_then ∙ ap (λ (l : List Piece). l ++ more') parts' ∙ append_assoc c.before since' more') ∙ drop_at c.before (since' ++ more') (length c.before) refl in
            let first' : List Sent = pieces_sent (line_of t script) (1 + count_of c.before) since' in
            let next' : List Sent = pieces_sent (line_of t script) ((1 + count_of c.before) + count_of since') more' in
            let open' : List Sent = to_listing (open_text t plan script c'.answers) in
            let called' : called_for t plan script taken ≡ called_for t plan script fed.taken ++ (text_sent ++ (next' ++ open')) =
            ap (called_by t plan script) counts'
            ∙ ap (λ (ps : List Piece). c.sent ++ (pieces_sent (line_of t script) (1 + count_of c.before) ps ++ open')) since_then
            ∙ ap (λ (l : List Sent). c.sent ++ l) (ap (λ (l : List Sent). l ++ open') (pieces_sent-append (line_of t script) (1 + count_of c.before) since' more') ∙ append_assoc first' next' open')
            ∙ sym (append_assoc c.sent first' (next' ++ open'))
            ∙ ap (λ (l : List Sent). l ++ (next' ++ open')) as_called
            ∙ append_assoc (called_for t plan script fed.taken) text_sent (next' ++ open') in
            stops_then (gives.Answer answer) new text text_sent (next' ++ open') r e write given_then same called' prefix

    -- The service in progress is left.
    module _ (new : Option Reading) (text : Option (List ℕ)) (given : IsNext now (Ok (Some gives.Abandon)) new) (yes : inside ≡ true) (runner' : RunnerState) (unlocks : List ℕ) (leaves : Leaves runner unlocks runner') (in_it : IsBased plan script c done fed.since called runner) where
      abbrev taken_left : List Given
      taken_left = fed.taken ++ gives.Abandon ∷ []

      abbrev name : List Sent
      name = to_listing (left_line t script called)

      not_between : is_between plan script c.answers ≡ false
      not_between = between_is ∙ ap not yes

      abbrev back : Counted
      back = back_to t plan script c in_it.base

      pub counts_back : counted t plan script taken_left ≡ back
      counts_back =
          counted-append plan script t none_counted fed.taken (gives.Abandon ∷ [])
          ∙ ap (λ (x : Counted). counted_from t plan script x (gives.Abandon ∷ [])) fed.counts
          ∙ ap (back_to t plan script c) (base_is t plan script c done fed.since called runner in_it did fed.parts not_between)

      pub given_left : HasGiven t plan script left new taken_left
      given_left = given_next t plan script left now new fed.taken fed.given gives.Abandon (takes_abandon ∙ yes) given

      named : back.sent ≡ called_for t plan script fed.taken ++ name
      named =
          sent_left t plan script c done fed.since called runner in_it did fed.parts (asked_text t o)
          (ap (open_text t plan script) (sym (append-nil c.answers)) ∙ open_at [] (ap (λ (l : List Answer). pieces (the_run plan script l)) (append-nil c.answers) ∙ did))
          ∙ ap (λ (l : List Sent). l ++ name) (sym (append_assoc c.sent (pieces_sent (line_of t script) (1 + count_of c.before) fed.since) asked) ∙ sym called_now)

      pub as_left : told_now t script back [] ≡ called_for t plan script fed.taken ++ name
      as_left = append-nil back.sent ∙ named

      -- its name was written
      abbrev pub leaves_on : (e : Outputs) → Sends d e name → IsFed t plan script left new a e runner' count called
      leaves_on e sends = record {
        taken = taken_left;
        c = back;
        counts = counts_back;
        done = in_it.told;
        since = [];
        holds = abandoning_holds plan script in_it.base in_it.told in_it.at runner runner' unlocks in_it.holds in_it.idle in_it.checked in_it.crates leaves;
        parts = sym in_it.did ∙ sym (append-nil back.before);
        sent = subst (λ (l : List Sent). Sends a e l) (sym (follows_on gives.Abandon name back [] as_left)) (Sends-trans a d e (report_by true t plan script fed.taken) name sends_all sends);
        total = omega (arith, fed.total, ap count_of (whole t plan script c done fed.since called runner in_it did fed.parts), count-append in_it.told in_it.service, in_it.no_event);
        used = in_it.used;
        given = given_left;
        follows = follows_then gives.Abandon name back [] as_left;
        fresh = λ x. none_taken fed.taken gives.Abandon x;
        based = (rw leaves.idle tt);
      }

      -- a prefix of that was written
      pub stops_leaving : (r : Result (Ending × ℕ) PlayFault) (e : Outputs) → r ≡ Err fault.Write → new ≡ left_in (most_answers t) (length taken_left) text → SendsPrefix d e name → Feeds t plan script left text a e r
      stops_leaving r e write same prefix =
          let more' : List Sent = sent_after (line_of t script) back.before plan script in_it.base ++ to_listing (open_text t plan script in_it.base) in
          stops_then gives.Abandon new text name more' r e write given_left same
          (ap (called_by t plan script) counts_back ∙ ap (λ (l : List Sent). l ++ more') named ∙ append_assoc (called_for t plan script fed.taken) name more') prefix

-- a service that is in progress is left
pub leaves_is : (p : Option Operation) (P : Type 0) (old new : RunnerState) (unlocks : List ℕ) → is_some p ≡ true → IfSome p (λ w. P) → LeavesIf p old unlocks new → P × Leaves old unlocks new
leaves_is None P old new unlocks e h l = absurd cc
leaves_is (Some w) P old new unlocks e h l = (h, l)
