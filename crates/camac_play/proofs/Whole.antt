-- A whole play: the run, and the last line.
use Rattle.std.proofs.Common.{◌≡◌, ℕ, ◌+◌, List, [], ◌∷◌, ◌++◌, length, Option, refl, sym, ap, subst, ◌∙◌, append-nil, arith, ◌<◌, ◌^◌, inl, inr, Bool, true, false}
use Rattle.std.proofs.lemmas.List.{length-map}
use Rattle.std.specs.Prelude.{Ok, Err, Result, is_none, IfOk, IfErr}
use Rattle.std.specs.Io.KnownBytes.{Appends}
use Rattle.camac_branch.specs.Branch.{Answer}
use Rattle.camac_branch.specs.Plan.{Layout}
use Rattle.camac_answer.specs.Answers.{left_in}
use Rattle.camac_answer.specs.Reading.{Reading}
use Rattle.camac_answer.specs.declared.given.Given.{Given}
use Rattle.camac_play.specs.Told.{most_answers, is_begun, if_begun, that_count, called_for, report, played, last_line, used_of, whole_report, ending_text, ending}
use Rattle.camac_play.specs.declared.telling.Telling.{Telling}
use Rattle.camac_play.specs.Play.{ReadsNoMore, Feeds, FeedsOver, Plays, PlaysOver}
use Rattle.camac_play.specs.Sent.{Outputs, Sends, SendsPrefix, Sent, to_listing}
use Rattle.camac_play.specs.declared.ending.Ending.{Ending}
use Rattle.camac_play.specs.declared.fault.PlayFault.{PlayFault}
use Rattle.camac_play.specs.declared.fault.PlayFault.TheVariants as fault
use Rattle.camac_play.specs.declared.telling.Telling.TheVariants.{Listing, Requests}
use Rattle.camac_play.specs.Headline.{IsByHeadline, KeepsHeadline}
use Rattle.camac_play.proofs.Sending.{start, Sends-trans, later_part, SendsBy}
use Rattle.camac_play.proofs.Files.{report_file, played_file}
use Rattle.camac_play.proofs.Heard.{given_first}
use Rattle.camac_lang.specs.Tree.{Script}
use Rattle.camac_model.specs.Behaviour.{events}
use Rattle.camac_model.specs.Run.{the_run}
use Rattle.camac_model.specs.Fine.{Bounds}
use Rattle.camac_run.specs.Headline.{entry_of, run_events, event_file, RunsAlways, RunsByHeadline}
use Rattle.camac_run.specs.Requested.{RequestsAreSafe}

-- what the end of the text may begin
begun_more : (t : Telling) (answers : List Given) (ended : Bool) (sent : List Sent) → (more' : List Sent) × (if_begun (is_begun t answers ended) sent ≡ if_begun (is_begun t answers false) sent ++ more')
begun_more Requests answers ended sent = ([], sym (append-nil sent))
begun_more Listing [] true sent = (sent, refl)
begun_more Listing [] false sent = ([], refl)
begun_more Listing (x ∷ answers) ended sent = ([], sym (append-nil sent))

module _ (t : Telling) (plan : Layout) (script : Script) (left : Option Reading) (text : Option (List ℕ)) (a c d : Outputs) (e : Ending) (n : ℕ) where
  -- the run came to its last line
  finishes : (r : Result Ending PlayFault) → n < 2 ^ 32 → Feeds t plan script left text a c (Ok (e, n)) → IfOk r (λ x. x ≡ e) → IfErr r (λ f. f ≡ fault.Write) → SendsBy c d r (to_listing (ending_text e n)) → Plays t plan script left text a d r
  finishes (Ok x) few (r, gives, same, beyond, count, sends) is write sent =
      let line : to_listing (ending_text e n) ≡ to_listing (last_line t plan script r) = ap (λ (y : Ending). to_listing (ending_text y n)) same ∙ ap (λ (k : ℕ). to_listing (ending_text (ending t plan script r) k)) count in (
        r,
        gives,
        is ∙ same,
        subst (λ (y : Ending). ReadsNoMore t plan script left text y) (sym is) beyond,
        omega (arith, count, few),
        Sends-trans a c d (whole_report t plan script r) (to_listing (last_line t plan script r)) sends (subst (λ (l : List Sent). Sends c d l) line sent),
      )
  finishes (Err f) few (r, gives, same, beyond, count, sends) is write sent =
      let line : to_listing (ending_text e n) ≡ to_listing (last_line t plan script r) = ap (λ (y : Ending). to_listing (ending_text y n)) same ∙ ap (λ (k : ℕ). to_listing (ending_text (ending t plan script r) k)) count in
      let begun' = begun_more t r.given (is_none r.fault) (start ++ called_for t plan script r.given) in
      rw write (inr (
        r,
        gives,
        subst (λ (y : Ending). ReadsNoMore t plan script left text y) same beyond,
        later_part a c d (report t plan script r.given) begun'.0 (to_listing (last_line t plan script r)) (played t plan script r)
            (subst (λ (l : List Sent). Sends a c l) begun'.1 sends) (subst (λ (l : List Sent). SendsPrefix c d l) line sent) (ap (λ (l : List Sent). l ++ to_listing (last_line t plan script r)) begun'.1),
      ))

-- The headline, from what was sent.
module _ (t : Telling) (plan : Layout) (script : Script) (ks : List Bounds) (left : Option Reading) (text : Option (List ℕ)) (law : RunsByHeadline plan script ks) (always : RunsAlways plan script ks) (safe : RequestsAreSafe plan script) where
  by_headline : (answers : List Answer) → length (events (the_run plan script answers)) < 2 ^ 32 → IsByHeadline plan script ks answers (event_file plan script answers)
  by_headline answers few =
      let lengths : length (run_events plan script answers) ≡ length (events (the_run plan script answers)) = length-map (events (the_run plan script answers)) entry_of in
      (law answers (omega (arith, lengths, few)), always, safe (used_of plan script answers))

  pub keeps_headline : (a b : Outputs) (r : Result Ending PlayFault) → Plays t plan script left text a b r → KeepsHeadline t plan script ks left a.events b.events r
  keeps_headline a b (Ok e) (r, gives, same, beyond, few, sends) = (
    r,
    event_file plan script (that_count t plan script r.given),
    gives,
    subst (λ (bytes : List ℕ). Appends a.events b.events bytes) (played_file t plan script r) sends.events,
    by_headline (that_count t plan script r.given) few,
  )
  keeps_headline a b (Err fault.Write) plays = tt
  keeps_headline a b (Err fault.Read) (taken, before, read, open', few, sends) = (
    taken,
    event_file plan script (that_count t plan script taken),
    given_first t plan script left (left_in (most_answers t) (length taken) before) taken read,
    subst (λ (bytes : List ℕ). Appends a.events b.events bytes) (report_file t plan script taken) sends.events,
    by_headline (that_count t plan script taken) few,
  )

-- The same over streams that may hold what they are given.
module _ (gathers : Bool) (t : Telling) (plan : Layout) (script : Script) (left : Option Reading) (text : Option (List ℕ)) where
  pub stops_over : (a c : Outputs) (f : PlayFault) (r : Result Ending PlayFault) → r ≡ Err f → FeedsOver gathers t plan script left text a c (Err f) → PlaysOver gathers t plan script left text a c r
  stops_over a c f r is (inl stopped) = rw is (inl stopped)
  stops_over a c f r is (inr (write, holds)) =
      let same : f ≡ fault.Write = cc in
      inr (is ∙ ap (λ (x : PlayFault). Err x) same, holds)

  pub finishes_over : (a c d : Outputs) (e : Ending) (n : ℕ) (r : Result Ending PlayFault) → n < 2 ^ 32 → FeedsOver gathers t plan script left text a c (Ok (e, n)) → IfOk r (λ x. x ≡ e) → IfErr r (λ f. f ≡ fault.Write)
      → SendsBy c d r (to_listing (ending_text e n)) → PlaysOver gathers t plan script left text a d r
  finishes_over a c d e n r few (inl feeds) is write sent = inl (finishes t plan script left text a c d e n r few feeds is write sent)
  finishes_over a c d e n r few (inr (bad, holds)) is write sent = absurd cc

  pub headline_over : (ks : List Bounds) → RunsByHeadline plan script ks → RunsAlways plan script ks → RequestsAreSafe plan script
      → (a b : Outputs) (r : Result Ending PlayFault) → PlaysOver gathers t plan script left text a b r → KeepsHeadline t plan script ks left a.events b.events r
  headline_over ks law always safe a b r (inl plays) = keeps_headline t plan script ks left text law always safe a b r plays
  headline_over ks law always safe a b r (inr (write, holds)) = rw write tt
