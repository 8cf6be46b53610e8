use Rattle.std.proofs.Common.{◌≡◌, ℕ, None, Some, ◌∙◌, ◌+◌, refl, sym, ap, subst, arith, rules, inl, Ok, Err}
use Rattle.std.proofs.lemmas.Result.{err_from_is_err_and}
use Rattle.std.proofs.Math.Bool.{or-false}
use Rattle.camac_answer.specs.declared.given.Given.TheVariants as gives
use Rattle.camac_machine.specs.Rest.{is_paused}
use Rattle.camac_run.specs.Runner.{last_words_in}
use Rattle.camac_answer.specs.Answers.{window, IsOpen}
use Rattle.camac_play.specs.Told.{asked_text, most_answers, begins_after}
use Rattle.camac_run.proofs.Told.{never_again}
use Rattle.camac_play.proofs.Fed.{starts, stops_at_first, stops_asking, stops_beginning, sends_due, ends_here, faults_here, unread_here, overruns_here, goes_on, stops_here, leaves_is, leaves_on, stops_leaving, same_number}
use Rattle.camac_play.proofs.Heard.{heard_given, one_more, next_is, left_at}
use Rattle.camac_play.proofs.Left.{IsBased}
use Rattle.camac_play.proofs.Sending.{SendsPrefix-longer, SendsPrefix-after, Sends-trans, Sends-kept, listing_sent, listing_part, events_sent, events_part}
use Rattle.camac_play.proofs.feeding.feed.Goals as goal

pub answers-init : goal.answers-init
answers-init g c = record {
  fed = starts c.args.telling c.args.checked.now.plan c.args.checked.now.script _ _ _ _ c.start-runner.result c.start-runner.ensures.rest (left_at _ 0 0 _ _ refl (sym c.in_ok-begin.ensures.only.left))
      (events_sent _ _ _ _ _ c.in_ok-begin.ensures.only.listing (rw c.begins_first.ensures at c.in_ok-begin.ensures.text));
  number = refl;
  counted = omega (arith, c.start-runner.ensures.fed);
  few = omega arith;
  events = c.start-runner.ensures.events;
  fits = omega arith;
  first = c.start-runner.ensures.overrun;
  never = c.start-runner.ensures.never;
  out_flag = c.in_ok-begin.ensures.only.out_failed ∙ or-false _;
  in_flag = c.in_ok-begin.ensures.only.in_failed;
  gathers = c.in_ok-begin.ensures.only.gathers;
  same = c.in_ok-begin.ensures.only.same;
}

pub returns-in_err-begin-clause-feeds : goal.returns-in_err-begin-clause-feeds
returns-in_err-begin-clause-feeds g c =
    let p = err_from_is_err_and c.from_residual.result c.from_residual.ensures.1 in
    inl (stops_at_first c.args.telling c.args.checked.now.plan c.args.checked.now.script _ _ _ _ c.from_residual.result (p.1 ∙ ap Err p.2) (left_at _ 0 0 _ _ refl c.in_err-begin.ensures.only.left)
    (events_part _ _ _ _ _ c.in_err-begin.ensures.only.listing (rw c.begins_first.ensures at c.in_err-begin.ensures.text)))

pub returns-in_err-ask-clause-feeds : goal.returns-in_err-ask-clause-feeds
returns-in_err-ask-clause-feeds g c =
    let p = err_from_is_err_and c.from_residual-in_err-ask.result c.from_residual-in_err-ask.ensures.1 in
    let q = c.in_err-ask.ensures.asks in
    let i = c.answers.invariant in
    inl (stops_asking c.args.telling c.args.checked.now.plan c.args.checked.now.script _ _ _ _ c.answers.runner c.answers.count c.answers.called i.fed q.0 q.1 c.in_service-inside.result (c.in_service-inside.ensures.rest i.never.awake)
    c.from_residual-in_err-ask.result _ _ (p.1 ∙ ap Err p.2) (left_at _ _ _ _ _ i.number c.in_err-ask.ensures.only.left) (listing_part _ _ _ _ (asked_text c.args.telling q.0) c.in_err-ask.ensures.only.records q.2))

pub returns-in_err-read-clause-feeds : goal.returns-in_err-read-clause-feeds
returns-in_err-read-clause-feeds g c =
    let p = err_from_is_err_and c.from_residual-in_err-read.result c.from_residual-in_err-read.ensures.1 in
    let q = c.in_ok-ask.ensures.asks in
    let i = c.answers.invariant in
    unread_here c.args.telling c.args.checked.now.plan c.args.checked.now.script _ _ _ _ c.answers.runner c.answers.count c.answers.called i.fed q.0 q.1 c.in_service-inside.result (c.in_service-inside.ensures.rest i.never.awake)
    _ (Sends-kept _ _ _ _ (listing_sent _ _ _ _ (asked_text c.args.telling q.0) c.in_ok-ask.ensures.only.records q.2) c.in_err-read.ensures.only.listing c.in_err-read.ensures.only.records)
    _ _ _ c.in_err-read.field-0.0 c.from_residual-in_err-read.result (p.1 ∙ ap Err p.2) i.fits
    (left_at _ _ _ _ _ i.number c.in_ok-ask.ensures.only.left)
    (λ e. subst (λ (w : ℕ). IsOpen w (g.I.RunIo.state c.ask.new.io).remaining (g.I.RunIo.state c.next_answer.new.io).remaining)
    (ap (λ (l : ℕ). window l c.answers.given) c.most_answers-limit.ensures ∙ ap (window (most_answers c.args.telling)) i.number) (c.in_err-read.ensures.open (rw e refl)))
    (λ e. (c.in_err-read.ensures.unread (rw e refl), sym (c.in_ok-ask.ensures.only.gathers ∙ i.gathers) ∙ c.in_err-read.ensures.holding (rw e refl)))

pub returns-in_default-clause-feeds : goal.returns-in_default-clause-feeds
returns-in_default-clause-feeds g c =
    let q = c.in_ok-ask.ensures.asks in
    let i = c.answers.invariant in
    let is : c.in_ok-read.read ≡ Ok None = search rules in
    let n = next_is _ _ _ _ _ _ _ _ (Ok None) c.most_answers-limit.ensures c.in_ok-ask.ensures.only.left is c.in_ok-read.ensures.next in
    inl (ends_here c.args.telling c.args.checked.now.plan c.args.checked.now.script _ _ _ _ c.answers.runner c.answers.count c.answers.called i.fed q.0 q.1 c.in_service-inside.result (c.in_service-inside.ensures.rest i.never.awake)
    _ (sends_due c.args.telling c.args.checked.now.plan c.args.checked.now.script _ _ _ _ c.answers.runner c.answers.count c.answers.called i.fed q.0 q.1 c.in_service-inside.result (c.in_service-inside.ensures.rest i.never.awake)
    _ (Sends-kept _ _ _ _ (listing_sent _ _ _ _ (asked_text c.args.telling q.0) c.in_ok-ask.ensures.only.records q.2) c.in_ok-read.ensures.only.listing c.in_ok-read.ensures.only.records)
    _ (events_sent _ _ _ _ _ c.in_ok-begin-2.ensures.only.listing (rw (c.begins_after.ensures ∙ ap (begins_after c.args.telling) i.number) at c.in_ok-begin-2.ensures.text))) _ _ _ c.end_of.result n c.end_of.ensures)

pub returns-in-Err-clause-feeds : goal.returns-in-Err-clause-feeds
returns-in-Err-clause-feeds g c =
    let q = c.in_ok-ask.ensures.asks in
    let i = c.answers.invariant in
    let is : c.in_ok-read.read ≡ Err c.in-Err.fault = c.in-Err.is in
    let n = next_is _ _ _ _ _ _ _ _ (Err c.in-Err.fault) c.most_answers-limit.ensures c.in_ok-ask.ensures.only.left is c.in_ok-read.ensures.next in
    inl (faults_here c.args.telling c.args.checked.now.plan c.args.checked.now.script _ _ _ _ c.answers.runner c.answers.count c.answers.called i.fed q.0 q.1 c.in_service-inside.result (c.in_service-inside.ensures.rest i.never.awake)
    _ (Sends-kept _ _ _ _ (listing_sent _ _ _ _ (asked_text c.args.telling q.0) c.in_ok-ask.ensures.only.records q.2) c.in_ok-read.ensures.only.listing c.in_ok-read.ensures.only.records) _ _ (g.I.RunIo.state c.next_answer.new.io).remaining c.in-Err.fault i.number n)

pub returns-in_err-begin-2-clause-feeds : goal.returns-in_err-begin-2-clause-feeds
returns-in_err-begin-2-clause-feeds g c =
    let p = err_from_is_err_and c.from_residual-in_err-begin-2.result c.from_residual-in_err-begin-2.ensures.1 in
    let q = c.in_ok-ask.ensures.asks in
    let i = c.answers.invariant in
    let is : c.in_ok-read.read ≡ Ok c.in-Ok.next = c.in-Ok.is in
    let n = next_is _ _ _ _ _ _ _ _ (Ok c.in-Ok.next) c.most_answers-limit.ensures c.in_ok-ask.ensures.only.left is c.in_ok-read.ensures.next in
    inl (stops_beginning c.args.telling c.args.checked.now.plan c.args.checked.now.script _ _ _ _ c.answers.runner c.answers.count c.answers.called i.fed q.0 q.1 c.in_service-inside.result (c.in_service-inside.ensures.rest i.never.awake)
    _ (Sends-kept _ _ _ _ (listing_sent _ _ _ _ (asked_text c.args.telling q.0) c.in_ok-ask.ensures.only.records q.2) c.in_ok-read.ensures.only.listing c.in_ok-read.ensures.only.records) _ c.in-Ok.next _ _ _ c.from_residual-in_err-begin-2.result (p.1 ∙ ap Err p.2) n
    (λ answer. left_at _ _ _ _ _ (one_more _ _ i.fed.taken answer refl i.number) c.in_err-begin-2.ensures.only.left)
    (events_part _ _ _ _ _ c.in_err-begin-2.ensures.only.listing (rw (c.begins_after.ensures ∙ ap (begins_after c.args.telling) i.number) at c.in_err-begin-2.ensures.text)))

pub returns-in_err-tell-in-None-clause-feeds : goal.returns-in_err-tell-in-None-clause-feeds
returns-in_err-tell-in-None-clause-feeds g c =
    let p = err_from_is_err_and c.from_residual-in_err-tell-in-None.result c.from_residual-in_err-tell-in-None.ensures.1 in
    let q = c.in_ok-ask.ensures.asks in
    let i = c.answers.invariant in
    let is : c.in_ok-read.read ≡ Ok (Some (gives.Answer c.in-Answer.answer)) = search rules in
    let m = next_is _ _ _ _ _ _ _ _ (Ok (Some (gives.Answer c.in-Answer.answer))) c.most_answers-limit.ensures c.in_ok-ask.ensures.only.left is c.in_ok-read.ensures.next in
    let n = (heard_given _ _ _ _ _ m).0 in
    inl (stops_here c.args.telling c.args.checked.now.plan c.args.checked.now.script _ _ _ _ c.answers.runner c.answers.count c.answers.called i.fed q.0 q.1 c.in_service-inside.result (c.in_service-inside.ensures.rest i.never.awake)
    _ (sends_due c.args.telling c.args.checked.now.plan c.args.checked.now.script _ _ _ _ c.answers.runner c.answers.count c.answers.called i.fed q.0 q.1 c.in_service-inside.result (c.in_service-inside.ensures.rest i.never.awake)
    _ (Sends-kept _ _ _ _ (listing_sent _ _ _ _ (asked_text c.args.telling q.0) c.in_ok-ask.ensures.only.records q.2) c.in_ok-read.ensures.only.listing c.in_ok-read.ensures.only.records)
    _ (events_sent _ _ _ _ _ c.in_ok-begin-2.ensures.only.listing (rw (c.begins_after.ensures ∙ ap (begins_after c.args.telling) i.number) at c.in_ok-begin-2.ensures.text))) _ _ c.in-Answer.answer n c.advance.new.self c.advance.new.used.item c.advance.new.used.unlocks.items c.advance.new.used.event (last_words_in c.advance.new.self) c.in-None.ensures.goes refl i.events
    c.from_residual-in_err-tell-in-None.result _ (p.1 ∙ ap Err p.2) (left_at _ _ _ _ _ (one_more _ _ i.fed.taken (gives.Answer c.in-Answer.answer) refl i.number) (c.in_err-tell-in-None.ensures.only.left ∙ c.in_ok-begin-2.ensures.only.left))
    (SendsPrefix-longer _ _ _ _ (listing_part _ _ _ _ _ c.in_err-tell-in-None.ensures.only.records (rw c.deref.ensures.0 at c.in_err-tell-in-None.ensures.text))))

pub returns-in_err-write_event-in-None-clause-feeds : goal.returns-in_err-write_event-in-None-clause-feeds
returns-in_err-write_event-in-None-clause-feeds g c =
    let p = err_from_is_err_and c.from_residual-in_err-write_event-in-None.result c.from_residual-in_err-write_event-in-None.ensures.1 in
    let q = c.in_ok-ask.ensures.asks in
    let i = c.answers.invariant in
    let is : c.in_ok-read.read ≡ Ok (Some (gives.Answer c.in-Answer.answer)) = search rules in
    let m = next_is _ _ _ _ _ _ _ _ (Ok (Some (gives.Answer c.in-Answer.answer))) c.most_answers-limit.ensures c.in_ok-ask.ensures.only.left is c.in_ok-read.ensures.next in
    let n = (heard_given _ _ _ _ _ m).0 in
    inl (stops_here c.args.telling c.args.checked.now.plan c.args.checked.now.script _ _ _ _ c.answers.runner c.answers.count c.answers.called i.fed q.0 q.1 c.in_service-inside.result (c.in_service-inside.ensures.rest i.never.awake)
    _ (sends_due c.args.telling c.args.checked.now.plan c.args.checked.now.script _ _ _ _ c.answers.runner c.answers.count c.answers.called i.fed q.0 q.1 c.in_service-inside.result (c.in_service-inside.ensures.rest i.never.awake)
    _ (Sends-kept _ _ _ _ (listing_sent _ _ _ _ (asked_text c.args.telling q.0) c.in_ok-ask.ensures.only.records q.2) c.in_ok-read.ensures.only.listing c.in_ok-read.ensures.only.records)
    _ (events_sent _ _ _ _ _ c.in_ok-begin-2.ensures.only.listing (rw (c.begins_after.ensures ∙ ap (begins_after c.args.telling) i.number) at c.in_ok-begin-2.ensures.text))) _ _ c.in-Answer.answer n c.advance.new.self c.advance.new.used.item c.advance.new.used.unlocks.items c.advance.new.used.event (last_words_in c.advance.new.self) c.in-None.ensures.goes refl i.events
    c.from_residual-in_err-write_event-in-None.result _ (p.1 ∙ ap Err p.2)
    (left_at _ _ _ _ _ (one_more _ _ i.fed.taken (gives.Answer c.in-Answer.answer) refl i.number) (c.in_err-write_event-in-None.ensures.only.left ∙ c.in_ok-tell-in-None.ensures.only.left ∙ c.in_ok-begin-2.ensures.only.left))
    (SendsPrefix-after _ _ _ _ _ (listing_sent _ _ _ _ _ c.in_ok-tell-in-None.ensures.only.records (rw c.deref.ensures.0 at c.in_ok-tell-in-None.ensures.text))
    (events_part _ _ _ _ _ c.in_err-write_event-in-None.ensures.only.listing c.in_err-write_event-in-None.ensures.text)))

pub returns-in-Some-advance-clause-feeds : goal.returns-in-Some-advance-clause-feeds
returns-in-Some-advance-clause-feeds g c =
    let q = c.in_ok-ask.ensures.asks in
    let i = c.answers.invariant in
    let is : c.in_ok-read.read ≡ Ok (Some (gives.Answer c.in-Answer.answer)) = search rules in
    let m = next_is _ _ _ _ _ _ _ _ (Ok (Some (gives.Answer c.in-Answer.answer))) c.most_answers-limit.ensures c.in_ok-ask.ensures.only.left is c.in_ok-read.ensures.next in
    let n = (heard_given _ _ _ _ _ m).0 in
    inl (overruns_here c.args.telling c.args.checked.now.plan c.args.checked.now.script _ _ _ _ c.answers.runner c.answers.count c.answers.called i.fed q.0 q.1 c.in_service-inside.result (c.in_service-inside.ensures.rest i.never.awake)
    _ (sends_due c.args.telling c.args.checked.now.plan c.args.checked.now.script _ _ _ _ c.answers.runner c.answers.count c.answers.called i.fed q.0 q.1 c.in_service-inside.result (c.in_service-inside.ensures.rest i.never.awake)
    _ (Sends-kept _ _ _ _ (listing_sent _ _ _ _ (asked_text c.args.telling q.0) c.in_ok-ask.ensures.only.records q.2) c.in_ok-read.ensures.only.listing c.in_ok-read.ensures.only.records)
    _ (events_sent _ _ _ _ _ c.in_ok-begin-2.ensures.only.listing (rw (c.begins_after.ensures ∙ ap (begins_after c.args.telling) i.number) at c.in_ok-begin-2.ensures.text))) _ _ c.in-Answer.answer n c.in-Some-advance.overrun c.advance.new.self c.in-Some-advance.ensures.stops
    (left_at _ _ _ _ _ (one_more _ _ i.fed.taken (gives.Answer c.in-Answer.answer) refl i.number) c.in_ok-begin-2.ensures.only.left))

pub answers-preserved-in-None : goal.answers-preserved-in-None
answers-preserved-in-None g c =
    let q = c.in_ok-ask.ensures.asks in
    let i = c.answers.invariant in
    let is : c.in_ok-read.read ≡ Ok (Some (gives.Answer c.in-Answer.answer)) = search rules in
    let m = next_is _ _ _ _ _ _ _ _ (Ok (Some (gives.Answer c.in-Answer.answer))) c.most_answers-limit.ensures c.in_ok-ask.ensures.only.left is c.in_ok-read.ensures.next in
    let n = (heard_given _ _ _ _ _ m).0 in
    record {
      fed = goes_on c.args.telling c.args.checked.now.plan c.args.checked.now.script _ _ _ _ c.answers.runner c.answers.count c.answers.called i.fed q.0 q.1 c.in_service-inside.result (c.in_service-inside.ensures.rest i.never.awake)
          _ (sends_due c.args.telling c.args.checked.now.plan c.args.checked.now.script _ _ _ _ c.answers.runner c.answers.count c.answers.called i.fed q.0 q.1 c.in_service-inside.result (c.in_service-inside.ensures.rest i.never.awake)
          _ (Sends-kept _ _ _ _ (listing_sent _ _ _ _ (asked_text c.args.telling q.0) c.in_ok-ask.ensures.only.records q.2) c.in_ok-read.ensures.only.listing c.in_ok-read.ensures.only.records)
          _ (events_sent _ _ _ _ _ c.in_ok-begin-2.ensures.only.listing (rw (c.begins_after.ensures ∙ ap (begins_after c.args.telling) i.number) at c.in_ok-begin-2.ensures.text)))
          _ (g.I.RunIo.state c.next_answer.new.io).remaining c.in-Answer.answer
          (rw (c.in_ok-write_event-in-None.ensures.only.left ∙ c.in_ok-tell-in-None.ensures.only.left ∙ c.in_ok-begin-2.ensures.only.left) n) c.advance.new.self c.advance.new.used.item c.advance.new.used.unlocks.items c.advance.new.used.event (last_words_in c.advance.new.self) c.in-None.ensures.goes refl i.events
          _ c.count_after-count.result c.keep_called.new.called c.keep_called.ensures c.in_service-inside.ensures.some c.count_after-count.ensures.same c.count_after-count.ensures.next
          (Sends-trans _ _ _ _ _ (listing_sent _ _ _ _ _ c.in_ok-tell-in-None.ensures.only.records (rw c.deref.ensures.0 at c.in_ok-tell-in-None.ensures.text))
          (events_sent _ _ _ _ _ c.in_ok-write_event-in-None.ensures.only.listing c.in_ok-write_event-in-None.ensures.text));
      number = one_more _ _ i.fed.taken (gives.Answer c.in-Answer.answer) refl i.number;
      counted = (let fed = c.in-None.ensures.goes.fed in let was = i.counted in omega (arith, fed, was));
      few = (let few = (rw is at c.in_ok-read.ensures.few) refl in omega (arith, few, c.most_answers-limit.ensures));
      events = same_number c.advance.new.used.event c.answers.runner.events c.answers.count c.advance.new.self.events c.count_after-count.result c.in-None.ensures.goes.same c.in-None.ensures.goes.next i.events c.count_after-count.ensures.same c.count_after-count.ensures.next;
      fits = c.count_after-count.ensures.fits;
      first = c.in-None.ensures.goes.overrun;
      never = never_again c.answers.runner c.advance.new.self c.advance.ensures.keeps i.never;
      out_flag =
          c.in_ok-write_event-in-None.ensures.only.out_failed ∙ or-false _ ∙ c.in_ok-tell-in-None.ensures.only.out_failed ∙ or-false _ ∙ c.in_ok-begin-2.ensures.only.out_failed ∙ or-false _ ∙ c.in_ok-read.ensures.only.out_failed ∙ or-false _
          ∙ c.in_ok-ask.ensures.only.out_failed ∙ or-false _ ∙ i.out_flag;
      in_flag = search rules;
      gathers =
          c.in_ok-write_event-in-None.ensures.only.gathers ∙ c.in_ok-tell-in-None.ensures.only.gathers ∙ c.in_ok-begin-2.ensures.only.gathers ∙ c.in_ok-read.ensures.only.gathers ∙ c.in_ok-ask.ensures.only.gathers ∙ i.gathers;
      same = c.in_ok-write_event-in-None.ensures.only.same ∙ c.in_ok-tell-in-None.ensures.only.same ∙ c.in_ok-begin-2.ensures.only.same ∙ c.in_ok-read.ensures.only.same ∙ c.in_ok-ask.ensures.only.same ∙ i.same;
    }

pub answers-preserved : goal.answers-preserved
answers-preserved g c =
    let q = c.in_ok-ask.ensures.asks in
    let i = c.answers.invariant in
    let is : c.in_ok-read.read ≡ Ok (Some gives.Abandon) = search rules in
    let m = next_is _ _ _ _ _ _ _ _ (Ok (Some gives.Abandon)) c.most_answers-limit.ensures c.in_ok-ask.ensures.only.left is c.in_ok-read.ensures.next in
    let n = heard_given _ _ _ _ gives.Abandon m in
    let yes = n.1 refl in
    let l = leaves_is c.answers.runner.pending _ c.answers.runner c.abandon.new.self c.abandon.result.items (sym c.in_service-inside.ensures.some ∙ yes) i.fed.based c.abandon.ensures in
    record {
      fed = leaves_on c.args.telling c.args.checked.now.plan c.args.checked.now.script _ _ _ _ c.answers.runner c.answers.count c.answers.called i.fed q.0 q.1 c.in_service-inside.result (c.in_service-inside.ensures.rest i.never.awake)
          _ (sends_due c.args.telling c.args.checked.now.plan c.args.checked.now.script _ _ _ _ c.answers.runner c.answers.count c.answers.called i.fed q.0 q.1 c.in_service-inside.result (c.in_service-inside.ensures.rest i.never.awake)
          _ (Sends-kept _ _ _ _ (listing_sent _ _ _ _ (asked_text c.args.telling q.0) c.in_ok-ask.ensures.only.records q.2) c.in_ok-read.ensures.only.listing c.in_ok-read.ensures.only.records)
          _ (events_sent _ _ _ _ _ c.in_ok-begin-2.ensures.only.listing (rw (c.begins_after.ensures ∙ ap (begins_after c.args.telling) i.number) at c.in_ok-begin-2.ensures.text)))
          _ (g.I.RunIo.state c.next_answer.new.io).remaining
          (rw (c.in_ok-tell_left-in-Abandon.ensures.only.left ∙ c.in_ok-begin-2.ensures.only.left) n.0) yes _ _ l.1 l.0
          _ (listing_sent _ _ _ _ _ c.in_ok-tell_left-in-Abandon.ensures.only.records c.in_ok-tell_left-in-Abandon.ensures.text);
      number = one_more _ _ i.fed.taken gives.Abandon refl i.number;
      counted = (let fed = l.1.fed in let was = i.counted in omega (arith, fed, was));
      few = (let few = (rw is at c.in_ok-read.ensures.few) refl in omega (arith, few, c.most_answers-limit.ensures));
      events = l.1.events ∙ i.events;
      fits = i.fits;
      first = l.1.overrun;
      never = record { limit = l.1.limit ∙ i.never.limit; awake = ap is_paused l.1.idle };
      out_flag =
          c.in_ok-tell_left-in-Abandon.ensures.only.out_failed ∙ or-false _ ∙ c.in_ok-begin-2.ensures.only.out_failed ∙ or-false _ ∙ c.in_ok-read.ensures.only.out_failed ∙ or-false _
          ∙ c.in_ok-ask.ensures.only.out_failed ∙ or-false _ ∙ i.out_flag;
      in_flag = search rules;
      gathers = c.in_ok-tell_left-in-Abandon.ensures.only.gathers ∙ c.in_ok-begin-2.ensures.only.gathers ∙ c.in_ok-read.ensures.only.gathers ∙ c.in_ok-ask.ensures.only.gathers ∙ i.gathers;
      same = c.in_ok-tell_left-in-Abandon.ensures.only.same ∙ c.in_ok-begin-2.ensures.only.same ∙ c.in_ok-read.ensures.only.same ∙ c.in_ok-ask.ensures.only.same ∙ i.same;
    }

pub returns-in_err-tell_left-in-Abandon-clause-feeds : goal.returns-in_err-tell_left-in-Abandon-clause-feeds
returns-in_err-tell_left-in-Abandon-clause-feeds g c =
    let p = err_from_is_err_and c.from_residual-in_err-tell_left-in-Abandon.result c.from_residual-in_err-tell_left-in-Abandon.ensures.1 in
    let q = c.in_ok-ask.ensures.asks in
    let i = c.answers.invariant in
    let is : c.in_ok-read.read ≡ Ok (Some gives.Abandon) = search rules in
    let m = next_is _ _ _ _ _ _ _ _ (Ok (Some gives.Abandon)) c.most_answers-limit.ensures c.in_ok-ask.ensures.only.left is c.in_ok-read.ensures.next in
    let n = heard_given _ _ _ _ gives.Abandon m in
    let yes = n.1 refl in
    let l = leaves_is c.answers.runner.pending _ c.answers.runner c.abandon.new.self c.abandon.result.items (sym c.in_service-inside.ensures.some ∙ yes) i.fed.based c.abandon.ensures in
    inl (stops_leaving c.args.telling c.args.checked.now.plan c.args.checked.now.script _ _ _ _ c.answers.runner c.answers.count c.answers.called i.fed q.0 q.1 c.in_service-inside.result (c.in_service-inside.ensures.rest i.never.awake)
    _ (sends_due c.args.telling c.args.checked.now.plan c.args.checked.now.script _ _ _ _ c.answers.runner c.answers.count c.answers.called i.fed q.0 q.1 c.in_service-inside.result (c.in_service-inside.ensures.rest i.never.awake)
    _ (Sends-kept _ _ _ _ (listing_sent _ _ _ _ (asked_text c.args.telling q.0) c.in_ok-ask.ensures.only.records q.2) c.in_ok-read.ensures.only.listing c.in_ok-read.ensures.only.records)
    _ (events_sent _ _ _ _ _ c.in_ok-begin-2.ensures.only.listing (rw (c.begins_after.ensures ∙ ap (begins_after c.args.telling) i.number) at c.in_ok-begin-2.ensures.text)))
    _ _ n.0 yes _ _ l.1 l.0 c.from_residual-in_err-tell_left-in-Abandon.result _ (p.1 ∙ ap Err p.2)
    (left_at _ _ _ _ _ (one_more _ _ i.fed.taken gives.Abandon refl i.number) (c.in_err-tell_left-in-Abandon.ensures.only.left ∙ c.in_ok-begin-2.ensures.only.left))
    (listing_part _ _ _ _ _ c.in_err-tell_left-in-Abandon.ensures.only.records c.in_err-tell_left-in-Abandon.ensures.text))
