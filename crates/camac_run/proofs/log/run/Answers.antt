use Rattle.std.proofs.Common.{◌+◌, ◌∙◌, drop, ap, arith}
use Rattle.camac_event.specs.Spelling.{Listing}
use Rattle.camac_model.specs.Run.{the_run}
use Rattle.camac_run.specs.Runner.{rest}
use Rattle.camac_run.proofs.Logged.{goes_here, items_told, events_told, stop_told, few_left, stopped, used_up, is_log, by_log}
use Rattle.camac_run.proofs.Told.{never_again}
use Rattle.camac_run.proofs.log.run.Goals as goal

pub answers-preserved : goal.answers-preserved
answers-preserved c =
    let inv = c.answers.invariant in
    let went = c.in-Went.ensures.progresses in
    let i = c.answers.answer-index in
    let answers = c.args.answers.now in
    let whole = the_run c.args.checked.now.plan c.args.checked.now.script answers in
    let old = rest c.answers.runner (drop i answers) in
    let new = rest c.next.new.self (drop (i + 1) answers) in
    let words = c.last_words.result.now in
    let goes = goes_here c.answers.runner c.next.new.self c.answer-item.result c.in-Went.item c.in-Went.unlocks.items c.in-Went.event went answers i c.answers-test.true c.answer-item.is in
    let kept = rw c.last_words.ensures.words at c.in_ok-add_event-in-Went.ensures in
    let added = ap (λ (l : Listing). l.events) kept in
    record {
      fed = went.fed ∙ ap (λ n. n + 1) inv.fed;
      first = went.overrun;
      never = never_again c.answers.runner c.next.new.self c.next.ensures.keeps inv.never;
      version = ap (λ (l : Listing). l.version) kept;
      few = few_left c.answers.events.events c.add_event.new.events.events c.in-Went.event _ i added inv.few;
      same_items = items_told whole old new c.in-Went.item c.in-Went.unlocks.items c.in-Went.event _ goes c.answers.items c.push.new.self c.add_unlocks.new.items inv.same_items c.in_ok-push-in-Went.ensures (rw c.deref.ensures.0 at c.in_ok-add_unlocks-in-Went.ensures);
      same_events = events_told whole old new c.in-Went.item c.in-Went.unlocks.items c.in-Went.event _ goes c.answers.events.events c.add_event.new.events.events inv.same_events added;
      same_stop = stop_told whole old new c.in-Went.item c.in-Went.unlocks.items c.in-Went.event _ goes inv.same_stop;
    }

pub returns-in-Overrun : goal.returns-in-Overrun
returns-in-Overrun c =
    let inv = c.answers.invariant in
    let i = c.answers.answer-index in
    let k = c.args.checked.now in
    let answers = c.args.answers.now in
    let over = stopped c.answers.runner c.next.new.self c.answer-item.result c.in-Overrun.overrun inv.first c.in-Overrun.ensures.progresses answers i c.answers-test.true c.answer-item.is in
    let log = is_log _ (the_run k.plan k.script answers) (rest c.answers.runner (drop i answers)) inv.version inv.same_items inv.same_events inv.same_stop over in
    record {
      log = log;
      headline = by_log k.plan k.script k.bounds answers _ c.runs_by_headline.ensures.headline c.runs_by_headline.ensures.few c.requires.answers log;
    }

pub returns : goal.returns
returns c =
    let inv = c.answers.invariant in
    let i = c.answers.answer-index in
    let k = c.args.checked.now in
    let answers = c.args.answers.now in
    let over = used_up c.answers.runner answers i _ (omega arith) c.end_of-end.ensures.quiet_items c.end_of-end.ensures.quiet_events c.end_of-end.ensures.stop in
    let log = is_log _ (the_run k.plan k.script answers) (rest c.answers.runner (drop i answers)) inv.version inv.same_items inv.same_events inv.same_stop over in
    record {
      log = log;
      headline = by_log k.plan k.script k.bounds answers _ c.runs_by_headline.ensures.headline c.runs_by_headline.ensures.few c.requires.answers log;
    }
