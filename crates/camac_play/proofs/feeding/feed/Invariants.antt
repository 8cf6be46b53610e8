use Rattle.std.proofs.Common.{◌≡◌, ◌≤◌, ◌<◌, ◌-◌, ◌^◌, None, length}
use Rattle.camac_answer.specs.Answers.{left_in}
use Rattle.camac_run.specs.Runner.{NeverPauses}
use Rattle.camac_play.specs.Play.{left_of}
use Rattle.camac_play.specs.RunIo.{sent_in}
use Rattle.camac_play.specs.Told.{most_answers}
use Rattle.camac_play.proofs.Fed.{IsFed}
use Rattle.camac_play.proofs.feeding.feed.Given as goal

abbrev pub invariant-answers : goal.invariant-answers
invariant-answers g l = record {
  fed : IsFed l.telling l.checked.plan l.checked.script (left_of l.telling (g.I.RunIo.state l.fn.io)) (left_in (most_answers l.telling) l.given (g.I.RunIo.state l.io).remaining)
      (sent_in (g.I.RunIo.state l.fn.io)) (sent_in (g.I.RunIo.state l.io)) l.runner l.count l.called;
  number : l.given ≡ length fed.taken;
  counted : l.runner.fed ≤ l.given;
  few : l.given ≤ most_answers l.telling;
  events : l.runner.events ≡ l.count;
  fits : l.count < 2 ^ 32;
  first : l.runner.overrun ≡ None;
  never : NeverPauses l.runner;
  out_flag : (g.I.RunIo.state l.io).write_failed ≡ (g.I.RunIo.state l.fn.io).write_failed;
  in_flag : (g.I.RunIo.state l.io).read_failed ≡ (g.I.RunIo.state l.fn.io).read_failed;
  gathers : (g.I.RunIo.state l.io).gathers ≡ (g.I.RunIo.state l.fn.io).gathers;
  same : (g.I.RunIo.state l.io).names ≡ (g.I.RunIo.state l.fn.io).names;
}

abbrev pub decreases-answers : goal.decreases-answers
decreases-answers g l = most_answers l.telling - l.given
