use Rattle.std.proofs.Common.{◌≡◌, ◌≤◌, ◌++◌, map, length, drop}
use Rattle.std.specs.Prelude.{None}
use Rattle.camac_event.specs.declared.event.Version.TheVariants.{Two}
use Rattle.camac_model.specs.Behaviour.{items, stop_of}
use Rattle.camac_model.specs.Run.{the_run}
use Rattle.camac_machine.specs.MachineState.{piece_of}
use Rattle.camac_run.specs.Runner.{rest, NeverPauses}
use Rattle.camac_run.specs.Headline.{entries_in}
use Rattle.camac_run.proofs.log.run.Given as goal

-- what was told so far, and what the rest tells, is what the whole run tells
abbrev pub invariant-answers : goal.invariant-answers
invariant-answers l =
    let whole = the_run l.fn.checked.plan l.fn.checked.script l.fn.answers in
    let left = rest l.runner (drop l.answer-index l.answers) in
    record {
      fed : l.runner.fed ≡ l.answer-index;
      first : l.runner.overrun ≡ None;
      never : NeverPauses l.runner;
      version : l.events.version ≡ Two;
      few : length l.events.events ≤ l.answer-index;
      same_items : items whole ≡ map piece_of l.items ++ items left;
      same_events : entries_in whole ≡ l.events.events ++ entries_in left;
      same_stop : stop_of whole ≡ stop_of left;
    }
