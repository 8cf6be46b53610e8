-- Where every run is safe, the headline is true of each, and of its event file.
use Rattle.std.proofs.Common.{List, refl, arith}
use Rattle.std.specs.Prelude.{IsTrue}
use Rattle.std.specs.List.{AllByRecursion}
use Rattle.camac_lang.specs.Scope.{is_well_formed}
use Rattle.camac_lang.specs.Tree.{Script}
use Rattle.camac_lang.proofs.Standing.{services_stand}
use Rattle.camac_branch.specs.Plan.{Layout, IsPlan}
use Rattle.camac_event.specs.Spelling.{IsEvent, AreEvents}
use Rattle.camac_event.specs.declared.event.Version.TheVariants.{Two}
use Rattle.camac_event.proofs.Files.{file_again}
use Rattle.camac_model.specs.Fine.{Bounds, AreFineServices}
use Rattle.camac_model.specs.Headline.{InService, WordsFit, StepsFit, first_moment, RunsSafely, WithinHeadings}
use Rattle.camac_model.specs.Laws.{none_used}
use Rattle.camac_model.specs.Moments.{Any}
use Rattle.camac_model.specs.Run.{the_run}
use Rattle.camac_model.proofs.AnswersUsed.{runs_use_answers}
use Rattle.camac_model.proofs.Usage.{run_events_tell}
use Rattle.camac_run.specs.Headline.{run_events, RunsAlways, RunsByHeadline, LeavesFewEvents}
use Rattle.camac_run.proofs.Bits.{bits_fit}
use Rattle.camac_run.proofs.Entries.{entries_fit, few, no_usage}
use Rattle.camac_run.proofs.Locks.{none_stays}

-- what is promised of one run
pub runs_always : (plan : Layout) (script : Script) (ks : List Bounds) → AreFineServices plan script ks → RunsSafely plan script ks → WithinHeadings plan script ks → RunsAlways plan script ks
runs_always plan script ks fine safe within answers = record {
  safe_cycles = safe.safe_cycles answers;
  words_within = safe.words_within answers;
  cost_within = safe.cost_within answers;
  within_headings = within;
  services = fine;
  right_and_ending = safe.right_and_ending answers;
  short_of_answers = safe.short_of_answers answers;
  locks_released = none_stays plan script answers;
}

pub runs_by_headline : (plan : Layout) (script : Script) (ks : List Bounds) → IsPlan plan → IsTrue (is_well_formed script) → AreFineServices plan script ks → RunsSafely plan script ks → WithinHeadings plan script ks → RunsByHeadline plan script ks
runs_by_headline plan script ks is formed fine safe within answers count =
    let fit : AllByRecursion (IsEvent Two) (run_events plan script answers) =
    entries_fit plan ks script.services is.buffer_to_4096 within (λ i v e. (services_stand script formed i v e).cycles)
    (λ m w s. InService ks m (WordsFit s.words)) (λ m w s. InService ks m (StepsFit s)) Any Any (the_run plan script answers) (first_moment answers) none_used no_usage
    (safe.words_within answers) (safe.cost_within answers) (run_events_tell plan script 65535 answers) (bits_fit plan script answers) in
    let are : AreEvents Two (run_events plan script answers) = (count, fit) in
    record {
      run = runs_always plan script ks fine safe within answers;
      decodes = file_again Two (run_events plan script answers) are;
      is_spelled = refl;
    }

pub leaves_few_events : (plan : Layout) (script : Script) (ks : List Bounds) → RunsSafely plan script ks → LeavesFewEvents plan script
leaves_few_events plan script ks safe answers =
    let events = few ks (λ m w s. InService ks m (WordsFit s.words)) Any (the_run plan script answers) (first_moment answers) (safe.words_within answers) in
    let used = (runs_use_answers plan script 65535 answers).no_more in
    omega (arith, events, used)
