use Rattle.std.proofs.Common.{ap, sym, ◌∙◌, length}
use Rattle.std.proofs.lemmas.Bool.{false≢true}
use Rattle.camac_run.specs.Runner.{words_of}
use Rattle.camac_run.proofs.Sizes.{machine_fits}
use Rattle.camac_run.proofs.Told.{rest_short, rest_over}
use Rattle.camac_run.proofs.runner.Runner.event_words.Goals as goal

pub words-requires : goal.words-requires
words-requires g c = machine_fits _ c.requires-raw.1.1.1

pub returns-in-Some-clause-so_far : goal.returns-in-Some-clause-so_far
returns-in-Some-clause-so_far g c = λ some. rw (← c.self.view_is) (ap length c.words.ensures.words)

pub returns-in-Some-clause-words : goal.returns-in-Some-clause-words
returns-in-Some-clause-words g c =
    let r = c.self.inside in
    rw (← c.self.view_is) (λ awake. ap length c.words.ensures.words ∙ sym (ap (λ b. length (words_of b)) (rest_short r.machine r.pending c.in-Some.field-0 r.fed r.events r.has_event r.overrun r.at_demand r.limit c.in-Some.is awake c.self.invariant.awaits)))

pub returns-in-None-clause-so_far : goal.returns-in-None-clause-so_far
returns-in-None-clause-so_far g c = rw (← c.self.view_is, c.in-None.is) (λ some. absurd (false≢true some))

pub returns-in-None-clause-words : goal.returns-in-None-clause-words
returns-in-None-clause-words g c =
    let r = c.self.inside in
    rw (← c.self.view_is) (λ awake. sym (ap (λ b. length (words_of b)) (rest_over r.machine r.pending r.fed r.events r.has_event r.overrun r.at_demand r.limit c.in-None.is)))
