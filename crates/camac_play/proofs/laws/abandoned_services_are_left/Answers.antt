use Rattle.camac_play.proofs.Counting.{texts_give_answers, answers_count, services_are_left}
use Rattle.camac_play.proofs.laws.abandoned_services_are_left.Goals as goal

pub returns : goal.returns
returns c = record { texts = texts_give_answers; answers = answers_count; services = services_are_left }
