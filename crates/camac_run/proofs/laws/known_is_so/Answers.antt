use Rattle.camac_run.proofs.Foreseen.{cycle_is_so, other_is_so, truth_is_so, value_is_known, value_is_so}
use Rattle.camac_run.proofs.laws.known_is_so.Goals as goal

pub returns-clause-so : goal.returns-clause-so
returns-clause-so c known = record {
  values = value_is_so known;
  conditions = truth_is_so known;
  cycles = λ x registers st. cycle_is_so x known registers st;
  others = λ x registers st. other_is_so x known registers st;
}

pub returns-clause-all : goal.returns-clause-all
returns-clause-all c known all k e r = value_is_known known all k e r
