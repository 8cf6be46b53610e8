-- The readers and the writers of an engine, as a clause sees them before a call and after it.
use Rattle.std.specs.Prelude.{ℕ, Bool, false, ◌||◌, List, [], Option}
use Rattle.camac_engines.specs.Plan.{plan_failed}
use Rattle.camac_engines.specs.declared.plan.PlanSource.{PlanSource}
use Rattle.camac_play.specs.RunIo.{RunState, sent_in}
use Rattle.camac_play.specs.Sent.{Outputs}
use Rattle.camac_word.specs.Watched.{inner_of, has_failed}
use Rattle.camac_word.specs.declared.watched.Watched.{Watched}

pub record World (P : Type 0) : Type 0 where
  -- the source of the plan, and what a reader of it has left
  pub plan : PlanSource P
  pub left : P → Option (List ℕ)
  -- what the readers of the script and of the answers have left, and what the two writers were given, where that is known
  pub script : Option (List ℕ)
  pub answers : Option (List ℕ)
  pub outputs : Outputs
  -- whether the writers may hold what they are given
  pub gathers : Bool
  -- whether a call has failed so far: of the reader of the plan or of the script, of that of the answers, of a writer
  pub texts_failed : Bool
  pub answers_failed : Bool
  pub writers_failed : Bool

abbrev pub world : {P S : Type 0} → (P → Option (List ℕ)) → (P → Bool) → (S → Option (List ℕ)) → (S → Bool) → PlanSource P → S → RunState → World P
world planned plan_fails scripted script_fails plan script s = record {
  plan = plan;
  left = planned;
  script = scripted script;
  answers = s.remaining;
  outputs = sent_in s;
  gathers = s.gathers;
  texts_failed = plan_failed plan_fails plan || script_fails script;
  answers_failed = s.read_failed;
  writers_failed = s.write_failed;
}

-- the streams of a run, each by itself: nothing is held
abbrev pub streams : {A L E : Type 0} → (A → Option (List ℕ)) → (L → Option (List ℕ)) → (E → Option (List ℕ)) → Watched A → Watched L → Watched E → RunState
streams answered listed recorded answers out events = record {
  remaining = answered (inner_of answers);
  listed = listed (inner_of out);
  recorded = recorded (inner_of events);
  read_failed = has_failed answers;
  write_failed = has_failed out || has_failed events;
  gathers = false;
  names = [];
}
