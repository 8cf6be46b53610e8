use Rattle.std.proofs.Common.{◌≡◌, [], map, drop}
use Rattle.arrayvec.specs.ArrayVec.{array_vec_len}
use Rattle.camac_lang.specs.Depth.{callables_after}
use Rattle.camac_lang.specs.View.{procedure_of, callable_of}
use Rattle.camac_lang.proofs.depth.callables_of.Given as goal

abbrev pub invariant-procedures : goal.invariant-procedures
invariant-procedures l = record {
  same : callables_after (map callable_of l.callables.items) (map procedure_of (drop l.procedure-index l.procedures)) ≡ callables_after [] (map procedure_of l.procedures);
  count : array_vec_len l.callables ≡ l.procedure-index;
}
