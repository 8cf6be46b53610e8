use Rattle.std.proofs.Common.{◌≡◌, length, map}
use Rattle.camac_lang.specs.Headings.{annotate, annotate_service}
use Rattle.camac_lang.proofs.Annotated.{changed_to}
use Rattle.camac_lang.proofs.script.Script.unannotate.Given as goal

abbrev pub invariant-procedures : goal.invariant-procedures
invariant-procedures l = record {
  same : l.self ≡ record l.fn.self { procedures = changed_to l.i (annotate 0 0 0) l.fn.self.procedures };
  end : l.i-end ≡ length l.fn.self.procedures;
}

abbrev pub invariant-services : goal.invariant-services
invariant-services l = record {
  same : l.self ≡ record l.fn.self { procedures = map (annotate 0 0 0) l.fn.self.procedures; services = changed_to l.i (annotate_service 0 0) l.fn.self.services };
  end : l.i-end ≡ length l.fn.self.services;
}
