use Rattle.std.proofs.Common.{Option, None, subst}
use Rattle.camac_rules.specs.Expressions.{range_of}
use Rattle.camac_lang.specs.View.{term_of}
use Rattle.camac_check_known.specs.declared.expression.Beyond.{Beyond}
use Rattle.camac_check_known.specs.Told.{TellsRange}
use Rattle.camac_check_known.proofs.expression.range_of.Goals as goal
use Rattle.camac_lang.specs.Tree.{on_line}

pub unreachable-requires : goal.unreachable-requires
unreachable-requires c = subst (λ (b : Option Beyond). TellsRange (on_line 0) None b (range_of (on_line 0) (term_of c.term.result) c.args.ranges.now)) c.in-None-beyond.is (c.in-None.ensures (on_line 0))
