use Rattle.std.proofs.Common.{◌≡◌, drop, map}
use Rattle.std.specs.Prelude.{max}
use Rattle.camac_lang.specs.Depth.{inner_depth}
use Rattle.camac_lang.specs.View.{statements_of, callable_of}
use Rattle.camac_lang.proofs.depth.+depth.Given as goal

abbrev pub invariant-block_depth-statements : goal.invariant-block_depth-statements
invariant-block_depth-statements l =
    max l.deepest (inner_depth (map callable_of l.callables) (statements_of (drop l.statement-index l.block))) ≡ inner_depth (map callable_of l.callables) (statements_of l.block)
