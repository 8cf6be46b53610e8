use Rattle.std.proofs.Common.{◌≡◌, drop}
use Rattle.camac_explain_text_place.specs.Before.{behind, standing, standing_of}
use Rattle.camac_explain_text_place.proofs.before.Before.new.Given as goal

abbrev pub invariant-tokens : goal.invariant-tokens
invariant-tokens l = behind (drop l.token-index l.tokens) (standing_of l.before) ≡ standing l.tokens
