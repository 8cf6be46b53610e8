use Rattle.std.proofs.Common.{◌≡◌, ◌^◌, drop}
use Rattle.std.specs.Prelude.{nat_lt}
use Rattle.camac_lang.specs.Tests.{each}
use Rattle.camac_check_simple.proofs.table.all_fit.Given as goal

abbrev pub invariant-words : goal.invariant-words
invariant-words l = each (λ v. nat_lt v (2 ^ l.width)) (drop l.word-index l.words) ≡ each (λ v. nat_lt v (2 ^ l.width)) l.words
