use Rattle.std.proofs.Common.{◌≡◌, min, take, map, length}
use Rattle.camac_lang.specs.Tests.{most}
use Rattle.camac_lang.specs.Tree.{Service}
use Rattle.camac_lang.specs.View.{service_of}
use Rattle.camac_text_cursor.proofs.counting.most_registers.Given as goal

abbrev pub invariant-loop-service : goal.invariant-loop-service
invariant-loop-service l = l.count ≡ min 64 (most (λ (v : Service). length v.registers) (map service_of (take l.service-index l.services)))
