use Rattle.std.proofs.Common.{ℕ, List, ap, subst, ◌∙◌}
use Rattle.camac_c.specs.Talk.{TellsWords}
use Rattle.camac_c.specs.Told.{counted}
use Rattle.camac_c.proofs.transfer.tell_transfer.Goals as goal

pub returns-in-None : goal.returns-in-None
returns-in-None c = (
  c.transfer.result,
  record { is_left = c.transfer.ensures.left; some = c.transfer.ensures.some },
  rw c.in-None.is (c.write_numbers.ensures.written, c.counted.ensures ∙ ap counted c.write_numbers.ensures.all),
)

pub returns-in-Some : goal.returns-in-Some
returns-in-Some c =
    let told = subst (λ (ws : List ℕ). TellsWords ws c.args.bytes.now c.write_numbers-in-Some.new.bytes c.counted-in-Some.result) c.numbers_of.ensures
    (c.write_numbers-in-Some.ensures.written, c.counted-in-Some.ensures ∙ ap counted c.write_numbers-in-Some.ensures.all) in
    (c.transfer.result, record { is_left = c.transfer.ensures.left; some = c.transfer.ensures.some }, rw c.in-Some.is told)
