use Rattle.std.proofs.Common.{◌≡◌, ◌∙◌, ◌+◌, ◌^◌, refl, sym, inl, inr, arith}
use Rattle.std.proofs.lemmas.Bool.{cases_lt, false≢true}
use Rattle.camac_answer.proofs.Digits.{six_in, word_spelled, word_unspelled}
use Rattle.camac_answer.proofs.line.word_of.Goals as goal

pub returns-in-Some : goal.returns-in-Some
returns-in-Some c =
    let digits = c.args.digits.now in
    let same : c.value_of.result + c.value_of-2.result + c.value_of-3.result + c.value_of-4.result + c.value_of-5.result + c.value_of-6.result ≡ six_in digits =
    rw (c.value_of.ensures.value, c.value_of-2.ensures.value, c.value_of-3.ensures.value, c.value_of-4.ensures.value, c.value_of-5.ensures.value, c.value_of-6.ensures.value) refl in
    let few = c.in-Some.ensures.in_range.0 refl in
    sym (word_spelled digits c.in-Some.word c.requires (c.in-Some.ensures.kept ∙ same) (omega (arith, c.in-Some.ensures.kept, few)))

pub returns-in-None : goal.returns-in-None
returns-in-None c =
    let digits = c.args.digits.now in
    let number = c.value_of.result + c.value_of-2.result + c.value_of-3.result + c.value_of-4.result + c.value_of-5.result + c.value_of-6.result in
    let same : number ≡ six_in digits =
    rw (c.value_of.ensures.value, c.value_of-2.ensures.value, c.value_of-3.ensures.value, c.value_of-4.ensures.value, c.value_of-5.ensures.value, c.value_of-6.ensures.value) refl in
    elim (cases_lt number (2 ^ 24)) [
      | inl less ↦ absurd (false≢true ((c.in-None.ensures {u = tt}).in_range.1 less))
      | inr more ↦ sym (word_unspelled digits number c.requires same more)
    ]
