use Rattle.std.proofs.Common.{◌≡◌, ◌-◌, ◌∙◌, ◌++◌, ◌∷◌, [], ℕ, ap, arith}
use Rattle.std.proofs.lemmas.Result.{err_from_is_err_and}
use Rattle.camac_event.specs.Reading.{words_at}
use Rattle.camac_event.specs.Records.{words_in}
use Rattle.camac_event.proofs.Loops.{with_prefix, starts, goes_on, ends, is_done}
use Rattle.camac_event.proofs.reading.pass_words.Goals as goal

pub loop-init : goal.loop-init
loop-init c =
    let all : c.args.count - 0 ≡ c.args.count = omega arith in
    ([], ap (λ (n : ℕ). with_prefix [] (words_at n c.args.total c.args.bytes.now.now)) all ∙ starts (words_at c.args.count c.args.total c.args.bytes.now.now))

pub returns-in_err-word_of : goal.returns-in_err-word_of
returns-in_err-word_of c =
    let p = err_from_is_err_and c.from_residual.result c.from_residual.ensures.1 in
    rw (p.1, p.2) (ends c.in_err-word_of.field-0.0 c.loop.invariant.0 c.args.count c.loop.counter c.args.total c.loop.bytes.now (words_at c.args.count c.args.total c.args.bytes.now.now) c.loop-test.true c.in_err-word_of.ensures c.loop.invariant.1)

pub loop-preserved : goal.loop-preserved
loop-preserved c = (
  c.loop.invariant.0 ++ c.in_ok-word_of.field-0 ∷ [],
  goes_on c.loop.invariant.0 c.args.count c.loop.counter c.args.total c.loop.bytes.now c.in_ok-word_of.field-0 c.word_of.new.bytes.now (words_at c.args.count c.args.total c.args.bytes.now.now) c.loop-test.true c.in_ok-word_of.ensures c.loop.invariant.1,
)

pub returns : goal.returns
returns c = (c.loop.invariant.0, is_done c.loop.invariant.0 c.args.count c.loop.counter c.args.total c.loop.bytes.now (words_at c.args.count c.args.total c.args.bytes.now.now) c.loop-test.false c.loop.invariant.1)

pub returns-in-Some : goal.returns-in-Some
returns-in-Some c = (words_in c.args.count c.args.bytes.now.now, c.in-Some.ensures c.args.total)
