use Rattle.std.proofs.Common.{refl, ap}
use Rattle.camac_esone.specs.InProgress.{q_repeat_left}
use Rattle.camac_esone.specs.Transfers.{q_repeat_next}
use Rattle.camac_lang.specs.Tree.{q_repeat, on_line}
use Rattle.camac_lang.specs.View.{expression_of}
use Rattle.camac_machine.specs.Course.{words_sent}
use Rattle.camac_machine.proofs.Courses.{q_repeat_sent, q_repeat_set, q_repeat_max, q_repeat_limit, repeat_goes, begins_fine, begins_proceed}
use Rattle.camac_machine.proofs.machine.Machine.q_repeat.Goals as goal

pub sent-words-requires : goal.sent-words-requires
sent-words-requires g c = (
  search,
  q_repeat_sent c.args.self.now c.args.block.now.function c.args.block.now.register c.args.block.now.table (expression_of c.args.block.now.max) (expression_of c.args.limit.now) c.args.block.now.tally c.requires.fine,
)

pub address_in-at-requires : goal.address_in-at-requires
address_in-at-requires g c = (search, (c.requires.room, (c.requires.fits.0, q_repeat_set c.args.self.now c.args.block.now.function c.args.block.now.register c.args.block.now.table (expression_of c.args.block.now.max) (expression_of c.args.limit.now) c.args.block.now.tally c.requires.fine (words_sent c.sent-words.result) c.sent-words.ensures)))

pub value_of-max-requires : goal.value_of-max-requires
value_of-max-requires g c = (search, (c.requires.room, (c.requires.fits.1, q_repeat_max c.args.self.now c.args.block.now.function c.args.block.now.register c.args.block.now.table (expression_of c.args.block.now.max) (expression_of c.args.limit.now) c.args.block.now.tally c.requires.fine (words_sent c.sent-words.result) c.sent-words.ensures c.address_in-at.result c.address_in-at.ensures)))

pub value_of-limit-requires : goal.value_of-limit-requires
value_of-limit-requires g c = (search, (c.requires.room, (c.requires.fits.2, q_repeat_limit c.args.self.now c.args.block.now.function c.args.block.now.register c.args.block.now.table (expression_of c.args.block.now.max) (expression_of c.args.limit.now) c.args.block.now.tally c.requires.fine (words_sent c.sent-words.result) c.sent-words.ensures c.address_in-at.result c.address_in-at.ensures c.value_of-max.result c.value_of-max.ensures)))

pub proceed-requires : goal.proceed-requires
proceed-requires g c =
    let h = c.args.self.now in
    let e = expression_of c.args.block.now.max in
    let l = expression_of c.args.limit.now in
    let table = words_sent c.sent-words.result in
    let at = c.address_in-at.result in
    let m = c.value_of-max.result in
    let n = c.value_of-limit.result in (
      search,
      (
        c.requires.room,
        (
          c.requires.fits.3,
          begins_fine h (q_repeat (on_line 0) c.args.block.now.function c.args.block.now.register c.args.block.now.table e l c.args.block.now.tally) _ table (q_repeat_next at m n) refl (ap q_repeat_left c.new.ensures.state)
              (repeat_goes h c.args.block.now.function c.args.block.now.register c.args.block.now.table e l c.args.block.now.tally c.requires.fine table c.sent-words.ensures at c.address_in-at.ensures m c.value_of-max.ensures n c.value_of-limit.ensures) c.requires.fine,
        ),
      ),
    )

pub returns-clause-goes : goal.returns-clause-goes
returns-clause-goes g c =
    let h = c.args.self.now in
    let e = expression_of c.args.block.now.max in
    let l = expression_of c.args.limit.now in
    let table = words_sent c.sent-words.result in
    let at = c.address_in-at.result in
    let m = c.value_of-max.result in
    let n = c.value_of-limit.result in
    begins_proceed h (q_repeat (on_line 0) c.args.block.now.function c.args.block.now.register c.args.block.now.table e l c.args.block.now.tally) _ table (q_repeat_next at m n) refl (ap q_repeat_left c.new.ensures.state)
    (repeat_goes h c.args.block.now.function c.args.block.now.register c.args.block.now.table e l c.args.block.now.tally c.requires.fine table c.sent-words.ensures at c.address_in-at.ensures m c.value_of-max.ensures n c.value_of-limit.ensures) c.proceed.new.pending c.proceed.new.self c.proceed.ensures.goes
