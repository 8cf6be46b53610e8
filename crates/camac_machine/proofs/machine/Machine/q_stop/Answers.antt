use Rattle.std.proofs.Common.{refl, ap}
use Rattle.camac_esone.specs.InProgress.{q_stop_left}
use Rattle.camac_esone.specs.Transfers.{q_stop_next}
use Rattle.camac_lang.specs.Tree.{q_stop, on_line}
use Rattle.camac_lang.specs.View.{expression_of}
use Rattle.camac_machine.specs.Course.{words_sent}
use Rattle.camac_machine.proofs.Courses.{stop_sent, stop_set, stop_max, stop_goes, begins_fine, begins_proceed}
use Rattle.camac_machine.proofs.machine.Machine.q_stop.Goals as goal

pub sent-words-requires : goal.sent-words-requires
sent-words-requires g c =
    (search, stop_sent c.args.self.now c.args.block.now.function c.args.block.now.register c.args.block.now.table (expression_of c.args.block.now.max) c.args.block.now.tally c.requires.fine)

pub address_in-at-requires : goal.address_in-at-requires
address_in-at-requires g c = (search, (c.requires.room, (c.requires.fits.0, stop_set c.args.self.now c.args.block.now.function c.args.block.now.register c.args.block.now.table (expression_of c.args.block.now.max) c.args.block.now.tally c.requires.fine (words_sent c.sent-words.result) c.sent-words.ensures)))

pub value_of-max-requires : goal.value_of-max-requires
value_of-max-requires g c = (search, (c.requires.room, (c.requires.fits.1, stop_max c.args.self.now c.args.block.now.function c.args.block.now.register c.args.block.now.table (expression_of c.args.block.now.max) c.args.block.now.tally c.requires.fine (words_sent c.sent-words.result) c.sent-words.ensures c.address_in-at.result c.address_in-at.ensures)))

pub proceed-requires : goal.proceed-requires
proceed-requires g c =
    let h = c.args.self.now in
    let e = expression_of c.args.block.now.max in
    let table = words_sent c.sent-words.result in
    let at = c.address_in-at.result in
    let m = c.value_of-max.result in (
      search,
      (
        c.requires.room,
        (
          c.requires.fits.2,
          begins_fine h (q_stop (on_line 0) c.args.block.now.function c.args.block.now.register c.args.block.now.table e c.args.block.now.tally) _ table (q_stop_next at m) refl (ap q_stop_left c.new.ensures.state)
              (stop_goes h c.args.block.now.function c.args.block.now.register c.args.block.now.table e c.args.block.now.tally c.requires.fine table c.sent-words.ensures at c.address_in-at.ensures m c.value_of-max.ensures) c.requires.fine,
        ),
      ),
    )

pub returns-clause-goes : goal.returns-clause-goes
returns-clause-goes g c =
    let h = c.args.self.now in
    let e = expression_of c.args.block.now.max in
    let table = words_sent c.sent-words.result in
    let at = c.address_in-at.result in
    let m = c.value_of-max.result in
    begins_proceed h (q_stop (on_line 0) c.args.block.now.function c.args.block.now.register c.args.block.now.table e c.args.block.now.tally) _ table (q_stop_next at m) refl (ap q_stop_left c.new.ensures.state)
    (stop_goes h c.args.block.now.function c.args.block.now.register c.args.block.now.table e c.args.block.now.tally c.requires.fine table c.sent-words.ensures at c.address_in-at.ensures m c.value_of-max.ensures) c.proceed.new.pending c.proceed.new.self c.proceed.ensures.goes
