use Rattle.std.proofs.Common.{refl, ap}
use Rattle.std.specs.Prelude.{None}
use Rattle.camac_esone.specs.InProgress.{scan_left}
use Rattle.camac_esone.specs.Transfers.{scan_next}
use Rattle.camac_lang.specs.Tree.{address_scan, on_line}
use Rattle.camac_lang.specs.View.{expression_of}
use Rattle.camac_machine.specs.declared.transfer.Course.TheVariants.{Scan}
use Rattle.camac_machine.proofs.Courses.{scan_first, scan_last, scan_max, one_crate, scan_goes, begins_fine, begins_proceed}
use Rattle.camac_machine.proofs.machine.Machine.scan.Goals as goal

pub address_in-first-requires : goal.address_in-first-requires
address_in-first-requires g c = (search, (c.requires.room, (c.requires.fits.0, scan_first c.args.self.now c.args.scan.now.function c.args.scan.now.first c.args.scan.now.last (expression_of c.args.scan.now.max) c.args.scan.now.tally c.requires.fine)))

pub address_in-last-requires : goal.address_in-last-requires
address_in-last-requires g c = (search, (c.requires.room, (c.requires.fits.1, scan_last c.args.self.now c.args.scan.now.function c.args.scan.now.first c.args.scan.now.last (expression_of c.args.scan.now.max) c.args.scan.now.tally c.requires.fine c.address_in-first.result c.address_in-first.ensures)))

pub value_of-max-requires : goal.value_of-max-requires
value_of-max-requires g c = (search, (c.requires.room, (c.requires.fits.2, scan_max c.args.self.now c.args.scan.now.function c.args.scan.now.first c.args.scan.now.last (expression_of c.args.scan.now.max) c.args.scan.now.tally c.requires.fine c.address_in-first.result c.address_in-first.ensures c.address_in-last.result c.address_in-last.ensures)))

pub new-requires : goal.new-requires
new-requires g c = record {
  one_crate = one_crate c.args.self.now c.args.scan.now.function c.args.scan.now.first c.args.scan.now.last (expression_of c.args.scan.now.max) c.args.scan.now.tally c.requires.fine c.address_in-first.result c.address_in-first.ensures c.address_in-last.result c.address_in-last.ensures c.value_of-max.result c.value_of-max.ensures;
}

pub proceed-requires : goal.proceed-requires
proceed-requires g c =
    let h = c.args.self.now in
    let e = expression_of c.args.scan.now.max in
    let first = c.address_in-first.result in
    let last = c.address_in-last.result in
    let m = c.value_of-max.result in (
      search,
      (
        c.requires.room,
        (
          c.requires.fits.3,
          begins_fine h (address_scan (on_line 0) c.args.scan.now.function c.args.scan.now.first c.args.scan.now.last e c.args.scan.now.tally) (record { course = Scan c.new.result; function = c.args.scan.now.function; table = None; tally = c.args.scan.now.tally }) None (scan_next first last m) refl (ap scan_left c.new.ensures.state)
              (scan_goes h c.args.scan.now.function c.args.scan.now.first c.args.scan.now.last e c.args.scan.now.tally c.requires.fine first c.address_in-first.ensures last c.address_in-last.ensures m c.value_of-max.ensures) c.requires.fine,
        ),
      ),
    )

pub returns-clause-goes : goal.returns-clause-goes
returns-clause-goes g c =
    let h = c.args.self.now in
    let e = expression_of c.args.scan.now.max in
    let first = c.address_in-first.result in
    let last = c.address_in-last.result in
    let m = c.value_of-max.result in
    begins_proceed h (address_scan (on_line 0) c.args.scan.now.function c.args.scan.now.first c.args.scan.now.last e c.args.scan.now.tally) (record { course = Scan c.new.result; function = c.args.scan.now.function; table = None; tally = c.args.scan.now.tally }) None (scan_next first last m) refl (ap scan_left c.new.ensures.state)
    (scan_goes h c.args.scan.now.function c.args.scan.now.first c.args.scan.now.last e c.args.scan.now.tally c.requires.fine first c.address_in-first.ensures last c.address_in-last.ensures m c.value_of-max.ensures) c.proceed.new.pending c.proceed.new.self c.proceed.ensures.goes
