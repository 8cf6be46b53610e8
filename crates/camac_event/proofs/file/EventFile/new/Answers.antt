use Rattle.std.proofs.Common.{refl, arith}
use Rattle.std.proofs.lemmas.Result.{err_from_is_err_and}
use Rattle.camac_event.specs.Reading.{file_at}
use Rattle.camac_event.proofs.Files.{header_takes}
use Rattle.camac_event.proofs.InPlace.{records_are, are_records, events_in-is}
use Rattle.camac_event.proofs.file.EventFile.new.Goals as goal

pub returns-in_err-version : goal.returns-in_err-version
unfolding file_at
returns-in_err-version c =
    let p = err_from_is_err_and c.from_residual.result c.from_residual.ensures.1 in
    rw (p.1, p.2, c.in_err-version.ensures) refl

pub returns-in_err-pass_records : goal.returns-in_err-pass_records
unfolding file_at
returns-in_err-pass_records c =
    let p = err_from_is_err_and c.from_residual-in_err-pass_records.result c.from_residual-in_err-pass_records.ensures.1 in
    rw (p.1, p.2, c.in_ok-version.ensures, c.in_err-pass_records.ensures) refl

pub invariant_of-result : goal.invariant_of-result
invariant_of-result c =
    let read = c.in_ok-pass_records.ensures in
    are_records _ 1 _ read.0 (records_are _ _ _ _ read.0 (header_takes _ _ (c.in_ok-version.version, c.header_of.new.bytes.now) (λ i. omega (arith, c.type_inv.bytes i)) c.in_ok-version.ensures).rest_fits read.1)

pub returns : goal.returns
unfolding file_at
returns c =
    let read = c.in_ok-pass_records.ensures in
    let right = records_are _ _ _ _ read.0 (header_takes _ _ (c.in_ok-version.version, c.header_of.new.bytes.now) (λ i. omega (arith, c.type_inv.bytes i)) c.in_ok-version.ensures).rest_fits read.1 in
    rw (c.in_ok-version.ensures, read.1, events_in-is _ 1 _ read.0 right) refl
