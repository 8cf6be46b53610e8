use Rattle.std.proofs.Common.{◌≡◌, ℕ, ◌+◌, ◌<◌, ◌++◌, ◌∷◌, [], length, Ok, Err, sym, subst, length-append, arith}
use Rattle.std.proofs.lemmas.Grind.{common_steps}
use Rattle.std.proofs.lemmas.Result.{err_from_is_err_and}
use Rattle.camac_event.specs.Reading.{record_at}
use Rattle.camac_event.proofs.Loops.{records_start as starts, records_go_on as goes_on, records_end as ends, records_done as is_done, shortens}
use Rattle.camac_event.proofs.reading.pass_records.Goals as goal

pub loop-rest-init : goal.loop-rest-init
loop-rest-init c = (omega arith, [], omega arith, starts c.args.version c.args.total c.args.bytes.now (λ i. omega (arith, c.type_inv.bytes i)))

pub returns-in_err-pass_record : goal.returns-in_err-pass_record
returns-in_err-pass_record c =
    let p = err_from_is_err_and c.from_residual.result c.from_residual.ensures.1 in
    let v = c.loop-rest.invariant in
    let some : 0 < length c.loop-rest.rest.now = grind (arith, common_steps) in
    let failed = subst (λ (n : ℕ). record_at c.args.version (n + 1) c.args.total c.loop-rest.rest.now ≡ Err c.in_err-pass_record.field-0.0) (sym v.2) c.in_err-pass_record.ensures in
    rw (p.1, p.2) (ends c.in_err-pass_record.field-0.0 c.args.version c.args.total v.1 c.loop-rest.rest.now _ some v.3 failed)

pub loop-rest-smaller : goal.loop-rest-smaller
loop-rest-smaller c =
    shortens c.args.version (c.loop-rest.number + 1) c.args.total c.loop-rest.rest.now c.in_ok-pass_record.ensures.0 c.pass_record.new.bytes.now c.loop-rest.invariant.3.fits c.in_ok-pass_record.ensures.1

pub loop-rest-preserved : goal.loop-rest-preserved
loop-rest-preserved c =
    let v = c.loop-rest.invariant in
    let e = c.in_ok-pass_record.ensures.0 in
    let some : 0 < length c.loop-rest.rest.now = grind (arith, common_steps) in
    let shorter = shortens c.args.version (c.loop-rest.number + 1) c.args.total c.loop-rest.rest.now e c.pass_record.new.bytes.now v.3.fits c.in_ok-pass_record.ensures.1 in
    let read = subst (λ (n : ℕ). record_at c.args.version (n + 1) c.args.total c.loop-rest.rest.now ≡ Ok (e, c.pass_record.new.bytes.now)) (sym v.2) c.in_ok-pass_record.ensures.1 in (
      omega (arith, c.loop-rest.invariant.0, shorter),
      v.1 ++ e ∷ [],
      omega (arith, length-append v.1 (e ∷ []), v.2),
      goes_on c.args.version c.args.total v.1 c.loop-rest.rest.now _ e c.pass_record.new.bytes.now some v.3 read,
    )

pub returns : goal.returns
returns c =
    let v = c.loop-rest.invariant in
    let none : length c.loop-rest.rest.now ≡ 0 = grind (arith, common_steps) in
    (v.1, is_done c.args.version c.args.total v.1 c.loop-rest.rest.now _ none v.3)
