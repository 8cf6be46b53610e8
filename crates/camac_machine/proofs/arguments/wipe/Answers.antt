use Rattle.std.proofs.Common.{◌≡◌, ◌-◌, ◌++◌, ◌∙◌, replicate, take, refl, sym, ap, subst, append-nil, arith}
use Rattle.std.proofs.lemmas.List.{length-set}
use Rattle.camac_machine.proofs.Passed.{wiped_more, wiped, before_wiped}
use Rattle.camac_machine.proofs.arguments.wipe.Goals as goal

pub places-init : goal.places-init
places-init g c =
    let start = c.args.places.start in
    let before = take start c.args.all.now in
    let none : start - start ≡ 0 = omega arith in
    record { so_far = sym (ap (λ n. before ++ replicate n c.args.value) none ∙ append-nil before); count = refl }

pub places-preserved : goal.places-preserved
places-preserved g c =
    let so_far = c.places.invariant in
    let le = c.places.auto.place in
    let lt = c.places-test.true in
    let room = c.requires.room in
    record {
      so_far = wiped_more c.args.value c.args.all.now c.places.all c.args.places.start c.places.place le (omega (arith, lt, room, so_far.count)) so_far.so_far;
      count = length-set c.places.all c.places.place c.args.value ∙ so_far.count;
    }

pub returns-clause-wiped : goal.returns-clause-wiped
returns-clause-wiped g c =
    let p = c.args.places in
    let order = c.requires.order in
    let room = c.requires.room in
    let end : c.places.place ≡ p.end = omega (arith, c.places-test.false, c.places.auto.place-end order) in
    wiped c.args.value p c.args.all.now c.places.all (omega (arith, order, room))
    (subst (λ n. take n c.places.all ≡ take p.start c.args.all.now ++ replicate (n - p.start) c.args.value) end c.places.invariant.so_far)

pub returns-clause-before : goal.returns-clause-before
returns-clause-before g c =
    let p = c.args.places in
    let order = c.requires.order in
    let room = c.requires.room in
    let end : c.places.place ≡ p.end = omega (arith, c.places-test.false, c.places.auto.place-end order) in
    before_wiped c.args.value p c.args.all.now c.places.all (omega (arith, order, room))
    (subst (λ n. take n c.places.all ≡ take p.start c.args.all.now ++ replicate (n - p.start) c.args.value) end c.places.invariant.so_far) order
