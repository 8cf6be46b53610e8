use Rattle.std.proofs.Common.{◌≡◌, ◌<◌, length, refl, sym, subst, arith, Some}
use Rattle.std.specs.Prelude.{slice_get}
use Rattle.std.proofs.lemmas.Option.{slice_get_read}
use Rattle.camac_rules.specs.Checked.{CheckedScript}
use Rattle.camac_rules.proofs.Fitting.{fine_count}
use Rattle.camac_rules.proofs.checked.Checked.bounds.Goals as goal

pub index-requires : goal.index-requires
index-requires c =
    let k = c.self.inside in
    let count = fine_count k.linked.plan k.linked.script k.bounds.items k.linked.script.services c.self.invariant.services in
    let Q : CheckedScript → Type 0 = λ s. c.args.i < length s.script.services in
    let here : c.args.i < length k.linked.script.services = subst Q (sym c.self.view_is) c.requires in
    omega arith

pub returns : goal.returns
returns c =
    let k = c.self.inside in
    let count = fine_count k.linked.plan k.linked.script k.bounds.items k.linked.script.services c.self.invariant.services in
    let Q : CheckedScript → Type 0 = λ s. c.args.i < length s.script.services in
    let here : c.args.i < length k.linked.script.services = subst Q (sym c.self.view_is) c.requires in
    let got : slice_get k.bounds.items c.args.i ≡ Some c.index.result.now =
    slice_get_read k.bounds.items (length k.bounds.items) c.args.i c.index.result.now refl (omega arith) c.index.ensures in
    let G : CheckedScript → Type 0 = λ s. slice_get s.bounds c.args.i ≡ Some c.index.result.now in
    subst G c.self.view_is got
