use Rattle.std.proofs.Common.{◌∙◌, List, ℕ, sym, ap}
use Rattle.std.proofs.KnownBytes.{Keeps-refl}
use Rattle.std.specs.Global.{Vec}
use Rattle.std.specs.Io.KnownBytes.{Keeps}
use Rattle.camac_tool.specs.declared.program.Done.{Done}
use Rattle.camac_tool.proofs.Caused.{read_held}
use Rattle.camac_tool.proofs.Held.{handed, no_write, none_handed, not_handed, replied_as}
use Rattle.camac_tool.proofs.program.Tool.gather.Goals as goal
use Rattle.camac_tool.proofs.program.Tool.gather.Goals.{then-is_err-via-then-is_err, then-is_err-via-else-is_err+then-is_err-2}

abbrev items : Vec ℕ → List ℕ
items v = v.items

pub returns-in-Err-clause-told : goal.returns-in-Err-clause-told
returns-in-Err-clause-told g c = rw c.held_fault.ensures (none_handed (g.R.Host.bytes_of c.args.self.now.rt.now) c.args.question (g.D.Device.contents c.args.out) _ _ c.in-Err.fault c.in-Err.ensures.told)

pub returns-in-Err-clause-cause : goal.returns-in-Err-clause-cause
returns-in-Err-clause-cause g c failed = no_write c.in-Err.fault (rw c.held_fault.ensures at failed)

pub returns-in-Err-clause-unread : goal.returns-in-Err-clause-unread
returns-in-Err-clause-unread g c failed = c.in-Err.ensures.unread (read_held Done Done c.in-Err.fault (rw c.held_fault.ensures at failed))

pub returns-then-is_err-clause-told : goal.returns-then-is_err-clause-told
returns-then-is_err-clause-told g c =
    let bytes_of = g.R.Host.bytes_of c.args.self.now.rt.now in
    let p = g.D.Device.contents c.put_text-written.new.self.0 in
    let told = replied_as bytes_of c.args.question c.in-Ok.done _ _ c.deref.result.now (ap items c.new-text.ensures.inner ∙ c.new.ensures.items) (c.deref.ensures.value ∙ ap items c.into_inner.ensures) c.in-Ok.ensures.told in
    let kept : Keeps p (g.D.Device.contents c.then-is_err.out) = elim c.then-is_err.branch [
      | then-is_err-via-then-is_err w ↦ rw w.out-is (Keeps-refl p)
      | then-is_err-via-else-is_err+then-is_err-2 w ↦ rw w.out-is w.hand_on.ensures.bytes
    ] in
    not_handed bytes_of c.args.question (g.D.Device.contents c.args.out) p (g.D.Device.contents c.then-is_err.out) c.deref.result.now c.in-Ok.done told kept c.put_text-written.result c.put_text-written.ensures.text

pub returns-clause-told : goal.returns-clause-told
returns-clause-told g c =
    let bytes_of = g.R.Host.bytes_of c.args.self.now.rt.now in
    let told = replied_as bytes_of c.args.question c.in-Ok.done _ _ c.deref.result.now (ap items c.new-text.ensures.inner ∙ c.new.ensures.items) (c.deref.ensures.value ∙ ap items c.into_inner.ensures) c.in-Ok.ensures.told in
    handed bytes_of c.args.question (g.D.Device.contents c.args.out) (g.D.Device.contents c.put_text-written.new.self.0) (g.D.Device.contents c.hand_on.new.self) c.deref.result.now c.in-Ok.done told c.hand_on.ensures.bytes
    c.put_text-written.result (sym c.is_err.ensures.value ∙ c.if-is_err.false) c.put_text-written.ensures.text
