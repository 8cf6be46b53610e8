use Rattle.std.proofs.Common.{◌∙◌, subst, inl, ap}
use Rattle.std.proofs.KnownBytes.{Keeps-refl}
use Rattle.camac_engines.specs.Engine.{is_write_fault}
use Rattle.camac_tool_host.specs.Streams.{device_of, given_to, held_in}
use Rattle.camac_tool.specs.Jobs.{EventsTell}
use Rattle.camac_tool.proofs.Caused.{raised}
use Rattle.camac_tool.proofs.Ended.{beginning, faulted, flushed, not_flushed, started}
use Rattle.camac_tool.proofs.program.Tool.list_events.Goals as goal

pub returns-in-Err-clause-told : goal.returns-in-Err-clause-told
returns-in-Err-clause-told g c = rw c.in-Err.ensures.memory (_, inl (Keeps-refl _), beginning _ _ (Keeps-refl _))

pub returns-in-Err-flush-clause-told : goal.returns-in-Err-flush-clause-told
returns-in-Err-flush-clause-told g c =
    let w = g.D.Device.contents in
    let out = c.write_events-done.new.out in
    rw c.into_inner-in-Err-flush.ensures
    (not_flushed (EventsTell (g.R.Host.bytes_of c.args.self.now.rt.now) c.args.file.now) (w c.args.out) (given_to w c.in-Ok.out) (given_to w out) (w (device_of c.flush.new.self)) (held_in c.flush.new.self)
    (started w c.in-Ok.out c.args.out c.in-Ok.ensures.inner c.in-Ok.ensures.empty) c.flush.ensures.bytes c.write_events-done.result c.write_events-done.ensures.told)

pub returns-in-Err-done-clause-told : goal.returns-in-Err-done-clause-told
returns-in-Err-done-clause-told g c =
    let w = g.D.Device.contents in
    let out = c.write_events-done.new.out in
    rw c.into_inner-in-Err-done.ensures
    (faulted (EventsTell (g.R.Host.bytes_of c.args.self.now.rt.now) c.args.file.now) (w c.args.out) (given_to w c.in-Ok.out) (given_to w out) (w (device_of out)) (held_in out)
    (started w c.in-Ok.out c.args.out c.in-Ok.ensures.inner c.in-Ok.ensures.empty) (Keeps-refl (given_to w out)) c.in-Err-done.fault
    (subst (λ r. EventsTell (g.R.Host.bytes_of c.args.self.now.rt.now) c.args.file.now (given_to w c.in-Ok.out) (given_to w out) r) c.in-Err-done.is c.write_events-done.ensures.told))

pub returns-in-Err-done-clause-cause : goal.returns-in-Err-done-clause-cause
returns-in-Err-done-clause-cause g c is =
    rw c.into_inner-in-Err-done.ensures (raised _ _ _ c.write_events-done.ensures.failed (ap (λ r. is_write_fault r) c.in-Err-done.is ∙ is))

pub returns-in-Ok-flush-clause-told : goal.returns-in-Ok-flush-clause-told
returns-in-Ok-flush-clause-told g c =
    let w = g.D.Device.contents in
    let out = c.write_events-done.new.out in
    rw c.into_inner.ensures
    (flushed (EventsTell (g.R.Host.bytes_of c.args.self.now.rt.now) c.args.file.now) (w c.args.out) (given_to w c.in-Ok.out) (given_to w out) (w (device_of c.flush.new.self)) (held_in c.flush.new.self)
    (started w c.in-Ok.out c.args.out c.in-Ok.ensures.inner c.in-Ok.ensures.empty) c.flush.ensures.bytes c.in-Ok-flush.ensures.empty c.in-Ok-done.done
    (subst (λ r. EventsTell (g.R.Host.bytes_of c.args.self.now.rt.now) c.args.file.now (given_to w c.in-Ok.out) (given_to w out) r) c.in-Ok-done.is c.write_events-done.ensures.told))
