use Rattle.std.proofs.Common.{◌∙◌, List, ℕ, ap}
use Rattle.std.specs.Global.{Vec}
use Rattle.camac_engines.specs.Explain.{TellsRule}
use Rattle.camac_tool.specs.declared.program.Done.{Done}
use Rattle.camac_tool.proofs.Caused.{none_read}
use Rattle.camac_tool.proofs.Held.{no_write, none_told, some_told, written_as}
use Rattle.camac_tool.proofs.program.Tool.explain_rule.Goals as goal

abbrev items : Vec ℕ → List ℕ
items v = v.items

pub returns-in-Err-clause-told : goal.returns-in-Err-clause-told
returns-in-Err-clause-told g c = rw c.held_fault.ensures (c.in-Some.rule, c.in-Some.ensures, none_told ⊥ (TellsRule c.in-Some.rule) (g.D.Device.contents c.args.out) c.in-Err.fault (λ is. rw is at c.in-Err.ensures.tells))

pub returns-in-Err-clause-cause : goal.returns-in-Err-clause-cause
returns-in-Err-clause-cause g c failed = no_write c.in-Err.fault (rw c.held_fault.ensures at failed)

pub returns-in-Err-clause-no_read : goal.returns-in-Err-clause-no_read
returns-in-Err-clause-no_read g c = rw c.held_fault.ensures (none_read Done c.in-Err.fault (λ is. rw is at c.in-Err.ensures.tells))

pub returns-clause-told : goal.returns-clause-told
returns-clause-told g c =
    let told = written_as (TellsRule c.in-Some.rule) c.in-Ok.outcome _ _ c.deref.result.now (ap items c.new-text.ensures.inner ∙ c.new.ensures.items) (c.deref.ensures.value ∙ ap items c.into_inner.ensures) c.in-Ok.ensures.tells in
    (c.in-Some.rule, c.in-Some.ensures, some_told (TellsRule c.in-Some.rule) _ _ c.deref.result.now c.in-Ok.outcome told c.in-Err-put_text.ensures.text)
