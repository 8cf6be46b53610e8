use Rattle.std.proofs.Common.{refl}
use Rattle.camac_lang.specs.View.{action_of}
use Rattle.camac_model.specs.Fine.{most_turns}
use Rattle.camac_model.specs.Meaning.{effect}
use Rattle.camac_run.specs.Size.{size_of}
use Rattle.camac_run.specs.Sure.{context_of}
use Rattle.camac_run.specs.declared.ahead.Known.{Known}
use Rattle.camac_run.proofs.Making.{adds_unknown, blocks_add, none_adds, sure_adds}
use Rattle.camac_run.specs.declared.member.Member.TheVariants as member
use Rattle.camac_run.specs.declared.progress.Wanted.TheVariants as wanted
use Rattle.camac_run.proofs.Short.{adds_its_block, adds_its_own, adds_nothing}
use Rattle.camac_run.proofs.ahead.add_action.Goals as goal

pub returns-in-Makes-clause-adds : goal.returns-in-Makes-clause-adds
returns-in-Makes-clause-adds c =
    let new : Known = record { variables = c.known_of.new.variables; registers = c.known_of.new.registers } in
    sure_adds (context_of c.args.inside.now) (action_of c.args.action.now) c.args.known.now new c.args.coming.now.ahead.items c.push.new.self.items c.known_of.result c.in-Makes.command c.size_of_action-size.result (c.known_of.ensures.sure c.args.inside.now.procedures) c.in-Makes.is c.push.ensures.items

pub returns-in-Transfers-clause-adds : goal.returns-in-Transfers-clause-adds
returns-in-Transfers-clause-adds c =
    let new : Known = record { variables = c.known_of.new.variables; registers = c.known_of.new.registers } in
    blocks_add (context_of c.args.inside.now) (action_of c.args.action.now) c.args.known.now new c.args.coming.now.ahead.items c.transfer.new.self.ahead.items c.known_of.result c.in-Transfers.block c.transfer.result (c.known_of.ensures.sure c.args.inside.now.procedures) c.in-Transfers.is c.transfer.ensures

pub returns-in-NeedsNone-clause-adds : goal.returns-in-NeedsNone-clause-adds
returns-in-NeedsNone-clause-adds c =
    let new : Known = record { variables = c.known_of.new.variables; registers = c.known_of.new.registers } in
    none_adds (context_of c.args.inside.now) (action_of c.args.action.now) c.args.known.now new c.args.coming.now.ahead.items c.args.coming.now.ahead.items c.known_of.result (c.known_of.ensures.sure c.args.inside.now.procedures) c.in-NeedsNone.is refl

pub returns-in-Unknown-clause-adds : goal.returns-in-Unknown-clause-adds
returns-in-Unknown-clause-adds c =
    adds_unknown c.args.inside.now.checked.now.plan c.args.known.now c.args.known.now (effect (context_of c.args.inside.now) most_turns (action_of c.args.action.now)) c.args.coming.now.ahead.items c.args.coming.now.ahead.items refl

pub returns-in-Makes-clause-size : goal.returns-in-Makes-clause-size
returns-in-Makes-clause-size c =
    adds_its_own (size_of (action_of c.args.action.now)) c.args.coming.now.ahead.items c.push.new.self.items (member.Makes (wanted.Cycle c.in-Makes.command) c.size_of_action-size.result) c.size_of_action-size.ensures c.push.ensures.items

pub returns-in-Transfers-clause-size : goal.returns-in-Transfers-clause-size
returns-in-Transfers-clause-size c = adds_its_block (size_of (action_of c.args.action.now)) c.args.coming.now.ahead.items c.transfer.new.self.ahead.items c.in-Transfers.block c.transfer.result c.transfer.ensures

pub returns-in-NeedsNone-clause-size : goal.returns-in-NeedsNone-clause-size
returns-in-NeedsNone-clause-size c = adds_nothing (size_of (action_of c.args.action.now)) c.args.coming.now.ahead.items c.args.coming.now.ahead.items refl

pub returns-in-Unknown-clause-size : goal.returns-in-Unknown-clause-size
returns-in-Unknown-clause-size c = adds_nothing (size_of (action_of c.args.action.now)) c.args.coming.now.ahead.items c.args.coming.now.ahead.items refl
