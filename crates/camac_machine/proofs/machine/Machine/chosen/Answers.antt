use Rattle.std.proofs.Common.{map, Some, ap, ◌∙◌}
use Rattle.camac_lang.specs.View.{part_of, statements_of}
use Rattle.camac_machine.proofs.Actions.{test_has, choose_goes, choose_other}
use Rattle.camac_machine.proofs.machine.Machine.chosen.Goals as goal

pub holds-requires : goal.holds-requires
holds-requires g c =
    (search, (c.requires.room, (c.requires.declared, test_has c.args.self.now (map part_of c.args.test.now) (statements_of c.args.then.now) (statements_of c.args.otherwise.now) c.requires.fine)))

pub returns-then-holds-clause-goes : goal.returns-then-holds-clause-goes
returns-then-holds-clause-goes g c = λ answers.
    choose_goes c.args.self.now (map part_of c.args.test.now) (statements_of c.args.then.now) (statements_of c.args.otherwise.now) answers (c.holds.ensures ∙ ap (λ b. Some b) c.if-holds.true)

pub returns-else-holds-clause-goes : goal.returns-else-holds-clause-goes
returns-else-holds-clause-goes g c = λ answers.
    choose_other c.args.self.now (map part_of c.args.test.now) (statements_of c.args.then.now) (statements_of c.args.otherwise.now) answers (c.holds.ensures ∙ ap (λ b. Some b) c.if-holds.false)
