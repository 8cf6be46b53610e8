use Rattle.std.proofs.Common.{ℕ, [], ◌∷◌, ◌++◌, false, length, sym, ap, subst, ◌∙◌, arith, rules}
use Rattle.camac_branch.specs.Branch.{Answer}
use Rattle.camac_machine.specs.declared.machine.Machine.{Machine}
use Rattle.camac_machine.specs.declared.machine.Owner.TheVariants.{Locked}
use Rattle.camac_machine.specs.MachineState.{IsRefused, TakesLock}
use Rattle.camac_machine.proofs.Taken.{takes_lock, lock_cost, lock_overruns}
use Rattle.camac_machine.proofs.machine.Machine.take_lock.Goals as goal

-- an answer with this wait
waiting : ℕ → Answer
waiting wait = record { x = false; q = false; word = 0; wait = wait; gl = 0 }

pub lock-requires : goal.lock-requires
unfolding waiting
lock-requires g c =
    let p = c.requires.pending in
    (search rules, (p.0, (p.1.0, lock_cost c.args.self.now c.args.crate_no c.args.body (waiting c.args.wait) p c.requires.fine c.requires.room.cycles)))

pub push-requires : goal.push-requires
push-requires g c =
    let some = c.requires.pending.1.3.0 in
    let n = ap (λ (m : Machine g.row.V g.row.DEPTH g.row.CAP). length m.frames.items) c.in-Ok.ensures.took.same in
    (search rules, omega (arith, some, n))

pub returns-in-Ok-clause-took : goal.returns-in-Ok-clause-took
returns-in-Ok-clause-took g c = λ answer same.
    let h = c.args.self.now in
    let took = subst (λ w. TakesLock h c.args.crate_no w c.in-Ok.wait c.lock.new.self) (sym same) c.in-Ok.ensures.took in
    takes_lock h c.args.crate_no c.args.body answer c.requires.pending c.lock.new.self c.in-Ok.wait c.push.new.self c.requires.room c.requires.quiet took
    (c.push.ensures.items
    ∙ ap (λ (m : Machine g.row.V g.row.DEPTH g.row.CAP). m.frames.items ++ record { rest = c.args.body; owner = Locked c.get.result } ∷ []) c.in-Ok.ensures.took.same
    ∙ ap (λ k. h.frames.items ++ record { rest = c.args.body; owner = Locked k } ∷ []) c.get.ensures.value)

pub returns-in-Err-clause-overrun : goal.returns-in-Err-clause-overrun
returns-in-Err-clause-overrun g c = λ answer same.
    let h = c.args.self.now in
    let o = c.in-Err.overrun in
    lock_overruns h c.args.crate_no c.args.body answer c.requires.pending o (subst (λ w. IsRefused h c.args.crate_no w o) (sym same) c.in-Err.ensures.overrun)
