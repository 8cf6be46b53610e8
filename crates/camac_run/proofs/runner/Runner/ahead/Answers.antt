use Rattle.std.proofs.Common.{◌≡◌, ◌∙◌, ◌∷◌, ◌++◌, [], List, refl, subst, sym, ap}
use Rattle.camac_machine.specs.MachineState.{pending_of}
use Rattle.camac_machine.specs.declared.machine.Pending.TheVariants.{Transfer}
use Rattle.camac_run.specs.Ahead.{AreAhead}
use Rattle.camac_run.specs.Runner.{RunnerState, rest}
use Rattle.camac_run.specs.Sound.{runner_state}
use Rattle.camac_run.specs.Sure.{one_operation}
use Rattle.camac_run.specs.declared.member.Member.{Member}
use Rattle.camac_run.specs.declared.member.Member.TheVariants as member
use Rattle.camac_run.proofs.Following.{alone_ahead, following_ahead, is_ahead, more_ahead, none_ahead}
use Rattle.camac_run.proofs.Transfers.{block_is_ahead, can_go_on}
use Rattle.camac_run.proofs.Sizes.{machine_fits}
use Rattle.camac_run.proofs.Steps.{some_of}
use Rattle.camac_run.proofs.runner.Runner.ahead.Goals as goal

pub add_following-requires : goal.add_following-requires
add_following-requires g c = machine_fits _ c.requires-raw.1.1.1

pub add_following-requires-in-Some-block_of : goal.add_following-requires-in-Some-block_of
add_following-requires-in-Some-block_of g c = machine_fits _ c.requires-raw.1.1.1

pub block_of-requires : goal.block_of-requires
block_of-requires g c = can_go_on c.self.inside.machine c.self.inside.pending c.in-Some-pending.pending c.in-Some-pending.is c.self.invariant.awaits

pub returns-in_default : goal.returns-in_default
returns-in_default g c = none_ahead c.args.self.now c.begin.new.self.ahead.items c.in_default.ensures.wants c.begin.ensures

pub returns-then-is_one : goal.returns-then-is_one
returns-then-is_one g c =
    let r = c.self.inside in
    let w = c.in-Some-pending.pending in
    let its = some_of (one_operation (pending_of w)) (sym c.is_one.ensures ∙ c.if-is_one.true) in
    let a = c.add_following.ensures in
    let fine = rw c.in-Some-pending.is at c.self.invariant.fine in
    let size = c.word_size-size.result in
    let all = following_ahead r.machine w its.0 size a.0 r.fed r.events r.has_event r.overrun r.at_demand r.limit its.1 fine a.2 in
    let view : runner_state r.machine r.pending r.fed r.events r.has_event r.overrun r.at_demand r.limit ≡ c.args.self.now = c.self.view_is in
    let here = subst (λ (h : RunnerState). AreAhead (member.Makes its.0 size ∷ a.0) (rest h)) (ap (λ p. runner_state r.machine p r.fed r.events r.has_event r.overrun r.at_demand r.limit) (sym c.in-Some-pending.is) ∙ view) all in
    let new : c.add_following.new.coming.ahead.items ≡ member.Makes c.in-Some.first size ∷ a.0 = a.1 ∙ ap (λ (l : List Member). l ++ a.0) (c.push-then-is_one.ensures.items ∙ ap (λ (l : List Member). l ++ member.Makes c.in-Some.first size ∷ []) c.begin.ensures) in
    is_ahead c.args.self.now c.in-Some.first (member.Makes c.in-Some.first size) a.0 c.add_following.new.coming.ahead.items c.in-Some.ensures.wants c.word_size-size.ensures new (more_ahead c.args.self.now c.in-Some.first its.0 size size a.0 c.in-Some.ensures.wants here)

pub returns-in-Some-block_of : goal.returns-in-Some-block_of
returns-in-Some-block_of g c =
    let r = c.self.inside in
    let w = c.in-Some-pending.pending in
    let b = c.in-Some-block_of.block in
    let its = c.add_following-in-Some-block_of in
    let a = its.ensures in
    let all = block_is_ahead r.machine r.pending w b a.0 r.fed r.events r.has_event r.overrun r.at_demand r.limit c.in-Some-pending.is c.self.invariant.awaits c.self.invariant.fine c.in-Some-block_of.ensures a.2 in
    let here = subst (λ (h : RunnerState). AreAhead (member.Block b ∷ a.0) (rest h)) c.self.view_is all in
    let new : its.new.coming.ahead.items ≡ member.Block b ∷ a.0 = a.1 ∙ ap (λ (l : List Member). l ++ a.0) (c.push-in-Some-block_of.ensures.items ∙ ap (λ (l : List Member). l ++ member.Block b ∷ []) c.begin.ensures) in
    is_ahead c.args.self.now c.in-Some.first (member.Block b) a.0 its.new.coming.ahead.items c.in-Some.ensures.wants tt new here
