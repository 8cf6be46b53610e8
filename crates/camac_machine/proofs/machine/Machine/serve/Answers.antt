use Rattle.std.proofs.Common.{◌≡◌, ◌<◌, ◌∷◌, ◌++◌, ℕ, [], List, map, length, get_or, rules, refl, sym, ap, subst, ◌∙◌, arith}
use Rattle.std.specs.Prelude.{Some, None, true, IsTrue, slice_get}
use Rattle.camac_lang.specs.Scope.{is_well_formed}
use Rattle.camac_lang.specs.Tree.{Script, Service}
use Rattle.camac_lang.specs.declared.script.Service as rust
use Rattle.camac_lang.specs.Fits.{fits}
use Rattle.camac_rules.specs.Checked.{CheckedScript, IsChecked}
use Rattle.camac_lang.specs.View.{service_of, statements_of}
use Rattle.std.proofs.lemmas.Option.{same_Some}
use Rattle.camac_branch.specs.Branch.{Answer}
use Rattle.camac_branch.specs.Crates.{branch_of}
use Rattle.camac_model.specs.Fine.{IsFine, most_turns}
use Rattle.camac_machine.specs.declared.machine.Frame.{Frame}
use Rattle.camac_machine.specs.declared.machine.Machine.{Machine}
use Rattle.camac_machine.specs.declared.machine.Owner.TheVariants.{Plain}
use Rattle.camac_machine.specs.MachineState.{bounds_at, stands, IsFineHere, HasRoom}
use Rattle.camac_machine.specs.declared.scope.Scope.{Scope}
use Rattle.camac_machine.specs.Store.{seen_by_service}
use Rattle.camac_machine.specs.Within.{reach_of, ScopeFits, Opens}
use Rattle.camac_machine.proofs.Bounds.{Small, fits_parts, bounds_small, scope_fits, body_fits, fine_at}
use Rattle.camac_machine.proofs.Lams.{service_at}
use Rattle.camac_machine.proofs.Starts.{begun, room_begun, goes_begun}
use Rattle.camac_machine.proofs.machine.Machine.serve.Goals as goal

-- a service that the program finds by its number, and the room that there is for it
record Starts (k : CheckedScript) (v d w i : ℕ) (s : Service) (sc : Scope) : Type 0 where
  there : slice_get k.script.services i ≡ Some s
  scope : ScopeFits v k.script sc
  body : Opens (reach_of k.script sc) d s.body
  small : Small w (bounds_at k i)

starts_at : (v d w : ℕ) (services : List rust.Service) {k : CheckedScript} {s t : Script} {i : ℕ} {x : rust.Service} {sc : Scope} → IsChecked k → s ≡ k.script → IsTrue (is_well_formed s) → fits k.script v d w ≡ true
    → t ≡ k.script → map service_of services ≡ t.services → i < length k.script.services → x ≡ get_or services i x → sc ≡ seen_by_service t (service_of x) → Starts k v d w i (service_of x) sc
starts_at v d w services {k = k} {i = i} {x = x} {sc = sc} checked same well fit is all below found sees =
    let formed = subst (λ s. IsTrue (is_well_formed s)) same well in
    let store = fits_parts k.script v d w fit in
    let there = service_at services k.script.services i x (all ∙ ap (λ (s : Script). s.services) is) below found in
    let seen : sc ≡ seen_by_service k.script (service_of x) = sees ∙ ap (λ (s : Script). seen_by_service s (service_of x)) is in
    record {
      there = there;
      scope = subst (λ (u : Scope). ScopeFits v k.script u) (sym seen) (scope_fits k checked formed v d w store i (service_of x) there);
      body = subst (λ (u : Scope). Opens (reach_of k.script u) d (service_of x).body) (sym seen) (body_fits k checked formed v d w store i (service_of x) there);
      small = bounds_small k checked formed v d w store i;
    }

pub push-requires : goal.push-requires
push-requires g c =
    let at = starts_at g.row.V g.row.DEPTH g.row.CAP c.services.result.now c.is_checked.ensures c.script.ensures c.well_formed-2.ensures c.requires.fits c.script-script.ensures c.services.ensures c.requires.number c.index-services-number.is c.of_service-self.ensures in
    let some = at.body.0 in
    let n : length c.args.self.now.frames.items ≡ 0 = ap length c.requires.idle in (search rules, omega (arith, some, n))

pub wipe-requires : goal.wipe-requires
wipe-requires g c =
    let at = starts_at g.row.V g.row.DEPTH g.row.CAP c.services.result.now c.is_checked.ensures c.script.ensures c.well_formed-2.ensures c.requires.fits c.script-script.ensures c.services.ensures c.requires.number c.index-services-number.is c.of_service-self.ensures in
    let few = at.scope.more_variables in record { order = at.scope.variables; room = omega (arith, few, c.requires.room.variables) }

pub wipe-requires-2 : goal.wipe-requires-2
wipe-requires-2 g c =
    let at = starts_at g.row.V g.row.DEPTH g.row.CAP c.services.result.now c.is_checked.ensures c.script.ensures c.well_formed-2.ensures c.requires.fits c.script-script.ensures c.services.ensures c.requires.number c.index-services-number.is c.of_service-self.ensures in
    let few = at.scope.more_registers in record { order = at.scope.registers; room = omega (arith, few, c.requires.room.registers) }

pub settle-requires : goal.settle-requires
settle-requires g c =
    let h = c.args.self.now in
    let k = h.checked.now in
    let i = c.args.number in
    let v = service_of c.index-services-number.result in
    let fs = c.push.new.self in
    let ws = c.wipe.new.all in
    let qs = c.wipe-2.new.all in
    let f : Frame = record { rest = c.as_slice.result; owner = Plain } in
    let at = starts_at g.row.V g.row.DEPTH g.row.CAP c.services.result.now c.is_checked.ensures c.script.ensures c.well_formed-2.ensures c.requires.fits c.script-script.ensures c.services.ensures c.requires.number c.index-services-number.is c.of_service-self.ensures in
    let body : statements_of c.as_slice.result.now ≡ v.body = ap statements_of c.as_slice.ensures.value in
    let items : fs.items ≡ f ∷ [] = c.push.ensures.items ∙ ap (λ (gs : List Frame). gs ++ f ∷ []) c.requires.idle in
    let sc = c.of_service-self.result in
    let P : Machine g.row.V g.row.DEPTH g.row.CAP → Type 0 = λ m. HasRoom m × ((answers : List Answer) → IsFineHere m (stands None m answers)) in
    let same : ◌≡◌ {A = Machine g.row.V g.row.DEPTH g.row.CAP} (record (begun h i sc fs ws qs) { words = c.clear.new.self }) (begun h i sc fs ws qs) = ap (λ (words : List ℕ). record (begun h i sc fs ws qs) { words = words }) c.clear.ensures in
    let room = room_begun h i sc fs ws qs f items refl c.requires.idle c.requires.room at.scope (subst (λ b. Opens (reach_of k.script sc) g.row.DEPTH b) (sym body) at.body) at.small (c.wipe.ensures.count ∙ c.requires.room.variables) (c.wipe-2.ensures.count ∙ c.requires.room.registers) in
    let fine : (answers : List Answer) → IsFineHere (begun h i sc fs ws qs) (stands None (begun h i sc fs ws qs) answers) = λ answers. subst (λ b. IsFine k.plan (bounds_at k i) b) (sym (goes_begun h i sc fs ws qs c.wipe.ensures.wiped c.wipe-2.ensures.wiped f v items refl c.requires.idle body c.requires.room answers))
    (fine_at k k.bounds k.script.services i v (record { cycles = 0; words = 0; steps = 0 }) c.is_checked.ensures.services at.there most_turns (omega arith) (branch_of h.branch) answers) in
    let both = subst P (sym same) (room, fine) in (search rules, (both.0, (c.requires.quiet, both.1)))

pub returns-clause-serves : goal.returns-clause-serves
returns-clause-serves g c = λ s at.
    let h = c.args.self.now in
    let i = c.args.number in
    let sc = c.of_service-self.result in
    let fs = c.push.new.self in
    let ws = c.wipe.new.all in
    let qs = c.wipe-2.new.all in
    let f : Frame = record { rest = c.as_slice.result; owner = Plain } in
    let own = same_Some (service_of c.index-services-number.result) s (sym (starts_at g.row.V g.row.DEPTH g.row.CAP c.services.result.now c.is_checked.ensures c.script.ensures c.well_formed-2.ensures c.requires.fits c.script-script.ensures c.services.ensures c.requires.number c.index-services-number.is c.of_service-self.ensures).there ∙ at) in
    let body : statements_of c.as_slice.result.now ≡ s.body = ap statements_of c.as_slice.ensures.value ∙ ap (λ (t : Service). t.body) own in
    let items : fs.items ≡ f ∷ [] = c.push.ensures.items ∙ ap (λ (gs : List Frame). gs ++ f ∷ []) c.requires.idle in
    record {
      room = c.settle.ensures.settles.room;
      checked = c.settle.ensures.settles.checked;
      service = c.settle.ensures.settles.service;
      awaits = c.settle.ensures.settles.awaits;
      begun = c.settle.ensures.settles.begun;
      over = c.settle.ensures.settles.over;
      goes = λ answers.
          c.settle.ensures.settles.goes answers
          ∙ ap (λ (words : List ℕ). stands {V = g.row.V} {D = g.row.DEPTH} {C = g.row.CAP} None (record (begun h i sc fs ws qs) { words = words }) answers) c.clear.ensures
          ∙ goes_begun h i sc fs ws qs c.wipe.ensures.wiped c.wipe-2.ensures.wiped f s items refl c.requires.idle body c.requires.room answers;
    }
