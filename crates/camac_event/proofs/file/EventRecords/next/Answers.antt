use Rattle.std.proofs.Common.{◌≡◌, ◌*◌, ◌<◌, length, take, ap, sym, subst, ◌∙◌, refl, arith}
use Rattle.std.proofs.lemmas.Grind.{common_steps}
use Rattle.camac_event.specs.declared.event.Version.{Version}
use Rattle.camac_event.specs.Spelling.{IsEvent}
use Rattle.camac_event.specs.Records.{Unread, words_in}
use Rattle.camac_event.proofs.InPlace.{length-words_in, none_are, first_reads, first_is, first_split}
use Rattle.camac_event.proofs.file.EventRecords.next.Goals as goal

pub returns-then-is_empty-clause-none : goal.returns-then-is_empty-clause-none
returns-then-is_empty-clause-none c =
    let none : length c.self.inside.rest.now ≡ 0 = grind (arith, common_steps) in
    (ap (λ (u : Unread). u.events) (sym c.self.view_is) ∙ none_are _ _ _ _ none c.self.invariant, refl)

pub unreachable-requires : goal.unreachable-requires
unreachable-requires c =
    let some : 0 < length c.self.inside.rest.now = grind (arith, common_steps) in
    first_reads _ _ _ c.in_default.field-0 _ some c.self.invariant c.in_default.ensures

pub overflow_mul-head : goal.overflow_mul-head
overflow_mul-head c =
    let some : 0 < length c.self.inside.rest.now = grind (arith, common_steps) in
    let f = first_is _ _ _ _ _ _ _ _ some c.self.invariant c.in-Ok.ensures in
    omega (arith, f.right.count, length-words_in c.in-Ok.head.words (take (4 * c.in-Ok.head.words) c.head_of.new.bytes.now))

pub split_at-requires : goal.split_at-requires
split_at-requires c =
    let some : 0 < length c.self.inside.rest.now = grind (arith, common_steps) in
    (first_is _ _ _ _ _ _ _ _ some c.self.invariant c.in-Ok.ensures).long

pub invariant_of-result : goal.invariant_of-result
invariant_of-result c =
    let some : 0 < length c.self.inside.rest.now = grind (arith, common_steps) in
    (first_split _ _ _ _ _ _ _ _ _ (first_is _ _ _ _ _ _ _ _ some c.self.invariant c.in-Ok.ensures) c.split_at.ensures.front c.split_at.ensures.back).words

pub invariant_of-self : goal.invariant_of-self
invariant_of-self c =
    let some : 0 < length c.self.inside.rest.now = grind (arith, common_steps) in
    (first_split _ _ _ _ _ _ _ _ _ (first_is _ _ _ _ _ _ _ _ some c.self.invariant c.in-Ok.ensures) c.split_at.ensures.front c.split_at.ensures.back).rest

pub returns-clause-some : goal.returns-clause-some
returns-clause-some c =
    let some : 0 < length c.self.inside.rest.now = grind (arith, common_steps) in
    ap (λ (u : Unread). u.events) (sym c.self.view_is)
    ∙ (first_split _ _ _ _ _ _ _ _ _ (first_is _ _ _ _ _ _ _ _ some c.self.invariant c.in-Ok.ensures) c.split_at.ensures.front c.split_at.ensures.back).first

pub returns-clause-fits : goal.returns-clause-fits
returns-clause-fits c =
    let some : 0 < length c.self.inside.rest.now = grind (arith, common_steps) in
    let f = first_split _ _ _ _ _ _ _ _ _ (first_is _ _ _ _ _ _ _ _ some c.self.invariant c.in-Ok.ensures) c.split_at.ensures.front c.split_at.ensures.back in
    subst (λ (v : Version). IsEvent v (record { gl = c.in-Ok.head.gl; usage = c.in-Ok.head.usage; words = words_in c.in-Ok.head.words c.split_at.result.0.now })) (ap (λ (u : Unread). u.version) c.self.view_is) f.right
