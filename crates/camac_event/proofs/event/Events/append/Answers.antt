use Rattle.std.proofs.Common.{◌≡◌, ◌<◌, ◌≤◌, ◌^◌, ◌-◌, [], ◌∷◌, length, ap, length-append, arith, rules}
use Rattle.std.proofs.lemmas.List.{map_push}
use Rattle.std.specs.List.{AllByRecursion}
use Rattle.camac_event.specs.Spelling.{Listing, Entry, entries_of, HasUsage, UsageFits, IsEvent}
use Rattle.camac_event.proofs.Loops.{AllByRecursion-push}
use Rattle.camac_event.proofs.event.Events.append.Goals as goal

pub invariant_of-self-2 : goal.invariant_of-self-2
invariant_of-self-2 c =
    let old = entries_of c.self.inside.items.items in
    let same : old ≡ c.args.self.now.events = ap (λ (l : Listing). l.events) c.self.view_is in
    let room : length old < 2 ^ 32 - 1 = rw same c.requires.room in
    let version : c.self.inside.version ≡ c.args.self.now.version = ap (λ (l : Listing). l.version) c.self.view_is in
    let usage : HasUsage c.self.inside.version c.args.usage = rw version c.requires.usage in
    let fits_usage : UsageFits c.args.usage = search rules in
    let words = c.in_ok-words.words.items in
    let copied : words ≡ c.args.words.now = c.in_ok-words.ensures.items in
    let entry : Entry = record { gl = c.args.gl; usage = c.args.usage; words = words } in
    let count : length words ≤ 4096 = rw copied c.requires.words in
    let fits : AllByRecursion (λ w. w < 2 ^ 24) words = rw copied c.in_ok-words.ensures.fits in
    let event : IsEvent c.self.inside.version entry = record { gl_low = omega arith; gl_high = omega arith; usage = usage; usage_fits = fits_usage; count = count; words = fits } in
    rw (c.in_ok-push.ensures.items, map_push)
    (omega (arith, length-append old (entry ∷ [])), AllByRecursion-push (IsEvent c.self.inside.version) old entry c.self.invariant.1 event)
