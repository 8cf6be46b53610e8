use Rattle.std.proofs.Common.{◌≡◌, ◌+◌, ◌≤◌, Some, length, true, refl, sym, ap, ◌∙◌, slice_get, arith}
use Rattle.std.specs.Prelude.{option_map, option_and_then}
use Rattle.std.proofs.lemmas.Option.{slice_get_read}
use Rattle.camac_response_times.specs.Found.{answer, answer_with}
use Rattle.camac_response_times.specs.Rounds.{most_rounds}
use Rattle.camac_response_times.proofs.Rates.{no_stretch, no_stretch_found, by_stretch, fits, laid_out}
use Rattle.camac_response_times.proofs.Words.{overloaded}
use Rattle.camac_response_times.proofs.search.response_of.Goals as goal

at_number : (c : goal.In_ok-start) → slice_get c.args.sources.now c.args.number ≡ Some c.in-Some.source.now
at_number c =
    let there = c.in-Some.ensures.lookup in
    slice_get_read c.args.sources.now (length c.args.sources.now) c.args.number c.in-Some.source.now refl there.3.0 (there.3.1 c.in-Some.source.now)

small : (c : goal.In_ok-start) → c.in_ok-start.start + c.in-Some.source.now.cycles ≤ 4294967295
unfolding most_rounds
small c =
    fits c.args.sources.now c.in-Some.source.now c.from-blocked.result (c.from-blocked.ensures ∙ c.most_before.ensures) c.in_ok-longest.longest
    (sym (c.in_ok-longest.ensures ∙ laid_out c.from-blocked.result c.in-Some.source.now.bit true c.args.sources.now c.gather.result c.gather.ensures.same most_rounds)) c.args.number c.in_ok-start.start (at_number c) (sym c.in_ok-start.ensures)

pub returns-in_err-longest : goal.returns-in_err-longest
unfolding most_rounds
returns-in_err-longest c =
    let there = c.in-Some.ensures.lookup in
    c.from_residual.ensures
    ∙ sym (ap (option_and_then (answer c.args.sources.now)) (slice_get_read c.args.sources.now (length c.args.sources.now) c.args.number c.in-Some.source.now refl there.3.0 (there.3.1 c.in-Some.source.now))
    ∙ no_stretch_found c.args.sources.now c.in-Some.source.now c.from-blocked.result (c.from-blocked.ensures ∙ c.most_before.ensures) (sym (c.in_err-longest.ensures ∙ laid_out c.from-blocked.result c.in-Some.source.now.bit true c.args.sources.now c.gather.result c.gather.ensures.same most_rounds)))

pub returns-in_err-start : goal.returns-in_err-start
unfolding most_rounds
returns-in_err-start c =
    let there = c.in-Some.ensures.lookup in
    c.from_residual-in_err-start.ensures
    ∙ sym (ap (option_and_then (answer c.args.sources.now)) (slice_get_read c.args.sources.now (length c.args.sources.now) c.args.number c.in-Some.source.now refl there.3.0 (there.3.1 c.in-Some.source.now))
    ∙ by_stretch c.args.sources.now c.in-Some.source.now c.from-blocked.result (c.from-blocked.ensures ∙ c.most_before.ensures) c.in_ok-longest.longest (sym (c.in_ok-longest.ensures ∙ laid_out c.from-blocked.result c.in-Some.source.now.bit true c.args.sources.now c.gather.result c.gather.ensures.same most_rounds))
    ∙ ap (option_map (answer_with c.in-Some.source.now c.in_ok-longest.longest.cycles)) (sym c.in_err-start.ensures))

pub overflow_cast-result : goal.overflow_cast-result
overflow_cast-result c = let s = small c in omega (arith, s)

pub overflow_cast-result-2 : goal.overflow_cast-result-2
overflow_cast-result-2 c = let s = small c in omega (arith, s)

pub overflow_add-result : goal.overflow_add-result
overflow_add-result c = let s = small c in omega (arith, s)

pub returns : goal.returns
unfolding most_rounds
returns c =
    sym (ap (option_and_then (answer c.args.sources.now)) (at_number c)
    ∙ by_stretch c.args.sources.now c.in-Some.source.now c.from-blocked.result (c.from-blocked.ensures ∙ c.most_before.ensures) c.in_ok-longest.longest (sym (c.in_ok-longest.ensures ∙ laid_out c.from-blocked.result c.in-Some.source.now.bit true c.args.sources.now c.gather.result c.gather.ensures.same most_rounds))
    ∙ ap (option_map (answer_with c.in-Some.source.now c.in_ok-longest.longest.cycles)) (sym c.in_ok-start.ensures))

pub returns-then-is_overloaded : goal.returns-then-is_overloaded
unfolding most_rounds
returns-then-is_overloaded c =
    let there = c.in-Some.ensures.lookup in
    sym (ap (option_and_then (answer c.args.sources.now)) (slice_get_read c.args.sources.now (length c.args.sources.now) c.args.number c.in-Some.source.now refl there.3.0 (there.3.1 c.in-Some.source.now))
    ∙ no_stretch c.args.sources.now c.in-Some.source.now (overloaded c.args.sources.now c.in-Some.source.now.bit most_rounds (c.if-is_overloaded.ensures.all refl)))
