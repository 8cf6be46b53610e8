use Rattle.std.proofs.Common.{◌≡◌, ℕ, ◌+◌, List, length, take, drop, ap, ◌∙◌, arith}
use Rattle.std.specs.Prelude.{take_while}
use Rattle.std.proofs.lemmas.List.{drop-drop}
use Rattle.camac_tokens.specs.Scanning.{is_name_byte}
use Rattle.camac_tokens.proofs.Scans.{run_ends, run_goes, run_on, front_run, next_run}
use Rattle.camac_tokens.proofs.scanner.name_len.Goals as goal

pub returns-then-run-lt4 : goal.returns-then-run-lt4
returns-then-run-lt4 c =
    let rest = c.loop-rest.rest.now in
    let front : c.run_of_four-run.result ≡ length (take_while is_name_byte (take 4 rest)) = c.run_of_four-run.ensures ∙ front_run is_name_byte rest c.in-len8-up.len_at_least in
    let ends : length (take_while is_name_byte rest) ≡ length (take_while is_name_byte (take 4 rest)) = run_ends 4 is_name_byte rest (omega (arith, front, c.if-run-lt4.true)) in
    omega (arith, front, ends, c.loop-rest.invariant.0)

pub returns-then-run-lt4-2 : goal.returns-then-run-lt4-2
returns-then-run-lt4-2 c =
    let rest = c.loop-rest.rest.now in
    let front : c.run_of_four-run.result ≡ length (take_while is_name_byte (take 4 rest)) = c.run_of_four-run.ensures ∙ front_run is_name_byte rest c.in-len8-up.len_at_least in
    let goes : length (take_while is_name_byte rest) ≡ 4 + length (take_while is_name_byte (drop 4 rest)) = run_goes 4 is_name_byte rest (omega (arith, front, c.if-run-lt4.false)) in
    let back : c.run_of_four-run-in-len8-up.result ≡ length (take_while is_name_byte (take 4 (drop 4 rest))) = c.run_of_four-run-in-len8-up.ensures ∙ next_run is_name_byte rest c.in-len8-up.len_at_least in
    let ends : length (take_while is_name_byte (drop 4 rest)) ≡ length (take_while is_name_byte (take 4 (drop 4 rest))) = run_ends 4 is_name_byte (drop 4 rest) (omega (arith, back, c.if-run-lt4-2.true)) in
    omega (arith, goes, back, ends, c.loop-rest.invariant.0)

pub loop-rest-preserved : goal.loop-rest-preserved
loop-rest-preserved c =
    let rest = c.loop-rest.rest.now in
    let front : c.run_of_four-run.result ≡ length (take_while is_name_byte (take 4 rest)) = c.run_of_four-run.ensures ∙ front_run is_name_byte rest c.in-len8-up.len_at_least in
    let goes : length (take_while is_name_byte rest) ≡ 4 + length (take_while is_name_byte (drop 4 rest)) = run_goes 4 is_name_byte rest (omega (arith, front, c.if-run-lt4.false)) in
    let back : c.run_of_four-run-in-len8-up.result ≡ length (take_while is_name_byte (take 4 (drop 4 rest))) = c.run_of_four-run-in-len8-up.ensures ∙ next_run is_name_byte rest c.in-len8-up.len_at_least in
    let on : length (take_while is_name_byte (drop 4 rest)) ≡ 4 + length (take_while is_name_byte (drop 4 (drop 4 rest))) = run_goes 4 is_name_byte (drop 4 rest) (omega (arith, back, c.if-run-lt4-2.false)) in
    let behind : length (take_while is_name_byte (drop 4 (drop 4 rest))) ≡ length (take_while is_name_byte (drop 8 rest)) = ap (λ (xs : List ℕ). length (take_while is_name_byte xs)) (drop-drop 4 4 rest) in
    let eight : length (take_while is_name_byte rest) ≡ 8 + length (take_while is_name_byte (drop 8 rest)) = omega (arith, goes, on, behind) in
    run_on is_name_byte 8 c.loop-rest.count c.args.text.now rest c.in-len8-up.len_at_least eight c.loop-rest.invariant

pub returns : goal.returns
returns c = omega (arith, c.loop-rest.invariant.0, c.short_name_len.ensures)
