use Rattle.std.proofs.Common.{◌≡◌, ◌∙◌, rules}
use Rattle.std.proofs.Math.Bool.{or-false}
use Rattle.camac_lines.specs.Plan.{station_text}
use Rattle.camac_lines.proofs.Lines.{under_way_next, under_way_stops, Writes-at_err}
use Rattle.camac_lines.proofs.Texts.{texts-next, texts-none, under_way_ends}
use Rattle.camac_lines.proofs.plan.write_stations.Goals as goal

pub returns-in_err-write_station-clause-text : goal.returns-in_err-write_station-clause-text
returns-in_err-write_station-clause-text g c =
    let same : c.unwrap.result ≡ c.stations.n = search rules in
    let parts = texts-next (station_text c.args.plan.now c.args.c) c.stations.n 24 c.unwrap.result c.stations-test.true same in
    Writes-at_err c.from_residual.result _ _ _ c.from_residual.ensures.0 (under_way_stops _ _ _ _ _ _ _ c.stations.invariant.0 parts c.in_err-write_station.ensures.text)

pub stations-preserved : goal.stations-preserved
stations-preserved g c =
    let same : c.unwrap.result ≡ c.stations.n = search rules in
    let parts = texts-next (station_text c.args.plan.now c.args.c) c.stations.n 24 c.unwrap.result c.stations-test.true same in
    (under_way_next _ _ _ _ _ _ _ c.stations.invariant.0 parts c.in_ok-write_station.ensures.text, c.in_ok-write_station.ensures.failed ∙ or-false _ ∙ c.stations.invariant.1)

pub returns-clause-text : goal.returns-clause-text
returns-clause-text g c = under_way_ends _ _ _ _ c.stations.invariant.0 (texts-none (station_text c.args.plan.now c.args.c) c.stations.n 24 c.stations-test.false)
