use Rattle.camac_check_known.proofs.Walks.{station_small_if}
use Rattle.camac_check_known.proofs.address.widths_at_station.Goals as goal

pub returns-then-is_station-clause-in_range : goal.returns-then-is_station-clause-in_range
returns-then-is_station-clause-in_range c =
    station_small_if c.args.plan.now c.allows_commands.ensures c.args.f c.sub_addresses.result c.in_ok-crate_no.crate_no c.in_ok-station.station c.station_widths.result c.station_widths.ensures
