use Rattle.std.proofs.Common.{◌≡◌, ◌++◌, drop}
use Rattle.std.specs.Prelude.{flat_map}
use Rattle.camac_explain_case.specs.Case.{place_text}
use Rattle.camac_explain_case.proofs.case.places_in.Given as goal

abbrev pub invariant-sub_addresses : goal.invariant-sub_addresses
invariant-sub_addresses l =
    l.places.items ++ flat_map (place_text l.plan l.f l.crate_no l.station) (drop l.a-index l.sub_addresses)
    ≡ flat_map (place_text l.plan l.f l.crate_no l.station) l.sub_addresses
