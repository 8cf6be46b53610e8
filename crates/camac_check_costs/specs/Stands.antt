-- A place that was found, as the rules see it.
use Rattle.std.specs.Prelude.{Option, option_map}
use Rattle.camac_lang.specs.View.{statement_of}
use Rattle.camac_check_costs.specs.Places.{Place, place}
use Rattle.camac_check_costs.specs.declared.place.Standing.{Standing}

abbrev pub place_at : Standing → Place
place_at f = place f.around (statement_of f.statement.now) f.known

abbrev pub place_found : Option Standing → Option Place
place_found found = option_map (λ f. place_at f) found
