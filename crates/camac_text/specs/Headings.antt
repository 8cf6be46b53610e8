-- A procedure's heading, as the program holds it.
use Rattle.std.specs.Prelude.{map}
use Rattle.camac_lang.specs.View.{parameter_of}
use Rattle.camac_text.specs.declared.procedures.Heading as rust_heading
use Rattle.camac_text.specs.Procedures.{Heading}

abbrev pub heading_of : rust_heading.Heading → Heading
heading_of h = record { parameters = map parameter_of h.parameters.items; cycles = h.cycles; words = h.words; steps = h.steps }
