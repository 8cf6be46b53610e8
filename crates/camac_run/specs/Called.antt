-- The service that is called, by its number and bit.
use Rattle.std.specs.Prelude.{List, Option, option_map, slice_get}
use Rattle.camac_lang.specs.Tree.{Service}
use Rattle.camac_model.specs.Run.{Chosen}
use Rattle.camac_run.specs.declared.service.Called.{Called}

-- with the service of that number
abbrev pub chosen_of : List Service → Called → Option Chosen
chosen_of vs k = option_map (λ v. record { number = k.number; bit = k.gl; service = v }) (slice_get vs k.number)
