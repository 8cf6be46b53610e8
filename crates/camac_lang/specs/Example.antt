-- The tree of the standard example.
--
--     cdlam adc 1 1 5 12
--     var v
--     service adc within 3 cycles event 1 words {
--       cdreg r 1 1 5 0
--       cfsa 0 r -> v
--       put v
--     }
use Rattle.std.specs.Prelude.{[], ◌∷◌, codes}
use Rattle.camac_lang.specs.Tree.{number, variable, into, Statement, set_register, single, put, Lam, Service, next_lam, next_variables, next_service, Script, on_line}
use Rattle.camac_lang.specs.View.{block_of}
use Rattle.camac_lang.specs.declared.word.WordSize.TheVariants.{Full}

abbrev pub adc : Lam
adc = record { spot = on_line 1; name = codes "adc"; crate_no = 1; station = 5; sub_address = 12 }

abbrev pub first_statement : Statement
first_statement = set_register (on_line 4) 0 (number 1) (number 5) (number 0)

abbrev pub second_statement : Statement
second_statement = single (on_line 5) Full 0 0 (into 0)

abbrev pub third_statement : Statement
third_statement = put (on_line 6) (variable 0)

abbrev pub adc_service : Service
adc_service = record {
  spot = on_line 3;
  lam = 0;
  cycles = 3;
  words = 1;
  registers = codes "r" ∷ [];
  body = block_of (first_statement ∷ second_statement ∷ third_statement ∷ []);
}

abbrev pub straight_line : Script
straight_line = record {
  order = next_lam ∷ next_variables (on_line 2) 1 ∷ next_service ∷ [];
  tables = [];
  lams = adc ∷ [];
  variables = codes "v" ∷ [];
  procedures = [];
  services = adc_service ∷ [];
}
