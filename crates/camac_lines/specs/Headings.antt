-- The headings of a script, as its text has them.
use Rattle.std.specs.Prelude.{ℕ, List, [], ◌∷◌, ◌++◌, codes, decimal}
use Rattle.camac_lang.specs.Tree.{Text, Lam, Parameter, Procedure, Service, Item, next_table, next_lam, next_variables, next_procedure, next_service, Script}
use Rattle.camac_lines.specs.Verdict.{lam_name}

abbrev pub parameter_text : Parameter → List ℕ
parameter_text p = p.name ++ (codes " in " ++ decimal p.low ++ codes ".." ++ decimal p.high)

-- each parameter, with a comma after the one before
abbrev pub parameters_after : List ℕ → List Parameter → List ℕ
parameters_after between [] = []
parameters_after between (p ∷ ps) = (between ++ parameter_text p) ++ parameters_after (codes ", ") ps

abbrev pub parameters_text : List Parameter → List ℕ
parameters_text ps = parameters_after [] ps

-- up to its parameters
abbrev pub procedure_start : Text → List ℕ
procedure_start name = codes "proc " ++ name ++ codes "("

abbrev pub procedure_end : (cycles words steps : ℕ) → List ℕ
procedure_end cycles words steps =
    codes ") within " ++ decimal cycles ++ codes " cycles event " ++ decimal words ++ codes " words steps " ++ decimal steps ++ codes "\n"

abbrev pub procedure_heading : Procedure → List ℕ
procedure_heading p = procedure_start p.name ++ parameters_text p.parameters ++ procedure_end p.cycles p.words p.steps

abbrev pub service_heading : Text → Service → List ℕ
service_heading name v =
    codes "service " ++ name ++ codes " within " ++ decimal v.cycles ++ codes " cycles event " ++ decimal v.words ++ codes " words\n"

-- a line for each procedure and each service, in the order of the text
abbrev pub headings_of : List Lam → List Item → List Procedure → List Service → List ℕ
headings_of lams [] ps vs = []
headings_of lams (next_table ∷ rest) ps vs = headings_of lams rest ps vs
headings_of lams (next_lam ∷ rest) ps vs = headings_of lams rest ps vs
headings_of lams (next_variables line n ∷ rest) ps vs = headings_of lams rest ps vs
headings_of lams (next_procedure ∷ rest) [] vs = headings_of lams rest [] vs
headings_of lams (next_procedure ∷ rest) (p ∷ ps) vs = procedure_heading p ++ headings_of lams rest ps vs
headings_of lams (next_service ∷ rest) ps [] = headings_of lams rest ps []
headings_of lams (next_service ∷ rest) ps (v ∷ vs) = service_heading (lam_name lams v.lam) v ++ headings_of lams rest ps vs

abbrev pub headings_text : Script → List ℕ
headings_text script = headings_of script.lams script.order script.procedures script.services
