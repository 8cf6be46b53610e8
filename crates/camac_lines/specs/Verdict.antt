-- The lines of a verdict.
use Rattle.std.specs.Prelude.{ℕ, List, [], ◌∷◌, ◌++◌, codes, decimal, option_map, unwrap_or, slice_get}
use Rattle.camac_lang.specs.Tree.{Text, Lam, Service, Script}
use Rattle.camac_branch.specs.Plan.{Layout}
use Rattle.camac_names.specs.Link.{service_bit}
use Rattle.camac_model.specs.Fine.{Bounds}

-- what the checker found of a service, each beside the number of its heading
abbrev pub service_line : Text → ℕ → Service → Bounds → List ℕ
service_line name bit service bounds =
    codes "service " ++ name ++ codes " gl " ++ decimal bit
    ++ codes " cycles " ++ decimal bounds.cycles ++ codes " of " ++ decimal service.cycles
    ++ codes " words " ++ decimal bounds.words ++ codes " of " ++ decimal service.words
    ++ codes " steps " ++ decimal bounds.steps ++ codes "\n"

abbrev pub lam_name : List Lam → ℕ → Text
lam_name lams lam = unwrap_or (option_map (λ l. l.name) (slice_get lams lam)) []

-- a service has the name of its LAM and the GL bit of that LAM's station
abbrev pub service_text : Layout → List Lam → Service → Bounds → List ℕ
service_text plan lams service = service_line (lam_name lams service.lam) (unwrap_or (service_bit plan lams service) 0) service

-- a line for each service, in text order
abbrev pub service_texts : Layout → List Lam → List Service → List Bounds → List ℕ
service_texts plan lams (v ∷ vs) (k ∷ ks) = service_text plan lams v k ++ service_texts plan lams vs ks
service_texts plan lams _ _ = []

abbrev pub verdict_text : Layout → Script → List Bounds → List ℕ
verdict_text plan script bounds = codes "accepted\n" ++ service_texts plan script.lams script.services bounds
