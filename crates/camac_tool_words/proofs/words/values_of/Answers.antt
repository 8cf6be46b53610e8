use Rattle.std.proofs.Common.{◌∙◌, ap, sym, map}
use Rattle.std.specs.Prelude.{List, ℕ, [], unwrap_or, option_map}
use Rattle.std.proofs.lemmas.Result.{IfOk-weaker}
use Rattle.clap.specs.Words.{found_of}
use Rattle.clap.proofs.WalkLemmas.{raw_values-rows}
use Rattle.camac_tool_words.proofs.words.values_of.Goals as goal

pub returns-in-Some : goal.returns-in-Some
returns-in-Some c =
    IfOk-weaker c.copied.result _ _
    (λ v same. ap (map (λ s. s.now)) same ∙ ap (λ o. unwrap_or o []) (ap (option_map (λ s. map (λ w. w.now) s.now)) (sym c.in-Some.is) ∙ c.get_strs.ensures ∙ raw_values-rows (found_of c.args.found.now) c.args.id.now))
    c.copied.ensures

pub returns-in-None : goal.returns-in-None
returns-in-None c =
    ap (map (λ s. s.now)) c.new.ensures.items
    ∙ ap (λ o. unwrap_or o []) (ap (option_map (λ s. map (λ w. w.now) s.now)) (sym c.in-None.is) ∙ c.get_strs.ensures ∙ raw_values-rows (found_of c.args.found.now) c.args.id.now)
