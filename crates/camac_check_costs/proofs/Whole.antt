-- A body's bound and rows, and the lines of costs.
use Rattle.std.proofs.Common.{◌≡◌, List, [], Option, Some, Result, Ok, Err, sym, ap, ap₂, ◌∙◌, ℕ, ◌≤◌, zero, suc, ◌∷◌, length, drop, refl, arith}
use Rattle.std.specs.Prelude.{unwrap_or}
use Rattle.std.specs.List.{flat_map}
use Rattle.camac_lang.specs.Tree.{Block}
use Rattle.camac_model.specs.Fine.{Bounds}
use Rattle.camac_rules.specs.Fault.{Fault}
use Rattle.camac_rules.specs.Refusal.{if_reached}
use Rattle.camac_rules.specs.Known.{Known}
use Rattle.camac_rules.specs.Costs.{Verdict, no_costs, unreached}
use Rattle.camac_rules.specs.Cycles.{Context, Around}
use Rattle.camac_rules.specs.Statements.{accept_block}
use Rattle.camac_check_costs.specs.declared.bodies.Owner.{Owner}
use Rattle.camac_check_costs.specs.Body.{BodyRows}
use Rattle.camac_check_costs.specs.Bodies.{body_costs, rows_if}
use Rattle.camac_check_rows.specs.declared.row.Row.{Row}
use Rattle.camac_check_rows.specs.Rows.{block_rows, found, with_rows}

-- A body's bound and rows, from what its walk found or refused.

abbrev pub body_of : Owner → Bounds → List Row → BodyRows
body_of whose costs rows = record { owner = whose; costs = costs; rows = rows }

abbrev pub body_told : Owner → Result Verdict Fault → List Row → BodyRows
body_told whose q rows = body_of whose (found unreached q).costs (rows_if q rows)

pub body_found : (c : Context) (whose : Owner) (around : Around) (b : Block) (k : Known) (v : Verdict) (new kept : Option (List Row)) (rows : List Row)
    → if_reached unreached k (accept_block c around b) ≡ Ok v → new ≡ Some [] → kept ≡ with_rows new (block_rows c around b k) → rows ≡ unwrap_or kept []
    → body_of whose v.costs rows ≡ body_costs c whose around b k
body_found c whose around b k v new kept rows e en ek er =
    ap₂ (body_told whose) (sym e) (er ∙ ap (λ z. unwrap_or z []) (ek ∙ ap (λ z. with_rows z (block_rows c around b k)) en))

pub body_refused : (c : Context) (whose : Owner) (around : Around) (b : Block) (k : Known) (f : Fault)
    → if_reached unreached k (accept_block c around b) ≡ Err f → body_of whose no_costs [] ≡ body_costs c whose around b k
body_refused c whose around b k f e = ap (λ q. body_told whose q (block_rows c around b k)) (sym e)

-- The lines of costs.

pub none_left : {X : Type 0} (f : X → List ℕ) (xs : List X) (i : ℕ) → length xs ≤ i → flat_map f (drop i xs) ≡ []
none_left f [] zero le = refl
none_left f [] (suc i) le = refl
none_left f (x ∷ xs) zero le = absurd (omega (arith, le))
none_left f (x ∷ xs) (suc i) le =
    let less : length xs ≤ i = omega (arith, le) in
    none_left f xs i less
