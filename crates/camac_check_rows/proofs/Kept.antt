-- What a walk keeps of the rows, and the shape of the rows of a block.
use Rattle.std.proofs.Common.{◌≡◌, List, [], ◌∷◌, ◌++◌, map, Option, Some, None, refl, sym, ap, ◌∙◌, append_assoc, append-nil, ℕ, suc, zero, ◌+◌, ◌-◌, length}
use Rattle.std.specs.Prelude.{option_map, unwrap_or}
use Rattle.camac_rules.specs.Capped.{capped}
use Rattle.camac_rules.specs.Known.{Known, with_range}
use Rattle.camac_rules.specs.Costs.{Verdict}
use Rattle.camac_rules.specs.Cycles.{Context, Around}
use Rattle.camac_rules.specs.Loops.{with_fixed}
use Rattle.camac_check_rows.specs.declared.row.Row.{Row}
use Rattle.camac_check_rows.specs.declared.inside.Weight.{Weight}
use Rattle.camac_check_rows.specs.Weights.{inside_row, once, turning, first_arm, second_arm, in_64_bits}
use Rattle.camac_check_rows.specs.Rows.{with_rows, ways, for_turning, while_turning, taken, lock_inside, lock_head, block_verdict, statement_verdict, inside, statement_rows, block_rows}
use Rattle.camac_check_rows.specs.Turns.{merge, Turned, turned, turns_over, each_turned}
use Rattle.camac_range.specs.Interval.{only}
use Rattle.camac_lang.specs.Tree.{Statement, assign, set_register, single, address_scan, q_stop, q_repeat, put, crate_call, lam_call, choose, choose_else, for_, for_each, while_, locked, call, Block, done, next}
use Rattle.camac_model.specs.Fine.{Bounds}

-- What a walk keeps of the rows.

-- where those of a block are put
abbrev none_yet : Option (List Row) → Option (List Row)
none_yet kept = option_map (λ before. []) kept

pub no_more : (k : Option (List Row)) → with_rows k [] ≡ k
no_more None = refl
no_more (Some rows) = ap (λ x. Some x) (append-nil rows)

-- some and then others
pub then_rows : (k : Option (List Row)) (xs ys : List Row) → with_rows (with_rows k xs) ys ≡ with_rows k (xs ++ ys)
then_rows None xs ys = refl
then_rows (Some rows) xs ys = ap (λ x. Some x) (append_assoc rows xs ys)

-- the row of a statement and then those of its block
pub block_put : (k a m n : Option (List Row)) (xs : List Row) (own : Row) (w : Weight)
    → a ≡ none_yet k → m ≡ with_rows a xs → n ≡ with_rows k (own ∷ map (inside_row capped w) (unwrap_or m [])) → n ≡ with_rows k (own ∷ map (inside_row capped w) xs)
block_put k a m n xs own w ea em en = en ∙ ap (λ z. with_rows k (own ∷ map (inside_row capped w) (unwrap_or z []))) (em ∙ ap (λ z. with_rows z xs) ea) ∙ go k
  where
    go : (z : Option (List Row)) → with_rows z (own ∷ map (inside_row capped w) (unwrap_or (with_rows (none_yet z) xs) [])) ≡ with_rows z (own ∷ map (inside_row capped w) xs)
    go None = refl
    go (Some rows) = refl

still : (k : Option (List Row)) (xs : List Row) → none_yet (with_rows k xs) ≡ none_yet k
still None xs = refl
still (Some rows) xs = refl

-- so with the two arms of a choice
pub arms_put : (k a b m p n q : Option (List Row)) (xs ys : List Row) (own other : Row) (v w : Weight)
    → a ≡ none_yet k → b ≡ none_yet k → m ≡ with_rows a xs → p ≡ with_rows b ys
    → n ≡ with_rows k (own ∷ map (inside_row capped v) (unwrap_or m [])) → q ≡ with_rows n (other ∷ map (inside_row capped w) (unwrap_or p []))
    → q ≡ with_rows k (own ∷ map (inside_row capped v) xs ++ other ∷ map (inside_row capped w) ys)
arms_put k a b m p n q xs ys own other v w ea eb em ep en eq =
    block_put n b p q ys other w (eb ∙ sym (ap none_yet en ∙ still k (own ∷ map (inside_row capped v) (unwrap_or m [])))) ep eq
    ∙ ap (λ z. with_rows z (other ∷ map (inside_row capped w) ys)) (block_put k a m n xs own v ea em en)
    ∙ then_rows k (own ∷ map (inside_row capped v) xs) (other ∷ map (inside_row capped w) ys)

-- The rows of a block have one shape, wherever they are judged: as many rows, and each of the same spot, depth and kind.

pub record SameRow (r s : Row) : Type 0 where
  pub spot : r.spot ≡ s.spot
  pub depth : r.depth ≡ s.depth
  pub kind : r.kind ≡ s.kind

abbrev pub SameShape : List Row → List Row → Type 0
SameShape [] [] = Unit {0}
SameShape [] (s ∷ ss) = ⊥
SameShape (r ∷ rs) [] = ⊥
SameShape (r ∷ rs) (s ∷ ss) = SameRow r s × SameShape rs ss

-- there are as many
pub shape_length : (rs ss : List Row) → SameShape rs ss → length rs ≡ length ss
shape_length [] [] h = refl
shape_length [] (s ∷ ss) h = absurd h
shape_length (r ∷ rs) [] h = absurd h
shape_length (r ∷ rs) (s ∷ ss) (first, h) = ap suc (shape_length rs ss h)

-- two of one shape
pub shape_between : (rs ss ts : List Row) → SameShape rs ts → SameShape ss ts → SameShape rs ss
shape_between [] [] [] h g = tt
shape_between [] [] (t ∷ ts) h g = absurd h
shape_between [] (s ∷ ss) [] h g = absurd g
shape_between [] (s ∷ ss) (t ∷ ts) h g = absurd h
shape_between (r ∷ rs) ss [] h g = absurd h
shape_between (r ∷ rs) [] (t ∷ ts) h g = absurd g
shape_between (r ∷ rs) (s ∷ ss) (t ∷ ts) (first, h) (second, g) =
    (record { spot = first.spot ∙ sym second.spot; depth = first.depth ∙ sym second.depth; kind = first.kind ∙ sym second.kind }, shape_between rs ss ts h g)

pub shape_append : (rs ss ts us : List Row) → SameShape rs ss → SameShape ts us → SameShape (rs ++ ts) (ss ++ us)
shape_append [] [] ts us h g = g
shape_append [] (s ∷ ss) ts us h g = absurd h
shape_append (r ∷ rs) [] ts us h g = absurd h
shape_append (r ∷ rs) (s ∷ ss) ts us (first, h) g = (first, shape_append rs ss ts us h g)

pub shape_inside : (limit : Bounds → Bounds) (v w : Weight) (rs ss : List Row) → SameShape rs ss → SameShape (map (inside_row limit v) rs) (map (inside_row limit w) ss)
shape_inside limit v w [] [] h = tt
shape_inside limit v w [] (s ∷ ss) h = absurd h
shape_inside limit v w (r ∷ rs) [] h = absurd h
shape_inside limit v w (r ∷ rs) (s ∷ ss) (first, h) =
    (record { spot = first.spot; depth = ap (λ d. in_64_bits (1 + d)) first.depth; kind = first.kind }, shape_inside limit v w rs ss h)

-- ---- turns

pub merge_shape : (limit : Bounds → Bounds) (rs ss ts : List Row) → SameShape rs ts → SameShape ss ts → SameShape (merge limit rs ss) ts
merge_shape limit [] ss ts h g = g
merge_shape limit (r ∷ rs) [] ts h g = h
merge_shape limit (r ∷ rs) (s ∷ ss) [] h g = absurd h
merge_shape limit (r ∷ rs) (s ∷ ss) (t ∷ ts) (first, h) (second, g) =
    (record { spot = first.spot; depth = first.depth; kind = first.kind }, merge_shape limit rs ss ts h g)

pub turns_shape : (limit : Bounds → Bounds) (n x v : ℕ) (judge : Known → Verdict) (rows : Known → List Row) (k : Known) (so_far : Turned) (ts : List Row)
    → ((q : Known) → SameShape (rows q) ts) → SameShape so_far.rows ts → SameShape (turns_over limit n x v judge rows k so_far).rows ts
turns_shape limit zero x v judge rows k so_far ts h g = g
turns_shape limit (suc n) x v judge rows None so_far ts h g = g
turns_shape limit (suc n) x v judge rows (Some q) so_far ts h g =
    turns_shape limit n x (v + 1) judge rows (judge (Some (with_range x (only v) q))).after
    (turned (1 + so_far.turns) (merge limit so_far.rows (rows (Some (with_range x (only v) q))))) ts h
    (merge_shape limit so_far.rows (rows (Some (with_range x (only v) q))) ts g (h (Some (with_range x (only v) q))))

pub each_shape : (limit : Bounds → Bounds) (x v last : ℕ) (judge : Known → Verdict) (rows : Known → List Row) (k : Known) (ts : List Row)
    → ((q : Known) → SameShape (rows q) ts) → SameShape (each_turned limit x v last judge rows k).rows ts
each_shape limit x v last judge rows k ts h = turns_shape limit (last + 1 - v) x v judge rows k (turned 0 (rows None)) ts h (h None)

-- ---- statements and blocks

mutual
  pub statement_shape : (c : Context) (around others : Around) (s : Statement) (k l : Known) → SameShape (statement_rows c around s k) (statement_rows c others s l)
  statement_shape c around others (assign spot x e) k l = (record { spot = refl; depth = refl; kind = refl }, tt)
  statement_shape c around others (set_register spot r e1 e2 e3) k l = (record { spot = refl; depth = refl; kind = refl }, tt)
  statement_shape c around others (single spot size f r move) k l = (record { spot = refl; depth = refl; kind = refl }, tt)
  statement_shape c around others (address_scan spot f r1 r2 max x) k l = (record { spot = refl; depth = refl; kind = refl }, tt)
  statement_shape c around others (q_stop spot f r t max x) k l = (record { spot = refl; depth = refl; kind = refl }, tt)
  statement_shape c around others (q_repeat spot f r t max limit x) k l = (record { spot = refl; depth = refl; kind = refl }, tt)
  statement_shape c around others (put spot e) k l = (record { spot = refl; depth = refl; kind = refl }, tt)
  statement_shape c around others (crate_call spot which e) k l = (record { spot = refl; depth = refl; kind = refl }, tt)
  statement_shape c around others (lam_call spot which e) k l = (record { spot = refl; depth = refl; kind = refl }, tt)
  statement_shape c around others (call spot p es) k l = (record { spot = refl; depth = refl; kind = refl }, tt)
  statement_shape c around others (choose spot test a) k l = (
    record { spot = refl; depth = refl; kind = refl },
    shape_inside c.limit once once _ _ (block_shape c around others a (ways spot test k).holds (ways spot test l).holds),
  )
  statement_shape c around others (choose_else spot test a b) k l =
      let arms = ways spot test k in
      let arms' = ways spot test l in
      let first = (block_verdict c around a arms.holds).costs in
      let second = (block_verdict c around b arms.fails).costs in
      let first' = (block_verdict c others a arms'.holds).costs in
      let second' = (block_verdict c others b arms'.fails).costs in (
        record { spot = refl; depth = refl; kind = refl },
        shape_append (inside c (first_arm first second) (block_rows c around a arms.holds)) (inside c (first_arm first' second') (block_rows c others a arms'.holds)) _ _
            (shape_inside c.limit (first_arm first second) (first_arm first' second') _ _ (block_shape c around others a arms.holds arms'.holds))
            (record { spot = refl; depth = refl; kind = refl }, shape_inside c.limit (second_arm first second) (second_arm first' second') _ _ (block_shape c around others b arms.fails arms'.fails)),
      )
  statement_shape c around others (for_ spot x e1 e2 keeps body) k l =
      let turn = for_turning around spot x e1 e2 keeps body k in
      let turn' = for_turning others spot x e1 e2 keeps body l in (
        record { spot = refl; depth = refl; kind = refl },
        shape_inside c.limit (turning turn.turns) (turning turn'.turns) _ _ (block_shape c (with_fixed x around) (with_fixed x others) body turn.head turn'.head),
      )
  statement_shape c around others (for_each spot x v last body) k l =
      let none = block_rows c (with_fixed x around) body None in
      let turn = each_turned c.limit x v last (block_verdict c (with_fixed x around) body) (block_rows c (with_fixed x around) body) k in
      let turn' = each_turned c.limit x v last (block_verdict c (with_fixed x others) body) (block_rows c (with_fixed x others) body) l in (
        record { spot = refl; depth = refl; kind = refl },
        shape_inside c.limit once once turn.rows turn'.rows
            (shape_between turn.rows turn'.rows none
            (each_shape c.limit x v last (block_verdict c (with_fixed x around) body) (block_rows c (with_fixed x around) body) k none (λ q. block_shape c (with_fixed x around) (with_fixed x around) body q None))
            (each_shape c.limit x v last (block_verdict c (with_fixed x others) body) (block_rows c (with_fixed x others) body) l none (λ q. block_shape c (with_fixed x others) (with_fixed x around) body q None))),
      )
  statement_shape c around others (while_ spot test most m keeps body) k l =
      let turn = while_turning around spot test most m keeps body k in
      let turn' = while_turning others spot test most m keeps body l in (
        record { spot = refl; depth = refl; kind = refl },
        shape_inside c.limit (turning turn.turns) (turning turn'.turns) _ _ (block_shape c around others body turn.head turn'.head),
      )
  statement_shape c around others (locked spot e body) k l =
      let o = taken c around spot e k in
      let o' = taken c others spot e l in (
        record { spot = refl; depth = refl; kind = refl },
        shape_inside c.limit once once _ _ (block_shape c (lock_inside o around) (lock_inside o' others) body (lock_head o k) (lock_head o' l)),
      )

  pub block_shape : (c : Context) (around others : Around) (b : Block) (k l : Known) → SameShape (block_rows c around b k) (block_rows c others b l)
  block_shape c around others done k l = tt
  block_shape c around others (next s rest) k l =
      shape_append (statement_rows c around s k) (statement_rows c others s l) _ _ (statement_shape c around others s k l)
      (block_shape c around others rest (statement_verdict c around s k).after (statement_verdict c others s l).after)
