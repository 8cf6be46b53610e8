-- The nodes of an expression give it back, and those before the last one are those of its operands.
use Rattle.std.proofs.Common.{◌≡◌, ◌≤◌, ℕ, ◌-◌, List, [], ◌∷◌, ◌++◌, length, take, drop, get_or, refl, sym, ap, subst, ◌∙◌, append_assoc, arith, length-append}
use Rattle.std.proofs.Math.Seq.{drop-append_seam, take-append_seam, get_or-append_seam}
use Rattle.std.specs.Prelude.{slice_get, unwrap_or}
use Rattle.camac_lang.specs.Tree.{Expression, number, variable, group, add, subtract, multiply, divide, remainder}
use Rattle.camac_lang.specs.Nodes.{AreWhole, expression_in, nodes_of, size, with_nodes}
use Rattle.camac_lang.specs.declared.expression.Node.{Node}
use Rattle.camac_lang.specs.declared.expression.Node.TheVariants as node

-- what the nodes of an expression and those behind them make of the expressions before
taken : (e : Expression) (ns : List Node) (es : List Expression) → with_nodes (nodes_of e ++ ns) es ≡ with_nodes ns (e ∷ es)
taken (number n) ns es = refl
taken (variable x) ns es = refl
taken (group e) ns es = ap (λ ms. with_nodes ms es) (append_assoc (nodes_of e) (node.Group ∷ []) ns) ∙ taken e (node.Group ∷ ns) es
taken (divide e d) ns es = ap (λ ms. with_nodes ms es) (append_assoc (nodes_of e) (node.Divide d ∷ []) ns) ∙ taken e (node.Divide d ∷ ns) es
taken (remainder e d) ns es = ap (λ ms. with_nodes ms es) (append_assoc (nodes_of e) (node.Remainder d ∷ []) ns) ∙ taken e (node.Remainder d ∷ ns) es
taken (add a b) ns es =
    ap (λ ms. with_nodes ms es) (append_assoc (nodes_of a ++ nodes_of b) (node.Add (size b) ∷ []) ns ∙ append_assoc (nodes_of a) (nodes_of b) (node.Add (size b) ∷ ns))
    ∙ taken a (nodes_of b ++ node.Add (size b) ∷ ns) es ∙ taken b (node.Add (size b) ∷ ns) (a ∷ es)
taken (subtract a b) ns es =
    ap (λ ms. with_nodes ms es) (append_assoc (nodes_of a ++ nodes_of b) (node.Subtract (size b) ∷ []) ns ∙ append_assoc (nodes_of a) (nodes_of b) (node.Subtract (size b) ∷ ns))
    ∙ taken a (nodes_of b ++ node.Subtract (size b) ∷ ns) es ∙ taken b (node.Subtract (size b) ∷ ns) (a ∷ es)
taken (multiply a b) ns es =
    ap (λ ms. with_nodes ms es) (append_assoc (nodes_of a ++ nodes_of b) (node.Multiply (size b) ∷ []) ns ∙ append_assoc (nodes_of a) (nodes_of b) (node.Multiply (size b) ∷ ns))
    ∙ taken a (nodes_of b ++ node.Multiply (size b) ∷ ns) es ∙ taken b (node.Multiply (size b) ∷ ns) (a ∷ es)

pub expression_in-nodes_of : (e : Expression) → expression_in (nodes_of e) ≡ e
unfolding expression_in
expression_in-nodes_of e =
    ap (λ es. unwrap_or (slice_get es 0) (number 0))
    (ap (λ ns. with_nodes ns []) (sym (append-nil (nodes_of e))) ∙ taken e [] [])
  where
    append-nil : (ns : List Node) → ns ++ [] ≡ ns
    append-nil [] = refl
    append-nil (n ∷ ns) = ap (λ ms. n ∷ ms) (append-nil ns)

pub whole : (e : Expression) → AreWhole (nodes_of e)
whole e = ap nodes_of (sym (expression_in-nodes_of e))

pub length-nodes_of : (e : Expression) → length (nodes_of e) ≡ size e
length-nodes_of (number n) = refl
length-nodes_of (variable x) = refl
length-nodes_of (group e) = omega (arith, length-append (nodes_of e) (node.Group ∷ []), length-nodes_of e)
length-nodes_of (divide e d) = omega (arith, length-append (nodes_of e) (node.Divide d ∷ []), length-nodes_of e)
length-nodes_of (remainder e d) = omega (arith, length-append (nodes_of e) (node.Remainder d ∷ []), length-nodes_of e)
length-nodes_of (add a b) =
    omega (arith, length-append (nodes_of a ++ nodes_of b) (node.Add (size b) ∷ []), length-append (nodes_of a) (nodes_of b), length-nodes_of a, length-nodes_of b)
length-nodes_of (subtract a b) =
    omega (arith, length-append (nodes_of a ++ nodes_of b) (node.Subtract (size b) ∷ []), length-append (nodes_of a) (nodes_of b), length-nodes_of a, length-nodes_of b)
length-nodes_of (multiply a b) =
    omega (arith, length-append (nodes_of a ++ nodes_of b) (node.Multiply (size b) ∷ []), length-append (nodes_of a) (nodes_of b), length-nodes_of a, length-nodes_of b)

-- the nodes of two operands, of which the right one has so many
pub record Sides (before : List Node) (count : ℕ) (operator : Expression → Expression → Expression) (e : Expression) : Type 0 where
  pub fits : count ≤ length before
  pub left : AreWhole (take (length before - count) before)
  pub right : AreWhole (drop (length before - count) before)
  pub is : e ≡ operator (expression_in (take (length before - count) before)) (expression_in (drop (length before - count) before))

-- the nodes of one operand
pub record Single (before : List Node) (operator : Expression → Expression) (e : Expression) : Type 0 where
  pub operand : AreWhole before
  pub is : e ≡ operator (expression_in before)

-- what stands before the last node, by what that one is
abbrev pub Parts : List Node → Node → Expression → Type 0
Parts before (node.Number n) e = e ≡ number n
Parts before (node.Variable x) e = e ≡ variable x
Parts before node.Group e = Single before group e
Parts before (node.Add k) e = Sides before k add e
Parts before (node.Subtract k) e = Sides before k subtract e
Parts before (node.Multiply k) e = Sides before k multiply e
Parts before (node.Divide d) e = Single before (λ a. divide a d) e
Parts before (node.Remainder d) e = Single before (λ a. remainder a d) e

single : (e : Expression) (operator : Expression → Expression) → Single (nodes_of e) operator (operator e)
single e operator = record { operand = whole e; is = ap operator (sym (expression_in-nodes_of e)) }

sides : (a b : Expression) (operator : Expression → Expression → Expression) → Sides (nodes_of a ++ nodes_of b) (size b) operator (operator a b)
sides a b operator =
    let n = length-append (nodes_of a) (nodes_of b) in
    let right = length-nodes_of b in
    let at : length (nodes_of a ++ nodes_of b) - size b ≡ length (nodes_of a) = omega arith in
    let front : take (length (nodes_of a ++ nodes_of b) - size b) (nodes_of a ++ nodes_of b) ≡ nodes_of a = ap (λ k. take k (nodes_of a ++ nodes_of b)) at ∙ take-append_seam (nodes_of a) (nodes_of b) in
    let back : drop (length (nodes_of a ++ nodes_of b) - size b) (nodes_of a ++ nodes_of b) ≡ nodes_of b = ap (λ k. drop k (nodes_of a ++ nodes_of b)) at ∙ drop-append_seam (nodes_of a) (nodes_of b) in
    record {
      fits = omega arith;
      left = subst (λ (ns : List Node). AreWhole ns) (sym front) (whole a);
      right = subst (λ (ns : List Node). AreWhole ns) (sym back) (whole b);
      is = ap (λ c. operator c b) (sym (ap expression_in front ∙ expression_in-nodes_of a))
          ∙ ap (operator (expression_in (take (length (nodes_of a ++ nodes_of b) - size b) (nodes_of a ++ nodes_of b)))) (sym (ap expression_in back ∙ expression_in-nodes_of b));
    }

-- of nodes that end with this one
module _ (front : List Node) (x : Node) (ns before : List Node) (last : Node) (e : Expression) (are : ns ≡ front ++ x ∷ []) (front_is : before ≡ take (length ns - 1) ns) (last_is : last ≡ get_or ns (length ns - 1) last) where
  places : length ns - 1 ≡ length front
  places = let n = ap length are ∙ length-append front (x ∷ []) in omega arith

  split : Parts front x e → Parts before last e
  split h =
      let b : front ≡ before = sym (front_is ∙ ap (λ k. take k ns) places ∙ ap (take (length front)) are ∙ take-append_seam front (x ∷ [])) in
      let l : x ≡ last = sym (last_is ∙ ap (λ k. get_or ns k last) places ∙ ap (λ ms. get_or ms (length front) last) are ∙ get_or-append_seam front x [] last) in
      subst (λ (m : Node). Parts before m e) l (subst (λ (ms : List Node). Parts ms x e) b h)

pub parts : (e : Expression) (ns before : List Node) (last : Node) → ns ≡ nodes_of e → before ≡ take (length ns - 1) ns → last ≡ get_or ns (length ns - 1) last → Parts before last e
parts (number n) ns before last are b l = split [] (node.Number n) ns before last (number n) are b l refl
parts (variable x) ns before last are b l = split [] (node.Variable x) ns before last (variable x) are b l refl
parts (group e) ns before last are b l = split (nodes_of e) node.Group ns before last (group e) are b l (single e group)
parts (divide e d) ns before last are b l = split (nodes_of e) (node.Divide d) ns before last (divide e d) are b l (single e (λ a. divide a d))
parts (remainder e d) ns before last are b l = split (nodes_of e) (node.Remainder d) ns before last (remainder e d) are b l (single e (λ a. remainder a d))
parts (add x y) ns before last are b l = split (nodes_of x ++ nodes_of y) (node.Add (size y)) ns before last (add x y) are b l (sides x y add)
parts (subtract x y) ns before last are b l = split (nodes_of x ++ nodes_of y) (node.Subtract (size y)) ns before last (subtract x y) are b l (sides x y subtract)
parts (multiply x y) ns before last are b l = split (nodes_of x ++ nodes_of y) (node.Multiply (size y)) ns before last (multiply x y) are b l (sides x y multiply)

pub at_last : (ns : List Node) (last : Node) → AreWhole ns → last ≡ get_or ns (length ns - 1) last → Parts (take (length ns - 1) ns) last (expression_in ns)
at_last ns last are is = parts (expression_in ns) ns (take (length ns - 1) ns) last are refl is

-- an expression has a node
pub some : (ns : List Node) → AreWhole ns → 1 ≤ length ns
some ns are =
    let n = ap length are ∙ length-nodes_of (expression_in ns) in
    let one = positive (expression_in ns) in
    omega arith
  where
    positive : (e : Expression) → 1 ≤ size e
    positive (number n) = omega arith
    positive (variable x) = omega arith
    positive (group e) = omega arith
    positive (add a b) = omega arith
    positive (subtract a b) = omega arith
    positive (multiply a b) = omega arith
    positive (divide e d) = omega arith
    positive (remainder e d) = omega arith

pub joined : (operator : Expression → Expression → Expression) (a b left right : List Node) → a ≡ left → b ≡ right → operator (expression_in a) (expression_in b) ≡ operator (expression_in left) (expression_in right)
joined operator a b left right p q = ap (λ e. operator e (expression_in b)) (ap expression_in p) ∙ ap (operator (expression_in left)) (ap expression_in q)
