-- Texts one after another.
use Rattle.std.proofs.Common.{◌≡◌, ℕ, ◌+◌, ◌-◌, ◌<◌, ◌≤◌, List, [], ◌∷◌, ◌++◌, length, get_or, take, drop, refl, Option, ap, sym, ◌∙◌, zero, suc, append_assoc, append-nil, take-add, add-one, subst, arith}
use Rattle.std.specs.Prelude.{Result, Ok, Err}
use Rattle.std.specs.Result.{IsErr}
use Rattle.std.specs.List.{between, flat_map, range_with_len}
use Rattle.std.proofs.lemmas.List.{take-append-drop, drop-drop}
use Rattle.std.proofs.lemmas.List.Concat.{flat_map-append}
use Rattle.std.proofs.lemmas.List.Edits.{between_more}
use Rattle.std.specs.Io.KnownBytes.{Appends}
use Rattle.std.proofs.KnownBytes.{Appends-trans}
use Rattle.camac_word.proofs.Prefixes.{IsUnderWay}
use Rattle.camac_word.specs.Writing.{AppendsPrefix, Writes}
use Rattle.camac_lines.specs.Texts.{Puts, texts}
use Rattle.camac_lines.proofs.Lines.{under_way_next, under_way_stops}

-- a prefix of the second text
pub prefix_after : (x y : List ℕ) (a b c : Option (List ℕ)) → Appends a b x → AppendsPrefix b c y → AppendsPrefix a c (x ++ y)
prefix_after x y a b c p (prefix, left, split, some, q) = (
  x ++ prefix,
  left,
  ap (λ (l : List ℕ). x ++ l) split ∙ sym (append_assoc x prefix left),
  some,
  Appends-trans a b c x prefix p q,
)

-- the second text, as far as it went
pub Writes-after : {T E : Type 0} (r : Result T E) (x y : List ℕ) (a b c : Option (List ℕ)) → Appends a b x → Writes b c r y → Writes a c r (x ++ y)
Writes-after (Ok v) x y a b c p q = Appends-trans a b c x y p q
Writes-after (Err e) x y a b c p q = prefix_after x y a b c p q

-- the first text, and then the others
pub texts-next : (f : ℕ → List ℕ) (i end j : ℕ) → i < end → j ≡ i → texts f i (end - i) ≡ f j ++ texts f (i + 1) (end - (i + 1))
unfolding texts
texts-next f i end j lt same =
    let count : end - i ≡ suc (end - (i + 1)) = omega (arith, lt) in
    ap (λ (n : ℕ). flat_map f (range_with_len i n)) count ∙ ap (λ (k : ℕ). f k ++ flat_map f (range_with_len (i + 1) (end - (i + 1)))) (sym same)

-- no texts
pub texts-none : (f : ℕ → List ℕ) (i end : ℕ) → end ≤ i → texts f i (end - i) ≡ []
unfolding texts
texts-none f i end le =
    let count : end - i ≡ 0 = omega (arith, le) in
    ap (λ (n : ℕ). flat_map f (range_with_len i n)) count

-- all was written
pub under_way_ends : (text rest : List ℕ) (a b : Option (List ℕ)) → IsUnderWay text rest a b → rest ≡ [] → Appends a b text
under_way_ends text rest a b so_far none =
    let whole : text ≡ so_far.prefix = so_far.parts ∙ ap (λ (l : List ℕ). so_far.prefix ++ l) none ∙ append-nil so_far.prefix in
    subst (λ (t : List ℕ). Appends a b t) (sym whole) so_far.written

-- the last of a text was written
pub under_way_last : {T E : Type 0} (r : Result T E) (text rest last : List ℕ) (a b c : Option (List ℕ)) → IsUnderWay text rest a b → rest ≡ last → Writes b c r last → Writes a c r text
under_way_last r text rest last a b c so_far same p =
    let whole : text ≡ so_far.prefix ++ last = so_far.parts ∙ ap (λ (l : List ℕ). so_far.prefix ++ l) same in
    subst (λ (t : List ℕ). Writes a c r t) (sym whole) (Writes-after r so_far.prefix last a b c so_far.written p)

-- the texts of a list's elements from one of them on
flat_map-drop : {X : Type 0} (f : X → List ℕ) (xs : List X) (i : ℕ) (x : X) → i < length xs → x ≡ get_or xs i x → flat_map f (drop i xs) ≡ f x ++ flat_map f (drop (suc i) xs)
flat_map-drop f [] i x lt is = absurd (omega (arith, lt))
flat_map-drop f (y ∷ ys) zero x lt is = ap (λ e. f e ++ flat_map f ys) (sym is)
flat_map-drop f (y ∷ ys) (suc i) x lt is =
    let less : i < length ys = omega (arith, lt) in
    flat_map-drop f ys i x less is

-- the same of a line that is the element's text
pub flat_map-next : {X : Type 0} (f : X → List ℕ) (xs : List X) (i : ℕ) (x : X) (line : List ℕ) → i < length xs → x ≡ get_or xs i x → line ≡ f x
    → flat_map f (drop i xs) ≡ line ++ flat_map f (drop (i + 1) xs)
flat_map-next f xs i x line lt is text =
    flat_map-drop f xs i x lt is ∙ ap (λ (l : List ℕ). l ++ flat_map f (drop (suc i) xs)) (sym text) ∙ ap (λ (j : ℕ). line ++ flat_map f (drop j xs)) (sym (add-one i))

-- the same under other names
pub under_way_as : (text rest renamed : List ℕ) (a b c : Option (List ℕ)) → IsUnderWay text rest a b → rest ≡ renamed → b ≡ c → IsUnderWay text renamed a c
under_way_as text rest renamed a b c so_far same new =
    subst (λ (o : Option (List ℕ)). IsUnderWay text renamed a o) new (subst (λ (l : List ℕ). IsUnderWay text l a b) same so_far)

-- an element's text was laid after others
pub laid_next : (f : ℕ → List ℕ) (xs : List ℕ) (i x : ℕ) (old line new : List ℕ) → i < length xs → x ≡ get_or xs i x → line ≡ f x → new ≡ old ++ line
    → old ++ flat_map f (drop i xs) ≡ new ++ flat_map f (drop (i + 1) xs)
laid_next f xs i x old line new lt is text laid =
    ap (λ (l : List ℕ). old ++ l) (flat_map-next f xs i x line lt is text) ∙ sym (append_assoc old line (flat_map f (drop (i + 1) xs)))
    ∙ ap (λ (l : List ℕ). l ++ flat_map f (drop (i + 1) xs)) (sym laid)

flat_map-none : (f : ℕ → List ℕ) (xs : List ℕ) (i : ℕ) → length xs ≤ i → flat_map f (drop i xs) ≡ []
flat_map-none f [] zero le = refl
flat_map-none f [] (suc i) le = refl
flat_map-none f (x ∷ xs) zero le = absurd (omega (arith, le))
flat_map-none f (x ∷ xs) (suc i) le =
    let less : length xs ≤ i = omega (arith, le) in
    flat_map-none f xs i less

-- no element is left
pub laid_all : (f : ℕ → List ℕ) (xs : List ℕ) (i : ℕ) (old : List ℕ) → length xs ≤ i → old ++ flat_map f (drop i xs) ≡ old
laid_all f xs i old le = ap (λ (l : List ℕ). old ++ l) (flat_map-none f xs i le) ∙ append-nil old

-- the texts of elements from a place on up to another, and of one more
pub flat_map-between_more : (f : ℕ → List ℕ) (xs : List ℕ) (from i : ℕ) (d : ℕ) → from ≤ i → i < length xs → flat_map f (between from (i + 1) xs) ≡ flat_map f (between from i xs) ++ f (get_or xs i d)
flat_map-between_more f xs from i d le lt =
    ap (flat_map f) (between_more xs from i d le lt) ∙ flat_map-append f (between from i xs) (get_or xs i d ∷ []) ∙ ap (λ (l : List ℕ). flat_map f (between from i xs) ++ l) (append-nil (f (get_or xs i d)))

-- the texts of elements from a place on up to another, and then up to a third
pub flat_map-between_join : (f : ℕ → List ℕ) (xs : List ℕ) (i j k : ℕ) → i ≤ j → j ≤ k → flat_map f (between i k xs) ≡ flat_map f (between i j xs) ++ flat_map f (between j k xs)
flat_map-between_join f xs i j k le more =
    let count : k - i ≡ (j - i) + (k - j) = omega (arith, le, more) in
    let back : i + (j - i) ≡ j = omega (arith, le) in
    let parts : between i k xs ≡ between i j xs ++ between j k xs =
    ap (λ (n : ℕ). take n (drop i xs)) count ∙ take-add (j - i) (k - j) (drop i xs) ∙ ap (λ (l : List ℕ). between i j xs ++ take (k - j) l) (drop-drop (j - i) i xs ∙ ap (λ (n : ℕ). drop n xs) back) in
    ap (flat_map f) parts ∙ flat_map-append f (between i j xs) (between j k xs)

-- those texts were laid after others
pub laid_between : (f : ℕ → List ℕ) (xs : List ℕ) (i j : ℕ) (old new : List ℕ) → i ≤ j → new ≡ old ++ flat_map f (between i j xs) → old ++ flat_map f (drop i xs) ≡ new ++ flat_map f (drop j xs)
laid_between f xs i j old new le laid =
    let back : i + (j - i) ≡ j = omega (arith, le) in
    let parts : drop i xs ≡ between i j xs ++ drop j xs = sym (take-append-drop (j - i) (drop i xs)) ∙ ap (λ (l : List ℕ). between i j xs ++ l) (drop-drop (j - i) i xs ∙ ap (λ (n : ℕ). drop n xs) back) in
    ap (λ (l : List ℕ). old ++ l) (ap (flat_map f) parts ∙ flat_map-append f (between i j xs) (drop j xs)) ∙ sym (append_assoc old (flat_map f (between i j xs)) (flat_map f (drop j xs)))
    ∙ ap (λ (l : List ℕ). l ++ flat_map f (drop j xs)) (sym laid)

-- the same while a text is under way
pub under_way_laid : (f : ℕ → List ℕ) (xs : List ℕ) (i j : ℕ) (text old new end : List ℕ) (a b : Option (List ℕ)) → i ≤ j → new ≡ old ++ flat_map f (between i j xs)
    → IsUnderWay text (old ++ flat_map f (drop i xs) ++ end) a b → IsUnderWay text (new ++ flat_map f (drop j xs) ++ end) a b
under_way_laid f xs i j text old new end a b le laid so_far =
    let more : old ++ flat_map f (drop i xs) ++ end ≡ new ++ flat_map f (drop j xs) ++ end = ap (λ (l : List ℕ). l ++ end) (laid_between f xs i j old new le laid) in
    subst (λ (l : List ℕ). IsUnderWay text l a b) more so_far

-- what is left of a text that is under way is left to be put
pub under_way_left : (text rest left : List ℕ) (a b : Option (List ℕ)) → IsUnderWay text rest a b → rest ≡ left → (written : List ℕ) × (text ≡ written ++ left) × Appends a b written
under_way_left text rest left a b so_far same = (so_far.prefix, so_far.parts ∙ ap (λ (l : List ℕ). so_far.prefix ++ l) same, so_far.written)

-- of what was left more was put
pub Puts-then : {T E : Type 0} (r : Result T E) (text left rest : List ℕ) (a b c : Option (List ℕ)) → ((written : List ℕ) × (text ≡ written ++ left) × Appends a b written) → Puts b c r left rest → Puts a c r text rest
Puts-then (Ok v) text left rest a b c (x, some, p) (y, more, q) = (
  x ++ y,
  some ∙ ap (λ (l : List ℕ). x ++ l) more ∙ sym (append_assoc x y rest),
  Appends-trans a b c x y p q,
)
Puts-then (Err e) text left rest a b c (x, some, p) q = subst (λ (t : List ℕ). AppendsPrefix a c t) (sym some) (prefix_after x left a b c p q)

pub Puts-at_err : {T E : Type 0} (r : Result T E) (a c : Option (List ℕ)) (text left : List ℕ) → IsErr r → AppendsPrefix a c text → Puts a c r text left
Puts-at_err (Ok x) a c text left is prefix = cc
Puts-at_err (Err e) a c text left is prefix = prefix

held_next : (held next after rest : List ℕ) → rest ≡ next ++ after → held ++ rest ≡ held ++ next ++ after
held_next held next after rest parts = ap (λ (l : List ℕ). held ++ l) parts ∙ sym (append_assoc held next after)

-- a text that is under way begins with what is held, and of this and the next line some is held still
pub under_way_put : (text held next after left : List ℕ) (rest : List ℕ) (a b c : Option (List ℕ)) → IsUnderWay text (held ++ rest) a b → rest ≡ next ++ after
    → ((written : List ℕ) × (held ++ next ≡ written ++ left) × Appends b c written) → IsUnderWay text (left ++ after) a c
under_way_put text held next after left rest a b c so_far parts (x, some, p) =
    under_way_next text (held ++ rest) x (left ++ after) a b c so_far (held_next held next after rest parts ∙ ap (λ (l : List ℕ). l ++ after) some ∙ append_assoc x left after) p

-- a prefix of this was written
pub under_way_put_stops : (text held next after : List ℕ) (rest : List ℕ) (a b c : Option (List ℕ)) → IsUnderWay text (held ++ rest) a b → rest ≡ next ++ after
    → AppendsPrefix b c (held ++ next) → AppendsPrefix a c text
under_way_put_stops text held next after rest a b c so_far parts p = under_way_stops text (held ++ rest) (held ++ next) after a b c so_far (held_next held next after rest parts) p
