use Rattle.std.proofs.Common.{◌≡◌, ◌∙◌, ◌++◌, ◌+◌, [], List, ℕ, ap, sym, refl, drop, rules, arith, ◌<◌, ◌≤◌, ◌∷◌, length, get_or, Option, zero, suc, append_assoc, append-nil, add-one, subst, length-append}
use Rattle.std.proofs.Math.Bool.{or-false}
use Rattle.std.specs.List.{flat_map}
use Rattle.byteorder.specs.Endian.{big_bytes}
use Rattle.camac_event.proofs.writing.write_words.Goals.{then-remaining_capacity-lt4+in_ok-put_text, else-remaining_capacity-lt4}
use Rattle.camac_event.proofs.writing.write_words.Goals as goal
use Rattle.std.specs.Prelude.{Result, Ok, Err}
use Rattle.std.specs.Result.{IsErr}
use Rattle.std.specs.Io.KnownBytes.{Appends}
use Rattle.std.proofs.KnownBytes.{Appends-trans}
use Rattle.camac_word.specs.Writing.{AppendsPrefix, Writes}
use Rattle.camac_word.proofs.Prefixes.{IsUnderWay}

-- A text that is written piece by piece.

-- the next piece was written
under_way_next : (text rest piece after : List ℕ) (a b c : Option (List ℕ)) → IsUnderWay text rest a b → rest ≡ piece ++ after → Appends b c piece → IsUnderWay text after a c
under_way_next text rest piece after a b c so_far parts p = record {
  prefix = so_far.prefix ++ piece;
  parts = so_far.parts ∙ ap (λ (l : List ℕ). so_far.prefix ++ l) parts ∙ sym (append_assoc so_far.prefix piece after);
  written = Appends-trans a b c so_far.prefix piece so_far.written p;
}

-- a prefix of the next piece was written
under_way_stops : (text rest piece after : List ℕ) (a b c : Option (List ℕ)) → IsUnderWay text rest a b → rest ≡ piece ++ after → AppendsPrefix b c piece → AppendsPrefix a c text
under_way_stops text rest piece after a b c so_far parts (prefix, left, split, some, p) = (
  so_far.prefix ++ prefix,
  left ++ after,
  so_far.parts ∙ ap (λ (l : List ℕ). so_far.prefix ++ l) (parts ∙ ap (λ (l : List ℕ). l ++ after) split ∙ append_assoc prefix left after) ∙ sym (append_assoc so_far.prefix prefix (left ++ after)),
  omega (arith, length-append left after),
  Appends-trans a b c so_far.prefix prefix so_far.written p,
)

-- the last piece of a text was written, as far as it went
under_way_last : {T E : Type 0} (r : Result T E) (text rest last : List ℕ) (a b c : Option (List ℕ)) → IsUnderWay text rest a b → rest ≡ last → Writes b c r last → Writes a c r text
under_way_last (Ok v) text rest last a b c so_far same p =
    let whole : text ≡ so_far.prefix ++ last = so_far.parts ∙ ap (λ (l : List ℕ). so_far.prefix ++ l) same in
    subst (λ (t : List ℕ). Appends a c t) (sym whole) (Appends-trans a b c so_far.prefix last so_far.written p)
under_way_last (Err e) text rest last a b c so_far same p = under_way_stops text rest last [] a b c so_far (same ∙ sym (append-nil last)) p

-- what an error leaves
Writes-at_err : {T E : Type 0} (r : Result T E) (a c : Option (List ℕ)) (text : List ℕ) → IsErr r → AppendsPrefix a c text → Writes a c r text
Writes-at_err (Ok x) a c text is prefix = cc
Writes-at_err (Err e) a c text is prefix = prefix

-- the texts of a list's elements from one of them on
flat_map-drop : {X : Type 0} (f : X → List ℕ) (xs : List X) (i : ℕ) (x : X) → i < length xs → x ≡ get_or xs i x → flat_map f (drop i xs) ≡ f x ++ flat_map f (drop (suc i) xs)
flat_map-drop f [] i x lt is = absurd (omega (arith, lt))
flat_map-drop f (y ∷ ys) zero x lt is = ap (λ e. f e ++ flat_map f ys) (sym is)
flat_map-drop f (y ∷ ys) (suc i) x lt is =
    let less : i < length ys = omega (arith, lt) in
    flat_map-drop f ys i x less is

-- the same of a piece that is the element's text
flat_map-next : {X : Type 0} (f : X → List ℕ) (xs : List X) (i : ℕ) (x : X) (piece : List ℕ) → i < length xs → x ≡ get_or xs i x → piece ≡ f x
    → flat_map f (drop i xs) ≡ piece ++ flat_map f (drop (i + 1) xs)
flat_map-next f xs i x piece lt is text =
    flat_map-drop f xs i x lt is ∙ ap (λ (l : List ℕ). l ++ flat_map f (drop (suc i) xs)) (sym text) ∙ ap (λ (j : ℕ). piece ++ flat_map f (drop j xs)) (sym (add-one i))

-- an element's text was laid after others
laid_next : {X : Type 0} (f : X → List ℕ) (xs : List X) (i : ℕ) (x : X) (old new : List ℕ) → i < length xs → x ≡ get_or xs i x → new ≡ old ++ f x
    → old ++ flat_map f (drop i xs) ≡ new ++ flat_map f (drop (i + 1) xs)
laid_next f xs i x old new lt is laid =
    ap (λ (l : List ℕ). old ++ l) (flat_map-next f xs i x (f x) lt is refl) ∙ sym (append_assoc old (f x) (flat_map f (drop (i + 1) xs)))
    ∙ ap (λ (l : List ℕ). l ++ flat_map f (drop (i + 1) xs)) (sym laid)

flat_map-none : {X : Type 0} (f : X → List ℕ) (xs : List X) (i : ℕ) → length xs ≤ i → flat_map f (drop i xs) ≡ []
flat_map-none f [] zero le = refl
flat_map-none f [] (suc i) le = refl
flat_map-none f (x ∷ xs) zero le = absurd (omega (arith, le))
flat_map-none f (x ∷ xs) (suc i) le =
    let less : length xs ≤ i = omega (arith, le) in
    flat_map-none f xs i less

-- no element is left
laid_all : {X : Type 0} (f : X → List ℕ) (xs : List X) (i : ℕ) (last : List ℕ) → length xs ≤ i → last ++ flat_map f (drop i xs) ≡ last
laid_all f xs i last le = ap (λ (l : List ℕ). last ++ l) (flat_map-none f xs i le) ∙ append-nil last

-- the same under other names
under_way_as : (text rest renamed : List ℕ) (a b c : Option (List ℕ)) → IsUnderWay text rest a b → rest ≡ renamed → b ≡ c → IsUnderWay text renamed a c
under_way_as text rest renamed a b c so_far same new =
    subst (λ (o : Option (List ℕ)). IsUnderWay text renamed a o) new (subst (λ (l : List ℕ). IsUnderWay text l a b) same so_far)

pub returns-in_err-put_text-clause-text : goal.returns-in_err-put_text-clause-text
returns-in_err-put_text-clause-text g c =
    let rest : List ℕ = flat_map (big_bytes 4) (drop c.words.word-index c.args.words.now) in
    let read : c.deref.result.now ≡ c.words.layout.items = search rules in
    Writes-at_err c.from_residual.result _ _ _ c.from_residual.ensures.0
    (under_way_stops _ _ c.words.layout.items rest _ _ _ c.words.invariant.0 refl (rw read at c.in_err-put_text.ensures.text))

pub words-preserved : goal.words-preserved
words-preserved g c =
    let words = c.args.words.now in
    let i = c.words.word-index in
    let rest : List ℕ = flat_map (big_bytes 4) (drop i words) in
    let out = c.if-remaining_capacity-lt4.out in
    let layout = c.if-remaining_capacity-lt4.layout in
    let laid : c.lay_u32.new.out.items ≡ layout.items ++ big_bytes 4 c.word-item.result = search rules in
    let more : layout.items ++ rest ≡ c.lay_u32.new.out.items ++ flat_map (big_bytes 4) (drop (i + 1) words) =
    laid_next (big_bytes 4) words i c.word-item.result layout.items c.lay_u32.new.out.items c.words-test.true c.word-item.is laid in
    elim c.if-remaining_capacity-lt4.branch [
      | then-remaining_capacity-lt4+in_ok-put_text w ↦
          let read : w.deref.result.now ≡ c.words.layout.items = search rules in
          let new : w.put_text.new.self ≡ out = search rules in
          let none : layout.items ≡ [] = search rules in
          let all : rest ≡ layout.items ++ rest = ap (λ (l : List ℕ). l ++ rest) (sym none) in
          let flag : g.W.TextWriter.failed out ≡ g.W.TextWriter.failed c.words.out = ap g.W.TextWriter.failed (sym new) ∙ w.in_ok-put_text.ensures.failed ∙ or-false _ in
          let written = under_way_next _ _ c.words.layout.items rest _ _ _ c.words.invariant.0 refl (rw read at w.in_ok-put_text.ensures.text) in (
            under_way_as _ rest _ _ _ _ written (all ∙ more) (ap (λ o. g.W.TextWriter.contents o) new),
            flag ∙ c.words.invariant.1,
          )
      | else-remaining_capacity-lt4 w ↦
          let new : c.words.out ≡ out = search rules in
          let same : c.words.layout ≡ layout = search rules in (
            under_way_as _ (c.words.layout.items ++ rest) _ _ _ _ c.words.invariant.0 (ap (λ l. l.items ++ rest) same ∙ more) (ap (λ o. g.W.TextWriter.contents o) new),
            ap g.W.TextWriter.failed (sym new) ∙ c.words.invariant.1,
          )
    ]

pub returns-clause-text : goal.returns-clause-text
returns-clause-text g c =
    let read : c.deref-2.result.now ≡ c.words.layout.items = search rules in
    let all = laid_all (big_bytes 4) c.args.words.now c.words.word-index c.words.layout.items (omega arith) in
    under_way_last c.put_text-2.result _ _ c.words.layout.items _ _ _ c.words.invariant.0 all (rw read at c.put_text-2.ensures.text)
