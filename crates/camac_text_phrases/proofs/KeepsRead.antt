-- What readers of kept ranges leave.
use Rattle.std.proofs.Common.{◌≡◌, ℕ, ◌≤◌, ◌<◌, Bool, true, false, not, cond, nat_eq, nat_lt, ◌&&◌, ◌||◌, List, [], ◌∷◌, ◌++◌, length, map, Option, Some, None, Ok, refl, sym, ap, subst, ◌∙◌, arith}
use Rattle.std.specs.List.{list_any}
use Rattle.std.proofs.lemmas.Bool.{lt-ltb, ne_eqb}
use Rattle.std.proofs.lemmas.List.{map_push}
use Rattle.camac_lang.specs.Statements.{keeps_fit}
use Rattle.camac_lang.specs.Tests.{each, are_distinct, is_number}
use Rattle.camac_lang.specs.Tree.{Keep}
use Rattle.camac_lang.specs.View.{keep_of}
use Rattle.camac_lang.specs.declared.tree.Keep as rust
use Rattle.camac_tokens.specs.declared.token.Keyword.TheVariants as word
use Rattle.camac_tokens.specs.declared.token.Sign.{Sign}
use Rattle.camac_tokens.specs.declared.token.Sign.TheVariants as sign
use Rattle.camac_tokens.specs.declared.token.TokenKind.{TokenKind}
use Rattle.camac_tokens.specs.declared.token.TokenKind.TheVariants as kind
use Rattle.camac_text_cursor.specs.declared.choice.Choice.TheVariants as choice
use Rattle.camac_text_cursor.specs.Reading.{State, Reader, ◌>>=◌, ◌>>◌, give, advance, check, kind_of, after_first, missed, missing, past, until}
use Rattle.camac_text_cursor.specs.Readers.{is_keyword, is_sign, expect, expect_sign, any_number, variable_here}
use Rattle.camac_text_phrases.specs.declared.keeping.Own.{Own}
use Rattle.camac_text_phrases.specs.Keeps.{own_place, taken, is_free, kept_case, keep_at, next_keep, one_more_keep, keep_list, keeps_at}
use Rattle.camac_text_cursor.proofs.Steps.{then_ok, ok_is, Progresses, until_keeps}
use Rattle.camac_text_cursor.proofs.Moves.{AllFit, Moves, kind_fit, after_less, moved, unmoved, then_moves, one_moves, check_ok, any_number_ok, expect_ok, expect_sign_ok}
use Rattle.camac_text_cursor.proofs.Uses.{scope_of, variable_here_ok}
use Rattle.camac_text_cursor.proofs.Registers.{both, first_of_both, second_of_both, each_push}

-- ---- variables that are taken

not_any : (place : ℕ) (ks : List rust.Keep) → not (list_any (λ (k : rust.Keep). nat_eq k.variable place) ks) ≡ each (λ (x : ℕ). not (nat_eq x place)) (map (λ (k : Keep). k.variable) (map keep_of ks))
not_any place [] = refl
not_any place (k ∷ ks) = not_or (nat_eq k.variable place) (list_any (λ (j : rust.Keep). nat_eq j.variable place) ks) (not_any place ks) where
  not_or : {rest : Bool} (a b : Bool) → not b ≡ rest → not (a || b) ≡ (not a && rest)
  not_or true b e = refl
  not_or false b e = e

pub free_of_list : (place : ℕ) (own : Own) (ks : List rust.Keep) → (own_place own ≡ place → ⊥) → not (list_any (λ (k : rust.Keep). nat_eq k.variable place) ks) ≡ is_free place own (map keep_of ks)
free_of_list place own ks other = not_any place ks ∙ sym (ap (λ (b : Bool). not b && each (λ (x : ℕ). not (nat_eq x place)) (map (λ (k : Keep). k.variable) (map keep_of ks))) (ne_eqb (own_place own) place other))

distinct_push : (ys : List ℕ) (x : ℕ) → are_distinct ys ≡ true → each (λ (y : ℕ). not (nat_eq y x)) ys ≡ true → are_distinct (ys ++ x ∷ []) ≡ true
distinct_push [] x e free = refl
distinct_push (y ∷ ys) x e free =
    both _ _ (each_push (λ (z : ℕ). not (nat_eq y z)) ys x (first_of_both _ (are_distinct ys) e) (first_of_both (not (nat_eq y x)) _ free))
    (distinct_push ys x (second_of_both (each (λ (z : ℕ). not (nat_eq y z)) ys) _ e) (second_of_both (not (nat_eq y x)) _ free))

-- ---- one keep

pub record ReadsKeep (own : Own) (keeps : List Keep) (s : State) (k : Keep) (s' : State) : Type 0 where
  pub moves : Moves s s'
  pub free : is_free k.variable own keeps ≡ true
  pub within : k.variable < length s.variables
  pub low_fits : AllFit s.rest → is_number k.low ≡ true
  pub high_fits : AllFit s.rest → is_number k.high ≡ true

abbrev pub kept : ℕ → ℕ → ℕ → Keep
kept place low high = record { variable = place; low = low; high = high }

abbrev pub range_of : ℕ → Reader Keep
range_of place = advance >> (expect word.In >> (any_number >>= λ low. expect_sign sign.UpTo >> (any_number >>= λ high. give (kept place low high))))

pub keep_ok : (own : Own) (keeps : List Keep) (s : State) (y : Keep × State) → keep_at own keeps s ≡ Ok y → ReadsKeep own keeps s y.0 y.1
unfolding keep_at
keep_ok own keeps s y e =
    let v = then_ok (variable_here s) (λ place. check (is_free place own keeps) (kept_case own place) >> range_of place) y e in
    let here = variable_here_ok s v.0 v.1 in
    let at : (check (is_free v.0.0 own keeps) (kept_case own v.0.0) >> range_of v.0.0) s ≡ Ok y = subst (λ (u : State). (check (is_free v.0.0 own keeps) (kept_case own v.0.0) >> range_of v.0.0) u ≡ Ok y) here.left v.2 in
    let c = check_ok (is_free v.0.0 own keeps) (kept_case own v.0.0) (range_of v.0.0) s y at in
    let t : State = past s in
    let a = then_ok (expect word.In t) (λ _. any_number >>= λ low. expect_sign sign.UpTo >> (any_number >>= λ high. give (kept v.0.0 low high))) y c.1 in
    let b = then_ok (any_number a.0.1) (λ low. expect_sign sign.UpTo >> (any_number >>= λ high. give (kept v.0.0 low high))) y a.2 in
    let low = any_number_ok a.0.1 b.0 b.1 in
    let d = then_ok (expect_sign sign.UpTo b.0.1) (λ _. any_number >>= λ high. give (kept v.0.0 b.0.0 high)) y b.2 in
    let f = then_ok (any_number d.0.1) (λ high. give (kept v.0.0 b.0.0 high)) y d.2 in
    let high = any_number_ok d.0.1 f.0 f.1 in
    let to_a : Moves s a.0.1 = then_moves s t a.0.1 (moved s) (expect_ok word.In t a.0 a.1) in
    let to_b : Moves s b.0.1 = then_moves s a.0.1 b.0.1 to_a (one_moves a.0.1 (kind.Number b.0.0) b.0.1 low) in
    let to_d : Moves s d.0.1 = then_moves s b.0.1 d.0.1 to_b (expect_sign_ok sign.UpTo b.0.1 d.0 d.1) in
    subst (λ (p : Keep × State). ReadsKeep own keeps s p.0 p.1) (ok_is (kept v.0.0 b.0.0 f.0.0, f.0.1) y f.2) (record {
      moves = then_moves s d.0.1 f.0.1 to_d (one_moves d.0.1 (kind.Number f.0.0) f.0.1 high);
      free = c.0;
      within = here.within;
      low_fits = λ h. kind_fit a.0.1.rest (kind.Number b.0.0) low.next (to_a.fit h);
      high_fits = λ h. kind_fit d.0.1.rest (kind.Number f.0.0) high.next (to_d.fit h);
    })

pub next_keep_ok : (own : Own) (keeps : List Keep) (s : State) (y : Keep × State) → next_keep own keeps s ≡ Ok y → ReadsKeep own keeps (past s) y.0 y.1
unfolding next_keep
next_keep_ok own keeps s y e = keep_ok own keeps (past s) y e

sign_some : (w : Sign) (k : Option TokenKind) → is_sign w k ≡ true → (j : TokenKind) × (k ≡ Some j)
sign_some w (Some j) on = (j, refl)
sign_some w None on = absurd cc

pub next_keep_less : (own : Own) (keeps : List Keep) (s : State) (y : Keep × State) → is_sign sign.Comma (kind_of s.rest) ≡ true → next_keep own keeps s ≡ Ok y → length y.1.rest < length s.rest
next_keep_less own keeps s y on e =
    let k = sign_some sign.Comma (kind_of s.rest) on in
    let less : length (after_first s.rest) < length s.rest = after_less s.rest k.0 k.1 in
    let shorter : length y.1.rest ≤ length (after_first s.rest) = (next_keep_ok own keeps s y e).moves.shorter in
    omega arith

pub keeps_progress : (own : Own) → Progresses (is_sign sign.Comma) (one_more_keep own)
keeps_progress own ks s js s' on took =
    let m = then_ok (next_keep own ks s) (λ k. give (ks ++ k ∷ [])) (js, s') took in
    subst (λ (p : List Keep × State). length p.1.rest < length s.rest) (ok_is (ks ++ m.0.0 ∷ [], m.0.1) (js, s') m.2) (next_keep_less own ks s m.0 on m.1)

-- ---- all keeps of a loop

abbrev keep_fits : ℕ → Keep → Bool
keep_fits variables k = nat_lt k.variable variables && (is_number k.low && is_number k.high)

pub record ReadsKeeps (own : Own) (s : State) (ks : List Keep) (s' : State) : Type 0 where
  pub moves : Moves s s'
  pub distinct : are_distinct (taken own ks) ≡ true
  pub each_fits : AllFit s.rest → each (keep_fits (length s.variables)) ks ≡ true

no_keeps : (own : Own) (s t : State) → Moves s t → ReadsKeeps own s [] t
no_keeps own s t m = record { moves = m; distinct = refl; each_fits = λ h. refl }

shifted : (own : Own) (s : State) (ks : List Keep) (u v : State) → ReadsKeeps own s ks u → Moves u v → ReadsKeeps own s ks v
shifted own s ks u v r m = record { moves = then_moves s u v r.moves m; distinct = r.distinct; each_fits = r.each_fits }

longer_keeps : (own : Own) (s : State) (ks : List Keep) (u : State) (k : Keep) (t : State) → ReadsKeeps own s ks u → ReadsKeep own ks u k t → ReadsKeeps own s (ks ++ k ∷ []) t
longer_keeps own s ks u k t r one =
    let within : k.variable < length s.variables = subst (λ (w : State). k.variable < length w.variables) r.moves.same one.within in
    record {
      moves = then_moves s u t r.moves one.moves;
      distinct = subst (λ (xs : List ℕ). are_distinct (own_place own ∷ xs) ≡ true) (sym (map_push (λ (j : Keep). j.variable) ks k)) (distinct_push (taken own ks) k.variable r.distinct one.free);
      each_fits = λ h. each_push (keep_fits (length s.variables)) ks k (r.each_fits h) (both _ _ (lt-ltb k.variable (length s.variables) within) (both _ _ (one.low_fits (r.moves.fit h)) (one.high_fits (r.moves.fit h))));
    }

keeps_turn : (own : Own) (s : State) (ks : List Keep) (u : State) (js : List Keep) (t : State) → ReadsKeeps own s ks u → one_more_keep own ks u ≡ Ok (js, t) → ReadsKeeps own s js t
keeps_turn own s ks u js t r e =
    let m = then_ok (next_keep own ks u) (λ k. give (ks ++ k ∷ [])) (js, t) e in
    let v : State = past u in
    subst (λ (p : List Keep × State). ReadsKeeps own s p.0 p.1) (ok_is (ks ++ m.0.0 ∷ [], m.0.1) (js, t) m.2) (longer_keeps own s ks v m.0.0 m.0.1 (shifted own s ks u v r (moved u)) (next_keep_ok own ks u m.0 m.1))

keep_list_ok : (own : Own) (s : State) (y : List Keep × State) → keep_list own s ≡ Ok y → ReadsKeeps own s y.0 y.1
unfolding keep_list
keep_list_ok own s y e =
    let t : State = past s in
    let m = then_ok (keep_at own [] t) (λ first. until (choice.Mark sign.Comma) (is_sign sign.Comma) (one_more_keep own) (first ∷ [])) y e in
    until_keeps (λ (ks : List Keep) (u : State). ReadsKeeps own s ks u) (choice.Mark sign.Comma) (λ ks u r. shifted own s ks u (missed (choice.Mark sign.Comma) u) r (unmoved (choice.Mark sign.Comma) u)) (is_sign sign.Comma) (one_more_keep own) (λ ks u js v r on took. keeps_turn own s ks u js v r took) (m.0.0 ∷ []) m.0.1 y
    (longer_keeps own s [] t m.0.0 m.0.1 (no_keeps own s t (moved s)) (keep_ok own [] t m.0 m.1)) m.2

keeps_is : (b : Bool) (own : Own) (s : State) (y : List Keep × State) → cond b (keep_list own) (missing (choice.Word word.Keep) []) s ≡ Ok y → ReadsKeeps own s y.0 y.1
keeps_is true own s y e = keep_list_ok own s y e
keeps_is false own s y e = subst (λ (p : List Keep × State). ReadsKeeps own s p.0 p.1) (ok_is ([], missed (choice.Word word.Keep) s) y e) (no_keeps own s (missed (choice.Word word.Keep) s) (unmoved (choice.Word word.Keep) s))

pub keeps_ok : (own : Own) (s : State) (y : List Keep × State) → keeps_at own s ≡ Ok y → ReadsKeeps own s y.0 y.1
unfolding keeps_at
keeps_ok own s y e = keeps_is (is_keyword word.Keep (kind_of s.rest)) own s y e

pub keeps_stand : (own : Own) (s : State) (ks : List Keep) (s' : State) → ReadsKeeps own s ks s' → AllFit s.rest → keeps_fit (scope_of s) (own_place own) ks ≡ true
keeps_stand own s ks s' r h = both _ _ r.distinct (r.each_fits h)
