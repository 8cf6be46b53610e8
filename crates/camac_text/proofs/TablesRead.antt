-- What a table that is read leaves.
use Rattle.std.proofs.Common.{◌≡◌, ℕ, ◌+◌, ◌≤◌, ◌<◌, true, nat_lt, List, [], ◌∷◌, ◌++◌, length, Some, Ok, refl, sym, ap, subst, length-append, arith}
use Rattle.std.proofs.lemmas.Bool.{ltb-true}
use Rattle.camac_lang.specs.Tests.{each, is_name, is_new, is_word}
use Rattle.camac_lang.specs.Tree.{Table}
use Rattle.camac_tokens.specs.declared.fault.Limit.TheVariants as limit
use Rattle.camac_tokens.specs.declared.fault.TextCase.TheVariants as text_case
use Rattle.camac_tokens.specs.declared.token.Sign.TheVariants as sign
use Rattle.camac_tokens.specs.declared.token.TokenKind.{TokenKind}
use Rattle.camac_tokens.specs.declared.token.TokenKind.TheVariants as kind
use Rattle.camac_text_cursor.specs.declared.choice.Choice.TheVariants as choice
use Rattle.camac_text_cursor.specs.Reading.{State, ◌>>◌, give, advance, check, kind_of, after_first, missed, past, until}
use Rattle.camac_text_cursor.specs.Readers.{is_number, expect_sign, number_here, new_name}
use Rattle.camac_text_cursor.specs.Declaring.{with_table}
use Rattle.camac_text.specs.Tables.{word_after, one_more_word, table_words, table_declaration}
use Rattle.camac_text_cursor.proofs.Steps.{then_ok, ok_is, Progresses, until_keeps}
use Rattle.camac_text_cursor.proofs.Moves.{AllFit, Moves, TakesOne, kind_fit, after_less, stays, moved, unmoved, then_moves, one_moves, one_less, check_ok, number_ok, expect_sign_ok, new_name_ok}
use Rattle.camac_text_cursor.proofs.Registers.{below_le, each_push}
use Rattle.camac_lang.specs.declared.spot.Spot.{Spot}

-- ---- words

pub record ReadsWord (count : ℕ) (s : State) (w : ℕ) (s' : State) : Type 0 where
  pub one : TakesOne s (kind.Number w) s'
  pub fits : is_word w ≡ true
  pub room : count < 1024

pub word_ok : (count : ℕ) (s : State) (y : ℕ × State) → word_after count s ≡ Ok y → ReadsWord count s y.0 y.1
unfolding word_after
word_ok count s y e =
    let m = then_ok (number_here s) (λ n. check (nat_lt n 16777216) (text_case.Number 16777215) >> (check (nat_lt count 1024) (text_case.Limit limit.TableWords) >> (advance >> give n))) y e in
    let h = number_ok s m.0 m.1 in
    let c = check_ok (nat_lt m.0.0 16777216) (text_case.Number 16777215) (check (nat_lt count 1024) (text_case.Limit limit.TableWords) >> (advance >> give m.0.0)) m.0.1 y m.2 in
    let d = check_ok (nat_lt count 1024) (text_case.Limit limit.TableWords) (advance >> give m.0.0) m.0.1 y c.1 in
    let below : m.0.0 < 16777216 = ltb-true m.0.0 16777216 c.0 in
    subst (λ (p : ℕ × State). ReadsWord count s p.0 p.1) (ok_is (m.0.0, past m.0.1) y d.1) (record {
      one = record { next = h.0; left = ap past h.1 };
      fits = below_le m.0.0 16777215 (omega arith);
      room = ltb-true count 1024 d.0;
    })

pub words_progress : Progresses is_number one_more_word
words_progress ws s y s' on took =
    let m = then_ok (word_after (length ws) s) (λ w. give (ws ++ w ∷ [])) (y, s') took in
    subst (λ (p : List ℕ × State). length p.1.rest < length s.rest) (ok_is (ws ++ m.0.0 ∷ [], m.0.1) (y, s') m.2) (one_less s (kind.Number m.0.0) m.0.1 (word_ok (length ws) s m.0 m.1).one)

-- words are read
record ReadsWords (s : State) (ws : List ℕ) (s' : State) : Type 0 where
  moves : Moves s s'
  some : 1 ≤ length ws
  few : length ws ≤ 1024
  fit : each is_word ws ≡ true

one_longer : (s : State) (ws : List ℕ) (u : State) (w : ℕ) (t : State) → Moves s u → each is_word ws ≡ true → ReadsWord (length ws) u w t → ReadsWords s (ws ++ w ∷ []) t
one_longer s ws u w t m fit read =
    let longer : length (ws ++ w ∷ []) ≡ length ws + 1 = length-append ws (w ∷ []) in
    let room : length ws < 1024 = read.room in
    record {
      moves = then_moves s u t m (one_moves u (kind.Number w) t read.one);
      some = omega arith;
      few = omega arith;
      fit = each_push is_word ws w fit read.fits;
    }

words_turn : (s : State) (ws : List ℕ) (u : State) (xs : List ℕ) (t : State) → ReadsWords s ws u → one_more_word ws u ≡ Ok (xs, t) → ReadsWords s xs t
words_turn s ws u xs t so e =
    let m = then_ok (word_after (length ws) u) (λ w. give (ws ++ w ∷ [])) (xs, t) e in
    subst (λ (p : List ℕ × State). ReadsWords s p.0 p.1) (ok_is (ws ++ m.0.0 ∷ [], m.0.1) (xs, t) m.2) (one_longer s ws u m.0.0 m.0.1 so.moves so.fit (word_ok (length ws) u m.0 m.1))

words_ok : (s : State) (y : List ℕ × State) → table_words s ≡ Ok y → ReadsWords s y.0 y.1
unfolding table_words
words_ok s y e =
    let m = then_ok (word_after 0 s) (λ first. until choice.Number is_number one_more_word (first ∷ [])) y e in
    until_keeps (λ (ws : List ℕ) (u : State). ReadsWords s ws u) choice.Number (λ ws u r. record { moves = then_moves s u (missed choice.Number u) r.moves (unmoved choice.Number u); some = r.some; few = r.few; fit = r.fit }) is_number one_more_word (λ ws u xs t so on took. words_turn s ws u xs t so took) (m.0.0 ∷ []) m.0.1 y (one_longer s [] s m.0.0 m.0.1 (stays s) refl (word_ok 0 s m.0 m.1)) m.2

-- ---- a table is declared

pub record TableDeclaration (s s' : State) : Type 0 where
  pub table : Table
  pub between : State
  pub moves : Moves s between
  pub room : length s.tables < 16
  pub free : is_new table.name s.declared ≡ true
  pub named : AllFit s.rest → is_name table.name ≡ true
  pub some : 1 ≤ length table.words
  pub few : length table.words ≤ 1024
  pub words_fit : each is_word table.words ≡ true
  pub left : s' ≡ with_table table between
  pub less : length s'.rest < length s.rest

pub table_is : (s : State) (k : TokenKind) (spot : Spot) (y : Unit {0} × State) → kind_of s.rest ≡ Some k → table_declaration spot s ≡ Ok y → TableDeclaration s y.1
unfolding table_declaration
table_is s k spot y next e =
    let t : State = past s in
    let c0 = check_ok (nat_lt (length s.tables) 16) (text_case.Limit limit.Tables) _ s y e in
    let a = then_ok (new_name t) _ y c0.1 in
    let h = new_name_ok t a.0 a.1 in
    let u : State = past a.0.1 in
    let b = then_ok (expect_sign sign.Equals u) _ y a.2 in
    let c = then_ok (table_words b.0.1) _ y b.2 in
    let read = words_ok b.0.1 c.0 c.1 in
    let made : Table = record { spot = spot; name = a.0.0; words = c.0.0 } in
    let to_a : Moves t a.0.1 = subst (λ (w : State). Moves t w) (sym h.left) (stays t) in
    let to_b : Moves t b.0.1 = then_moves t u b.0.1 (then_moves t a.0.1 u to_a (moved a.0.1)) (expect_sign_ok sign.Equals u b.0 b.1) in
    let to_c : Moves t c.0.1 = then_moves t b.0.1 c.0.1 to_b read.moves in
    let left : y.1 ≡ with_table made c.0.1 = sym (ap (λ (p : Unit {0} × State). p.1) (ok_is (tt, with_table made c.0.1) y c.2)) in
    let less : length (after_first s.rest) < length s.rest = after_less s.rest k next in
    let shorter : length c.0.1.rest ≤ length (after_first s.rest) = to_c.shorter in
    record {
      table = made;
      between = c.0.1;
      moves = then_moves s t c.0.1 (moved s) to_c;
      room = ltb-true (length s.tables) 16 c0.0;
      free = h.free;
      named = λ fits. kind_fit t.rest (kind.Name a.0.0) h.next ((moved s).fit fits);
      some = read.some;
      few = read.few;
      words_fit = read.fit;
      left = left;
      less = subst (λ (w : State). length w.rest < length s.rest) (sym left) (let h : length c.0.1.rest < length s.rest = omega arith in h);
    }
