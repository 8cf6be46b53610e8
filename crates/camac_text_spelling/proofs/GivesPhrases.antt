-- Conditions, moves and kept ranges that are spelled are read.
use Rattle.std.proofs.Common.{◌≡◌, ℕ, suc, ◌+◌, ◌≤◌, ◌<◌, max, Bool, true, false, cond, nat_le, List, [], ◌∷◌, ◌++◌, length, Option, Some, refl, sym, ap, subst, ◌∙◌, append_assoc, length-append, arith, not, ◌&&◌, nat_eq, nat_lt, map}
use Rattle.std.proofs.lemmas.Bool.{lt-ltb, leb-true}
use Rattle.std.proofs.lemmas.List.{append-nil, map-append}
use Rattle.camac_range.specs.declared.comparison.Cmp.{Cmp}
use Rattle.camac_range.specs.declared.comparison.Cmp.TheVariants as cmp
use Rattle.camac_lang.specs.Depth.{expression_depth, test_depth, part_depth, move_depth}
use Rattle.camac_lang.specs.Expressions.{expression_fits, test_fits, part_fits, condition_fits}
use Rattle.camac_lang.specs.Tests.{each, most, are_distinct, is_number}
use Rattle.camac_lang.specs.Tree.{Expression, number, variable, group, add, subtract, multiply, divide, remainder, Test, flag_q, flag_x, compare, Part, plain, negated, Condition, Move, no_data, into, from, Keep}
use Rattle.camac_lang.specs.Statements.{keeps_fit, move_fits}
use Rattle.camac_tokens.specs.declared.token.Keyword.TheVariants as keyword
use Rattle.camac_tokens.specs.declared.token.Sign.TheVariants as mark
use Rattle.camac_tokens.specs.declared.token.Token.{Token}
use Rattle.camac_tokens.specs.declared.token.TokenKind.{TokenKind}
use Rattle.camac_tokens.specs.declared.token.TokenKind.TheVariants as kind
use Rattle.camac_text_cursor.specs.declared.choice.Choice.{Choice}
use Rattle.camac_text_cursor.specs.declared.choice.Choice.TheVariants as choice
use Rattle.camac_text_cursor.specs.Reading.{State, Reader, ◌>>=◌, give, peek, kind_of, after_first, until, missing}
use Rattle.camac_text_cursor.specs.Readers.{is_keyword, is_sign, expect, expect_sign, any_number, used_variable, variable_here}
use Rattle.camac_text_cursor.proofs.Places.{hushed}
use Rattle.camac_text_cursor.proofs.Steps.{Progresses}
use Rattle.camac_text_cursor.proofs.Uses.{scope_of}
use Rattle.camac_text_cursor.proofs.Registers.{first_of_both, second_of_both, both}
use Rattle.camac_text_phrases.specs.Expressions.{expression_at}
use Rattle.camac_text_phrases.specs.Conditions.{comparison_by, comparison_sign, compared, test_by, test_at, part_by, part_at, no_part_by, part_limit, and_part, condition_at}
use Rattle.camac_text_phrases.specs.declared.keeping.Own.{Own}
use Rattle.camac_text_phrases.specs.Keeps.{own_place, is_free, keep_at, next_keep, keep_list, keeps_at}
use Rattle.camac_text_phrases.proofs.ConditionsRead.{parts_progress}
use Rattle.camac_text_phrases.proofs.KeepsRead.{keeps_progress}
use Rattle.camac_text_spelling.specs.Pieces.{Piece, word, sign, numeral, others, Names, name_at, Prefix, separated}
use Rattle.camac_text_spelling.specs.Phrases as phrase
use Rattle.camac_text_spelling.proofs.Takes.{prefix_split, prefix_first}
use Rattle.camac_text_spelling.proofs.GivesExpressions.{at, ok, after, left, keyword_same, FindsAll, until_off, until_turn, checked, expected, expected_sign, sign_same, number_given, variable_given, variable_seen, NoSign, expression_given}
use Rattle.camac_text_statements.specs.Statements.{move_by, move_at}

-- Conditions that are spelled are read.

-- ---- how expressions begin

abbrev pub begins_value : Option TokenKind → Bool
begins_value (Some (kind.Number k)) = true
begins_value (Some (kind.Name x)) = true
begins_value (Some (kind.Sign mark.LeftBracket)) = true
begins_value _ = false

pub value_begins : (n : Names) (e : Expression) (ts rest : List Token) → Prefix ts (phrase.expression n e) rest → begins_value (kind_of ts) ≡ true
value_begins n (number k) ts rest f = ap begins_value (prefix_first ts (numeral k) [] rest f).0
value_begins n (variable x) ts rest f = ap begins_value (prefix_first ts (name_at n.variables x) [] rest f).0
value_begins n (group e) ts rest f = ap begins_value (prefix_first ts (sign mark.LeftBracket) (phrase.expression n e ++ sign mark.RightBracket ∷ []) rest f).0
value_begins n (add a b) ts rest f = let m = prefix_split ts (phrase.expression n a) (sign mark.Plus ∷ phrase.expression n b) rest f in value_begins n a ts m.0 m.1
value_begins n (subtract a b) ts rest f = let m = prefix_split ts (phrase.expression n a) (sign mark.Minus ∷ phrase.expression n b) rest f in value_begins n a ts m.0 m.1
value_begins n (multiply a b) ts rest f = let m = prefix_split ts (phrase.expression n a) (sign mark.Times ∷ phrase.expression n b) rest f in value_begins n a ts m.0 m.1
value_begins n (divide a d) ts rest f = let m = prefix_split ts (phrase.expression n a) (sign mark.Over ∷ numeral d ∷ []) rest f in value_begins n a ts m.0 m.1
value_begins n (remainder a d) ts rest f = let m = prefix_split ts (phrase.expression n a) (sign mark.Modulo ∷ numeral d ∷ []) rest f in value_begins n a ts m.0 m.1

pub value_no_sign : (k : Option TokenKind) → begins_value k ≡ true → NoSign k
value_no_sign (Some (kind.Number j)) e = record { product = refl; sum = refl }
value_no_sign (Some (kind.Name x)) e = record { product = refl; sum = refl }
value_no_sign (Some (kind.Sign mark.LeftBracket)) e = record { product = refl; sum = refl }
value_no_sign _ e = absurd cc

pub no_sign : (k : Option TokenKind) (j : TokenKind) → k ≡ Some j → NoSign (Some j) → NoSign k
no_sign k j e h = subst (λ (o : Option TokenKind). NoSign o) (sym e) h

-- ---- conditions

comparison_given : (s0 : State) → let s : State = hushed s0 in (how : Cmp) → kind_of s.rest ≡ Some (kind.Sign (phrase.comparison how)) → comparison_sign s ≡ ok how (at s (after_first s.rest))
unfolding comparison_sign
comparison_given s0 how e = let s : State = hushed s0 in ap (λ (k : Option TokenKind). comparison_by k s) e ∙ by how where
  by : (c : Cmp) → comparison_by (Some (kind.Sign (phrase.comparison c))) (hushed s0) ≡ ok c (at (hushed s0) (after_first s0.rest))
  by cmp.Less = refl
  by cmp.AtMost = refl
  by cmp.More = refl
  by cmp.AtLeast = refl
  by cmp.Same = refl
  by cmp.Differs = refl

comparison_no_sign : (how : Cmp) → NoSign (Some (kind.Sign (phrase.comparison how)))
comparison_no_sign cmp.Less = record { product = refl; sum = refl }
comparison_no_sign cmp.AtMost = record { product = refl; sum = refl }
comparison_no_sign cmp.More = record { product = refl; sum = refl }
comparison_no_sign cmp.AtLeast = record { product = refl; sum = refl }
comparison_no_sign cmp.Same = record { product = refl; sum = refl }
comparison_no_sign cmp.Differs = record { product = refl; sum = refl }

compared_given : (n : Names) (a b : Expression) (how : Cmp) (room : ℕ) (s0 : State) → let s : State = hushed s0 in (rest : List Token) → FindsAll n s → test_fits (scope_of s) (compare a how b) ≡ true → test_depth (compare a how b) ≤ room → Prefix s.rest (phrase.test n (compare a how b)) rest → NoSign (kind_of rest) → compared room s ≡ ok (compare a how b) (at s rest)
unfolding compared
compared_given n a b how room s0 rest finds fits deep f ends =
    let s : State = hushed s0 in
    let m = prefix_split s.rest (phrase.expression n a) (sign (phrase.comparison how) ∷ phrase.expression n b) rest f in
    let us : List Token = m.0 in
    let h = prefix_first us (sign (phrase.comparison how)) (phrase.expression n b) rest m.2 in
    let deep_a : expression_depth a ≤ room = omega arith in
    let deep_b : expression_depth b ≤ room = omega arith in
    after (expression_at room s) _ a (at s us) (expression_given n a room s us finds (first_of_both (expression_fits (scope_of s) a) _ fits) deep_a m.1 (no_sign (kind_of us) _ h.0 (comparison_no_sign how)))
    (after (comparison_sign (at s us)) _ how (at s (after_first us)) (comparison_given (at s us) how h.0)
    (after (expression_at room (at s (after_first us))) _ b (at s rest) (expression_given n b room (at s (after_first us)) rest finds (second_of_both (expression_fits (scope_of s) a) _ fits) deep_b h.1 ends) refl))

value_compared : (room : ℕ) (k : Option TokenKind) (s0 : State) → let s : State = hushed s0 in begins_value k ≡ true → test_by room k s ≡ compared room s
value_compared room (Some (kind.Number j)) s0 e = let s : State = hushed s0 in refl
value_compared room (Some (kind.Name x)) s0 e = let s : State = hushed s0 in refl
value_compared room (Some (kind.Sign mark.LeftBracket)) s0 e = let s : State = hushed s0 in refl
value_compared room _ s0 e = let s : State = hushed s0 in absurd cc

test_given : (n : Names) (t : Test) (room : ℕ) (s0 : State) → let s : State = hushed s0 in (rest : List Token) → FindsAll n s → test_fits (scope_of s) t ≡ true → test_depth t ≤ room → Prefix s.rest (phrase.test n t) rest → NoSign (kind_of rest) → test_at room s ≡ ok t (at s rest)
unfolding test_at
test_given n flag_q room s0 rest finds fits deep f ends = let s : State = hushed s0 in let h = prefix_first s.rest (word keyword.Q) [] rest f in ap (λ (k : Option TokenKind). test_by room k s) h.0 ∙ left flag_q s (after_first s.rest) rest h.1
test_given n flag_x room s0 rest finds fits deep f ends = let s : State = hushed s0 in let h = prefix_first s.rest (word keyword.X) [] rest f in ap (λ (k : Option TokenKind). test_by room k s) h.0 ∙ left flag_x s (after_first s.rest) rest h.1
test_given n (compare a how b) room s0 rest finds fits deep f ends =
    let s : State = hushed s0 in
    let m = prefix_split s.rest (phrase.expression n a) (sign (phrase.comparison how) ∷ phrase.expression n b) rest f in
    value_compared room (kind_of s.rest) s (value_begins n a s.rest m.0 m.1) ∙ compared_given n a b how room s rest finds fits deep f ends

abbrev begins_test : Option TokenKind → Bool
begins_test (Some (kind.Keyword keyword.Q)) = true
begins_test (Some (kind.Keyword keyword.X)) = true
begins_test k = begins_value k

value_test : (k : Option TokenKind) → begins_value k ≡ true → begins_test k ≡ true
value_test (Some (kind.Number j)) e = refl
value_test (Some (kind.Name x)) e = refl
value_test (Some (kind.Sign mark.LeftBracket)) e = refl
value_test _ e = absurd cc

test_begins : (n : Names) (t : Test) (ts rest : List Token) → Prefix ts (phrase.test n t) rest → begins_test (kind_of ts) ≡ true
test_begins n flag_q ts rest f = ap begins_test (prefix_first ts (word keyword.Q) [] rest f).0
test_begins n flag_x ts rest f = ap begins_test (prefix_first ts (word keyword.X) [] rest f).0
test_begins n (compare a how b) ts rest f =
    let m = prefix_split ts (phrase.expression n a) (sign (phrase.comparison how) ∷ phrase.expression n b) rest f in
    value_test (kind_of ts) (value_begins n a ts m.0 m.1)

plain_by : (room : ℕ) (k : Option TokenKind) (s0 : State) → let s : State = hushed s0 in begins_test k ≡ true → part_by room k s ≡ (test_at room >>= λ t. give (plain t)) s
plain_by room (Some (kind.Keyword keyword.Q)) s0 e = let s : State = hushed s0 in refl
plain_by room (Some (kind.Keyword keyword.X)) s0 e = let s : State = hushed s0 in refl
plain_by room (Some (kind.Number j)) s0 e = let s : State = hushed s0 in refl
plain_by room (Some (kind.Name x)) s0 e = let s : State = hushed s0 in refl
plain_by room (Some (kind.Sign mark.LeftBracket)) s0 e = let s : State = hushed s0 in refl
plain_by room _ s0 e = let s : State = hushed s0 in absurd cc

part_given : (n : Names) (p : Part) (room : ℕ) (s0 : State) → let s : State = hushed s0 in (rest : List Token) → FindsAll n s → part_fits (scope_of s) p ≡ true → part_depth p ≤ room → Prefix s.rest (phrase.part n p) rest → NoSign (kind_of rest) → part_at room s ≡ ok p (at s rest)
unfolding part_at
part_given n (plain t) room s0 rest finds fits deep f ends =
    let s : State = hushed s0 in
    plain_by room (kind_of s.rest) s (test_begins n t s.rest rest f)
    ∙ after (test_at room s) _ t (at s rest) (test_given n t room s rest finds fits deep f ends) refl
part_given n (negated t) room s0 rest finds fits deep f ends =
    let s : State = hushed s0 in
    let h = prefix_first s.rest (word keyword.Not) (phrase.test n t) rest f in
    let u : State = at s (after_first s.rest) in
    ap (λ (k : Option TokenKind). part_by room k s) h.0
    ∙ after (test_at room u) _ t (at s rest) (test_given n t room u rest finds fits deep h.1 ends) refl

-- ---- lists with separators

-- the others of a list are read, each in its turn
pub others_given : {A : Type 0} (c : Choice) (sep : Piece) (f : A → List Piece) (goes_on : Option TokenKind → Bool) (read : List A → Reader A) → Progresses goes_on (λ xs. read xs >>= λ x. give (xs ++ x ∷ [])) → (Good : List A → List A → Type 0) (Follows : Option TokenKind → Type 0) (s0 : State) → let s : State = hushed s0 in ((acc : List A) (x : A) (xs : List A) (ts us : List Token) → Good acc (x ∷ xs) → Prefix ts (sep ∷ f x) us → Follows (kind_of us) → (read acc (at s ts) ≡ ok x (at s us)) × Good (acc ++ x ∷ []) xs) → goes_on (Some sep.kind) ≡ true → Follows (Some sep.kind) → (xs acc : List A) (ts rest : List Token) → Good acc xs → Prefix ts (others sep f xs) rest → Follows (kind_of rest) → goes_on (kind_of rest) ≡ false → until c goes_on (λ xs. read xs >>= λ x. give (xs ++ x ∷ [])) acc (at s ts) ≡ ok (acc ++ xs) (at s rest)
others_given {A} c sep f goes_on read progress Good Follows s0 each_one on follows [] acc ts rest good prefix ends off =
    let s : State = hushed s0 in
    until_off c goes_on (λ xs. read xs >>= λ x. give (xs ++ x ∷ [])) acc (at s ts) (ap (λ (w : List Token). goes_on (kind_of w)) prefix ∙ off)
    ∙ ap (λ (xs : List A). ok xs (at s ts)) (sym (append-nil acc)) ∙ left (acc ++ []) s ts rest prefix
others_given {A} c sep f goes_on read progress Good Follows s0 each_one on follows (x ∷ xs) acc ts rest good prefix ends off =
    let s : State = hushed s0 in
    let m = prefix_split ts (sep ∷ f x) (others sep f xs) rest prefix in
    let us : List Token = m.0 in
    let one = each_one acc x xs ts us good m.1 (follow_on xs us m.2) in
    let h = prefix_first ts sep (f x) us m.1 in
    until_turn c goes_on (λ xs. read xs >>= λ x. give (xs ++ x ∷ [])) progress acc (at s ts) (acc ++ x ∷ []) (at s us) (ap goes_on h.0 ∙ on)
    (after (read acc (at s ts)) (λ x. give (acc ++ x ∷ [])) x (at s us) one.0 refl)
    (others_given c sep f goes_on read progress Good Follows s each_one on follows xs (acc ++ x ∷ []) us rest one.1 m.2 ends off ∙ ap (λ (w : List A). ok w (at s rest)) (append_assoc acc (x ∷ []) xs))
  where
    follow_on : (ys : List A) (vs : List Token) → Prefix vs (others sep f ys) rest → Follows (kind_of vs)
    follow_on [] vs g = subst (λ (w : List Token). Follows (kind_of w)) (sym g) ends
    follow_on (y ∷ ys) vs g = subst Follows (sym (prefix_first vs sep (f y ++ others sep f ys) rest g).0) follows

-- ---- whole conditions

record GoodParts (s : State) (room : ℕ) (acc xs : Condition) : Type 0 where
  fit : each (part_fits (scope_of s)) xs ≡ true
  few : length acc + length xs ≤ 16
  deep : most part_depth xs ≤ room

limit_given : (count : ℕ) (s0 : State) → let s : State = hushed s0 in count < 16 → part_limit count s ≡ ok tt s
unfolding part_limit
limit_given count s0 below = let s : State = hushed s0 in ap (λ (b : Bool). cond b (give tt) (peek >>= no_part_by) s) (lt-ltb count 16 below)

and_part_given : (n : Names) (room : ℕ) (s0 : State) → let s : State = hushed s0 in FindsAll n s → (acc : Condition) (x : Part) (xs : Condition) (ts us : List Token) → GoodParts s room acc (x ∷ xs) → Prefix ts (word keyword.And ∷ phrase.part n x) us → NoSign (kind_of us) → (and_part room (length acc) (at s ts) ≡ ok x (at s us)) × GoodParts s room (acc ++ x ∷ []) xs
unfolding and_part
and_part_given n room s0 finds acc x xs ts us good f ends =
    let s : State = hushed s0 in
    let h = prefix_first ts (word keyword.And) (phrase.part n x) us f in
    let u : State = at s (after_first ts) in
    let few : length acc + suc (length xs) ≤ 16 = good.few in
    let deep : max (part_depth x) (most part_depth xs) ≤ room = good.deep in
    let longer : length (acc ++ x ∷ []) ≡ length acc + 1 = length-append acc (x ∷ []) in (
      after (part_limit (length acc) u) _ tt u (limit_given (length acc) u (omega arith)) (part_given n x room u us finds (first_of_both (part_fits (scope_of s) x) _ good.fit) (omega arith) h.1 ends),
      record { fit = second_of_both (part_fits (scope_of s) x) _ good.fit; few = omega arith; deep = omega arith },
    )

and_no_sign : NoSign (Some (kind.Keyword keyword.And))
and_no_sign = record { product = refl; sum = refl }

pub condition_given : (n : Names) (c : Condition) (room : ℕ) (s0 : State) → let s : State = hushed s0 in (rest : List Token) → FindsAll n s → condition_fits (scope_of s) c ≡ true → most part_depth c ≤ room → Prefix s.rest (phrase.condition n c) rest → NoSign (kind_of rest) → is_keyword keyword.And (kind_of rest) ≡ false → condition_at room s ≡ ok c (at s rest)
unfolding condition_at
condition_given n [] room s0 rest finds fits deep f ends off = let s : State = hushed s0 in absurd cc
condition_given n (p ∷ ps) room s0 rest finds fits deep f ends off =
    let s : State = hushed s0 in
    let m = prefix_split s.rest (phrase.part n p) (others (word keyword.And) (phrase.part n) ps) rest f in
    let us : List Token = m.0 in
    let some = second_of_both (nat_le 1 (suc (length ps))) _ fits in
    let few : suc (length ps) ≤ 16 = leb-true (suc (length ps)) 16 (first_of_both (nat_le (suc (length ps)) 16) _ some) in
    let all_fit = second_of_both (nat_le (suc (length ps)) 16) _ some in
    let good : GoodParts s room (p ∷ []) ps = record { fit = second_of_both (part_fits (scope_of s) p) _ all_fit; few = omega arith; deep = omega arith } in
    after (part_at room s) _ p (at s us) (part_given n p room s us finds (first_of_both (part_fits (scope_of s) p) _ all_fit) (omega arith) m.1 (follow_on ps us m.2))
    (others_given (choice.Word keyword.And) (word keyword.And) (phrase.part n) (is_keyword keyword.And) (λ parts. and_part room (length parts)) (parts_progress room) (GoodParts s room) NoSign s (and_part_given n room s finds) (keyword_same keyword.And) and_no_sign ps (p ∷ []) us rest good m.2 ends off)
  where
    follow_on : (qs : Condition) (vs : List Token) → Prefix vs (others (word keyword.And) (phrase.part n) qs) rest → NoSign (kind_of vs)
    follow_on [] vs g = subst (λ (w : List Token). NoSign (kind_of w)) (sym g) ends
    follow_on (q ∷ qs) vs g = subst NoSign (sym (prefix_first vs (word keyword.And) (phrase.part n q ++ others (word keyword.And) (phrase.part n) qs) rest g).0) and_no_sign

-- Moves and kept ranges that are spelled are read.

-- ---- moves

abbrev pub is_move_sign : Option TokenKind → Bool
is_move_sign (Some (kind.Sign mark.Into)) = true
is_move_sign (Some (kind.Sign mark.From)) = true
is_move_sign _ = false

no_move : (room : ℕ) (k : Option TokenKind) (s0 : State) → let s : State = hushed s0 in is_move_sign k ≡ false → move_by room k s ≡ ok no_data s
no_move room (Some (kind.Sign mark.Into)) s0 e = let s : State = hushed s0 in absurd cc
no_move room (Some (kind.Sign mark.From)) s0 e = let s : State = hushed s0 in absurd cc
no_move room _ s0 e = let s : State = hushed s0 in refl

pub move_given : (n : Names) (m : Move) (room : ℕ) (s0 : State) → let s : State = hushed s0 in (rest : List Token) → FindsAll n s → move_fits (scope_of s) m ≡ true → move_depth m ≤ room → Prefix s.rest (phrase.move n m) rest → NoSign (kind_of rest) → is_move_sign (kind_of rest) ≡ false → move_at room s ≡ ok m (at s rest)
unfolding move_at
move_given n no_data room s0 rest finds fits deep f ends off = let s : State = hushed s0 in no_move room (kind_of s.rest) s (ap (λ (w : List Token). is_move_sign (kind_of w)) f ∙ off) ∙ left no_data s s.rest rest f
move_given n (into x) room s0 rest finds fits deep f ends off =
    let s : State = hushed s0 in
    let h = prefix_first s.rest (sign mark.Into) (name_at n.variables x ∷ []) rest f in
    let u : State = at s (after_first s.rest) in
    let g = prefix_first (after_first s.rest) (name_at n.variables x) [] rest h.1 in
    ap (λ (k : Option TokenKind). move_by room k s) h.0
    ∙ after (used_variable u) _ x (at s (after_first (after_first s.rest))) (variable_given n u x finds fits g.0) (left (into x) s (after_first (after_first s.rest)) rest g.1)
move_given n (from e) room s0 rest finds fits deep f ends off =
    let s : State = hushed s0 in
    let h = prefix_first s.rest (sign mark.From) (phrase.expression n e) rest f in
    let u : State = at s (after_first s.rest) in
    ap (λ (k : Option TokenKind). move_by room k s) h.0
    ∙ after (expression_at room u) _ e (at s rest) (expression_given n e room u rest finds fits deep h.1 ends) refl

-- ---- kept ranges

abbrev kept_variable : Keep → ℕ
kept_variable k = k.variable

-- of distinct numbers none is among those before it
distinct_free : (xs : List ℕ) (p : ℕ) (ys : List ℕ) → are_distinct (xs ++ p ∷ ys) ≡ true → each (λ x. not (nat_eq x p)) xs ≡ true
distinct_free [] p ys e = refl
distinct_free (x ∷ xs) p ys e =
    both (not (nat_eq x p)) _ (first_far xs (first_of_both (each (λ y. not (nat_eq x y)) (xs ++ p ∷ ys)) _ e))
    (distinct_free xs p ys (second_of_both (each (λ y. not (nat_eq x y)) (xs ++ p ∷ ys)) _ e))
  where
    first_far : (zs : List ℕ) → each (λ y. not (nat_eq x y)) (zs ++ p ∷ ys) ≡ true → not (nat_eq x p) ≡ true
    first_far [] h = first_of_both (not (nat_eq x p)) _ h
    first_far (z ∷ zs) h = first_far zs (second_of_both (not (nat_eq x z)) _ h)

record GoodKeeps (own : Own) (s : State) (acc ks : List Keep) : Type 0 where
  distinct : are_distinct (own_place own ∷ map kept_variable (acc ++ ks)) ≡ true
  fit : each (λ (k : Keep). nat_lt k.variable (length s.variables) && (is_number k.low && is_number k.high)) ks ≡ true

keep_given : (n : Names) (own : Own) (s0 : State) → let s : State = hushed s0 in FindsAll n s → (acc : List Keep) (k : Keep) (ks : List Keep) (ts us : List Token) → GoodKeeps own s acc (k ∷ ks) → Prefix ts (phrase.keep n k) us → (keep_at own acc (at s ts) ≡ ok k (at s us)) × GoodKeeps own s (acc ++ k ∷ []) ks
unfolding keep_at
keep_given n own s0 finds acc k ks ts us good f =
    let s : State = hushed s0 in
    let u : State = at s ts in
    let h = prefix_first ts (name_at n.variables k.variable) (word keyword.In ∷ numeral k.low ∷ sign mark.UpTo ∷ numeral k.high ∷ []) us f in
    let t1 = after_first ts in
    let h1 = prefix_first t1 (word keyword.In) (numeral k.low ∷ sign mark.UpTo ∷ numeral k.high ∷ []) us h.1 in
    let t2 = after_first t1 in
    let h2 = prefix_first t2 (numeral k.low) (sign mark.UpTo ∷ numeral k.high ∷ []) us h1.1 in
    let t3 = after_first t2 in
    let h3 = prefix_first t3 (sign mark.UpTo) (numeral k.high ∷ []) us h2.1 in
    let t4 = after_first t3 in
    let h4 = prefix_first t4 (numeral k.high) [] us h3.1 in
    let fits = first_of_both (nat_lt k.variable (length s.variables) && (is_number k.low && is_number k.high)) _ good.fit in
    let parted : are_distinct ((own_place own ∷ map kept_variable acc) ++ k.variable ∷ map kept_variable ks) ≡ true = subst (λ (xs : List ℕ). are_distinct (own_place own ∷ xs) ≡ true) (map-append kept_variable acc (k ∷ ks)) good.distinct in
    let free : is_free k.variable own acc ≡ true = distinct_free (own_place own ∷ map kept_variable acc) k.variable (map kept_variable ks) parted in (
      after (variable_here u) _ k.variable u (variable_seen n u k.variable finds (first_of_both (nat_lt k.variable (length s.variables)) _ fits) h.0)
          (checked (is_free k.variable own acc) _ _ u free
          (after (expect keyword.In (at s t1)) _ tt (at s t2) (expected keyword.In (at s t1) h1.0)
          (after (any_number (at s t2)) _ k.low (at s t3) (number_given (at s t2) k.low h2.0)
          (after (expect_sign mark.UpTo (at s t3)) _ tt (at s t4) (expected_sign mark.UpTo (at s t3) h3.0)
          (after (any_number (at s t4)) _ k.high (at s (after_first t4)) (number_given (at s t4) k.high h4.0) (left k s (after_first t4) us h4.1)))))),
      record {
        distinct = subst (λ (xs : List Keep). are_distinct (own_place own ∷ map kept_variable xs) ≡ true) (sym (append_assoc acc (k ∷ []) ks)) good.distinct;
        fit = second_of_both (nat_lt k.variable (length s.variables) && (is_number k.low && is_number k.high)) _ good.fit;
      },
    )

next_keep_given : (n : Names) (own : Own) (s0 : State) → let s : State = hushed s0 in FindsAll n s → (acc : List Keep) (k : Keep) (ks : List Keep) (ts us : List Token) → GoodKeeps own s acc (k ∷ ks) → Prefix ts (sign mark.Comma ∷ phrase.keep n k) us → Unit {0} → (next_keep own acc (at s ts) ≡ ok k (at s us)) × GoodKeeps own s (acc ++ k ∷ []) ks
unfolding next_keep
next_keep_given n own s0 finds acc k ks ts us good f _ =
    let s : State = hushed s0 in
    let h = prefix_first ts (sign mark.Comma) (phrase.keep n k) us f in
    keep_given n own s finds acc k ks (after_first ts) us good h.1

-- the kept ranges of a loop, and the brace after them
pub keeps_given : (n : Names) (own : Own) (ks : List Keep) (s0 : State) → let s : State = hushed s0 in (rest : List Token) → FindsAll n s → keeps_fit (scope_of s) (own_place own) ks ≡ true → Prefix s.rest (phrase.keeps n ks) rest → kind_of rest ≡ Some (kind.Sign mark.LeftBrace) → keeps_at own s ≡ ok ks (at s rest)
unfolding keeps_at keep_list
keeps_given n own [] s0 rest finds fits f brace =
    let s : State = hushed s0 in
    ap (λ (k : Option TokenKind). cond (is_keyword keyword.Keep k) (keep_list own) (missing (choice.Word keyword.Keep) []) s) (ap kind_of f ∙ brace) ∙ left [] s s.rest rest f
keeps_given n own (k ∷ ks) s0 rest finds fits f brace =
    let s : State = hushed s0 in
    let h = prefix_first s.rest (word keyword.Keep) (separated (sign mark.Comma) (phrase.keep n) (k ∷ ks)) rest f in
    let u : State = at s (after_first s.rest) in
    let m = prefix_split (after_first s.rest) (phrase.keep n k) (others (sign mark.Comma) (phrase.keep n) ks) rest h.1 in
    let us : List Token = m.0 in
    let good : GoodKeeps own s [] (k ∷ ks) = record { distinct = first_of_both (are_distinct (own_place own ∷ map kept_variable (k ∷ ks))) _ fits; fit = second_of_both (are_distinct (own_place own ∷ map kept_variable (k ∷ ks))) _ fits } in
    let first = keep_given n own s finds [] k ks (after_first s.rest) us good m.1 in
    ap (λ (o : Option TokenKind). cond (is_keyword keyword.Keep o) (keep_list own) (missing (choice.Word keyword.Keep) []) s) h.0
    ∙ ap (λ (b : Bool). cond b (keep_list own) (missing (choice.Word keyword.Keep) []) s) (keyword_same keyword.Keep)
    ∙ after (keep_at own [] u) _ k (at s us) first.0
    (others_given (choice.Mark mark.Comma) (sign mark.Comma) (phrase.keep n) (is_sign mark.Comma) (next_keep own) (keeps_progress own) (GoodKeeps own s) (λ _. Unit {0}) s (next_keep_given n own s finds) (sign_same mark.Comma) tt ks (k ∷ []) us rest first.1 m.2 tt (ap (is_sign mark.Comma) brace))
