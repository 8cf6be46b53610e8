-- Declarations that are spelled are read.
use Rattle.std.proofs.Common.{◌≡◌, ℕ, suc, ◌+◌, ◌≤◌, ◌<◌, true, false, nat_lt, List, [], ◌∷◌, ◌++◌, map, length, Option, Some, refl, sym, ap, ◌∙◌, append_assoc, arith, length-append, cond}
use Rattle.std.proofs.lemmas.Bool.{lt-ltb, leb-true}
use Rattle.std.proofs.lemmas.List.{append-nil}
use Rattle.std.proofs.Math.Seq.{take-append_seam}
use Rattle.camac_lang.specs.Tests.{is_new, are_new, each, is_word}
use Rattle.camac_lang.specs.Tree.{Text, Block, Lam, Service, next_service, Script, Table, Parameter, Procedure, next_procedure}
use Rattle.camac_lang.specs.declared.spot.Spot.{Spot}
use Rattle.camac_lang.specs.Depth.{callable}
use Rattle.camac_tokens.specs.declared.token.Keyword.TheVariants as keyword
use Rattle.camac_tokens.specs.declared.token.Token.{Token}
use Rattle.camac_tokens.specs.declared.token.TokenKind.{TokenKind}
use Rattle.camac_tokens.specs.declared.token.TokenKind.TheVariants as kind
use Rattle.camac_tokens.specs.declared.token.Sign.TheVariants as mark
use Rattle.camac_text_cursor.specs.declared.choice.Choice.TheVariants as choice
use Rattle.camac_text_cursor.specs.Reading.{State, ◌>>◌, give, change, advance, kind_of, after_first, until, check, one_more, miss}
use Rattle.camac_text_cursor.specs.Readers.{is_name, new_name, with_variable, new_variable, expect, any_number, branch_number, sub_address_number, used_lam, added, expect_sign, number_here, is_number, is_sign, new_parameter}
use Rattle.camac_text_cursor.specs.Declaring.{with_lam, with_variables_of, with_service, with_table, in_heading, with_procedure}
use Rattle.camac_text_cursor.proofs.Places.{hushed}
use Rattle.camac_text_cursor.proofs.Registers.{first_of_both, second_of_both}
use Rattle.camac_text_statements.specs.Statements.{block_at}
use Rattle.camac_text.specs.Declarations.{lam_declaration, one_more_variable, variable_declaration, service_declaration, declaration_by, declaration_at}
use Rattle.camac_text.specs.Tables.{word_after, one_more_word, table_words, table_declaration}
use Rattle.camac_text.specs.Procedures.{parameter_at, next_parameter, parameter_list, parameters_at, Heading, heading_at, procedure_made, procedure_declaration}
use Rattle.camac_text.proofs.Variables.{variables_progress}
use Rattle.camac_text.proofs.Listed.{new_same, prefix_or_after}
use Rattle.camac_text.proofs.TablesRead.{words_progress}
use Rattle.camac_text.proofs.ParametersRead.{names_of, parameters_progress}
use Rattle.camac_text_spelling.specs.Pieces.{Piece, first_piece, word, numeral, name, name_at, Names, Prefix, sign, others, separated}
use Rattle.camac_text_spelling.specs.Declarations as spell
use Rattle.camac_text_spelling.specs.Statements.{braced, block}
use Rattle.camac_text_spelling.proofs.Takes.{prefix_first, prefix_spot, prefix_split}
use Rattle.camac_text_spelling.proofs.GivesExpressions.{at, ok, after, checked, expected, number_given, branch_given, sub_address_given, new_name_seen, lam_given, until_off, until_turn, left, expected_sign, number_seen, sign_same}
use Rattle.camac_text_spelling.proofs.Walk.{take_all}
use Rattle.camac_text_spelling.proofs.Runs.{left_at, listed, block_of_listed, runs_with}
use Rattle.camac_text_spelling.proofs.GivesStatements.{RunsBraced, body_given}

-- Declarations that are spelled are read.

-- how a declaration begins
pub first_given : (spot : Spot) (k : TokenKind) (s : State) (ps : List Piece) (rest : List Token) → Prefix s.rest (first_piece spot k ∷ ps) rest → declaration_at s ≡ declaration_by spot (Some k) s
unfolding declaration_at
first_given spot k s ps rest f =
    let h = prefix_spot s.rest s.end_line spot k ps rest f in
    ap (λ (at : Spot). declaration_by at (kind_of s.rest) s) h.1 ∙ ap (λ (o : Option TokenKind). declaration_by spot o s) h.0

-- ---- a LAM

pub lam_declared : (l : Lam) (s0 : State) → let s : State = hushed s0 in (rest : List Token) → length s.lams < 64 → is_new l.name s.declared ≡ true → nat_lt l.sub_address 16 ≡ true → Prefix s.rest (spell.lam_declaration l) rest → declaration_at s ≡ ok tt (with_lam l (at s rest))
unfolding lam_declaration
lam_declared l s0 rest room new below f =
    let s : State = hushed s0 in
    let q4 : List Piece = numeral l.sub_address ∷ [] in
    let q3 : List Piece = numeral l.station ∷ q4 in
    let q2 : List Piece = numeral l.crate_no ∷ q3 in
    let q1 : List Piece = numeral 1 ∷ q2 in
    let h = prefix_spot s.rest s.end_line l.spot (kind.Keyword keyword.Cdlam) (name l.name ∷ q1) rest f in
    let t1 : List Token = after_first s.rest in
    let f1 = prefix_first t1 (name l.name) q1 rest h.2 in
    let t2 : List Token = after_first t1 in
    let f2 = prefix_first t2 (numeral 1) q2 rest f1.1 in
    let t3 : List Token = after_first t2 in
    let f3 = prefix_first t3 (numeral l.crate_no) q3 rest f2.1 in
    let t4 : List Token = after_first t3 in
    let f4 = prefix_first t4 (numeral l.station) q4 rest f3.1 in
    let t5 : List Token = after_first t4 in
    let f5 = prefix_first t5 (numeral l.sub_address) [] rest f4.1 in
    first_given l.spot (kind.Keyword keyword.Cdlam) s (name l.name ∷ q1) rest f
    ∙ checked (nat_lt (length s.lams) 64) _ _ s (lt-ltb (length s.lams) 64 room)
    (after (new_name (at s t1)) _ l.name (at s t1) (new_name_seen (at s t1) l.name f1.0 new)
    (after (branch_number (at s t2)) _ tt (at s t3) (branch_given (at s t2) f2.0)
    (after (any_number (at s t3)) _ l.crate_no (at s t4) (number_given (at s t3) l.crate_no f3.0)
    (after (any_number (at s t4)) _ l.station (at s t5) (number_given (at s t4) l.station f4.0)
    (after (sub_address_number (at s t5)) _ l.sub_address (at s (after_first t5)) (sub_address_given (at s t5) l.sub_address f5.0 below)
    (ap (λ (ts : List Token). ok tt (with_lam l (at s ts))) f5.1))))))

-- ---- variables

-- with these variables more
abbrev pub with_names : State → List Token → List Text → State
with_names s rest xs = record s { rest = rest; variables = s.variables ++ xs; variable_count = s.variable_count + length xs; declared = s.declared ++ xs }

-- a variable or a parameter, whose name stands next
pub name_added : (s0 : State) → let s : State = hushed s0 in (x : Text) → s.variable_count < 64 → added x s ≡ ok tt (with_names s (after_first s.rest) (x ∷ []))
unfolding added
name_added s0 x room =
    let s : State = hushed s0 in
    let one_more : suc s.variable_count ≡ s.variable_count + 1 = omega arith in
    checked (nat_lt s.variable_count 64) _ (advance >> change (with_variable x)) s (lt-ltb s.variable_count 64 room)
    (ap (λ (i : ℕ). ok tt (record s { rest = after_first s.rest; variables = s.variables ++ x ∷ []; variable_count = i; declared = s.declared ++ x ∷ [] })) one_more)

variable_declared : (s0 : State) → let s : State = hushed s0 in (x : Text) → kind_of s.rest ≡ Some (kind.Name x) → is_new x s.declared ≡ true → s.variable_count < 64 → new_variable s ≡ ok tt (with_names s (after_first s.rest) (x ∷ []))
unfolding new_variable
variable_declared s0 x e new room = let s : State = hushed s0 in after (new_name s) added x s (new_name_seen s x e new) (name_added s x room)

-- none more
pub no_names : (s : State) (rest : List Token) → s.rest ≡ rest → s ≡ with_names s rest []
no_names s rest same =
    let no_more : s.variable_count ≡ s.variable_count + 0 = omega arith in
    ap (λ (ts : List Token). at s ts) same
    ∙ ap (λ (xs : List Text). record s { rest = rest; variables = xs }) (sym (append-nil s.variables))
    ∙ ap (λ (i : ℕ). record s { rest = rest; variables = s.variables ++ []; variable_count = i }) no_more
    ∙ ap (λ (xs : List Text). record s { rest = rest; variables = s.variables ++ []; variable_count = s.variable_count + 0; declared = xs }) (sym (append-nil s.declared))

-- new after one more name as before it
pub new_after : (x : Text) (xs ds : List Text) → are_new xs (x ∷ ds) ≡ true → are_new xs (ds ++ x ∷ []) ≡ true
new_after x xs ds e = new_same xs (ds ++ x ∷ []) (x ∷ ds) (λ z. sym (prefix_or_after (x ∷ []) ds ds (λ y. refl) z)) ∙ e

-- one name and then others
pub names_joined : (s : State) (between rest : List Token) (x : Text) (xs : List Text) → with_names (with_names s between (x ∷ [])) rest xs ≡ with_names s rest (x ∷ xs)
names_joined s between rest x xs =
    let many : (s.variable_count + 1) + length xs ≡ s.variable_count + suc (length xs) = omega arith in
    ap (λ (ys : List Text). record s { rest = rest; variables = ys; variable_count = (s.variable_count + 1) + length xs; declared = (s.declared ++ x ∷ []) ++ xs }) (append_assoc s.variables (x ∷ []) xs)
    ∙ ap (λ (i : ℕ). record s { rest = rest; variables = s.variables ++ x ∷ xs; variable_count = i; declared = (s.declared ++ x ∷ []) ++ xs }) many
    ∙ ap (λ (ys : List Text). record s { rest = rest; variables = s.variables ++ x ∷ xs; variable_count = s.variable_count + suc (length xs); declared = ys }) (append_assoc s.declared (x ∷ []) xs)

names_declared : (xs : List Text) (counted : ℕ) (s0 : State) → let s : State = hushed s0 in (rest : List Token) → are_new xs s.declared ≡ true → s.variable_count + length xs ≤ 64 → Prefix s.rest (map name xs) rest → is_name (kind_of rest) ≡ false → until choice.Name is_name one_more_variable counted s ≡ ok (counted + length xs) (with_names s rest xs)
names_declared [] counted s0 rest new room f off =
    let s : State = hushed s0 in
    until_off choice.Name is_name one_more_variable counted s (ap (λ (ts : List Token). is_name (kind_of ts)) f ∙ off)
    ∙ ap (λ (i : ℕ). ok i s) (let zero_more : counted ≡ counted + 0 = omega arith in zero_more)
    ∙ ap (λ (w : State). ok (counted + 0) w) (no_names s rest f)
names_declared (x ∷ xs) counted s0 rest new room f off =
    let s : State = hushed s0 in
    let h = prefix_first s.rest (name x) (map name xs) rest f in
    let u : State = with_names s (after_first s.rest) (x ∷ []) in
    let total : (counted + 1) + length xs ≡ counted + suc (length xs) = omega arith in
    until_turn choice.Name is_name one_more_variable variables_progress counted s (counted + 1) u (ap is_name h.0)
    (after (new_variable s) (λ _. give (counted + 1)) tt u (variable_declared s x h.0 (first_of_both (is_new x s.declared) _ new) (omega arith)) refl)
    (names_declared xs (counted + 1) u rest (new_after x xs s.declared (second_of_both (is_new x s.declared) _ new)) (omega arith) h.1 off
    ∙ ap (λ (i : ℕ). ok i (with_names u rest xs)) total
    ∙ ap (λ (w : State). ok (counted + suc (length xs)) w) (names_joined s (after_first s.rest) rest x xs))

pub variables_declared : (spot : Spot) (n : ℕ) (xs : List Text) (s0 : State) → let s : State = hushed s0 in (rest : List Token) → 1 ≤ n → length xs ≡ n → are_new xs s.declared ≡ true → s.variable_count + length xs ≤ 64 → Prefix s.rest (spell.variable_declaration spot xs) rest → is_name (kind_of rest) ≡ false → declaration_at s ≡ ok tt (with_variables_of spot n (with_names s rest xs))
unfolding variable_declaration
variables_declared spot n [] s0 rest some many new room f off = let s : State = hushed s0 in absurd (omega arith)
variables_declared spot n (x ∷ xs) s0 rest some many new room f off =
    let s : State = hushed s0 in
    let h = prefix_spot s.rest s.end_line spot (kind.Keyword keyword.Var) (map name (x ∷ xs)) rest f in
    let t1 : List Token = after_first s.rest in
    let f1 = prefix_first t1 (name x) (map name xs) rest h.2 in
    let u : State = with_names s (after_first t1) (x ∷ []) in
    let is_n : 1 + length xs ≡ n = omega arith in
    first_given spot (kind.Keyword keyword.Var) s (map name (x ∷ xs)) rest f
    ∙ after (new_variable (at s t1)) _ tt u (variable_declared (at s t1) x f1.0 (first_of_both (is_new x s.declared) _ new) (omega arith))
    (after (until choice.Name is_name one_more_variable 1 u) _ (1 + length xs) (with_names u rest xs) (names_declared xs 1 u rest (new_after x xs s.declared (second_of_both (is_new x s.declared) _ new)) (omega arith) f1.1 off)
    (ap (λ (i : ℕ). ok tt (with_variables_of spot i (with_names u rest xs))) is_n
    ∙ ap (λ (w : State). ok tt (with_variables_of spot n w)) (names_joined (at s t1) (after_first t1) rest x xs)))

-- ---- a service

-- with this service more, and the statements of its body
abbrev pub with_body : State → List Token → Service → ℕ → State
with_body s rest v m = record s { rest = rest; services = s.services ++ v ∷ []; registers = []; statements = m; order = s.order ++ next_service ∷ [] }

pub service_declared : (t : Script) (v : Service) (s0 : State) → let s : State = hushed s0 in (rest : List Token) (m : ℕ) → length s.services < 24 → nat_lt v.lam (length s.lams) ≡ true → RunsBraced (spell.service_names t v) s 0 (length v.registers) m 16 v.body → Prefix s.rest (spell.service_declaration t v) rest → declaration_at s ≡ ok tt (with_body s rest v m)
unfolding service_declaration
service_declared t v s0 rest m room lam_fits c f =
    let s : State = hushed s0 in
    let n : Names = spell.service_names t v in
    let q8 : List Piece = braced (block n v.body) in
    let q7 : List Piece = word keyword.Words ∷ q8 in
    let q6 : List Piece = numeral v.words ∷ q7 in
    let q5 : List Piece = word keyword.Event ∷ q6 in
    let q4 : List Piece = word keyword.Cycles ∷ q5 in
    let q3 : List Piece = numeral v.cycles ∷ q4 in
    let q2 : List Piece = word keyword.Within ∷ q3 in
    let q1 : List Piece = name_at n.lams v.lam ∷ q2 in
    let h = prefix_spot s.rest s.end_line v.spot (kind.Keyword keyword.Service) q1 rest f in
    let t1 : List Token = after_first s.rest in
    let f1 = prefix_first t1 (name_at n.lams v.lam) q2 rest h.2 in
    let t2 : List Token = after_first t1 in
    let f2 = prefix_first t2 (word keyword.Within) q3 rest f1.1 in
    let t3 : List Token = after_first t2 in
    let f3 = prefix_first t3 (numeral v.cycles) q4 rest f2.1 in
    let t4 : List Token = after_first t3 in
    let f4 = prefix_first t4 (word keyword.Cycles) q5 rest f3.1 in
    let t5 : List Token = after_first t4 in
    let f5 = prefix_first t5 (word keyword.Event) q6 rest f4.1 in
    let t6 : List Token = after_first t5 in
    let f6 = prefix_first t6 (numeral v.words) q7 rest f5.1 in
    let t7 : List Token = after_first t6 in
    let f7 = prefix_first t7 (word keyword.Words) q8 rest f6.1 in
    let t8 : List Token = after_first t7 in
    let inside : RunsBraced n (at s t8) 0 (length v.registers) m 16 v.body = runs_with c c.registers c.reached c.within c.deep c.counted c.few in
    let k : ℕ = length v.registers in
    first_given v.spot (kind.Keyword keyword.Service) s q1 rest f
    ∙ checked (nat_lt (length s.services) 24) _ _ s (lt-ltb (length s.services) 24 room)
    (after (used_lam (at s t1)) _ v.lam (at s t2) (lam_given n (at s t1) v.lam c.finds lam_fits f1.0)
    (after (expect keyword.Within (at s t2)) _ tt (at s t3) (expected keyword.Within (at s t2) f2.0)
    (after (any_number (at s t3)) _ v.cycles (at s t4) (number_given (at s t3) v.cycles f3.0)
    (after (expect keyword.Cycles (at s t4)) _ tt (at s t5) (expected keyword.Cycles (at s t4) f4.0)
    (after (expect keyword.Event (at s t5)) _ tt (at s t6) (expected keyword.Event (at s t5) f5.0)
    (after (any_number (at s t6)) _ v.words (at s t7) (number_given (at s t6) v.words f6.0)
    (after (expect keyword.Words (at s t7)) _ tt (at s t8) (expected keyword.Words (at s t7) f7.0)
    (after (block_at 16 (at s t8)) _ (listed v.body) (left_at n s rest k m) (body_given n v.body 16 (at s t8) rest 0 k m inside f7.1)
    (ap (λ (rs : List Text). ok tt (with_service v.spot v.lam v.cycles v.words (listed v.body) (record s { rest = rest; registers = rs; statements = m }))) (take_all v.registers)
    ∙ ap (λ (b : Block). ok tt (with_body s rest (record v { body = b }) m)) (block_of_listed v.body))))))))))

-- Tables that are spelled are read.

-- one word after so many
word_given : (count : ℕ) (s0 : State) → let s : State = hushed s0 in (w : ℕ) → kind_of s.rest ≡ Some (kind.Number w) → is_word w ≡ true → count < 1024 → word_after count s ≡ ok w (at s (after_first s.rest))
unfolding word_after
word_given count s0 w next fits room =
    let s : State = hushed s0 in
    let most : w ≤ 16777215 = leb-true w 16777215 fits in
    let below : w < 16777216 = omega arith in
    after (number_here s) _ w s (number_seen s w next)
    (checked (nat_lt w 16777216) _ (check (nat_lt count 1024) _ >> (advance >> give w)) s (lt-ltb w 16777216 below)
    (checked (nat_lt count 1024) _ (advance >> give w) s (lt-ltb count 1024 room) refl))

-- the words after these
words_given : (ws acc : List ℕ) (s0 : State) → let s : State = hushed s0 in (rest : List Token) → each is_word ws ≡ true → length acc + length ws ≤ 1024 → Prefix s.rest (map numeral ws) rest → is_number (kind_of rest) ≡ false → until choice.Number is_number one_more_word acc s ≡ ok (acc ++ ws) (at s rest)
words_given [] acc s0 rest fit room f off =
    let s : State = hushed s0 in
    until_off choice.Number is_number one_more_word acc s (ap (λ (ts : List Token). is_number (kind_of ts)) f ∙ off)
    ∙ ap (λ (xs : List ℕ). ok xs s) (sym (append-nil acc))
    ∙ left (acc ++ []) s s.rest rest f
words_given (w ∷ ws) acc s0 rest fit room f off =
    let s : State = hushed s0 in
    let h = prefix_first s.rest (numeral w) (map numeral ws) rest f in
    let u : State = at s (after_first s.rest) in
    let longer : length (acc ++ w ∷ []) ≡ length acc + 1 = length-append acc (w ∷ []) in
    until_turn choice.Number is_number one_more_word words_progress acc s (acc ++ w ∷ []) u (ap is_number h.0)
    (after (word_after (length acc) s) (λ x. give (acc ++ x ∷ [])) w u (word_given (length acc) s w h.0 (first_of_both (is_word w) _ fit) (omega arith)) refl)
    (words_given ws (acc ++ w ∷ []) u rest (second_of_both (is_word w) _ fit) (omega arith) h.1 off
    ∙ ap (λ (xs : List ℕ). ok xs (at s rest)) (append_assoc acc (w ∷ []) ws))

all_words_given : (ws : List ℕ) (s0 : State) → let s : State = hushed s0 in (rest : List Token) → 1 ≤ length ws → length ws ≤ 1024 → each is_word ws ≡ true → Prefix s.rest (map numeral ws) rest → is_number (kind_of rest) ≡ false → table_words s ≡ ok ws (at s rest)
unfolding table_words
all_words_given [] s0 rest some few fit f off = let s : State = hushed s0 in absurd (omega arith)
all_words_given (w ∷ ws) s0 rest some few fit f off =
    let s : State = hushed s0 in
    let h = prefix_first s.rest (numeral w) (map numeral ws) rest f in
    let u : State = at s (after_first s.rest) in
    after (word_after 0 s) (λ first. until choice.Number is_number one_more_word (first ∷ [])) w u (word_given 0 s w h.0 (first_of_both (is_word w) _ fit) (omega arith))
    (words_given ws (w ∷ []) u rest (second_of_both (is_word w) _ fit) (omega arith) h.1 off)

pub table_declared : (g : Table) (s0 : State) → let s : State = hushed s0 in (rest : List Token) → length s.tables < 16 → is_new g.name s.declared ≡ true → 1 ≤ length g.words → length g.words ≤ 1024 → each is_word g.words ≡ true → Prefix s.rest (spell.table_declaration g) rest → is_number (kind_of rest) ≡ false → declaration_at s ≡ ok tt (with_table g (at s rest))
unfolding table_declaration
table_declared g s0 rest room new some few fit f off =
    let s : State = hushed s0 in
    let q2 : List Piece = map numeral g.words in
    let q1 : List Piece = sign mark.Equals ∷ q2 in
    let h = prefix_spot s.rest s.end_line g.spot (kind.Keyword keyword.Table) (name g.name ∷ q1) rest f in
    let t1 : List Token = after_first s.rest in
    let f1 = prefix_first t1 (name g.name) q1 rest h.2 in
    let t2 : List Token = after_first t1 in
    let f2 = prefix_first t2 (sign mark.Equals) q2 rest f1.1 in
    let t3 : List Token = after_first t2 in
    first_given g.spot (kind.Keyword keyword.Table) s (name g.name ∷ q1) rest f
    ∙ checked (nat_lt (length s.tables) 16) _ _ s (lt-ltb (length s.tables) 16 room)
    (after (new_name (at s t1)) _ g.name (at s t1) (new_name_seen (at s t1) g.name f1.0 new)
    (after (expect_sign mark.Equals (at s t2)) _ tt (at s t3) (expected_sign mark.Equals (at s t2) f2.0)
    (after (table_words (at s t3)) _ g.words (at s rest) (all_words_given g.words (at s t3) rest some few fit f2.1 off) refl)))

-- Procedures that are spelled are read.

-- ---- one parameter

name_of_parameter : (s0 : State) → let s : State = hushed s0 in (x : Text) → kind_of s.rest ≡ Some (kind.Name x) → is_new x s.declared ≡ true → length s.variables < 8 → s.variable_count < 64 → new_parameter s ≡ ok x (with_names s (after_first s.rest) (x ∷ []))
unfolding new_parameter
name_of_parameter s0 x e new few room =
    let s : State = hushed s0 in
    after (new_name s) _ x s (new_name_seen s x e new)
    (checked (nat_lt (length s.variables) 8) _ (added x >> give x) s (lt-ltb (length s.variables) 8 few)
    (after (added x s) (λ _. give x) tt (with_names s (after_first s.rest) (x ∷ [])) (name_added s x room) refl))

parameter_given : (s0 : State) → let s : State = hushed s0 in (p : Parameter) (rest : List Token) → is_new p.name s.declared ≡ true → length s.variables < 8 → s.variable_count < 64 → Prefix s.rest (spell.parameter p) rest → parameter_at s ≡ ok p (with_names s rest (p.name ∷ []))
unfolding parameter_at
parameter_given s0 p rest new few room f =
    let s : State = hushed s0 in
    let q3 : List Piece = numeral p.high ∷ [] in
    let q2 : List Piece = sign mark.UpTo ∷ q3 in
    let q1 : List Piece = numeral p.low ∷ q2 in
    let h = prefix_first s.rest (name p.name) (word keyword.In ∷ q1) rest f in
    let u : State = with_names s s.rest (p.name ∷ []) in
    let t1 : List Token = after_first s.rest in
    let f1 = prefix_first t1 (word keyword.In) q1 rest h.1 in
    let t2 : List Token = after_first t1 in
    let f2 = prefix_first t2 (numeral p.low) q2 rest f1.1 in
    let t3 : List Token = after_first t2 in
    let f3 = prefix_first t3 (sign mark.UpTo) q3 rest f2.1 in
    let t4 : List Token = after_first t3 in
    let f4 = prefix_first t4 (numeral p.high) [] rest f3.1 in
    after (new_parameter s) _ p.name (at u t1) (name_of_parameter s p.name h.0 new few room)
    (after (expect keyword.In (at u t1)) _ tt (at u t2) (expected keyword.In (at u t1) f1.0)
    (after (any_number (at u t2)) _ p.low (at u t3) (number_given (at u t2) p.low f2.0)
    (after (expect_sign mark.UpTo (at u t3)) _ tt (at u t4) (expected_sign mark.UpTo (at u t3) f3.0)
    (after (any_number (at u t4)) _ p.high (at u (after_first t4)) (number_given (at u t4) p.high f4.0) (left p u (after_first t4) rest f4.1)))))

-- ---- all parameters

abbrev comma_first : List Parameter → List Piece
comma_first ps = others (sign mark.Comma) spell.parameter ps

parameters_more : (ps acc : List Parameter) (s0 : State) → let s : State = hushed s0 in (rest : List Token) → are_new (names_of ps) s.declared ≡ true → length s.variables + length ps ≤ 8 → s.variable_count + length ps ≤ 64 → Prefix s.rest (comma_first ps) rest → is_sign mark.Comma (kind_of rest) ≡ false → until (choice.Mark mark.Comma) (is_sign mark.Comma) (one_more next_parameter) acc s ≡ ok (acc ++ ps) (with_names s rest (names_of ps))
unfolding next_parameter
parameters_more [] acc s0 rest new few room f off =
    let s : State = hushed s0 in
    until_off (choice.Mark mark.Comma) (is_sign mark.Comma) (one_more next_parameter) acc s (ap (λ (ts : List Token). is_sign mark.Comma (kind_of ts)) f ∙ off)
    ∙ ap (λ (xs : List Parameter). ok xs s) (sym (append-nil acc))
    ∙ ap (λ (w : State). ok (acc ++ []) w) (no_names s rest f)
parameters_more (p ∷ ps) acc s0 rest new few room f off =
    let s : State = hushed s0 in
    let m = prefix_split s.rest (sign mark.Comma ∷ spell.parameter p) (comma_first ps) rest f in
    let us : List Token = m.0 in
    let h = prefix_first s.rest (sign mark.Comma) (spell.parameter p) us m.1 in
    let t : State = at s (after_first s.rest) in
    let u : State = with_names s us (p.name ∷ []) in
    let longer : length (s.variables ++ p.name ∷ []) ≡ length s.variables + 1 = length-append s.variables (p.name ∷ []) in
    until_turn (choice.Mark mark.Comma) (is_sign mark.Comma) (one_more next_parameter) parameters_progress acc s (acc ++ p ∷ []) u (ap (is_sign mark.Comma) h.0 ∙ sign_same mark.Comma)
    (after (next_parameter s) (λ q. give (acc ++ q ∷ [])) p u (parameter_given t p us (first_of_both (is_new p.name s.declared) _ new) (omega arith) (omega arith) h.1) refl)
    (parameters_more ps (acc ++ p ∷ []) u rest (new_after p.name (names_of ps) s.declared (second_of_both (is_new p.name s.declared) _ new)) (omega arith) (omega arith) m.2 off
    ∙ ap (λ (xs : List Parameter). ok xs (with_names u rest (names_of ps))) (append_assoc acc (p ∷ []) ps)
    ∙ ap (λ (w : State). ok (acc ++ p ∷ ps) w) (names_joined s us rest p.name (names_of ps)))

parameters_listed : (p : Parameter) (ps : List Parameter) (s0 : State) → let s : State = hushed s0 in (rest : List Token) → are_new (names_of (p ∷ ps)) s.declared ≡ true → length s.variables + suc (length ps) ≤ 8 → s.variable_count + suc (length ps) ≤ 64 → Prefix s.rest (separated (sign mark.Comma) spell.parameter (p ∷ ps)) rest → is_sign mark.Comma (kind_of rest) ≡ false → parameter_list s ≡ ok (p ∷ ps) (with_names s rest (names_of (p ∷ ps)))
unfolding parameter_list
parameters_listed p ps s0 rest new few room f off =
    let s : State = hushed s0 in
    let m = prefix_split s.rest (spell.parameter p) (comma_first ps) rest f in
    let us : List Token = m.0 in
    let u : State = with_names s us (p.name ∷ []) in
    let longer : length (s.variables ++ p.name ∷ []) ≡ length s.variables + 1 = length-append s.variables (p.name ∷ []) in
    after (parameter_at s) _ p u (parameter_given s p us (first_of_both (is_new p.name s.declared) _ new) (omega arith) (omega arith) m.1)
    (parameters_more ps (p ∷ []) u rest (new_after p.name (names_of ps) s.declared (second_of_both (is_new p.name s.declared) _ new)) (omega arith) (omega arith) m.2 off
    ∙ ap (λ (w : State). ok (p ∷ ps) w) (names_joined s us rest p.name (names_of ps)))

-- the bracket after them
parameters_given : (ps : List Parameter) (s0 : State) → let s : State = hushed s0 in (rest : List Token) → are_new (names_of ps) s.declared ≡ true → length s.variables + length ps ≤ 8 → s.variable_count + length ps ≤ 64 → Prefix s.rest (separated (sign mark.Comma) spell.parameter ps) rest → kind_of rest ≡ Some (kind.Sign mark.RightBracket) → parameters_at s ≡ ok ps (with_names s rest (names_of ps))
unfolding parameters_at
parameters_given [] s0 rest new few room f bracket =
    let s : State = hushed s0 in
    ap (λ (k : Option TokenKind). cond (is_sign mark.RightBracket k) (give []) (miss (choice.Mark mark.RightBracket) >> parameter_list) s) (ap kind_of f ∙ bracket)
    ∙ ap (λ (w : State). ok [] w) (no_names s rest f)
parameters_given (p ∷ ps) s0 rest new few room f bracket =
    let s : State = hushed s0 in
    let m = prefix_split s.rest (spell.parameter p) (comma_first ps) rest f in
    let h = prefix_first s.rest (name p.name) (word keyword.In ∷ numeral p.low ∷ sign mark.UpTo ∷ numeral p.high ∷ []) m.0 m.1 in
    ap (λ (k : Option TokenKind). cond (is_sign mark.RightBracket k) (give []) (miss (choice.Mark mark.RightBracket) >> parameter_list) s) h.0
    ∙ parameters_listed p ps s rest new few room f (ap (is_sign mark.Comma) bracket)

-- ---- the heading

abbrev heading_of : Procedure → Heading
heading_of p = record { parameters = p.parameters; cycles = p.cycles; words = p.words; steps = p.steps }

abbrev after_bracket : Procedure → List Piece → List Piece
after_bracket p ps =
    word keyword.Within ∷ numeral p.cycles ∷ word keyword.Cycles ∷ word keyword.Event ∷ numeral p.words ∷ word keyword.Words
    ∷ word keyword.Steps ∷ numeral p.steps ∷ ps

abbrev heading : Procedure → List Piece → List Piece
heading p ps =
    sign mark.LeftBracket ∷ (separated (sign mark.Comma) spell.parameter p.parameters ++ sign mark.RightBracket ∷ after_bracket p ps)

-- the heading is read, and what is left of the tokens
heading_given : (p : Procedure) (s0 : State) → let s : State = hushed s0 in (ps : List Piece) (rest : List Token) → are_new (names_of p.parameters) s.declared ≡ true → length s.variables + length p.parameters ≤ 8 → s.variable_count + length p.parameters ≤ 64 → Prefix s.rest (heading p ps) rest → (us : List Token) × (heading_at s ≡ ok (heading_of p) (with_names s us (names_of p.parameters))) × Prefix us ps rest
unfolding heading_at
heading_given p s0 ps rest new few room f =
    let s : State = hushed s0 in
    let q0 : List Piece = separated (sign mark.Comma) spell.parameter p.parameters in
    let q8 : List Piece = numeral p.steps ∷ ps in
    let q7 : List Piece = word keyword.Steps ∷ q8 in
    let q6 : List Piece = word keyword.Words ∷ q7 in
    let q5 : List Piece = numeral p.words ∷ q6 in
    let q4 : List Piece = word keyword.Event ∷ q5 in
    let q3 : List Piece = word keyword.Cycles ∷ q4 in
    let q2 : List Piece = numeral p.cycles ∷ q3 in
    let q1 : List Piece = word keyword.Within ∷ q2 in
    let h = prefix_first s.rest (sign mark.LeftBracket) (q0 ++ sign mark.RightBracket ∷ q1) rest f in
    let t0 : List Token = after_first s.rest in
    let m = prefix_split t0 q0 (sign mark.RightBracket ∷ q1) rest h.1 in
    let t1 : List Token = m.0 in
    let f1 = prefix_first t1 (sign mark.RightBracket) q1 rest m.2 in
    let t2 : List Token = after_first t1 in
    let f2 = prefix_first t2 (word keyword.Within) q2 rest f1.1 in
    let t3 : List Token = after_first t2 in
    let f3 = prefix_first t3 (numeral p.cycles) q3 rest f2.1 in
    let t4 : List Token = after_first t3 in
    let f4 = prefix_first t4 (word keyword.Cycles) q4 rest f3.1 in
    let t5 : List Token = after_first t4 in
    let f5 = prefix_first t5 (word keyword.Event) q5 rest f4.1 in
    let t6 : List Token = after_first t5 in
    let f6 = prefix_first t6 (numeral p.words) q6 rest f5.1 in
    let t7 : List Token = after_first t6 in
    let f7 = prefix_first t7 (word keyword.Words) q7 rest f6.1 in
    let t8 : List Token = after_first t7 in
    let f8 = prefix_first t8 (word keyword.Steps) q8 rest f7.1 in
    let t9 : List Token = after_first t8 in
    let f9 = prefix_first t9 (numeral p.steps) ps rest f8.1 in
    let u : State = with_names s t1 (names_of p.parameters) in
    let read =
    after (expect_sign mark.LeftBracket s) _ tt (at s t0) (expected_sign mark.LeftBracket s h.0)
    (after (parameters_at (at s t0)) _ p.parameters u (parameters_given p.parameters (at s t0) t1 new few room m.1 f1.0)
    (after (expect_sign mark.RightBracket u) _ tt (at u t2) (expected_sign mark.RightBracket u f1.0)
    (after (expect keyword.Within (at u t2)) _ tt (at u t3) (expected keyword.Within (at u t2) f2.0)
    (after (any_number (at u t3)) _ p.cycles (at u t4) (number_given (at u t3) p.cycles f3.0)
    (after (expect keyword.Cycles (at u t4)) _ tt (at u t5) (expected keyword.Cycles (at u t4) f4.0)
    (after (expect keyword.Event (at u t5)) _ tt (at u t6) (expected keyword.Event (at u t5) f5.0)
    (after (any_number (at u t6)) _ p.words (at u t7) (number_given (at u t6) p.words f6.0)
    (after (expect keyword.Words (at u t7)) _ tt (at u t8) (expected keyword.Words (at u t7) f7.0)
    (after (expect keyword.Steps (at u t8)) _ tt (at u t9) (expected keyword.Steps (at u t8) f8.0)
    (after (any_number (at u t9)) _ p.steps (at u (after_first t9)) (number_given (at u t9) p.steps f9.0) refl)))))))))) in
    (after_first t9, read, f9.1)

-- ---- the whole procedure

-- the state in which its body begins
abbrev pub inside : State → List Token → Procedure → State
inside s rest p = with_names (in_heading p.name s) rest (names_of p.parameters)

-- with this procedure more, and the statements of its body
abbrev pub with_procedure_body : State → List Token → Procedure → ℕ → State
with_procedure_body s rest p m = record s {
  rest = rest;
  variable_count = s.variable_count + length (names_of p.parameters);
  declared = s.declared ++ p.name ∷ [];
  registers = [];
  in_procedure = false;
  outside = [];
  procedures = s.procedures ++ p ∷ [];
  callables = s.callables ++ callable s.callables p ∷ [];
  statements = m;
  order = s.order ++ next_procedure ∷ [];
}

pub procedure_declared : (t : Script) (p : Procedure) (s0 : State) → let s : State = hushed s0 in (rest : List Token) (m : ℕ) → length s.procedures < 16 → is_new p.name s.declared ≡ true → are_new (names_of p.parameters) (s.declared ++ p.name ∷ []) ≡ true → length p.parameters ≤ 8 → s.variable_count + length p.parameters ≤ 64 → RunsBraced (spell.procedure_names t p) (inside s s.rest p) 0 (length p.registers) m 16 p.body → Prefix s.rest (spell.procedure_declaration t p) rest → declaration_at s ≡ ok tt (with_procedure_body s rest p m)
unfolding procedure_declaration
procedure_declared t p s0 rest m room new new_parameters few count c f =
    let s : State = hushed s0 in
    let n : Names = spell.procedure_names t p in
    let body : List Piece = braced (block n p.body) in
    let q1 : List Piece = heading p body in
    let h = prefix_spot s.rest s.end_line p.spot (kind.Keyword keyword.Proc) (name p.name ∷ q1) rest f in
    let t1 : List Token = after_first s.rest in
    let f1 = prefix_first t1 (name p.name) q1 rest h.2 in
    let t2 : List Token = after_first t1 in
    let u : State = in_heading p.name (at s t2) in
    let g = heading_given p u body rest new_parameters (omega arith) count f1.1 in
    let us : List Token = g.0 in
    let v : State = with_names u us (names_of p.parameters) in
    let runs : RunsBraced n v 0 (length p.registers) m 16 p.body = runs_with c c.registers c.reached c.within c.deep c.counted c.few in
    let k : ℕ = length p.registers in
    let w : State = left_at n v rest k m in
    let names : ℕ = length (s.declared ++ p.name ∷ []) in
    let made : (rs : List Text) (b : Block) → Procedure = λ rs b. record p { registers = rs; body = b } in
    let with_it : Procedure → State = λ q. with_procedure q names w in
    first_given p.spot (kind.Keyword keyword.Proc) s (name p.name ∷ q1) rest f
    ∙ checked (nat_lt (length s.procedures) 16) _ _ s (lt-ltb (length s.procedures) 16 room)
    (after (new_name (at s t1)) _ p.name (at s t1) (new_name_seen (at s t1) p.name f1.0 new)
    (after (heading_at u) _ (heading_of p) v g.1
    (after (block_at 16 v) _ (listed p.body) w (body_given n p.body 16 v rest 0 k m runs g.2)
    (ap (λ (rs : List Text). ok tt (with_it (procedure_made p.spot p.name (heading_of p) rs (listed p.body)))) (take_all p.registers)
    ∙ ap (λ (b : Block). ok tt (with_it (record p { body = b }))) (block_of_listed p.body)
    ∙ ap (λ (ds : List Text). ok tt (record (with_procedure_body s rest p m) { declared = ds })) (take-append_seam (s.declared ++ p.name ∷ []) (names_of p.parameters))))))
