-- Codes of the tree: distinct trees have distinct codes, by which a proof tells them apart.
use Rattle.std.specs.Prelude.{◌≡◌, ℕ, List, Option, refl, eqb, false, true}
use Rattle.std.proofs.lemmas.Bool.{eq-eqb}
use Rattle.std.specs.Coded.{Coded, code_by, coded_list, coded_option, coded×, coded_ℕ}
use Rattle.std.proofs.Common.{ap}
use base.Stored.{Gv, gnil, gnum, gcons}
use Rattle.camac_range.specs.contracts.comparison.Cmp as comparison
use Rattle.camac_lang.specs.contracts.word.CrateCall as crate_call_word
use Rattle.camac_lang.specs.contracts.word.LamCall as lam_call_word
use Rattle.camac_lang.specs.contracts.word.WordSize as word_size
use Rattle.camac_lang.specs.Tree.{Text, Expression, number, variable, group, add, subtract, multiply, divide, remainder, Test, flag_q, flag_x, compare, Part, plain, negated, Move, no_data, into, from, Keep, Statement, assign, set_register, single, address_scan, q_stop, q_repeat, put, crate_call, lam_call, choose, choose_else, for_, for_each, while_, locked, call, Block, done, next, Table, Lam, Parameter, Procedure, Service, Item, next_table, next_lam, next_variables, next_procedure, next_service, Script}
use Rattle.camac_lang.specs.declared.spot.Spot.{Spot}

-- the number at the start of a code
abbrev pub tag : Gv → ℕ
tag gnil = 0
tag (gnum n) = n
tag (gcons a b) = number_of a
  where
    number_of : Gv → ℕ
    number_of gnil = 0
    number_of (gnum n) = n
    number_of (gcons a b) = 0

-- codes with different numbers at the start are not equal
pub clash : {A : Type 0} (x y : Gv) → x ≡ y → eqb (tag x) (tag y) ≡ false → A
clash x y e h = let same : eqb (tag x) (tag y) ≡ true = eq-eqb (tag x) (tag y) (ap tag e) in absurd (cc)

abbrev pub text_coded : Coded Text
text_coded = coded_list coded_ℕ

abbrev pub spot_coded : Coded Spot
spot_coded = code_by (ℕ × ℕ) (coded× coded_ℕ coded_ℕ) (λ s. (s.line, s.left)) (λ p. record { line = p.0; left = p.1 }) (λ _. refl)

abbrev pub expression_code : Expression → Gv
expression_code (number n) = gcons (gnum 0) (gnum n)
expression_code (variable x) = gcons (gnum 1) (gnum x)
expression_code (group e) = gcons (gnum 2) (expression_code e)
expression_code (add a b) = gcons (gnum 3) (gcons (expression_code a) (expression_code b))
expression_code (subtract a b) = gcons (gnum 4) (gcons (expression_code a) (expression_code b))
expression_code (multiply a b) = gcons (gnum 5) (gcons (expression_code a) (expression_code b))
expression_code (divide a d) = gcons (gnum 6) (gcons (expression_code a) (gnum d))
expression_code (remainder a d) = gcons (gnum 7) (gcons (expression_code a) (gnum d))

pub same_expression : (a b : Expression) → expression_code a ≡ expression_code b → a ≡ b
same_expression (number n) (number m) e = cc
same_expression (variable x) (variable y) e = cc
same_expression (group a) (group b) e = let h : expression_code a ≡ expression_code b = cc in ap group (same_expression a b h)
same_expression (add a b) (add c d) e =
    let h : expression_code a ≡ expression_code c = cc in
    let g : expression_code b ≡ expression_code d = cc in
    cc (same_expression a c h, same_expression b d g)
same_expression (subtract a b) (subtract c d) e =
    let h : expression_code a ≡ expression_code c = cc in
    let g : expression_code b ≡ expression_code d = cc in
    cc (same_expression a c h, same_expression b d g)
same_expression (multiply a b) (multiply c d) e =
    let h : expression_code a ≡ expression_code c = cc in
    let g : expression_code b ≡ expression_code d = cc in
    cc (same_expression a c h, same_expression b d g)
same_expression (divide a n) (divide b m) e =
    let h : expression_code a ≡ expression_code b = cc in cc (same_expression a b h)
same_expression (remainder a n) (remainder b m) e =
    let h : expression_code a ≡ expression_code b = cc in cc (same_expression a b h)
same_expression _ _ e = absurd (cc)

abbrev pub expression_coded : Coded Expression
expression_coded = record { code = expression_code; inj = same_expression }

abbrev pub test_code : Test → Gv
test_code flag_q = gnum 0
test_code flag_x = gnum 1
test_code (compare a c b) = gcons (expression_code a) (gcons (comparison.the_row.coded.code c) (expression_code b))

pub same_test : (a b : Test) → test_code a ≡ test_code b → a ≡ b
same_test flag_q flag_q e = refl
same_test flag_x flag_x e = refl
same_test (compare a c b) (compare a' c' b') e =
    let h : expression_code a ≡ expression_code a' = cc in
    let g : comparison.the_row.coded.code c ≡ comparison.the_row.coded.code c' = cc in
    let k : expression_code b ≡ expression_code b' = cc in
    cc (same_expression a a' h, comparison.the_row.coded.inj c c' g, same_expression b b' k)
same_test _ _ e = absurd (cc)

abbrev pub test_coded : Coded Test
test_coded = record { code = test_code; inj = same_test }

abbrev pub part_code : Part → Gv
part_code (plain t) = gcons (gnum 0) (test_coded.code t)
part_code (negated t) = gcons (gnum 1) (test_coded.code t)

pub same_part : (a b : Part) → part_code a ≡ part_code b → a ≡ b
same_part (plain t) (plain u) e = let h : test_coded.code t ≡ test_coded.code u = cc in ap plain (test_coded.inj t u h)
same_part (negated t) (negated u) e = let h : test_coded.code t ≡ test_coded.code u = cc in ap negated (test_coded.inj t u h)
same_part _ _ e = absurd (cc)

abbrev pub part_coded : Coded Part
part_coded = record { code = part_code; inj = same_part }

abbrev pub condition_coded : Coded (List Part)
condition_coded = coded_list part_coded

abbrev pub move_code : Move → Gv
move_code no_data = gnum 0
move_code (into x) = gcons (gnum 1) (gnum x)
move_code (from v) = gcons (gnum 2) (expression_coded.code v)

pub same_move : (a b : Move) → move_code a ≡ move_code b → a ≡ b
same_move no_data no_data e = refl
same_move (into x) (into y) e = cc
same_move (from v) (from w) e = let h : expression_coded.code v ≡ expression_coded.code w = cc in ap from (expression_coded.inj v w h)
same_move _ _ e = absurd (cc)

abbrev pub move_coded : Coded Move
move_coded = record { code = move_code; inj = same_move }

abbrev pub keeps_coded : Coded (List Keep)
keeps_coded =
    coded_list (code_by (ℕ × (ℕ × ℕ)) (coded× coded_ℕ (coded× coded_ℕ coded_ℕ)) (λ k. (k.variable, (k.low, k.high))) (λ p. record { variable = p.0; low = p.1.0; high = p.1.1 }) (λ _. refl))

abbrev pub parameters_coded : Coded (List Parameter)
parameters_coded =
    coded_list (code_by (Text × (ℕ × ℕ)) (coded× text_coded (coded× coded_ℕ coded_ℕ)) (λ k. (k.name, (k.low, k.high))) (λ p. record { name = p.0; low = p.1.0; high = p.1.1 }) (λ _. refl))

abbrev pub table_coded : Coded (Option ℕ)
table_coded = coded_option coded_ℕ

abbrev pub expressions_coded : Coded (List Expression)
expressions_coded = coded_list expression_coded

abbrev pub words_coded : Coded (List ℕ)
words_coded = coded_list coded_ℕ

abbrev pub names_coded : Coded (List Text)
names_coded = coded_list text_coded

abbrev mutual
  pub statement_code : Statement → Gv
  statement_code (assign x0 x1 x2) = gcons (gnum 0) (gcons (spot_coded.code x0) (gcons (gnum x1) (gcons (expression_coded.code x2) gnil)))
  statement_code (set_register x0 x1 x2 x3 x4) = gcons (gnum 1) (gcons (spot_coded.code x0) (gcons (gnum x1) (gcons (expression_coded.code x2) (gcons (expression_coded.code x3) (gcons (expression_coded.code x4) gnil)))))
  statement_code (single x0 x1 x2 x3 x4) = gcons (gnum 2) (gcons (spot_coded.code x0) (gcons (word_size.the_row.coded.code x1) (gcons (gnum x2) (gcons (gnum x3) (gcons (move_coded.code x4) gnil)))))
  statement_code (address_scan x0 x1 x2 x3 x4 x5) = gcons (gnum 3) (gcons (spot_coded.code x0) (gcons (gnum x1) (gcons (gnum x2) (gcons (gnum x3) (gcons (expression_coded.code x4) (gcons (gnum x5) gnil))))))
  statement_code (q_stop x0 x1 x2 x3 x4 x5) = gcons (gnum 4) (gcons (spot_coded.code x0) (gcons (gnum x1) (gcons (gnum x2) (gcons (table_coded.code x3) (gcons (expression_coded.code x4) (gcons (gnum x5) gnil))))))
  statement_code (q_repeat x0 x1 x2 x3 x4 x5 x6) = gcons (gnum 5) (gcons (spot_coded.code x0) (gcons (gnum x1) (gcons (gnum x2) (gcons (table_coded.code x3) (gcons (expression_coded.code x4) (gcons (expression_coded.code x5) (gcons (gnum x6) gnil)))))))
  statement_code (put x0 x1) = gcons (gnum 6) (gcons (spot_coded.code x0) (gcons (expression_coded.code x1) gnil))
  statement_code (crate_call x0 x1 x2) = gcons (gnum 7) (gcons (spot_coded.code x0) (gcons (crate_call_word.the_row.coded.code x1) (gcons (expression_coded.code x2) gnil)))
  statement_code (lam_call x0 x1 x2) = gcons (gnum 8) (gcons (spot_coded.code x0) (gcons (lam_call_word.the_row.coded.code x1) (gcons (gnum x2) gnil)))
  statement_code (choose x0 x1 x2) = gcons (gnum 9) (gcons (spot_coded.code x0) (gcons (condition_coded.code x1) (gcons (block_code x2) gnil)))
  statement_code (choose_else x0 x1 x2 x3) = gcons (gnum 10) (gcons (spot_coded.code x0) (gcons (condition_coded.code x1) (gcons (block_code x2) (gcons (block_code x3) gnil))))
  statement_code (for_ x0 x1 x2 x3 x4 x5) = gcons (gnum 11) (gcons (spot_coded.code x0) (gcons (gnum x1) (gcons (expression_coded.code x2) (gcons (expression_coded.code x3) (gcons (keeps_coded.code x4) (gcons (block_code x5) gnil))))))
  statement_code (while_ x0 x1 x2 x3 x4 x5) = gcons (gnum 12) (gcons (spot_coded.code x0) (gcons (condition_coded.code x1) (gcons (gnum x2) (gcons (gnum x3) (gcons (keeps_coded.code x4) (gcons (block_code x5) gnil))))))
  statement_code (locked x0 x1 x2) = gcons (gnum 13) (gcons (spot_coded.code x0) (gcons (expression_coded.code x1) (gcons (block_code x2) gnil)))
  statement_code (call x0 x1 x2) = gcons (gnum 14) (gcons (spot_coded.code x0) (gcons (gnum x1) (gcons (expressions_coded.code x2) gnil)))
  statement_code (for_each x0 x1 x2 x3 x4) = gcons (gnum 15) (gcons (spot_coded.code x0) (gcons (gnum x1) (gcons (gnum x2) (gcons (gnum x3) (gcons (block_code x4) gnil)))))

  pub block_code : Block → Gv
  block_code done = gnil
  block_code (next s b) = gcons (gnum 1) (gcons (statement_code s) (block_code b))

mutual
  pub same_statement : (s t : Statement) → statement_code s ≡ statement_code t → s ≡ t
  same_statement (assign x0 x1 x2) (assign y0 y1 y2) e =
      let h0 : spot_coded.code x0 ≡ spot_coded.code y0 = cc in
      let h2 : expression_coded.code x2 ≡ expression_coded.code y2 = cc in
      cc (spot_coded.inj x0 y0 h0, expression_coded.inj x2 y2 h2)
  same_statement (set_register x0 x1 x2 x3 x4) (set_register y0 y1 y2 y3 y4) e =
      let h0 : spot_coded.code x0 ≡ spot_coded.code y0 = cc in
      let h2 : expression_coded.code x2 ≡ expression_coded.code y2 = cc in
      let h3 : expression_coded.code x3 ≡ expression_coded.code y3 = cc in
      let h4 : expression_coded.code x4 ≡ expression_coded.code y4 = cc in
      cc (spot_coded.inj x0 y0 h0, expression_coded.inj x2 y2 h2, expression_coded.inj x3 y3 h3, expression_coded.inj x4 y4 h4)
  same_statement (single x0 x1 x2 x3 x4) (single y0 y1 y2 y3 y4) e =
      let h0 : spot_coded.code x0 ≡ spot_coded.code y0 = cc in
      let h1 : word_size.the_row.coded.code x1 ≡ word_size.the_row.coded.code y1 = cc in
      let h4 : move_coded.code x4 ≡ move_coded.code y4 = cc in
      cc (spot_coded.inj x0 y0 h0, word_size.the_row.coded.inj x1 y1 h1, move_coded.inj x4 y4 h4)
  same_statement (address_scan x0 x1 x2 x3 x4 x5) (address_scan y0 y1 y2 y3 y4 y5) e =
      let h0 : spot_coded.code x0 ≡ spot_coded.code y0 = cc in
      let h4 : expression_coded.code x4 ≡ expression_coded.code y4 = cc in
      cc (spot_coded.inj x0 y0 h0, expression_coded.inj x4 y4 h4)
  same_statement (q_stop x0 x1 x2 x3 x4 x5) (q_stop y0 y1 y2 y3 y4 y5) e =
      let h0 : spot_coded.code x0 ≡ spot_coded.code y0 = cc in
      let h3 : table_coded.code x3 ≡ table_coded.code y3 = cc in
      let h4 : expression_coded.code x4 ≡ expression_coded.code y4 = cc in
      cc (spot_coded.inj x0 y0 h0, table_coded.inj x3 y3 h3, expression_coded.inj x4 y4 h4)
  same_statement (q_repeat x0 x1 x2 x3 x4 x5 x6) (q_repeat y0 y1 y2 y3 y4 y5 y6) e =
      let h0 : spot_coded.code x0 ≡ spot_coded.code y0 = cc in
      let h3 : table_coded.code x3 ≡ table_coded.code y3 = cc in
      let h4 : expression_coded.code x4 ≡ expression_coded.code y4 = cc in
      let h5 : expression_coded.code x5 ≡ expression_coded.code y5 = cc in
      cc (spot_coded.inj x0 y0 h0, table_coded.inj x3 y3 h3, expression_coded.inj x4 y4 h4, expression_coded.inj x5 y5 h5)
  same_statement (put x0 x1) (put y0 y1) e =
      let h0 : spot_coded.code x0 ≡ spot_coded.code y0 = cc in
      let h1 : expression_coded.code x1 ≡ expression_coded.code y1 = cc in
      cc (spot_coded.inj x0 y0 h0, expression_coded.inj x1 y1 h1)
  same_statement (crate_call x0 x1 x2) (crate_call y0 y1 y2) e =
      let h0 : spot_coded.code x0 ≡ spot_coded.code y0 = cc in
      let h1 : crate_call_word.the_row.coded.code x1 ≡ crate_call_word.the_row.coded.code y1 = cc in
      let h2 : expression_coded.code x2 ≡ expression_coded.code y2 = cc in
      cc (spot_coded.inj x0 y0 h0, crate_call_word.the_row.coded.inj x1 y1 h1, expression_coded.inj x2 y2 h2)
  same_statement (lam_call x0 x1 x2) (lam_call y0 y1 y2) e =
      let h0 : spot_coded.code x0 ≡ spot_coded.code y0 = cc in
      let h1 : lam_call_word.the_row.coded.code x1 ≡ lam_call_word.the_row.coded.code y1 = cc in
      cc (spot_coded.inj x0 y0 h0, lam_call_word.the_row.coded.inj x1 y1 h1)
  same_statement (choose x0 x1 x2) (choose y0 y1 y2) e =
      let h0 : spot_coded.code x0 ≡ spot_coded.code y0 = cc in
      let h1 : condition_coded.code x1 ≡ condition_coded.code y1 = cc in
      let h2 : block_code x2 ≡ block_code y2 = cc in
      cc (spot_coded.inj x0 y0 h0, condition_coded.inj x1 y1 h1, same_block x2 y2 h2)
  same_statement (choose_else x0 x1 x2 x3) (choose_else y0 y1 y2 y3) e =
      let h0 : spot_coded.code x0 ≡ spot_coded.code y0 = cc in
      let h1 : condition_coded.code x1 ≡ condition_coded.code y1 = cc in
      let h2 : block_code x2 ≡ block_code y2 = cc in
      let h3 : block_code x3 ≡ block_code y3 = cc in
      cc (spot_coded.inj x0 y0 h0, condition_coded.inj x1 y1 h1, same_block x2 y2 h2, same_block x3 y3 h3)
  same_statement (for_ x0 x1 x2 x3 x4 x5) (for_ y0 y1 y2 y3 y4 y5) e =
      let h0 : spot_coded.code x0 ≡ spot_coded.code y0 = cc in
      let h2 : expression_coded.code x2 ≡ expression_coded.code y2 = cc in
      let h3 : expression_coded.code x3 ≡ expression_coded.code y3 = cc in
      let h4 : keeps_coded.code x4 ≡ keeps_coded.code y4 = cc in
      let h5 : block_code x5 ≡ block_code y5 = cc in
      cc (spot_coded.inj x0 y0 h0, expression_coded.inj x2 y2 h2, expression_coded.inj x3 y3 h3, keeps_coded.inj x4 y4 h4, same_block x5 y5 h5)
  same_statement (while_ x0 x1 x2 x3 x4 x5) (while_ y0 y1 y2 y3 y4 y5) e =
      let h0 : spot_coded.code x0 ≡ spot_coded.code y0 = cc in
      let h1 : condition_coded.code x1 ≡ condition_coded.code y1 = cc in
      let h4 : keeps_coded.code x4 ≡ keeps_coded.code y4 = cc in
      let h5 : block_code x5 ≡ block_code y5 = cc in
      cc (spot_coded.inj x0 y0 h0, condition_coded.inj x1 y1 h1, keeps_coded.inj x4 y4 h4, same_block x5 y5 h5)
  same_statement (locked x0 x1 x2) (locked y0 y1 y2) e =
      let h0 : spot_coded.code x0 ≡ spot_coded.code y0 = cc in
      let h1 : expression_coded.code x1 ≡ expression_coded.code y1 = cc in
      let h2 : block_code x2 ≡ block_code y2 = cc in
      cc (spot_coded.inj x0 y0 h0, expression_coded.inj x1 y1 h1, same_block x2 y2 h2)
  same_statement (call x0 x1 x2) (call y0 y1 y2) e =
      let h0 : spot_coded.code x0 ≡ spot_coded.code y0 = cc in
      let h2 : expressions_coded.code x2 ≡ expressions_coded.code y2 = cc in
      cc (spot_coded.inj x0 y0 h0, expressions_coded.inj x2 y2 h2)
  same_statement (for_each x0 x1 x2 x3 x4) (for_each y0 y1 y2 y3 y4) e =
      let h0 : spot_coded.code x0 ≡ spot_coded.code y0 = cc in
      let h4 : block_code x4 ≡ block_code y4 = cc in
      cc (spot_coded.inj x0 y0 h0, same_block x4 y4 h4)
  same_statement x y e = clash (statement_code x) (statement_code y) e refl

  pub same_block : (a b : Block) → block_code a ≡ block_code b → a ≡ b
  same_block done done e = refl
  same_block (next s a) (next t b) e =
      let h : statement_code s ≡ statement_code t = cc in
      let g : block_code a ≡ block_code b = cc in
      cc (same_statement s t h, same_block a b g)
  same_block x y e = clash (block_code x) (block_code y) e refl

abbrev pub block_coded : Coded Block
block_coded = record { code = block_code; inj = same_block }

abbrev pub item_code : Item → Gv
item_code next_table = gcons (gnum 0) gnil
item_code next_lam = gcons (gnum 1) gnil
item_code (next_variables x0 x1) = gcons (gnum 2) (gcons (spot_coded.code x0) (gcons (gnum x1) gnil))
item_code next_procedure = gcons (gnum 3) gnil
item_code next_service = gcons (gnum 4) gnil

pub same_item : (a b : Item) → item_code a ≡ item_code b → a ≡ b
same_item next_table next_table e = refl
same_item next_lam next_lam e = refl
same_item (next_variables x0 x1) (next_variables y0 y1) e = let h : spot_coded.code x0 ≡ spot_coded.code y0 = cc in cc (spot_coded.inj x0 y0 h)
same_item next_procedure next_procedure e = refl
same_item next_service next_service e = refl
same_item x y e = clash (item_code x) (item_code y) e refl

abbrev pub order_coded : Coded (List Item)
order_coded = coded_list (record { code = item_code; inj = same_item })

abbrev pub tables_coded : Coded (List Table)
tables_coded =
    coded_list (code_by (Spot × (Text × List ℕ)) (coded× spot_coded (coded× text_coded words_coded)) (λ r. (r.spot, (r.name, r.words))) (λ p. record { spot = p.0; name = p.1.0; words = p.1.1 }) (λ _. refl))

abbrev pub lams_coded : Coded (List Lam)
lams_coded =
    coded_list (code_by (Spot × (Text × (ℕ × (ℕ × ℕ)))) (coded× spot_coded (coded× text_coded (coded× coded_ℕ (coded× coded_ℕ coded_ℕ)))) (λ r. (r.spot, (r.name, (r.crate_no, (r.station, r.sub_address))))) (λ p. record { spot = p.0; name = p.1.0; crate_no = p.1.1.0; station = p.1.1.1.0; sub_address = p.1.1.1.1 }) (λ _. refl))

abbrev pub procedures_coded : Coded (List Procedure)
procedures_coded =
    coded_list (code_by (Spot × (Text × (List Parameter × (ℕ × (ℕ × (ℕ × (List Text × Block))))))) (coded× spot_coded (coded× text_coded (coded× parameters_coded (coded× coded_ℕ (coded× coded_ℕ (coded× coded_ℕ (coded× names_coded block_coded))))))) (λ r. (r.spot, (r.name, (r.parameters, (r.cycles, (r.words, (r.steps, (r.registers, r.body)))))))) (λ p. record { spot = p.0; name = p.1.0; parameters = p.1.1.0; cycles = p.1.1.1.0; words = p.1.1.1.1.0; steps = p.1.1.1.1.1.0; registers = p.1.1.1.1.1.1.0; body = p.1.1.1.1.1.1.1 }) (λ _. refl))

abbrev pub services_coded : Coded (List Service)
services_coded =
    coded_list (code_by (Spot × (ℕ × (ℕ × (ℕ × (List Text × Block))))) (coded× spot_coded (coded× coded_ℕ (coded× coded_ℕ (coded× coded_ℕ (coded× names_coded block_coded))))) (λ r. (r.spot, (r.lam, (r.cycles, (r.words, (r.registers, r.body)))))) (λ p. record { spot = p.0; lam = p.1.0; cycles = p.1.1.0; words = p.1.1.1.0; registers = p.1.1.1.1.0; body = p.1.1.1.1.1 }) (λ _. refl))

abbrev pub script_coded : Coded Script
script_coded =
    code_by (List Item × (List Table × (List Lam × (List Text × (List Procedure × List Service))))) (coded× order_coded (coded× tables_coded (coded× lams_coded (coded× names_coded (coded× procedures_coded services_coded))))) (λ r. (r.order, (r.tables, (r.lams, (r.variables, (r.procedures, r.services)))))) (λ p. record { order = p.0; tables = p.1.0; lams = p.1.1.0; variables = p.1.1.1.0; procedures = p.1.1.1.1.0; services = p.1.1.1.1.1 }) (λ _. refl)
