-- Readers of statements are local.
use Rattle.std.proofs.Common.{not, ◌≡◌, ℕ, zero, suc, true, false, List, Ok, [], ◌∷◌, Option, Some, None, refl, sym, ◌∙◌, Bool, cond}
use Rattle.camac_lang.specs.Tree.{no_data, into, from, assign, set_register, single, put, choose, choose_else, for_, for_each, while_, locked, Expression, Statement, Condition, Text, address_scan, q_stop, q_repeat, call, crate_call, lam_call}
use Rattle.camac_lang.specs.View.{block_of}
use Rattle.camac_lang.specs.declared.word.WordSize.{WordSize}
use Rattle.camac_lang.specs.declared.word.WordSize.TheVariants.{Full, Short}
use Rattle.camac_tokens.specs.declared.fault.Limit.TheVariants as limit
use Rattle.camac_tokens.specs.declared.fault.TextCase.TheVariants as text_case
use Rattle.camac_tokens.specs.declared.token.Keyword.TheVariants as word
use Rattle.camac_tokens.specs.declared.token.Sign.TheVariants as sign
use Rattle.camac_tokens.specs.declared.token.TokenKind.{TokenKind}
use Rattle.camac_tokens.specs.declared.token.TokenKind.TheVariants as kind
use Rattle.camac_text_cursor.specs.declared.choice.Choice.TheVariants as choice
use Rattle.camac_text_cursor.specs.Reading.{spot_here, State, Reader, fail, ◌>>=◌, ◌>>◌, give, peek, advance, check, kind_of, spot_of, many}
use Rattle.camac_text_cursor.specs.Readers.{begin, is_sign, is_each, expect, expect_sign, any_number, branch_number, function_number, set_name, used_register, used_variable, used_table, procedure_here, called, used_lam}
use Rattle.camac_text_phrases.specs.Expressions.{expression_at}
use Rattle.camac_text_statements.specs.Statements.{assignment, register_setting, move_by, move_at, single_action, put_action, else_by, if_statement, single_number, for_ends, each_ends, ends_by, for_statement, while_statement, lock_statement, statement_by, statement_with, is_no_end, block_at, switch_by, switch, crate_action, crate_switch, lam_action, lam_switch}
use Rattle.camac_text_phrases.specs.Conditions.{condition_at}
use Rattle.camac_text_phrases.specs.declared.keeping.Own.TheVariants as of_loop
use Rattle.camac_text_phrases.specs.Keeps.{keeps_at}
use Rattle.camac_text_statements.proofs.Blocks.{Body}
use Rattle.camac_text_statements.proofs.Bodies.{with_progress, block_ok}
use Rattle.camac_text_phrases.proofs.LocalConditions.{local_condition}
use Rattle.camac_text_phrases.proofs.LocalKeeps.{local_keeps}
use Rattle.camac_lang.specs.declared.word.CrateCall.TheVariants as crate_word
use Rattle.camac_lang.specs.declared.word.LamCall.TheVariants as lam_word
use Rattle.camac_text_cursor.specs.declared.choice.Choice.{Choice}
use Rattle.camac_text_cursor.specs.Expected.{suits}
use Rattle.camac_text_cursor.proofs.Places.{missed_all, admits, admits_one, IsLocal, Begins, IsHere, local_then, begins_then, begins_ask, begins_peek, begins_spot}
use Rattle.camac_text_cursor.proofs.Primitives.{local_give, local_fail, begins_fail, begins_advance, begins_check, begins_missed, here_admitted, refusal, local_match, local_wanting, local_test}
use Rattle.camac_text_cursor.proofs.Local.{begins_begin, local_expect, local_any_number, local_expect_sign, local_branch, local_function, local_set_name, local_used_register, local_used_variable, begins_variable_here, local_closed, local_used_table, local_procedure_here, begins_called, begins_take, local_used_lam}
use Rattle.camac_text_phrases.proofs.LocalExpressions.{local_expression}
use Rattle.camac_lang.specs.declared.spot.Spot.{Spot}
use Rattle.camac_tokens.specs.declared.token.Keyword.{Keyword}
use Rattle.camac_text_phrases.specs.Arguments.{arguments_at}
use Rattle.camac_text_statements.specs.Transfers.{last_bound, table_by, table_at, scan_statement, q_stop_statement, q_repeat_statement, call_statement}
use Rattle.camac_text_phrases.proofs.LocalArguments.{local_arguments}
use Rattle.camac_lang.specs.declared.word.CrateCall.{CrateCall}
use Rattle.camac_lang.specs.declared.word.LamCall.{LamCall}

-- Readers of crate calls and LAM calls are local.

begins_switch_by : (k : Option TokenKind) (s : State) → IsHere s → suits choice.Switch k ≡ true → Begins (switch_by k) s
begins_switch_by (Some (kind.Keyword word.On)) s here is = begins_take true s here
begins_switch_by (Some (kind.Keyword word.Off)) s here is = begins_take false s here
begins_switch_by _ s here is = absurd cc

no_switch_by : (k : Option TokenKind) (s : State) → suits choice.Switch k ≡ false → switch_by k s ≡ (let f : Reader Bool = refusal (choice.Switch ∷ []) None in f s)
no_switch_by (Some (kind.Keyword word.On)) s free = absurd cc
no_switch_by (Some (kind.Keyword word.Off)) s free = absurd cc
no_switch_by _ s free = refl

local_switch : (s : State) → IsLocal switch s
unfolding switch
local_switch s =
    local_wanting (choice.Switch ∷ []) (peek >>= switch_by) s
    (λ u is. begins_peek switch_by u (begins_switch_by (kind_of u.rest) u (here_admitted (choice.Switch ∷ []) u is) (sym (admits_one choice.Switch (kind_of u.rest)) ∙ is)))
    (λ u free. no_switch_by (kind_of u.rest) u (sym (admits_one choice.Switch (kind_of u.rest)) ∙ free))

pub begins_crate : (which : CrateCall) (room : ℕ) (spot : Spot) (s : State) → IsHere s → Begins (crate_action which room spot) s
unfolding crate_action
begins_crate which room spot s here =
    begins_then begin (λ _. expression_at room >>= λ c. give (crate_call spot which c)) s (begins_begin s here) (λ _ u.
    local_then (expression_at room) (λ c. give (crate_call spot which c)) u (local_expression room u) (λ c v. local_give (crate_call spot which c) v))

pub begins_crate_switch : (on off : CrateCall) (room : ℕ) (spot : Spot) (s : State) → IsHere s → Begins (crate_switch on off room spot) s
unfolding crate_switch
begins_crate_switch on off room spot s here =
    begins_then begin (λ _. expression_at room >>= λ c. switch >>= λ is. give (crate_call spot (cond is on off) c)) s (begins_begin s here) (λ _ u.
    local_then (expression_at room) (λ c. switch >>= λ is. give (crate_call spot (cond is on off) c)) u (local_expression room u) (λ c u.
    local_then switch (λ is. give (crate_call spot (cond is on off) c)) u (local_switch u) (λ is v. local_give (crate_call spot (cond is on off) c) v)))

pub begins_lam_action : (which : LamCall) (spot : Spot) (s : State) → IsHere s → Begins (lam_action which spot) s
unfolding lam_action
begins_lam_action which spot s here =
    begins_then begin (λ _. used_lam >>= λ l. give (lam_call spot which l)) s (begins_begin s here) (λ _ u.
    local_then used_lam (λ l. give (lam_call spot which l)) u (local_used_lam u) (λ l v. local_give (lam_call spot which l) v))

pub begins_lam_switch : (spot : Spot) (s : State) → IsHere s → Begins (lam_switch spot) s
unfolding lam_switch
begins_lam_switch spot s here =
    begins_then begin (λ _. used_lam >>= λ l. switch >>= λ is. give (lam_call spot (cond is lam_word.Enable lam_word.Disable) l)) s (begins_begin s here) (λ _ u.
    local_then used_lam (λ l. switch >>= λ is. give (lam_call spot (cond is lam_word.Enable lam_word.Disable) l)) u (local_used_lam u) (λ l u.
    local_then switch (λ is. give (lam_call spot (cond is lam_word.Enable lam_word.Disable) l)) u (local_switch u) (λ is v. local_give (lam_call spot (cond is lam_word.Enable lam_word.Disable) l) v)))

-- Readers of transfers and of calls are local.

local_bound : (w : Keyword) (room : ℕ) (s : State) → IsLocal (last_bound w room) s
unfolding last_bound
local_bound w room s =
    local_then (expect w) (λ _. expression_at room >>= λ b. expect word.Tally >> (used_variable >>= λ v. give (b, v))) s (local_expect w s) (λ _ u.
    local_then (expression_at room) (λ b. expect word.Tally >> (used_variable >>= λ v. give (b, v))) u (local_expression room u) (λ b u.
    local_then (expect word.Tally) (λ _. used_variable >>= λ v. give (b, v)) u (local_expect word.Tally u) (λ _ u.
    local_then used_variable (λ v. give (b, v)) u (local_used_variable u) (λ v u. local_give (b, v) u))))

begins_table_by : (k : Option TokenKind) (s : State) → IsHere s → suits (choice.Word word.Table) k ≡ true → Begins (table_by k) s
begins_table_by (Some (kind.Keyword word.Table)) s here is =
    begins_then advance (λ _. used_table >>= λ place. give (Some place)) s (begins_advance s here) (λ _ u.
    local_then used_table (λ place. give (Some place)) u (local_used_table u) (λ place v. local_give (Some place) v))
begins_table_by _ s here is = absurd cc

no_table_by : (k : Option TokenKind) (s : State) → suits (choice.Word word.Table) k ≡ false → table_by k s ≡ give None (missed_all (choice.Word word.Table ∷ []) s)
no_table_by (Some (kind.Keyword word.Table)) s free = absurd cc
no_table_by _ s free = refl

local_table : (s : State) → IsLocal table_at s
unfolding table_at
local_table s =
    local_match (choice.Word word.Table ∷ []) (peek >>= table_by) (give None) s
    (λ u is. begins_peek table_by u (begins_table_by (kind_of u.rest) u (here_admitted (choice.Word word.Table ∷ []) u is) (sym (admits_one (choice.Word word.Table) (kind_of u.rest)) ∙ is)))
    (λ u free. no_table_by (kind_of u.rest) u (sym (admits_one (choice.Word word.Table) (kind_of u.rest)) ∙ free)) (local_give None)

-- ---- transfers

pub begins_scan : (room : ℕ) (spot : Spot) (s : State) → IsHere s → Begins (scan_statement room spot) s
unfolding scan_statement
begins_scan room spot s here =
    begins_then begin (λ _. function_number >>= λ f. used_register >>= λ r. used_register >>= λ q. last_bound word.Max room >>= λ end. give (address_scan spot f r q end.0 end.1)) s (begins_begin s here) (λ _ u.
    local_then function_number (λ f. used_register >>= λ r. used_register >>= λ q. last_bound word.Max room >>= λ end. give (address_scan spot f r q end.0 end.1)) u (local_function u) (λ f u.
    local_then used_register (λ r. used_register >>= λ q. last_bound word.Max room >>= λ end. give (address_scan spot f r q end.0 end.1)) u (local_used_register u) (λ r u.
    local_then used_register (λ q. last_bound word.Max room >>= λ end. give (address_scan spot f r q end.0 end.1)) u (local_used_register u) (λ q u.
    local_then (last_bound word.Max room) (λ end. give (address_scan spot f r q end.0 end.1)) u (local_bound word.Max room u) (λ end u. local_give (address_scan spot f r q end.0 end.1) u)))))

pub begins_stop : (room : ℕ) (spot : Spot) (s : State) → IsHere s → Begins (q_stop_statement room spot) s
unfolding q_stop_statement
begins_stop room spot s here =
    begins_then begin (λ _. function_number >>= λ f. used_register >>= λ r. table_at >>= λ g. last_bound word.Max room >>= λ end. give (q_stop spot f r g end.0 end.1)) s (begins_begin s here) (λ _ u.
    local_then function_number (λ f. used_register >>= λ r. table_at >>= λ g. last_bound word.Max room >>= λ end. give (q_stop spot f r g end.0 end.1)) u (local_function u) (λ f u.
    local_then used_register (λ r. table_at >>= λ g. last_bound word.Max room >>= λ end. give (q_stop spot f r g end.0 end.1)) u (local_used_register u) (λ r u.
    local_then table_at (λ g. last_bound word.Max room >>= λ end. give (q_stop spot f r g end.0 end.1)) u (local_table u) (λ g u.
    local_then (last_bound word.Max room) (λ end. give (q_stop spot f r g end.0 end.1)) u (local_bound word.Max room u) (λ end u. local_give (q_stop spot f r g end.0 end.1) u)))))

pub begins_repeat : (room : ℕ) (spot : Spot) (s : State) → IsHere s → Begins (q_repeat_statement room spot) s
unfolding q_repeat_statement
begins_repeat room spot s here =
    begins_then begin (λ _. function_number >>= λ f. used_register >>= λ r. table_at >>= λ g. expect word.Max >> (expression_at room >>= λ m. last_bound word.Limit room >>= λ end. give (q_repeat spot f r g m end.0 end.1))) s (begins_begin s here) (λ _ u.
    local_then function_number (λ f. used_register >>= λ r. table_at >>= λ g. expect word.Max >> (expression_at room >>= λ m. last_bound word.Limit room >>= λ end. give (q_repeat spot f r g m end.0 end.1))) u (local_function u) (λ f u.
    local_then used_register (λ r. table_at >>= λ g. expect word.Max >> (expression_at room >>= λ m. last_bound word.Limit room >>= λ end. give (q_repeat spot f r g m end.0 end.1))) u (local_used_register u) (λ r u.
    local_then table_at (λ g. expect word.Max >> (expression_at room >>= λ m. last_bound word.Limit room >>= λ end. give (q_repeat spot f r g m end.0 end.1))) u (local_table u) (λ g u.
    local_then (expect word.Max) (λ _. expression_at room >>= λ m. last_bound word.Limit room >>= λ end. give (q_repeat spot f r g m end.0 end.1)) u (local_expect word.Max u) (λ _ u.
    local_then (expression_at room) (λ m. last_bound word.Limit room >>= λ end. give (q_repeat spot f r g m end.0 end.1)) u (local_expression room u) (λ m u.
    local_then (last_bound word.Limit room) (λ end. give (q_repeat spot f r g m end.0 end.1)) u (local_bound word.Limit room u) (λ end u. local_give (q_repeat spot f r g m end.0 end.1) u)))))))

-- ---- calls

pub begins_call : (room : ℕ) (spot : Spot) (s : State) → IsHere s → Begins (call_statement room spot) s
unfolding call_statement
begins_call room spot s here =
    begins_then begin (λ _. procedure_here >>= λ p. called room p >>= λ n. arguments_at room n >>= λ es. give (call spot p es)) s (begins_begin s here) (λ _ u.
    local_procedure_here (λ p. called room p >>= λ n. arguments_at room n >>= λ es. give (call spot p es)) u (λ p x v at.
    begins_then (called room p) (λ n. arguments_at room n >>= λ es. give (call spot p es)) v (begins_called room p x v at) (λ n w.
    local_then (arguments_at room n) (λ es. give (call spot p es)) w (local_arguments room n w) (λ es z. local_give (call spot p es) z))))

-- what begins a statement
abbrev statements : List Choice
statements = choice.Name ∷ choice.Statement ∷ []

begins_assignment : (room : ℕ) (spot : Spot) (s : State) (x : Text) → kind_of s.rest ≡ Some (kind.Name x) → Begins (assignment room spot) s
unfolding assignment
begins_assignment room spot s x at =
    begins_variable_here (λ v. begin >> (expect_sign sign.Equals >> (expression_at room >>= λ e. give (assign spot v e)))) s x at (λ v.
    begins_then begin (λ _. expect_sign sign.Equals >> (expression_at room >>= λ e. give (assign spot v e))) s (begins_begin s (kind.Name x, at)) (λ _ u.
    local_then (expect_sign sign.Equals) (λ _. expression_at room >>= λ e. give (assign spot v e)) u (local_expect_sign sign.Equals u) (λ _ u.
    local_then (expression_at room) (λ e. give (assign spot v e)) u (local_expression room u) (λ e u. local_give (assign spot v e) u))))

pub begins_setting : (room : ℕ) (spot : Spot) (s : State) → IsHere s → Begins (register_setting room spot) s
unfolding register_setting
begins_setting room spot s here =
    begins_then begin (λ _. set_name >>= λ r. branch_number >> (expression_at room >>= λ c. expression_at room >>= λ n. expression_at room >>= λ a. give (set_register spot r c n a))) s (begins_begin s here) (λ _ u.
    local_then set_name (λ r. branch_number >> (expression_at room >>= λ c. expression_at room >>= λ n. expression_at room >>= λ a. give (set_register spot r c n a))) u (local_set_name u) (λ r u.
    local_then branch_number (λ _. expression_at room >>= λ c. expression_at room >>= λ n. expression_at room >>= λ a. give (set_register spot r c n a)) u (local_branch u) (λ _ u.
    local_then (expression_at room) (λ c. expression_at room >>= λ n. expression_at room >>= λ a. give (set_register spot r c n a)) u (local_expression room u) (λ c u.
    local_then (expression_at room) (λ n. expression_at room >>= λ a. give (set_register spot r c n a)) u (local_expression room u) (λ n u.
    local_then (expression_at room) (λ a. give (set_register spot r c n a)) u (local_expression room u) (λ a u. local_give (set_register spot r c n a) u))))))

begins_move_by : (room : ℕ) (k : Option TokenKind) (s : State) → IsHere s → suits choice.Arrow k ≡ true → Begins (move_by room k) s
begins_move_by room (Some (kind.Sign sign.Into)) s here is =
    begins_then advance (λ _. used_variable >>= λ place. give (into place)) s (begins_advance s here) (λ _ u.
    local_then used_variable (λ place. give (into place)) u (local_used_variable u) (λ place v. local_give (into place) v))
begins_move_by room (Some (kind.Sign sign.From)) s here is =
    begins_then advance (λ _. expression_at room >>= λ value. give (from value)) s (begins_advance s here) (λ _ u.
    local_then (expression_at room) (λ value. give (from value)) u (local_expression room u) (λ value v. local_give (from value) v))
begins_move_by room _ s here is = absurd cc

no_move_by : (room : ℕ) (k : Option TokenKind) (s : State) → suits choice.Arrow k ≡ false → move_by room k s ≡ give no_data (missed_all (choice.Arrow ∷ []) s)
no_move_by room (Some (kind.Sign sign.Into)) s free = absurd cc
no_move_by room (Some (kind.Sign sign.From)) s free = absurd cc
no_move_by room _ s free = refl

local_move : (room : ℕ) (s : State) → IsLocal (move_at room) s
unfolding move_at
local_move room s =
    local_match (choice.Arrow ∷ []) (peek >>= move_by room) (give no_data) s
    (λ u is. begins_peek (move_by room) u (begins_move_by room (kind_of u.rest) u (here_admitted (choice.Arrow ∷ []) u is) (sym (admits_one choice.Arrow (kind_of u.rest)) ∙ is)))
    (λ u free. no_move_by room (kind_of u.rest) u (sym (admits_one choice.Arrow (kind_of u.rest)) ∙ free)) (local_give no_data)

pub begins_single : (size : WordSize) (room : ℕ) (spot : Spot) (s : State) → IsHere s → Begins (single_action size room spot) s
unfolding single_action
begins_single size room spot s here =
    begins_then begin (λ _. function_number >>= λ f. used_register >>= λ r. move_at room >>= λ m. give (single spot size f r m)) s (begins_begin s here) (λ _ u.
    local_then function_number (λ f. used_register >>= λ r. move_at room >>= λ m. give (single spot size f r m)) u (local_function u) (λ f u.
    local_then used_register (λ r. move_at room >>= λ m. give (single spot size f r m)) u (local_used_register u) (λ r u.
    local_then (move_at room) (λ m. give (single spot size f r m)) u (local_move room u) (λ m u. local_give (single spot size f r m) u))))

pub begins_put : (room : ℕ) (spot : Spot) (s : State) → IsHere s → Begins (put_action room spot) s
unfolding put_action
begins_put room spot s here =
    begins_then begin (λ _. expression_at room >>= λ value. give (put spot value)) s (begins_begin s here) (λ _ u.
    local_then (expression_at room) (λ value. give (put spot value)) u (local_expression room u) (λ value v. local_give (put spot value) v))

-- ---- all statements

module _ (room : ℕ) (block : Reader (List Statement)) (block_is : (s : State) (y : List Statement × State) → block s ≡ Ok y → Body room s y.0 y.1) (block_local : (s : State) → IsLocal block s) where
  begins_else_by : (spot : Spot) (c : Condition) (xs : List Statement) (k : Option TokenKind) (s : State) → IsHere s → suits (choice.Word word.Else) k ≡ true → Begins (else_by block spot c xs k) s
  begins_else_by spot c xs (Some (kind.Keyword word.Else)) s here is =
      begins_then advance (λ _. block >>= λ ys. give (choose_else spot c (block_of xs) (block_of ys))) s (begins_advance s here) (λ _ u.
      local_then block (λ ys. give (choose_else spot c (block_of xs) (block_of ys))) u (block_local u) (λ ys v. local_give (choose_else spot c (block_of xs) (block_of ys)) v))
  begins_else_by spot c xs _ s here is = absurd cc

  no_else_by : (spot : Spot) (c : Condition) (xs : List Statement) (k : Option TokenKind) (s : State) → suits (choice.Word word.Else) k ≡ false → else_by block spot c xs k s ≡ give (choose spot c (block_of xs)) (missed_all (choice.Word word.Else ∷ []) s)
  no_else_by spot c xs (Some (kind.Keyword word.Else)) s free = absurd cc
  no_else_by spot c xs _ s free = refl

  local_else : (spot : Spot) (c : Condition) (xs : List Statement) (s : State) → IsLocal (peek >>= λ k. else_by block spot c xs k) s
  local_else spot c xs s =
      local_match (choice.Word word.Else ∷ []) (peek >>= λ k. else_by block spot c xs k) (give (choose spot c (block_of xs))) s
      (λ u is. begins_peek (λ k. else_by block spot c xs k) u (begins_else_by spot c xs (kind_of u.rest) u (here_admitted (choice.Word word.Else ∷ []) u is) (sym (admits_one (choice.Word word.Else) (kind_of u.rest)) ∙ is)))
      (λ u free. no_else_by spot c xs (kind_of u.rest) u (sym (admits_one (choice.Word word.Else) (kind_of u.rest)) ∙ free)) (local_give (choose spot c (block_of xs)))

  pub begins_choice : (spot : Spot) (s : State) → IsHere s → Begins (if_statement room block spot) s
  unfolding if_statement
  begins_choice spot s here =
      begins_then begin (λ _. condition_at room >>= λ c. block >>= λ xs. peek >>= λ k. else_by block spot c xs k) s (begins_begin s here) (λ _ u.
      local_then (condition_at room) (λ c. block >>= λ xs. peek >>= λ k. else_by block spot c xs k) u (local_condition room u) (λ c u.
      local_then block (λ xs. peek >>= λ k. else_by block spot c xs k) u (block_local u) (λ xs v.
      local_else spot c xs v)))

  local_for_ends : (spot : Spot) (v : ℕ) (a b : Expression) (s : State) → IsLocal (for_ends block spot v a b) s
  local_for_ends spot v a b s =
      local_then (keeps_at (of_loop.Counter v)) (λ ks. block >>= λ xs. give (for_ spot v a b ks (block_of xs))) s (local_keeps (of_loop.Counter v) s) (λ ks u.
      local_then block (λ xs. give (for_ spot v a b ks (block_of xs))) u (block_local u) (λ xs u. local_give (for_ spot v a b ks (block_of xs)) u))

  begins_each : (spot : Spot) (v a b : ℕ) (s : State) → IsHere s → Begins (each_ends block spot v a b) s
  begins_each spot v a b s here =
      begins_then advance (λ _. block >>= λ xs. give (for_each spot v a b (block_of xs))) s (begins_advance s here) (λ _ u.
      local_then block (λ xs. give (for_each spot v a b (block_of xs))) u (block_local u) (λ xs u. local_give (for_each spot v a b (block_of xs)) u))

  local_ends : (spot : Spot) (v : ℕ) (a b : Expression) (o p : Option ℕ) (s : State) → IsLocal (ends_by block spot v a b o p) s
  local_ends spot v a b (Some n) (Some m) s =
      local_test choice.Each is_each (λ at. refl) (each_ends block spot v n m) (for_ends block spot v a b) s
      (λ u is. begins_each spot v n m u (here_admitted (choice.Each ∷ []) u (admits_one choice.Each (kind_of u.rest) ∙ is))) (λ u. local_for_ends spot v a b u)
  local_ends spot v a b _ _ s = local_for_ends spot v a b s

  pub begins_for_statement : (spot : Spot) (s : State) → IsHere s → Begins (for_statement room block spot) s
  unfolding for_statement
  begins_for_statement spot s here =
      begins_then begin (λ _. used_variable >>= λ v. expect_sign sign.Equals >> (expression_at room >>= λ a. expect word.To >> (expression_at room >>= λ b. ends_by block spot v a b (single_number a) (single_number b)))) s (begins_begin s here) (λ _ u.
      local_then used_variable (λ v. expect_sign sign.Equals >> (expression_at room >>= λ a. expect word.To >> (expression_at room >>= λ b. ends_by block spot v a b (single_number a) (single_number b)))) u (local_used_variable u) (λ v u.
      local_then (expect_sign sign.Equals) (λ _. expression_at room >>= λ a. expect word.To >> (expression_at room >>= λ b. ends_by block spot v a b (single_number a) (single_number b))) u (local_expect_sign sign.Equals u) (λ _ u.
      local_then (expression_at room) (λ a. expect word.To >> (expression_at room >>= λ b. ends_by block spot v a b (single_number a) (single_number b))) u (local_expression room u) (λ a u.
      local_then (expect word.To) (λ _. expression_at room >>= λ b. ends_by block spot v a b (single_number a) (single_number b)) u (local_expect word.To u) (λ _ u.
      local_then (expression_at room) (λ b. ends_by block spot v a b (single_number a) (single_number b)) u (local_expression room u) (λ b u.
      local_ends spot v a b (single_number a) (single_number b) u))))))

  pub begins_while_statement : (spot : Spot) (s : State) → IsHere s → Begins (while_statement room block spot) s
  unfolding while_statement
  begins_while_statement spot s here =
      begins_then begin (λ _. condition_at room >>= λ c. expect word.Turns >> (any_number >>= λ n. expect word.By >> (used_variable >>= λ v. keeps_at (of_loop.Measure v) >>= λ ks. block >>= λ xs. give (while_ spot c n v ks (block_of xs))))) s (begins_begin s here) (λ _ u.
      local_then (condition_at room) (λ c. expect word.Turns >> (any_number >>= λ n. expect word.By >> (used_variable >>= λ v. keeps_at (of_loop.Measure v) >>= λ ks. block >>= λ xs. give (while_ spot c n v ks (block_of xs))))) u (local_condition room u) (λ c u.
      local_then (expect word.Turns) (λ _. any_number >>= λ n. expect word.By >> (used_variable >>= λ v. keeps_at (of_loop.Measure v) >>= λ ks. block >>= λ xs. give (while_ spot c n v ks (block_of xs)))) u (local_expect word.Turns u) (λ _ u.
      local_then any_number (λ n. expect word.By >> (used_variable >>= λ v. keeps_at (of_loop.Measure v) >>= λ ks. block >>= λ xs. give (while_ spot c n v ks (block_of xs)))) u (local_any_number u) (λ n u.
      local_then (expect word.By) (λ _. used_variable >>= λ v. keeps_at (of_loop.Measure v) >>= λ ks. block >>= λ xs. give (while_ spot c n v ks (block_of xs))) u (local_expect word.By u) (λ _ u.
      local_then used_variable (λ v. keeps_at (of_loop.Measure v) >>= λ ks. block >>= λ xs. give (while_ spot c n v ks (block_of xs))) u (local_used_variable u) (λ v u.
      local_then (keeps_at (of_loop.Measure v)) (λ ks. block >>= λ xs. give (while_ spot c n v ks (block_of xs))) u (local_keeps (of_loop.Measure v) u) (λ ks u.
      local_then block (λ xs. give (while_ spot c n v ks (block_of xs))) u (block_local u) (λ xs u. local_give (while_ spot c n v ks (block_of xs)) u))))))))

  begins_locking : (spot : Spot) (s : State) → IsHere s → Begins (lock_statement room block spot) s
  unfolding lock_statement
  begins_locking spot s here =
      begins_ask (λ w. w.in_procedure) (λ w ts n. refl) (λ b. check (not b) text_case.LockInProcedure >> (begin >> (expression_at room >>= λ e. block >>= λ xs. give (locked spot e (block_of xs))))) s
      (begins_check (not s.in_procedure) text_case.LockInProcedure (begin >> (expression_at room >>= λ e. block >>= λ xs. give (locked spot e (block_of xs)))) s refl tt (λ _.
      begins_then begin (λ _. expression_at room >>= λ e. block >>= λ xs. give (locked spot e (block_of xs))) s (begins_begin s here) (λ _ u.
      local_then (expression_at room) (λ e. block >>= λ xs. give (locked spot e (block_of xs))) u (local_expression room u) (λ e u.
      local_then block (λ xs. give (locked spot e (block_of xs))) u (block_local u) (λ xs u. local_give (locked spot e (block_of xs)) u)))))

  begins_statement_by : (spot : Spot) (k : Option TokenKind) (s : State) → IsHere s → kind_of s.rest ≡ k → admits statements k ≡ true → Begins (statement_by room block spot k) s
  begins_statement_by spot (Some (kind.Name x)) s here at is = begins_missed (choice.Statement ∷ []) (assignment room spot) s (begins_assignment room spot (missed_all (choice.Statement ∷ []) s) x at)
  begins_statement_by spot (Some (kind.Keyword word.Cdreg)) s here at is = begins_setting room spot s here
  begins_statement_by spot (Some (kind.Keyword word.Cfsa)) s here at is = begins_single Full room spot s here
  begins_statement_by spot (Some (kind.Keyword word.Cssa)) s here at is = begins_single Short room spot s here
  begins_statement_by spot (Some (kind.Keyword word.Put)) s here at is = begins_put room spot s here
  begins_statement_by spot (Some (kind.Keyword word.If)) s here at is = begins_choice spot s here
  begins_statement_by spot (Some (kind.Keyword word.For)) s here at is = begins_for_statement spot s here
  begins_statement_by spot (Some (kind.Keyword word.While)) s here at is = begins_while_statement spot s here
  begins_statement_by spot (Some (kind.Keyword word.Lock)) s here at is = begins_locking spot s here
  begins_statement_by spot (Some (kind.Keyword word.Cfmad)) s here at is = begins_scan room spot s here
  begins_statement_by spot (Some (kind.Keyword word.Cfubc)) s here at is = begins_stop room spot s here
  begins_statement_by spot (Some (kind.Keyword word.Cfubr)) s here at is = begins_repeat room spot s here
  begins_statement_by spot (Some (kind.Keyword word.Call)) s here at is = begins_call room spot s here
  begins_statement_by spot (Some (kind.Keyword word.Cccz)) s here at is = begins_crate crate_word.Initialise room spot s here
  begins_statement_by spot (Some (kind.Keyword word.Cccc)) s here at is = begins_crate crate_word.Clear room spot s here
  begins_statement_by spot (Some (kind.Keyword word.Ctci)) s here at is = begins_crate crate_word.TestInhibit room spot s here
  begins_statement_by spot (Some (kind.Keyword word.Ctcd)) s here at is = begins_crate crate_word.TestDemandOutput room spot s here
  begins_statement_by spot (Some (kind.Keyword word.Ctgl)) s here at is = begins_crate crate_word.TestDemand room spot s here
  begins_statement_by spot (Some (kind.Keyword word.Ccci)) s here at is = begins_crate_switch crate_word.InhibitOn crate_word.InhibitOff room spot s here
  begins_statement_by spot (Some (kind.Keyword word.Cccd)) s here at is = begins_crate_switch crate_word.DemandOn crate_word.DemandOff room spot s here
  begins_statement_by spot (Some (kind.Keyword word.Cclm)) s here at is = begins_lam_switch spot s here
  begins_statement_by spot (Some (kind.Keyword word.Cclc)) s here at is = begins_lam_action lam_word.Clear spot s here
  begins_statement_by spot (Some (kind.Keyword word.Ctlm)) s here at is = begins_lam_action lam_word.Test spot s here
  begins_statement_by spot _ s here at is = absurd cc

  no_statement_by : (spot : Spot) (k : Option TokenKind) (s : State) → admits statements k ≡ false → statement_by room block spot k s ≡ (let f : Reader Statement = refusal statements None in f s)
  no_statement_by spot (Some (kind.Name x)) s free = absurd cc
  no_statement_by spot (Some (kind.Keyword word.Cdreg)) s free = absurd cc
  no_statement_by spot (Some (kind.Keyword word.Cfsa)) s free = absurd cc
  no_statement_by spot (Some (kind.Keyword word.Cssa)) s free = absurd cc
  no_statement_by spot (Some (kind.Keyword word.Put)) s free = absurd cc
  no_statement_by spot (Some (kind.Keyword word.If)) s free = absurd cc
  no_statement_by spot (Some (kind.Keyword word.For)) s free = absurd cc
  no_statement_by spot (Some (kind.Keyword word.While)) s free = absurd cc
  no_statement_by spot (Some (kind.Keyword word.Lock)) s free = absurd cc
  no_statement_by spot (Some (kind.Keyword word.Cfmad)) s free = absurd cc
  no_statement_by spot (Some (kind.Keyword word.Cfubc)) s free = absurd cc
  no_statement_by spot (Some (kind.Keyword word.Cfubr)) s free = absurd cc
  no_statement_by spot (Some (kind.Keyword word.Call)) s free = absurd cc
  no_statement_by spot (Some (kind.Keyword word.Cccz)) s free = absurd cc
  no_statement_by spot (Some (kind.Keyword word.Cccc)) s free = absurd cc
  no_statement_by spot (Some (kind.Keyword word.Ctci)) s free = absurd cc
  no_statement_by spot (Some (kind.Keyword word.Ctcd)) s free = absurd cc
  no_statement_by spot (Some (kind.Keyword word.Ctgl)) s free = absurd cc
  no_statement_by spot (Some (kind.Keyword word.Ccci)) s free = absurd cc
  no_statement_by spot (Some (kind.Keyword word.Cccd)) s free = absurd cc
  no_statement_by spot (Some (kind.Keyword word.Cclm)) s free = absurd cc
  no_statement_by spot (Some (kind.Keyword word.Cclc)) s free = absurd cc
  no_statement_by spot (Some (kind.Keyword word.Ctlm)) s free = absurd cc
  no_statement_by spot _ s free = refl

  -- a statement, where it was looked for the end of the block
  abbrev statement_here : Reader Statement
  statement_here = spot_here >>= λ spot. peek >>= λ k. statement_by room block spot k

  local_statement : (s : State) → IsLocal statement_here s
  local_statement s =
      local_wanting statements statement_here s
      (λ u is. begins_spot (λ spot. peek >>= λ k. statement_by room block spot k) u (begins_peek (λ k. statement_by room block (spot_of u.rest u.end_line) k) u (begins_statement_by (spot_of u.rest u.end_line) (kind_of u.rest) u (here_admitted statements u is) refl is)))
      (λ u free. no_statement_by (spot_of u.rest u.end_line) (kind_of u.rest) u free)

  local_statements : (s : State) → IsLocal (many is_no_end (statement_with room block) >>= λ body. expect_sign sign.RightBrace >> give body) s
  unfolding many statement_with
  local_statements s = local_closed sign.RightBrace statement_here (with_progress room block block_is) local_statement [] s

pub local_block : (room : ℕ) (s : State) → IsLocal (block_at room) s
unfolding block_at
local_block zero s =
    local_test (choice.Mark sign.LeftBrace) (is_sign sign.LeftBrace) (λ at. refl) (fail (text_case.Limit limit.Depth)) (fail text_case.Unexpected) s (λ u _. begins_fail (text_case.Limit limit.Depth) u refl tt) (λ u. local_fail text_case.Unexpected u tt)
local_block (suc room) s =
    local_then (expect_sign sign.LeftBrace) (λ _. many is_no_end (statement_with room (block_at room)) >>= λ body. expect_sign sign.RightBrace >> give body) s (local_expect_sign sign.LeftBrace s) (λ _ u. local_statements room (block_at room) (block_ok room) (local_block room) u)
