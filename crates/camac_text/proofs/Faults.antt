-- Readers of declarations are local, so a fault is at a token, and no token after it matters.
use Rattle.std.proofs.Common.{◌≡◌, ℕ, Bool, true, false, cond, nat_lt, List, [], ◌∷◌, ◌++◌, length, refl, ◌∙◌, ◌+◌, Option, Some, None, sym, Result, Ok, Err, ap, subst, not, ◌&&◌, eqb}
use Rattle.std.proofs.lemmas.Bool.{and_parts}
use Rattle.std.specs.Prelude.{is_none}
use Rattle.camac_lang.specs.Tree.{Text, Statement, Parameter, Lam, Table, Script}
use Rattle.camac_lang.specs.declared.spot.Spot.{Spot}
use Rattle.camac_tokens.specs.declared.fault.Limit.TheVariants as limit
use Rattle.camac_tokens.specs.declared.fault.TextCase.TheVariants as text_case
use Rattle.camac_tokens.specs.declared.token.Keyword.TheVariants as word
use Rattle.camac_tokens.specs.declared.token.Sign.TheVariants as sign
use Rattle.camac_tokens.specs.declared.token.TokenKind.TheVariants as kind
use Rattle.camac_tokens.specs.declared.token.TokenKind.{TokenKind}
use Rattle.camac_tokens.specs.declared.token.Token.{Token}
use Rattle.camac_tokens.specs.declared.fault.TextFault.{TextFault}
use Rattle.camac_tokens.specs.declared.fault.TextFault.TheVariants as text_fault
use Rattle.camac_tokens.specs.Fault.{Fault, Answers}
use Rattle.camac_tokens.specs.Scanning.{tokens_of, last_line}
use Rattle.camac_tokens.specs.Left.{ahead_of, end_by}
use Rattle.camac_text_cursor.specs.declared.choice.Choice.TheVariants as choice
use Rattle.camac_text_cursor.specs.Reading.{State, Reader, then_read, peek, ◌>>=◌, ◌>>◌, give, ask, change, advance, check, kind_of, one_more, until, miss, spot_here, spot_of, Fault as Failure, fault_of}
use Rattle.camac_text_cursor.specs.Readers.{is_sign, expect, expect_sign, any_number, new_name, new_parameter, is_name, branch_number, sub_address_number, new_variable, used_lam, is_number}
use Rattle.camac_text_cursor.specs.Declaring.{in_heading, opened, with_procedure, with_lam, with_variables_of, with_service, with_table}
use Rattle.camac_text_cursor.specs.Expected.{suits}
use Rattle.camac_text_cursor.specs.Parser.{line_in}
use Rattle.camac_text_cursor.proofs.Places.{admits_one, IsLocal, Begins, IsHere, local_then, begins_then, local_same, local_ask, begins_ask, begins_spot, begins_peek, hushed}
use Rattle.camac_text_cursor.proofs.Primitives.{local_give, local_change, begins_advance, begins_check, here_admitted, local_test, local_until, refusal, local_wanting, IsLocalToEnd, local_to_end}
use Rattle.camac_text_cursor.proofs.Local.{local_expect, begins_expect_sign, local_expect_sign, local_any_number, local_new_name, local_new_parameter, local_branch, local_sub_address, name_in, begins_new_variable, local_new_variable, local_used_lam, begins_take, number_in, begins_numbered, local_numbered}
use Rattle.camac_text_statements.specs.Statements.{block_at}
use Rattle.camac_text_statements.proofs.LocalStatements.{local_block}
use Rattle.camac_text.specs.Procedures.{parameter_at, next_parameter, parameter_list, parameters_at, Heading, heading_at, procedure_made, procedure_declaration}
use Rattle.camac_text.specs.Declarations.{lam_declaration, one_more_variable, variable_declaration, service_declaration, declaration_by, declaration_at, is_token, declarations_at}
use Rattle.camac_text.specs.Tables.{word_after, one_more_word, table_words, table_declaration}
use Rattle.camac_text.specs.Parser.{start, tree_in, tree_of_tokens, tree_after, script_of, unread_in, judged}
use Rattle.camac_text.specs.Places.{IsPlaced, HasFaultAfter, HasFault, FaultIs}
use Rattle.camac_text.proofs.ParametersRead.{parameters_progress, from_steps, from_cycles as from_cycles_of_parametersread, from_bracket}
use Rattle.camac_text.proofs.Declares.{declarations_progress}
use Rattle.camac_text.proofs.Variables.{variables_progress}
use Rattle.camac_text.proofs.TablesRead.{words_progress}

-- Readers of procedures are local.

-- ---- the heading

abbrev made : Text → ℕ → ℕ → Parameter
made x low high = record { name = x; low = low; high = high }

local_parameter : (s : State) → IsLocal parameter_at s
unfolding parameter_at
local_parameter s =
    local_then new_parameter (λ x. expect word.In >> (any_number >>= λ low. expect_sign sign.UpTo >> (any_number >>= λ high. give (made x low high)))) s (local_new_parameter s) (λ x u.
    local_then (expect word.In) (λ _. any_number >>= λ low. expect_sign sign.UpTo >> (any_number >>= λ high. give (made x low high))) u (local_expect word.In u) (λ _ u.
    local_then any_number (λ low. expect_sign sign.UpTo >> (any_number >>= λ high. give (made x low high))) u (local_any_number u) (λ low u.
    local_then (expect_sign sign.UpTo) (λ _. any_number >>= λ high. give (made x low high)) u (local_expect_sign sign.UpTo u) (λ _ u.
    local_then any_number (λ high. give (made x low high)) u (local_any_number u) (λ high u. local_give (made x low high) u)))))

begins_next_parameter : (s : State) → IsHere s → Begins next_parameter s
unfolding next_parameter
begins_next_parameter s here = begins_then advance (λ _. parameter_at) s (begins_advance s here) (λ _ u. local_parameter u)

local_list : (s : State) → IsLocal parameter_list s
unfolding parameter_list
local_list s =
    local_then parameter_at (λ first. until (choice.Mark sign.Comma) (is_sign sign.Comma) (one_more next_parameter) (first ∷ [])) s (local_parameter s) (λ first u.
    local_until (choice.Mark sign.Comma) (is_sign sign.Comma) (one_more next_parameter) parameters_progress (λ at. refl) (λ ps v is.
    begins_then next_parameter (λ p. give (ps ++ p ∷ [])) v (begins_next_parameter v (here_admitted (choice.Mark sign.Comma ∷ []) v (admits_one (choice.Mark sign.Comma) (kind_of v.rest) ∙ is))) (λ p w. local_give (ps ++ p ∷ []) w)) (first ∷ []) u)

-- the parameters, if there are any, and what is read from the closing bracket on
local_parameters : {B : Type 0} (g : List Parameter → Reader B) (s : State) → ((u : State) → is_sign sign.RightBracket (kind_of u.rest) ≡ true → Begins (g []) u) → ((ps : List Parameter) (u : State) → IsLocal (g ps) u) → IsLocal (parameters_at >>= g) s
unfolding parameters_at
local_parameters {B} g s closes next =
    local_same (parameters_at >>= g) (peek >>= λ k. cond (is_sign sign.RightBracket k) (g []) (miss (choice.Mark sign.RightBracket) >> (parameter_list >>= g))) s (λ u. by u (is_sign sign.RightBracket (kind_of u.rest)))
    (local_test (choice.Mark sign.RightBracket) (is_sign sign.RightBracket) (λ at. refl) (g []) (parameter_list >>= g) s closes (λ u. local_then parameter_list g u (local_list u) next)) where
      by : (u : State) (b : Bool) → then_read (let f : Reader (List Parameter) = cond b (give []) (miss (choice.Mark sign.RightBracket) >> parameter_list) in f u) g ≡ (let f : Reader B = cond b (g []) (miss (choice.Mark sign.RightBracket) >> (parameter_list >>= g)) in f u)
      by u true = refl
      by u false = refl

abbrev heading_made : List Parameter → ℕ → ℕ → ℕ → Heading
heading_made ps c w n = record { parameters = ps; cycles = c; words = w; steps = n }

local_from_bracket : (ps : List Parameter) (s : State) → IsLocal (expect word.Within >> (any_number >>= λ c. from_cycles_of_parametersread ps c)) s
local_from_bracket ps s =
    local_then (expect word.Within) (λ _. any_number >>= λ c. from_cycles_of_parametersread ps c) s (local_expect word.Within s) (λ _ u.
    local_then any_number (λ c. from_cycles_of_parametersread ps c) u (local_any_number u) (λ c u.
    local_then (expect word.Cycles) (λ _. expect word.Event >> (any_number >>= λ w. from_steps ps c w)) u (local_expect word.Cycles u) (λ _ u.
    local_then (expect word.Event) (λ _. any_number >>= λ w. from_steps ps c w) u (local_expect word.Event u) (λ _ u.
    local_then any_number (λ w. from_steps ps c w) u (local_any_number u) (λ w u.
    local_then (expect word.Words) (λ _. expect word.Steps >> (any_number >>= λ n. give (heading_made ps c w n))) u (local_expect word.Words u) (λ _ u.
    local_then (expect word.Steps) (λ _. any_number >>= λ n. give (heading_made ps c w n)) u (local_expect word.Steps u) (λ _ u.
    local_then any_number (λ n. give (heading_made ps c w n)) u (local_any_number u) (λ n u. local_give (heading_made ps c w n) u))))))))

local_heading : (s : State) → IsLocal heading_at s
unfolding heading_at
local_heading s =
    local_then (expect_sign sign.LeftBracket) (λ _. parameters_at >>= λ ps. from_bracket ps) s (local_expect_sign sign.LeftBracket s) (λ _ u.
    local_parameters from_bracket u
    (λ v is. begins_then (expect_sign sign.RightBracket) (λ _. expect word.Within >> (any_number >>= λ c. from_cycles_of_parametersread [] c)) v (begins_expect_sign sign.RightBracket v is) (λ _ w. local_from_bracket [] w))
    (λ ps v. local_then (expect_sign sign.RightBracket) (λ _. expect word.Within >> (any_number >>= λ c. from_cycles_of_parametersread ps c)) v (local_expect_sign sign.RightBracket v) (λ _ w. local_from_bracket ps w)))

-- ---- the whole procedure

abbrev after_body : Spot → Text → Heading → ℕ → List Statement → Reader (Unit {0})
after_body spot name h names body = ask (λ s. s.registers) >>= λ registers. change (with_procedure (procedure_made spot name h registers body) names)

abbrev after_names : Spot → Text → ℕ → Reader (Unit {0})
after_names spot name names = heading_at >>= λ h. block_at 16 >>= λ body. after_body spot name h names body

abbrev after_name : Spot → Text → Reader (Unit {0})
after_name spot name = opened name >>= λ names. after_names spot name names

local_after_names : (spot : Spot) (name : Text) (names : ℕ) (s : State) → IsLocal (after_names spot name names) s
local_after_names spot name names s =
    local_then heading_at (λ h. block_at 16 >>= λ body. after_body spot name h names body) s (local_heading s) (λ h u.
    local_then (block_at 16) (λ body. after_body spot name h names body) u (local_block 16 u) (λ body v.
    local_ask (λ w. w.registers) (λ w ts n. refl) (λ registers. change (with_procedure (procedure_made spot name h registers body) names)) v
    (local_change (with_procedure (procedure_made spot name h v.registers body) names) (λ w ts n. refl) (λ w. refl) v)))

local_opened : (x : Text) (s : State) → IsLocal (opened x) s
local_opened x s = local_then (change (in_heading x)) (λ _. ask (λ w. length w.declared)) s (local_change (in_heading x) (λ w ts n. refl) (λ w. refl) s) (λ _ u. local_ask (λ w. length w.declared) (λ w ts n. refl) give u (local_give (length u.declared) u))

pub begins_procedure : (spot : Spot) (s : State) → IsHere s → Begins (procedure_declaration spot) s
unfolding procedure_declaration
begins_procedure spot s here =
    begins_ask (λ u. u.procedures) (λ w ts n. refl) (λ known. check (nat_lt (length known) 16) (text_case.Limit limit.Procedures) >> (advance >> (new_name >>= λ x. advance >> after_name spot x))) s
    (begins_check (nat_lt (length s.procedures) 16) (text_case.Limit limit.Procedures) (advance >> (new_name >>= λ x. advance >> after_name spot x)) s refl tt (λ _.
    begins_then advance (λ _. new_name >>= λ x. advance >> after_name spot x) s (begins_advance s here) (λ _ u.
    local_new_name (λ x. advance >> after_name spot x) u (λ x u at.
    begins_then advance (λ _. after_name spot x) u (begins_advance u (kind.Name x, at)) (λ _ u.
    local_then (opened x) (λ names. after_names spot x names) u (local_opened x u) (λ names v. local_after_names spot x names v))))))

-- Readers of declarations are local.

-- Readers of tables are local.

begins_from_word : (count n : ℕ) (s : State) → kind_of s.rest ≡ Some (kind.Number n) → Begins (check (nat_lt n 16777216) (text_case.Number 16777215) >> (check (nat_lt count 1024) (text_case.Limit limit.TableWords) >> (advance >> give n))) s
begins_from_word count n s at =
    begins_check (nat_lt n 16777216) (text_case.Number 16777215) (check (nat_lt count 1024) (text_case.Limit limit.TableWords) >> (advance >> give n)) s refl (n, at) (λ _.
    begins_check (nat_lt count 1024) (text_case.Limit limit.TableWords) (advance >> give n) s refl tt (λ _. begins_take n s (kind.Number n, at)))

begins_word : (count : ℕ) (s : State) (n : ℕ) → kind_of s.rest ≡ Some (kind.Number n) → Begins (word_after count) s
unfolding word_after
begins_word count s n at = begins_numbered (λ n. check (nat_lt n 16777216) (text_case.Number 16777215) >> (check (nat_lt count 1024) (text_case.Limit limit.TableWords) >> (advance >> give n))) s n at (begins_from_word count n s at)

local_word : (count : ℕ) (s : State) → IsLocal (word_after count) s
unfolding word_after
local_word count s = local_numbered (λ n. check (nat_lt n 16777216) (text_case.Number 16777215) >> (check (nat_lt count 1024) (text_case.Limit limit.TableWords) >> (advance >> give n))) s (begins_from_word count)

local_words : (s : State) → IsLocal table_words s
unfolding table_words
local_words s =
    local_then (word_after 0) (λ first. until choice.Number is_number one_more_word (first ∷ [])) s (local_word 0 s) (λ first u.
    local_until choice.Number is_number one_more_word words_progress (λ at. refl) (λ ws v is. let n = number_in (kind_of v.rest) is in
    begins_then (word_after (length ws)) (λ w. give (ws ++ w ∷ [])) v (begins_word (length ws) v n.0 n.1) (λ w z. local_give (ws ++ w ∷ []) z)) (first ∷ []) u)

abbrev made_table : Spot → Text → List ℕ → Table
made_table spot x ws = record { spot = spot; name = x; words = ws }

pub begins_table : (spot : Spot) (s : State) → IsHere s → Begins (table_declaration spot) s
unfolding table_declaration
begins_table spot s here =
    begins_ask (λ u. u.tables) (λ w ts n. refl) (λ known. check (nat_lt (length known) 16) (text_case.Limit limit.Tables) >> (advance >> (new_name >>= λ x. advance >> (expect_sign sign.Equals >> (table_words >>= λ ws. change (with_table (made_table spot x ws))))))) s
    (begins_check (nat_lt (length s.tables) 16) (text_case.Limit limit.Tables) (advance >> (new_name >>= λ x. advance >> (expect_sign sign.Equals >> (table_words >>= λ ws. change (with_table (made_table spot x ws)))))) s refl tt (λ _.
    begins_then advance (λ _. new_name >>= λ x. advance >> (expect_sign sign.Equals >> (table_words >>= λ ws. change (with_table (made_table spot x ws))))) s (begins_advance s here) (λ _ u.
    local_new_name (λ x. advance >> (expect_sign sign.Equals >> (table_words >>= λ ws. change (with_table (made_table spot x ws))))) u (λ x u at.
    begins_then advance (λ _. expect_sign sign.Equals >> (table_words >>= λ ws. change (with_table (made_table spot x ws)))) u (begins_advance u (kind.Name x, at)) (λ _ u.
    local_then (expect_sign sign.Equals) (λ _. table_words >>= λ ws. change (with_table (made_table spot x ws))) u (local_expect_sign sign.Equals u) (λ _ u.
    local_then table_words (λ ws. change (with_table (made_table spot x ws))) u (local_words u) (λ ws v. local_change (with_table (made_table spot x ws)) (λ w ts n. refl) (λ w. refl) v)))))))

abbrev made_lam : Spot → Text → ℕ → ℕ → ℕ → Lam
made_lam spot x c n a = record { spot = spot; name = x; crate_no = c; station = n; sub_address = a }

-- a LAM from its branch on
abbrev from_branch : Spot → Text → Reader (Unit {0})
from_branch spot x = branch_number >> (any_number >>= λ c. any_number >>= λ n. sub_address_number >>= λ a. change (with_lam (made_lam spot x c n a)))

begins_lam : (spot : Spot) (s : State) → IsHere s → Begins (lam_declaration spot) s
unfolding lam_declaration
begins_lam spot s here =
    begins_ask (λ u. u.lams) (λ w ts n. refl) (λ known. check (nat_lt (length known) 64) (text_case.Limit limit.Lams) >> (advance >> (new_name >>= λ x. advance >> from_branch spot x))) s
    (begins_check (nat_lt (length s.lams) 64) (text_case.Limit limit.Lams) (advance >> (new_name >>= λ x. advance >> from_branch spot x)) s refl tt (λ _.
    begins_then advance (λ _. new_name >>= λ x. advance >> from_branch spot x) s (begins_advance s here) (λ _ u.
    local_new_name (λ x. advance >> from_branch spot x) u (λ x u at.
    begins_then advance (λ _. from_branch spot x) u (begins_advance u (kind.Name x, at)) (λ _ u.
    local_then branch_number (λ _. any_number >>= λ c. any_number >>= λ n. sub_address_number >>= λ a. change (with_lam (made_lam spot x c n a))) u (local_branch u) (λ _ u.
    local_then any_number (λ c. any_number >>= λ n. sub_address_number >>= λ a. change (with_lam (made_lam spot x c n a))) u (local_any_number u) (λ c u.
    local_then any_number (λ n. sub_address_number >>= λ a. change (with_lam (made_lam spot x c n a))) u (local_any_number u) (λ n u.
    local_then sub_address_number (λ a. change (with_lam (made_lam spot x c n a))) u (local_sub_address u) (λ a u. local_change (with_lam (made_lam spot x c n a)) (λ w ts n. refl) (λ w. refl) u)))))))))

begins_variables : (spot : Spot) (s : State) → IsHere s → Begins (variable_declaration spot) s
unfolding variable_declaration
begins_variables spot s here =
    begins_then advance (λ _. new_variable >> (until choice.Name is_name one_more_variable 1 >>= λ count. change (with_variables_of spot count))) s (begins_advance s here) (λ _ u.
    local_then new_variable (λ _. until choice.Name is_name one_more_variable 1 >>= λ count. change (with_variables_of spot count)) u (local_new_variable u) (λ _ u.
    local_then (until choice.Name is_name one_more_variable 1) (λ count. change (with_variables_of spot count)) u
    (local_until choice.Name is_name one_more_variable variables_progress (λ at. refl) (λ n v is. let x = name_in (kind_of v.rest) is in begins_then new_variable (λ _. give (n + 1)) v (begins_new_variable v x.0 x.1) (λ _ w. local_give (n + 1) w)) 1 u)
    (λ count v. local_change (with_variables_of spot count) (λ w ts n. refl) (λ w. refl) v)))

-- a service from so many of its words on
abbrev from_words : Spot → ℕ → ℕ → ℕ → Reader (Unit {0})
from_words spot l c w = expect word.Words >> (block_at 16 >>= λ body. change (with_service spot l c w body))

abbrev from_cycles : Spot → ℕ → ℕ → Reader (Unit {0})
from_cycles spot l c = expect word.Cycles >> (expect word.Event >> (any_number >>= λ w. from_words spot l c w))

abbrev from_within : Spot → ℕ → Reader (Unit {0})
from_within spot l = expect word.Within >> (any_number >>= λ c. from_cycles spot l c)

begins_service : (spot : Spot) (s : State) → IsHere s → Begins (service_declaration spot) s
unfolding service_declaration
begins_service spot s here =
    begins_ask (λ u. u.services) (λ w ts n. refl) (λ known. check (nat_lt (length known) 24) (text_case.Limit limit.Services) >> (advance >> (used_lam >>= λ l. from_within spot l))) s
    (begins_check (nat_lt (length s.services) 24) (text_case.Limit limit.Services) (advance >> (used_lam >>= λ l. from_within spot l)) s refl tt (λ _.
    begins_then advance (λ _. used_lam >>= λ l. from_within spot l) s (begins_advance s here) (λ _ u.
    local_then used_lam (λ l. from_within spot l) u (local_used_lam u) (λ l u.
    local_then (expect word.Within) (λ _. any_number >>= λ c. from_cycles spot l c) u (local_expect word.Within u) (λ _ u.
    local_then any_number (λ c. from_cycles spot l c) u (local_any_number u) (λ c u.
    local_then (expect word.Cycles) (λ _. expect word.Event >> (any_number >>= λ w. from_words spot l c w)) u (local_expect word.Cycles u) (λ _ u.
    local_then (expect word.Event) (λ _. any_number >>= λ w. from_words spot l c w) u (local_expect word.Event u) (λ _ u.
    local_then any_number (λ w. from_words spot l c w) u (local_any_number u) (λ w u.
    local_then (expect word.Words) (λ _. block_at 16 >>= λ body. change (with_service spot l c w body)) u (local_expect word.Words u) (λ _ u.
    local_then (block_at 16) (λ body. change (with_service spot l c w body)) u (local_block 16 u) (λ body u. local_change (with_service spot l c w body) (λ v ts n. refl) (λ v. refl) u)))))))))))

begins_declaration_by : (spot : Spot) (k : Option TokenKind) (s : State) → IsHere s → suits choice.Declaration k ≡ true → Begins (declaration_by spot k) s
begins_declaration_by spot (Some (kind.Keyword word.Table)) s here is = begins_table spot s here
begins_declaration_by spot (Some (kind.Keyword word.Proc)) s here is = begins_procedure spot s here
begins_declaration_by spot (Some (kind.Keyword word.Cdlam)) s here is = begins_lam spot s here
begins_declaration_by spot (Some (kind.Keyword word.Var)) s here is = begins_variables spot s here
begins_declaration_by spot (Some (kind.Keyword word.Service)) s here is = begins_service spot s here
begins_declaration_by spot _ s here is = absurd cc

no_declaration_by : (spot : Spot) (k : Option TokenKind) (s : State) → suits choice.Declaration k ≡ false → declaration_by spot k s ≡ (let f : Reader (Unit {0}) = refusal (choice.Declaration ∷ []) None in f s)
no_declaration_by spot (Some (kind.Keyword word.Table)) s free = absurd cc
no_declaration_by spot (Some (kind.Keyword word.Proc)) s free = absurd cc
no_declaration_by spot (Some (kind.Keyword word.Cdlam)) s free = absurd cc
no_declaration_by spot (Some (kind.Keyword word.Var)) s free = absurd cc
no_declaration_by spot (Some (kind.Keyword word.Service)) s free = absurd cc
no_declaration_by spot _ s free = refl

local_declaration : (s : State) → IsLocal declaration_at s
unfolding declaration_at
local_declaration s =
    local_wanting (choice.Declaration ∷ []) (spot_here >>= λ spot. peek >>= λ k. declaration_by spot k) s
    (λ u is. begins_spot (λ spot. peek >>= λ k. declaration_by spot k) u (begins_peek (λ k. declaration_by (spot_of u.rest u.end_line) k) u (begins_declaration_by (spot_of u.rest u.end_line) (kind_of u.rest) u (here_admitted (choice.Declaration ∷ []) u is) (sym (admits_one choice.Declaration (kind_of u.rest)) ∙ is))))
    (λ u free. no_declaration_by (spot_of u.rest u.end_line) (kind_of u.rest) u (sym (admits_one choice.Declaration (kind_of u.rest)) ∙ free))

pub local_declarations : (s : State) → IsLocalToEnd declarations_at s
unfolding declarations_at
local_declarations s = local_to_end is_token (λ _. declaration_at) declarations_progress (λ k. refl) (λ _ u. local_declaration u) tt s

-- A fault is at a token, and no token after it matters.

no_tree : (r : Result (Unit {0} × State) Failure) (f : Fault) → tree_in r ≡ Err f → (d : Failure) × (r ≡ Err d) × (fault_of d ≡ f)
no_tree (Ok read) f e = absurd cc
no_tree (Err d) f e = (d, refl, fault_is (fault_of d) f e) where
  fault_is : (d f : Fault) → (let r : Result Script Fault = Err d in r) ≡ Err f → d ≡ f
  fault_is d f e = cc

-- what is read does not depend on whether it is noted what was looked for
pub tree_untold : (s : State) → tree_in (declarations_at (hushed s)) ≡ tree_in (declarations_at s)
tree_untold s = by (declarations_at s) refl where
  by : (r : Result (Unit {0} × State) Failure) → declarations_at s ≡ r → tree_in (declarations_at (hushed s)) ≡ tree_in r
  by (Ok read) is = ap tree_in ((local_declarations s).untold read.0 read.1 is)
  by (Err d) is = ap tree_in ((local_declarations s).fails d is).untold

placed : (tokens : List Token) (end_line : ℕ) (f : Fault) → tree_of_tokens tokens end_line ≡ Err f → IsPlaced tokens end_line f
unfolding tree_of_tokens
placed tokens end_line f e =
    let d = no_tree (declarations_at (start tokens end_line)) f e in
    let a = (local_declarations (start tokens end_line)).fails d.0 d.1 in
    let is : IsPlaced tokens end_line (fault_of d.0) = record {
      taken = a.taken;
      left = a.left;
      parts = a.parts;
      place = a.place;
      fits = a.fits;
      settled = λ t after_first others last here. sym (tree_untold (start (a.taken ++ t ∷ others) last)) ∙ ap tree_in (a.again t after_first others last here);
    } in
    subst (λ (g : Fault). IsPlaced tokens end_line g) d.2 is

fault_after : (made : Result (List Token) Fault) (end_line : ℕ) (f : Fault) → tree_after made end_line ≡ Err f → HasFaultAfter made end_line f
fault_after (Ok tokens) end_line f e = placed tokens end_line f e
fault_after (Err first) end_line f e = sym (first_is first f e) where
  first_is : (d f : Fault) → (let r : Result Script Fault = Err d in r) ≡ Err f → d ≡ f
  first_is d f e = cc

pub fault_placed : (text : List ℕ) (r : Result Script TextFault) → Answers r (script_of text) → FaultIs r (HasFault text)
unfolding script_of
fault_placed text (Ok x) e = tt
fault_placed text (Err text_fault.OutOfMemory) e = tt
fault_placed text (Err (text_fault.Broken case spot)) e = fault_after (tokens_of text) (last_line text) (record { case = case; spot = spot }) e

-- A text that is read to its end has no token fault.

-- an end that has a line is no token fault
has_line : (r : Result (List Token) Fault) (line : ℕ) → eqb (line_in (end_by r line)) 0 ≡ false → judged r ≡ Ok tt
has_line (Ok ts) line e = refl
has_line (Err d) line e = absurd cc

is_not : (b : Bool) → not b ≡ true → b ≡ false
is_not true e = absurd cc
is_not false e = refl

-- the line of the end stays the same, so one that is there at the end was there at the start
pub read_whole : (text : List ℕ) (s : State) → declarations_at (unread_in (ahead_of text)) ≡ Ok (tt, s) → (is_none (kind_of s.rest) && not (eqb s.end_line 0)) ≡ true → judged (tokens_of text) ≡ Ok tt
read_whole text s read at_end =
    let same : s.end_line ≡ line_in (end_by (tokens_of text) (last_line text)) = (local_declarations (unread_in (ahead_of text))).same_end tt s read in
    let line : eqb s.end_line 0 ≡ false = is_not (eqb s.end_line 0) (and_parts (is_none (kind_of s.rest)) (not (eqb s.end_line 0)) at_end).1 in
    has_line (tokens_of text) (last_line text) (subst (λ (n : ℕ). eqb n 0 ≡ false) same line)

pub all_tokens : (r : Result (List Token) Fault) → judged r ≡ Ok tt → (ts : List Token) × (r ≡ Ok ts)
all_tokens (Ok ts) is = (ts, refl)
all_tokens (Err d) is = absurd cc
