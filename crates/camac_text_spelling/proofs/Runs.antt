-- The rules that hold where a statement or a block stands, how it begins, and the state after it.
use Rattle.std.proofs.Common.{◌≡◌, ℕ, suc, ◌+◌, ◌≤◌, ◌<◌, max, Bool, true, false, not, ◌&&◌, nat_lt, List, [], ◌∷◌, ◌++◌, length, take, Option, Some, None, refl, sym, ap, ◌∙◌, arith, subst}
use Rattle.std.proofs.lemmas.Bool.{lt-ltb, ltb-true, not-true}
use Rattle.std.proofs.lemmas.List.{length-take-le}
use Rattle.camac_lang.specs.Tests.{is_new}
use Rattle.camac_lang.specs.Tree.{Text, Statement, Block, done, next, assign, set_register, single, address_scan, q_stop, q_repeat, put, crate_call, lam_call, choose, choose_else, for_, for_each, while_, locked, call}
use Rattle.camac_lang.specs.View.{block_of}
use Rattle.camac_lang.specs.declared.spot.Spot.{Spot}
use Rattle.camac_lang.specs.declared.word.WordSize.{WordSize}
use Rattle.camac_lang.specs.declared.word.WordSize.TheVariants.{Full, Short}
use Rattle.camac_lang.specs.declared.word.CrateCall.{CrateCall}
use Rattle.camac_lang.specs.declared.word.CrateCall.TheVariants as crate_word
use Rattle.camac_lang.specs.declared.word.LamCall.{LamCall}
use Rattle.camac_lang.specs.declared.word.LamCall.TheVariants as lam_word
use Rattle.camac_tokens.specs.declared.token.Keyword.TheVariants as keyword
use Rattle.camac_tokens.specs.declared.token.Token.{Token}
use Rattle.camac_tokens.specs.declared.token.TokenKind.{TokenKind}
use Rattle.camac_tokens.specs.declared.token.TokenKind.TheVariants as kind
use Rattle.camac_tokens.specs.declared.token.Sign.TheVariants as mark
use Rattle.camac_text_cursor.specs.Names.{name_place}
use Rattle.camac_text_cursor.specs.Reading.{State, Reader, ◌>>◌, give, change, advance, kind_of, after_first}
use Rattle.camac_text_cursor.specs.Tried.{Tried}
use Rattle.camac_text_cursor.specs.Readers.{other_registers, is_keyword, new_name, with_register, register_at, set_name, begin}
use Rattle.camac_text_cursor.proofs.Places.{hushed}
use Rattle.camac_text_cursor.proofs.Registers.{first_of_both, second_of_both}
use Rattle.camac_text_phrases.specs.Expressions.{is_product_sign, is_sum_sign}
use Rattle.camac_text_statements.specs.Statements.{statement_by, statement_with, is_no_end}
use Rattle.camac_text_statements.proofs.Acts.{begun}
use Rattle.camac_text_spelling.specs.Pieces.{Piece, first_piece, text_at, Names, Prefix}
use Rattle.camac_text_spelling.specs.Statements as spell
use Rattle.camac_text_spelling.proofs.Takes.{prefix_spot, prefix_split, prefix_first}
use Rattle.camac_text_spelling.proofs.GivesExpressions.{at, ok, after, checked, new_name_seen, FindsAll, NoSign}
use Rattle.camac_text_spelling.proofs.GivesPhrases.{is_move_sign}

-- The rules that hold where a statement or a block stands, and the state after it.

-- The registers of a body are new names, each found from its first `cdreg` on, and few with those that count beside them.
pub record Sets (n : Names) (declared : List Text) (beside : ℕ) : Type 0 where
  pub fresh : (p : ℕ) → p < length n.registers → is_new (text_at n.registers p) declared ≡ true
  pub set : (p j : ℕ) → p < j → j ≤ length n.registers → name_place (text_at n.registers p) (take j n.registers) ≡ Some p
  pub unset : (j : ℕ) → j < length n.registers → name_place (text_at n.registers j) (take j n.registers) ≡ None
  pub more : (j : ℕ) → j < length n.registers → take (suc j) n.registers ≡ take j n.registers ++ text_at n.registers j ∷ []
  pub few : beside + length n.registers ≤ 64

-- With so many registers set before and after, so many statements after, so much room; and what the rules say of it: the registers
-- after it, its depth, its statements.
pub record Runs (n : Names) (s : State) (j k m room : ℕ) (reaches : Option ℕ) (depth count : ℕ) : Type 0 where
  pub finds : FindsAll n s
  pub sets : Sets n s.declared (other_registers s)
  pub registers : s.registers ≡ take j n.registers
  pub reached : reaches ≡ Some k
  pub within : k ≤ length n.registers
  pub deep : depth ≤ room
  pub counted : m ≡ s.statements + count
  pub few : m ≤ 4096

-- the state after it
abbrev pub left_at : Names → State → List Token → ℕ → ℕ → State
left_at n s rest k m = record s { rest = rest; registers = take k n.registers; statements = m }

-- the same at other tokens, with other registers and statements so far
pub runs_with : {n : Names} {s : State} {i j k l m p room place : ℕ} {reaches reached : Option ℕ} {depth deep count counted : ℕ} {rest : List Token} {tried : Tried} {registers : List Text} {statements : ℕ} → Runs n s i k m room reaches depth count
    → registers ≡ take j n.registers → reached ≡ Some l → l ≤ length n.registers → deep ≤ place → p ≡ statements + counted → p ≤ 4096
    → Runs n (record s { rest = rest; tried = tried; registers = registers; statements = statements }) j l p place reached deep counted
runs_with c registers reached within deep counted few = record {
  finds = c.finds;
  sets = c.sets;
  registers = registers;
  reached = reached;
  within = within;
  deep = deep;
  counted = counted;
  few = few;
}

-- ---- how a statement begins

pub begin_given : (s0 : State) → let s : State = hushed s0 in s.statements < 4096 → begin s ≡ ok tt (begun s)
unfolding begin
begin_given s0 below = let s : State = hushed s0 in checked (nat_lt s.statements 4096) _ (change (λ u. record u { statements = suc u.statements }) >> advance) s (lt-ltb s.statements 4096 below) refl

pub first_given : (spot : Spot) (room : ℕ) (block : Reader (List Statement)) (k : TokenKind) (s0 : State) → let s : State = hushed s0 in (ps : List Piece) (rest : List Token) → Prefix s.rest (first_piece spot k ∷ ps) rest → statement_with room block s ≡ statement_by room block spot (Some k) s
unfolding statement_with
first_given spot room block k s0 ps rest f =
    let s : State = hushed s0 in
    let h = prefix_spot s.rest s.end_line spot k ps rest f in
    ap (λ (at : Spot). statement_by room block at (kind_of s.rest) s) h.1 ∙ ap (λ (o : Option TokenKind). statement_by room block spot o s) h.0

-- one that sets no register and holds no block
pub simple_given : (n : Names) (x : Statement) (s0 : State) → let s : State = hushed s0 in (rest : List Token) (j k m room : ℕ) (reaches : Option ℕ) (depth : ℕ) (g : Reader Statement) → Runs n s j k m room reaches depth 1 → j ≡ k → g (begun s) ≡ ok x (at (begun s) rest) → (begin >> g) s ≡ ok x (left_at n s rest k m)
simple_given n x s0 rest j k m room reaches depth g c same h =
    let s : State = hushed s0 in
    let few : m ≤ 4096 = c.few in
    let counted : m ≡ s.statements + 1 = c.counted in
    let one : suc s.statements ≡ m = omega arith in
    after (begin s) (λ _. g) tt (begun s) (begin_given s (omega arith)) h
    ∙ ap (λ (rs : List Text). ok x (record s { rest = rest; registers = rs; statements = suc s.statements })) (c.registers ∙ ap (λ (i : ℕ). take i n.registers) same)
    ∙ ap (λ (i : ℕ). ok x (record s { rest = rest; registers = take k n.registers; statements = i })) one

-- ---- what ends a statement

abbrev pub stops : Option TokenKind → Bool
stops k = not (is_product_sign k) && (not (is_sum_sign k) && (not (is_move_sign k) && not (is_keyword keyword.Else k)))

pub record Ends (k : Option TokenKind) : Type 0 where
  pub signs : NoSign k
  pub no_move : is_move_sign k ≡ false
  pub no_else : is_keyword keyword.Else k ≡ false

pub ends_by : (k : Option TokenKind) → stops k ≡ true → Ends k
ends_by k e =
    let rest = second_of_both (not (is_product_sign k)) _ e in
    let moves = second_of_both (not (is_sum_sign k)) _ rest in
    record {
      signs = record { product = not-true (is_product_sign k) (first_of_both (not (is_product_sign k)) _ e); sum = not-true (is_sum_sign k) (first_of_both (not (is_sum_sign k)) _ rest) };
      no_move = not-true (is_move_sign k) (first_of_both (not (is_move_sign k)) _ moves);
      no_else = not-true (is_keyword keyword.Else k) (second_of_both (not (is_move_sign k)) _ moves);
    }

-- ---- registers

register_set : (s0 : State) → let s : State = hushed s0 in (x : Text) (place : Option ℕ) (r : ℕ) → place ≡ Some r → register_at x place s ≡ ok r (at s (after_first s.rest))
register_set s0 x place r e = let s : State = hushed s0 in ap (λ (o : Option ℕ). register_at x o s) e

register_new : (s0 : State) → let s : State = hushed s0 in (x : Text) (place : Option ℕ) → place ≡ None → other_registers s + length s.registers < 64 → register_at x place s ≡ ok (length s.registers) (record s { rest = after_first s.rest; registers = s.registers ++ x ∷ [] })
register_new s0 x place e room =
    let s : State = hushed s0 in
    ap (λ (o : Option ℕ). register_at x o s) e
    ∙ checked (nat_lt (other_registers s + length s.registers) 64) _ (advance >> (change (with_register x) >> give (length s.registers))) s (lt-ltb (other_registers s + length s.registers) 64 room) refl

pub set_name_given : (n : Names) (s0 : State) → let s : State = hushed s0 in (r j k : ℕ) → Sets n s.declared (other_registers s) → s.registers ≡ take j n.registers → r ≤ j → max j (suc r) ≡ k → k ≤ length n.registers → kind_of s.rest ≡ Some (kind.Name (text_at n.registers r)) → set_name s ≡ ok r (record s { rest = after_first s.rest; registers = take k n.registers })
unfolding set_name
set_name_given n s0 r j k sets registers below reaches within ahead =
    let s : State = hushed s0 in
    let x : Text = text_at n.registers r in
    after (new_name s) _ x s (new_name_seen s x ahead (sets.fresh r (omega arith))) (by (nat_lt r j) refl)
  where
    by : (b : Bool) → let s : State = hushed s0 in nat_lt r j ≡ b → register_at (text_at n.registers r) (name_place (text_at n.registers r) s.registers) s ≡ ok r (record s { rest = after_first s.rest; registers = take k n.registers })
    by true e =
        let s : State = hushed s0 in
        let less : r < j = ltb-true r j e in
        let same : j ≡ k = omega arith in
        register_set s (text_at n.registers r) (name_place (text_at n.registers r) s.registers) r (ap (name_place (text_at n.registers r)) registers ∙ sets.set r j less (omega arith))
        ∙ ap (λ (rs : List Text). ok r (record s { rest = after_first s.rest; registers = rs })) (registers ∙ ap (λ (i : ℕ). take i n.registers) same)
    by false e =
        let s : State = hushed s0 in
        let same : r ≡ j = grind (arith, e, below) in
        let next_is : suc j ≡ k = omega arith in
        let many : length s.registers ≡ j = ap (λ (rs : List Text). length rs) registers ∙ length-take-le j n.registers (omega arith) in
        let few : other_registers s + length n.registers ≤ 64 = sets.few in
        let found : name_place (text_at n.registers r) s.registers ≡ None = ap (name_place (text_at n.registers r)) registers ∙ ap (λ (i : ℕ). name_place (text_at n.registers i) (take j n.registers)) same ∙ sets.unset j (omega arith) in
        register_new s (text_at n.registers r) (name_place (text_at n.registers r) s.registers) found (omega arith)
        ∙ ap (λ (i : ℕ). ok i (record s { rest = after_first s.rest; registers = s.registers ++ text_at n.registers r ∷ [] })) (many ∙ sym same)
        ∙ ap (λ (rs : List Text). ok r (record s { rest = after_first s.rest; registers = rs })) (ap (λ (rs : List Text). rs ++ text_at n.registers r ∷ []) registers ∙ ap (λ (i : ℕ). take j n.registers ++ text_at n.registers i ∷ []) same ∙ sym (sets.more j (omega arith)) ∙ ap (λ (i : ℕ). take i n.registers) next_is)

-- ---- blocks

abbrev pub listed : Block → List Statement
listed done = []
listed (next x b) = x ∷ listed b

pub block_of_listed : (b : Block) → block_of (listed b) ≡ b
block_of_listed done = refl
block_of_listed (next x b) = ap (next x) (block_of_listed b)

-- How statements begin.

-- the first token of a statement, which ends the one before and goes on with the block
record Opens (n : Names) (x : Statement) : Type 0 where
  spot : Spot
  first : TokenKind
  others : List Piece
  same : spell.statement n x ≡ first_piece spot first ∷ others
  ends : stops (Some first) ≡ true
  goes_on : is_no_end (Some first) ≡ true

single_ends : (size : WordSize) → stops (Some (kind.Keyword (spell.single_word size))) ≡ true
single_ends Full = refl
single_ends Short = refl

crate_ends : (call : CrateCall) → stops (Some (kind.Keyword (spell.crate_keyword call))) ≡ true
crate_ends crate_word.Initialise = refl
crate_ends crate_word.Clear = refl
crate_ends crate_word.InhibitOn = refl
crate_ends crate_word.InhibitOff = refl
crate_ends crate_word.TestInhibit = refl
crate_ends crate_word.DemandOn = refl
crate_ends crate_word.DemandOff = refl
crate_ends crate_word.TestDemandOutput = refl
crate_ends crate_word.TestDemand = refl

lam_ends : (call : LamCall) → stops (Some (kind.Keyword (spell.lam_keyword call))) ≡ true
lam_ends lam_word.Enable = refl
lam_ends lam_word.Disable = refl
lam_ends lam_word.Clear = refl
lam_ends lam_word.Test = refl

opens : (n : Names) (x : Statement) → Opens n x
opens n (assign spot x e) = record { spot = spot; first = kind.Name _; others = _; same = refl; ends = refl; goes_on = refl }
opens n (set_register spot r c s a) = record { spot = spot; first = kind.Keyword keyword.Cdreg; others = _; same = refl; ends = refl; goes_on = refl }
opens n (single spot size f r m) = record { spot = spot; first = kind.Keyword (spell.single_word size); others = _; same = refl; ends = single_ends size; goes_on = refl }
opens n (address_scan spot f r1 r2 e x) = record { spot = spot; first = kind.Keyword keyword.Cfmad; others = _; same = refl; ends = refl; goes_on = refl }
opens n (q_stop spot f r g e x) = record { spot = spot; first = kind.Keyword keyword.Cfubc; others = _; same = refl; ends = refl; goes_on = refl }
opens n (q_repeat spot f r g e l x) = record { spot = spot; first = kind.Keyword keyword.Cfubr; others = _; same = refl; ends = refl; goes_on = refl }
opens n (put spot e) = record { spot = spot; first = kind.Keyword keyword.Put; others = _; same = refl; ends = refl; goes_on = refl }
opens n (crate_call spot k e) = record { spot = spot; first = kind.Keyword (spell.crate_keyword k); others = _; same = refl; ends = crate_ends k; goes_on = refl }
opens n (lam_call spot k l) = record { spot = spot; first = kind.Keyword (spell.lam_keyword k); others = _; same = refl; ends = lam_ends k; goes_on = refl }
opens n (choose spot c a) = record { spot = spot; first = kind.Keyword keyword.If; others = _; same = refl; ends = refl; goes_on = refl }
opens n (choose_else spot c a b) = record { spot = spot; first = kind.Keyword keyword.If; others = _; same = refl; ends = refl; goes_on = refl }
opens n (for_ spot x e1 e2 ks b) = record { spot = spot; first = kind.Keyword keyword.For; others = _; same = refl; ends = refl; goes_on = refl }
opens n (for_each spot x a e b) = record { spot = spot; first = kind.Keyword keyword.For; others = _; same = refl; ends = refl; goes_on = refl }
opens n (while_ spot c t x ks b) = record { spot = spot; first = kind.Keyword keyword.While; others = _; same = refl; ends = refl; goes_on = refl }
opens n (locked spot e b) = record { spot = spot; first = kind.Keyword keyword.Lock; others = _; same = refl; ends = refl; goes_on = refl }
opens n (call spot p es) = record { spot = spot; first = kind.Keyword keyword.Call; others = _; same = refl; ends = refl; goes_on = refl }

first_kind : (n : Names) (x : Statement) (ts rest : List Token) → Prefix ts (spell.statement n x) rest → kind_of ts ≡ Some (opens n x).first
first_kind n x ts rest f =
    let o = opens n x in
    (prefix_first ts (first_piece o.spot o.first) o.others rest (subst (λ (ps : List Piece). Prefix ts ps rest) o.same f)).0

pub statement_opens : (n : Names) (x : Statement) (ts rest : List Token) → Prefix ts (spell.statement n x) rest → is_no_end (kind_of ts) ≡ true
statement_opens n x ts rest f = ap is_no_end (first_kind n x ts rest f) ∙ (opens n x).goes_on

-- what stands next in a block ends the statement before
pub block_ends : (n : Names) (b : Block) (ts rest : List Token) → Prefix ts (spell.block n b) rest → kind_of rest ≡ Some (kind.Sign mark.RightBrace) → Ends (kind_of ts)
block_ends n done ts rest f brace = ends_by (kind_of ts) (ap stops (ap kind_of f ∙ brace))
block_ends n (next x b) ts rest f brace =
    let m = prefix_split ts (spell.statement n x) (spell.block n b) rest f in
    ends_by (kind_of ts) (ap stops (first_kind n x ts m.0 m.1) ∙ (opens n x).ends)
