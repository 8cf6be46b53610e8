use Rattle.std.proofs.Common.{◌≡◌, Result, Ok, sym, ap, subst, ◌∙◌, ℕ, List, Err, Bool, true, false, ◌∷◌, ◌++◌, Option, Some, refl}
use Rattle.std.proofs.lemmas.Result.{err_from_is_err_and}
use Rattle.camac_tokens.specs.declared.fault.TextFault.{TextFault}
use Rattle.camac_tokens.specs.Left.{Ahead}
use Rattle.camac_tokens.specs.Scanning.{tokens_of, last_line}
use Rattle.camac_text_cursor.specs.Parser.{state, FailsWith, Gives}
use Rattle.camac_text_cursor.specs.Reading.{State, Fault as Failure}
use Rattle.camac_text.specs.Declarations.{declarations_at}
use Rattle.camac_text.specs.Parser.{unread_in, start, judged, tree_in, tree_of_tokens}
use Rattle.camac_text.proofs.Faults.{all_tokens, tree_untold, local_declarations}
use Rattle.camac_text.proofs.WellFormed.{read_well_formed}
use Rattle.camac_text.proofs.reading.parse_expecting.Goals as goal
use Rattle.camac_tokens.specs.declared.fault.TextFault.TheVariants as text_fault
use Rattle.camac_tokens.specs.declared.token.Token.{Token}
use Rattle.camac_tokens.specs.Fault.{Fault, Fails}
use Rattle.camac_text_cursor.specs.declared.choice.Choices.{Choices}
use Rattle.camac_text_cursor.specs.Choice.{held}
use Rattle.camac_text_cursor.specs.Tried.{Tried, Told}
use Rattle.camac_text.specs.Expecting.{TellsAfter, Fits, IsRefused, IsExact, ExpectsAfter}
use Rattle.camac_tokens.specs.declared.token.TokenKind.{TokenKind}
use Rattle.camac_tokens.specs.declared.fault.TextCase.TheVariants as text_case
use Rattle.camac_text_cursor.specs.declared.choice.Choice.{Choice}
use Rattle.camac_text_cursor.specs.Expected.{Admits}
use Rattle.camac_text_cursor.proofs.Places.{noted_all, admits, left_at, Passes, Refuses}
use Rattle.camac_text_cursor.proofs.Sets.{set_of, told_set, none_carried, admitted_in, in_admitted}
use Rattle.camac_lang.specs.declared.spot.Spot.{Spot}

-- What is told of the place of a fault is exact.

fits_in : (others : List Token) (r : Result (Unit {0} × State) Failure) → Passes others r → Fits others (tree_in r)
fits_in others (Ok y) at = tt
fits_in others (Err e) at = at

refused_in : (t : Token) (r : Result (Unit {0} × State) Failure) → Refuses t r → IsRefused t (tree_in r)
refused_in t (Ok y) at = absurd at
refused_in t (Err e) at = at

told_is : (a b : Choice → Bool) → Told a ≡ Told b → a ≡ b
told_is a b e = cc

not_admitted : (cs : List Choice) (at : Option TokenKind) (b : Bool) → admits cs at ≡ b → (Admits (set_of cs) at → ⊥) → b ≡ false
not_admitted cs at true is free = absurd (free (admitted_in cs at is))
not_admitted cs at false is free = refl

exact : (tokens : List Token) (end_line : ℕ) (spot : Spot) (set : Choice → Bool) → declarations_at (start tokens end_line) ≡ Err (record { case = text_case.Unexpected; spot = spot; tried = Told set }) → IsExact tokens spot.left set
unfolding tree_of_tokens
exact tokens end_line spot set e =
    let a = (local_declarations (start tokens end_line)).fails (record { case = text_case.Unexpected; spot = spot; tried = Told set }) e in
    let set_is : set ≡ set_of a.mine = told_is set (set_of a.mine) (a.tries ∙ ap (noted_all a.mine) (none_carried a.taken) ∙ told_set a.mine) in
    record {
      taken = a.taken;
      left = a.left;
      parts = a.parts;
      here = ap (λ (at : Spot). at.left) a.place ∙ left_at a.left end_line;
      fits = λ t others last is.
          let fit = in_admitted a.mine (Some t.kind) (subst (λ (w : Choice → Bool). Admits w (Some t.kind)) set_is is) in
          subst (Fits others) (tree_untold (start (a.taken ++ t ∷ others) last)) (fits_in others _ (a.passes refl t others last fit));
      refuses = λ t others last free.
          let none = not_admitted a.mine (Some t.kind) (admits a.mine (Some t.kind)) refl (λ has. free (subst (λ (w : Choice → Bool). Admits w (Some t.kind)) (sym set_is) has)) in
          subst (IsRefused t) (tree_untold (start (a.taken ++ t ∷ others) last)) (refused_in t _ (a.refuses refl t others last none));
    }

expects : (made : Result (List Token) Fault) (end_line : ℕ) (e : TextFault) (expected : Choices) → TellsAfter made end_line e expected → ExpectsAfter made e expected
expects (Ok tokens) end_line (text_fault.Broken text_case.Unexpected spot) expected at = exact tokens end_line spot (held expected) at
expects _ end_line e expected at = tt

-- What is told of a fault is what was looked for at its token.

-- nothing is told where a token has a fault
told_none : (made : Result (List Token) Fault) (end_line : ℕ) (e : TextFault) (expected : Choices) → Fails e (judged made) → TellsAfter made end_line e expected
told_none (Ok ts) end_line text_fault.OutOfMemory expected failed = tt
told_none (Ok ts) end_line (text_fault.Broken case spot) expected failed = absurd cc
told_none (Err d) end_line e expected failed = tt

told_by : (ts : List Token) (end_line : ℕ) (e : TextFault) (tried : Tried) (expected : Choices) → Told (held expected) ≡ tried → FailsWith e tried (declarations_at (start ts end_line)) → TellsAfter (Ok ts) end_line e expected
told_by ts end_line text_fault.OutOfMemory tried expected told failed = tt
told_by ts end_line (text_fault.Broken case spot) tried expected told failed =
    failed ∙ ap (λ (t : Tried). let r : Result (Unit {0} × State) Failure = Err (record { case = case; spot = spot; tried = t }) in r) (sym told)

told_fault : (text : List ℕ) (ts : List Token) (e : TextFault) (tried : Tried) (expected : Choices) → tokens_of text ≡ Ok ts → Told (held expected) ≡ tried → FailsWith e tried (declarations_at (start ts (last_line text))) → TellsAfter (tokens_of text) (last_line text) e expected
told_fault text ts e tried expected made told failed = subst (λ (m : Result (List Token) Fault). TellsAfter m (last_line text) e expected) (sym made) (told_by ts (last_line text) e tried expected told failed)

pub returns-in_err-judge_tokens-clause-tells : goal.returns-in_err-judge_tokens-clause-tells
returns-in_err-judge_tokens-clause-tells c =
    let p = err_from_is_err_and c.from_residual.result c.from_residual.ensures.1 in
    rw (p.1, p.2) (told_none (tokens_of c.args.text.now) (last_line c.args.text.now) c.in_err-judge_tokens.field-0.0 c.args.expected.now c.in_err-judge_tokens.ensures)

pub returns-in_err-judge_tokens-clause-expects : goal.returns-in_err-judge_tokens-clause-expects
returns-in_err-judge_tokens-clause-expects c =
    let p = err_from_is_err_and c.from_residual.result c.from_residual.ensures.1 in
    let text = c.args.text.now in
    let fault = c.in_err-judge_tokens.field-0.0 in
    rw (p.1, p.2) (expects (tokens_of text) (last_line text) fault c.args.expected.now (told_none (tokens_of text) (last_line text) fault c.args.expected.now c.in_err-judge_tokens.ensures))

pub returns-in_err-read-clause-tells : goal.returns-in_err-read-clause-tells
returns-in_err-read-clause-tells c =
    let p = err_from_is_err_and c.from_residual-in_err-read.result c.from_residual-in_err-read.ensures.1 in
    let text = c.args.text.now in
    let end = state c.declarations-read.new.parser in
    let whole = all_tokens (tokens_of text) c.in_ok-judge_tokens.ensures in
    let ahead = c.new.ensures.whole whole.0 whole.1 in
    let failed = subst (λ (r : Result (Unit {0}) TextFault). Gives (λ _. tt) r c.declarations-read.new.parser (declarations_at (state c.new-parser.result))) c.in_err-read.was c.declarations-read.ensures in
    let here = subst (λ (s : State). FailsWith c.in_err-read.field-0.0 end.tried (declarations_at s)) (c.new-parser.ensures ∙ ap unread_in ahead) failed in
    rw (p.1, p.2) (told_fault text whole.0 c.in_err-read.field-0.0 end.tried c.missed.result whole.1 c.missed.ensures here)

pub returns-in_err-read-clause-expects : goal.returns-in_err-read-clause-expects
returns-in_err-read-clause-expects c =
    let p = err_from_is_err_and c.from_residual-in_err-read.result c.from_residual-in_err-read.ensures.1 in
    let text = c.args.text.now in
    let end = state c.declarations-read.new.parser in
    let whole = all_tokens (tokens_of text) c.in_ok-judge_tokens.ensures in
    let ahead = c.new.ensures.whole whole.0 whole.1 in
    let failed = subst (λ (r : Result (Unit {0}) TextFault). Gives (λ _. tt) r c.declarations-read.new.parser (declarations_at (state c.new-parser.result))) c.in_err-read.was c.declarations-read.ensures in
    let here = subst (λ (s : State). FailsWith c.in_err-read.field-0.0 end.tried (declarations_at s)) (c.new-parser.ensures ∙ ap unread_in ahead) failed in
    rw (p.1, p.2) (expects (tokens_of text) (last_line text) c.in_err-read.field-0.0 c.missed.result (told_fault text whole.0 c.in_err-read.field-0.0 end.tried c.missed.result whole.1 c.missed.ensures here))

pub into_script-requires : goal.into_script-requires
into_script-requires c =
    let text = c.args.text.now in
    let end = state c.declarations-read.new.parser in
    let whole = all_tokens (tokens_of text) c.in_ok-judge_tokens.ensures in
    let ahead = c.new.ensures.whole whole.0 whole.1 in
    let read : declarations_at (state c.new-parser.result) ≡ Ok (tt, end) = subst (λ (r : Result (Unit {0}) TextFault). Gives (λ _. tt) r c.declarations-read.new.parser (declarations_at (state c.new-parser.result))) c.in_ok-read.was c.declarations-read.ensures in
    read_well_formed text whole.0 (last_line text) (tt, end) whole.1 (ap (λ (a : Ahead). declarations_at (unread_in a)) (sym ahead) ∙ ap declarations_at (sym c.new-parser.ensures) ∙ read)
