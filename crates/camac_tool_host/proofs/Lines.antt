-- What a listing has of a line that it did not take. The line of an item is never empty.
use Rattle.std.proofs.Common.{◌≡◌, ◌<◌, ◌-◌, ℕ, List, [], ◌++◌, length, take, drop, Option, None, Some, refl, sym, ap, subst, ◌∙◌, append-nil, append_assoc, take_all, take-append-drop, arith}
use Rattle.std.proofs.lemmas.List.{length-drop}
use Rattle.std.specs.Io.KnownBytes.{Appends, Keeps, append_known}
use Rattle.std.specs.Prelude.{true, false, Result, Ok, Err, OnOk, OnErr}
use Rattle.std.specs.Result.{IsErr}
use Rattle.camac_word.specs.Writing.{AppendsPrefix, Writes}
use Rattle.camac_lang.specs.Tree.{Script}
use Rattle.camac_report.specs.Items.{item_text}
use Rattle.camac_machine.specs.MachineState.{piece_of}
use Rattle.camac_machine.specs.declared.item.Item.{Item}
use Rattle.camac_machine.specs.declared.item.Item.TheVariants as item

pub some_line : (script : Script) (i : Item) (after : List ℕ) → 0 < length (item_text script (piece_of i) ++ after)
some_line script (item.Cycle d) after = omega arith
some_line script (item.Lock c w) after = omega arith
some_line script (item.Unlock c) after = omega arith
some_line script (item.Demand p v) after = omega arith

appends_nothing : (a b : Option (List ℕ)) → Keeps a b → Appends a b []
appends_nothing None b kept = tt
appends_nothing (Some xs) None kept = absurd kept
appends_nothing (Some xs) (Some ys) kept = kept ∙ sym (append-nil xs)

-- nothing of a text was written
pub nothing_of : (a b : Option (List ℕ)) (text : List ℕ) → 0 < length text → Keeps a b → AppendsPrefix a b text
nothing_of a b text some kept = ([], text, refl, some, appends_nothing a b kept)

-- a call that failed and left the bytes as they were has written a prefix of a text
pub writes_nothing : {T E : Type 0} (r : Result T E) (a b : Option (List ℕ)) (text : List ℕ) → IsErr r → 0 < length text → Keeps a b → Writes a b r text
writes_nothing (Ok x) a b text failed some kept = let no_error : false ≡ true = failed in cc
writes_nothing (Err e) a b text failed some kept = nothing_of a b text some kept

-- what was held and then a text
pub taken : (a d : Option (List ℕ)) (held text room : List ℕ) → Keeps a (append_known d held) → room ≡ held ++ text → Appends a (append_known d room) text
taken None d held text room kept is = tt
taken (Some xs) None held text room kept is = absurd kept
taken (Some xs) (Some ys) held text room kept is = ap (λ (l : List ℕ). ys ++ l) is ∙ sym (append_assoc ys held text) ∙ ap (λ (l : List ℕ). l ++ text) kept

behind : (a d e : Option (List ℕ)) (held text : List ℕ) → Keeps a (append_known d held) → held ≡ [] → Appends d e text → Appends a (append_known e held) text
behind None d e held text kept none p = tt
behind (Some xs) None e held text kept none p = absurd kept
behind (Some xs) (Some ys) None held text kept none p = absurd p
behind (Some xs) (Some ys) (Some zs) held text kept none p =
    ap (λ (l : List ℕ). zs ++ l) none ∙ append-nil zs ∙ p ∙ ap (λ (l : List ℕ). l ++ text) (sym (append-nil ys) ∙ ap (λ (l : List ℕ). ys ++ l) (sym none) ∙ kept)

-- all that was held was handed on, and then a text was written behind it
pub written_behind : {T E : Type 0} (r : Result T E) (a d e : Option (List ℕ)) (held text : List ℕ) → Keeps a (append_known d held) → held ≡ [] → Writes d e r text → Writes a (append_known e held) r text
written_behind (Ok x) a d e held text kept none p = behind a d e held text kept none p
written_behind (Err x) a d e held text kept none (prefix, rest, split, some, p) = (prefix, rest, split, some, behind a d e held prefix kept none p)

-- so many bytes of a text were written, and all of them where no call failed
pub written_out : {T E : Type 0} (r : Result T E) (a b : Option (List ℕ)) (text : List ℕ) (n : ℕ) → OnOk r (n ≡ length text) → OnErr r (n < length text) → Appends a b (take n text) → Writes a b r text
written_out (Ok x) a b text n all some p = subst (Appends a b) (take_all n text (omega (arith, all))) p
written_out (Err e) a b text n all some p = (take n text, drop n text, sym (take-append-drop n text), omega (arith, some, length-drop n text), p)
