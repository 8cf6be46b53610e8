-- The blocks that statements surely make.
use Rattle.std.proofs.Common.{◌≡◌, ◌∙◌, ℕ, List, [], set, Bool, true, false, Option, Some, None, refl, sym, ap, subst}
use Rattle.std.proofs.lemmas.Bool.{false≢true}
use Rattle.std.specs.Prelude.{IfSome, is_some, nat_eq, slice_index_or}
use Rattle.camac_branch.specs.Address.{Address}
use Rattle.camac_esone.specs.Calls.{command_at}
use Rattle.camac_esone.specs.Transfers.{q_repeat_next, q_stop_next, scan_next, when}
use Rattle.camac_func.specs.declared.data.DataMove.TheVariants.{In}
use Rattle.camac_lang.specs.Tree.{Expression, Statement, address_scan, q_repeat, q_stop}
use Rattle.camac_lang.specs.declared.spot.Spot.{Spot}
use Rattle.camac_model.specs.Behaviour.{given, unless_wrong}
use Rattle.camac_model.specs.Fine.{most_turns}
use Rattle.camac_model.specs.Meaning.{Context, effect, transfer_to}
use Rattle.camac_model.specs.State.{State}
use Rattle.camac_model.specs.Value.{value}
use Rattle.camac_run.specs.Sure.{HasValue, IsKnown, IsSure, MakesBlock, transfer_of}
use Rattle.camac_run.specs.Transfer.{IsBegun, IsBlock, command_if, left_by, most_cycles, next_by, window}
use Rattle.camac_run.specs.declared.transfer.ReadBlock.{ReadBlock}
use Rattle.camac_run.specs.declared.transfer.TransferMode.{TransferMode}
use Rattle.camac_run.specs.declared.transfer.TransferMode.TheVariants as mode
use Rattle.camac_run.proofs.Steps.{read_known}

-- what a statement gives, if it gives something
pub transfers_are : (c : Context) (known : List (Option ℕ)) (registers : List (Option Address)) (st : Statement) (o : Option ReadBlock) (after : List (Option ℕ)) → IfSome o (λ b. MakesBlock c known registers st (left_by b) after) → IsSure c known registers st (transfer_of o) after registers
transfers_are c known registers st None after h = tt
transfers_are c known registers st (Some b) after h = (refl, h)

when_is : (b : Bool) (at : Address) → is_some (when b at) ≡ true → when b at ≡ Some at
when_is true at e = refl
when_is false at e = absurd (false≢true e)

-- it begins at its first address
starts_at : (m : TransferMode) (first last : Address) (cycles words : ℕ) → is_some (next_by m first last cycles words []) ≡ true → next_by m first last cycles words [] ≡ Some first
starts_at mode.QStop first last cycles words e = when_is _ first e
starts_at mode.QRepeat first last cycles words e = when_is _ first e
starts_at mode.Scan first last cycles words e = when_is _ first e

module _ (m : TransferMode) (first last : Address) (f cycles words : ℕ) where
  abbrev its_block : ReadBlock
  its_block = record { mode = m; first = command_at first f In; last = last; cycles = cycles; words = words }

  begun_block : is_some (next_by m first last cycles words []) ≡ true → cycles ≡ most_cycles m (left_by its_block) → IsBlock (left_by its_block)
  begun_block starts most = record { first = ap (λ o. command_if f o (Some In)) (starts_at m first last cycles words starts); most = most }

module _ (c : Context) (known : List (Option ℕ)) (registers : List (Option Address)) (f x : ℕ) (spot : Spot) (first : Address) where
  -- a statement that comes to a block
  makes_block : (st : Statement) (m : TransferMode) (last : Address) (cycles words : ℕ) (t : ReadBlock) → IsBegun m first last f cycles words t → cycles ≡ most_cycles m (left_by (its_block m first last f cycles words))
      → ((s : State) → IsKnown known registers s → effect c most_turns st s ≡ transfer_to c.plan f None (next_by m first last cycles words) x s) → MakesBlock c known registers st (left_by t) (set known x None)
  makes_block st m last cycles words t b most begins =
      subst (λ (u : ReadBlock). MakesBlock c known registers st (left_by u) (set known x None)) (sym b.is)
      (record { block = begun_block m first last f cycles words b.starts most; number = x; begins = begins; known = λ g v kn. read_known known g _ x v refl kn })

  pub scan_makes : (r1 r2 : ℕ) (max : Expression) (n : ℕ) (last : Address) (t : ReadBlock) → slice_index_or registers r1 None ≡ Some first → slice_index_or registers r2 None ≡ Some last → HasValue known max n → nat_eq first.crate_no last.crate_no ≡ true
      → IsBegun mode.Scan first last f (window first last) n t → MakesBlock c known registers (address_scan spot f r1 r2 max x) (left_by t) (set known x None)
  scan_makes r1 r2 max n last t there there' has same b =
      makes_block (address_scan spot f r1 r2 max x) mode.Scan last (window first last) n t b refl (λ s kn.
      ap (λ o. given o (λ first. given (s.registers r2) (λ last. given (value max s.variables) (λ m. unless_wrong (nat_eq first.crate_no last.crate_no) (transfer_to c.plan f None (scan_next first last m) x)))) s) (kn.registers_are r1 first there)
      ∙ ap (λ o. given o (λ last. given (value max s.variables) (λ m. unless_wrong (nat_eq first.crate_no last.crate_no) (transfer_to c.plan f None (scan_next first last m) x))) s) (kn.registers_are r2 last there')
      ∙ ap (λ o. given o (λ m. unless_wrong (nat_eq first.crate_no last.crate_no) (transfer_to c.plan f None (scan_next first last m) x)) s) (has s.variables kn.variables_are)
      ∙ ap (λ u. unless_wrong u (transfer_to c.plan f None (scan_next first last n) x) s) same)

  module _ (r : ℕ) (there : slice_index_or registers r None ≡ Some first) (max : Expression) (n : ℕ) (has : HasValue known max n) (t : ReadBlock) where
    pub q_stop_makes : IsBegun mode.QStop first first f n n t → MakesBlock c known registers (q_stop spot f r None max x) (left_by t) (set known x None)
    q_stop_makes b =
        makes_block (q_stop spot f r None max x) mode.QStop first n n t b refl (λ s kn.
        ap (λ o. given o (λ at. given (value max s.variables) (λ m. transfer_to c.plan f None (q_stop_next at m) x)) s) (kn.registers_are r first there)
        ∙ ap (λ o. given o (λ m. transfer_to c.plan f None (q_stop_next first m) x) s) (has s.variables kn.variables_are))

    pub q_repeat_makes : (limit : Expression) (l : ℕ) → HasValue known limit l → IsBegun mode.QRepeat first first f l n t → MakesBlock c known registers (q_repeat spot f r None max limit x) (left_by t) (set known x None)
    q_repeat_makes limit l has' b =
        makes_block (q_repeat spot f r None max limit x) mode.QRepeat first l n t b refl (λ s kn.
        ap (λ o. given o (λ at. given (value max s.variables) (λ m. given (value limit s.variables) (λ l. transfer_to c.plan f None (q_repeat_next at m l) x))) s) (kn.registers_are r first there)
        ∙ ap (λ o. given o (λ m. given (value limit s.variables) (λ l. transfer_to c.plan f None (q_repeat_next first m l) x)) s) (has s.variables kn.variables_are)
        ∙ ap (λ o. given o (λ l. transfer_to c.plan f None (q_repeat_next first n l) x) s) (has' s.variables kn.variables_are))
