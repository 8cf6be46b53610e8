-- The words of what is added to a list.
use Rattle.std.proofs.Common.{append-nil, ◌≡◌, ◌∙◌, List, [], ◌∷◌, ◌++◌, Bool, true, false, refl, sym}
use Rattle.std.proofs.lemmas.List.Elements.{All-cons, All-nil}
use Rattle.std.specs.Prelude.{if◌then◌else◌}
use Rattle.camac_lang.specs.declared.word.WordSize.{WordSize}
use Rattle.camac_run.specs.Size.{AddsOfSize, HasSize}
use Rattle.camac_run.specs.declared.member.Member.{Member}
use Rattle.camac_run.specs.declared.member.Member.TheVariants as member
use Rattle.camac_run.specs.declared.transfer.ReadBlock.{ReadBlock}

module _ (size : WordSize) (old new : List Member) where
  pub adds_its_own : (m : Member) → HasSize size m → new ≡ old ++ m ∷ [] → AddsOfSize size old new
  adds_its_own m its e = (m ∷ [], e, All-cons (HasSize size) m [] its (All-nil (HasSize size)))

  pub adds_nothing : new ≡ old → AddsOfSize size old new
  adds_nothing e = ([], e ∙ sym (append-nil old), All-nil (HasSize size))

  pub adds_its_block : (b : ReadBlock) (r : Bool) → new ≡ old ++ (if r then member.Block b ∷ [] else []) → AddsOfSize size old new
  adds_its_block b true e = adds_its_own (member.Block b) tt e
  adds_its_block b false e = adds_nothing (e ∙ append-nil old)
