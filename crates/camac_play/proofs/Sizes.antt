-- The words of a cycle are those of the statement where a run stands.
use Rattle.std.proofs.Common.{◌≡◌, ◌∙◌, Bool, ap}
use Rattle.std.specs.Prelude.{if◌then◌else◌}
use Rattle.camac_lang.specs.declared.word.WordSize.TheVariants.{Full}
use Rattle.camac_run.specs.Size.{size_begun}
use Rattle.camac_play.specs.Size.{SizesAreOfStatements}

pub sizes_are_of_statements : SizesAreOfStatements
sizes_are_of_statements h os ahead = (
  ahead.first,
  λ st yes begun. ap (λ (b : Bool). if b then size_begun h.begun else Full) yes ∙ ap size_begun begun,
  λ no. ap (λ (b : Bool). if b then size_begun h.begun else Full) no,
)
