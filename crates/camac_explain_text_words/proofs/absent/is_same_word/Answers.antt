use Rattle.std.proofs.Common.{ap, ◌∙◌}
use Rattle.std.specs.Bool.{one_answer}
use Rattle.std.specs.Str.{str_eq_ignore_ascii_case}
use Rattle.std.proofs.lemmas.Slice.Eq.{bytes_eq-Decides}
use Rattle.camac_explain_text_words.proofs.absent.is_same_word.Goals as goal

pub returns : goal.returns
returns c =
    one_answer _ _ c.eq_ignore_ascii_case.ensures.test (bytes_eq-Decides _ _)
    ∙ ap (λ k. str_eq_ignore_ascii_case k c.args.word.now) c.as_bytes.ensures.value
