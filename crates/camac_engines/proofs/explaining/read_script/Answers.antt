use Rattle.std.proofs.Common.{ap, subst, sym}
use Rattle.std.specs.Prelude.{Result}
use Rattle.camac_lang.specs.Tree.{Script}
use Rattle.camac_tokens.specs.Fault.{Fault as TextFault}
use Rattle.camac_explain.specs.declared.finding.Finding.TheVariants as finding
use Rattle.camac_explain_text.specs.Sentence.{said_of}
use Rattle.camac_engines.specs.Explain.{ExplainedBy}
use Rattle.camac_engines.proofs.explaining.read_script.Goals as goal

pub returns-in_ok-lines-in-Err-Broken : goal.returns-in_ok-lines-in-Err-Broken
returns-in_ok-lines-in-Err-Broken c =
    let broken = c.in-Err-Broken in
    let told = c.in_ok-sentence-in-Err-Broken in
    let exact = rw broken.field-0-is at broken.ensures.exact in (
      record { case = broken.case; spot = broken.spot },
      exact,
      ap (λ r. finding.Text r broken.spot) c.rule-rule.ensures,
      subst (λ (s : Result Script TextFault). ExplainedBy c.args.text.now s (finding.Text c.rule-rule.result broken.spot) c.in_ok-lines-in-Err-Broken.lines.items) (sym exact)
          (said_of told.field-0, (c.parse_expecting.new.expected, rw broken.field-0-is at broken.ensures.tells, told.ensures), c.in_ok-lines-in-Err-Broken.ensures),
    )
