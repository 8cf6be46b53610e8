use Rattle.std.proofs.Common.{◌≡◌, Bool, false, Some, cond, ap, sym, ◌∙◌}
use Rattle.std.specs.Prelude.{slice_index}
use Rattle.std.specs.Char.{is_ascii_digit, is_ascii_alphabetic}
use Rattle.camac_tokens.specs.declared.fault.Limit.TheVariants.{NameBytes}
use Rattle.camac_tokens.specs.declared.fault.TextCase.TheVariants as text_case
use Rattle.camac_tokens.proofs.Scans.{fault_of}
use Rattle.camac_tokens.proofs.first.fault_at.Goals as goal

pub returns-else-is_ascii_digit : goal.returns-else-is_ascii_digit
returns-else-is_ascii_digit c =
    let b = slice_index c.args.text.now 0 in
    let no_letter : is_ascii_alphabetic b ≡ false = sym c.is_ascii_alphabetic.ensures.value ∙ c.if-is_ascii_alphabetic.false in
    let no_digit : is_ascii_digit b ≡ false = sym c.is_ascii_digit.ensures.value ∙ c.if-is_ascii_digit.false in
    fault_of b c.args.text.now c.requires.fault.0 c.requires.fault.1
    ∙ ap (λ (is : Bool). Some (cond is (text_case.Limit NameBytes) (cond (is_ascii_digit b) (text_case.Number 4294967295) text_case.Byte))) no_letter
    ∙ ap (λ (is : Bool). Some (cond is (text_case.Number 4294967295) text_case.Byte)) no_digit
