use Rattle.std.proofs.Common.{refl, arith}
use Rattle.std.specs.Prelude.{take_while}
use Rattle.camac_tokens.specs.declared.fault.Limit.TheVariants.{NameBytes}
use Rattle.camac_tokens.specs.declared.fault.TextCase.TheVariants as text_case
use Rattle.camac_tokens.specs.Scanning.{is_name_byte}
use Rattle.camac_tokens.proofs.Scans.{name_wrong}
use Rattle.camac_tokens.proofs.first.put_name.Goals as goal

pub returns-then-size-gt-NAME_BYTES : goal.returns-then-size-gt-NAME_BYTES
returns-then-size-gt-NAME_BYTES c =
    (refl, (text_case.Limit NameBytes, name_wrong (take_while is_name_byte c.args.text.now) c.requires.none (omega (arith, c.requires.size, c.if-size-gt-NAME_BYTES.true))))
