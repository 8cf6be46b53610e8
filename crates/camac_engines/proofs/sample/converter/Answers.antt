use Rattle.std.proofs.Common.{◌∙◌, ap}
use Rattle.camac_module.specs.Commands.{none_declared}
use Rattle.camac_engines.specs.Sample.{adc, commands_of, declare_all}
use Rattle.camac_engines.proofs.Types.{adc_declared, is_ok_at, same_at_ok}
use Rattle.camac_engines.proofs.sample.converter.Goals as goal

pub unwrap-requires : goal.unwrap-requires
unwrap-requires c = is_ok_at c.module_type.result (commands_of adc) (c.module_type.ensures ∙ ap (declare_all (none_declared 16)) c.adc.ensures ∙ adc_declared)

pub returns : goal.returns
returns c =
    same_at_ok c.module_type.result c.unwrap.result (commands_of adc) c.unwrap.ensures (c.module_type.ensures ∙ ap (declare_all (none_declared 16)) c.adc.ensures ∙ adc_declared)
