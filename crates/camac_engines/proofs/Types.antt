-- The declarations of the sample's types are all accepted.
use Rattle.std.proofs.Common.{◌≡◌, refl}
use Rattle.std.specs.Prelude.{Result, Ok}
use Rattle.std.specs.Result.{IsOk}
use Rattle.camac_module.specs.Entry.{no_entries}
use Rattle.camac_module.specs.Commands.{none_declared}
use Rattle.camac_engines.specs.Sample.{adc, reg, commands_of, declare_all}

pub adc_declared : declare_all (none_declared 16) adc ≡ Ok (commands_of adc)
unfolding adc no_entries
adc_declared = refl

pub reg_declared : declare_all (none_declared 16) reg ≡ Ok (commands_of reg)
unfolding reg no_entries
reg_declared = refl

pub is_ok_at : {T E : Type 0} (r : Result T E) (x : T) → r ≡ Ok x → IsOk r
is_ok_at r x is = rw is refl

pub same_at_ok : {T E : Type 0} (r : Result T E) (x y : T) → r ≡ Ok x → r ≡ Ok y → x ≡ y
same_at_ok r x y first second = cc
