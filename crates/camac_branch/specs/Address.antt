-- An address on the branch, as a script asks for it: any numbers.
use Rattle.std.specs.Prelude.{ℕ}

pub record Address : Type 0 where
  pub crate_no : ℕ
  pub station : ℕ
  pub sub_address : ℕ

abbrev pub address : (crate_no station sub_address : ℕ) → Address
address c n a = record { crate_no = c; station = n; sub_address = a }
