-- What a session's handle owns: nothing at null. Else a lifetime of its own, the box of the run, which borrows for that lifetime, and the right to have the script's box back once it has ended.
use base.Fraction.{full_share}
use base.Fml.{Lft, Fml, feq, fsep, fex, flft, flent}
use base.Stored.{Coded}
use mir.Syntax.{named}
use denote.RattleType.{RattleType}
use denote.RawPtr.{Ptr, null_ptr}
use Rattle.std.specs.Prelude.{ℕ, Option, None, Some, [], ◌∷◌}
use Rattle.std.specs.Coded.{coded_option}
use Rattle.std.specs.Box.Ownership.{box_owns}
use Rattle.std.specs.Global.{Global}
use Rattle.std.specs.contracts.impls.GlobalAllocator.TheImpl.{ghosts}
use Rattle.camac_c.specs.declared.session.Session.{Session as Run}
use Rattle.camac_rules.specs.contracts.checked.Checked as script
use Rattle.camac_c.specs.contracts.session.Session as run

-- the run's type while the lifetime α lasts
abbrev pub run_in : Lft → RattleType
run_in α = run.the_row (record { mir = named 0; lft = α })

abbrev pub held_coded : Coded (Option Run)
held_coded = coded_option (run_in []).coded

abbrev pub script_boxed : Global → Ptr → script.the_row.Denot → Fml
script_boxed a p x = box_owns (ghosts.dealloc_token a) script.the_row p x

abbrev pub run_boxed : Global → ℕ → Ptr → Run → Fml
run_boxed a ν r v = box_owns (ghosts.dealloc_token a) (run_in (ν ∷ [])) r v

abbrev pub open_at : Global → Ptr → Ptr → Run → ℕ × script.the_row.Denot → Fml
open_at a r p v s = fsep (flft (s.0 ∷ []) full_share) (fsep (run_boxed a s.0 r v) (flent (s.0 ∷ []) (script_boxed a p s.1)))

unfoldable pub session_owns : Global → Ptr → Ptr → Option Run → Fml
session_owns a r p None = feq Ptr r null_ptr
session_owns a r p (Some v) = fex (ℕ × script.the_row.Denot) (open_at a r p v)
