-- What a statement writes anywhere in it, what is forgotten at the head of a loop, and by how much a turn lowers its measure.
-- All is read from the text, so statements that can't be reached count.
use Rattle.std.specs.Prelude.{ℕ, suc, Bool, false, ◌||◌, Option, Some, None, nat_eq, if◌then◌else◌}
use Rattle.camac_lang.specs.Tree.{Expression, number, group, subtract, Move, no_data, into, from, Statement, assign, set_register, single, address_scan, q_stop, q_repeat, put, crate_call, lam_call, choose, choose_else, for_, for_each, while_, locked, call, Block, done, next}
use Rattle.camac_range.specs.Number.{greatest}
use Rattle.camac_range.specs.Interval.{Interval, interval}
use Rattle.camac_rules.specs.Known.{write, Facts, facts, with_range}
use Rattle.camac_rules.specs.Conditions.{sole_variable}

abbrev pub reads_into : Move → ℕ → Bool
reads_into no_data y = false
reads_into (into x) y = nat_eq y x
reads_into (from e) y = false

-- whether variable y is written; a call writes none
abbrev mutual
  pub writes : Statement → ℕ → Bool
  writes (assign spot x e) y = nat_eq y x
  writes (set_register spot r c n a) y = false
  writes (single spot size f r move) y = reads_into move y
  writes (address_scan spot f r1 r2 max x) y = nat_eq y x
  writes (q_stop spot f r t max x) y = nat_eq y x
  writes (q_repeat spot f r t max limit x) y = nat_eq y x
  writes (put spot e) y = false
  writes (crate_call spot which e) y = false
  writes (lam_call spot which l) y = false
  writes (choose spot test a) y = block_writes a y
  writes (choose_else spot test a b) y = block_writes a y || block_writes b y
  writes (for_ spot x e1 e2 keeps body) y = nat_eq y x || block_writes body y
  writes (for_each spot x v last body) y = nat_eq y x || block_writes body y
  writes (while_ spot test most m keeps body) y = block_writes body y
  writes (locked spot e body) y = block_writes body y
  writes (call spot p es) y = false

  pub block_writes : Block → ℕ → Bool
  block_writes done y = false
  block_writes (next s rest) y = writes s y || block_writes rest y

abbrev pub any_range : Interval
any_range = interval 0 greatest

abbrev pub forget_variable : ℕ → Facts → Facts
forget_variable x k = with_range x any_range k

abbrev pub forget_register : ℕ → Facts → Facts
forget_register r k = facts k.ranges (write None k.registers r None)

abbrev pub forget_move : Move → Facts → Facts
forget_move no_data k = k
forget_move (into x) k = forget_variable x k
forget_move (from e) k = k

-- any number in each variable that is written, and each register that is set may be unset
abbrev mutual
  pub forget : Statement → Facts → Facts
  forget (assign spot x e) k = forget_variable x k
  forget (set_register spot r c n a) k = forget_register r k
  forget (single spot size f r move) k = forget_move move k
  forget (address_scan spot f r1 r2 max x) k = forget_variable x k
  forget (q_stop spot f r t max x) k = forget_variable x k
  forget (q_repeat spot f r t max limit x) k = forget_variable x k
  forget (put spot e) k = k
  forget (crate_call spot which e) k = k
  forget (lam_call spot which l) k = k
  forget (choose spot test a) k = forget_block a k
  forget (choose_else spot test a b) k = forget_block b (forget_block a k)
  forget (for_ spot x e1 e2 keeps body) k = forget_variable x (forget_block body k)
  forget (for_each spot x v last body) k = forget_variable x (forget_block body k)
  forget (while_ spot test most m keeps body) k = forget_block body k
  forget (locked spot e body) k = forget_block body k
  forget (call spot p es) k = k

  pub forget_block : Block → Facts → Facts
  forget_block done k = k
  forget_block (next s rest) k = forget_block rest (forget s k)

-- a literal from 1, brackets aside
abbrev pub positive : Expression → Option ℕ
positive (number (suc k)) = Some (suc k)
positive (group e) = positive e
positive e = None

abbrev pub is_variable : ℕ → Option ℕ → Bool
is_variable m None = false
is_variable m (Some x) = nat_eq x m

-- k of `m - k`, brackets aside
abbrev pub fall_by : ℕ → Expression → Option ℕ
fall_by m (subtract a b) = if is_variable m (sole_variable a) then positive b else None
fall_by m (group e) = fall_by m e
fall_by m e = None

-- k of `m = m - k`
abbrev pub fall_in : ℕ → Statement → Option ℕ
fall_in m (assign spot x e) = if nat_eq x m then fall_by m e else None
fall_in m s = None

-- how much a turn takes from m, where one statement of the body itself does so and nothing else in it writes m
abbrev pub fall_of : ℕ → Block → Option ℕ
fall_of m done = None
fall_of m (next s rest) =
    if writes s m then (if block_writes rest m then None else fall_in m s) else fall_of m rest
