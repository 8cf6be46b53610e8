-- A runner that lies in memory has its machine there.
use Rattle.std.proofs.Common.{ℕ, ◌+◌, ◌<◌, ◌≤◌, arith}
use prog.Memory.{up}

grow : (k e m : ℕ) → m ≤ e → m ≤ up k e
grow k e m h = omega arith

plus : (e n m : ℕ) → m ≤ e → m ≤ e + n
plus e n m h = omega arith

-- the other fields of a runner stand after its machine
pub machine_fits : (m : ℕ) → up 8 (up 4 (up 1 (up 4 (up 1 (up 4 (up 4 (up 8 (0 + m) + 128) + 4) + 4) + 1) + 12) + 14) + 4) < 9223372036854775808 → m < 9223372036854775808
machine_fits m h =
    let zero_first : m ≤ 0 + m = omega arith in
    let le : m ≤ up 8 (up 4 (up 1 (up 4 (up 1 (up 4 (up 4 (up 8 (0 + m) + 128) + 4) + 4) + 1) + 12) + 14) + 4) =
    grow 8 (up 4 (up 1 (up 4 (up 1 (up 4 (up 4 (up 8 (0 + m) + 128) + 4) + 4) + 1) + 12) + 14) + 4) m
    (plus (up 4 (up 1 (up 4 (up 1 (up 4 (up 4 (up 8 (0 + m) + 128) + 4) + 4) + 1) + 12) + 14)) 4 m
    (grow 4 (up 1 (up 4 (up 1 (up 4 (up 4 (up 8 (0 + m) + 128) + 4) + 4) + 1) + 12) + 14) m
    (plus (up 1 (up 4 (up 1 (up 4 (up 4 (up 8 (0 + m) + 128) + 4) + 4) + 1) + 12)) 14 m
    (grow 1 (up 4 (up 1 (up 4 (up 4 (up 8 (0 + m) + 128) + 4) + 4) + 1) + 12) m
    (plus (up 4 (up 1 (up 4 (up 4 (up 8 (0 + m) + 128) + 4) + 4) + 1)) 12 m
    (grow 4 (up 1 (up 4 (up 4 (up 8 (0 + m) + 128) + 4) + 4) + 1) m
    (plus (up 1 (up 4 (up 4 (up 8 (0 + m) + 128) + 4) + 4)) 1 m
    (grow 1 (up 4 (up 4 (up 8 (0 + m) + 128) + 4) + 4) m
    (plus (up 4 (up 4 (up 8 (0 + m) + 128) + 4)) 4 m
    (grow 4 (up 4 (up 8 (0 + m) + 128) + 4) m
    (plus (up 4 (up 8 (0 + m) + 128)) 4 m
    (grow 4 (up 8 (0 + m) + 128) m
    (plus (up 8 (0 + m)) 128 m
    (grow 8 (0 + m) m zero_first)))))))))))))) in
    omega (arith, le, h)
