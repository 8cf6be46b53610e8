use Rattle.std.proofs.Common.{◌≡◌, ◌<◌, ◌||◌, ◌-◌, ℕ, Bool, ◌++◌, length, take, drop, sym, ap, subst, ◌∙◌, arith, length-take}
use Rattle.std.proofs.Math.Bool.{or-false}
use Rattle.std.proofs.lemmas.Bool.{ne_eqb}
use Rattle.std.specs.Prelude.{◌&&◌, ◌==◌}
use lib.Seq.{take-add, take-take}
use Rattle.std.specs.Io.KnownBytes.{Appends}
use Rattle.std.proofs.KnownBytes.{Appends-trans}
use Rattle.camac_tool_host.proofs.device.write_out.Goals as goal

-- a write that took something has not failed
took_some : (a b : Bool) (n : ℕ) (x : Bool) → 0 < n → a ≡ (b || (n == 0 && x)) → a ≡ b
took_some a b n x some e = e ∙ ap (λ c. b || (c && x)) (ne_eqb n 0 (λ z. omega (arith, z, some))) ∙ or-false b

pub loop-written-preserved : goal.loop-written-preserved
loop-written-preserved g c =
    let done = c.loop-written.written in
    let n = c.in-Ok.n in
    let xs = c.args.bytes.now in
    let before = c.loop-written.invariant in
    let fits = c.in-Ok.ensures.bound in
    let most = length-take (length xs - done) (drop done xs) in
    let joined = ap (λ l. take done xs ++ l) (take-take n (length xs - done) (drop done xs) (omega arith)) ∙ sym (take-add done n xs) in
    record {
      bound = omega arith;
      bytes = subst (Appends _ _) joined (Appends-trans _ _ _ _ _ before.bytes c.in-Ok.ensures.bytes);
      failed = took_some (g.D.Device.failed c.write_some.new.self) (g.D.Device.failed c.loop-written.to) n _ (omega arith) c.in-Ok.ensures.failed ∙ before.failed;
    }
