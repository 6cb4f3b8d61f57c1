-- `marks::top` meets its contract: the zeros above it, the bit and those below it are 64.
use Prim.Native.Nat.{ℕ, suc, ◌+◌, ◌-◌, ◌^◌, ◌<◌}
use mathlib.Core.Path.{◌≡◌, ap}
use native.Mathlib.Omega.{arith}
use lib.Count.{count_leading_zeros, leading_top}
use Rattle.marks.proofs.top.Goals as goal

pub returns : goal.returns
returns c =
    let t = leading_top 64 c.args.x c.requires (omega arith) in
    let e : 63 - count_leading_zeros 64 c.args.x ≡ t.0 = omega (arith, t.1) in
    rw e (omega (arith, t.1), t.2, at t.0 t.3)
  where
    at : (j : ℕ) {x : ℕ} → x < 2 ^ suc j → x < 2 ^ (j + 1)
    at j h = let e : 2 ^ (j + 1) ≡ 2 ^ suc j = ap (λ (k : ℕ). 2 ^ k) (let q : j + 1 ≡ suc j = omega arith in q) in omega arith
