-- `serialisation::record` meets its contract: k below the count of whole records keeps all ten bytes in the file.
use Prim.Native.Nat.{ℕ, ◌+◌, ◌*◌, ◌-◌}
use mathlib.Core.Path.{◌≡◌, ap, ◌∙◌}
use native.Mathlib.Omega.{arith}
use lib.ListN.{take, drop}
use Rattle.serialisation.proofs.Parts.{part_there, part_none}
use Rattle.serialisation.proofs.record.Goals as goal

pub returns-then-k-file : goal.returns-then-k-file
returns-then-k-file c =
    let k = c.args.k in
    let file = c.args.file.now in
    let ten : 10 * k + 10 - 10 * k ≡ 10 = omega arith in
    ap (λ (n : ℕ). take n (drop (10 * k) file)) ten ∙ part_there file k c.if-k-file.true

pub returns : goal.returns
returns c = part_none _ _ c.if-k-file.false
