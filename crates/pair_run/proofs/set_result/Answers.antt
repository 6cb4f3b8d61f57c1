-- `pair_run::set_result` meets its contract: the lower half of the node's last number is another, and the halves' sum fits.
use Prim.Native.Nat.{◌%◌, ◌^◌}
use mathlib.Core.Path.{◌≡◌}
use native.Mathlib.Omega.{arith}
use Rattle.pair_run.proofs.Rooms.{fours}
use Rattle.pair_run.proofs.Replaced.{replaced}
use Rattle.pair_run.proofs.set_result.Goals as goal

pub bounds-run-at : goal.bounds-run-at
bounds-run-at c = omega (arith, c.room_of.ensures, c.requires, fours c.args.run.now)

pub bounds-run-at-2 : goal.bounds-run-at-2
bounds-run-at-2 c = omega (arith, c.room_of.ensures, c.requires, fours c.args.run.now)

pub returns : goal.returns
returns c sound small =
    let same : c.args.res % 2 ^ 16 ≡ c.args.res = omega arith in
    rw (c.room_of.ensures, same) (replaced c.args.run.now c.args.node c.args.res c.requires small sound)
