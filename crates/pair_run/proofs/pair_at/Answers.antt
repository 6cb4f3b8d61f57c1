-- `pair_run::pair_at` meets its contract: the upper half of the node's last number, and its first.
use native.Mathlib.Omega.{arith}
use Rattle.pair_run.proofs.Rooms.{fours}
use Rattle.pair_run.proofs.pair_at.Goals as goal

pub bounds-run-at : goal.bounds-run-at
bounds-run-at c = omega (arith, c.room_of.ensures, c.requires, fours c.args.run.now)

pub bounds-run-at-2 : goal.bounds-run-at-2
bounds-run-at-2 c = omega (arith, c.room_of.ensures, c.requires, fours c.args.run.now)
