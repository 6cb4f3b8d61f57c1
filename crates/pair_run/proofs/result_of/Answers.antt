-- `pair_run::result_of` meets its contract: the lower half of the node's last number.
use native.Mathlib.Omega.{arith}
use Rattle.pair_run.proofs.Rooms.{fours}
use Rattle.pair_run.proofs.result_of.Goals as goal

pub bounds-run-room_of : goal.bounds-run-room_of
bounds-run-room_of c = omega (arith, c.room_of.ensures, c.requires, fours c.args.run.now)
