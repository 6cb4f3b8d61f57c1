-- `pair_run::behind` meets its contract: the second of the node's three numbers.
use native.Mathlib.Omega.{arith}
use Rattle.pair_run.proofs.Rooms.{fours}
use Rattle.pair_run.proofs.behind.Goals as goal

pub bounds-run-room : goal.bounds-run-room
bounds-run-room c = omega (arith, c.requires.0, c.requires.1, fours c.args.run.now)
