-- `pair_run::is_at` meets its contract: the two tests are those of the pair's two entries.
use native.Mathlib.Omega.{arith}
use Rattle.pair_run.proofs.Rooms.{fours}
use Rattle.pair_run.proofs.is_at.Goals as goal

pub bounds-run-at : goal.bounds-run-at
bounds-run-at c = omega (arith, c.requires.0, c.requires.1, fours c.args.run.now)

pub bounds-run-at-then-run-at : goal.bounds-run-at-then-run-at
bounds-run-at-then-run-at c = omega (arith, c.requires.0, c.requires.1, fours c.args.run.now)
