-- `pair_run::write` meets its contract: the stores are those of `written`.
use mathlib.Core.Path.{refl}
use native.Mathlib.Omega.{arith}
use lib.ListN.{length-set}
use Rattle.pair_run.specs.Held.{written}
use Rattle.pair_run.proofs.Rooms.{fours}
use Rattle.pair_run.proofs.write.Goals as goal

pub bounds-run-place : goal.bounds-run-place
bounds-run-place c = omega (arith, c.requires.0, c.requires.1, c.requires.2, fours c.args.run.now)

pub bounds-run-at : goal.bounds-run-at
bounds-run-at c = omega (arith, c.requires.0, c.requires.1, c.requires.2, fours c.args.run.now)

pub bounds-run-at-2 : goal.bounds-run-at-2
bounds-run-at-2 c = simp length-set (omega (arith, c.requires.0, c.requires.1, c.requires.2, fours c.args.run.now))

pub bounds-run-at-3 : goal.bounds-run-at-3
bounds-run-at-3 c = simp length-set (omega (arith, c.requires.0, c.requires.1, c.requires.2, fours c.args.run.now))

pub bounds-run-place-2 : goal.bounds-run-place-2
bounds-run-place-2 c = simp length-set (omega (arith, c.requires.0, c.requires.1, c.requires.2, fours c.args.run.now))

pub returns : goal.returns
unfolding written
returns c = refl
