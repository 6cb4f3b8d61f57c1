-- `op_function::operators::answers` meets its contract: the answers that were copied so far stand in their places.
use Prim.Native.Nat.{ℕ, ◌<◌}
use mathlib.Core.Path.{◌≡◌}
use lib.ListN.{length, get_or}
use Rattle.bdd.specs.Table.{operator}
use Rattle.op_function.proofs.operators.answers.Given as goal

abbrev pub invariant-loop-i : goal.invariant-loop-i
invariant-loop-i l = (length l.nine ≡ 9) × ((k : ℕ) → k < l.i → get_or l.nine k 3 ≡ get_or (operator l.p) k 3)
