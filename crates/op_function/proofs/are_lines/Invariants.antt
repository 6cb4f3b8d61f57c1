-- `op_function::are_lines` meets its contract: the rows and columns before k stand.
use Rattle.std.proofs.Common.{ℕ, ◌≡◌, ◌*◌, ◌<◌, ◌&&◌, true}
use Rattle.op_function.specs.Checked.{line}
use Rattle.op_function.proofs.are_lines.Given as goal

abbrev pub invariant-loop-k : goal.invariant-loop-k
invariant-loop-k l = (j : ℕ) → j < l.k → (line l.table (3 * j) 1 && line l.table j 3) ≡ true
