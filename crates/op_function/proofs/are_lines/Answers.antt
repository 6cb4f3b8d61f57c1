-- `op_function::are_lines` meets its contract.
use Rattle.std.proofs.Common.{arith}
use Rattle.bdd.proofs.Logic.{is_false}
use Rattle.op_function.proofs.Lines.{lines_open, lines_close}
use Rattle.op_function.proofs.are_lines.Goals as goal
use Rattle.op_function.proofs.are_lines.Goals.{then-not-is_line-via-then-not-is_line, then-not-is_line-via-else-not-is_line+then-not-is_line-2}

pub returns-then-not-is_line : goal.returns-then-not-is_line
returns-then-not-is_line c =
    is_false _ (λ e.
    let h = lines_open c.args.table.now e c.loop-k.k (omega arith) in
    elim c.then-not-is_line.branch [ then-not-is_line-via-then-not-is_line w ↦ cc h.0 | then-not-is_line-via-else-not-is_line+then-not-is_line-2 w ↦ cc h.1 ])

pub returns : goal.returns
returns c = lines_close _ (λ k l. c.loop-k.invariant k (omega arith))
