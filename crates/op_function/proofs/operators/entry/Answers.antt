-- `op_function::operators::entry` meets its contract by the table's rule: antt computes the definition's sixteen rows
-- and compares them with the constant table.
use Rattle.bdd.specs.Table.{operator, filled, bit, digits, all_of, inputs, fillings}
use Rattle.op_function.proofs.Sixteen.{rule, table, rows}
use Rattle.op_function.proofs.operators.entry.Goals as goal

pub returns : goal.returns
unfolding table rows operator filled bit digits all_of inputs fillings
returns c = rule c.args.p c.args.place c.requires.0 c.requires.1
