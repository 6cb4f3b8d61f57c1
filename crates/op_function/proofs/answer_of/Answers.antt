-- `op_function::answer_of` meets its contract: the place that it reads is the definition's.
use Prim.Native.Nat.{ℕ}
use mathlib.Core.Path.{◌∙◌, ap}
use native.Mathlib.Omega.{arith}
use lib.ListN.{get_or}
use Rattle.bdd.specs.Table.{operator, answer, digits}
use Rattle.op_function.specs.Checked.{answer_of}
use Rattle.op_function.proofs.answer_of.Goals as goal

pub returns : goal.returns
unfolding answer_of answer digits
returns c =
    c.entry.ensures
    ∙ ap (λ (i : ℕ). get_or (operator c.args.p) i 3) (omega arith)
