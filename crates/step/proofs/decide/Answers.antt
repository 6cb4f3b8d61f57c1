-- `step::decide` meets its contract: the place 3a+b of the nine.
use Rattle.std.proofs.Common.{rules, ◌≡◌, min}
use mathlib.Core.Path.{sym}
use native.Mathlib.Omega.{arith}
use Rattle.op_function.proofs.Tables.{answer_at}
use Rattle.step.proofs.decide.Goals as goal

pub returns : goal.returns
returns c =
    let l : c.min.result ≡ min c.args.p.left 2 = search rules in
    let r : c.min-2.result ≡ min c.args.p.right 2 = search rules in
    rw (l, r) (sym (answer_at _ _ _ c.requires (omega arith) (omega arith)))
