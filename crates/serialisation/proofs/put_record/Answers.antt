-- `serialisation::put_record` meets its contract: each number stands behind the one before.
use mathlib.Core.Path.{◌∙◌}
use native.Mathlib.Omega.{arith}
use Rattle.std.proofs.Common.{w16, w32}
use Rattle.bdd.specs.Lent.{entry_of_node}
use Rattle.serialisation.proofs.Little.{length_little, le_bytes, mid_put}
use Rattle.serialisation.proofs.Turns.{record_put}
use Rattle.serialisation.proofs.put_record.Goals as goal

pub returns : goal.returns
returns c =
    let e = c.args.e in
    record_put _ _ _ _ c.args.at (entry_of_node e) (omega arith)
    (mid_put _ _ _ _ _ (c.copy_from_slice.ensures.after ∙ c.to_le_bytes.ensures ∙ le_bytes w16 e.variable) (omega (arith, length_little 2 e.variable)))
    (mid_put _ _ _ _ _ (c.copy_from_slice-2.ensures.after ∙ c.to_le_bytes-2.ensures ∙ le_bytes w32 e.low) (omega (arith, length_little 4 e.low)))
    (mid_put _ _ _ _ _ (c.copy_from_slice-3.ensures.after ∙ c.to_le_bytes-3.ensures ∙ le_bytes w32 e.high) (omega (arith, length_little 4 e.high)))
