-- `serialisation::read_records` meets its contract.
use mathlib.Core.Path.{refl}
use native.Mathlib.Omega.{arith}
use lib.ListN.{length-set}
use Rattle.serialisation.proofs.Turns.{entry_read, all_read}
use Rattle.serialisation.proofs.read_records.Goals as goal

pub loop-k-preserved : goal.loop-k-preserved
loop-k-preserved c =
    let was = c.loop-k.invariant.same in
    record {
      same = record {
        variable = was.variable;
        low = was.low;
        high = was.high;
        variable_length = simp length-set was.variable_length;
        low_length = simp length-set was.low_length;
        high_length = simp length-set was.high_length;
      };
      read = entry_read _ _ _ _ _ _ _ c.loop-k.invariant.read (omega arith) (omega arith) (omega arith) (omega arith) c.node_at-e.ensures refl;
    }

pub returns-clause-read : goal.returns-clause-read
returns-clause-read c = all_read _ _ _ _ _ c.loop-k.invariant.read (omega arith)
