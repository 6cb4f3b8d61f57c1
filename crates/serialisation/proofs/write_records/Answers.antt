-- `serialisation::write_records` meets its contract.
use Rattle.serialisation.proofs.Turns.{none_written, entry_written}
use Rattle.serialisation.proofs.write_records.Goals as goal

pub loop-k-init : goal.loop-k-init
loop-k-init c = none_written _ _

pub loop-k-preserved : goal.loop-k-preserved
loop-k-preserved c = entry_written _ _ _ _ c.loop-k.k c.loop-k.invariant c.put_record.ensures
