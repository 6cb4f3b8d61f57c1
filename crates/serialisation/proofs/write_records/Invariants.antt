-- `serialisation::write_records` meets its contract. The loop's invariant: the first k records stand in the bytes.
use Rattle.std.proofs.Common.{◌≡◌}
use Rattle.bdd.specs.Lent.{set_of}
use Rattle.serialisation.specs.Bytes.{records, over}
use Rattle.serialisation.proofs.write_records.Given as goal

abbrev pub invariant-loop-k : goal.invariant-loop-k
invariant-loop-k l = l.bytes ≡ over (records (set_of l.set) l.k) l.initial.bytes
