-- `serialisation::read_records` meets its contract. The loop's invariant: the first k records stand in the runs.
use Rattle.bdd.specs.Lent.{output_of, SameOutput}
use Rattle.serialisation.proofs.Turns.{Reading}
use Rattle.serialisation.proofs.read_records.Given as goal

abbrev pub invariant-loop-k : goal.invariant-loop-k
invariant-loop-k l =
    record { same : SameOutput l.initial.out l.out; read : Reading l.file l.count (output_of l.initial.out) (output_of l.out) l.k }
