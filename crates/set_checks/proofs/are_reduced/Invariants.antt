-- `set_checks::are_reduced` meets its contract. The loop's invariant: the entries from 2 on below i are reduced and indexed.
use Rattle.bdd.specs.Lent.{set_of}
use Rattle.set_checks.proofs.Entries.{Reducing}
use Rattle.set_checks.proofs.are_reduced.Given as goal

abbrev pub invariant-loop-i : goal.invariant-loop-i
invariant-loop-i l = Reducing l.index (set_of l.set) l.i
