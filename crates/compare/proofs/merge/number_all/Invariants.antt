-- `compare::merge::number_all` meets its contract: the entries passed have their numbers.
use Rattle.std.proofs.Common.{ℕ, ◌+◌, ◌≤◌, length, drop}
use Rattle.bdd.specs.Lent.{set_of}
use Rattle.bdd.specs.Value.{Function}
use Rattle.compare.specs.Numbers.{Meanings}
use Rattle.compare.proofs.Numbering.{Numbering}
use Rattle.compare.proofs.merge.number_all.Given as goal

abbrev pub invariant-loop-i : goal.invariant-loop-i
invariant-loop-i l =
    record {
      most : l.i ≤ length l.set.variable.now + 1;
      numbering : (f : ℕ → Function) → Meanings (drop l.end l.initial.room) l.first f → Numbering (set_of l.set) l.initial.room l.from l.end f l.first l.room l.next l.i;
    }
