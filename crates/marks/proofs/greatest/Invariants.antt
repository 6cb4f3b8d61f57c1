-- `marks::greatest` meets its contract: no option from word i on is marked.
use Rattle.marks.specs.Marking.{words}
use Rattle.marks.proofs.Marking.{NoneFrom}
use Rattle.marks.proofs.greatest.Given as goal

abbrev pub invariant-loop-i : goal.invariant-loop-i
invariant-loop-i l = NoneFrom (words l.m) l.i
