-- `marks::read` meets its contract: what was read is marked, each once.
use lib.ListN.{take}
use Rattle.marks.specs.Marking.{SameOptions}
use Rattle.marks.proofs.read.Given as goal

abbrev pub invariant-loop-v : goal.invariant-loop-v
invariant-loop-v l = SameOptions (take l.v-index l.picks) l.m
