-- `pair_run::walk` meets its contract: its turns are those of the laws of chains.
use Rattle.chains.proofs.Walk.{Walking}
use Rattle.pair_run.specs.Held.{chains_of}
use Rattle.pair_run.proofs.walk.Given as goal

abbrev pub invariant-loop-next : goal.invariant-loop-next
invariant-loop-next l =
    Walking (chains_of l.room l.run) l.p l.place l.bound l.next l.met

abbrev pub decreases-loop-next : goal.decreases-loop-next
decreases-loop-next l = l.bound
