-- `index_run::walk` meets its contract: its turns are those of the laws of the walk.
use Rattle.bdd.specs.Lent.{set_of, entry_of_node}
use Rattle.chains.proofs.Walk.{Walking}
use Rattle.index_run.specs.Index.{places, chains_of}
use Rattle.index_run.proofs.walk.Given as goal

abbrev pub invariant-loop-next : goal.invariant-loop-next
invariant-loop-next l =
    Walking (chains_of (places l.index) l.nodes l.index (set_of l.set)) (entry_of_node l.e) l.place l.bound l.next l.met

abbrev pub decreases-loop-next : goal.decreases-loop-next
decreases-loop-next l = l.bound
