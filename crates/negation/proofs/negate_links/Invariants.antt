-- `negation::negate_links` meets its contract: the front that is written is that of the negated links.
use Rattle.bdd.proofs.Negation.{swapped_links}
use Rattle.lent.proofs.Fronts.{Fronted}
use Rattle.negation.proofs.negate_links.Given as goal

abbrev pub invariant-loop-i : goal.invariant-loop-i
invariant-loop-i l = Fronted l.initial.run (swapped_links l.from) l.run l.i
