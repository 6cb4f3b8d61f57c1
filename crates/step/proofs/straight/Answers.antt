-- `step::straight` meets its contract: by whether the variable is asked.
use borrow.Author.Tests.{eq-eqb, ne_eqb}
use Rattle.bdd.specs.Pairs.{moved, flipped}
use Rattle.step.proofs.straight.Goals as goal

pub returns-then-set-at : goal.returns-then-set-at
unfolding moved flipped
returns-then-set-at c = (rw (ne_eqb _ _ c.if-set-at.true), rw (ne_eqb _ _ c.if-set-at.true))

pub returns : goal.returns
unfolding moved flipped
returns c = let here = eq-eqb _ _ c.if-set-at.false in (rw here, rw here)
