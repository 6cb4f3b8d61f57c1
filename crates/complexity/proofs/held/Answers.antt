-- `complexity::held` meets its contract: by whether the decision is on.
use borrow.Author.Tests.{eq-eqb, ne_eqb}
use Rattle.complexity.proofs.held.Goals as goal

pub returns-then-decision-eq1 : goal.returns-then-decision-eq1
returns-then-decision-eq1 c = rw (eq-eqb _ _ c.if-decision-eq1.true)

pub returns-else-decision-eq1 : goal.returns-else-decision-eq1
returns-else-decision-eq1 c = rw (ne_eqb _ _ c.if-decision-eq1.false)
