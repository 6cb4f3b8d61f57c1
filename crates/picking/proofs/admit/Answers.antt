-- `picking::admit` meets its contract: the checks read the spare runs as a set, and of the working runs the stack and the index alone.
use mathlib.Core.Path.{subst}
use Rattle.bdd.specs.Array.{Runs}
use Rattle.bdd.specs.Lent.{set_of}
use Rattle.bdd.specs.Operations.{working_of}
use Rattle.relation_ops.specs.Picking.{picking}
use Rattle.relation_ops.proofs.Whole.{early}
use Rattle.pick_ends.specs.Pieces.{Admits}
use Rattle.picking.proofs.admit.Goals as goal

pub returns : goal.returns
returns c =
    let a = c.args in
    subst (λ (b : Runs). Admits (early (picking (set_of a.set.now) a.picks.now) (working_of a.work.now) b a.w) (set_of a.set.now) a.picks.now c.admit.result)
    c.as_set.ensures c.admit.ensures
