-- `slots::select_off_at` meets its contract: one step, its array kept.
use mathlib.Core.Path.{◌∙◌}
use Rattle.bdd.specs.Lent.{output_of}
use Rattle.slots.proofs.Leaving.{relates_leaves, relates_so, kept_same}
use Rattle.slots.proofs.select_off_at.Goals as goal

pub returns-clause-leaves : goal.returns-clause-leaves
returns-clause-leaves c =
    relates_leaves c.requires (relates_so (rw c.as_set.ensures at c.stands-at.ensures) c.var_select-answer.ensures.relates)
    c.size_of.ensures (c.keep.ensures.kept ∙ kept_same c.args.t c.size_of.result (output_of c.args.spare.now) c.as_set-2.ensures)
