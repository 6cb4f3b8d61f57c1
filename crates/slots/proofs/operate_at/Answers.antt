-- `slots::operate_at` meets its contract: one step, its array kept.
use mathlib.Core.Path.{◌∙◌}
use Rattle.bdd.specs.Lent.{output_of}
use Rattle.slots.proofs.Leaving.{operates_leaves, kept_same}
use Rattle.slots.proofs.operate_at.Goals as goal

pub returns-clause-leaves : goal.returns-clause-leaves
returns-clause-leaves c =
    operates_leaves c.requires
    (rw (c.stands.ensures, c.stands-2.ensures, c.as_set-slots.ensures) at c.numbered_flip_op-answer.ensures.operates)
    c.size_of.ensures (c.keep.ensures.kept ∙ kept_same c.args.t c.size_of.result (output_of c.args.spare.now) c.as_set.ensures)
