-- `slots::copy_at` meets its contract: refused with 9, or copied and kept.
use mathlib.Core.Path.{ap, ◌∙◌}
use lib.ListN.{length}
use Rattle.bdd.specs.Array.{Runs}
use Rattle.bdd.specs.Lent.{set_of, output_of}
use Rattle.slots.specs.Slots.{set_at, copied_runs}
use Rattle.slots.proofs.Leaving.{copy_refused, copy_leaves, kept_same}
use Rattle.slots.proofs.copy_at.Goals as goal

pub returns-then-room-size-clause-leaves : goal.returns-then-room-size-clause-leaves
returns-then-room-size-clause-leaves c =
    let a = c.args in
    let set = rw c.as_set.ensures at c.stands-at.ensures in
    copy_refused (set_at a.place (set_of a.set.now) (output_of a.spare.now)) (output_of a.out.now) a.t (output_of a.spare.now) c.requires.whole
    (ap (λ (b : Runs). length b.variable) set) (rw c.room.ensures at c.if-room-size.true)

pub returns-clause-leaves : goal.returns-clause-leaves
returns-clause-leaves c =
    let a = c.args in
    let set = rw c.as_set.ensures at c.stands-at.ensures in
    copy_leaves (set_at a.place (set_of a.set.now) (output_of a.spare.now)) (output_of a.out.now) a.t (output_of a.spare.now) c.requires.whole
    (ap (λ (b : Runs). length b.variable) set) c.requires.slots (rw c.room.ensures at c.if-room-size.false)
    (c.copy_out.ensures.copied ∙ ap (λ (b : Runs). copied_runs (output_of a.out.now) b (length c.stands-at.result.variable.now)) set)
    (c.keep.ensures.kept ∙ kept_same a.t (length c.stands-at.result.variable.now) (output_of a.spare.now) c.as_set-2.ensures)
