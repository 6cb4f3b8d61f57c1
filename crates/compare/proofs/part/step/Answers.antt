-- `compare::part::step` meets its contract: each end is one of the two steps.
use Rattle.compare.proofs.Parting.{left_reads, right_reads, left_within, right_within, steps_off, steps_on}
use Rattle.compare.proofs.part.step.Goals as goal

pub child-l-requires : goal.child-l-requires
child-l-requires c = let r = left_reads c.requires in (r.0, r.1)

pub child-r-requires : goal.child-r-requires
child-r-requires c = let r = right_reads c.requires in (r.0, r.1)

pub number-requires : goal.number-requires
number-requires c = rw c.child-l.ensures (left_within c.requires c.asked-v.result)

pub number-requires-2 : goal.number-requires-2
number-requires-2 c = rw c.child-r.ensures (right_within c.requires c.asked-v.result)

pub returns-then-number : goal.returns-then-number
returns-then-number c = steps_off _ _ _ _ _ _ _ _ _ _ _ c.asked-v.ensures c.child-l.ensures c.child-r.ensures c.number.ensures c.number-2.ensures c.if-number.true

pub child-requires : goal.child-requires
child-requires c = let r = left_reads c.requires in (r.0, r.2)

pub child-requires-2 : goal.child-requires-2
child-requires-2 c = let r = right_reads c.requires in (r.0, r.2)

pub returns : goal.returns
returns c = steps_on _ _ _ _ _ _ _ _ _ _ _ c.asked-v.ensures c.child-l.ensures c.child-r.ensures c.number.ensures c.number-2.ensures c.if-number.false _ _
    c.child.ensures c.child-2.ensures
