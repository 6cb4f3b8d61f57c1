-- `ending::bound_of` meets its contract: by the cases of the limit.
use Rattle.ending.proofs.Bounding.{unlimited, limited, roomy}
use Rattle.ending.proofs.bound_of.Goals as goal

pub returns-in-Some : goal.returns-in-Some
returns-in-Some c = rw c.in-Some.is (limited _ _ c.if-k-room.true)

pub returns-in_default : goal.returns-in_default
returns-in_default c = rw c.in-Some.is (roomy _ _ c.if-k-room.false)

pub returns-in_default-2 : goal.returns-in_default-2
returns-in_default-2 c = rw c.in_default.is (unlimited _)
