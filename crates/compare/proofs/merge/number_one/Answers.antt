-- `compare::merge::number_one` meets its contract: the links' numbers are read, and the entry's is noted before the pair run.
use Rattle.std.proofs.Common.{arith}
use Rattle.compare.proofs.Numbering.{turned}
use Rattle.compare.proofs.merge.number_one.Goals as goal

pub give-given-requires : goal.give-given-requires
give-given-requires c = let p = c.requires in
    let lo = rw c.wide.ensures at c.number.ensures in
    let hi = rw c.wide-2.ensures at c.number-2.ensures in
    record { low = omega (arith, lo, p.links.low, p.few); high = omega (arith, hi, p.links.high, p.few); next = p.few }

pub returns : goal.returns
returns c = let p = c.requires in
    let lo = rw c.wide.ensures at c.number.ensures in
    let hi = rw c.wide-2.ensures at c.number-2.ensures in
    turned p c.give-given.new.pairs _ _ _ _ c.give-given.auto.pairs lo hi c.give-given.ensures
