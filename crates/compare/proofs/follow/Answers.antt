-- `compare::follow` meets its contract: each entry on the way has the value of the root.
use Rattle.std.proofs.Common.{arith}
use Rattle.bdd.proofs.Ordered.{ordered_open}
use Rattle.compare.proofs.Values.{follows_none, follows_reads, follows_less, follows_more, follows_all}
use Rattle.compare.proofs.follow.Goals as goal

pub overflow_sub-i : goal.overflow_sub-i
overflow_sub-i c = omega (arith, (ordered_open _ c.requires.is_ordered).size_least)

pub loop-i-init : goal.loop-i-init
loop-i-init c = follows_none _ _ c.requires.is_ordered c.requires.setting_len

pub link_at-i-requires : goal.link_at-i-requires
link_at-i-requires c = follows_reads c.loop-i.invariant c.loop-i-test.true

pub loop-i-smaller : goal.loop-i-smaller
loop-i-smaller c = rw c.link_at-i.ensures (follows_less c.loop-i.invariant c.loop-i-test.true)

pub loop-i-preserved : goal.loop-i-preserved
loop-i-preserved c = rw c.link_at-i.ensures (follows_more c.loop-i.invariant c.loop-i-test.true)

pub returns : goal.returns
returns c = follows_all c.loop-i.invariant c.loop-i-test.false
