-- `compare::part::walk` meets its contract: the walk as far as it came.
use Rattle.std.proofs.Common.{arith}
use Rattle.bdd.proofs.Ordered.{ordered_open}
use Rattle.compare.proofs.Parting.{walking_none, walking_steppable, walking_more, walking_less, walking_all}
use Rattle.compare.proofs.part.walk.Goals as goal

pub overflow_sub-at : goal.overflow_sub-at
overflow_sub-at c = omega (arith, (ordered_open _ c.requires.apart.comparable.left).size_least)

pub overflow_sub-at-2 : goal.overflow_sub-at-2
overflow_sub-at-2 c = omega (arith, (ordered_open _ c.requires.apart.comparable.right).size_least)

pub loop-setting-init : goal.loop-setting-init
loop-setting-init c = walking_none c.requires.apart c.requires.all_off

pub asked-requires : goal.asked-requires
asked-requires c = (c.loop-setting.invariant.left, c.loop-setting.invariant.right)

pub step-at-requires : goal.step-at-requires
step-at-requires c = walking_steppable c.loop-setting.invariant (omega (arith, c.asked.ensures, c.loop-setting-test.true))

pub loop-setting-smaller : goal.loop-setting-smaller
loop-setting-smaller c = walking_less c.loop-setting.invariant (omega (arith, c.asked.ensures, c.loop-setting-test.true)) c.step-at.ensures

pub loop-setting-preserved : goal.loop-setting-preserved
loop-setting-preserved c = walking_more c.loop-setting.invariant (omega (arith, c.asked.ensures, c.loop-setting-test.true)) c.step-at.ensures

pub returns : goal.returns
returns c = walking_all c.loop-setting.invariant (omega (arith, c.asked.ensures, c.loop-setting-test.false))
