-- `pair_run::walk` meets its contract: its turns are those of the laws of chains.
use mathlib.Core.Logic.{inl, inr}
use native.Mathlib.Omega.{arith}
use borrow.Author.Tests.{leb-true, leb-false}
use Rattle.chains.proofs.Saying.{said, denied}
use Rattle.chains.proofs.Walk.{found, gone_on, ended}
use Rattle.pair_run.specs.Held.{chains_of}
use Rattle.pair_run.proofs.Rooms.{fours}
use Rattle.pair_run.proofs.walk.Goals as goal

pub bounds-run-place : goal.bounds-run-place
bounds-run-place c = omega (arith, c.requires.0, c.requires.1, fours c.args.run.now)

pub returns-then-is_at : goal.returns-then-is_at
returns-then-is_at c =
    found ((chains_of c.args.room c.args.run.now)) c.args.p c.args.place _ _ _ c.loop-next.invariant _ (omega (arith, c.loop-next-test.true)) (leb-true c.loop-next.next c.loop-next.bound c.if-next-bound.true-raw)
    (said _ c.is_at.ensures c.if-is_at.true)

-- the check finds this alone, but where an answer beside it is refused it says nothing of it
pub loop-next-smaller : goal.loop-next-smaller
loop-next-smaller c = omega (arith, c.loop-next-test.true, leb-true c.loop-next.next c.loop-next.bound c.if-next-bound.true-raw)

pub loop-next-preserved : goal.loop-next-preserved
loop-next-preserved c =
    gone_on ((chains_of c.args.room c.args.run.now)) c.args.p c.args.place _ _ _ c.loop-next.invariant _ (omega (arith, c.loop-next-test.true)) (leb-true c.loop-next.next c.loop-next.bound c.if-next-bound.true-raw)
    (denied _ c.is_at.ensures c.if-is_at.false) _ c.behind-next.ensures

pub returns-else-next-bound : goal.returns-else-next-bound
returns-else-next-bound c =
    ended ((chains_of c.args.room c.args.run.now)) c.args.p c.args.place _ _ _ c.loop-next.invariant (inr (leb-false c.loop-next.next c.loop-next.bound c.if-next-bound.false-raw))

pub returns-after-loop-next : goal.returns-after-loop-next
returns-after-loop-next c =
    ended ((chains_of c.args.room c.args.run.now)) c.args.p c.args.place _ _ _ c.loop-next.invariant (inl (omega (arith, c.loop-next-test.false)))
