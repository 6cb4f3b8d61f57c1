-- `index_run::walk` meets its contract: its turns are those of the laws of the walk.
use Prim.Native.Nat.{◌-◌, ◌≤◌}
use mathlib.Core.Path.{◌≡◌, refl}
use mathlib.Core.Logic.{inl, inr}
use native.Mathlib.Omega.{arith}
use borrow.Author.Tests.{leb-true, leb-false}
use Rattle.bdd.specs.Lent.{set_of, entry_of_node}
use Rattle.chains.proofs.Saying.{said, denied}
use Rattle.chains.proofs.Walk.{found, gone_on, ended}
use Rattle.index_run.specs.Index.{places, chains_of}
use Rattle.index_run.proofs.walk.Goals as goal

pub returns-then-is_at : goal.returns-then-is_at
returns-then-is_at c =
    found ((chains_of (places c.args.index.now) c.args.nodes c.args.index.now (set_of c.args.set.now))) ((entry_of_node c.args.e)) c.args.place c.loop-next.bound c.loop-next.next c.loop-next.met c.loop-next.invariant (c.loop-next.next - 1) (omega arith) ((let fact_more : let l_more = c.loop-next in l_more.next ≤ l_more.bound = leb-true _ _ c.if-next-bound.true-raw in fact_more))
    (said {P = ((chains_of (places c.args.index.now) c.args.nodes c.args.index.now (set_of c.args.set.now))).key (c.loop-next.next - 1) ≡ (entry_of_node c.args.e)} c.is_at.result c.is_at.ensures c.if-is_at.true)

pub loop-next-preserved : goal.loop-next-preserved
loop-next-preserved c =
    gone_on ((chains_of (places c.args.index.now) c.args.nodes c.args.index.now (set_of c.args.set.now))) ((entry_of_node c.args.e)) c.args.place c.loop-next.bound c.loop-next.next c.loop-next.met c.loop-next.invariant (c.loop-next.next - 1) (omega arith) ((let fact_more : let l_more = c.loop-next in l_more.next ≤ l_more.bound = leb-true _ _ c.if-next-bound.true-raw in fact_more))
    (denied {P = ((chains_of (places c.args.index.now) c.args.nodes c.args.index.now (set_of c.args.set.now))).key (c.loop-next.next - 1) ≡ (entry_of_node c.args.e)} c.is_at.result c.is_at.ensures c.if-is_at.false) _ refl

pub returns-else-next-bound : goal.returns-else-next-bound
returns-else-next-bound c =
    ended ((chains_of (places c.args.index.now) c.args.nodes c.args.index.now (set_of c.args.set.now))) ((entry_of_node c.args.e)) c.args.place c.loop-next.bound c.loop-next.next c.loop-next.met c.loop-next.invariant (inr (leb-false _ _ c.if-next-bound.false-raw))

pub returns-after-loop-next : goal.returns-after-loop-next
returns-after-loop-next c =
    ended ((chains_of (places c.args.index.now) c.args.nodes c.args.index.now (set_of c.args.set.now))) ((entry_of_node c.args.e)) c.args.place c.loop-next.bound c.loop-next.next c.loop-next.met c.loop-next.invariant (inl (omega arith))
