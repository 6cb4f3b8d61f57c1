-- `index_run::search` meets its contract: its turns are those of the laws of the search.
use mathlib.Core.Path.{refl}
use mathlib.Core.Logic.{inl, inr}
use native.Mathlib.Omega.{arith}
use Rattle.bdd.specs.Lent.{set_of, entry_of_node}
use Rattle.chains.specs.Spread.{turned}
use Rattle.chains.specs.Chains.{full}
use Rattle.chains.proofs.Spots.{turned_next, spot_next}
use Rattle.chains.proofs.Search.{begun, gone_on, ended, walk_ended}
use Rattle.index_run.specs.Index.{places, folded, chains_of}
use Rattle.index_run.proofs.Links.{homed}
use Rattle.index_run.proofs.search.Goals as goal

pub loop-init : goal.loop-init
unfolding turned
loop-init c =
    let a = c.args in
    let k = chains_of (places a.index.now) a.nodes a.index.now (set_of a.set.now) in
    ((full, (omega arith, begun k (entry_of_node a.e) 0)), c.fold-mixed.ensures)

pub walk-requires : goal.walk-requires
walk-requires c =
    let a = c.args in
    let e = entry_of_node a.e in
    let here = homed (places a.index.now) a.nodes a.index.now (set_of a.set.now) e c.loop.counter (omega (arith, c.if-room-eq0.false)) in
    (omega (arith, spot_next c.loop.counter (folded e) a.e.high c.loop.invariant.1 c.mix-mixed.ensures refl c.spread-place.ensures, here), c.requires)

pub returns-then-met-lt-FULL : goal.returns-then-met-lt-FULL
returns-then-met-lt-FULL c =
    let a = c.args in
    let e = entry_of_node a.e in
    let k = chains_of (places a.index.now) a.nodes a.index.now (set_of a.set.now) in
    let i = c.loop.invariant in
    let at = spot_next c.loop.counter (folded e) a.e.high i.1 c.mix-mixed.ensures refl c.spread-place.ensures in
    ended k e _ _ _ (gone_on k e _ _ _ i.0.1.1 i.0.1.0 c.loop-test.true _ _ at (walk_ended k e _ _ c.walk.ensures _ c.in-End.is)) (inl c.if-met-lt-FULL.true)
    (homed (places a.index.now) a.nodes a.index.now (set_of a.set.now)) (omega (arith, c.if-room-eq0.false))

pub loop-preserved : goal.loop-preserved
loop-preserved c =
    let a = c.args in
    let e = entry_of_node a.e in
    let k = chains_of (places a.index.now) a.nodes a.index.now (set_of a.set.now) in
    let i = c.loop.invariant in
    let at = spot_next c.loop.counter (folded e) a.e.high i.1 c.mix-mixed.ensures refl c.spread-place.ensures in (
      (_, (c.if-met-lt-FULL.false, gone_on k e _ _ _ i.0.1.1 i.0.1.0 c.loop-test.true _ _ at (walk_ended k e _ _ c.walk.ensures _ c.in-End.is))),
      turned_next c.loop.counter (folded e) a.e.high i.1 c.mix-mixed.ensures,
    )

pub returns : goal.returns
returns c =
    let a = c.args in
    let k = chains_of (places a.index.now) a.nodes a.index.now (set_of a.set.now) in
    ended k (entry_of_node a.e) _ _ _ c.loop.invariant.0.1.1 (inr (omega (arith, c.loop-test.false)))
    (homed (places a.index.now) a.nodes a.index.now (set_of a.set.now)) (omega (arith, c.if-room-eq0.false))
