-- `pair_run::search` meets its contract: its turns are those of the laws of chains.
use Prim.Native.Nat.{ℕ, ◌<◌}
use mathlib.Core.Path.{◌≡◌, refl, sym, subst}
use mathlib.Core.Logic.{inl, inr}
use mathlib.Core.List.{List}
use native.Mathlib.Omega.{arith}
use Rattle.bdd.specs.Pairs.{Pair}
use Rattle.chains.specs.Chains.{full, Has, Open}
use Rattle.chains.proofs.Spots.{spot_below, turned_none, turned_next, spot_next}
use Rattle.chains.proofs.Search.{begun, gone_on, ended, walk_ended}
use Rattle.pair_run.specs.Held.{nodes, chains_of}
use Rattle.pair_run.proofs.Rooms.{homed}
use Rattle.pair_run.proofs.search.Goals as goal

-- what was found with the room that the code has
module _ (run : List ℕ) (k : Pair) {room : ℕ} (e : room ≡ nodes run) where
  has_in : {i : ℕ} → Has (chains_of room run) k i → Has (chains_of (nodes run) run) k i
  has_in {i} = subst (λ (n : ℕ). Has (chains_of n run) k i) e

  open_in : {b : ℕ} → Open (chains_of room run) k b → Open (chains_of (nodes run) run) k b
  open_in {b} = subst (λ (n : ℕ). Open (chains_of n run) k b) e

pub loop-init : goal.loop-init
loop-init c =
    ((full, (omega arith, begun (chains_of c.room_of-room.result c.args.run.now) c.args.p 0)), turned_none c.args.p.left c.args.p.right)

pub walk-requires : goal.walk-requires
walk-requires c =
    let r = c.room_of-room in
    let p = c.args.p in
    let at = spot_next c.loop.counter p.left p.right c.loop.invariant.1 c.mix-mixed.ensures refl c.spread-place.ensures in
    (r.ensures, subst (λ (b : ℕ). b < r.result) (sym at) (spot_below r.result p.left p.right c.loop.counter (omega (arith, c.if-room-eq0.false))))

pub returns-then-met-lt-FULL : goal.returns-then-met-lt-FULL
returns-then-met-lt-FULL c =
    let r = c.room_of-room in
    let p = c.args.p in
    let k = chains_of r.result c.args.run.now in
    let i = c.loop.invariant in
    let at = spot_next c.loop.counter p.left p.right i.1 c.mix-mixed.ensures refl c.spread-place.ensures in
    open_in c.args.run.now p r.ensures
    (ended k p _ _ _ (gone_on k p _ _ _ i.0.1.1 i.0.1.0 c.loop-test.true _ _ at (walk_ended k p _ _ c.walk.ensures _ c.in-End.is))
    (inl c.if-met-lt-FULL.true) (homed r.result c.args.run.now) (omega (arith, c.if-room-eq0.false)))

pub loop-preserved : goal.loop-preserved
loop-preserved c =
    let p = c.args.p in
    let k = chains_of c.room_of-room.result c.args.run.now in
    let i = c.loop.invariant in
    let at = spot_next c.loop.counter p.left p.right i.1 c.mix-mixed.ensures refl c.spread-place.ensures in (
      (_, (c.if-met-lt-FULL.false, gone_on k p _ _ _ i.0.1.1 i.0.1.0 c.loop-test.true _ _ at (walk_ended k p _ _ c.walk.ensures _ c.in-End.is))),
      turned_next c.loop.counter p.left p.right i.1 c.mix-mixed.ensures,
    )

pub returns : goal.returns
returns c =
    let r = c.room_of-room in
    open_in c.args.run.now c.args.p r.ensures
    (ended (chains_of r.result c.args.run.now) c.args.p _ _ _ c.loop.invariant.0.1.1 (inr (omega (arith, c.loop-test.false))) (homed r.result c.args.run.now)
    (omega (arith, c.if-room-eq0.false)))
