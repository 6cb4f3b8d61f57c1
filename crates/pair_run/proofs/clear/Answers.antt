-- `pair_run::clear` meets its contract: the places are zero.
use lib.ListN.{length-take}
use native.Mathlib.Omega.{arith}
use Rattle.pair_run.proofs.Rooms.{fours}
use Rattle.pair_run.proofs.Laws.{front_cleared}
use Rattle.pair_run.proofs.clear.Goals as goal

pub slice_bounds-fill-end : goal.slice_bounds-fill-end
slice_bounds-fill-end c = omega (arith, c.room_of-room.ensures, fours c.args.run.now)

pub slice_bounds-fill-end-2 : goal.slice_bounds-fill-end-2
slice_bounds-fill-end-2 c = simp length-take (omega (arith, c.room_of-room.ensures, fours c.args.run.now))

pub returns : goal.returns
returns c = front_cleared c.args.run.now c.fill.new.self _ c.room_of-room.ensures (c.fill.ensures.after (λ y e. e))
