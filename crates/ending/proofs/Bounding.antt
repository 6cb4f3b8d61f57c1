-- The bound on what may be made, from the limit and the room.
use Rattle.std.specs.Prelude.{None, Some}
use Prim.Native.Nat.{ℕ, ◌<◌, ◌≤◌}
use mathlib.Core.Path.{refl}
use mathlib.Core.Bool.{true, false, and-false}
use native.Mathlib.Omega.{arith}
use borrow.Author.Tests.{lt-ltb, le-ltb, le-leb, lt-leb}
use Rattle.bdd.specs.Answers.{over_limit, no_room}
use Rattle.ending.specs.Ends.{Bounds}

pub unlimited : (W : ℕ) → Bounds None W (record { most = W; limited = false })
unfolding over_limit no_room
unlimited W =
    record {
      room_most = omega arith;
      limit_kept = λ s l. refl;
      room_kept = λ s l. le-ltb W s l;
      limit_passed = λ s l. refl;
      room_passed = λ s l. lt-ltb W s l;
    }

-- the limit is at most the room: it is met first
pub limited : (k W : ℕ) → k ≤ W → Bounds (Some k) W (record { most = k; limited = true })
unfolding over_limit no_room
limited k W h =
    record {
      room_most = h;
      limit_kept = λ s l. rw (le-ltb k s l);
      room_kept = λ s l. let r : s ≤ W = omega arith in rw (le-ltb W s r);
      limit_passed = λ s l. rw (lt-ltb k s l, le-leb k W h);
      room_passed = λ s l. rw (le-ltb W k h, and-false);
    }

-- the room is below the limit
pub roomy : (k W : ℕ) → W < k → Bounds (Some k) W (record { most = W; limited = false })
unfolding over_limit no_room
roomy k W h =
    record {
      room_most = omega arith;
      limit_kept = λ s l. rw (lt-leb k W h, and-false);
      room_kept = λ s l. rw (le-ltb W s l);
      limit_passed = λ s l. rw (lt-leb k W h, and-false);
      room_passed = λ s l. rw (lt-ltb W s l, lt-ltb W k h);
    }
