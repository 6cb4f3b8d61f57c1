-- `pair_run::insert` meets its contract: each end of the search is an answer, and the next node is written.
use mathlib.Core.Path.{refl}
use native.Mathlib.Omega.{arith}
use Rattle.pair_run.proofs.Ends.{stands_at, no_place, no_node, added_free}
use Rattle.pair_run.proofs.insert.Goals as goal

pub returns-then-count-room : goal.returns-then-count-room
returns-then-count-room c =
    let a = c.args in
    let room = c.room_of-room.ensures in
    record {
      unchanged = c.write.auto.run;
      inserted = λ s. added_free a.run.now a.p.left a.p.right _ c.search.ensures _ a.res a.count _ _ room c.in-Free.is c.if-count-room.true c.write.ensures s;
    }

pub returns-in-At : goal.returns-in-At
returns-in-At c = record { unchanged = refl; inserted = λ s. stands_at _ _ _ _ c.search.ensures s.sound _ _ c.in-At.is c.result_of.ensures }

pub returns-in-Nowhere : goal.returns-in-Nowhere
returns-in-Nowhere c = record { unchanged = refl; inserted = λ s. no_place _ _ _ _ c.search.ensures s.sound c.in-Nowhere.is }

pub returns-else-count-room : goal.returns-else-count-room
returns-else-count-room c =
    let a = c.args in
    record {
      unchanged = refl;
      inserted = λ s. no_node a.run.now a.p.left a.p.right _ c.search.ensures s.sound _ a.count c.in-Free.is s.number (omega (arith, c.room_of-room.ensures, c.if-count-room.false));
    }
