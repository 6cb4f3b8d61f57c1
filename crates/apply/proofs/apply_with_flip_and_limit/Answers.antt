-- `apply::apply_with_flip_and_limit` meets its contract: 7 where there is no room for a pair at all, else what the ways down and up come to.
use Rattle.std.proofs.Common.{rules}
use Rattle.bdd.specs.Lent.{output_of}
use Rattle.ending.specs.declared.Explored.TheVariants as explored
use Rattle.step.proofs.Codes.{roots_there, roots_are}
use Rattle.apply.proofs.Whole.{no_room, some_room, going_begun, index_alike, full_alike, room_alike, alike_of, going_full, going_up, going_array, going_begun_on, going_long, going_less, going_on}
use Rattle.apply.proofs.apply_with_flip_and_limit.Goals as goal

pub returns-then-work-lt4-clause-explores : goal.returns-then-work-lt4-clause-explores
returns-then-work-lt4-clause-explores c = no_room _ _ c.if-work-lt4.true

pub roots-p-requires-clause-left_sized : goal.roots-p-requires-clause-left_sized
roots-p-requires-clause-left_sized c = (roots_there c.requires.checked).0

pub roots-p-requires-clause-right_sized : goal.roots-p-requires-clause-right_sized
roots-p-requires-clause-right_sized c = (roots_there c.requires.checked).1

pub loop-down-init : goal.loop-down-init
loop-down-init c =
    (going_begun c.requires c.args.job.now.flips.output c.clear.ensures c.clear-2.ensures (roots_are c.requires.checked c.roots-p.ensures), search rules, search rules)

pub returns-in_default-clause-explores : goal.returns-in_default-clause-explores
returns-in_default-clause-explores c =
    let down = c.descend in
    full_alike _ _ _ c.clear.auto.run (going_full c.loop-down.invariant.0 (index_alike c.requires c.clear-2.auto.run) down.new.pairs down.new.stack down.result down.ensures down.auto.pairs down.auto.stack c.in_default.is)

pub ascend-requires-clause-upward : goal.ascend-requires-clause-upward
ascend-requires-clause-upward c =
    let down = c.descend in
    going_up c.loop-down.invariant.0 (index_alike c.requires c.clear-2.auto.run) down.new.pairs down.new.stack down.result down.ensures down.auto.pairs down.auto.stack c.in-Some.is

pub returns-in-Root-clause-explores : goal.returns-in-Root-clause-explores
returns-in-Root-clause-explores c =
    let down = c.descend in
    let up = c.ascend in
    room_alike _ _ _ _ _ _ _ c.clear.auto.run (explored.Array _ _) (going_array c.loop-down.invariant.0 (index_alike c.requires c.clear-2.auto.run) down.new.pairs down.new.stack down.result down.ensures down.auto.pairs down.auto.stack c.in-Some.is
    up.new.work.pairs.now up.new.work.stack.now up.new.work.index.now (output_of up.new.out) up.result up.ensures.rises
    (alike_of up.ensures.same up.ensures.same_work)
    c.in-Root.is (some_room c.args.work.now.pairs.now _ c.clear.auto.run c.if-work-lt4.false))

pub too_long-requires-clause-begun : goal.too_long-requires-clause-begun
too_long-requires-clause-begun c =
    let down = c.descend in
    let up = c.ascend in
    going_begun_on c.loop-down.invariant.0 (index_alike c.requires c.clear-2.auto.run) down.new.pairs down.new.stack down.result down.ensures down.auto.pairs down.auto.stack c.in-Some.is
    up.new.work.pairs.now up.new.work.stack.now up.new.work.index.now (output_of up.new.out) up.result up.ensures.rises
    (alike_of up.ensures.same up.ensures.same_work)
    c.in-Long.is

pub returns-in-Long-clause-explores : goal.returns-in-Long-clause-explores
returns-in-Long-clause-explores c =
    let down = c.descend in
    let up = c.ascend in
    let on = c.too_long in
    room_alike _ _ _ _ _ _ _ c.clear.auto.run on.result (going_long c.loop-down.invariant.0 (index_alike c.requires c.clear-2.auto.run) down.new.pairs down.new.stack down.result down.ensures down.auto.pairs down.auto.stack c.in-Some.is
    up.new.work.pairs.now up.new.work.stack.now up.new.work.index.now (output_of up.new.out) up.result up.ensures.rises
    (alike_of up.ensures.same up.ensures.same_work)
    c.in-Long.is (some_room c.args.work.now.pairs.now _ c.clear.auto.run c.if-work-lt4.false) on.result on.ensures)

pub loop-down-smaller : goal.loop-down-smaller
loop-down-smaller c =
    let down = c.descend in
    let up = c.ascend in
    going_less c.loop-down.invariant.0 (index_alike c.requires c.clear-2.auto.run) down.new.pairs down.new.stack down.result down.ensures down.auto.pairs down.auto.stack c.in-Some.is
    up.new.work.pairs.now up.new.work.stack.now up.new.work.index.now (output_of up.new.out) up.result up.ensures.rises
    (alike_of up.ensures.same up.ensures.same_work)
    c.in-Await.is

pub loop-down-preserved : goal.loop-down-preserved
loop-down-preserved c =
    let down = c.descend in
    let up = c.ascend in (
      going_on c.loop-down.invariant.0 (index_alike c.requires c.clear-2.auto.run) down.new.pairs down.new.stack down.result down.ensures down.auto.pairs down.auto.stack c.in-Some.is
          up.new.work.pairs.now up.new.work.stack.now up.new.work.index.now (output_of up.new.out) up.result up.ensures.rises
          (alike_of up.ensures.same up.ensures.same_work)
          c.in-Await.is c.pair_of-p.ensures,
      search rules,
      search rules,
    )
