-- `restriction::perform` meets its contract: refused by the lengths of its runs, or what its exploration came to.
use Rattle.std.proofs.Common.{true, false, ◌++◌, drop}
use Rattle.bdd.specs.Array.{size}
use Rattle.bdd.specs.Lent.{set_of, output_of}
use Rattle.restriction.specs.Restricts.{working, working_of}
use Rattle.restriction.specs.Exploring.{restricted_value}
use Rattle.restriction.proofs.Whole.{short_as, map_long, roomy, part_kept, roomy_part, too_short, ran}
use Rattle.restriction.proofs.perform.Goals as goal

pub returns-then-is_short-clause-restricts : goal.returns-then-is_short-clause-restricts
returns-then-is_short-clause-restricts c =
    let lent = working_of c.args.work.now in
    let out = output_of c.args.out.now in
    let set = set_of c.args.job.now.set in
    too_short set (restricted_value set c.args.job.now.values.now) out lent
    (short_as set lent out true c.requires.1 c.room-w.ensures c.is_short.ensures c.if-is_short.true)

pub explore_with-explored-requires : goal.explore_with-explored-requires
explore_with-explored-requires c =
    let lent = working_of c.args.work.now in
    let out = output_of c.args.out.now in
    let set = set_of c.args.job.now.set in
    let enough = short_as set lent out false c.requires.1 c.room-w.ensures c.is_short.ensures c.if-is_short.false in
    (c.requires.0, roomy_part (roomy set lent out c.bound_of-bound.result.most enough (rw c.room-w.ensures at c.bound_of-bound.ensures.room_most)))

pub returns-clause-restricts : goal.returns-clause-restricts
returns-clause-restricts c =
    let x = c.explore_with-explored in
    let lent = working_of c.args.work.now in
    let out = output_of c.args.out.now in
    let set = set_of c.args.job.now.set in
    let map = c.args.work.now.map.now in
    let enough = short_as set lent out false c.requires.1 c.room-w.ensures c.is_short.ensures c.if-is_short.false in
    ran set (restricted_value set c.args.job.now.values.now) out lent enough (output_of x.new.out) (output_of c.leave.new.out)
    (working x.new.stack x.new.index (x.new.map ++ drop (size set) map)) (working_of c.clear_working.new.work)
    x.auto.stack x.auto.index (part_kept (size set) map (map_long set lent out enough) x.new.map x.auto.map) c.clear_working.ensures.zeros
    (record { variable = x.ensures.same.variable_length; low = x.ensures.same.low_length; high = x.ensures.same.high_length }) c.bound_of-bound.result
    (rw c.room-w.ensures at c.bound_of-bound.ensures) _ c.requires.1 x.result x.ensures.comes c.answer_of-answer.ensures c.leave.ensures.left
