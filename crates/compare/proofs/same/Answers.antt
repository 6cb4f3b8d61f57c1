-- `compare::same` meets its contract: refused as the checks say, or settled between two clearings of the run.
use Rattle.std.proofs.Common.{◌∙◌, length}
use Rattle.std.proofs.lemmas.Result.{err_from_is_err_and}
use Rattle.bdd.specs.Lent.{set_of}
use Rattle.compare.proofs.Settling.{on_over, on_refused, settleable, compares_refused, compares}
use Rattle.compare.proofs.same.Goals as goal

pub returns-in_err-n : goal.returns-in_err-n
returns-in_err-n c =
    let l = set_of c.args.left.now in
    let r = set_of c.args.right.now in
    let p = err_from_is_err_and c.from_residual.result c.from_residual.ensures.1 in
    rw (p.1, p.2) (compares_refused l r _ c.args.room.now _ (on_refused l r (length c.args.room.now) c.admit.ensures c.in_err-n.was))

pub settle-comparison-requires : goal.settle-comparison-requires
settle-comparison-requires c =
    settleable c.args.room.now (on_over (set_of c.args.left.now) (set_of c.args.right.now) (length c.args.room.now) c.admit.ensures c.in_ok-n.was) c.clear.ensures

pub returns : goal.returns
returns c =
    let l = set_of c.args.left.now in
    let r = set_of c.args.right.now in
    compares c.settle-comparison.new.room (on_over l r (length c.args.room.now) c.admit.ensures c.in_ok-n.was) c.settle-comparison.ensures
    (c.settle-comparison.auto.room ∙ c.clear.auto.run) c.clear-2.ensures
