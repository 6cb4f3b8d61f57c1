-- `boolean_ops::dry_run::run` meets its contract: what the count comes to under the bound, and both runs cleared.
use lib.ListN.{length}
use Rattle.bdd.specs.Operations.{operation_of}
use Rattle.bdd.specs.Pairs.{pair_room}
use Rattle.boolean_ops.proofs.Operating.{clean_left}
use Rattle.boolean_ops.proofs.Drying.{dry_left}
use Rattle.boolean_ops.proofs.dry_run.run.Goals as goal

pub estimated_apply_complexity-counted-requires : goal.estimated_apply_complexity-counted-requires
estimated_apply_complexity-counted-requires c =
    (clean_left _ c.args.job.now.flips.output (length c.args.stack.now) c.requires).checked

pub returns : goal.returns
unfolding pair_room
returns c =
    let a = c.args in
    let b = c.bound_of-bound in
    let k = c.estimated_apply_complexity-counted in
    dry_left (operation_of a.job.now a.limit) a.pairs.now a.stack.now c.requires b.result b.ensures k.result k.new.pairs k.ensures k.auto.pairs c.dry_of.ensures c.clear.ensures c.clear-2.ensures
