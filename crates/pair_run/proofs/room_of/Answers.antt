-- `pair_run::room_of` meets its contract: the smaller of two numbers.
use Rattle.std.proofs.Common.{rules}
use Rattle.bdd.specs.Pairs.{pair_room}
use Rattle.pair_run.proofs.room_of.Goals as goal

pub returns : goal.returns
unfolding pair_room
returns c = search rules
