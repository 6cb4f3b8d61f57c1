-- `compare::part::part` meets its contract: the setting is all off as the walk begins.
use Rattle.std.proofs.Common.{refl, arith}
use Rattle.bdd.proofs.Ordered.{ordered_open}
use Rattle.compare.proofs.part.part.Goals as goal

pub walk-requires : goal.walk-requires
walk-requires c = let h = c.requires in record { apart = h; all_off = record { zero = refl; long = omega (arith, h.comparable.left_options, (ordered_open _ h.comparable.left).options_most) } }
