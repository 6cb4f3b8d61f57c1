-- `negation::not_kept` meets its contract: 9 clears the runs, and done lays the set with its links swapped over them.
use mathlib.Core.Path.{refl}
use native.Mathlib.Omega.{arith}
use Rattle.bdd.specs.Lent.{set_of}
use Rattle.bdd.proofs.Makers.{set_room, makes_no_room, makes_done}
use Rattle.negation.proofs.Kept.{kept_length, kept_outputs}
use Rattle.negation.proofs.not_kept.Goals as goal

pub returns-then-room-size-clause-made : goal.returns-then-room-size-clause-made
returns-then-room-size-clause-made c =
    let zero = c.clear_output.ensures in
    let k = kept_length (set_of c.args.set.now) c.requires.0 c.requires.1 c.requires.2 in
    makes_no_room _ _ (set_room refl) (omega arith) (λ i. record { variable = zero.variable i; low = zero.low i; high = zero.high i })

pub returns-clause-made : goal.returns-clause-made
returns-clause-made c =
    let a = set_of c.args.set.now in
    let k = kept_length a c.requires.0 c.requires.1 c.requires.2 in
    makes_done _ _ (set_room refl) k (omega arith)
    (kept_outputs a c.requires.0 c.requires.1 c.requires.2 _ _ (omega arith) c.copy.ensures c.negate_links.ensures c.negate_links-2.ensures)
