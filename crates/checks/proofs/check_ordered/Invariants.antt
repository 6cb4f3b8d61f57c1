-- `checks::check_ordered` meets its contract: every entry below i is in its place.
use Rattle.bdd.specs.Lent.{set_of}
use Rattle.checks.specs.Checked.{Behind}
use Rattle.checks.proofs.check_ordered.Given as goal

abbrev pub invariant-loop-i : goal.invariant-loop-i
invariant-loop-i l = Behind (set_of l.set) l.i
