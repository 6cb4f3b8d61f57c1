-- `serialisation::write_as_bytes` meets its contract: a set not ordered is refused, then bytes that are too few.
use native.Mathlib.Omega.{arith}
use Rattle.bdd.proofs.Ordered.{ordered_open}
use Rattle.checks.proofs.Verdict.{told_not_ordered, told_ordered}
use Rattle.serialisation.proofs.Answered.{not_ordered, not_written, has_written}
use Rattle.serialisation.proofs.write_as_bytes.Goals as goal

pub returns-in_default : goal.returns-in_default
returns-in_default c = not_ordered _ _ (told_not_ordered _ c.check_ordered.ensures c.in_default.is)

pub overflow_mul-need : goal.overflow_mul-need
overflow_mul-need c =
    let h = ordered_open _ (told_ordered _ _ c.check_ordered.ensures c.in-Some.is) in
    omega arith

pub returns-then-bytes-need : goal.returns-then-bytes-need
returns-then-bytes-need c = not_written _ _ (told_ordered _ _ c.check_ordered.ensures c.in-Some.is) (omega arith)

pub write_records-requires-clause-alike : goal.write_records-requires-clause-alike
write_records-requires-clause-alike c =
    let h = ordered_open _ (told_ordered _ _ c.check_ordered.ensures c.in-Some.is) in
    omega arith

pub returns : goal.returns
returns c =
    has_written _ _ _ (told_ordered _ _ c.check_ordered.ensures c.in-Some.is) (omega arith) c.write_records.ensures
