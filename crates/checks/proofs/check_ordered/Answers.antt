-- `checks::check_ordered` meets its contract.
use Rattle.std.proofs.Common.{arith, sym}
use borrow.Author.Count.{below_more}
use Rattle.bdd.proofs.Ordered.{ordered_of}
use Rattle.checks.proofs.Verdict.{not_ordered, misplaced, is_ordered}
use Rattle.checks.proofs.check_ordered.Goals as goal

pub returns-then-set-size : goal.returns-then-set-size
returns-then-set-size c = not_ordered _ (λ h. grind arith)

pub returns-then-n-gt-MOST_OPTIONS : goal.returns-then-n-gt-MOST_OPTIONS
returns-then-n-gt-MOST_OPTIONS c = not_ordered _ (λ h. omega arith)

pub returns-then-not-is_placed : goal.returns-then-not-is_placed
returns-then-not-is_placed c = misplaced _ _ (omega arith) (sym (c.if-not-is_placed.ensures c.loop-i.invariant))

pub loop-i-preserved : goal.loop-i-preserved
loop-i-preserved c = below_more _ _ c.loop-i.invariant (sym (c.if-not-is_placed.ensures c.loop-i.invariant))

pub returns : goal.returns
returns c = is_ordered _ (ordered_of _ (omega arith) (omega arith) (omega arith) (omega arith) (omega arith) (λ i l. c.loop-i.invariant i (omega arith)))
