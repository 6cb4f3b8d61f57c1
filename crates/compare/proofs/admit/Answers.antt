-- `compare::admit` meets its contract: the refusals in their order.
use Rattle.std.proofs.Common.{sym, ◌∙◌, arith}
use Rattle.bdd.specs.Lent.{set_of}
use Rattle.bdd.proofs.Ordered.{ordered_open}
use Rattle.checks.proofs.Verdict.{told_ordered, told_not_ordered, told_options}
use Rattle.compare.proofs.Settling.{comparable, refused_left, refused_right, refused_counts, refused_short, admits}
use Rattle.compare.proofs.admit.Goals as goal

pub returns-in_default : goal.returns-in_default
returns-in_default c = refused_left (set_of c.args.left.now) (set_of c.args.right.now) _ (told_not_ordered _ c.check_ordered.ensures c.in_default.is)

pub returns-in_default-check_ordered : goal.returns-in_default-check_ordered
returns-in_default-check_ordered c = refused_right (set_of c.args.left.now) (set_of c.args.right.now) _ (told_ordered _ _ c.check_ordered.ensures c.in-Some.is) (told_not_ordered _ c.check_ordered-2.ensures c.in_default-check_ordered.is)

pub returns-then-n-m : goal.returns-then-n-m
returns-then-n-m c = let n = told_options _ _ c.check_ordered.ensures c.in-Some.is in
    let m = told_options _ _ c.check_ordered-2.ensures c.in-Some-check_ordered.is in
    refused_counts (set_of c.args.left.now) (set_of c.args.right.now) _ (told_ordered _ _ c.check_ordered.ensures c.in-Some.is) (told_ordered _ _ c.check_ordered-2.ensures c.in-Some-check_ordered.is) (λ e. c.if-n-m.true (n ∙ e ∙ sym m))

pub overflow_mul-left : goal.overflow_mul-left
overflow_mul-left c = omega (arith, (ordered_open (set_of c.args.left.now) (told_ordered _ _ c.check_ordered.ensures c.in-Some.is)).size_most, (ordered_open (set_of c.args.right.now) (told_ordered _ _ c.check_ordered-2.ensures c.in-Some-check_ordered.is)).size_most)

pub returns-then-room-left : goal.returns-then-room-left
returns-then-room-left c = let n = told_options _ _ c.check_ordered.ensures c.in-Some.is in
    let m = told_options _ _ c.check_ordered-2.ensures c.in-Some-check_ordered.is in
    refused_short (set_of c.args.left.now) (set_of c.args.right.now) _ (comparable (set_of c.args.left.now) (set_of c.args.right.now) (told_ordered _ _ c.check_ordered.ensures c.in-Some.is) (told_ordered _ _ c.check_ordered-2.ensures c.in-Some-check_ordered.is) n m c.if-n-m.false) c.if-room-left.true

pub returns : goal.returns
returns c = let n = told_options _ _ c.check_ordered.ensures c.in-Some.is in
    let m = told_options _ _ c.check_ordered-2.ensures c.in-Some-check_ordered.is in
    admits (set_of c.args.left.now) (set_of c.args.right.now) _ (comparable (set_of c.args.left.now) (set_of c.args.right.now) (told_ordered _ _ c.check_ordered.ensures c.in-Some.is) (told_ordered _ _ c.check_ordered-2.ensures c.in-Some-check_ordered.is) n m c.if-n-m.false) c.if-room-left.false
