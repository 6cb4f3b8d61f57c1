-- `set_checks::are_reduced` meets its contract.
use mathlib.Core.Path.{sym}
use native.Mathlib.Omega.{arith}
use Rattle.bdd.proofs.Logic.{is_false}
use Rattle.bdd.proofs.Ordered.{ordered_open}
use Rattle.bdd.proofs.Reduction.{tidy_open, tidy_close}
use Rattle.set_checks.proofs.Entries.{reducing_none, coming, reducing_more, not_reduced}
use Rattle.set_checks.proofs.are_reduced.Goals as goal

pub loop-i-init : goal.loop-i-init
loop-i-init c = reducing_none _ _ c.requires

pub is_reduced-requires : goal.is_reduced-requires
is_reduced-requires c = coming _ _ _ (ordered_open _ c.requires.ordered) c.loop-i.invariant (omega arith)

pub returns-then-not-is_reduced : goal.returns-then-not-is_reduced
returns-then-not-is_reduced c =
    is_false _ (λ e.
    not_reduced _ _ _ _ c.is_reduced.ensures c.if-not-is_reduced.true
    ((tidy_open _ e).reduced _ c.loop-i.invariant.indexed.least (omega arith)))

pub loop-i-preserved : goal.loop-i-preserved
loop-i-preserved c = reducing_more _ _ _ _ _ c.loop-i.invariant c.is_reduced.auto.index c.is_reduced.ensures c.if-not-is_reduced.false

pub returns : goal.returns
returns c =
    sym (tidy_close _ (record {
      ordered = ordered_open _ c.requires.ordered;
      reduced = λ i k l. c.loop-i.invariant.reduced i k (omega arith);
    }))
