-- `set_checks::check_tidy` meets its contract: a set that is not ordered is not tidy, and else the index tells.
use mathlib.Core.Path.{◌≡◌, refl, sym, ◌∙◌}
use mathlib.Core.Bool.{Bool, true, false, cond, true≢false}
use Rattle.bdd.proofs.Ordered.{ordered_close}
use Rattle.std.specs.Prelude.{ℕ, Some, None}
use Rattle.std.specs.Bool.{then_some}
use Rattle.checks.proofs.Verdict.{told_not_ordered, told_ordered, told_options}
use Rattle.set_checks.proofs.Verdict.{not_tidy}
use Rattle.set_checks.proofs.Entries.{front_length, front_fits, blank}
use Rattle.set_checks.proofs.check_tidy.Goals as goal

as_cond : (b : Bool) (x : ℕ) → then_some b x ≡ cond b (Some x) None
as_cond true x = refl
as_cond false x = refl

pub returns-in_err-n : goal.returns-in_err-n
returns-in_err-n c =
    c.from_residual.ensures
    ∙ not_tidy _ (λ h. true≢false (sym (ordered_close _ h.ordered) ∙ told_not_ordered _ c.check_ordered.ensures c.in_err-n.was))

pub slice_bounds-index-end : goal.slice_bounds-index-end
slice_bounds-index-end c = front_fits _ (told_ordered _ _ c.check_ordered.ensures c.in_ok-n.was)

pub slice_bounds-are_reduced-end : goal.slice_bounds-are_reduced-end
slice_bounds-are_reduced-end c = front_length _ 8192 (front_fits _ (told_ordered _ _ c.check_ordered.ensures c.in_ok-n.was))

pub are_reduced-requires : goal.are_reduced-requires
are_reduced-requires c =
    let o = told_ordered _ _ c.check_ordered.ensures c.in_ok-n.was in
    blank 8192 _ o (front_fits _ o)

pub returns : goal.returns
returns c =
    let reduced = c.are_reduced.ensures in
    let n = told_options _ _ c.check_ordered.ensures c.in_ok-n.was in
    c.then_some.ensures ∙ (λ i. then_some (reduced i) (n i)) ∙ as_cond _ _
