-- `checks::is_placed` meets its contract: entries 0 and 1 are the terminals, the others inner.
use mathlib.Core.Path.{sym, ◌∙◌}
use Rattle.bdd.proofs.Ordered.{placed_terminal, placed_inner}
use Rattle.checks.proofs.is_placed.Goals as goal

pub returns-then-i-lt2 : goal.returns-then-i-lt2
returns-then-i-lt2 c behind = c.is_terminal.ensures ∙ sym (placed_terminal _ _ c.if-i-lt2.true)

pub returns-else-i-lt2 : goal.returns-else-i-lt2
returns-else-i-lt2 c behind = c.is_inner.ensures behind ∙ sym (placed_inner _ _ c.if-i-lt2.false)
