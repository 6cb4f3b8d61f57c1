-- `step::ways_of` meets its contract: by whether the output is flipped at the asked option.
use mathlib.Core.Path.{sym, ap, ◌∙◌}
use mathlib.Core.Bool.{not}
use Rattle.step.proofs.Parts.{leads_kept, none_flips, parts_unswapped}
use Rattle.step.proofs.ways_of.Goals as goal

pub returns-then-is_none : goal.returns-then-is_none
returns-then-is_none c table =
    parts_unswapped _ _ _ _ _
    (leads_kept _ _ _ _ _ _ _ (sym c.are_kept.ensures ∙ c.if-are_kept.true) (c.plain.ensures table))
    (none_flips _ _ (c.is_none.ensures ∙ ap not c.if-is_none.true)) c.unswapped.ensures
