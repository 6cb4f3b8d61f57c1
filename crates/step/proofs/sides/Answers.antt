-- `step::sides` meets its contract: where the asked variable is flipped, the two links are exchanged.
use mathlib.Core.Path.{sym, ◌∙◌}
use Rattle.step.proofs.Parts.{moved_swapped, moved_kept}
use Rattle.step.proofs.sides.Goals as goal

pub returns-then-is_flipped : goal.returns-then-is_flipped
returns-then-is_flipped c =
    let turn = sym c.is_flipped.ensures ∙ c.if-is_flipped.true in
    let links = c.straight-links.ensures in
    (links.1 ∙ sym (moved_swapped _ _ _ _ _ turn), links.0 ∙ sym (moved_swapped _ _ _ _ _ turn))

pub returns : goal.returns
returns c =
    let turn = sym c.is_flipped.ensures ∙ c.if-is_flipped.false in
    let links = c.straight-links.ensures in
    (links.0 ∙ sym (moved_kept _ _ _ _ _ turn), links.1 ∙ sym (moved_kept _ _ _ _ _ turn))
