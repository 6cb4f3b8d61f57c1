-- `build::look` meets its contract: by what the pair run and the table say of the pair and its children.
use mathlib.Core.Logic.{inl, inr}
use Rattle.build.proofs.Looking.{not_found, asked_both, looked_near, looked_other, looked_both}
use Rattle.build.proofs.look.Goals as goal

pub returns-in-None-None : goal.returns-in-None-None
returns-in-None-None c s =
    looked_both
    (asked_both _ _ _ _ _ _ _ (not_found _ (c.find.ensures s) (c.is_some.ensures) c.if-is_some.false) (c.ways_of-ways.ensures _)
    (c.answer_of.ensures s) (c.answer_of-2.ensures s)) c.in-None-None.is-0 c.in-None-None.is-1

pub returns-in-None-Some : goal.returns-in-None-Some
returns-in-None-Some c s =
    inl (looked_near
    (asked_both _ _ _ _ _ _ _ (not_found _ (c.find.ensures s) (c.is_some.ensures) c.if-is_some.false) (c.ways_of-ways.ensures _)
    (c.answer_of.ensures s) (c.answer_of-2.ensures s)) _ c.in-None-Some.is-0 c.in-None-Some.is-1)

pub returns-in-Some-None : goal.returns-in-Some-None
returns-in-Some-None c s =
    inr (looked_other
    (asked_both _ _ _ _ _ _ _ (not_found _ (c.find.ensures s) (c.is_some.ensures) c.if-is_some.false) (c.ways_of-ways.ensures _)
    (c.answer_of.ensures s) (c.answer_of-2.ensures s)) _ c.in-Some-None.is-0 c.in-Some-None.is-1)
