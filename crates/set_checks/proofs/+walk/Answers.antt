-- The proof of the cycle of calls {walk}. The measure is the entry's number: links lead to earlier entries.
use native.Mathlib.Omega.{arith}
use native.Mathlib.Nat.{le_refl}
use mathlib.Core.List.{[]}
use Prim.Native.Nat.{◌<◌}
use Rattle.bdd.specs.Array.{runs}
use Rattle.bdd.specs.Walk.{seen}
use Rattle.bdd.proofs.Walked.{walk_grows}
use Rattle.set_checks.proofs.Walks.{told_known, back, walkable_on, broken_high, broken_low, broken_here, met}
use Rattle.set_checks.proofs.+walk.Goals as goal

pub returns-then-i-known : goal.returns-then-i-known
returns-then-i-known t c variable = seen c.if-i-known.true

pub walk-requires : goal.walk-requires
walk-requires t c =
    let w = c.requires in
    let b = back _ _ _ _ w c.if-i-known.false in
    let h : c.wide.result < c.args.i = omega (arith, b.0, b.1, c.wide.ensures) in
    (omega (arith, h), walkable_on _ _ _ _ w _ _ h (le_refl _))

pub returns-in_err-above : goal.returns-in_err-above
returns-in_err-above t c variable =
    rw c.from_residual.ensures (broken_high _ _ _ c.if-i-known.false _ c.wide.ensures _ (c.walk.ensures variable) c.in_err-above.was)

pub walk-requires-2 : goal.walk-requires-2
walk-requires-2 t c =
    let w = c.requires in
    let b = back _ _ _ _ w c.if-i-known.false in
    let h : c.wide-2.result < c.args.i = omega (arith, b.0, b.1, c.wide-2.ensures) in
    let a = runs [] c.args.low.now c.args.high.now in
    let met = told_known a _ _ _ (c.walk.ensures []) _ c.in_ok-above.was in
    (omega (arith, h), walkable_on _ _ _ _ w _ _ h (walk_grows met))

pub returns-in_err-here : goal.returns-in_err-here
returns-in_err-here t c variable =
    rw c.from_residual-in_err-here.ensures
    (broken_low _ _ _ c.if-i-known.false _ c.wide.ensures _ (c.walk.ensures variable) _ c.in_ok-above.was
    _ c.wide-2.ensures _ (c.walk-2.ensures variable) c.in_err-here.was)

pub returns-then-here-i : goal.returns-then-here-i
returns-then-here-i t c variable =
    broken_here _ _ _ c.if-i-known.false _ c.wide.ensures _ (c.walk.ensures variable) _ c.in_ok-above.was
    _ c.wide-2.ensures _ (c.walk-2.ensures variable) _ c.in_ok-here.was c.if-here-i.true

pub returns : goal.returns
returns t c variable =
    met _ _ _ c.if-i-known.false _ c.wide.ensures _ (c.walk.ensures variable) _ c.in_ok-above.was
    _ c.wide-2.ensures _ (c.walk-2.ensures variable) _ c.in_ok-here.was c.if-here-i.false
