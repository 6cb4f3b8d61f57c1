-- `noting::count_on` meets its contract: `Exploring` is the invariant, the pairs that can still be looked at the measure.
use mathlib.Core.Path.{refl, ◌∙◌}
use native.Mathlib.Omega.{arith}
use Rattle.noting.proofs.Taking.{holds_length}
use Rattle.noting.proofs.Around.{start, went, full, told}
use Rattle.noting.proofs.count_on.Goals as goal

pub loop-state-init : goal.loop-state-init
loop-state-init c = (start c.requires.begun, refl)

pub look-requires : goal.look-requires
look-requires c = (c.requires.checked, (c.loop-state.invariant.0, c.loop-state-test.true))

pub loop-state-smaller : goal.loop-state-smaller
loop-state-smaller c =
    let i = c.loop-state.invariant in
    omega (arith, (went _ c.look.ensures c.in_ok-state.was).further, c.loop-state-test.true, holds_length i.0.holds, i.1)

pub loop-state-preserved : goal.loop-state-preserved
loop-state-preserved c =
    let k = c.look in
    ((went _ k.ensures c.in_ok-state.was).exploring, k.auto.pairs ∙ c.loop-state.invariant.1)

pub shape_of-pairs : goal.shape_of-pairs
shape_of-pairs c = c.loop-state.invariant.1

pub returns : goal.returns
returns c =
    let l = c.loop-state in
    told c.args.pairs.now c.requires.checked l.invariant.0 l.invariant.1 c.loop-state-test.false

pub returns-in_err-state : goal.returns-in_err-state
returns-in_err-state c =
    let k = c.look in
    rw c.from_residual.ensures (full _ c.args.pairs.now _ _ _ k.result c.loop-state.invariant.1 k.ensures c.in_err-state.was)
