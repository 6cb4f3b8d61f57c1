-- `complexity::estimated_apply_complexity` meets its contract: `Exploring` is the invariant, the looks that are left the
-- measure.
use mathlib.Core.Path.{refl, ◌∙◌}
use native.Mathlib.Omega.{arith}
use Rattle.step.proofs.Codes.{roots_there, roots_are, roots_small}
use Rattle.complexity.proofs.Around.{start, went, told}
use Rattle.complexity.proofs.estimated_apply_complexity.Goals as goal

pub roots-root-requires : goal.roots-root-requires
roots-root-requires c =
    let parts = roots_there c.requires.checked in record { left_sized = parts.0; right_sized = parts.1 }

pub push-requires : goal.push-requires
push-requires c =
    record { small = roots_small c.requires.checked c.roots-root.ensures; height_bound = omega (arith, c.requires.stack_room) }

pub loop-state-init : goal.loop-state-init
loop-state-init c =
    let p = c.requires in (
      start c.args.stack.now c.args.pairs.now c.roots-root.result p.checked c.clear.ensures p.most_bound p.stack_room
          (roots_are p.checked c.roots-root.ensures) c.push.ensures,
      refl,
      refl,
    )

pub look-requires : goal.look-requires
look-requires c = (c.requires.checked, (c.loop-state.invariant.0, c.loop-state-test.true))

pub loop-state-smaller : goal.loop-state-smaller
loop-state-smaller c = (went c.look.ensures c.in_ok-state.was).less

pub loop-state-preserved : goal.loop-state-preserved
loop-state-preserved c =
    let k = c.look in
    let i = c.loop-state.invariant in
    ((went k.ensures c.in_ok-state.was).exploring, k.auto.pairs ∙ i.1, k.auto.stack ∙ i.2)

pub shape_of-pairs : goal.shape_of-pairs
shape_of-pairs c = c.loop-state.invariant.1 ∙ c.clear.auto.run

pub shape_of-stack : goal.shape_of-stack
shape_of-stack c = c.loop-state.invariant.2 ∙ c.push.auto.stack

pub returns : goal.returns
returns c = told c.requires.checked c.loop-state.invariant.0 c.loop-state-test.false
