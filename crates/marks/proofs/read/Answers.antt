-- `marks::read` meets its contract: what was read is marked, each once.
use mathlib.Core.Path.{◌≡◌, refl, sym, ◌∙◌}
use native.Mathlib.Omega.{arith}
use lib.ListN.{length}
use lib.Seq.{take-length}
use Rattle.bdd.specs.Jobs.{listed}
use Rattle.relation_ops.specs.Picking.{repeats}
use Rattle.marks.proofs.Marking.{none_marked, again_here, read_more, beyond_at}
use Rattle.marks.proofs.read.Goals as goal

pub loop-v-init : goal.loop-v-init
unfolding repeats listed
loop-v-init c = record { once = refl; same = none_marked }

pub returns-then-is_marked : goal.returns-then-is_marked
returns-then-is_marked c =
    (refl, again_here c.args.picks.now c.loop-v.v-index c.loop-v-test.true c.loop-v.m c.loop-v.invariant (sym c.is_marked.ensures ∙ c.if-is_marked.true))

pub mark-m-requires : goal.mark-m-requires
mark-m-requires c = (
  beyond_at 256 c.args.picks.now c.loop-v.v-index c.requires c.loop-v-test.true,
  sym c.is_marked.ensures ∙ c.if-is_marked.false,
)

pub loop-v-preserved : goal.loop-v-preserved
loop-v-preserved c =
    read_more c.args.picks.now c.loop-v.v-index c.loop-v-test.true c.loop-v.m c.loop-v.invariant c.mark-m.result (sym c.is_marked.ensures ∙ c.if-is_marked.false) c.mark-m.ensures

pub returns : goal.returns
returns c =
    let all : c.loop-v.v-index ≡ length c.args.picks.now = omega (arith, c.loop-v.auto.v-index-end) in
    rw (all, take-length c.args.picks.now) at c.loop-v.invariant
