-- `marks::greatest` meets its contract: no option from word i on is marked.
use Rattle.marks.specs.Marking.{words}
use mathlib.Core.Path.{◌≡◌, sym, ◌∙◌}
use native.Mathlib.Omega.{arith}
use Rattle.marks.proofs.Marking.{word_more, greatest_found, none_found}
use Rattle.marks.proofs.greatest.Goals as goal

pub returns-then-x-gt0 : goal.returns-then-x-gt0
returns-then-x-gt0 c =
    greatest_found (words c.args.m) c.loop-i.i c.loop-i-test.true c.loop-i.invariant c.top.result c.word-x.result c.loop-i.auto.i c.word-x.ensures c.top.ensures.0 c.top.ensures.1 c.top.ensures.2

pub loop-i-preserved : goal.loop-i-preserved
loop-i-preserved c =
    word_more (words c.args.m) c.loop-i.i c.loop-i-test.true c.loop-i.invariant (sym c.word-x.ensures ∙ (let e : c.word-x.result ≡ 0 = omega arith in e))

pub returns : goal.returns
returns c = none_found (words c.args.m) (λ u l m. c.loop-i.invariant u (omega arith) m)
