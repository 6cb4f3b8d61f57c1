-- `reader::nth` meets its contract: each turn goes on to the next place, and the last gives the record there.
use Rattle.std.proofs.Common.{◌≡◌, ℕ, List, arith, ap, ◌∙◌, Bor}
use Rattle.serialisation.specs.Bytes.{part}
use Rattle.reader.specs.Turns.{place_after}
use Rattle.reader.proofs.Turns.{reached_next, reached_part}
use Rattle.reader.proofs.nth.Goals as goal

pub loop-preserved : goal.loop-preserved
loop-preserved c =
    let before = c.loop.invariant in
    let file = ap (λ (f : Bor (List ℕ)). f.now) c.next.ensures.1 ∙ before.file in
    let place = c.next.ensures.2 ∙ (λ i. place_after (before.file i) (before.place i)) ∙ reached_next _ _ in
    record { file = file; place = place }

pub returns : goal.returns
returns c =
    let before = c.loop.invariant in
    let all : c.loop.counter ≡ c.args.n = omega arith in
    c.next-2.ensures.0
    ∙ (λ i. part (before.file i) (before.place i))
    ∙ reached_part _ _
    ∙ ap (part c.args.file.now) all
