-- How the exploration begins, what the answer of a look tells, and what it knows when nothing waits.
use Rattle.std.specs.Prelude.{None, Some, Option}
use Prim.Native.Nat.{ℕ, ◌+◌, ◌*◌, ◌<◌, ◌≤◌}
use mathlib.Core.Path.{◌≡◌, ap, subst, ◌∙◌}
use mathlib.Core.Bool.{false}
use mathlib.Core.List.{List}
use native.Mathlib.Omega.{arith}
use lib.ListN.{length, set, length-set, length-replicate}
use Rattle.bdd.specs.Array.{options}
use Rattle.bdd.specs.Pairs.{Job, Checked, Pair, pairs_of, roots, reached, can_hold, pair_room}
use Rattle.bdd.specs.Pairs as pairs
use Rattle.bdd.specs.Answers.{all_zero}
use Rattle.counting.proofs.Reaching.{at_root}
use Rattle.counting.proofs.Turns.{tally_start, tally_done}
use Rattle.pairs.proofs.Pairs.{pairs_fall}
use Rattle.pair_run.proofs.Laws.{empty}
use Rattle.step.specs.Step.{code, decoded}
use Rattle.step.proofs.Codes.{decoded_code, reach_small}
use Rattle.complexity.specs.Counts.{Told}
use Rattle.complexity.specs.Exploring.{InRun, Exploring, Went, Leaves}
use Rattle.complexity.specs.declared.State.{State}

-- the pair run is cleared, and the two roots wait
pub start : {j : Job} {most : ℕ} {run stack' : List ℕ} (stack was : List ℕ) (p : Pair) → Checked j → run ≡ all_zero was → most ≤ pair_room was
    → 2 * options j.left + 1 ≤ length stack → p ≡ roots j → stack' ≡ set stack 0 (code p)
    → Exploring j most run stack' (record { height = 1; count = 0; on = false })
unfolding pair_room
start {j} {most} {run} stack was p checked cleared room places root wrote =
    let e = empty was in
    let long : length run ≡ length was = ap length cleared ∙ length-replicate (length was) 0 in
    record {
      tally =
          rw (wrote, root)
          (tally_start (pairs_of j) decoded (InRun run) stack (code (roots j)) (omega arith)
          (decoded_code (roots j) (reach_small checked at_root)) (λ p w. e.absent p.left p.right w.0 (rw cleared at w.1)));
      holds = record { sound = rw cleared e.sound; number = rw cleared e.none; few = omega arith; fits = omega arith; room = omega arith };
      places = rw wrote (simp length-set places);
    }

pub went : {j : Job} {most : ℕ} {was s : State} {run stack : List ℕ} {r : (Option State)} → Leaves j most was run stack r → r ≡ Some s
    → Went j most was run stack s
went {j} {most} {was} {s} {run} {stack} t e = subst (Leaves j most was run stack) e t

pub over : (j : Job) (most : ℕ) (was : State) (run stack : List ℕ) (r : (Option State)) → Leaves j most was run stack r → r ≡ None
    → most < pairs.count j
over j most was run stack r t e = subst (Leaves j most was run stack) e t

-- nothing waits
pub told : {j : Job} {most : ℕ} {run stack : List ℕ} {s : State} → Checked j → Exploring j most run stack s → s.height ≤ 0
    → Told j most s.count s.on
unfolding pairs.count reached can_hold
told {s = s} checked e none =
    let a = tally_done (pairs_fall checked) e.tally (omega (arith, none)) in
    record { counted = a.counted; holds = a.holds; fits = omega (arith, a.counted, e.holds.fits) }
