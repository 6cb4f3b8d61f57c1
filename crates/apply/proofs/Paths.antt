-- The path of the open pairs: each asks a smaller option than the one above it, so a pair that is awaited is not open; and the path
-- stands when pairs are entered, entries written, or the pair on top closed.
use Prim.Native.Nat.{ℕ, ◌<◌, ◌≤◌}
use mathlib.Core.Path.{◌≡◌, refl, ap, subst}
use mathlib.Core.Logic.{◌⊎◌, inl, inr, ⊎_elim}
use mathlib.Core.Bool.{Bool, true, false, cond}
use mathlib.Core.List.{List, [], ◌∷◌}
use native.Mathlib.Omega.{arith}
use lib.ListN.{length}
use Rattle.bdd.specs.Array.{Entry}
use Rattle.bdd.specs.Pairs.{Job, Checked, Pair, pairs_of, roots, asked, child, flipped}
use Rattle.bdd.specs.Lent.{Flip}
use Rattle.bdd.proofs.Written.{Grown}
use Rattle.counting.proofs.Among.{In, here, there, in-none, in-cases}
use Rattle.counting.proofs.Reaching.{Reach, by_step}
use Rattle.tasks.proofs.Tasks.{Waits, settled_grown}
use Rattle.pairs.proofs.Flips.{swapped}
use Rattle.pairs.proofs.Pairs.{pairs_fall, pair_tasks}
use Rattle.pair_run.specs.Held as held
use Rattle.pair_run.proofs.Laws.{noted_stands, noted_same}
use Rattle.step.specs.Step.{side}
use Rattle.complexity.specs.Exploring.{InRun}
use Rattle.apply.specs.Frames.{Frame}
use Rattle.apply.specs.Awaiting.{Path, at_root, to_near, to_other}

-- both children are among the two sides
pub sides_in : (j : Job) (out : Flip) (p : Pair) (ws : List Pair) (b : Bool) → In (child j b p) (side j out true p ∷ side j out false p ∷ ws)
sides_in j out p ws b = at (flipped out (asked j p)) b
  where
    at : (t b : Bool) → In (child j b p) (child j (cond t false true) p ∷ child j (cond t true false) p ∷ ws)
    at true true = there (here refl)
    at true false = here refl
    at false true = here refl
    at false false = there (here refl)

-- no pair is open
pub record Bare (j : Job) (ps ws : List Pair) (q : Pair) : Type 0 where
  pub opens : ps ≡ []
  pub waiting : ws ≡ []
  pub root : q ≡ roots j

-- a pair that asks a smaller option than the one whose result is another stands as it did
kept_below : (j : Job) {run run' : List ℕ} {i u : ℕ} (p : Pair) → held.Noted run i p.left p.right (asked j p) → held.Changed run run' i u
    → (o : Pair) (k : ℕ) → held.Noted run k o.left o.right (asked j o) → asked j o < asked j p → held.Noted run' k o.left o.right (asked j o)
kept_below j p n ch o k m b = ch.kept k _ _ _ (λ z. absurd (omega (arith, (noted_same n (rw z at m)).2))) m

module _ {j : Job} (c : Checked j) (out : Flip) where
  -- a child asks a greater option
  pub side_later : {p : Pair} → Waits (pair_tasks c out) p → (b : Bool) → asked j p < asked j (side j out b p)
  side_later {p} w b = (pairs_fall c).later p w.reached w.undecided (swapped out (asked j p) b)

  pub side_reached : {p : Pair} → Waits (pair_tasks c out) p → (b : Bool) → Reach (pairs_of j) (side j out b p)
  side_reached {p} w b = by_step w.reached w.undecided (swapped out (asked j p) b)

  -- an open pair, at the node of its frame
  pub record Opener (run : List ℕ) (f : Frame) (q : Pair) : Type 0 where
    pub task : Pair
    pub noted : held.Noted run f.node task.left task.right (asked j task)
    pub before : asked j task < asked j q

  module _ {run : List ℕ} {es : List Entry} where
    pub path_frame : {fs : List Frame} {ps ws : List Pair} {q : Pair} → Path c out run es fs ps ws q → (f : Frame) → In f fs → Opener run f q
    path_frame at_root f m = absurd (in-none m)
    path_frame (to_near {p = p} d w n e) f m =
        ⊎_elim (λ s. record { task = p; noted = rw s n; before = side_later w true })
        (λ l. let o = path_frame d f l in record { task = o.task; noted = o.noted; before = omega (arith, o.before, side_later w true) }) (in-cases m)
    path_frame (to_other {p = p} d w n s v) f m =
        ⊎_elim (λ s. record { task = p; noted = rw s n; before = side_later w false })
        (λ l. let o = path_frame d f l in record { task = o.task; noted = o.noted; before = omega (arith, o.before, side_later w false) }) (in-cases m)

    -- there are no more frames than options asked
    pub path_height : {fs : List Frame} {ps ws : List Pair} {q : Pair} → Path c out run es fs ps ws q → length fs ≤ asked j q
    path_height at_root = omega arith
    path_height (to_near d w n e) = omega (arith, path_height d, side_later w true)
    path_height (to_other d w n s v) = omega (arith, path_height d, side_later w false)

    -- the root stands in the run, or nothing is open and it is awaited
    pub path_root : {fs : List Frame} {ps ws : List Pair} {q : Pair} → Path c out run es fs ps ws q → InRun run (roots j) ⊎ ((fs ≡ []) × (q ≡ roots j))
    path_root at_root = inr (refl, refl)
    path_root (to_near {p = p} d w n e) =
        inl (⊎_elim (λ r. r) (λ b. subst (InRun run) b.1 (asked j p, noted_stands n)) (path_root d))
    path_root (to_other {p = p} d w n s v) =
        inl (⊎_elim (λ r. r) (λ b. subst (InRun run) b.1 (asked j p, noted_stands n)) (path_root d))

    pub path_bare : {fs : List Frame} {ps ws : List Pair} {q : Pair} → Path c out run es fs ps ws q → fs ≡ [] → Bare j ps ws q
    path_bare at_root e = record { opens = refl; waiting = refl; root = refl }
    path_bare (to_near d w n x) e = absurd (omega (arith, ap length e))
    path_bare (to_other d w n s v) e = absurd (omega (arith, ap length e))

    -- pairs are entered
    pub path_entered : {run' : List ℕ} {fs : List Frame} {ps ws : List Pair} {q : Pair}
        → ((i a b v : ℕ) → held.Noted run i a b v → held.Noted run' i a b v) → Path c out run es fs ps ws q → Path c out run' es fs ps ws q
    path_entered h at_root = at_root
    path_entered h (to_near d w n e) = to_near (path_entered h d) w (h _ _ _ _ n) e
    path_entered h (to_other d w n s v) = to_other (path_entered h d) w (h _ _ _ _ n) s v

    -- entries are written
    pub path_written : {es' : List Entry} {fs : List Frame} {ps ws : List Pair} {q : Pair} → Grown es es'
        → Path c out run es fs ps ws q → Path c out run es' fs ps ws q
    path_written g at_root = at_root
    path_written g (to_near d w n e) = to_near (path_written g d) w n e
    path_written g (to_other d w n s v) = to_other (path_written g d) w n (settled_grown (pair_tasks c out) s g) v

    -- the result of a node above the path is another
    pub path_closed : {run' : List ℕ} {i u : ℕ} (p : Pair) → held.Noted run i p.left p.right (asked j p) → held.Changed run run' i u
        → {fs : List Frame} {ps ws : List Pair} {q : Pair} → Path c out run es fs ps ws q → asked j q ≤ asked j p → Path c out run' es fs ps ws q
    path_closed p n ch at_root l = at_root
    path_closed p n ch (to_near {p = o} {i = k} d w m e) l =
        to_near (path_closed p n ch d (omega (arith, side_later w true))) w (kept_below j p n ch o k m (omega (arith, side_later w true))) e
    path_closed p n ch (to_other {p = o} {i = k} d w m s v) l =
        to_other (path_closed p n ch d (omega (arith, side_later w false))) w (kept_below j p n ch o k m (omega (arith, side_later w false))) s v
