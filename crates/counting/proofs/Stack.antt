-- The stack of an exploration: h tasks stand in a run of numbers, the top at place h - 1; and at place i stands a task that asks v
-- with i ≤ 2 v, so that 2n + 1 places are never short.
use Prim.Native.Nat.{ℕ, zero, suc, ◌+◌, ◌*◌, ◌<◌, ◌≤◌}
use mathlib.Core.Path.{◌≡◌, refl, ap, ap₂, ◌∙◌}
use mathlib.Core.Bool.{Bool, true}
use mathlib.Core.List.{List, [], ◌∷◌}
use native.Mathlib.Omega.{arith}
use lib.ListN.{length, get_or, set}
use lib.Seq.{get_or-set_same, get_or-set_other, lt-length-set}
use Rattle.bdd.specs.Pairs.{Exploration, undecided_in}
use Rattle.counting.proofs.Among.{In, here}
use Rattle.counting.proofs.Reaching.{Reach, Falls, asks_below}

module _ {T : Type 0} (task : ℕ → T) where
  -- the h tasks of the run, top first
  abbrev pub stacked : List ℕ → ℕ → List T
  stacked run zero = []
  stacked run (suc h) = task (get_or run h 0) ∷ stacked run h

  pub stacked_length : (run : List ℕ) (h : ℕ) → length (stacked run h) ≡ h
  stacked_length run zero = refl
  stacked_length run (suc h) = ap suc (stacked_length run h)

  pub stacked_top : (run : List ℕ) (h h' : ℕ) → h ≡ suc h' → stacked run h ≡ task (get_or run h' 0) ∷ stacked run h'
  stacked_top run h h' e = rw e

  -- a store above the top changes nothing
  stacked_set : (run : List ℕ) (h j v : ℕ) → h ≤ j → stacked (set run j v) h ≡ stacked run h
  stacked_set run zero j v l = refl
  stacked_set run (suc h) j v l =
      ap₂ (λ (a : ℕ) (ps : List T). task a ∷ ps) (get_or-set_other run j h v 0 (omega arith)) (stacked_set run h j v (omega arith))

  -- a push is a store at the height
  pub stacked_push : (run : List ℕ) (h h' v : ℕ) → h < length run → h' ≡ suc h → stacked (set run h v) h' ≡ task v ∷ stacked run h
  stacked_push run h h' v l e =
      stacked_top (set run h v) h' h e
      ∙ ap₂ (λ (a : ℕ) (ps : List T). task a ∷ ps) (get_or-set_same run h v 0 l) (stacked_set run h h v (omega arith))

  -- two pushes: v, then w on top
  pub stacked_push_two : (run : List ℕ) (h v w : ℕ) → h + 1 < length run
      → stacked (set (set run h v) (h + 1) w) (h + 2) ≡ task w ∷ task v ∷ stacked run h
  stacked_push_two run h v w l =
      stacked_push (set run h v) (h + 1) (h + 2) w (lt-length-set run h v l) (omega arith)
      ∙ ap (λ (ps : List T). task w ∷ ps) (stacked_push run h (h + 1) v (omega arith) (omega arith))

module _ {T : Type 0} (x : Exploration T) where
  pub data Low : List T → Type 0 where
    bottom : Low []
    above : {p : T} {ps : List T} → length ps ≤ 2 * x.asked p → Low ps → Low (p ∷ ps)

  low_top : {p : T} {ps : List T} → Low (p ∷ ps) → length ps ≤ 2 * x.asked p
  low_top (above l w) = l

  pub low_rest : {p : T} {ps : List T} → Low (p ∷ ps) → Low ps
  low_rest (above l w) = w

  module _ (f : Falls x) where
    pub low_most : (ps : List T) → Low ps → ((p : T) → In p ps → Reach x p) → length ps ≤ 2 * x.options + 1
    low_most [] w h = omega arith
    low_most (p ∷ ps) w h = omega (arith, low_top w, f.most p (h p (here refl)))

    module _ {p : T} {ps : List T} (w : Low (p ∷ ps)) (r : Reach x p) (u : undecided_in x p ≡ true) where
      -- both children of the top find room
      pub low_room : length ps + 3 ≤ 2 * x.options + 1
      low_room = omega (arith, low_top w, asks_below f r u)

      -- a child of the top, not more than two places higher
      pub low_child : (b : Bool) {qs : List T} → length qs ≤ length ps + 2 → Low qs → Low (x.child b p ∷ qs)
      low_child b {qs} l v = above {p = x.child b p} {ps = qs} (omega (arith, low_top w, f.later p r u b)) v
