-- The pairs of a checked job, which are the tasks of two sets: how they explore, what they stand for, and S ≤ c + 2.
use Prim.Native.Nat.{ℕ, ◌+◌, ◌*◌, ◌<◌, ◌≤◌}
use mathlib.Core.Path.{◌≡◌, refl}
use mathlib.Core.Logic.{⊎_elim}
use mathlib.Core.Bool.{Bool, true, false, cond}
use mathlib.Core.List.{List, [], ◌∷◌}
use native.Mathlib.Omega.{arith}
use lib.ListN.{length}
use lib.Dec.{eqb}
use borrow.Author.Tests.{eqb-true, eq-eqb}
use Rattle.bdd.specs.Bounds.{most_entries}
use Rattle.bdd.specs.Array.{Runs, size, options}
use Rattle.bdd.specs.Value.{Function, value, Of}
use Rattle.bdd.specs.Signed.{signed, high_first}
use Rattle.bdd.specs.Jobs.{digit, operated}
use Rattle.bdd.specs.Pairs.{Pair, Job, Checked, result, decision, undecided, asked, child, same_pair, roots, pairs_of, reached, count, can_hold}
use Rattle.bdd.specs.Lent.{Flip}
use Rattle.bdd.proofs.Logic.{le_or_lt, and_left, and_right, and_both}
use Rattle.bdd.proofs.Ordered.{Ordered, ordered_open}
use Rattle.op_function.proofs.Tables.{GoodOf, good_of_open}
use Rattle.counting.proofs.Among.{In, here, there, in-none, each, Tells}
use Rattle.counting.proofs.Different.{different_most, different_le}
use Rattle.counting.proofs.Reaching.{Reach, at_root, by_step, Falls, listed_reach}
use Rattle.counting.proofs.Noting.{root_some, root_none, root_holds}
use Rattle.tasks.proofs.Tasks.{Tasks}
use Rattle.tasks.proofs.Finished.{Finished}
use Rattle.tasks.proofs.Build.{built_decided}
use Rattle.tasks.proofs.Sizes as sizes
use Rattle.pairs.proofs.Flips.{swapped}
use Rattle.pairs.proofs.Grid.{grid, grid_length, in_grid}
use Rattle.pairs.proofs.Sets as sets
use Rattle.pairs.proofs.Sets.{Side, side, Placed, Least, meaning_in}

-- a pair's entries, each of its set
abbrev pub sides : Job → Pair → List Side
sides j p = side j.left j.flip_left p.left ∷ side j.right j.flip_right p.right ∷ []

-- what a pair stands for: the operator of the values at its two entries
unfoldable pub meaning : Job → Flip → Pair → Function
meaning j out p = meaning_in j.table out (sides j p)

-- the two roots stand for the job's result
pub meaning_roots : (j : Job) (out : Flip) → meaning j out (roots j) ≡ result j out
unfolding meaning meaning_in roots value operated
meaning_roots j out = refl

pub same_tells : Tells same_pair
same_tells =
    record {
      equal = λ p q e i.
          record {
            left = eqb-true p.left q.left (and_left (eqb p.left q.left) (eqb p.right q.right) e) i;
            right = eqb-true p.right q.right (and_right (eqb p.left q.left) (eqb p.right q.right) e) i;
          };
      itself = λ p. and_both _ _ (eq-eqb p.left p.left refl) (eq-eqb p.right p.right refl);
    }

-- the asked option is the smaller variable of the two
pub asks : (j : Job) (p : Pair) → Least (asked j p) (sides j p)
unfolding asked
asks j p = ⊎_elim (λ l. by_left l) (λ l. by_right l) (le_or_lt (sets.variable left) (sets.variable right))
  where
    left : Side
    left = side j.left j.flip_left p.left

    right : Side
    right = side j.right j.flip_right p.right

    both : (s : Side) → In s (sides j p) → asked j p ≤ sets.variable s
    both = each (λ s. asked j p ≤ sets.variable s) (omega arith) (each (λ s. asked j p ≤ sets.variable s) (omega arith) (λ s m. absurd (in-none m)))

    by_left : sets.variable left ≤ sets.variable right → Least (asked j p) (sides j p)
    by_left l = record { least = both; one = left; listed = here refl; equal = omega arith }

    by_right : sets.variable right < sets.variable left → Least (asked j p) (sides j p)
    by_right l = record { least = both; one = right; listed = there (here refl); equal = omega arith }

module _ {j : Job} (c : Checked j) where
  pub left_ordered : Ordered j.left
  left_ordered = ordered_open j.left c.left

  pub right_ordered : Ordered j.right
  right_ordered = ordered_open j.right c.right

  pub good : GoodOf 2 j.table
  good = good_of_open 2 j.table c.table

  pub nine : length j.table ≡ 9
  nine = good.size

  -- both entries are there
  pub record Inside (p : Pair) : Type 0 where
    pub left : p.left < size j.left
    pub right : p.right < size j.right

  pub placed : {p : Pair} → Inside p → (s : Side) → In s (sides j p) → Placed (options j.left) s
  placed h =
      let o : options j.right ≡ options j.left = omega (arith, c.same_options) in
      each (λ s. Placed (options j.left) s) (record { layered = left_ordered.layered; over = refl; within = h.left })
      (each (λ s. Placed (options j.left) s) (record { layered = right_ordered.layered; over = o; within = h.right })
      (λ s m. absurd (in-none m)))

  pub reach_inside : {p : Pair} → Reach (pairs_of j) p → Inside p
  unfolding roots child decision
  reach_inside at_root = record { left = omega (arith, left_ordered.size_least); right = omega (arith, right_ordered.size_least) }
  reach_inside (by_step {p} r u b) =
      let all = sets.child_placed (placed (reach_inside r)) good (asks j p) u b in
      record { left = (all _ (here refl)).within; right = (all _ (there (here refl))).within }

  pub pairs_fall : Falls (pairs_of j)
  unfolding decision child
  pairs_fall =
      record {
        tells = same_tells;
        most = λ p r. sets.asked_most (placed (reach_inside r)) good (asks j p);
        later = λ p r u b. sets.child_later (placed (reach_inside r)) good (asks j p) u b (asks j (child j b p));
      }

  pub decision_most : (p : Pair) → Inside p → decision j p < 3
  unfolding decision
  decision_most p h = sets.decision_most (placed h) good

  -- a pair that is not undecided is decided as off or as on
  pub decided_digit : (p : Pair) → Inside p → undecided j p ≡ false → decision j p ≡ digit (eqb (decision j p) 1)
  unfolding decision
  decided_digit p h d = sets.decided_digit (placed h) good d

  -- the high side is written first; an output flip at the asked option swaps the two
  unfoldable pub pair_tasks : Flip → Tasks high_first (pairs_of j)
  unfolding decision child meaning
  pair_tasks out =
      record {
        falls = pairs_fall;
        meaning = meaning j out;
        swaps = λ p. swapped out (asked j p);
        decided_is = λ p r d. sets.meaning_decided (placed (reach_inside r)) good d out;
        ignores = λ p r. sets.meaning_ignores (placed (reach_inside r)) good (asks j p) out;
        child_is = λ p r u b. sets.meaning_child (placed (reach_inside r)) good (asks j p) u out b;
      }

  -- a job's result is a function of its sets' options
  pub result_of : (out : Flip) → Of (options j.left) (result j out)
  unfolding meaning decision
  result_of out = rw (meaning_roots j out) at (sets.meaning_of (placed (reach_inside at_root)) good out)

  pub size_most : (out : Flip) → length (signed high_first (options j.left) (result j out)) ≤ count j + 2
  unfolding pair_tasks count reached
  size_most out = rw (← meaning_roots j out) (sizes.size_most (pair_tasks out))

  -- c is at most the number of ways to take an entry of each set
  pub pairs_most : count j ≤ most_entries * most_entries
  unfolding count reached
  pairs_most =
      let all = grid most_entries most_entries in
      let inside : (p : Pair) → Inside p → In p all =
      λ p h. in_grid p _ _ (omega (arith, left_ordered.size_most)) (omega (arith, right_ordered.size_most)) in
      let few = different_le (pairs_of j) same_tells (reached j) all (λ p m u. inside p (reach_inside (listed_reach (pairs_of j) p m))) in
      omega (arith, different_most (pairs_of j) all, grid_length most_entries most_entries)

  -- the two roots are undecided exactly where c is not 0
  pub roots_some : undecided j (roots j) ≡ true → 0 < count j
  unfolding count reached
  roots_some u = root_some pairs_fall u

  pub roots_none : undecided j (roots j) ≡ false → count j ≡ 0
  unfolding count reached
  roots_none u = root_none pairs_fall u

  -- and where the table decides them, the array is false or true, as "can it hold" says
  pub decided_finished : (out : Flip) → undecided j (roots j) ≡ false
      → Finished high_first (options j.left) (result j out) [] (cond (can_hold j) 1 0)
  unfolding pair_tasks can_hold reached
  decided_finished out u = rw (root_holds pairs_fall u, ← meaning_roots j out) (built_decided (pair_tasks out) u)
