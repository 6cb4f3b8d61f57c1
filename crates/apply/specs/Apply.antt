-- What the exploration of an operator is handed, and what it comes to.
use Rattle.std.specs.Prelude.{ℕ, ◌+◌, ◌*◌, ◌<◌, ◌≤◌, List, length}
use Rattle.bdd.specs.Bounds.{most_entries}
use Rattle.bdd.specs.Array.{Runs, options}
use Rattle.bdd.specs.Signed.{high_first}
use Rattle.bdd.specs.Pairs.{Job, Checked, result, tasks, count, pair_room}
use Rattle.bdd.specs.Lent.{Flip}
use Rattle.index_run.specs.Placing.{Fit}
use Rattle.ending.specs.Ends.{Comes}
use Rattle.ending.specs.declared.Explored.{Explored}
use Rattle.ending.specs.declared.Explored.TheVariants as explored

-- the checks are made, and the lent runs are long enough for `most` entries
pub record Admissible (j : Job) (most : ℕ) (out : Runs) (stack index : List ℕ) : Type 0 where
  pub checked : Checked j
  pub few : most ≤ most_entries
  pub output_fits : Fit out most
  pub stack_fits : 2 * options j.left + 1 ≤ length stack
  pub index_fits : most ≤ length index

-- the pairs have room, and what the exploration came to
pub record Fits (j : Job) (out : Flip) (most : ℕ) (was now : Runs) (pairs : List ℕ) (x : Explored) : Type 0 where
  pub fits : tasks j ≤ pair_room pairs
  pub comes : Comes high_first (options j.left) (result j out) most was now x

-- 7, or what it came to
abbrev pub Explores : Job → Flip → ℕ → Runs → Runs → List ℕ → Explored → Type 0
Explores j out most was now pairs explored.NoPairRoom = pair_room pairs < tasks j
Explores j out most was now pairs explored.Long = Fits j out most was now pairs explored.Long
Explores j out most was now pairs (explored.Array v next) = Fits j out most was now pairs (explored.Array v next)

-- an array that is too long, by the count of the pairs: 7, or 8 or 9
abbrev pub CountedOn : Job → List ℕ → Explored → Type 0
CountedOn j pairs explored.NoPairRoom = pair_room pairs < count j
CountedOn j pairs explored.Long = count j ≤ pair_room pairs
CountedOn j pairs (explored.Array v next) = ⊥
