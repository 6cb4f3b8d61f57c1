-- The answers of the checks, from the definitions of the page, and what their inner steps promise.
use Rattle.std.specs.Prelude.{ℕ, ◌+◌, ◌≤◌, ◌<◌, ◌≡◌, Bool, true, cond, ◌&&◌, List, length, get_or, replicate, None, Some, Option}
use Rattle.bdd.specs.Bounds.{most_entries}
use Rattle.bdd.specs.Array.{Runs, size, options, ordered, decides, single, tidy}
use Rattle.bdd.specs.Signed.{high_first, in_signing_order}
use Rattle.bdd.specs.Walk.{Walk}
use Rattle.index_run.specs.Index.{Indexed}

-- yes, with n, exactly where the set is tidy
abbrev pub checked_tidy : Runs → Option ℕ
checked_tidy a = cond (tidy a) (Some (options a)) None

-- yes, with n, exactly where the set is in signing order
abbrev pub checked_signing : Runs → Option ℕ
checked_signing a = cond (in_signing_order a) (Some (options a)) None

-- the set is ordered, and the index is all zero with room for every entry
pub record Blank (index : List ℕ) (a : Runs) : Type 0 where
  pub ordered : ordered a ≡ true
  pub zero : index ≡ replicate (length index) 0
  pub room : size a ≤ length index

-- entry i, which stands in all three runs, comes next: the entries from 2 on before it are indexed, with room for all
pub record Coming (index : List ℕ) (a : Runs) (i : ℕ) : Type 0 where
  pub entry : i < size a
  pub low : i < length a.low
  pub high : i < length a.high
  pub small : i < most_entries
  pub room : size a ≤ length index
  pub indexed : Indexed index a i

-- the answer is that entry i has different links and is none of those before it; on yes it is indexed too
pub record Taken (now : List ℕ) (a : Runs) (i : ℕ) (answer : Bool) : Type 0 where
  pub reduced : answer ≡ (decides a i && single a i)
  pub indexed : answer ≡ true → Indexed now a (i + 1)

-- a walk from entry i that knows k entries, the terminals among them, stays in the runs and comes down
pub record Walkable (low high : List ℕ) (i k : ℕ) : Type 0 where
  pub in_low : i < length low
  pub in_high : i < length high
  pub terminals : 2 ≤ k
  pub down : (j : ℕ) → 2 ≤ j → j ≤ i → (get_or low j 0 < j) × (get_or high j 0 < j)

-- how many entries are known when the walk leaves entry i, or that no walk meets the entries in the order of their numbers
abbrev pub Met : Runs → ℕ → ℕ → (Option ℕ) → Type 0
Met a i k (Some m) = Walk high_first a i k m
Met a i k None = (m : ℕ) → Walk high_first a i k m → ⊥
