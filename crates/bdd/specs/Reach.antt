-- The entries that the links reach from the root.
use Rattle.std.specs.Prelude.{ℕ, ◌≤◌}
use Rattle.bdd.specs.Array.{Runs, root, low_link_of, high_link_of}

-- the root is reached, and so are both links of a reached entry from 2 on
pub data Reached (a : Runs) : ℕ → Type 0 where
  at_root : Reached a (root a)
  by_low : {i : ℕ} → Reached a i → 2 ≤ i → Reached a (low_link_of a i)
  by_high : {i : ℕ} → Reached a i → 2 ≤ i → Reached a (high_link_of a i)
