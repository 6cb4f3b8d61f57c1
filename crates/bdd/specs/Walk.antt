-- The order in which a walk over the links meets the entries: one side first, then the other side, then the entry itself,
-- each once.
use Rattle.std.specs.Prelude.{ℕ, suc, ◌≤◌, ◌<◌, Bool, cond, not}
use Rattle.bdd.specs.Array.{Runs, low_link_of, high_link_of}

-- the link of entry i on a side: high (true) or low (false)
abbrev pub side : Runs → Bool → ℕ → ℕ
side a b i = cond b (high_link_of a i) (low_link_of a i)

-- k entries are known when the walk comes to entry i, m when it leaves: an entry that is known is passed by, and a new
-- one is met when as many entries are known as its number says
pub data Walk (first : Bool) (a : Runs) : ℕ → ℕ → ℕ → Type 0 where
  seen : {i k : ℕ} → i < k → Walk first a i k k
  new : {i k l : ℕ} → k ≤ i → Walk first a (side a first i) k l → Walk first a (side a (not first) i) l i → Walk first a i k (suc i)
