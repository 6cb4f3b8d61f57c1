-- Noted tasks that are their own queue, over any kind of task: `task i` is the one that was noted as number i, and the next to be
-- looked at is the oldest that was not.
use Rattle.std.specs.Prelude.{ℕ, zero, suc, ◌+◌, ◌-◌, ◌≤◌, ◌≡◌, Bool, true, false, List, [], ◌∷◌, ◌++◌}
use Rattle.bdd.specs.Pairs.{Exploration, some_on}
use Rattle.counting.proofs.First.{first}
use Rattle.counting.proofs.Noting.{Noting}

-- both children of each of the m tasks from number i on
unfoldable pub children : {T : Type 0} → Exploration T → (ℕ → T) → ℕ → ℕ → List T
children x task i zero = []
children x task i (suc m) = x.child true (task i) ∷ x.child false (task i) ∷ children x task (i + 1) m

-- k tasks are noted, of which d were looked at: `more` waits, and both children of each of the others. The flag says whether a task that
-- was seen is decided as on.
pub record Queue {T : Type 0} (x : Exploration T) (task : ℕ → T) (more : List T) (d k : ℕ) (on : Bool) : Type 0 where
  pub behind : d ≤ k
  pub seen : List T
  pub noting : Noting x (first task k) seen (more ++ children x task d (k - d))
  pub flag : on ≡ some_on x seen
