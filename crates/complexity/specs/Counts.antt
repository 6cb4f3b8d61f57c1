-- What the counting exploration answers.
use Rattle.std.specs.Prelude.{ℕ, ◌<◌, ◌≤◌, ◌≡◌, Bool, Option, Some, None}
use Rattle.bdd.specs.Pairs.{Job, count, can_hold}
use Rattle.complexity.specs.declared.Counted.{Counted}

-- c, which is no more than allowed, and "can it hold"
pub record Told (j : Job) (most c : ℕ) (on : Bool) : Type 0 where
  pub counted : c ≡ count j
  pub holds : on ≡ can_hold j
  pub fits : count j ≤ most

-- c and "can it hold", or that c is more than allowed
abbrev pub Counts : Job → ℕ → Option Counted → Type 0
Counts j most (Some c) = Told j most c.pairs c.on
Counts j most None = most < count j
