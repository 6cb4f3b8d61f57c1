-- The sequences of steps of picking: what is joined, and what the recursion over the options asks for.
use Rattle.std.specs.Prelude.{ℕ, ◌+◌, ◌≤◌, ◌≡◌, None}
use Rattle.bdd.specs.Array.{Runs, laid}
use Rattle.bdd.specs.Pairs.{job, room}
use Rattle.bdd.specs.Operations.{Working}
use Rattle.operators.specs.Numbered.{numbered}
use Rattle.relation_ops.specs.Picking.{Outcome, followed_by, operator_step, var_pick_steps}
use Rattle.slots.specs.Slots.{set_at, Below, Whole, Slots}
use Rattle.slots.specs.declared.Place.{Place}

-- `var_pick`, and the and of the rest and of that
abbrev pub joined_steps : Working → ℕ → Runs → ℕ → Runs → Outcome
joined_steps w W a v rest =
    followed_by (var_pick_steps w W a v) (λ one. operator_step w W (job rest (laid one) (numbered 8) None None))

-- the set stands before place t, s entries of the rest fit into a slot, and there are three slots
pub record Joins (p : Place) (W s t : ℕ) (out spare : Runs) : Type 0 where
  pub room_is : W ≡ room out
  pub set : Below p t
  pub fits : s ≤ W
  pub slots : Slots 3 W t spare

-- the set stands before place t, and there are two slots more than options
pub record Ready (p : Place) (k W t : ℕ) (given out spare : Runs) : Type 0 where
  pub room_is : W ≡ room out
  pub set : Below p t
  pub whole : Whole (set_at p given spare)
  pub slots : Slots (k + 2) W t spare
