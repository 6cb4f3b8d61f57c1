-- Two sets that can be compared, and what comparing them comes to once the checks are passed.
use Rattle.bdd.specs.declared.Refusal.{Refusal}
use Rattle.std.specs.Prelude.{◌≡◌, ℕ, ◌+◌, ◌*◌, ◌≤◌, true, false, List, length, Err, Ok, Result}
use Rattle.std.proofs.Math.Option.{none, some}
use Rattle.bdd.specs.Array.{Runs, size, options, ordered}
use Rattle.bdd.specs.Answers.{number, first_refusal, clears, all_zero}
use Rattle.compare.specs.declared.Comparison.{Comparison}
use Rattle.compare.specs.Told.{two_checks, told_comparison, Says}

-- both sets are ordered, over the same n options
pub record Comparable (a b : Runs) (n : ℕ) : Type 0 where
  pub left : ordered a ≡ true
  pub right : ordered b ≡ true
  pub left_options : n ≡ options a
  pub right_options : n ≡ options b

-- no check holds
pub record Admitted (a b : Runs) (room n : ℕ) : Type 0 where
  pub comparable : Comparable a b n
  pub long : 5 * (size a + size b) ≤ room
  pub passed : first_refusal (two_checks a b room) ≡ none

-- or this one is the first
abbrev pub Admits : Runs → Runs → ℕ → Result ℕ Refusal → Type 0
Admits a b room (Ok n) = Admitted a b room n
Admits a b room (Err why) = (first_refusal (two_checks a b room) ≡ some why) × (clears (number why) ≡ false)

-- two sets, and a run that is long enough and all zero
pub record Settleable (a b : Runs) (n : ℕ) (room : List ℕ) : Type 0 where
  pub comparable : Comparable a b n
  pub long : 5 * (size a + size b) ≤ length room
  pub blank : room ≡ all_zero room

-- an answer that is no refusal, and what it says
pub record Settled (a b : Runs) (was now : List ℕ) (r : Comparison) : Type 0 where
  pub done : (told_comparison (Ok r)).number ≡ 0
  pub says : Says a b was now (Ok r)
