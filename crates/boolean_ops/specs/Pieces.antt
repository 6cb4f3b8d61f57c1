-- What the pieces of an operator do: the checks before it, what a count comes to in a dry run, and what is cleared after it.
use Rattle.std.specs.Prelude.{ℕ, ◌≡◌, Bool, false, cond, Err, Ok, Result, Option, Some, None}
use Rattle.std.proofs.Math.Option.{none, some}
use Rattle.bdd.specs.Answers.{Checks, number, clears, all_zero}
use Rattle.bdd.specs.Operations.{Working}
use Rattle.bdd.specs.declared.Refusal.{Refusal}
use Rattle.bdd.specs.declared.Refusal.TheVariants.{PairRoom, OverLimit}
use Rattle.complexity.specs.declared.Counted.{Counted}
use Rattle.boolean_ops.specs.declared.Dry.{Dry}
use Rattle.bdd.proofs.Refusing.{first_in_list}

-- none of the checks holds, and the set is over so many options
pub record Passes (cs : Checks) (n m : ℕ) : Type 0 where
  pub options : m ≡ n
  pub clean : first_in_list cs ≡ none

-- the first that holds is this one, and leaves the runs as they were
pub record Stops (cs : Checks) (why : Refusal) : Type 0 where
  pub first : first_in_list cs ≡ some why
  pub keeps : clears (number why) ≡ false

abbrev pub Admits : Checks → ℕ → Result ℕ Refusal → Type 0
Admits cs n (Ok m) = Passes cs n m
Admits cs n (Err why) = Stops cs why

-- what a count comes to in a dry run: more than may be counted is 8 for the limit, else 7
abbrev pub dried : Option Counted → Bool → Result Dry Refusal
dried None limited = Err (cond limited OverLimit PairRoom)
dried (Some c) limited = Ok (record { can_hold = c.on; pairs = c.pairs })

-- the working runs are all zero
pub record Zeros (lent back : Working) : Type 0 where
  pub pairs : back.pairs ≡ all_zero lent.pairs
  pub stack : back.stack ≡ all_zero lent.stack
  pub index : back.index ≡ all_zero lent.index
