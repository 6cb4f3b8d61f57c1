-- Nothing but what they hold has changed in the runs that a maker of arrays is lent.
use Prim.Native.Nat.{ℕ}
use mathlib.Core.Path.{◌≡◌}
use mathlib.Core.List.{List}
use lib.ListN.{length}
use Rattle.bdd.specs.Array.{Runs}

-- no run is shorter or longer than it was
pub record Alike (was now : Runs) (pairs pairs' stack stack' index index' : List ℕ) : Type 0 where
  pub variable : length now.variable ≡ length was.variable
  pub low : length now.low ≡ length was.low
  pub high : length now.high ≡ length was.high
  pub pairs_length : length pairs' ≡ length pairs
  pub stack_length : length stack' ≡ length stack
  pub index_length : length index' ≡ length index
