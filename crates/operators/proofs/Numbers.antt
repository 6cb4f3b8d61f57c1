-- The answers of an operator's number: those that are handed out, or none, which is no good table.
use Prim.Native.Nat.{ℕ, ◌<◌, ◌≤◌}
use mathlib.Core.Path.{◌≡◌}
use mathlib.Core.Bool.{false}
use borrow.Author.Tests.{lt-ltb, le-ltb}
use Rattle.bdd.specs.Table.{operator, good}
use Rattle.operators.specs.Numbered.{numbered}

pub is_operator : (p : ℕ) → p < 16 → numbered p ≡ operator p
unfolding numbered
is_operator p l = rw (lt-ltb p 16 l)

pub no_operator : (p : ℕ) → 16 ≤ p → good 2 (numbered p) ≡ false
unfolding numbered good
no_operator p l = rw (le-ltb p 16 l)
