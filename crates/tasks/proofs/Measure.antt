-- The number that each look at the stack's top lowers: of R tasks that may come to be known, k are; the stack holds h tasks; its
-- top is held by the memo, or asks option a.
use Prim.Native.Nat.{ℕ, suc, ◌+◌, ◌-◌, ◌*◌, ◌<◌, ◌≤◌}
use mathlib.Core.Bool.{Bool, true, false, cond}
use native.Mathlib.Omega.{arith}
use native.Mathlib.Nat.{mul-le-mul_right, suc-mul}

-- what the looks before the next task becomes known come to
abbrev pub before_next : ℕ → Bool → ℕ → ℕ → ℕ
before_next n held h a = cond held (n + 1 + h) (n - a)

unfoldable pub looks_left : ℕ → ℕ → ℕ → Bool → ℕ → ℕ → ℕ
looks_left n R k held h a = (R - k) * (3 * n + 4) + before_next n held h a

before_most : (n h a : ℕ) (held : Bool) → h ≤ 2 * n + 1 → before_next n held h a < 3 * n + 4
before_most n h a true l = omega arith
before_most n h a false l = omega arith

before_popped : (n h h' a' : ℕ) (held : Bool) → h' < h → before_next n held h' a' < n + 1 + h
before_popped n h h' a' true l = omega arith
before_popped n h h' a' false l = omega arith

-- the top is held, and popped
pub less_popped : (n R k h h' a a' : ℕ) (held : Bool) → h' < h → looks_left n R k held h' a' < looks_left n R k true h a
unfolding looks_left
less_popped n R k h h' a a' held l = omega (arith, before_popped n h h' a' held l)

-- a child that is not held goes on top, and asks a later option
pub less_pushed : (n R k h h' a a' : ℕ) → a < n → a < a' → looks_left n R k false h' a' < looks_left n R k false h a
unfolding looks_left
less_pushed n R k h h' a a' l m = omega arith

-- one task more is known
pub less_settled : (n R k k' h h' a a' : ℕ) (held held' : Bool) → k < k' → k < R → h' ≤ 2 * n + 1
    → looks_left n R k' held' h' a' < looks_left n R k held h a
unfolding looks_left
less_settled n R k k' h h' a a' held held' l m r =
    let one : suc (R - k') ≤ R - k = omega arith in
    omega (arith, mul-le-mul_right (3 * n + 4) one, suc-mul (R - k') (3 * n + 4), before_most n h' a' held' r)
