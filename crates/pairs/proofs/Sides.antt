-- One side of a pair, said once for the left set and the right: what its value can be where the table reads its entry, and
-- where the entry moves when an option is asked that is no greater than its variable.
use Prim.Native.Nat.{ℕ, zero, suc, ◌<◌, ◌≤◌, min}
use mathlib.Core.Path.{◌≡◌, refl, sym, ap, ◌∙◌}
use mathlib.Core.Logic.{inl, inr}
use mathlib.Core.Bool.{Bool, true, false, cond}
use native.Mathlib.Omega.{arith}
use lib.Dec.{eqb}
use borrow.Author.Tests.{eqb-true, eqb-false}
use Rattle.bdd.specs.Array.{Entry, Runs, var_of, size, options}
use Rattle.bdd.specs.Value.{Setting, value_at, with_option}
use Rattle.bdd.specs.Jobs.{digit}
use Rattle.bdd.specs.Pairs.{moved}
use Rattle.bdd.specs.Lent.{Flip}
use Rattle.bdd.proofs.Ordered.{Layered}
use Rattle.bdd.proofs.Following.{side, side_back, side_variable, value_0, value_1, value_side, value_ignores}
use Rattle.op_function.proofs.Tables.{Fills}
use Rattle.pairs.proofs.Flips.{swapped}

digit_most : (b : Bool) → digit b < 2
digit_most true = omega arith
digit_most false = omega arith

module _ (a : Runs) (layered : Layered a) where
  terminal_variable : 1 < size a → var_of a 1 ≡ options a
  terminal_variable s = ap (λ (e : Entry). e.variable) (layered.entry_1 s)

  -- an entry whose variable is an option is no terminal
  no_terminal : (i : ℕ) → i < size a → var_of a i < options a → 2 ≤ i
  no_terminal zero s l = absurd (omega arith)
  no_terminal (suc zero) s l = absurd (omega (arith, terminal_variable s))
  no_terminal (suc (suc i)) s l = omega arith

  pub variable_most : (i : ℕ) → i < size a → var_of a i ≤ options a
  variable_most zero s = omega arith
  variable_most (suc zero) s = omega (arith, terminal_variable s)
  variable_most (suc (suc i)) s = omega (arith, (layered.entry_on (suc (suc i)) (omega arith) s).variable)

  -- the table reads the value at the entry, or that it is not yet known
  pub value_fills : (i : ℕ) → i < size a → (σ : Setting) → Fills (min i 2) (digit (value_at a i σ))
  value_fills zero s σ = rw (value_0 a layered σ) (inl (omega arith))
  value_fills (suc zero) s σ = rw (value_1 a layered σ s) (inl (omega arith))
  value_fills (suc (suc i)) s σ = inr (omega arith, digit_most (value_at a (suc (suc i)) σ))

-- option v can be asked at entry i of an ordered set: the entry's own variable is no smaller
pub record Moves (v : ℕ) (a : Runs) (i : ℕ) : Type 0 where
  pub layered : Layered a
  pub within : i < size a
  pub option : v < options a
  pub first : v ≤ var_of a i

module _ {v : ℕ} {a : Runs} {i : ℕ} (h : Moves v a i) (f : Flip) (b : Bool) where
  -- the entry has variable v and moves to its link on the swapped side, or its variable is greater and it stays
  by_variable : (P : ℕ → Type 0) → (2 ≤ i → v ≡ var_of a i → P (side a (swapped f v b) i)) → (v < var_of a i → P i)
      → P (moved a f v b i)
  unfolding moved
  by_variable P moves stays = at (eqb (var_of a i) v) refl
    where
      at : (t : Bool) → eqb (var_of a i) v ≡ t → P (cond t (side a (swapped f v b) i) i)
      at true e = let q = eqb-true (var_of a i) v e in moves (no_terminal a h.layered i h.within (omega arith)) (sym q)
      at false e = let q = eqb-false (var_of a i) v e in stays (omega arith)

  pub moved_within : moved a f v b i < size a
  moved_within =
      by_variable (λ k. k < size a)
      (λ t q. omega (arith, side_back a (swapped f v b) i (h.layered.entry_on i t h.within))) (λ q. h.within)

  -- what is asked after the move is greater
  pub moved_later : v < var_of a (moved a f v b i)
  moved_later =
      by_variable (λ k. v < var_of a k)
      (λ t q. omega (arith, side_variable a (swapped f v b) i (h.layered.entry_on i t h.within))) (λ q. q)

  -- the value with the option put on the swapped side is the value where the entry moves
  pub moved_value : with_option v (swapped f v b) (value_at a i) ≡ value_at a (moved a f v b i)
  moved_value =
      by_variable (λ k. with_option v (swapped f v b) (value_at a i) ≡ value_at a k)
      (λ t q.
      ap (λ (w : ℕ). with_option w (swapped f v b) (value_at a i)) q
      ∙ value_side a h.layered (swapped f v b) i t h.within)
      (λ q. value_ignores a h.layered i h.within v q (swapped f v b))
