-- The pairs of an entry below a and an entry below b as a list: there are a times b.
use Prim.Native.Nat.{ℕ, zero, suc, ◌*◌, ◌<◌}
use mathlib.Core.Path.{◌≡◌, refl, ap, ap₂}
use mathlib.Core.Logic.{⊎_elim}
use mathlib.Core.List.Memᴰ.{append_left as in_left}
use mathlib.Core.List.Memᴰ.{append_right as in_right}
use mathlib.Core.List.{List, [], ◌∷◌, ◌++◌}
use native.Mathlib.Nat.{eq-or-lt_of_le, le_of_suc-le-suc, suc-mul}
use native.Mathlib.Omega.{arith}
use lib.ListN.{length, length-append}
use Rattle.bdd.specs.Pairs.{Pair, pair}
use Rattle.counting.proofs.Among.{In, here, there}

-- one left entry with each right one
row : ℕ → ℕ → List Pair
row l zero = []
row l (suc b) = pair l b ∷ row l b

pub grid : ℕ → ℕ → List Pair
grid zero b = []
grid (suc a) b = row a b ++ grid a b

row_length : (l b : ℕ) → length (row l b) ≡ b
unfolding row
row_length l zero = refl
row_length l (suc b) = ap suc (row_length l b)

pub grid_length : (a b : ℕ) → length (grid a b) ≡ a * b
unfolding grid
grid_length zero b = omega arith
grid_length (suc a) b = rw length-append (omega (arith, row_length a b, grid_length a b, suc-mul a b))

in_row : (p : Pair) (a b : ℕ) → p.left ≡ a → p.right < b → In p (row a b)
unfolding row
in_row p a zero l r = absurd (omega arith)
in_row p a (suc b) l r =
    ⊎_elim (λ e. here (ap₂ pair l e)) (λ h. there (in_row p a b l h)) (eq-or-lt_of_le (le_of_suc-le-suc r))

pub in_grid : (p : Pair) (a b : ℕ) → p.left < a → p.right < b → In p (grid a b)
unfolding grid
in_grid p zero b l r = absurd (omega arith)
in_grid p (suc a) b l r =
    ⊎_elim (λ e. in_left (grid a b) (in_row p a b e r)) (λ h. in_right (row a b) (in_grid p a b h r)) (eq-or-lt_of_le (le_of_suc-le-suc l))
