-- A run of zeros.
use Prim.Native.Nat.{ℕ, zero, suc}
use mathlib.Core.Path.{◌≡◌, refl}
use lib.ListN.{get_or, replicate}

pub getD_zeros : (n j : ℕ) → ◌≡◌ {A = ℕ} (get_or (replicate n 0) j 0) 0
getD_zeros zero j = refl
getD_zeros (suc n) zero = refl
getD_zeros (suc n) (suc j) = getD_zeros n j
