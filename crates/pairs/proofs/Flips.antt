-- Flips: how putting an option passes them, and that they keep to the options of a setting.
use Rattle.std.specs.Prelude.{None, Some}
use Prim.Native.Nat.{ℕ, ◌<◌}
use mathlib.Core.Path.{◌≡◌, refl, sym, ap}
use mathlib.Core.Bool.{Bool, true, false, cond, not}
use lib.Dec.{eqb}
use borrow.Author.Tests.{eqb-true, eqb-false}
use Rattle.bdd.specs.Value.{Setting, put}
use Rattle.bdd.specs.Jobs.{switched}
use Rattle.bdd.specs.Pairs.{flipped}
use Rattle.bdd.specs.Lent.{Flip}
use Rattle.bdd.proofs.Settings.{put_same, put_other, put_at, put_off}

-- the side that a flip makes of side b of option v
abbrev pub swapped : Flip → ℕ → Bool → Bool
swapped f v b = cond (flipped f v) (not b) b

-- to put an option and then flip is to flip and then put the swapped side
pub switched_put : (f : Flip) (v : ℕ) (b : Bool) (σ : Setting) → switched f (put v b σ) ≡ put v (swapped f v b) (switched f σ)
unfolding switched flipped
switched_put None v b σ = refl
switched_put (Some w) v b σ = at (eqb w v) refl
  where
    at : (t : Bool) → eqb w v ≡ t
        → put w (not (put v b σ w)) (put v b σ) ≡ put v (cond t (not b) b) (put w (not (σ w)) σ)
    at true e =
        let p = eqb-true w v e in
        rw (p, put_at v b σ, put_same v (not b) b σ) (sym (put_same v (not b) (not (σ v)) σ))
    at false e =
        let ne = eqb-false w v e in
        rw (put_off v b σ w ne) (put_other w v (not (σ w)) b σ ne)

-- settings that agree on n options agree on them after a flip
pub switched_agree : (f : Flip) (n : ℕ) (σ τ : Setting) → ((i : ℕ) → i < n → σ i ≡ τ i)
    → (i : ℕ) → i < n → switched f σ i ≡ switched f τ i
unfolding switched put
switched_agree None n σ τ h i l = h i l
switched_agree (Some w) n σ τ h i l = at (eqb i w) refl
  where
    at : (t : Bool) → eqb i w ≡ t → cond t (not (σ w)) (σ i) ≡ cond t (not (τ w)) (τ i)
    at true e = rw (← eqb-true i w e) (ap not (h i l))
    at false e = h i l
