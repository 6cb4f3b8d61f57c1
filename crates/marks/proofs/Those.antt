-- The options below a bound that have a property, the greatest first: which is the first, what is left without one, and how many they are.
use Rattle.std.specs.Prelude.{None, Some}
use Prim.Native.Nat.{ℕ, zero, suc, ◌+◌, ◌-◌, ◌≤◌, ◌<◌}
use mathlib.Core.Path.{◌≡◌, refl, sym, ap, ◌∙◌}
use mathlib.Core.Bool.{Bool, true, false, cond, not, ◌&&◌, ◌||◌}
use mathlib.Core.List.{List, [], ◌∷◌}
use native.Mathlib.Omega.{arith}
use lib.ListN.{length}
use lib.Dec.{eqb}
use borrow.Author.Tests.{eqb-true, eqb-false, eq-eqb, ne_eqb}
use Rattle.marks.specs.Marking.{those_below, without, first_of}

pub same_below : (k : ℕ) (p q : ℕ → Bool) → ((u : ℕ) → u < k → p u ≡ q u) → those_below k p ≡ those_below k q
unfolding those_below
same_below zero p q h = refl
same_below (suc k) p q h = rw (h k (omega arith), same_below k p q (λ u l. h u (omega arith)))

-- from n on none has it
pub none_above : (d n k : ℕ) (p : ℕ → Bool) → d + n ≡ k → ((u : ℕ) → n ≤ u → u < k → p u ≡ false) → those_below k p ≡ those_below n p
unfolding those_below
none_above zero n k p e h = let s : k ≡ n = omega arith in ap (λ (j : ℕ). those_below j p) s
none_above (suc d) n zero p e h = absurd (omega arith)
none_above (suc d) n (suc k) p e h = rw (h k (omega arith) (omega arith)) (none_above d n k p (omega arith) (λ u l m. h u l (omega arith)))

-- the greatest is the first
pub greatest_is : (k v : ℕ) (p : ℕ → Bool) → v < k → p v ≡ true → ((u : ℕ) → suc v ≤ u → u < k → p u ≡ false) → those_below k p ≡ v ∷ those_below v p
unfolding those_below
greatest_is k v p l e h =
    none_above (k - suc v) (suc v) k p (omega arith) h ∙ ap (λ (b : Bool). cond b (v ∷ those_below v p) (those_below v p)) e

-- ---- one less, one more

abbrev less : ℕ → (ℕ → Bool) → ℕ → Bool
less v p u = not (eqb v u) && p u

abbrev more : ℕ → (ℕ → Bool) → ℕ → Bool
more v p u = eqb v u || p u

pub one_less : (k v : ℕ) (p : ℕ → Bool) → those_below k (λ u. not (eqb v u) && p u) ≡ without v (those_below k p)
unfolding those_below without
one_less zero v p = refl
one_less (suc k) v p = at (p k) (eqb v k) refl (one_less k v p)
  where
    at : (b e : Bool) → eqb v k ≡ e → those_below k (less v p) ≡ without v (those_below k p)
        → cond (not e && b) (k ∷ those_below k (less v p)) (those_below k (less v p)) ≡ without v (cond b (k ∷ those_below k p) (those_below k p))
    at false true q h = h
    at false false q h = h
    at true true q h =
        rw q (same_below k (less v p) p (λ u l. ap (λ (b : Bool). not b && p u) (ne_eqb v u (λ r. let s : v ≡ k = eqb-true v k q in omega arith))))
    at true false q h = rw (q, h)

pub one_more : (k v : ℕ) (p : ℕ → Bool) → v < k → p v ≡ false → length (those_below k (λ u. eqb v u || p u)) ≡ suc (length (those_below k p))
unfolding those_below
one_more zero v p l e = absurd (omega arith)
one_more (suc k) v p l e = at (p k) (eqb v k) refl refl (one_more k v p)
  where
    at : (b t : Bool) → p k ≡ b → eqb v k ≡ t → (v < k → p v ≡ false → length (those_below k (more v p)) ≡ suc (length (those_below k p)))
        → length (cond (t || b) (k ∷ those_below k (more v p)) (those_below k (more v p))) ≡ suc (length (cond b (k ∷ those_below k p) (those_below k p)))
    at true true r q h = let s : v ≡ k = eqb-true v k q in absurd (let z : true ≡ false = sym r ∙ ap p (sym s) ∙ e in let o : ◌≡◌ {A = ℕ} 0 1 = cc in omega arith)
    at false true r q h =
        let s : v ≡ k = eqb-true v k q in
        ap (λ (xs : List ℕ). suc (length xs)) (same_below k (more v p) p (λ u m. ap (λ (b : Bool). b || p u) (ne_eqb v u (λ o. omega arith))))
    at true false r q h = let n : v ≡ k → ⊥ = eqb-false v k q in ap suc (h (omega arith) e)
    at false false r q h = let n : v ≡ k → ⊥ = eqb-false v k q in h (omega arith) e

-- ---- for whoever takes the greatest, one after another

pub nothing_left : (vs : List ℕ) → first_of vs ≡ None → vs ≡ []
nothing_left [] e = refl
nothing_left (v ∷ vs) e = absurd (let z : ◌≡◌ {A = ℕ} 0 1 = cc in omega arith)

-- the greatest, and the others
pub first_and_rest : (v : ℕ) (vs : List ℕ) → first_of vs ≡ Some v → vs ≡ v ∷ without v vs
unfolding without
first_and_rest v [] e = absurd (let z : ◌≡◌ {A = ℕ} 0 1 = cc in omega arith)
first_and_rest v (w ∷ vs) e = let s : w ≡ v = cc in rw (s, same v)
  where
    same : (v : ℕ) → eqb v v ≡ true
    same v = eq-eqb v v refl
