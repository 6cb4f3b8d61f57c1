-- Tasks by their numbers, over any kind of task, as a run has them in the order in which they came: the first k of them as a list.
use Prim.Native.Nat.{ℕ, zero, suc, ◌<◌}
use mathlib.Core.Path.{◌≡◌, refl, ap, ap₂}
use mathlib.Core.Logic.{⊎_elim}
use mathlib.Core.List.{List, [], ◌∷◌}
use native.Mathlib.Omega.{arith}
use native.Mathlib.Nat.{eq-or-lt_of_le}
use lib.ListN.{length}
use Rattle.counting.proofs.Among.{In, here, there, in-none, in-cases, Distinct, none, more}

-- the newest first
unfoldable pub first : {T : Type 0} → (ℕ → T) → ℕ → List T
first task zero = []
first task (suc k) = task k ∷ first task k

module _ {T : Type 0} (task : ℕ → T) where
  -- one of the first k tasks
  pub record Early (k : ℕ) (p : T) : Type 0 where
    pub number : ℕ
    pub below : number < k
    pub equal : p ≡ task number

  pub first_open : (k : ℕ) (p : T) → In p (first task k) → Early k p
  unfolding first
  first_open zero p m = absurd (in-none m)
  first_open (suc k) p m =
      ⊎_elim (λ e. record { number = k; below = omega arith; equal = e })
      (λ l. let s = first_open k p l in record { number = s.number; below = omega (arith, s.below); equal = s.equal }) (in-cases m)

  pub first_close : (k i : ℕ) → i < k → In (task i) (first task k)
  unfolding first
  first_close zero i l = absurd (omega arith)
  first_close (suc k) i l =
      ⊎_elim (λ (e : i ≡ k). here (ap task e)) (λ (b : i < k). there (first_close k i b)) (eq-or-lt_of_le (omega arith))

  pub first_length : (k : ℕ) → length (first task k) ≡ k
  unfolding first
  first_length zero = refl
  first_length (suc k) = ap suc (first_length k)

  -- where no task stands twice
  pub first_distinct : (k : ℕ) → ((i l : ℕ) → i < k → l < k → task i ≡ task l → i ≡ l) → Distinct (first task k)
  unfolding first
  first_distinct zero single = none
  first_distinct (suc k) single =
      more (λ m.
      let s = first_open k (task k) m in
      let e = single k s.number (omega arith) (omega (arith, s.below)) s.equal in
      absurd (omega (arith, s.below)))
      (first_distinct k (λ i l a b. single i l (omega arith) (omega arith)))

-- two numberings that are the same as far as k
module _ {T : Type 0} (task task' : ℕ → T) where
  pub first_same : (k : ℕ) → ((i : ℕ) → i < k → task' i ≡ task i) → first task' k ≡ first task k
  unfolding first
  first_same zero same = refl
  first_same (suc k) same = ap₂ (λ (p : T) (ps : List T). p ∷ ps) (same k (omega arith)) (first_same k (λ i l. same i (omega arith)))
