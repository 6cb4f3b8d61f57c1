-- The value at an entry of a layered array: it is the value at the link that the setting chooses, it looks only at options
-- from the entry's variable on, and putting that option gives the value at the link on that side.
use Prim.Native.Nat.{ℕ, zero, suc, ◌<◌, ◌≤◌}
use mathlib.Core.Path.{◌≡◌, refl, sym, ap, ◌∙◌, fun_ext}
use mathlib.Core.Logic.{⊎_elim}
use mathlib.Core.Bool.{Bool, true, false}
use native.Mathlib.Omega.{arith}
use lib.Dec.{eqb}
use Rattle.bdd.specs.Array.{Entry, Runs, var_of, size, options, root, ordered}
use Rattle.bdd.specs.Value.{Setting, Function, chosen, follow, value_at, value, put, with_option, Of}
pub use Rattle.bdd.specs.Walk.{side}
use Rattle.bdd.proofs.Logic.{le_or_lt}
use Rattle.bdd.proofs.Ordered.{Inner, Layered, ordered_open}
use Rattle.bdd.proofs.Settings.{Ignores, put_at, put_off}

pub side_back : (a : Runs) (b : Bool) (i : ℕ) → Inner a i → side a b i < i
side_back a true i h = h.high
side_back a false i h = h.low

pub side_variable : (a : Runs) (b : Bool) (i : ℕ) → Inner a i → var_of a i < var_of a (side a b i)
side_variable a true i h = h.high_variable
side_variable a false i h = h.low_variable

module _ (a : Runs) (layered : Layered a) where
  pub side_terminal : (b : Bool) (i : ℕ) → i ≤ 1 → i < size a → side a b i ≡ i
  side_terminal true zero l m = ap (λ (e : Entry). e.high) (layered.entry_0 m)
  side_terminal false zero l m = ap (λ (e : Entry). e.low) (layered.entry_0 m)
  side_terminal true (suc zero) l m = ap (λ (e : Entry). e.high) (layered.entry_1 m)
  side_terminal false (suc zero) l m = ap (λ (e : Entry). e.low) (layered.entry_1 m)
  side_terminal b (suc (suc i)) l m = absurd (omega arith)

  follow_terminal : (σ : Setting) (k i : ℕ) → i ≤ 1 → i < size a → follow a σ k i ≡ i
  unfolding follow chosen
  follow_terminal σ zero i l m = refl
  follow_terminal σ (suc k) i l m =
      ap (follow a σ k) (side_terminal (σ (var_of a i)) i l m) ∙ follow_terminal σ k i l m

  -- i links or more from entry i lead to the same end
  follow_enough : (σ : Setting) (k l i : ℕ) → i < size a → i ≤ k → i ≤ l → follow a σ k i ≡ follow a σ l i
  unfolding follow chosen
  follow_enough σ zero l i s p q = sym (follow_terminal σ l i (omega arith) s)
  follow_enough σ (suc k) zero i s p q = follow_terminal σ (suc k) i (omega arith) s
  follow_enough σ (suc k) (suc l) i s p q =
      ⊎_elim
      (λ (t : i ≤ 1). follow_terminal σ (suc k) i t s ∙ sym (follow_terminal σ (suc l) i t s))
      (λ (t : 1 < i).
      let j : ℕ = side a (σ (var_of a i)) i in
      let back : j < i = side_back a (σ (var_of a i)) i (layered.entry_on i t s) in
      follow_enough σ k l j (omega arith) (omega arith) (omega arith))
      (le_or_lt i 1)

  -- following ends in a terminal
  pub follow_ends : (σ : Setting) (k i : ℕ) → i < size a → i ≤ k → follow a σ k i < 2
  unfolding follow chosen
  follow_ends σ zero i s p = omega arith
  follow_ends σ (suc k) i s p =
      ⊎_elim
      (λ (t : i ≤ 1). rw (follow_terminal σ (suc k) i t s) (omega arith))
      (λ (t : 1 < i).
      let j : ℕ = side a (σ (var_of a i)) i in
      let back : j < i = side_back a (σ (var_of a i)) i (layered.entry_on i t s) in
      follow_ends σ k j (omega arith) (omega arith))
      (le_or_lt i 1)

  pub value_0 : (σ : Setting) → value_at a 0 σ ≡ false
  unfolding value_at follow
  value_0 σ = refl

  pub value_1 : (σ : Setting) → 1 < size a → value_at a 1 σ ≡ true
  unfolding value_at
  value_1 σ s = ap (λ (i : ℕ). eqb i 1) (follow_terminal σ 1 1 (omega arith) s)

  pub value_follows : (σ : Setting) (i : ℕ) → 2 ≤ i → i < size a → value_at a i σ ≡ value_at a (chosen a σ i) σ
  unfolding value_at follow chosen
  value_follows σ zero t s = absurd (omega arith)
  value_follows σ (suc i) t s =
      let j : ℕ = side a (σ (var_of a (suc i))) (suc i) in
      let back : j < suc i = side_back a (σ (var_of a (suc i))) (suc i) (layered.entry_on (suc i) t s) in
      ap (λ (i : ℕ). eqb i 1) (follow_enough σ i j j (omega arith) (omega arith) (omega arith))

  -- settings that agree from variable v on lead the same way from an entry whose variable is v or more
  follow_agrees : (σ τ : Setting) (v : ℕ) → ((j : ℕ) → v ≤ j → j < options a → σ j ≡ τ j) → (k i : ℕ) → i < size a → v ≤ var_of a i
      → follow a σ k i ≡ follow a τ k i
  unfolding follow chosen
  follow_agrees σ τ v h zero i s l = refl
  follow_agrees σ τ v h (suc k) i s l =
      ⊎_elim
      (λ (t : i ≤ 1). follow_terminal σ (suc k) i t s ∙ sym (follow_terminal τ (suc k) i t s))
      (λ (t : 1 < i).
      let here = layered.entry_on i t s in
      let j : ℕ = side a (σ (var_of a i)) i in
      let back : j < i = side_back a (σ (var_of a i)) i here in
      let later : var_of a i < var_of a j = side_variable a (σ (var_of a i)) i here in
      follow_agrees σ τ v h k j (omega arith) (omega arith)
      ∙ ap (λ (b : Bool). follow a τ k (side a b i)) (h (var_of a i) l here.variable))
      (le_or_lt i 1)

  pub value_agrees : (i : ℕ) → i < size a → (σ τ : Setting) → ((j : ℕ) → var_of a i ≤ j → j < options a → σ j ≡ τ j)
      → value_at a i σ ≡ value_at a i τ
  unfolding value_at
  value_agrees i s σ τ h = ap (λ (j : ℕ). eqb j 1) (follow_agrees σ τ (var_of a i) h i i s (omega arith))

  pub value_ignores : (i : ℕ) → i < size a → (j : ℕ) → j < var_of a i → Ignores j (value_at a i)
  value_ignores i s j l b = fun_ext (λ σ. value_agrees i s (put j b σ) σ (λ k p q. put_off j b σ k (omega arith)))

  pub value_of : (i : ℕ) → i < size a → Of (options a) (value_at a i)
  value_of i s σ τ h = value_agrees i s σ τ (λ j p q. h j q)

  pub value_side : (b : Bool) (i : ℕ) → 2 ≤ i → i < size a → with_option (var_of a i) b (value_at a i) ≡ value_at a (side a b i)
  unfolding chosen
  value_side b i t s =
      let here = layered.entry_on i t s in
      let v : ℕ = var_of a i in
      let j : ℕ = side a b i in
      let back : j < i = side_back a b i here in
      fun_ext (λ σ.
      value_follows (put v b σ) i t s ∙ ap (λ (c : Bool). value_at a (side a c i) (put v b σ)) (put_at v b σ)
      ∙ ap (λ (f : Function). f σ) (value_ignores j (omega arith) v (side_variable a b i here) b))

pub ordered_value_of : (a : Runs) → ordered a ≡ true → Of (options a) (value a)
unfolding value
ordered_value_of a h =
    let o = ordered_open a h in
    value_of a o.layered (root a) (omega (arith, o.size_least))
