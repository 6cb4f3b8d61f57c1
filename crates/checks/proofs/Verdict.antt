-- What the ordered check answers, from the facts of the array, and what its answer tells of the array.
use Rattle.std.specs.Prelude.{None, Some, Option, ℕ}
use Prim.Native.Nat.{ℕ, zero, suc, ◌<◌, ◌≤◌}
use mathlib.Core.Path.{◌≡◌, refl, sym, ap, ◌∙◌}
use mathlib.Core.Bool.{Bool, true, false, true≢false, ◌&&◌}
use lib.Dec.{ltb}
use native.Mathlib.Omega.{arith}
use Rattle.bdd.specs.Array.{Entry, Runs, size, var_of, low_link_of, high_link_of, options, inner, placed, ordered}
use borrow.Author.Tests.{ltb-true, lt-ltb}
use Rattle.bdd.proofs.Logic.{and_left, and_right, and_both, is_false, same_entry_path}
use Rattle.bdd.proofs.Verdicts.{says_yes, says_no, told_yes, told_no, told_as}
use Rattle.bdd.proofs.Ordered as order
use Rattle.checks.specs.Checked.{checked_order, Behind}

pub not_ordered : (a : Runs) → (order.Ordered a → ⊥) → None ≡ checked_order a
not_ordered a h = says_no (ordered a) (Some (options a)) None (λ e. h (order.ordered_open a e))

pub misplaced : (a : Runs) (i : ℕ) → i < size a → placed a i ≡ false → None ≡ checked_order a
misplaced a i l e = not_ordered a (λ h. true≢false (sym (order.placed_close a h.layered i l) ∙ e))

pub is_ordered : (a : Runs) → ordered a ≡ true → Some (options a) ≡ checked_order a
is_ordered a e = says_yes (ordered a) (Some (options a)) None e

clash : {r : (Option ℕ)} {n : ℕ} → r ≡ Some n → r ≡ None → ⊥
clash p q = let z : ◌≡◌ {A = ℕ} 0 1 = cc in omega arith

-- what the ordered check tells of the set
pub told_not_ordered : (a : Runs) {r : (Option ℕ)} → r ≡ checked_order a → r ≡ None → ordered a ≡ false
told_not_ordered a p q = told_no (ordered a) (Some (options a)) None p (λ z. clash z q)

pub told_ordered : (a : Runs) {r : (Option ℕ)} (n : ℕ) → r ≡ checked_order a → r ≡ Some n → ordered a ≡ true
told_ordered a n p q = told_yes (ordered a) (Some (options a)) None p (λ z. clash q z)

-- and over how many options it is
pub told_options : (a : Runs) {r : (Option ℕ)} (n : ℕ) → r ≡ checked_order a → r ≡ Some n → n ≡ options a
told_options a {r} n p q =
    let told : r ≡ Some (options a) = told_as (ordered a) (Some (options a)) None p (told_ordered a n p q) in
    cc

-- the variable of an entry in its place is at most n
variable_most : (a : Runs) (k : ℕ) → placed a k ≡ true → var_of a k ≤ options a
unfolding placed
variable_most a zero e = omega arith
variable_most a (suc zero) e = omega (arith, ap (λ (x : Entry). x.variable) (same_entry_path _ _ e))
variable_most a (suc (suc k)) e = omega (arith, (order.inner_open a (suc (suc k)) e).variable)

-- so an entry behind such entries, whose links go back to entries with a greater variable, is in its place
pub inner_behind : (a : Runs) (i : ℕ) → Behind a i
    → (low_link_of a i < i) × (high_link_of a i < i) × (var_of a i < var_of a (low_link_of a i)) × (var_of a i < var_of a (high_link_of a i)) → inner a i ≡ true
inner_behind a i behind h = order.inner_close a i (omega (arith, variable_most a (low_link_of a i) (behind (low_link_of a i) h.0)))

both_ways : (p q : Bool) → (p ≡ true → q ≡ true) → (q ≡ true → p ≡ true) → p ≡ q
both_ways p true f g = g refl
both_ways p false f g = sym (is_false p f')
  where
    f' : p ≡ true → ⊥
    f' e = true≢false (sym (f e))

-- the test that is left of an entry behind such entries
pub inner_test : (a : Runs) (i : ℕ) → Behind a i
    → inner a i ≡ (ltb (low_link_of a i) i && ltb (high_link_of a i) i && ltb (var_of a i) (var_of a (low_link_of a i)) && ltb (var_of a i) (var_of a (high_link_of a i)))
inner_test a i behind =
    both_ways _ _
    (λ e. let h = order.inner_open a i e in and_both _ _ (and_both _ _ (and_both _ _ (lt-ltb _ _ h.low) (lt-ltb _ _ h.high)) (lt-ltb _ _ h.low_variable)) (lt-ltb _ _ h.high_variable))
    (λ e.
    let three = and_left _ _ e in
    let two = and_left _ _ three in
    inner_behind a i behind (ltb-true _ _ (and_left _ _ two), ltb-true _ _ (and_right _ _ two), ltb-true _ _ (and_right _ _ three), ltb-true _ _ (and_right _ _ e)))
