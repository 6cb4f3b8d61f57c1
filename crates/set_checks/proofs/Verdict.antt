-- What the tidy and the signing order check answer, from the facts of the array, and what a tidy answer tells of the array.
use Rattle.std.specs.Prelude.{None, Some, Option, ℕ}
use Prim.Native.Nat.{ℕ}
use mathlib.Core.Path.{◌≡◌, ap, ◌∙◌}
use native.Mathlib.Omega.{arith}
use Rattle.bdd.specs.Array.{Runs, options, tidy}
use Rattle.bdd.specs.Signed.{high_first, in_signing_order}
use Rattle.bdd.proofs.Verdicts.{says_yes, says_no, told_yes, told_as}
use Rattle.bdd.proofs.Reduction as reduction
use Rattle.bdd.proofs.Converse.{IsInOrder, in_order_open, in_order_close}
use Rattle.set_checks.specs.Checked.{checked_tidy, checked_signing}

pub not_tidy : (a : Runs) → (reduction.Tidy a → ⊥) → None ≡ checked_tidy a
not_tidy a h = says_no (tidy a) (Some (options a)) None (λ e. h (reduction.tidy_open a e))

clash : {r : Option ℕ} {n : ℕ} → r ≡ Some n → r ≡ None → ⊥
clash p q = let z : ◌≡◌ {A = ℕ} 0 1 = cc in omega arith

pub told_not_tidy : (a : Runs) {r : Option ℕ} → r ≡ checked_tidy a → r ≡ None → reduction.Tidy a → ⊥
told_not_tidy a {r} p q h = clash (told_as (tidy a) (Some (options a)) None p (reduction.tidy_close a h)) q

pub told_tidy : (a : Runs) {r : Option ℕ} (n : ℕ) → r ≡ checked_tidy a → r ≡ Some n → reduction.Tidy a
told_tidy a n p q = reduction.tidy_open a (told_yes (tidy a) (Some (options a)) None p (λ z. clash q z))

-- and over how many options it is
pub told_options : (a : Runs) {r : Option ℕ} (n : ℕ) → r ≡ checked_tidy a → r ≡ Some n → n ≡ options a
told_options a {r} n p q =
    let told : r ≡ Some (options a) =
    told_as (tidy a) (Some (options a)) None p (reduction.tidy_close a (told_tidy a n p q)) in
    cc

pub out_of_order : (a : Runs) → (IsInOrder high_first a → ⊥) → None ≡ checked_signing a
out_of_order a h = says_no (in_signing_order a) (Some (options a)) None (λ e. h (in_order_open high_first a e))

pub is_in_order : (a : Runs) {n : ℕ} → n ≡ options a → IsInOrder high_first a → Some n ≡ checked_signing a
is_in_order a p h =
    ap Some p ∙ says_yes (in_signing_order a) (Some (options a)) None (in_order_close high_first a h)
