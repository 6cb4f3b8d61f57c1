-- Laws of tests: both halves of an `&&`, a test at every number below a count, entries that are the same.
--
use Prim.Native.Nat.{ℕ, zero, suc, ◌<◌, ◌≤◌}
use mathlib.Core.Path.{◌≡◌, refl, ap, ◌∙◌}
use mathlib.Core.Logic.{◌⊎◌, inl, inr, ⊎_elim}
use mathlib.Core.Bool.{Bool, true, false, ◌&&◌, false≢true}
use native.Mathlib.Omega.{arith}
use native.Mathlib.Nat.{not-suc-le-zero, eq-or-lt_of_le, le_of_suc-le-suc}
use lib.Dec.{eqb, leb}
use borrow.Author.Tests.{eqb-true, eq-eqb, leb-true, leb-false}
use Rattle.bdd.specs.Array.{Entry, every, same_entry}

pub and_left : (a b : Bool) → (a && b) ≡ true → a ≡ true
and_left true b e = refl
and_left false b e = e

pub and_right : (a b : Bool) → (a && b) ≡ true → b ≡ true
and_right true b e = e
and_right false b e = absurd (false≢true e)

pub and_both : (a b : Bool) → a ≡ true → b ≡ true → (a && b) ≡ true
and_both true b p q = q
and_both false b p q = p

-- a test that cannot pass is false
pub is_false : (b : Bool) → (b ≡ true → ⊥) → false ≡ b
is_false true h = absurd (h refl)
is_false false h = refl

pub every_at : (k : ℕ) (test : ℕ → Bool) → every k test ≡ true → (i : ℕ) → i < k → test i ≡ true
unfolding every
every_at zero test e i l = absurd (not-suc-le-zero l)
every_at (suc k) test e i l =
    ⊎_elim (λ (p : i ≡ k). ap test p ∙ and_right (every k test) (test k) e)
    (λ (p : i < k). every_at k test (and_left (every k test) (test k) e) i p)
    (eq-or-lt_of_le (le_of_suc-le-suc l))

pub every_of : (k : ℕ) (test : ℕ → Bool) → ((i : ℕ) → i < k → test i ≡ true) → every k test ≡ true
unfolding every
every_of zero test h = refl
every_of (suc k) test h =
    and_both (every k test) (test k) (every_of k test (λ i l. h i (omega arith))) (h k (omega arith))

pub same_entry_path : (d e : Entry) → same_entry d e ≡ true → d ≡ e
unfolding same_entry
same_entry_path d e h =
    let two = and_left (eqb d.variable e.variable && eqb d.low e.low) (eqb d.high e.high) h in
    let v = eqb-true d.variable e.variable (and_left (eqb d.variable e.variable) (eqb d.low e.low) two) in
    let l = eqb-true d.low e.low (and_right (eqb d.variable e.variable) (eqb d.low e.low) two) in
    let u =
    eqb-true d.high e.high
    (and_right (eqb d.variable e.variable && eqb d.low e.low) (eqb d.high e.high) h) in
    λ i. record { variable = v i; low = l i; high = u i }

pub same_entry_of : (d e : Entry) → d ≡ e → same_entry d e ≡ true
unfolding same_entry
same_entry_of d e p =
    and_both (eqb d.variable e.variable && eqb d.low e.low) (eqb d.high e.high)
    (and_both (eqb d.variable e.variable) (eqb d.low e.low)
    (eq-eqb d.variable e.variable (ap (λ (x : Entry). x.variable) p))
    (eq-eqb d.low e.low (ap (λ (x : Entry). x.low) p)))
    (eq-eqb d.high e.high (ap (λ (x : Entry). x.high) p))

pub le_or_lt : (i k : ℕ) → (i ≤ k) ⊎ (k < i)
le_or_lt i k = at (leb i k) refl
  where
    at : (t : Bool) → leb i k ≡ t → (i ≤ k) ⊎ (k < i)
    at true e = inl (leb-true i k e)
    at false e = inr (leb-false i k e)
