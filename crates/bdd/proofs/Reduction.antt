-- The rest of tidy as facts: an entry from 2 on has two links, and is none of those before it.
use Prim.Native.Nat.{ℕ, zero, suc, ◌<◌, ◌≤◌}
use mathlib.Core.Path.{◌≡◌, refl, sym, ap, ◌∙◌}
use mathlib.Core.Logic.{◌≢◌}
use mathlib.Core.Bool.{Bool, true, not, ◌&&◌, false≢true}
use native.Mathlib.Omega.{arith}
use borrow.Author.Tests.{eqb-true, eq-eqb, not-true}
use Rattle.bdd.specs.Array.{Runs, low_link_of, high_link_of, entry_of, size, every, decides, differs, single, tidy, ordered}
use Rattle.bdd.proofs.Logic.{is_false, and_left, and_right, and_both, every_at, every_of, same_entry_path, same_entry_of}
use Rattle.bdd.proofs.Ordered.{Ordered, ordered_open, ordered_close}

-- of entry i, from 2 on
pub record Reduced (a : Runs) (i : ℕ) : Type 0 where
  pub links : low_link_of a i ≢ high_link_of a i
  pub single : (j : ℕ) → 2 ≤ j → j < i → entry_of a j ≢ entry_of a i

pub record Tidy (a : Runs) : Type 0 where
  pub ordered : Ordered a
  pub reduced : (i : ℕ) → 2 ≤ i → i < size a → Reduced a i

not_open : (t : Bool) {A : Type 0} → not t ≡ true → (A → t ≡ true) → A → ⊥
not_open t e h x = false≢true (sym (not-true t e) ∙ h x)

not_close : (t : Bool) → (t ≡ true → ⊥) → not t ≡ true
not_close t h = ap not (sym (is_false t h))

-- the two tests of an entry
pub reduced_at : (a : Runs) (i : ℕ) → 2 ≤ i → (decides a i && single a i) ≡ true → Reduced a i
unfolding decides single differs
reduced_at a i k e =
    record {
      links = links i k (and_left (decides a i) (single a i) e);
      single = λ j p q. at j p (every_at i (differs a i) (and_right (decides a i) (single a i) e) j q);
    }
  where
    links : (i : ℕ) → 2 ≤ i → decides a i ≡ true → low_link_of a i ≢ high_link_of a i
    links zero k e = absurd (omega arith)
    links (suc zero) k e = absurd (omega arith)
    links (suc (suc i)) k e = not_open _ e (eq-eqb _ _)

    at : (j : ℕ) → 2 ≤ j → differs a i j ≡ true → entry_of a j ≢ entry_of a i
    at zero p e = absurd (omega arith)
    at (suc zero) p e = absurd (omega arith)
    at (suc (suc j)) p e = not_open _ e (same_entry_of _ _)

decides_of : (a : Runs) (i : ℕ) → (2 ≤ i → Reduced a i) → decides a i ≡ true
unfolding decides
decides_of a zero h = refl
decides_of a (suc zero) h = refl
decides_of a (suc (suc i)) h = not_close _ (λ e. (h (omega arith)).links (eqb-true _ _ e))

single_of : (a : Runs) (i : ℕ) → (2 ≤ i → Reduced a i) → single a i ≡ true
unfolding single differs
single_of a i h = every_of i (differs a i) at
  where
    at : (j : ℕ) → j < i → differs a i j ≡ true
    at zero m = refl
    at (suc zero) m = refl
    at (suc (suc j)) m = not_close _ (λ e. (h (omega arith)).single (suc (suc j)) (omega arith) m (same_entry_path _ _ e))

pub reduced_of : (a : Runs) (i : ℕ) → Reduced a i → (decides a i && single a i) ≡ true
reduced_of a i h = and_both _ _ (decides_of a i (λ t. h)) (single_of a i (λ t. h))

pub decides_close : (a : Runs) → ((i : ℕ) → 2 ≤ i → i < size a → Reduced a i) → every (size a) (decides a) ≡ true
decides_close a h = every_of (size a) (decides a) (λ i l. decides_of a i (λ t. h i t l))

pub single_close : (a : Runs) → ((i : ℕ) → 2 ≤ i → i < size a → Reduced a i) → every (size a) (single a) ≡ true
single_close a h = every_of (size a) (single a) (λ i l. single_of a i (λ t. h i t l))

pub tidy_open : (a : Runs) → tidy a ≡ true → Tidy a
unfolding tidy
tidy_open a e =
    let o = ordered a in
    let d = every (size a) (decides a) in
    let s = every (size a) (single a) in
    record {
      ordered = ordered_open a (and_left o d (and_left (o && d) s e));
      reduced = λ i k l.
          reduced_at a i k
          (and_both _ _ (every_at (size a) (decides a) (and_right o d (and_left (o && d) s e)) i l)
          (every_at (size a) (single a) (and_right (o && d) s e) i l));
    }

pub tidy_close : (a : Runs) → Tidy a → tidy a ≡ true
unfolding tidy
tidy_close a h =
    and_both _ _ (and_both _ _ (ordered_close a h.ordered) (decides_close a h.reduced)) (single_close a h.reduced)
