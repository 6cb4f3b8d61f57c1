-- What a look at an entry that waits finds: its links by the value of its option, and whether they have their answers.
use Rattle.std.specs.Prelude.{ℕ}
use Rattle.std.proofs.Common.{◌≡◌, ℕ, zero, suc, ◌<◌, Bool, true, false, cond, eqb, List, [], ◌∷◌, length, get_or, refl, ap, arith, ne_eqb}
use Rattle.bdd.specs.Array.{Runs, var_of, low_link_of, high_link_of}
use Rattle.bdd.specs.Jobs.{fixed}
use Rattle.restriction.specs.Entries.{stands_as, followed}
use Rattle.restriction.specs.Exploring.{Leads}

-- what stands past a list's end does not matter within it
getD_within : (xs : List ℕ) (i d e : ℕ) → i < length xs → get_or xs i d ≡ get_or xs i e
getD_within [] i d e l = absurd (omega arith)
getD_within (x ∷ xs) zero d e l = refl
getD_within (x ∷ xs) (suc i) d e l = getD_within xs i d e (omega arith)

module _ (a : Runs) (values : List ℕ) (i : ℕ) (l : var_of a i < length values) where
  abbrev v : ℕ
  v = var_of a i

  stands : (b : Bool) → stands_as values v b ≡ cond (eqb (get_or values v 0) 2) b (eqb (get_or values v 0) 1)
  unfolding fixed
  stands b = ap (λ (x : ℕ). cond (eqb x 2) b (eqb x 1)) (getD_within values v 2 0 l)

  pub leads_free : get_or values v 0 ≡ 2 → Leads a values i (record { variable = v; low = low_link_of a i; high = high_link_of a i })
  unfolding followed
  leads_free e = record { ask = refl; low = rw (stands false, e); high = rw (stands true, e) }

  pub leads_on : get_or values v 0 ≡ 1 → Leads a values i (record { variable = v; low = high_link_of a i; high = high_link_of a i })
  unfolding followed
  leads_on e = record { ask = refl; low = rw (stands false, e); high = rw (stands true, e) }

  pub leads_off : (get_or values v 0 ≡ 2 → ⊥) → (get_or values v 0 ≡ 1 → ⊥)
      → Leads a values i (record { variable = v; low = low_link_of a i; high = low_link_of a i })
  unfolding followed
  leads_off f e = record { ask = refl; low = rw (stands false, ne_eqb _ _ f, ne_eqb _ _ e); high = rw (stands true, ne_eqb _ _ f, ne_eqb _ _ e) }
