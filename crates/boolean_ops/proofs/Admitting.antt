-- The checks before an operator, in the order of the refusals: what each tells, once those before it have passed.
use Prim.Native.Nat.{ℕ, ◌+◌, ◌*◌, ◌<◌, ◌≤◌}
use mathlib.Core.Path.{◌≡◌, refl, sym, subst, ◌∙◌}
use lib.Dec.{eqb}
use mathlib.Core.Bool.{Bool, true, false, ◌||◌}
use borrow.Author.Tests.{eq-eqb, ne_eqb, lt-ltb, le-ltb}
use Rattle.bdd.specs.Array.{options, ordered}
use Rattle.bdd.specs.Answers.{Checks}
use Rattle.bdd.specs.Lent.{Flip}
use Rattle.bdd.specs.Operations.{beyond, job_checks}
use Rattle.bdd.specs.Pairs.{Job}
use Rattle.bdd.specs.Table.{good}
use Rattle.bdd.specs.declared.Refusal.TheVariants.{BadTable, LeftNotOrdered, RightNotOrdered, CountsDiffer, NoSuchOption, ShortRun}
use Rattle.bdd.proofs.Refusing.{first_in_list}
use Rattle.boolean_ops.specs.Pieces.{Passes, Stops}

module _ (j : Job) (out : Flip) (places : ℕ) where
  abbrev checks : Checks
  checks = job_checks j out places

  abbrev n : ℕ
  n = options j.left

  abbrev far : ℕ → Bool
  far m = beyond m j.flip_left || beyond m j.flip_right || beyond m out

  pub bad_table : good 2 j.table ≡ false → Stops checks BadTable
  unfolding first_in_list
  bad_table e = record { first = rw e; keeps = refl }

  module _ (table : good 2 j.table ≡ true) where
    pub left_bad : ordered j.left ≡ false → Stops checks LeftNotOrdered
    unfolding first_in_list
    left_bad e = record { first = rw (table, e); keeps = refl }

    -- the left set is over m options
    module _ (left : ordered j.left ≡ true) {m : ℕ} (m-is : m ≡ n) where
      pub right_bad : ordered j.right ≡ false → Stops checks RightNotOrdered
      unfolding first_in_list
      right_bad e = record { first = rw (table, left, e); keeps = refl }

      -- and the right one over k
      module _ (right : ordered j.right ≡ true) {k : ℕ} (k-is : k ≡ options j.right) where
        pub counts_differ : (m ≡ k → ⊥) → Stops checks CountsDiffer
        unfolding first_in_list
        counts_differ h = record { first = rw (table, left, right, ne_eqb _ _ (λ e. h (m-is ∙ e ∙ sym k-is))); keeps = refl }

        module _ (same : m ≡ k) where
          counted : eqb n (options j.right) ≡ true
          counted = eq-eqb _ _ (sym m-is ∙ same ∙ k-is)

          pub no_such_option : far m ≡ true → Stops checks NoSuchOption
          unfolding first_in_list
          no_such_option e =
              record { first = rw (table, left, right, counted, subst (λ (x : ℕ). far x ≡ true) m-is e); keeps = refl }

          module _ (near : far m ≡ false) where
            near_n : far n ≡ false
            near_n = subst (λ (x : ℕ). far x ≡ false) m-is near

            pub stack_too_short : places < 2 * m + 1 → Stops checks ShortRun
            unfolding first_in_list
            stack_too_short e =
                record { first = rw (table, left, right, counted, near_n, lt-ltb _ _ (subst (λ (x : ℕ). places < 2 * x + 1) m-is e)); keeps = refl }

            pub all_pass : 2 * m + 1 ≤ places → Passes checks n m
            unfolding first_in_list
            all_pass e =
                record { options = m-is; clean = rw (table, left, right, counted, near_n, le-ltb _ _ (subst (λ (x : ℕ). 2 * x + 1 ≤ places) m-is e)) }
