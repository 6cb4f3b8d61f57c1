-- The entries of an ordered set as the tasks of an exploration, where some options are fixed: a fixed option has both children at the
-- chosen link.
use Rattle.std.specs.Prelude.{◌≡◌, ℕ, zero, suc, ◌<◌, ◌≤◌, min, Bool, true, false, cond, List, ◌==◌, nat_eq, slice_index_or}
use Rattle.std.proofs.Math.Path.{refl, ap, fun_ext}
use Rattle.std.proofs.Common.{◌∙◌, arith}
use borrow.Author.Tests.{eqb-true, eqb-false, eq-eqb}
use Rattle.bdd.specs.Array.{Entry, Runs, var_of, size, options, root, ordered}
use Rattle.bdd.specs.Value.{Setting, Function, value_at, value, put, with_option}
use Rattle.bdd.specs.Walk.{side}
use Rattle.bdd.specs.Signed.{low_first}
use Rattle.bdd.specs.Jobs.{fixed, restricted}
use Rattle.bdd.specs.Pairs.{Exploration, undecided_in}
use Rattle.bdd.proofs.Ordered.{Layered, Inner, ordered_open}
use Rattle.bdd.proofs.Following.{side_back, side_variable, value_0, value_1, value_side, value_ignores}
use Rattle.counting.proofs.Reaching.{Reach, at_root, by_step, Falls}
use Rattle.tasks.proofs.Tasks.{Tasks}

-- how option v stands once it is fixed, where it is asked for on side b
abbrev pub stands_as : List ℕ → ℕ → Bool → Bool
stands_as values v b = fixed values (λ i. b) v

-- the link that is followed from entry i where its option is off (false) or on (true)
unfoldable pub followed : Runs → List ℕ → Bool → ℕ → ℕ
followed a values b i = side a (stands_as values (var_of a i) b) i

-- entry 0 is decided as off, entry 1 as on, any other is undecided and asks its variable
abbrev pub entries_of : Runs → List ℕ → Exploration ℕ
entries_of a values =
    record {
      options = options a;
      decision = λ i. min i 2;
      asked = var_of a;
      child = followed a values;
      same = nat_eq;
      root = root a;
    }

-- to put an option first and fix then is to fix first and put the option as it stands then
fixed_put : (values : List ℕ) (k : ℕ) (b : Bool) (σ : Setting) → fixed values (put k b σ) ≡ put k (stands_as values k b) (fixed values σ)
unfolding fixed put
fixed_put values k b σ = fun_ext (λ i. at i (i == k) refl)
  where
    at : (i : ℕ) (t : Bool) → (i == k) ≡ t
        → cond (slice_index_or values i 2 == 2) (cond t b (σ i)) (slice_index_or values i 2 == 1)
        ≡ cond t (cond (slice_index_or values k 2 == 2) b (slice_index_or values k 2 == 1)) (cond (slice_index_or values i 2 == 2) (σ i) (slice_index_or values i 2 == 1))
    at i true e = rw (eqb-true i k e)
    at i false e = refl

pub with_restricted : (values : List ℕ) (k : ℕ) (b : Bool) (f : Function)
    → with_option k b (restricted values f) ≡ restricted values (with_option k (stands_as values k b) f)
unfolding restricted
with_restricted values k b f = fun_ext (λ σ. ap f (fixed_put values k b σ))

module _ (a : Runs) (values : List ℕ) (o : ordered a ≡ true) where
  pub layered : Layered a
  layered = (ordered_open a o).layered

  pub undecided_least : (i : ℕ) → (min i 2 == 2) ≡ true → 2 ≤ i
  undecided_least i u = omega (arith, eqb-true (min i 2) 2 u)

  pub reach_within : {i : ℕ} → Reach (entries_of a values) i → i < size a
  unfolding followed
  reach_within at_root = omega (arith, (ordered_open a o).size_least)
  reach_within (by_step {p = i} r u b) =
      let s = reach_within r in
      omega (arith, side_back a (stands_as values (var_of a i) b) i (layered.entry_on i (undecided_least i u) s))

  pub reach_inner : {i : ℕ} → Reach (entries_of a values) i → undecided_in (entries_of a values) i ≡ true → Inner a i
  reach_inner {i} r u = layered.entry_on i (undecided_least i u) (reach_within r)

  variable_most : (i : ℕ) → i < size a → var_of a i ≤ options a
  variable_most zero s = omega arith
  variable_most (suc zero) s = omega (arith, ap (λ (e : Entry). e.variable) (layered.entry_1 s))
  variable_most (suc (suc i)) s = omega (arith, (layered.entry_on (suc (suc i)) (omega arith) s).variable)

  pub entries_fall : Falls (entries_of a values)
  unfolding followed
  entries_fall =
      record {
        tells = record { equal = λ i j e. eqb-true i j e; itself = λ i. eq-eqb i i refl };
        most = λ i r. variable_most i (reach_within r);
        later = λ i r u b. side_variable a (stands_as values (var_of a i) b) i (reach_inner r u);
      }

  -- an entry stands for its value with the options fixed
  unfoldable pub meaning : ℕ → Function
  meaning i = restricted values (value_at a i)

  pub decided_is : (i : ℕ) → i < size a → (min i 2 == 2) ≡ false → meaning i ≡ (λ σ. nat_eq (min i 2) 1)
  unfolding meaning restricted
  decided_is zero s d = fun_ext (λ σ. value_0 a layered (fixed values σ))
  decided_is (suc zero) s d = fun_ext (λ σ. value_1 a layered (fixed values σ) s)
  decided_is (suc (suc i)) s d = absurd (omega (arith, eqb-false (min (suc (suc i)) 2) 2 d))

  -- the low side is written first, and no flip swaps the two
  unfoldable pub entry_tasks : Tasks low_first (entries_of a values)
  unfolding meaning followed
  entry_tasks =
      record {
        falls = entries_fall;
        meaning = meaning;
        swaps = λ i b. b;
        decided_is = λ i r d. decided_is i (reach_within r) d;
        ignores = λ i r k l b.
            with_restricted values k b (value_at a i)
            ∙ ap (restricted values) (value_ignores a layered i (reach_within r) k l (stands_as values k b));
        child_is = λ i r u b.
            with_restricted values (var_of a i) b (value_at a i)
            ∙ ap (restricted values) (value_side a layered (stands_as values (var_of a i) b) i (undecided_least i u) (reach_within r));
      }

  -- the root stands for the restriction of the set
  pub meaning_root : entry_tasks.meaning (root a) ≡ restricted values (value a)
  unfolding entry_tasks meaning value
  meaning_root = refl
