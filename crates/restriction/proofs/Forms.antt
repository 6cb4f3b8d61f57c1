-- The two forms of a restriction: by a list of values, and by one option.
use Rattle.std.specs.Prelude.{Err, None, Some, Option}
use Rattle.std.proofs.Common.{◌≡◌, ℕ, ◌<◌, ◌≤◌, Bool, true, false, List, [], ◌++◌, length, take, set, replicate, refl, ap, ◌∙◌, arith, le-leb}
use borrow.Author.Tests.{lt-leb}
use Rattle.bdd.specs.Bounds.{most_options}
use Rattle.bdd.specs.Array.{Runs, options}
use Rattle.bdd.specs.Value.{Function, value, with_option}
use Rattle.bdd.specs.Jobs.{digit}
use Rattle.bdd.specs.Answers.{paper_order, row_in, comes_first}
use Rattle.bdd.specs.Lent.{Answer}
use Rattle.bdd.specs.declared.Refusal.TheVariants.{LeftNotOrdered, NoSuchOption, BadList}
use Rattle.bdd.proofs.Ordered.{ordered_open}
use Rattle.bdd.proofs.Refusing.{ascending, first_in_list}
use Rattle.checks.specs.Checked.{checked_order}
use Rattle.checks.proofs.Verdict.{told_ordered, told_not_ordered, told_options}
use Rattle.restriction.specs.Restricts.{Working, are_values, list_checks, option_checks, Restricts, ByList, ByOption}
use Rattle.restriction.specs.Exploring.{Checked, restricted_value}
use Rattle.restriction.proofs.Values.{values_length}
use Rattle.restriction.proofs.Whole.{late, stopped, passed, one_value, one_restricted, one_length}

module _ (a : Runs) (values : List ℕ) (was : Runs) (lent : Working) {r : Option ℕ} (told : r ≡ checked_order a) where
  list_in_order : ascending (list_checks a values ++ late a (restricted_value a values) was lent) ≡ true
  unfolding ascending comes_first row_in paper_order
  list_in_order = refl

  pub list_unordered : r ≡ None → ByList a values was was lent lent (Err LeftNotOrdered)
  unfolding first_in_list
  list_unordered e =
      stopped a (restricted_value a values) was lent (list_checks a values) list_in_order (rw (told_not_ordered a told e)) refl

  module _ {n : ℕ} (e : r ≡ Some n) where
    pub list_bad : are_values n values ≡ false → ByList a values was was lent lent (Err BadList)
    unfolding first_in_list
    list_bad bad =
        stopped a (restricted_value a values) was lent (list_checks a values) list_in_order
        (rw (told_ordered a n told e, ← told_options a n told e, bad)) refl

    module _ (good : are_values n values ≡ true) where
      pub list_checked : Checked a values × (n ≡ options a)
      list_checked =
          let n_is = told_options a n told e in
          (record { ordered = told_ordered a n told e; values_fit = values_length n values good ∙ n_is }, n_is)

      pub list_ran : {now : Runs} {back : Working} {answer : Answer} → Restricts [] a (restricted_value a values) was now lent back answer
          → ByList a values was now lent back answer
      unfolding first_in_list
      list_ran h =
          passed a (restricted_value a values) was lent (list_checks a values) list_in_order
          (rw (told_ordered a n told e, ← told_options a n told e, good)) h

-- an ordered set has no more options than there are places
pub within : (a : Runs) {r : Option ℕ} {n : ℕ} → r ≡ checked_order a → r ≡ Some n → n ≤ most_options
within a {n = n} e q = omega (arith, told_options a n e q, (ordered_open a (told_ordered a n e q)).options_most)

module _ (a : Runs) (v : ℕ) (b : Bool) (was : Runs) (lent : Working) {r : Option ℕ} (told : r ≡ checked_order a) where
  abbrev put_so : Function
  put_so = with_option v b (value a)

  option_in_order : ascending (option_checks a v ++ late a put_so was lent) ≡ true
  unfolding ascending comes_first row_in paper_order
  option_in_order = refl

  pub option_unordered : r ≡ None → ByOption a v b was was lent lent (Err LeftNotOrdered)
  unfolding first_in_list
  option_unordered e = stopped a put_so was lent (option_checks a v) option_in_order (rw (told_not_ordered a told e)) refl

  module _ {n : ℕ} (e : r ≡ Some n) where
    pub option_beyond : n ≤ v → ByOption a v b was was lent lent (Err NoSuchOption)
    unfolding first_in_list
    option_beyond l =
        stopped a put_so was lent (option_checks a v) option_in_order
        (rw (told_ordered a n told e, ← told_options a n told e, le-leb n v l)) refl

    -- the values of a call: the option's, and every other free
    module _ (l : v < n) {d : ℕ} (d_is : d ≡ digit b) {values : List ℕ} (values_are : values ≡ take n (set (replicate most_options 2) v d)) where
      as_one : values ≡ one_value most_options n v b
      as_one = values_are ∙ ap (λ (d : ℕ). take n (set (replicate most_options 2) v d)) d_is

      pub option_checked : Checked a values × (n ≡ options a)
      option_checked =
          let n_is = told_options a n told e in
          let fit = ap length as_one ∙ one_length most_options n v b l (within a told e) ∙ n_is in
          (record { ordered = told_ordered a n told e; values_fit = fit }, n_is)

      pub option_ran : {now : Runs} {back : Working} {answer : Answer} → Restricts [] a (restricted_value a values) was now lent back answer
          → ByOption a v b was now lent back answer
      unfolding first_in_list
      option_ran h =
          passed a put_so was lent (option_checks a v) option_in_order (rw (told_ordered a n told e, ← told_options a n told e, lt-leb n v l))
          (rw (as_one, one_restricted most_options n v b l (within a told e) (value a)) at h)
