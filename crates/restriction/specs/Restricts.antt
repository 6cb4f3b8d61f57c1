-- Restriction: which refusal is given exactly when, the array that it must write, and what every lent run holds after its answer.
use Rattle.std.specs.Prelude.{◌≡◌, ℕ, Bool, not, ◌&&◌, List, [], ◌∷◌, ◌++◌, length, ◌==◌, nat_le, nat_lt, None}
use Rattle.std.specs.List.{list_all}
use Rattle.bdd.specs.Array.{Runs, size, options, ordered}
use Rattle.bdd.specs.Value.{Function, value, with_option}
use Rattle.bdd.specs.Signed.{signed, low_first}
use Rattle.bdd.specs.Jobs.{restricted}
use Rattle.bdd.specs.Answers.{Checks, gives, Makes, number_of, no_room, all_zero, working_after}
use Rattle.bdd.specs.Operations.{stack_short}
use Rattle.bdd.specs.Lent.{Answer}
use Rattle.bdd.specs.declared.Refusal.TheVariants.{LeftNotOrdered, NoSuchOption, BadList, ShortRun, NoRoom}
use Rattle.restriction.specs.declared.RestrictionRuns.{RestrictionRuns}

-- the working runs that a restriction is lent: a map run, and no pair run
pub record Working : Type 0 where
  pub stack : List ℕ
  pub index : List ℕ
  pub map : List ℕ

abbrev pub working : List ℕ → List ℕ → List ℕ → Working
working stack index map = record { stack = stack; index = index; map = map }

abbrev pub working_of : RestrictionRuns → Working
working_of w = working w.stack.now w.index.now w.map.now

-- after a call the working runs are still the same three lent runs, each as long as it was
pub record SameRuns (was now : RestrictionRuns) : Type 0 where
  pub stack : now.stack.ghost_name ≡ was.stack.ghost_name
  pub index : now.index.ghost_name ≡ was.index.ghost_name
  pub map : now.map.ghost_name ≡ was.map.ghost_name
  pub stack_length : length now.stack.now ≡ length was.stack.now
  pub index_length : length now.index.now ≡ length was.index.now
  pub map_length : length now.map.now ≡ length was.map.now

-- the working runs are all zero
pub record Zeros (lent back : Working) : Type 0 where
  pub stack : back.stack ≡ all_zero lent.stack
  pub index : back.index ≡ all_zero lent.index
  pub map : back.map ≡ all_zero lent.map

-- n values of 0, 1, 2
unfoldable pub are_values : ℕ → List ℕ → Bool
are_values n values = length values == n && list_all (λ x. nat_le x 2) values

-- 6: stack shorter than 2n+1, index shorter than W, or map shorter than L
abbrev pub run_checks : Runs → Working → ℕ → Checks
run_checks a w W =
    gives ShortRun (stack_short (options a) (length w.stack))
    ∷ gives ShortRun (nat_lt (length w.index) W)
    ∷ gives ShortRun (nat_lt (length w.map) (size a))
    ∷ []

-- by a list of values: 2, then 10
abbrev pub list_checks : Runs → List ℕ → Checks
list_checks a values = gives LeftNotOrdered (not (ordered a)) ∷ gives BadList (not (are_values (options a) values)) ∷ []

-- by one option: 2, then 5
abbrev pub option_checks : Runs → ℕ → Checks
option_checks a v = gives LeftNotOrdered (not (ordered a)) ∷ gives NoSuchOption (nat_le (options a) v) ∷ []

-- with the room W for an array of s entries: these, then 6 and 9
abbrev pub restriction_checks : Checks → Runs → Working → ℕ → ℕ → Checks
restriction_checks early a w W s = early ++ (run_checks a w W ++ (gives NoRoom (no_room None W s) ∷ []))

-- what the restriction of the set a to the function f promises of its answer, of the output and of the working runs. The array has
-- its LOW side first, so it is not in signing order in general
pub record Restricts (early : Checks) (a : Runs) (f : Function) (was now : Runs) (lent back : Working) (r : Answer) : Type 0 where
  pub makes : Makes (restriction_checks early a lent) (signed low_first (options a) f) was now r
  pub stack : back.stack ≡ working_after (number_of r) lent.stack
  pub index : back.index ≡ working_after (number_of r) lent.index
  pub map : back.map ≡ working_after (number_of r) lent.map

-- the set's value with the named options put as asked
abbrev pub ByList : Runs → List ℕ → Runs → Runs → Working → Working → Answer → Type 0
ByList a values = Restricts (list_checks a values) a (restricted values (value a))

-- the set's value with the one option put as asked
abbrev pub ByOption : Runs → ℕ → Bool → Runs → Runs → Working → Working → Answer → Type 0
ByOption a v b = Restricts (option_checks a v) a (with_option v b (value a))
