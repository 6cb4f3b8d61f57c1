-- The value of a set at a lent setting, and how two sets stand to each other: the paper's number and values of each answer, when each
-- is given, and what the lent runs hold after it.
use Rattle.bdd.specs.declared.Refusal.{Refusal}
use Rattle.std.specs.Prelude.{◌≡◌, ℕ, ◌+◌, ◌*◌, ◌<◌, ◌≤◌, Bool, true, cond, not, ◌&&◌, ◌≢◌, List, [], ◌∷◌, length, ◌==◌, nat_le, nat_lt, slice_index, Err, Ok, Result}
use Rattle.bdd.specs.Array.{Runs, every, size, options, ordered}
use Rattle.bdd.specs.Value.{Setting, value}
use Rattle.bdd.specs.Answers.{Told, told, number, Checks, gives, answered, working_after}
use Rattle.bdd.specs.declared.Refusal.TheVariants.{LeftNotOrdered, RightNotOrdered, CountsDiffer, ShortRun, BadList}
use Rattle.compare.specs.declared.Comparison.{Comparison}
use Rattle.compare.specs.declared.Comparison.TheVariants.{SameNumbers, SameMeaning, Differ}

-- an option is on where its number is 1; past the numbers it is off
unfoldable pub setting_of : List ℕ → Setting
setting_of s i = slice_index s i == 1

-- n numbers, each 0 or 1
unfoldable pub is_setting : ℕ → List ℕ → Bool
is_setting n s = length s == n && every (length s) (λ i. nat_le (slice_index s i) 1)

-- a set's value at a setting: 1 or 0
abbrev pub told_valued : Result Bool Refusal → Told
told_valued (Ok on) = told 0 (cond on 1 0 ∷ [])
told_valued (Err why) = told (number why) (0 ∷ [])

-- 2 for a set not ordered, 10 for a setting that has not n numbers of 0 and 1
abbrev pub value_checks : Runs → List ℕ → Checks
value_checks a s = gives LeftNotOrdered (not (ordered a)) ∷ gives BadList (not (is_setting (options a) s)) ∷ []

-- else the value there
abbrev pub valued : Runs → List ℕ → Told
valued a s = answered (value_checks a s) (cond (value a (setting_of s)) 1 0 ∷ [])

-- how two sets stand to each other, or why they are not compared
abbrev pub Compared : Type 0
Compared = Result Comparison Refusal

-- two sets: 1 where they hold the same numbers, 2 where they mean the same, 3 where they differ, with the left set's value there
abbrev pub told_comparison : Compared → Told
told_comparison (Ok SameNumbers) = told 0 (1 ∷ 0 ∷ [])
told_comparison (Ok SameMeaning) = told 0 (2 ∷ 0 ∷ [])
told_comparison (Ok (Differ left)) = told 0 (3 ∷ cond left 1 0 ∷ [])
told_comparison (Err why) = told (number why) (0 ∷ 0 ∷ [])

-- 2, 3 and 4, then 6 for a run of fewer than five numbers for each entry of both sets
abbrev pub two_checks : Runs → Runs → ℕ → Checks
two_checks a b room =
    gives LeftNotOrdered (not (ordered a))
    ∷ gives RightNotOrdered (not (ordered b))
    ∷ gives CountsDiffer (not (options a == options b))
    ∷ gives ShortRun (nat_lt room (5 * (size a + size b)))
    ∷ []

-- the values differ at the setting s, the left one is `left`, and s is the first such: whatever setting they differ at, where it is
-- as s at the options before k and s is on at k, it is on there too
pub record Parted (a b : Runs) (s : List ℕ) (left : Bool) : Type 0 where
  pub plain : (i : ℕ) → slice_index s i ≤ 1
  pub off : (i : ℕ) → options a ≤ i → slice_index s i ≡ 0
  pub left_value : value a (setting_of s) ≡ left
  pub right_value : value b (setting_of s) ≡ not left
  pub first : (σ : Setting) → value a σ ≢ value b σ → (k : ℕ) → slice_index s k ≡ 1 → ((i : ℕ) → i < k → σ i ≡ setting_of s i) → σ k ≡ true

-- what each answer says of the two sets; the lent setting is written only where they differ
abbrev pub Says : Runs → Runs → List ℕ → List ℕ → Compared → Type 0
Says a b was now (Ok SameNumbers) = (a ≡ b) × (now ≡ was)
Says a b was now (Ok SameMeaning) = (a ≢ b) × ((σ : Setting) → value a σ ≡ value b σ) × (now ≡ was)
Says a b was now (Ok (Differ left)) = Parted a b now left
Says a b was now (Err why) = now ≡ was

-- what a comparison promises: it is refused exactly where the checks say, else it says how the sets stand to each other; and the
-- lent run is a working run
pub record Compares (a b : Runs) (was now room back : List ℕ) (r : Compared) : Type 0 where
  pub answer : told_comparison r ≡ answered (two_checks a b (length room)) (told_comparison r).values
  pub says : Says a b was now r
  pub run : back ≡ working_after (told_comparison r).number room
