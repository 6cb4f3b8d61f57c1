-- "When the desk says no": the refusals, once and in the paper's order, and what each run holds after an answer.
use Rattle.std.specs.Prelude.{ℕ, suc, ◌≡◌, Bool, false, cond, ◌&&◌, ◌||◌, List, [], ◌∷◌, ◌++◌, length, drop, replicate, ltb, leb, eqb, Err, None, Ok, Some}
use Rattle.std.proofs.Math.Option.{Option, none, some}
use Rattle.bdd.specs.Array.{Entry, Runs, laid, runs}
use Rattle.bdd.specs.Pairs.{room}
use Rattle.bdd.specs.declared.Refusal.{Refusal}
use Rattle.bdd.specs.declared.Refusal.TheVariants.{BadTable, LeftNotOrdered, RightNotOrdered, CountsDiffer, NoSuchOption, BadList, ShortRun, PairRoom, OverLimit, NoRoom}
use Rattle.bdd.specs.Lent.{Answer, Limit}

-- the paper's number of each refusal
abbrev pub number : Refusal → ℕ
number BadTable = 1
number LeftNotOrdered = 2
number RightNotOrdered = 3
number CountsDiffer = 4
number NoSuchOption = 5
number ShortRun = 6
number PairRoom = 7
number OverLimit = 8
number NoRoom = 9
number BadList = 10

-- the numbers in the order in which they are checked: the rows of the paper's table, from the top
unfoldable pub paper_order : List ℕ
paper_order = 1 ∷ 2 ∷ 3 ∷ 4 ∷ 5 ∷ 10 ∷ 6 ∷ 7 ∷ 8 ∷ 9 ∷ []

-- the row in which a number stands
unfoldable pub row_in : List ℕ → ℕ → ℕ
row_in [] k = 0
row_in (r ∷ rs) k = cond (eqb r k) 0 (suc (row_in rs k))

-- the first refusal stands in the paper's table before the second, or is the same
unfoldable pub comes_first : Refusal → Refusal → Bool
comes_first why other = leb (row_in paper_order (number why)) (row_in paper_order (number other))

-- an answer in the paper's terms: 0 for done or the number of the refusal, and the values that it carries
pub record Told : Type 0 where
  pub number : ℕ
  pub values : List ℕ

abbrev pub told : ℕ → List ℕ → Told
told k values = record { number = k; values = values }

-- a maker of arrays: an answer of 0 means done and carries S; refusals carry 0 for S
abbrev pub told_answer : Answer → Told
told_answer (Ok s) = told 0 (s ∷ [])
told_answer (Err why) = told (number why) (0 ∷ [])

abbrev pub number_of : Answer → ℕ
number_of r = (told_answer r).number

-- a refusal, and the test under "given exactly when". A call checks only what it is lent: what is in its list
pub record Check : Type 0 where
  pub refusal : Refusal
  pub holds : Bool

abbrev pub gives : Refusal → Bool → Check
gives why holds = record { refusal = why; holds = holds }

abbrev pub Checks : Type 0
Checks = List Check

-- whichever comes first in the paper's table
unfoldable pub first_of_two : Refusal → Option Refusal → Option Refusal
first_of_two why none = some why
first_of_two why (some other) = cond (comes_first why other) (some why) (some other)

-- of the checks that hold, the one that comes first in the paper's table
unfoldable pub first_refusal : Checks → Option Refusal
first_refusal [] = none
first_refusal (c ∷ cs) = cond c.holds (first_of_two c.refusal (first_refusal cs)) (first_refusal cs)

-- "all zero" means the run to its end
abbrev pub all_zero : List ℕ → List ℕ
all_zero was = replicate (length was) 0

-- a refusal carries 0 for each value
abbrev pub told_first : Option Refusal → List ℕ → Told
told_first none values = told 0 values
told_first (some why) values = told (number why) (all_zero values)

-- the answer that the checks come to: the first that holds, or done with the values
abbrev pub answered : Checks → List ℕ → Told
answered checks values = told_first (first_refusal checks) values

-- 8: S > limit and limit at most W
unfoldable pub over_limit : Limit → ℕ → ℕ → Bool
over_limit None W s = false
over_limit (Some k) W s = ltb k s && leb k W

-- 9: S > W, where W < limit or no limit is asked
unfoldable pub no_room : Limit → ℕ → ℕ → Bool
no_room None W s = ltb W s
no_room (Some k) W s = ltb W s && ltb W k

-- 8 and 9, with the room W for an array of s entries
abbrev pub size_checks : Limit → ℕ → ℕ → Checks
size_checks limit W s = gives OverLimit (over_limit limit W s) ∷ gives NoRoom (no_room limit W s) ∷ []

-- terminals and literals need the output only: their n above 256, or the option not below n; then the room
abbrev pub maker_checks : Bool → ℕ → ℕ → Checks
maker_checks option-bad W s = gives NoSuchOption option-bad ∷ gives NoRoom (no_room None W s) ∷ []

-- negation and the byte writer need their set and the output only
abbrev pub set_checks : Bool → ℕ → ℕ → Checks
set_checks not_ordered W s = gives LeftNotOrdered not_ordered ∷ gives NoRoom (no_room None W s) ∷ []

-- after 7, 8 and 9
abbrev pub clears : ℕ → Bool
clears k = eqb k 7 || eqb k 8 || eqb k 9

-- a run after a refusal of this number: all zero after 7, 8 and 9, after the others as it was
unfoldable pub refused_after : ℕ → List ℕ → List ℕ
refused_after k was = cond (clears k) (all_zero was) was

-- an output run after an answer of this number: after 0 what was made stands first, and entries S and on are as they were
unfoldable pub output_after : ℕ → List ℕ → List ℕ → List ℕ
output_after k made was = cond (eqb k 0) (made ++ drop (length made) was) (refused_after k was)

-- a working run after an answer of this number: all zero after any but 1 to 6 and 10, after those as it was
unfoldable pub working_after : ℕ → List ℕ → List ℕ
working_after k was = cond (eqb k 0) (all_zero was) (refused_after k was)

-- the three output runs after an answer of this number
abbrev pub outputs_after : ℕ → Runs → Runs → Runs
outputs_after k made was =
    runs (output_after k made.variable was.variable) (output_after k made.low was.low)
    (output_after k made.high was.high)

-- what a maker of the array `made` promises: the first refusal that holds, with the room W that the output has, or done
-- with S; and the output runs after it
pub record Makes (checks : ℕ → ℕ → Checks) (made : List Entry) (was now : Runs) (r : Answer) : Type 0 where
  pub answer : told_answer r ≡ answered (checks (room was) (length made)) (length made ∷ [])
  pub outputs : now ≡ outputs_after (number_of r) (laid made) was
