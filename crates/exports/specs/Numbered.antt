-- The numbers by which answers are handed on and flips and limits are given. A check: 0 for no, n + 1 for yes over n options.
-- Every other call: the answer in the paper's terms.
use Rattle.std.specs.Prelude.{ℕ, ◌+◌, ◌*◌, min, ◌≡◌, Bool, true, false, cond, List, eqb, ltb, Option, Some, None, Result, Ok, Err}
use Rattle.bdd.specs.Answers.{Told, number}
use Rattle.bdd.specs.declared.Refusal.{Refusal}
use Rattle.bdd.specs.declared.Refusal.TheVariants.{BadTable}
use Rattle.bdd.specs.Lent.{Flip, Limit}
use Rattle.serialisation.specs.Bytes.{whole}

-- a check of a set
abbrev pub numbered_check : Option ℕ → ℕ
numbered_check (Some n) = n + 1
numbered_check None = 0

-- a table is checked as a set is: 0 for no, 1 for yes
abbrev pub numbered_table : Bool → ℕ
numbered_table true = 1
numbered_table false = 0

-- an operator's number is refused as a bad table is
abbrev pub operator_number : Option (List ℕ) → ℕ
operator_number (Some answers) = 0
operator_number None = number BadTable

-- the number of an answer: 0 for done, or that of the refusal
abbrev pub numbered_answer : {A : Type 0} → Result A Refusal → ℕ
numbered_answer (Ok x) = 0
numbered_answer (Err why) = number why

-- r and the given values are the number and the values of an answer that the call promises
pub record Hands {A : Type 0} (told_as : A → Told) (promised : A → Type 0) (r : ℕ) (given : List ℕ) : Type 0 where
  pub answer : A
  pub promise : promised answer
  pub number_is : r ≡ (told_as answer).number
  pub values_are : given ≡ (told_as answer).values

-- where record k starts in a file; 0 where no whole record k exists
unfoldable pub place : List ℕ → ℕ → ℕ
place file k = cond (ltb k (whole file)) (10 * k) 0

-- the number that stands for no flip, and the greatest that a flip can carry, which is n or more for every n
abbrev pub no_flip : ℕ
no_flip = 65536

abbrev pub farthest : ℕ
farthest = 65535

abbrev pub numbered_flip : ℕ → Flip
numbered_flip x = cond (eqb x no_flip) None (Some (min x farthest))

-- the number that stands for no limit: the greatest of 64 bits
abbrev pub no_limit : ℕ
no_limit = 18446744073709551615

abbrev pub numbered_limit : ℕ → Limit
numbered_limit x = cond (eqb x no_limit) None (Some x)
