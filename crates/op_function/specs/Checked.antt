-- The answers of the calls, from the page's definitions of a good table and of operator p.
use Rattle.std.specs.Prelude.{ℕ, ◌+◌, ◌*◌, min, Bool, cond, not, ◌&&◌, ◌||◌, List, [], ◌∷◌, get_or, ltb, eqb, Option, Some, None}
use Rattle.bdd.specs.Array.{every}
use Rattle.bdd.specs.Table.{answer, good, operator, known}

-- yes exactly where the nine answers are a good table
abbrev pub checked_table : List ℕ → Bool
checked_table table = good 2 table

-- there are sixteen operators
unfoldable pub checked_operator : ℕ → Option (List ℕ)
checked_operator p = cond (ltb p 16) (Some (operator p)) None

-- the lent nine after the call: operator p's answers, or as they were
unfoldable pub handed_out : ℕ → List ℕ → List ℕ
handed_out p was = cond (ltb p 16) (operator p) was

-- operator p's answer, where any number from 2 on is an input that is not yet known
unfoldable pub answer_of : ℕ → ℕ → ℕ → ℕ
answer_of p a b = answer (operator p) (min a 2 ∷ min b 2 ∷ [])

-- the answers where both inputs are known are known
unfoldable pub known_answers : List ℕ → Bool
known_answers t = every 2 (λ x. every 2 (λ y. known (get_or t (3 * x + y) 0)))

-- an answer with an input unknown is below 3, and if it is known it stands with that input off and with it on
unfoldable pub stands : ℕ → ℕ → ℕ → Bool
stands off on unknown = ltb unknown 3 && (not (known unknown) || (eqb off unknown && eqb on unknown))

-- the three answers of a row (step 1) or of a column (step 3)
unfoldable pub line : List ℕ → ℕ → ℕ → Bool
line t from step = stands (get_or t from 0) (get_or t (from + step) 0) (get_or t (from + 2 * step) 0)

-- the three rows and the three columns
unfoldable pub all_lines : List ℕ → Bool
all_lines t = every 3 (λ k. line t (3 * k) 1 && line t k 3)
