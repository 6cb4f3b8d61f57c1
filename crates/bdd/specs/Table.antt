-- "The operator table", over the number of inputs. An input is 0 for off, 1 for on, 2 for not yet known; the
-- answer for the inputs a, b stands at place 3a+b.
use Rattle.std.specs.Prelude.{ℕ, zero, suc, ◌+◌, ◌*◌, ◌/◌, ◌%◌, ◌^◌, Bool, true, cond, not, ◌&&◌, ◌||◌, List, [], ◌∷◌, ◌++◌, map, length, get_or, ltb, eqb}

-- the number whose digits to the base are given, greatest first
unfoldable pub digits : ℕ → ℕ → List ℕ → ℕ
digits base acc [] = acc
digits base acc (x ∷ xs) = digits base (base * acc + x) xs

unfoldable pub answer : List ℕ → List ℕ → ℕ
answer table xs = get_or table (digits 3 0 xs) 3

unfoldable pub all_of : {A : Type 0} → (A → Bool) → List A → Bool
all_of test [] = true
all_of test (x ∷ xs) = test x && all_of test xs

-- all the inputs of an operator of k sets, in the order of their places
unfoldable pub inputs : ℕ → List (List ℕ)
inputs zero = [] ∷ []
inputs (suc k) = map (λ xs. 0 ∷ xs) (inputs k) ++ map (λ xs. 1 ∷ xs) (inputs k) ++ map (λ xs. 2 ∷ xs) (inputs k)

-- every input that is got by making one unknown known
unfoldable pub made_known : List ℕ → List (List ℕ)
made_known [] = []
made_known (x ∷ xs) = cond (eqb x 2) ((0 ∷ xs) ∷ (1 ∷ xs) ∷ []) [] ++ map (λ ys. x ∷ ys) (made_known xs)

-- every input that is got by making all unknowns known
unfoldable pub fillings : List ℕ → List (List ℕ)
fillings [] = [] ∷ []
fillings (x ∷ xs) =
    cond (eqb x 2) (map (λ ys. 0 ∷ ys) (fillings xs) ++ map (λ ys. 1 ∷ ys) (fillings xs)) (map (λ ys. x ∷ ys) (fillings xs))

unfoldable pub known : ℕ → Bool
known x = ltb x 2

-- all known: the answer is 0 or 1. Else it may be 2 instead, never 3 or more. An answer 0 or 1 stands, the same, at
-- every place that is got by making an unknown known
unfoldable pub sound : List ℕ → List ℕ → Bool
sound table xs =
    ltb (answer table xs) 3
    && (not (all_of known xs) || known (answer table xs))
    && (not (known (answer table xs)) || all_of (λ ys. eqb (answer table ys) (answer table xs)) (made_known xs))

-- a good table of an operator of k sets
unfoldable pub good : ℕ → List ℕ → Bool
good k table = eqb (length table) (3 ^ k) && all_of (sound table) (inputs k)

-- in operator p, bit 2a+b of p is the value at known a, b
unfoldable pub bit : ℕ → List ℕ → ℕ
bit p xs = p / 2 ^ digits 2 0 xs % 2

-- an answer is 2 exactly when the fillings disagree
unfoldable pub filled : ℕ → List ℕ → ℕ
filled p xs =
    cond (all_of (λ ys. eqb (bit p ys) 0) (fillings xs)) 0
    (cond (all_of (λ ys. eqb (bit p ys) 1) (fillings xs)) 1 2)

-- the nine answers of operator p
unfoldable pub operator : ℕ → List ℕ
operator p = map (filled p) (inputs 2)
