-- "Settled on paper, n = 2": every row that is marked P, through the definitions that the promises cite, by one
-- computed claim over the list of the cases.
use Rattle.std.specs.Prelude.{None, Some}
use Prim.Native.Nat.{ℕ}
use mathlib.Core.Path.{◌≡◌, refl}
use mathlib.Core.Bool.{true, false}
use mathlib.Core.List.{List, [], ◌∷◌, ◌++◌, map}
use lib.ListN.{length, replicate}
use Rattle.bdd.specs.Array.{Entry, entry, laid, every, same_entry, ordered, layered, bounded, even, placed, inner}
use Rattle.bdd.specs.Value.{Function, value, value_at, follow, chosen, put}
use Rattle.bdd.specs.Signed.{signed, write, decide, add, find, high_first, low_first}
use Rattle.bdd.specs.Table.{operator, filled, bit, digits, answer, all_of, inputs, fillings, good, sound, made_known, known}
use Rattle.bdd.specs.Jobs.{operated, switched, restricted, fixed, picked, ways, first_allowed, listed, agree, literal_array, true_array, false_array, not_array, digit}
use Rattle.bdd.specs.Pairs.{Job, count, can_hold, decision, undecided, asked, flipped, moved, child, next, roots, within, reached, among, different, some_on, tasks, pair_room}
use Rattle.bdd.specs.Answers.{answered, paper_order, row_in, comes_first, first_of_two, first_refusal, over_limit, no_room}
use Rattle.bdd.specs.Operations.{Operation, operation, working, made, operation_checks}
use Rattle.bdd.specs.Lent.{Limit}

-- an array, and numbers beside it
record Result : Type 0 where
  array : List Entry
  numbers : List ℕ

-- a row: what the definitions give, and what the paper says
record Case : Type 0 where
  given : Result
  paper : Result

-- the rows of the paper name the entries from 2 on
abbrev over_2 : List Entry → List Entry
over_2 es = true_array 2 ++ es

abbrev row : List Entry → List ℕ → List Entry → List ℕ → Case
row a ns p ms =
    record { given = record { array = a; numbers = ns }; paper = record { array = p; numbers = ms } }

x0 : List Entry
x0 = literal_array 2 0 true

not_x0 : List Entry
not_x0 = literal_array 2 0 false

x1 : List Entry
x1 = literal_array 2 1 true

abbrev of : List Entry → Function
of es = value (laid es)

abbrev job : ℕ → List Entry → List Entry → Job
job p a b = record { left = laid a; right = laid b; table = operator p; flip_left = None; flip_right = None }

abbrev plain : ℕ → List Entry → List Entry → Limit → Operation
plain p a b limit = operation (job p a b) None limit

-- the array of operator p
abbrev joined : ℕ → List Entry → List Entry → List Entry
joined p a b = made (plain p a b None)

-- the paper's number under a limit, with room for 8 entries and 8 pairs
abbrev under : ℕ → ℕ → List Entry → List Entry → ℕ
under k p a b =
    let o = plain p a b (Some k) in
    (answered (operation_checks o (working (replicate 32 0) (replicate 5 0) (replicate 8 0)) 8 (length (made o))) (length (made o) ∷ [])).number

x0_and_x1 : List Entry
unfolding x0 x1
x0_and_x1 = joined 8 x0 x1

x0_or_x1 : List Entry
unfolding x0 x1
x0_or_x1 = joined 14 x0 x1

x0_xor_x1 : List Entry
unfolding x0 x1
x0_xor_x1 = joined 6 x0 x1

always : List Entry
always = joined 14 x0 not_x0

never : List Entry
never = joined 8 x0 not_x0

cases : List Case
cases =
    row x0 [] (over_2 (entry 0 0 1 ∷ [])) []
    ∷ row x0_and_x1 (count (job 8 x0 x1) ∷ length x0_and_x1 ∷ under 3 8 x0 x1 ∷ under 4 8 x0 x1 ∷ [])
    (over_2 (entry 1 0 1 ∷ entry 0 0 2 ∷ [])) (2 ∷ 4 ∷ 8 ∷ 0 ∷ [])
    ∷ row x0_or_x1 [] (over_2 (entry 1 0 1 ∷ entry 0 2 1 ∷ [])) []
    ∷ row x0_xor_x1 (count (job 6 x0 x1) ∷ length x0_xor_x1 ∷ [])
    (over_2 (entry 1 1 0 ∷ entry 1 0 1 ∷ entry 0 3 2 ∷ [])) (3 ∷ 5 ∷ [])
    ∷ row (signed low_first 2 (restricted (2 ∷ 2 ∷ []) (of x0_xor_x1))) []
    (over_2 (entry 1 0 1 ∷ entry 1 1 0 ∷ entry 0 2 3 ∷ [])) []
    ∷ row (not_array x0_xor_x1) [] (over_2 (entry 1 0 1 ∷ entry 1 1 0 ∷ entry 0 3 2 ∷ [])) []
    ∷ row (signed low_first 2 (restricted (1 ∷ 2 ∷ []) (of x0_xor_x1))) [] (over_2 (entry 1 1 0 ∷ [])) []
    ∷ row (made (operation record { left = laid x0; right = laid x1; table = operator 8; flip_left = Some 0; flip_right = None } None None)) []
    (over_2 (entry 1 0 1 ∷ entry 0 2 0 ∷ [])) []
    ∷ row (signed high_first 2 (picked 2 (0 ∷ []) (of x0_or_x1))) [] x0_xor_x1 []
    ∷ row (signed high_first 2 (picked 2 (0 ∷ 1 ∷ []) (of x0_or_x1))) []
    (over_2 (entry 1 0 1 ∷ entry 0 2 0 ∷ [])) []
    ∷ row always (under 1 14 x0 not_x0 ∷ under 2 14 x0 not_x0 ∷ []) (over_2 []) (8 ∷ 0 ∷ [])
    ∷ row never (under 1 8 x0 not_x0 ∷ under 0 8 x0 not_x0 ∷ digit (can_hold (job 8 x0 not_x0)) ∷ count (job 8 x0 not_x0) ∷ [])
    (false_array 2) (0 ∷ 8 ∷ 0 ∷ 1 ∷ [])
    ∷ []

settled : map (λ (c : Case). c.given) cases ≡ map (λ (c : Case). c.paper) cases
unfolding cases x0 not_x0 x1 x0_and_x1 x0_or_x1 x0_xor_x1 always never same_entry every value value_at follow chosen put signed write decide add find operator filled bit digits answer all_of inputs fillings operated switched restricted fixed picked ways first_allowed listed agree not_array count can_hold decision undecided asked flipped moved child next roots within reached among different some_on tasks pair_room paper_order row_in comes_first first_of_two first_refusal over_limit no_room good sound made_known known ordered layered bounded even placed inner
settled = refl
