-- An operator: the value that it must have, the array that it must write, which refusal is given exactly when, and what every lent
-- run holds after its answer.
use Rattle.std.specs.Prelude.{ℕ, ◌+◌, ◌*◌, ◌≡◌, Bool, false, not, ◌||◌, List, [], ◌∷◌, ◌++◌, length, eqb, leb, ltb, None, Some}
use Rattle.bdd.specs.Array.{Entry, Runs, options, ordered}
use Rattle.bdd.specs.Value.{Function}
use Rattle.bdd.specs.Signed.{signed, high_first}
use Rattle.bdd.specs.Table.{good}
use Rattle.bdd.specs.Pairs.{Job, job_of, result, tasks, count, pair_room}
use Rattle.bdd.specs.Answers.{Checks, gives, Makes, number_of, over_limit, no_room, size_checks, working_after}
use Rattle.bdd.specs.Lent.{Answer, Flip, Limit}
use Rattle.bdd.specs.declared.Operands.{Operands}
use Rattle.bdd.specs.declared.WorkingRuns.{WorkingRuns}
use Rattle.bdd.specs.declared.Refusal.TheVariants.{BadTable, LeftNotOrdered, RightNotOrdered, CountsDiffer, NoSuchOption, ShortRun, PairRoom, OverLimit}

-- two sets, a table and each set's flip; the output's flip; the limit
pub record Operation : Type 0 where
  pub job : Job
  pub output : Flip
  pub limit : Limit

abbrev pub operation : Job → Flip → Limit → Operation
operation j out limit = record { job = j; output = out; limit = limit }

-- the operator that a call is lent
abbrev pub operation_of : Operands → Limit → Operation
operation_of o limit = operation (job_of o) o.flips.output limit

-- the working runs that an operator is lent
pub record Working : Type 0 where
  pub pairs : List ℕ
  pub stack : List ℕ
  pub index : List ℕ

abbrev pub working : List ℕ → List ℕ → List ℕ → Working
working pairs stack index = record { pairs = pairs; stack = stack; index = index }

abbrev pub working_of : WorkingRuns → Working
working_of w = working w.pairs.now w.stack.now w.index.now

-- the value that the operator must have at a setting
abbrev pub meant : Operation → Function
meant o = result o.job o.output

-- the array that it must write: the one array of that function, in signing order
abbrev pub made : Operation → List Entry
made o = signed high_first (options o.job.left) (meant o)

-- a flip is n or more
abbrev pub beyond : ℕ → Flip → Bool
beyond n None = false
beyond n (Some v) = leb n v

-- shorter than 2n+1
abbrev pub stack_short : ℕ → ℕ → Bool
stack_short n stack = ltb stack (2 * n + 1)

-- what an operator and its dry run have in common: 1 to 5, and 6 for a stack of this length
abbrev pub job_checks : Job → Flip → ℕ → Checks
job_checks j out stack =
    gives BadTable (not (good 2 j.table))
    ∷ gives LeftNotOrdered (not (ordered j.left))
    ∷ gives RightNotOrdered (not (ordered j.right))
    ∷ gives CountsDiffer (not (eqb (options j.left) (options j.right)))
    ∷ gives NoSuchOption
    (beyond (options j.left) j.flip_left || beyond (options j.left) j.flip_right || beyond (options j.left) out)
    ∷ gives ShortRun (stack_short (options j.left) stack)
    ∷ []

-- an operator with the room W for an array of s entries: 6 for the index too, then 7, 8 and 9
abbrev pub operation_checks : Operation → Working → ℕ → ℕ → Checks
operation_checks o w W s =
    job_checks o.job o.output (length w.stack)
    ++ gives ShortRun (ltb (length w.index) W)
    ∷ gives PairRoom (ltb (pair_room w.pairs) (tasks o.job))
    ∷ size_checks o.limit W s

-- what an operator promises of its answer, of the output and of the working runs
pub record Operates (o : Operation) (was now : Runs) (lent back : Working) (r : Answer) : Type 0 where
  pub makes : Makes (operation_checks o lent) (made o) was now r
  pub pairs : back.pairs ≡ working_after (number_of r) lent.pairs
  pub stack : back.stack ≡ working_after (number_of r) lent.stack
  pub index : back.index ≡ working_after (number_of r) lent.index

-- a dry run of c pairs: 8 when c > limit and limit is at most R, 7 when c > R and R < limit. It is lent no output and no index run
abbrev pub dry_checks : Operation → List ℕ → List ℕ → Checks
dry_checks o pairs stack =
    job_checks o.job o.output (length stack)
    ++ gives PairRoom (no_room o.limit (pair_room pairs) (count o.job))
    ∷ gives OverLimit (over_limit o.limit (pair_room pairs) (count o.job))
    ∷ []
