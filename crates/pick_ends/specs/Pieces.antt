-- What the pieces of picking do: the checks before its steps, and how the output is handed out.
use Rattle.std.specs.Prelude.{ℕ, ◌≡◌, Bool, false, ◌||◌, List, length, take, drop, ltb, Err, Ok, Result}
use Rattle.std.proofs.Math.Option.{none, some}
use Rattle.bdd.specs.Array.{Runs, runs, options}
use Rattle.bdd.specs.Answers.{Checks, number, clears}
use Rattle.bdd.specs.Operations.{Working, stack_short}
use Rattle.bdd.specs.Lent.{Answer}
use Rattle.bdd.specs.declared.Refusal.{Refusal}
use Rattle.bdd.proofs.Refusing.{first_in_list}
use Rattle.lent.specs.Copied.{copied}
use Rattle.ending.specs.Ends.{cleared}
use Rattle.relation_ops.specs.Picking.{greatest_first, spare_short}
use Rattle.marks.specs.Marking.{marked_options}
use Rattle.marks.specs.declared.Marks.{Marks}

-- the stack, the index or a spare run is too short for n options, k of them picked, and the room W
abbrev pub runs_short : ℕ → ℕ → ℕ → Working → Runs → Bool
runs_short n k W w spare =
    stack_short n (length w.stack)
    || (ltb (length w.index) W || (spare_short k W spare.variable || spare_short k W spare.low || spare_short k W spare.high))

-- the first that holds is this one, and leaves the runs as they were
pub record Stops (cs : Checks) (why : Refusal) : Type 0 where
  pub first : first_in_list cs ≡ some why
  pub keeps : clears (number why) ≡ false

-- none holds, and the list is marked
pub record Passes (cs : Checks) (a : Runs) (vs : List ℕ) (m : Marks) : Type 0 where
  pub clean : first_in_list cs ≡ none
  pub marked : marked_options m ≡ greatest_first vs (options a)
  pub count : length (marked_options m) ≡ length vs

abbrev pub Admits : Checks → Runs → List ℕ → (Result Marks Refusal) → Type 0
Admits cs a vs (Ok m) = Passes cs a vs m
Admits cs a vs (Err why) = Stops cs why

-- what stood in the first W places is put back from the first slot; then the s numbers of the second
abbrev pub restored : {A : Type 0} → ℕ → ℕ → List A → List A → List A
restored W s out spare = copied (copied out spare W) (take s (drop W spare)) s

abbrev pub handed : Answer → ℕ → Runs → Runs → Runs
handed (Err why) W out spare = cleared out
handed (Ok s) W out spare =
    runs (restored W s out.variable spare.variable) (restored W s out.low spare.low) (restored W s out.high spare.high)
