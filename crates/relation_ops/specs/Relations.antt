-- Module 7's jobs that are one operator on one set: which operator each runs, the value that it must have, which refusal is given
-- exactly when, and what every lent run holds after its answer.
use Rattle.std.specs.Prelude.{ℕ, ◌≡◌, Bool, cond, not, List, [], ◌∷◌, length, eqb, leb, ltb, Err, None, Ok, Some}
use Rattle.bdd.specs.Array.{Entry, Runs, laid, options, ordered}
use Rattle.bdd.specs.Value.{Function, value}
use Rattle.bdd.specs.Signed.{signed, high_first}
use Rattle.bdd.specs.Jobs.{exists, for_all, selected, literal_array}
use Rattle.bdd.specs.Pairs.{Job, job, tasks, pair_room}
use Rattle.bdd.specs.Answers.{Checks, gives, Makes, number, number_of, no_room, working_after}
use Rattle.bdd.specs.Operations.{Working, stack_short}
use Rattle.bdd.specs.Lent.{Answer}
use Rattle.bdd.specs.declared.Refusal.{Refusal}
use Rattle.bdd.specs.declared.Refusal.TheVariants.{LeftNotOrdered, NoSuchOption, ShortRun, PairRoom, NoRoom}
use Rattle.operators.specs.Numbered.{numbered}

-- the operator that is run on the set and something made from it, the option, and the value that the job must have
pub record Relation : Type 0 where
  pub job : Job
  pub option : ℕ
  pub meant : Function

abbrev pub relation : Job → ℕ → Function → Relation
relation j v f = record { job = j; option = v; meant = f }

-- the set on both sides, the right one flipped at the option, by or
abbrev pub existential : Runs → ℕ → Relation
existential a v = relation (job a a (numbered 14) None (Some v)) v (exists v (value a))

-- by and
abbrev pub universal : Runs → ℕ → Relation
universal a v = relation (job a a (numbered 8) None (Some v)) v (for_all v (value a))

-- the and with the literal
abbrev pub selection : Runs → ℕ → Bool → Relation
selection a v b =
    relation (job a (laid (literal_array (options a) v b)) (numbered 8) None None) v (selected v b (value a))

-- the set
abbrev pub set_of : Relation → Runs
set_of x = x.job.left

-- the array that it must write: the one array of its value, in signing order
abbrev pub array_of : Relation → List Entry
array_of x = signed high_first (options (set_of x)) x.meant

-- 2, 5, 6 for the stack and for the index, 7 by the T of the operator that is run, and 9
abbrev pub relation_checks : Relation → Working → ℕ → ℕ → Checks
relation_checks x w W s =
    gives LeftNotOrdered (not (ordered (set_of x)))
    ∷ gives NoSuchOption (leb (options (set_of x)) x.option)
    ∷ gives ShortRun (stack_short (options (set_of x)) (length w.stack))
    ∷ gives ShortRun (ltb (length w.index) W)
    ∷ gives PairRoom (ltb (pair_room w.pairs) (tasks x.job))
    ∷ gives NoRoom (no_room None W s)
    ∷ []

-- what such a job promises of its answer, of the output and of the working runs
pub record Relates (x : Relation) (was now : Runs) (lent back : Working) (r : Answer) : Type 0 where
  pub makes : Makes (relation_checks x lent) (array_of x) was now r
  pub pairs : back.pairs ≡ working_after (number_of r) lent.pairs
  pub stack : back.stack ≡ working_after (number_of r) lent.stack
  pub index : back.index ≡ working_after (number_of r) lent.index

-- an answer with its refusal told in other words
abbrev pub retold : (Refusal → Refusal) → Answer → Answer
retold word (Ok s) = Ok s
retold word (Err why) = Err (word why)

-- 3 as 5
unfoldable pub as_option : Refusal → Refusal
as_option why = cond (eqb (number why) 3) NoSuchOption why
