-- The dry run of an operator: the paper's number and values of its answer, and what it promises.
use Rattle.std.specs.Prelude.{ℕ, ◌≡◌, List, [], ◌∷◌, Result, Ok, Err}
use Rattle.bdd.specs.Jobs.{digit}
use Rattle.bdd.specs.Pairs.{count, can_hold}
use Rattle.bdd.specs.Answers.{Told, told, number, answered, working_after}
use Rattle.bdd.specs.Operations.{Operation, dry_checks}
use Rattle.boolean_ops.specs.declared.Dry.{Dry}
use Rattle.bdd.specs.declared.Refusal.{Refusal}

-- "can it hold" as 1 or 0, and c
abbrev pub told_dry : Result Dry Refusal → Told
told_dry (Ok d) = told 0 (digit d.can_hold ∷ d.pairs ∷ [])
told_dry (Err why) = told (number why) (0 ∷ 0 ∷ [])

-- what a dry run promises of its answer and of its two working runs
pub record Dries (o : Operation) (pairs stack pairs-left stack-left : List ℕ) (r : Result Dry Refusal) : Type 0 where
  pub answer : told_dry r ≡ answered (dry_checks o pairs stack) (digit (can_hold o.job) ∷ count o.job ∷ [])
  pub pairs_after : pairs-left ≡ working_after (told_dry r).number pairs
  pub stack_after : stack-left ≡ working_after (told_dry r).number stack
