-- What the exploration keeps from look to look, and what one look does.
use Rattle.std.specs.Prelude.{ℕ, ◌+◌, ◌-◌, ◌*◌, ◌^◌, ◌<◌, ◌≤◌, ◌≡◌, List, length, set, None, Some, Option}
use Rattle.bdd.specs.Array.{options}
use Rattle.bdd.specs.Pairs.{Job, Pair, pairs_of, pair_room}
use Rattle.bdd.specs.Pairs as pairs
use Rattle.counting.proofs.Looks.{left}
use Rattle.counting.proofs.Turns.{Tally}
use Rattle.pair_run.specs.Held.{Searchable, Stands, Absent, Added, count}
use Rattle.step.specs.Step.{code, decoded}
use Rattle.step.specs.declared.Children.{Children}
use Rattle.complexity.specs.declared.State.{State}
use Rattle.complexity.specs.declared.Noted.{Noted}
use Rattle.complexity.specs.declared.Noted.TheVariants as noted

-- the pair stands in the pair run, under any result
abbrev pub InRun : List ℕ → Pair → Type 0
InRun run p = (v : ℕ) × Stands run p.left p.right v

-- the pair run has k pairs, few enough to be told apart, and room for the most that are allowed
pub record Holds (most : ℕ) (run : List ℕ) (k : ℕ) : Type 0 where
  pub sound : Searchable run
  pub number : count run ≡ k
  pub few : k < 2 ^ 32 - 1
  pub fits : k ≤ most
  pub room : most ≤ pair_room run

-- the pair is new, and noted now
pub record Marked (was now : List ℕ) (p : Pair) (k most : ℕ) : Type 0 where
  pub added : Added was now p.left p.right 0
  pub fits : k < most

-- the pair is noted already
pub record Old (was now : List ℕ) (p : Pair) : Type 0 where
  pub same : now ≡ was
  pub stands : InRun was p

-- the pair is new, and as many as are allowed are noted
pub record Over (was now : List ℕ) (p : Pair) (k most : ℕ) : Type 0 where
  pub same : now ≡ was
  pub absent : Absent was p.left p.right
  pub full : k ≡ most

abbrev pub Notes : ℕ → List ℕ → List ℕ → Pair → ℕ → Noted → Type 0
Notes most was now p k noted.New = Marked was now p k most
Notes most was now p k noted.Known = Old was now p
Notes most was now p k noted.Full = Over was now p k most

-- the stack with both children, the high one on top
abbrev pub pushed : List ℕ → ℕ → Children → List ℕ
pushed stack at next = set (set stack at (code next.off)) (at + 1) (code next.on)

-- at any time: the tally of what is noted and what waits, and the room for it
pub record Exploring (j : Job) (most : ℕ) (run stack : List ℕ) (s : State) : Type 0 where
  pub tally : Tally (pairs_of j) decoded (InRun run) stack s.height s.count s.on
  pub holds : Holds most run s.count
  pub places : 2 * options j.left + 1 ≤ length stack

-- one look more
pub record Went (j : Job) (most : ℕ) (was : State) (run stack : List ℕ) (s : State) : Type 0 where
  pub exploring : Exploring j most run stack s
  pub less : left most s.count s.height < left most was.count was.height

abbrev pub Leaves : Job → ℕ → State → List ℕ → List ℕ → (Option State) → Type 0
Leaves j most was run stack (Some s) = Went j most was run stack s
Leaves j most was run stack None = most < pairs.count j
