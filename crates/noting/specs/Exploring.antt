-- Where the exploration begins, what it keeps from look to look, and what one look does.
use Rattle.std.specs.Prelude.{ℕ, ◌+◌, ◌<◌, ◌≡◌, Bool, true, ◌||◌, List, [], ◌⊎◌, eqb, None, Some, Option}
use Rattle.bdd.specs.Pairs.{Job, Pair, pairs_of, undecided, roots, pair_room}
use Rattle.bdd.specs.Pairs as pairs
use Rattle.counting.proofs.Reaching.{Reach}
use Rattle.pair_run.specs.Held.{Searchable, Added, NoPlace, nodes, key_at, count}
use Rattle.complexity.specs.Exploring.{InRun}
use Rattle.step.specs.Step.{decision_in}
use Rattle.noting.specs.Queue.{Queue}
use Rattle.noting.specs.declared.State.{State}
use Rattle.noting.specs.declared.Taken.{Taken}

-- the pair that was noted as number i
abbrev pub pair_of : List ℕ → ℕ → Pair
pair_of run i = key_at (nodes run) run i

-- k pairs stand in the run
pub record Holds (run : List ℕ) (k : ℕ) : Type 0 where
  pub sound : Searchable run
  pub number : count run ≡ k

-- and all of them are reached and undecided, the root among them, with any results
pub record Begun (j : Job) (run : List ℕ) (k : ℕ) : Type 0 where
  pub sound : Searchable run
  pub number : count run ≡ k
  pub reached : (p : Pair) → InRun run p → Reach (pairs_of j) p
  pub asks : (p : Pair) → InRun run p → undecided j p ≡ true
  pub root : InRun run (roots j)

-- the table decides the pair: on or off
pub record Decided (table was now : List ℕ) (p : Pair) (k : ℕ) (on : Bool) (k' : ℕ) (on' : Bool) : Type 0 where
  pub decided : decision_in table p ≡ 2 → ⊥
  pub same : now ≡ was
  pub number : k' ≡ k
  pub flag : on' ≡ (eqb (decision_in table p) 1 || on)

-- it is undecided, and noted already
pub record Old (table was now : List ℕ) (p : Pair) (k : ℕ) (on : Bool) (k' : ℕ) (on' : Bool) : Type 0 where
  pub asks : decision_in table p ≡ 2
  pub stands : InRun was p
  pub same : now ≡ was
  pub number : k' ≡ k
  pub flag : on' ≡ on

-- it is undecided and new, and noted now
pub record Marked (table was now : List ℕ) (p : Pair) (k : ℕ) (on : Bool) (k' : ℕ) (on' : Bool) : Type 0 where
  pub asks : decision_in table p ≡ 2
  pub added : Added was now p.left p.right 0
  pub number : k' ≡ k + 1
  pub flag : on' ≡ on

-- it is undecided and new, and every node is taken
pub record Over (table was : List ℕ) (p : Pair) : Type 0 where
  pub asks : decision_in table p ≡ 2
  pub none : NoPlace was p.left p.right

abbrev pub Takes : List ℕ → List ℕ → List ℕ → Pair → ℕ → Bool → Option Taken → Type 0
Takes table was now p k on (Some t) =
    Decided table was now p k on t.count t.on ⊎ (Old table was now p k on t.count t.on ⊎ Marked table was now p k on t.count t.on)
Takes table was now p k on None = Over table was p

-- k pairs stand in the run, of which d were looked at, and `more` waits
pub record Underway (j : Job) (run : List ℕ) (more : List Pair) (d k : ℕ) (on : Bool) : Type 0 where
  pub holds : Holds run k
  pub queue : Queue (pairs_of j) (pair_of run) more d k on

-- from look to look
abbrev pub Exploring : Job → List ℕ → State → Type 0
Exploring j run s = Underway j run [] s.done s.count s.on

-- one look more
pub record Went (j : Job) (run : List ℕ) (was s : State) : Type 0 where
  pub exploring : Exploring j run s
  pub further : s.done ≡ was.done + 1

-- the exploration goes on, or there are more pairs than the run has room for
abbrev pub Leaves : Job → List ℕ → List ℕ → State → (Option State) → Type 0
Leaves j was now state (Some s) = Went j now state s
Leaves j was now state None = pair_room was < pairs.count j
