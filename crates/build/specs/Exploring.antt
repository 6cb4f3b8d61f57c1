-- The loop's invariant: the exploration of tasks, with pairs for tasks, the pair run for what is known, the stack run for what
-- waits, and the output runs for what is written.
use Rattle.std.specs.Prelude.{◌≡◌, ℕ, ◌-◌, ◌<◌, List, length, get_or, None, Some, Option}
use Rattle.bdd.specs.Array.{Entry, Runs, options}
use Rattle.bdd.specs.Signed.{signed, high_first}
use Rattle.bdd.specs.Pairs.{Job, Checked, Pair, pairs_of, result, asked, among, count}
use Rattle.bdd.specs.Lent.{Flip}
use Rattle.pair_run.specs.Held as held
use Rattle.index_run.specs.Placing.{Output}
use Rattle.counting.proofs.First.{first}
use Rattle.counting.proofs.Stack.{stacked}
use Rattle.tasks.proofs.Build.{Build}
use Rattle.tasks.proofs.Measure.{looks_left}
use Rattle.pairs.proofs.Pairs.{pair_tasks}
use Rattle.step.specs.Step.{decoded}
use Rattle.build.specs.declared.State.{State}
use Rattle.build.specs.Looks.{Known}

-- the pair on top of the stack
abbrev pub top : List ℕ → ℕ → Pair
top stack height = decoded (get_or stack (height - 1) 0)

-- the state of the loop: the entries that are written, and that the exploration of tasks stands with them
pub record Exploring (j : Job) (out : Flip) (most : ℕ) (was : Runs) (pairs stack index : List ℕ) (now : Runs) (s : State) : Type 0 where
  pub checked : Checked j
  pub memo : held.Searchable pairs
  pub number : held.count pairs ≡ s.count
  pub entries : List Entry
  pub built : Build (pair_tasks checked out) (Known pairs) (stacked decoded stack s.height) entries
  pub written : Output most was index now s.next entries

-- a pair waits, so a turn is due
pub record Underway (j : Job) (out : Flip) (most : ℕ) (pairs stack index : List ℕ) (now : Runs) (s : State) : Type 0 where
  pub live : 0 < s.height
  pub was : Runs
  pub state : Exploring j out most was pairs stack index now s

-- the pairs that stand in the run
unfoldable pub kept : List ℕ → List Pair
kept run = first (held.key_at (held.nodes run) run) (held.count run)

-- the looks that are left, at most
abbrev pub looks : Job → List ℕ → List ℕ → ℕ → ℕ
looks j pairs stack height =
    looks_left (options j.left) (count j) (held.count pairs) (among (pairs_of j) (top stack height) (kept pairs)) height
    (asked j (top stack height))

-- the loop goes on, and fewer looks are left
pub record Advanced (j : Job) (out : Flip) (most : ℕ) (was : Runs) (left : ℕ) (pairs stack index : List ℕ) (now : Runs) (s : State) : Type 0 where
  pub state : Exploring j out most was pairs stack index now s
  pub less : looks j pairs stack s.height < left

-- a turn goes on with the loop; or the array is longer than `most`
abbrev pub Turned : Job → Flip → ℕ → Runs → ℕ → List ℕ → List ℕ → List ℕ → Runs → Option State → Type 0
Turned j out most was left pairs stack index now (Some s) = Advanced j out most was left pairs stack index now s
Turned j out most was left pairs stack index now None = most < length (signed high_first (options j.left) (result j out))
