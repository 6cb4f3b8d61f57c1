-- The words of the exploration: the map run as what is known, what a look at the top of the stack finds, what a turn does, and what
-- holds before each turn of the loop.
use Rattle.std.specs.Prelude.{◌≡◌, ℕ, zero, suc, ◌+◌, ◌-◌, ◌*◌, ◌%◌, ◌^◌, ◌<◌, ◌≤◌, true, false, cond, not, ◌⊎◌, List, [], ◌∷◌, length, drop, ◌==◌, slice_index, slice_index_or, slice_set, None, Some, Option}
use Rattle.bdd.specs.Bounds.{most_entries}
use Rattle.bdd.specs.Array.{Entry, Runs, var_of, size, options, ordered}
use Rattle.bdd.specs.Value.{Function, value}
use Rattle.bdd.specs.Signed.{signed, low_first}
use Rattle.bdd.specs.Jobs.{restricted}
use Rattle.bdd.specs.Answers.{all_zero}
use Rattle.bdd.specs.declared.BddNode.{BddNode}
use Rattle.index_run.specs.Placing.{Fit, Output, Placement}
use Rattle.counting.proofs.Stack.{stacked}
use Rattle.tasks.proofs.Build.{Build}
use Rattle.tasks.proofs.Measure.{looks_left}
use Rattle.ending.specs.declared.Explored.{Explored}
use Rattle.ending.specs.declared.Explored.TheVariants as explored
use Rattle.restriction.specs.Entries.{followed, entry_tasks}
use Rattle.restriction.specs.declared.exploration.Seen.{Seen}
use Rattle.restriction.specs.declared.exploration.Seen.TheVariants as seen
use Rattle.restriction.specs.declared.exploration.State.{State}

-- the set is ordered, and there is a value for each of its options: what the refusals 2, 5 and 10 have tested
pub record Checked (a : Runs) (values : List ℕ) : Type 0 where
  pub ordered : ordered a ≡ true
  pub values_fit : length values ≡ options a

-- the lent runs are long enough for the set, and for `most` entries
pub record Rooms (a : Runs) (most : ℕ) (out : Runs) (stack index map : List ℕ) : Type 0 where
  pub few : most ≤ most_entries
  pub output_fits : Fit out most
  pub stack_fits : 2 * options a + 1 ≤ length stack
  pub index_fits : most ≤ length index
  pub map_fits : size a ≤ length map

-- the value that the restriction must have
abbrev pub restricted_value : Runs → List ℕ → Function
restricted_value a values = restricted values (value a)

-- the map run holds 1 more than the number of the entry as which entry i is finished, or 0; at first it has the terminals alone
abbrev pub opened : List ℕ → List ℕ
opened map = slice_set (slice_set (all_zero map) 0 1) 1 2

-- an entry that is no terminal is finished as entry v
abbrev pub Known : List ℕ → ℕ → ℕ → Type 0
Known map i v = (2 ≤ i) × (slice_index map i ≡ v + 1)

-- the option that entry i asks, and where it leads
pub record Leads (a : Runs) (values : List ℕ) (i : ℕ) (r : BddNode) : Type 0 where
  pub ask : r.variable ≡ var_of a i
  pub low : r.low ≡ followed a values false i
  pub high : r.high ≡ followed a values true i

-- an entry needs no look of its own, or it needs one
abbrev pub Replied : List ℕ → ℕ → (Option ℕ) → Type 0
Replied map i (Some v) = slice_index map i ≡ v + 1
Replied map i None = slice_index map i ≡ 0

-- entry i is within the runs of the set, and its option has a value
pub record Within (a : Runs) (values : List ℕ) (i : ℕ) : Type 0 where
  pub variable : i < size a
  pub low : i < length a.low
  pub high : i < length a.high
  pub option : var_of a i < length values

-- entry i and where it leads are within the map run too
pub record Sighted (a : Runs) (values map : List ℕ) (i : ℕ) : Type 0 where
  pub within : Within a values i
  pub mapped : i < length map
  pub low : followed a values false i < length map
  pub high : followed a values true i < length map

-- the entry is not known, and both links have their answers: the new entry has them
pub record IsReady (a : Runs) (values map : List ℕ) (i : ℕ) (e : BddNode) : Type 0 where
  pub absent : slice_index_or map i 0 ≡ 0
  pub asks : e.variable ≡ var_of a i
  pub low : Replied map (followed a values false i) (Some e.low)
  pub high : Replied map (followed a values true i) (Some e.high)

-- the entry is not known, and its low link needs a look
pub record WantsLow (a : Runs) (values map : List ℕ) (i q : ℕ) : Type 0 where
  pub absent : slice_index_or map i 0 ≡ 0
  pub same : q ≡ followed a values false i
  pub misses : Replied map (followed a values false i) None

-- its low link has its answer, and its high link needs a look
pub record WantsHigh (a : Runs) (values map : List ℕ) (i q : ℕ) : Type 0 where
  pub absent : slice_index_or map i 0 ≡ 0
  pub number : ℕ
  pub low : Replied map (followed a values false i) (Some number)
  pub same : q ≡ followed a values true i
  pub misses : Replied map (followed a values true i) None

-- what a look at an entry finds
abbrev pub Looked : Runs → List ℕ → List ℕ → ℕ → Seen → Type 0
Looked a values map i seen.Finished = slice_index map i ≡ 0 → ⊥
Looked a values map i (seen.Wants q) = WantsLow a values map i q ⊎ WantsHigh a values map i q
Looked a values map i (seen.Ready e) = IsReady a values map i e

-- the entry is known with the number that was placed; the sum wraps, which no number of an entry comes to
abbrev pub Settling : List ℕ → List ℕ → ℕ → Placement → Type 0
Settling was now i (Some p) = now ≡ slice_set was i ((p.number + 1) % 2 ^ 32)
Settling was now i None = now ≡ was

-- the root is known with this number, or needs a look
abbrev pub Concludes : List ℕ → ℕ → ℕ → Explored → Type 0
Concludes map root next (explored.Array v behind) = Replied map root (Some v) × (behind ≡ next)
Concludes map root next explored.NoPairRoom = ⊥
Concludes map root next explored.Long = Replied map root None

-- a number of the stack is an entry
abbrev pub itself : ℕ → ℕ
itself i = i

-- the entries that wait in the run, the last first
abbrev pub below : List ℕ → ℕ → List ℕ
below stack h = stacked itself (drop 1 stack) h

-- the entries that are not done, the one that is looked at first
abbrev pub undone : ℕ → List ℕ → ℕ → List ℕ
undone top stack zero = []
undone top stack (suc h) = top ∷ below stack h

-- the entry that is looked at is done with
abbrev pub popped : List ℕ → ℕ → ℕ → State
popped stack height next = record { top = slice_index stack (height - 1); height = height - 1; next = next }

-- the state of the loop: the entries that are written, and that the exploration of tasks stands with them
pub record Exploring (a : Runs) (values : List ℕ) (most : ℕ) (was : Runs) (stack index map : List ℕ) (now : Runs) (s : State) : Type 0 where
  pub checked : Checked a values
  pub entries : List Entry
  pub built : Build (entry_tasks a values checked.ordered) (Known map) (undone s.top stack s.height) entries
  pub written : Output most was index now s.next entries
  pub terminals : (i : ℕ) → i < 2 → slice_index map i ≡ i + 1
  pub numbers : (i : ℕ) → slice_index map i ≤ s.next

-- an entry is not done, so a turn is due
pub record Underway (a : Runs) (values : List ℕ) (most : ℕ) (stack index map : List ℕ) (now : Runs) (s : State) : Type 0 where
  pub live : 0 < s.height
  pub was : Runs
  pub state : Exploring a values most was stack index map now s

-- how many numbers of a run are not 0
unfoldable pub marked : List ℕ → ℕ
marked [] = 0
marked (x ∷ xs) = cond (x == 0) (marked xs) (suc (marked xs))

-- the looks that are left, at most
abbrev pub looks : Runs → List ℕ → State → ℕ
looks a map s =
    looks_left (options a) (length map) (marked map) (not (slice_index map s.top == 0)) s.height (var_of a s.top)

-- the loop goes on, and fewer looks are left
pub record Advanced (a : Runs) (values : List ℕ) (most : ℕ) (was : Runs) (left : ℕ) (stack index map : List ℕ) (now : Runs) (s : State) : Type 0 where
  pub state : Exploring a values most was stack index map now s
  pub less : looks a map s < left

-- a turn goes on with the loop; or the array is longer than `most`
abbrev pub Turned : Runs → List ℕ → ℕ → Runs → ℕ → List ℕ → List ℕ → List ℕ → Runs → (Option State) → Type 0
Turned a values most was left stack index map now (Some s) = Advanced a values most was left stack index map now s
Turned a values most was left stack index map now None = most < length (signed low_first (options a) (restricted_value a values))
