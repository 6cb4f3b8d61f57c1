-- "Pairs, counts, sizes": what an exploration reaches, whatever its tasks are; the pairs that an operator reaches, c, T, "can it
-- hold"; and the rooms W and R.
use Rattle.std.specs.Prelude.{ℕ, zero, suc, ◌/◌, min, max, ◌≡◌, Bool, true, false, cond, not, ◌&&◌, ◌||◌, List, [], ◌∷◌, ◌++◌, length, eqb, None, Some}
use Rattle.bdd.specs.Bounds.{most_entries}
use Rattle.bdd.specs.Array.{Runs, var_of, low_link_of, high_link_of, root, options, ordered}
use Rattle.bdd.specs.Value.{Function, value}
use Rattle.bdd.specs.Table.{answer, good}
use Rattle.bdd.specs.Jobs.{operated}
use Rattle.bdd.specs.Lent.{Flip, set_of}
use Rattle.bdd.specs.declared.Pair as declared
use Rattle.bdd.specs.declared.Operands.{Operands}

-- An exploration over so many options: the table's answer at a task, 2 where it is undecided; the option that an undecided task asks,
-- and its child where that option is off or on; whether two tasks are the same; and the task that it starts from
pub record Exploration (T : Type 0) : Type 0 where
  pub options : ℕ
  pub decision : T → ℕ
  pub asked : T → ℕ
  pub child : Bool → T → T
  pub same : T → T → Bool
  pub root : T

module _ {T : Type 0} (x : Exploration T) where
  abbrev pub undecided_in : T → Bool
  undecided_in p = eqb (x.decision p) 2

  abbrev pub on_in : T → Bool
  on_in p = eqb (x.decision p) 1

  -- the children of the undecided ones
  unfoldable pub next : List T → List T
  next [] = []
  next (p ∷ ps) = cond (undecided_in p) (x.child true p ∷ x.child false p ∷ []) [] ++ next ps

  -- the tasks that stand k steps or fewer behind these
  unfoldable pub within : ℕ → List T → List T
  within zero ps = ps
  within (suc k) ps = ps ++ within k (next ps)

  -- the tasks reached from the root: each step asks a greater option, so n steps reach all
  abbrev pub reached_in : List T
  reached_in = within x.options (x.root ∷ [])

  unfoldable pub among : T → List T → Bool
  among p [] = false
  among p (q ∷ qs) = x.same p q || among p qs

  -- how many different tasks of the list are undecided
  unfoldable pub different : List T → ℕ
  different [] = 0
  different (p ∷ ps) = cond (undecided_in p && not (among p ps)) (suc (different ps)) (different ps)

  -- some task of the list is decided as on
  unfoldable pub some_on : List T → Bool
  some_on [] = false
  some_on (p ∷ ps) = on_in p || some_on ps

-- one entry of the left set and one of the right
abbrev pub Pair : Type 0
Pair = declared.Pair

abbrev pub pair : ℕ → ℕ → Pair
pair i j = record { left = i; right = j }

-- two sets, the table, and each set's own flip
pub record Job : Type 0 where
  pub left : Runs
  pub right : Runs
  pub table : List ℕ
  pub flip_left : Flip
  pub flip_right : Flip

abbrev pub job : Runs → Runs → List ℕ → Flip → Flip → Job
job a b table left right = record { left = a; right = b; table = table; flip_left = left; flip_right = right }

-- the job that a call is lent
abbrev pub job_of : Operands → Job
job_of o = job (set_of o.left) (set_of o.right) o.table.now o.flips.left o.flips.right

-- both sets are ordered, over the same options, and the table is good: what the refusals 1 to 4 have tested
pub record Checked (j : Job) : Type 0 where
  pub left : ordered j.left ≡ true
  pub right : ordered j.right ≡ true
  pub same_options : options j.left ≡ options j.right
  pub table : good 2 j.table ≡ true

-- the value that the job must have at a setting, with the output's flip
abbrev pub result : Job → Flip → Function
result j output = operated j.table j.flip_left j.flip_right output (value j.left) (value j.right)

-- the table's answer at a pair: entry 0 is off, entry 1 on, any other not yet known
unfoldable pub decision : Job → Pair → ℕ
decision j p = answer j.table (min p.left 2 ∷ min p.right 2 ∷ [])

-- the smaller variable of the two entries
unfoldable pub asked : Job → Pair → ℕ
asked j p = min (var_of j.left p.left) (var_of j.right p.right)

unfoldable pub flipped : Flip → ℕ → Bool
flipped None v = false
flipped (Some w) v = eqb w v

-- the side whose variable is asked moves to its child on side b, swapped where it is flipped; the other side stays
unfoldable pub moved : Runs → Flip → ℕ → Bool → ℕ → ℕ
moved a f v b i =
    cond (eqb (var_of a i) v)
    (cond (cond (flipped f v) (not b) b) (high_link_of a i) (low_link_of a i))
    i

unfoldable pub child : Job → Bool → Pair → Pair
child j b p =
    pair (moved j.left j.flip_left (asked j p) b p.left) (moved j.right j.flip_right (asked j p) b p.right)

abbrev pub same_pair : Pair → Pair → Bool
same_pair p q = eqb p.left q.left && eqb p.right q.right

unfoldable pub roots : Job → Pair
roots j = pair (root j.left) (root j.right)

-- from the two roots, an undecided pair leads to its two child pairs
abbrev pub pairs_of : Job → Exploration Pair
pairs_of j =
    record {
      options = options j.left;
      decision = decision j;
      asked = asked j;
      child = child j;
      same = same_pair;
      root = roots j;
    }

abbrev pub undecided : Job → Pair → Bool
undecided j = undecided_in (pairs_of j)

unfoldable pub reached : Job → List Pair
reached j = reached_in (pairs_of j)

-- c
unfoldable pub count : Job → ℕ
count j = different (pairs_of j) (reached j)

-- T: c, or 1 when c is 0
unfoldable pub tasks : Job → ℕ
tasks j = max (count j) 1

-- "can it hold": some reached pair is decided as on
unfoldable pub can_hold : Job → Bool
can_hold j = some_on (pairs_of j) (reached j)

-- W: the shortest length of the three output runs, or 4,096 if that is less
abbrev pub shortest : ℕ → ℕ → ℕ → ℕ
shortest a b c = min (min a (min b c)) most_entries

abbrev pub room : Runs → ℕ
room out = shortest (length out.variable) (length out.low) (length out.high)

-- R: the length of the pair run divided by 4, rounded down
unfoldable pub pair_room : List ℕ → ℕ
pair_room run = length run / 4
