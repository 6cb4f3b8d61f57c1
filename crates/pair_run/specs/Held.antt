-- The pair run as a map: which pairs stand in it, with which result, and how many. A run for n pairs has n numbers that lead from a place
-- to the newest pair that belongs there, 0 to none and i + 1 to node i. Then come n nodes of three numbers: the pair's right entry, the
-- node behind it, said the same way, and left entry and result in one, left first, 16 bits each.
use Rattle.std.specs.Prelude.{ℕ, ◌+◌, ◌-◌, ◌*◌, ◌/◌, ◌%◌, ◌^◌, ◌<◌, min, ◌≡◌, List, ◌⊎◌, get_or, set, None, Some, Option}
use Rattle.bdd.specs.Pairs.{Pair, pair, pair_room}
use Rattle.chains.specs.Spread.{spot_of}
use Rattle.chains.specs.Chains.{Chains, Chained, Ended, Unchanged, newest}
use Rattle.chains.specs.declared.Place.{Place}
use Rattle.chains.specs.declared.Stored.{Stored}
use Rattle.chains.specs.declared.Stored.TheVariants.{New, Known, Full}

-- as many pairs as have room, and as one number can tell apart
abbrev pub nodes : List ℕ → ℕ
nodes run = min (pair_room run) (2 ^ 32 - 1)

-- where place b leads
abbrev pub head_at : List ℕ → ℕ → ℕ
head_at run b = get_or run b 0

-- the three numbers of node i, in a run for n pairs
abbrev pub right_at : ℕ → List ℕ → ℕ → ℕ
right_at n run i = get_or run (n + 3 * i) 0

abbrev pub behind_at : ℕ → List ℕ → ℕ → ℕ
behind_at n run i = get_or run (n + 3 * i + 1) 0

abbrev pub left_at : ℕ → List ℕ → ℕ → ℕ
left_at n run i = get_or run (n + 3 * i + 2) 0 / 2 ^ 16

abbrev pub result_at : ℕ → List ℕ → ℕ → ℕ
result_at n run i = get_or run (n + 3 * i + 2) 0 % 2 ^ 16

abbrev pub key_at : ℕ → List ℕ → ℕ → Pair
key_at n run i = pair (left_at n run i) (right_at n run i)

abbrev pub chains_of : ℕ → List ℕ → Chains Pair
chains_of n run =
    record {
      places = n;
      nodes = n;
      spot = λ p. spot_of n p.left p.right;
      head = head_at run;
      behind = behind_at n run;
      key = key_at n run;
    }

-- how many pairs stand in the run: nodes are filled one after the other, and the newest is the first of its chain
unfoldable pub count : List ℕ → ℕ
count run = newest (head_at run) (nodes run)

-- the pair of l and r stands at node i, with the result v
pub record Noted (run : List ℕ) (i l r v : ℕ) : Type 0 where
  pub below : i < count run
  pub left : left_at (nodes run) run i ≡ l
  pub right : right_at (nodes run) run i ≡ r
  pub result : result_at (nodes run) run i ≡ v

-- it stands in the run
pub record Stands (run : List ℕ) (l r v : ℕ) : Type 0 where
  pub node : ℕ
  pub noted : Noted run node l r v

-- it does not, with any result
abbrev pub Absent : List ℕ → ℕ → ℕ → Type 0
Absent run l r = (v : ℕ) → Stands run l r v → ⊥

-- the run is as `insert` leaves one that was all zero: each pair is where its search comes to, and stands once
unfoldable pub Searchable : List ℕ → Type 0
Searchable run = Chained (chains_of (nodes run) run) (count run)

-- what a look-up answers: the result under which the pair stands, or that it does not
abbrev pub Found : List ℕ → ℕ → ℕ → (Option ℕ) → Type 0
Found run l r (Some v) = Stands run l r v
Found run l r None = Absent run l r

-- the pair of l and r was added with the result v, and every other pair stands as before
pub record Added (was now : List ℕ) (l r v : ℕ) : Type 0 where
  pub absent : Absent was l r
  pub free : count was < nodes was
  pub sound : Searchable now
  pub noted : Noted now (count was) l r v
  pub kept : (i a b w : ℕ) → Noted was i a b w → Noted now i a b w
  pub only : (i a b w : ℕ) → Noted now i a b w → ((i ≡ count was) × (a ≡ l) × (b ≡ r) × (w ≡ v)) ⊎ Noted was i a b w
  pub counted : count now ≡ count was + 1

-- the result of node i is v now, and nothing else has changed
pub record Changed (was now : List ℕ) (i v : ℕ) : Type 0 where
  pub sound : Searchable now
  pub counted : count now ≡ count was
  pub noted : (a b w : ℕ) → Noted was i a b w → Noted now i a b v
  pub kept : (k a b w : ℕ) → (k ≡ i → ⊥) → Noted was k a b w → Noted now k a b w
  pub only : (k a b w : ℕ) → Noted now k a b w → ((k ≡ i) × (w ≡ v)) ⊎ Noted was k a b w

-- nothing stands in the run
pub record Empty (run : List ℕ) : Type 0 where
  pub sound : Searchable run
  pub none : count run ≡ 0
  pub absent : (l r : ℕ) → Absent run l r

-- the pair is not there, and every node is taken
pub record NoPlace (run : List ℕ) (l r : ℕ) : Type 0 where
  pub absent : Absent run l r
  pub full : count run ≡ nodes run

-- what an insertion answers: the pair was added, or stood there already, with this result, or every node was taken
abbrev pub Inserted : List ℕ → List ℕ → ℕ → ℕ → ℕ → Stored → Type 0
Inserted was now l r v New = Added was now l r v
Inserted was now l r v (Known w) = Stands was l r w
Inserted was now l r v Full = NoPlace was l r

-- k pairs stand in the run, and left entry and result are small enough for one number
pub record Ready (run : List ℕ) (l v k : ℕ) : Type 0 where
  pub sound : Searchable run
  pub number : count run ≡ k
  pub left_small : l < 2 ^ 16
  pub result_small : v < 2 ^ 16

-- an insertion of the pair of l and r with the result v as the pair number k, and its answer
pub record Insertion (was now : List ℕ) (l r v k : ℕ) (answer : Stored) : Type 0 where
  pub unchanged : Unchanged was now answer
  pub inserted : Ready was l v k → Inserted was now l r v answer

-- the run with a pair and its result in node i, first in the chain of place b
unfoldable pub written : ℕ → List ℕ → ℕ → ℕ → ℕ → ℕ → ℕ → List ℕ
written n run b i l r v =
    set (set (set (set run (n + 3 * i) r) (n + 3 * i + 1) (head_at run b)) (n + 3 * i + 2) (l % 2 ^ 16 * 2 ^ 16 + v % 2 ^ 16)) b (i + 1)

-- where the search for the pair of l and r ended
abbrev pub Searched : List ℕ → ℕ → ℕ → Place → Type 0
Searched run l r end = Ended (chains_of (nodes run) run) (pair l r) end
