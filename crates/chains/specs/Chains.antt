-- Nodes in chains, over any kind of key: the walk of a search along them, and what makes that search right.
use Rattle.std.specs.Prelude.{ℕ, zero, suc, ◌<◌, ◌≤◌, max, ◌≡◌, Bool, true, false, cond, List, length, eqb}
use Rattle.chains.specs.declared.Trail.{Trail}
use Rattle.chains.specs.declared.Trail.TheVariants as trail
use Rattle.chains.specs.declared.Place.{Place}
use Rattle.chains.specs.declared.Place.TheVariants.{At, Free, Nowhere}
use Rattle.chains.specs.declared.Stored.{Stored}
use Rattle.chains.specs.declared.Stored.TheVariants as stored

-- so many nodes make a chain full, and a search goes to so many places at most
abbrev pub full : ℕ
full = 4

abbrev pub tries : ℕ
tries = 8

-- the places below `places` and the nodes below `nodes`: `head` leads from a place and `behind` from a node to a node, 0 to none and i + 1 to
-- node i; `key` is what a node has, and `spot` the place of a key after so many others
pub record Chains (K : Type 0) : Type 0 where
  pub places : ℕ
  pub nodes : ℕ
  pub spot : K → ℕ → ℕ
  pub head : ℕ → ℕ
  pub behind : ℕ → ℕ
  pub key : ℕ → K

-- where `home` says to which place a node belongs: of the nodes below n that belong to place b, the last, as one more than its number,
-- or 0 if there is none
unfoldable pub latest : (ℕ → ℕ) → ℕ → ℕ → ℕ
latest home b zero = 0
latest home b (suc n) = cond (eqb (home n) b) (suc n) (latest home b n)

-- and how many there are
unfoldable pub load : (ℕ → ℕ) → ℕ → ℕ → ℕ
load home b zero = 0
load home b (suc n) = cond (eqb (home n) b) (suc (load home b n)) (load home b n)

-- b is a place of k, and the chains at all places of k before it are full
pub record Comes {K : Type 0} (t : Chains K) (home : ℕ → ℕ) (n : ℕ) (k : K) (b : ℕ) : Type 0 where
  pub after : ℕ
  pub few : after < tries
  pub here : t.spot k after ≡ b
  pub over : (d : ℕ) → d < after → full ≤ load home (t.spot k d) n

-- the nodes below n belong to the places that `home` says: each is in the chain of its place, which has the newest first, at a place
-- to which the search for its key comes; and no key stands twice
pub record Linked {K : Type 0} (t : Chains K) (home : ℕ → ℕ) (n : ℕ) : Type 0 where
  pub fits : n ≤ t.nodes
  pub heads : (b : ℕ) → b < t.places → t.head b ≡ latest home b n
  pub followers : (i : ℕ) → i < n → t.behind i ≡ latest home (home i) i
  pub comes : (i : ℕ) → i < n → Comes t home n (t.key i) (home i)
  pub single : (i j : ℕ) → i < n → j < n → t.key i ≡ t.key j → i ≡ j

pub record Chained {K : Type 0} (t : Chains K) (n : ℕ) : Type 0 where
  pub home : ℕ → ℕ
  pub linked : Linked t home n

-- the greatest of what the places below b lead to: the newest node is the first of its chain, so this is how many nodes there are
unfoldable pub newest : (ℕ → ℕ) → ℕ → ℕ
newest head zero = 0
newest head (suc b) = max (head b) (newest head b)

-- k stands at no node below n; and at none that belongs to place b
abbrev pub NowhereBelow : {K : Type 0} → Chains K → ℕ → K → Type 0
NowhereBelow t n k = (i : ℕ) → i < n → t.key i ≡ k → ⊥

abbrev pub NoneOf : {K : Type 0} → Chains K → (ℕ → ℕ) → ℕ → K → ℕ → Type 0
NoneOf t home n k b = (i : ℕ) → i < n → home i ≡ b → t.key i ≡ k → ⊥

-- node i has k, and it is one of the nodes in use
pub record Has {K : Type 0} (t : Chains K) (k : K) (i : ℕ) : Type 0 where
  pub within : i < t.nodes
  pub equal : t.key i ≡ k
  pub used : (home : ℕ → ℕ) (n : ℕ) → Linked t home n → i < n

-- what a walk along the chain of place b tells of all its nodes: they are m, and none has k
pub record WalkedBy {K : Type 0} (t : Chains K) (home : ℕ → ℕ) (n : ℕ) (k : K) (b m : ℕ) : Type 0 where
  pub counted : m ≡ load home b n
  pub none : NoneOf t home n k b

-- where a walk along the chain of place b ends, in the search for k
abbrev pub Walked : {K : Type 0} → Chains K → K → ℕ → Trail → Type 0
Walked t k b (trail.At i) = Has t k i
Walked t k b (trail.End m) = (home : ℕ → ℕ) (n : ℕ) → Linked t home n → WalkedBy t home n k b m

-- k stands nowhere, and place b is where it belongs
pub record OpenAt {K : Type 0} (t : Chains K) (home : ℕ → ℕ) (n : ℕ) (k : K) (b : ℕ) : Type 0 where
  pub comes : Comes t home n k b
  pub nowhere : NowhereBelow t n k

pub record Open {K : Type 0} (t : Chains K) (k : K) (b : ℕ) : Type 0 where
  pub within : b < t.places
  pub at : (home : ℕ → ℕ) (n : ℕ) → Linked t home n → OpenAt t home n k b

-- where the search for k ended
abbrev pub Ended : {K : Type 0} → Chains K → K → Place → Type 0
Ended t k (At i) = Has t k i
Ended t k (Free b) = Open t k b
Ended t k Nowhere = t.places ≡ 0

-- b says whether P holds
abbrev pub Says : Bool → Type 0 → Type 0
Says true P = P
Says false P = P → ⊥

-- only an insertion that adds changes the run
abbrev pub Unchanged : List ℕ → List ℕ → Stored → Type 0
Unchanged was now stored.New = length now ≡ length was
Unchanged was now (stored.Known v) = now ≡ was
Unchanged was now stored.Full = now ≡ was
