-- The numbers that the entries of two sets get by what they mean, and what giving them promises.
use Rattle.std.specs.Prelude.{◌≡◌, ℕ, ◌+◌, ◌*◌, ◌/◌, ◌%◌, ◌<◌, ◌≤◌, true, false, cond, ◌≢◌, List, length, drop, nat_lt, slice_index}
use Rattle.bdd.specs.Bounds.{factor}
use Rattle.bdd.specs.Array.{Runs, var_of, low_link_of, high_link_of, size, ordered}
use Rattle.bdd.specs.Value.{Setting, Function, value_at}
use Rattle.bdd.specs.Pairs.{pair_room}
use Rattle.pair_run.specs.Held as held

-- the number of entry i of the set whose numbers begin at `from`: a terminal's is its own
abbrev pub number_at : List ℕ → ℕ → ℕ → ℕ
number_at room from i = cond (nat_lt i 2) i (slice_index room (from + i))

-- what is looked up beside the option: the numbers of both links
abbrev pub linked : ℕ → ℕ → ℕ
linked l h = l * factor + h

-- the number p stands in the pair run under an option and two numbers below k, of which f tells what they mean
pub record Key (f : ℕ → Function) (k v links p : ℕ) : Type 0 where
  pub below : p < k
  pub low_below : links / factor < k
  pub high_below : links % factor < k
  pub means : (σ : Setting) → f p σ ≡ cond (σ v) (f (links % factor) σ) (f (links / factor) σ)

-- the numbers below k are given, and f is what they mean
pub record Meanings (pairs : List ℕ) (k : ℕ) (f : ℕ → Function) : Type 0 where
  pub sound : held.Searchable pairs
  pub least : 2 ≤ k
  pub counted : held.count pairs + 2 ≡ k
  pub off : (σ : Setting) → f 0 σ ≡ false
  pub on : (σ : Setting) → f 1 σ ≡ true
  pub keys : (v links p : ℕ) → held.Stands pairs v links p → Key f k v links p

-- more numbers are given, and those below k mean what they did
pub record Grown (pairs later : List ℕ) (f g : ℕ → Function) (k m : ℕ) : Type 0 where
  pub least : k ≤ m
  pub same : (p : ℕ) → p < k → g p ≡ f p
  pub kept : (v links p : ℕ) → held.Stands pairs v links p → held.Stands later v links p

-- p is the number of an entry of option v whose links have the numbers l and h
pub data Own (pairs : List ℕ) (v l h p : ℕ) : Type 0 where
  passed : l ≡ h → p ≡ l → Own pairs v l h p
  found : l ≢ h → held.Stands pairs v (linked l h) p → Own pairs v l h p

-- small enough to be looked up
pub record Small (l h k : ℕ) : Type 0 where
  pub low : l < factor
  pub high : h < factor
  pub next : k < factor

-- the links have their numbers, and there is a place for one more
pub record HasPlace (pairs : List ℕ) (l h k : ℕ) : Type 0 where
  pub low : l < k
  pub high : h < k
  pub place : k < pair_room pairs + 2

-- an entry got the number p, and the next one is m
pub record Gives (pairs later : List ℕ) (f : ℕ → Function) (v l h k p m : ℕ) : Type 0 where
  pub meaning : ℕ → Function
  pub state : Meanings later m meaning
  pub grown : Grown pairs later f meaning k m
  pub most : m ≤ k + 1
  pub below : p < m
  pub own : Own later v l h p
  pub means : (σ : Setting) → meaning p σ ≡ cond (σ v) (f h σ) (f l σ)

-- entry i of a set is about to get its number
pub record Due (a : Runs) (room : List ℕ) (from end i k : ℕ) : Type 0 where
  pub in_variable : i < size a
  pub in_low : i < length a.low
  pub in_high : i < length a.high
  pub low_back : low_link_of a i < i
  pub high_back : high_link_of a i < i
  pub within : from + i < end
  pub long : end ≤ length room
  pub few : k < factor
  pub links : HasPlace (drop end room) (number_at room from (low_link_of a i)) (number_at room from (high_link_of a i)) k

-- it got it, and no other has changed
pub record Gets (a : Runs) (room later : List ℕ) (from end i : ℕ) (f : ℕ → Function) (k m : ℕ) : Type 0 where
  pub given : ℕ
  pub gives : Gives (drop end room) (drop end later) f (var_of a i) (number_at room from (low_link_of a i)) (number_at room from (high_link_of a i)) k given m
  pub here : slice_index later (from + i) ≡ given
  pub others : (j : ℕ) → j < end → j ≢ from + i → slice_index later j ≡ slice_index room j

-- the number of entry i of a set is below k, means what the entry means, and is its own
pub record Named (a : Runs) (pairs : List ℕ) (f : ℕ → Function) (k : ℕ) (numbers : ℕ → ℕ) (i : ℕ) : Type 0 where
  pub below : numbers i < k
  pub means : (σ : Setting) → f (numbers i) σ ≡ value_at a i σ
  pub own : 2 ≤ i → Own pairs (var_of a i) (numbers (low_link_of a i)) (numbers (high_link_of a i)) (numbers i)

-- a set whose entries are about to get their numbers, and the room for them
pub record Numberable (a : Runs) (room : List ℕ) (from end k : ℕ) : Type 0 where
  pub set : ordered a ≡ true
  pub within : from + size a ≤ end
  pub long : end ≤ length room
  pub few : k + size a ≤ factor
  pub places : k + size a ≤ pair_room (drop end room) + 2
  pub meaning : ℕ → Function
  pub state : Meanings (drop end room) k meaning

-- they got them, and what stands before theirs has not changed
pub record Numbered (a : Runs) (room later : List ℕ) (from end : ℕ) (f : ℕ → Function) (k m : ℕ) : Type 0 where
  pub meaning : ℕ → Function
  pub state : Meanings (drop end later) m meaning
  pub grown : Grown (drop end room) (drop end later) f meaning k m
  pub most : m ≤ k + size a
  pub named : (i : ℕ) → i < size a → Named a (drop end later) meaning m (number_at later from) i
  pub before : (j : ℕ) → j < from → slice_index later j ≡ slice_index room j

-- f and g are numbers of the entries of a and of b that tell which mean the same
pub record Numbers (a b : Runs) (f g : ℕ → ℕ) : Type 0 where
  pub alike : (i j : ℕ) → i < size a → j < size b → f i ≡ g j → (σ : Setting) → value_at a i σ ≡ value_at b j σ
  pub left : (i : ℕ) → 2 ≤ i → i < size a → f (low_link_of a i) ≡ f (high_link_of a i) → f i ≡ f (low_link_of a i)
  pub right : (j : ℕ) → 2 ≤ j → j < size b → g (low_link_of b j) ≡ g (high_link_of b j) → g j ≡ g (low_link_of b j)
  pub both : (i j : ℕ) → 2 ≤ i → i < size a → 2 ≤ j → j < size b → var_of a i ≡ var_of b j
      → f (low_link_of a i) ≡ g (low_link_of b j) → f (high_link_of a i) ≡ g (high_link_of b j) → f i ≡ g j
