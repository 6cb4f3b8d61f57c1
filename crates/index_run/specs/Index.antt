-- The index run as a map from entries to their numbers. Each number of the run is two halves: the upper one at b leads from place b to
-- the newest entry that belongs there, the lower one at i from the entry that stands in the output under i + 2 to the one behind it;
-- 0 leads to none, and i + 1 to the entry under i + 2.
use Rattle.std.specs.Prelude.{ℕ, ◌+◌, ◌-◌, ◌*◌, ◌/◌, ◌%◌, ◌^◌, ◌≤◌, ◌<◌, max, ◌≡◌, List, length, get_or, set}
use Rattle.bdd.specs.Bounds.{most_entries}
use Rattle.bdd.specs.Array.{Entry, Runs, entry_of}
use Rattle.chains.specs.Spread.{spot_of}
use Rattle.chains.specs.Chains.{Chains, Chained, Ended, Unchanged}
use Rattle.chains.specs.declared.Place.{Place}
use Rattle.chains.specs.declared.Stored.{Stored}
use Rattle.chains.specs.declared.Stored.TheVariants.{New, Known, Full}

-- every number of the run is a place
abbrev pub places : List ℕ → ℕ
places index = length index

abbrev pub head_at : List ℕ → ℕ → ℕ
head_at index b = get_or index b 0 / 2 ^ 16

abbrev pub behind_at : List ℕ → ℕ → ℕ
behind_at index i = get_or index i 0 % 2 ^ 16

-- the run with another follower of node i; and with another head at place b
unfoldable pub with_behind : List ℕ → ℕ → ℕ → List ℕ
with_behind index i k = set index i (head_at index i * 2 ^ 16 + k)

unfoldable pub with_head : List ℕ → ℕ → ℕ → List ℕ
with_head index b k = set index b (k * 2 ^ 16 + behind_at index b)

-- node i comes first in the chain of place b
unfoldable pub linked : List ℕ → ℕ → ℕ → List ℕ
linked index b i = with_head (with_behind index i (head_at index b)) b (i + 1)

-- option and low link in one number, for the first place
unfoldable pub folded : Entry → ℕ
folded e = (e.variable * 2 ^ 20 + e.low) % 2 ^ 32

-- n places and m nodes
abbrev pub chains_of : ℕ → ℕ → List ℕ → Runs → Chains Entry
chains_of n m index out =
    record {
      places = n;
      nodes = m;
      spot = λ e. spot_of n (folded e) e.high;
      head = head_at index;
      behind = behind_at index;
      key = λ i. entry_of out (i + 2);
    }

-- entry e stands in the output under the number i, among the numbers 2 to k - 1
pub record Numbered (out : Runs) (k : ℕ) (e : Entry) (i : ℕ) : Type 0 where
  pub least : 2 ≤ i
  pub below : i < k
  pub equal : entry_of out i ≡ e

-- entry e stands under none of them
abbrev pub Fresh : Runs → ℕ → Entry → Type 0
Fresh out k e = (i : ℕ) → Numbered out k e i → ⊥

-- exactly the numbers 2 to k - 1 stand in the index, each where the search for its entry comes to, and the entries under them are all
-- different
pub record Indexed (index : List ℕ) (out : Runs) (k : ℕ) : Type 0 where
  pub least : 2 ≤ k
  pub chained : Chained (chains_of (places index) (k - 2) index out) (k - 2)

-- the runs have room for the numbers below k; up to 2 there is none
pub record Room (index : List ℕ) (out : Runs) (k : ℕ) : Type 0 where
  pub least : 2 ≤ k
  pub few : k ≤ most_entries
  pub index_long : k ≤ max 2 (length index)
  pub variable : k ≤ max 2 (length out.variable)
  pub low : k ≤ max 2 (length out.low)
  pub high : k ≤ max 2 (length out.high)

-- below k the two outputs have the same entries
abbrev pub Agree : Runs → Runs → ℕ → Type 0
Agree out later k = (i : ℕ) → 2 ≤ i → i < k → entry_of later i ≡ entry_of out i

-- the entry was not there, and once it stands in the output under the number k, it is indexed
pub record Added (now : List ℕ) (out : Runs) (k : ℕ) (e : Entry) : Type 0 where
  pub fresh : Fresh out k e
  pub free : k < places now + 2
  pub indexed : (later : Runs) → Agree out later k → entry_of later k ≡ e → Indexed now later (k + 1)

-- the entry is not there, and every node is taken
pub record NoPlace (index : List ℕ) (out : Runs) (k : ℕ) (e : Entry) : Type 0 where
  pub fresh : Fresh out k e
  pub full : k ≡ places index + 2

-- what an insertion of e under the number k answers: it was added, or stands under this number, or every node is taken
abbrev pub Inserted : List ℕ → List ℕ → Runs → ℕ → Entry → Stored → Type 0
Inserted was now out k e New = Added now out k e
Inserted was now out k e (Known i) = Numbered out k e i
Inserted was now out k e Full = NoPlace was out k e

-- an insertion of e under the number k, and its answer
pub record Insertion (was now : List ℕ) (out : Runs) (k : ℕ) (e : Entry) (answer : Stored) : Type 0 where
  pub unchanged : Unchanged was now answer
  pub inserted : Indexed was out k → Inserted was now out k e answer

-- where the search for e among m nodes ended
abbrev pub Searched : List ℕ → Runs → ℕ → Entry → Place → Type 0
Searched index out m e end = Ended (chains_of (places index) m index out) e end
