-- Going down from the roots of two sets whose entries have their numbers: what one option leads to.
use Rattle.std.specs.Prelude.{◌≡◌, ℕ, ◌+◌, ◌<◌, ◌≤◌, true, cond, ◌≢◌, List, length, ◌==◌, nat_lt, slice_index, slice_set}
use Rattle.bdd.specs.Array.{Runs, size, root, ordered}
use Rattle.bdd.specs.Answers.{all_zero}
use Rattle.compare.specs.Settling.{Comparable}
use Rattle.compare.specs.Numbers.{number_at, Numbers}

-- the smaller of the two variables
abbrev pub asks : List ℕ → List ℕ → ℕ → ℕ → ℕ
asks lv rv p q = cond (nat_lt (slice_index lv p) (slice_index rv q)) (slice_index lv p) (slice_index rv q)

-- where entry i leads at option v: its link if it asks this option, else it stays
abbrev pub leads : List ℕ → List ℕ → ℕ → ℕ → ℕ
leads variables links v i = cond (slice_index variables i == v) (slice_index links i) i

-- two entries, and room to read their numbers and to write the setting
pub record Steppable (a b : Runs) (p q : ℕ) (room s : List ℕ) : Type 0 where
  pub left_set : ordered a ≡ true
  pub right_set : ordered b ≡ true
  pub left : p < size a
  pub right : q < size b
  pub long : size a + size b ≤ length room
  pub short : asks a.variable b.variable p q < length s

-- one option: off if the numbers still differ then, else on
pub data Steps (a b : Runs) (p q : ℕ) (room s : List ℕ) : ℕ → ℕ → List ℕ → Type 0 where
  off : (v : ℕ) → v ≡ asks a.variable b.variable p q
      → number_at room 0 (leads a.variable a.low v p) ≢ number_at room (size a) (leads b.variable b.low v q)
      → Steps a b p q room s (leads a.variable a.low v p) (leads b.variable b.low v q) s
  on : (v : ℕ) → v ≡ asks a.variable b.variable p q
      → number_at room 0 (leads a.variable a.low v p) ≡ number_at room (size a) (leads b.variable b.low v q)
      → Steps a b p q room s (leads a.variable a.high v p) (leads b.variable b.high v q) (slice_set s v 1)

-- two sets whose roots have different numbers
pub record Apart (a b : Runs) (n : ℕ) (room : List ℕ) : Type 0 where
  pub comparable : Comparable a b n
  pub long : size a + size b ≤ length room
  pub numbers : Numbers a b (number_at room 0) (number_at room (size a))
  pub differ : number_at room 0 (root a) ≢ number_at room (size a) (root b)

-- a setting with room for n options, all off
pub record AllOff (s : List ℕ) (n : ℕ) : Type 0 where
  pub zero : s ≡ all_zero s
  pub long : n ≤ length s
