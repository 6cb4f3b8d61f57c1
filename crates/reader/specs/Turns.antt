-- The reader that holds the file and a place (document 01, module 2): what it gives turn after turn, and what is left.
use Rattle.std.specs.Prelude.{ℕ, zero, suc, ◌+◌, ◌*◌, ◌-◌, ◌≡◌, cond, List, [], ◌∷◌, ◌++◌, length, drop, replicate, ltb}
use Rattle.serialisation.specs.Bytes.{whole, tail, part}

-- the place after a turn at place k: the next one, or the same where no whole record is left
unfoldable pub place_after : List ℕ → ℕ → ℕ
place_after file k = cond (ltb k (whole file)) (k + 1) k

-- what a reader at place k gives in its next n turns
unfoldable pub given : List ℕ → ℕ → ℕ → List (List ℕ)
given file k zero = []
given file k (suc n) = part file k ∷ given file (place_after file k) n

-- how many whole records are left at place k
abbrev pub left_at : List ℕ → ℕ → ℕ
left_at file k = whole file - k

-- n records of a file in order, each once, from record k on
unfoldable pub records_from : List ℕ → ℕ → ℕ → List (List ℕ)
records_from file k zero = []
records_from file k (suc n) = part file k ∷ records_from file (k + 1) n

-- parts one behind the other
unfoldable pub joined : List (List ℕ) → List ℕ
joined [] = []
joined (p ∷ ps) = p ++ joined ps

-- the bytes behind the last whole record
abbrev pub tail_bytes : List ℕ → List ℕ
tail_bytes file = drop (10 * whole file) file

-- a reader at place k with m records left gives these, in order, each once, and then empty parts, however often it is
-- asked; these and the tail are the file from record k on
pub record InTurn (file : List ℕ) (k m : ℕ) : Type 0 where
  pub gives : (n : ℕ) → given file k (m + n) ≡ records_from file k m ++ replicate n []
  pub together : joined (records_from file k m) ++ tail_bytes file ≡ drop (10 * k) file
  pub tail_length : length (tail_bytes file) ≡ tail file
