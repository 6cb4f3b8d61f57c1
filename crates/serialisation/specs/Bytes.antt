-- The byte form (document 01, module 2): ten bytes to an entry, u16, u32, u32, least byte first.
use Rattle.std.specs.Prelude.{ℕ, zero, suc, ◌+◌, ◌*◌, ◌/◌, ◌%◌, cond, List, [], ◌∷◌, ◌++◌, length, take, drop, ltb}
use Rattle.bdd.specs.Array.{Entry, Runs, entry, entry_of, size}

-- the w bytes of x, least byte first
unfoldable pub little : ℕ → ℕ → List ℕ
little zero x = []
little (suc w) x = x % 256 ∷ little w (x / 256)

-- the number that bytes stand for, least byte first
unfoldable pub number : List ℕ → ℕ
number [] = 0
number (b ∷ bs) = b + 256 * number bs

-- ten bytes: u16, u32, u32
abbrev pub record_bytes : Entry → List ℕ
record_bytes e = little 2 e.variable ++ little 4 e.low ++ little 4 e.high

-- the records of the first k entries, one after the other
unfoldable pub records : Runs → ℕ → List ℕ
records a zero = []
records a (suc k) = records a k ++ record_bytes (entry_of a k)

-- the records of entries 0 to L - 1
abbrev pub file_bytes : Runs → List ℕ
file_bytes a = records a (size a)

-- how many whole records a file has, and how many tail bytes, 0 to 9
abbrev pub whole : List ℕ → ℕ
whole file = length file / 10

abbrev pub tail : List ℕ → ℕ
tail file = length file % 10

-- record k, ten bytes, or an empty part where no whole record k exists
unfoldable pub part : List ℕ → ℕ → List ℕ
part file k = cond (ltb k (whole file)) (take 10 (drop (10 * k) file)) []

-- the entry that ten bytes stand for
abbrev pub entry_in : List ℕ → Entry
entry_in bytes = entry (number (take 2 bytes)) (number (take 4 (drop 2 bytes))) (number (take 4 (drop 6 bytes)))

-- f at 0, 1, .. k - 1
unfoldable pub each : ℕ → (ℕ → ℕ) → List ℕ
each zero f = []
each (suc k) f = each k f ++ (f k ∷ [])

-- the entries of the first k records
abbrev pub entries : List ℕ → ℕ → Runs
entries file k =
    record {
      variable = each k (λ i. (entry_in (part file i)).variable);
      low = each k (λ i. (entry_in (part file i)).low);
      high = each k (λ i. (entry_in (part file i)).high);
    }

-- a run with these put at a place, the rest as it was
unfoldable pub put_at : List ℕ → ℕ → List ℕ → List ℕ
put_at was at these = take at was ++ these ++ drop (at + length these) was

-- a run with these first, the rest as it was
unfoldable pub over : List ℕ → List ℕ → List ℕ
over these was = these ++ drop (length these) was

-- the three runs so
abbrev pub runs_over : Runs → Runs → Runs
runs_over these was =
    record {
      variable = over these.variable was.variable;
      low = over these.low was.low;
      high = over these.high was.high;
    }
