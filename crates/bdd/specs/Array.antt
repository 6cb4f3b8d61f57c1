-- "The array that stands for a rule": three runs of one length, and what ordered and tidy mean of them.
-- A definition that is a test answers true exactly where its sentence holds.
use Rattle.std.specs.Prelude.{ℕ, zero, suc, ◌-◌, Bool, true, not, ◌&&◌, List, [], ◌∷◌, map, length, get_or, leb, ltb, eqb}
use Rattle.bdd.specs.Bounds.{most_options, most_entries}

-- one entry: its variable, and the links that are followed where the option is off and where it is on
pub record Entry : Type 0 where
  pub variable : ℕ
  pub low : ℕ
  pub high : ℕ

-- the three lent runs of a rule set
pub record Runs : Type 0 where
  pub variable : List ℕ
  pub low : List ℕ
  pub high : List ℕ

abbrev pub entry : ℕ → ℕ → ℕ → Entry
entry v l h = record { variable = v; low = l; high = h }

abbrev pub runs : List ℕ → List ℕ → List ℕ → Runs
runs vs ls hs = record { variable = vs; low = ls; high = hs }

-- entries as three runs
abbrev pub laid : List Entry → Runs
laid es =
    record {
      variable = map (λ (e : Entry). e.variable) es;
      low = map (λ (e : Entry). e.low) es;
      high = map (λ (e : Entry). e.high) es;
    }

-- L
abbrev pub size : Runs → ℕ
size a = length a.variable

abbrev pub var_of : Runs → ℕ → ℕ
var_of a i = get_or a.variable i 0

abbrev pub low_link_of : Runs → ℕ → ℕ
low_link_of a i = get_or a.low i 0

abbrev pub high_link_of : Runs → ℕ → ℕ
high_link_of a i = get_or a.high i 0

abbrev pub entry_of : Runs → ℕ → Entry
entry_of a i = entry (var_of a i) (low_link_of a i) (high_link_of a i)

-- the k entries from number i on
unfoldable pub entries_from : Runs → ℕ → ℕ → List Entry
entries_from a i zero = []
entries_from a i (suc k) = entry_of a i ∷ entries_from a (suc i) k

-- three runs as entries
abbrev pub entries_of : Runs → List Entry
entries_of a = entries_from a 0 (size a)

-- n, read from entry 0
abbrev pub options : Runs → ℕ
options a = var_of a 0

-- the root is the last entry
abbrev pub root : Runs → ℕ
root a = size a - 1

unfoldable pub same_entry : Entry → Entry → Bool
same_entry d e = eqb d.variable e.variable && eqb d.low e.low && eqb d.high e.high

-- the test passes at every number below the count
unfoldable pub every : ℕ → (ℕ → Bool) → Bool
every zero test = true
every (suc k) test = every k test && test k

-- the three lengths are equal
unfoldable pub even : Runs → Bool
even a = eqb (length a.low) (size a) && eqb (length a.high) (size a)

-- n is 0 to 256, L is 1 to 4,096
unfoldable pub bounded : ℕ → ℕ → Bool
bounded n L = leb n most_options && leb 1 L && leb L most_entries

-- variable < n, both links < i, and each linked entry has a greater variable
unfoldable pub inner : Runs → ℕ → Bool
inner a i =
    ltb (var_of a i) (options a)
    && (ltb (low_link_of a i) i && ltb (high_link_of a i) i)
    && (ltb (var_of a i) (var_of a (low_link_of a i)) && ltb (var_of a i) (var_of a (high_link_of a i)))

-- entry 0 is (n,0,0); entry 1, if there, is (n,1,1); each entry from 2 on is as `inner` says
unfoldable pub placed : Runs → ℕ → Bool
placed a zero = same_entry (entry_of a 0) (entry (options a) 0 0)
placed a (suc zero) = same_entry (entry_of a 1) (entry (options a) 1 1)
placed a (suc (suc i)) = inner a (suc (suc i))

-- ordered, but for the bounds on n and L
unfoldable pub layered : Runs → Bool
layered a = even a && every (size a) (placed a)

unfoldable pub ordered : Runs → Bool
ordered a = bounded (options a) (size a) && layered a

-- no entry from 2 on has equal links
unfoldable pub decides : Runs → ℕ → Bool
decides a zero = true
decides a (suc zero) = true
decides a (suc (suc i)) = not (eqb (low_link_of a (suc (suc i))) (high_link_of a (suc (suc i))))

-- no two entries from 2 on are equal: none before entry i is the same as it
unfoldable pub differs : Runs → ℕ → ℕ → Bool
differs a i zero = true
differs a i (suc zero) = true
differs a i (suc (suc j)) = not (same_entry (entry_of a (suc (suc j))) (entry_of a i))

unfoldable pub single : Runs → ℕ → Bool
single a i = every i (differs a i)

unfoldable pub tidy : Runs → Bool
tidy a = ordered a && every (size a) (decides a) && every (size a) (single a)
