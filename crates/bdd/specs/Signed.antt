-- Signing order: the one array of a function. The side that is written first is a parameter: high (true) for
-- signing order, low (false) for the order that restriction yields.
use Rattle.std.specs.Prelude.{ℕ, zero, suc, ◌+◌, Bool, true, false, cond, not, ◌&&◌, List, [], ◌∷◌, ◌++◌, length, eqb}
use Rattle.std.proofs.Math.Option.{Option, none, some}
use Rattle.bdd.specs.Array.{Entry, Runs, entry, laid, same_entry, every, entry_of, size, options, ordered}
use Rattle.bdd.specs.Value.{Function, with_option, value}

-- the entries after the terminals, and the number of the entry where the writing ended
pub record Written : Type 0 where
  pub entries : List Entry
  pub at : ℕ

abbrev pub written : List Entry → ℕ → Written
written es p = record { entries = es; at = p }

-- the number under which e stands, where the first of the entries has number p
unfoldable pub find : Entry → ℕ → List Entry → Option ℕ
find e p [] = none
find e p (d ∷ ds) = cond (same_entry d e) (some p) (find e (suc p) ds)

-- each once: found if it stands, else behind the last; the entries after the terminals start at number 2
abbrev pub found_or_added : Entry → List Entry → Option ℕ → Written
found_or_added e es none = written (es ++ (e ∷ [])) (2 + length es)
found_or_added e es (some p) = written es p

unfoldable pub add : Entry → List Entry → Written
add e es = found_or_added e es (find e 2 es)

-- the entry of option k whose first side ended at x and whose other side at y, unless both ended in the same
unfoldable pub decide : Bool → ℕ → ℕ → ℕ → List Entry → Written
decide first k x y es = cond (eqb x y) (written es x) (add (entry k (cond first y x) (cond first x y)) es)

-- write f, a function of the m options from k on: its first side, then its other side, then the entry itself
unfoldable pub write : Bool → ℕ → ℕ → Function → List Entry → Written
write first zero k f es = written es (cond (f (λ i. false)) 1 0)
write first (suc m) k f es =
    let x = write first m (suc k) (with_option k first f) es in
    let y = write first m (suc k) (with_option k (not first) f) x.entries in
    decide first k x.at y.at y.entries

-- false is the first entry alone; else the terminals, then what was written
abbrev pub under_terminals : ℕ → Written → List Entry
under_terminals n w =
    cond (eqb w.at 0) (entry n 0 0 ∷ []) (entry n 0 0 ∷ entry n 1 1 ∷ w.entries)

-- the array of f over n options
unfoldable pub signed : Bool → ℕ → Function → List Entry
signed first n f = under_terminals n (write first n 0 f [])

abbrev pub high_first : Bool
high_first = true

abbrev pub low_first : Bool
low_first = false

-- the two hold the same numbers
unfoldable pub same_runs : Runs → Runs → Bool
same_runs a b = eqb (size a) (size b) && every (size a) (λ i. same_entry (entry_of a i) (entry_of b i))

-- ordered, and the array of its own function
unfoldable pub in_order : Bool → Runs → Bool
in_order first a = ordered a && same_runs a (laid (signed first (options a) (value a)))

abbrev pub in_signing_order : Runs → Bool
in_signing_order = in_order high_first
