-- Options held as marks in four words of 64 bits: option v is bit v % 64 of word v / 64. What a list comes to as marks, which option is the
-- greatest, and what is left without one.
use Rattle.std.specs.Prelude.{ℕ, zero, suc, ◌/◌, ◌%◌, ◌^◌, ◌≡◌, Bool, true, false, cond, List, [], ◌∷◌, length, get_or, eqb, None, Some, Option, Ok, Err, Result, ◌⊎◌}
use Rattle.bdd.specs.Jobs.{listed}
use Rattle.bdd.specs.declared.Refusal.{Refusal}
use Rattle.bdd.specs.declared.Refusal.TheVariants.{NoSuchOption, BadList}
use Rattle.relation_ops.specs.Picking.{greatest_first, some_beyond, repeats}
use Rattle.marks.specs.declared.Marks.{Marks}

-- bit j of a word is 1
unfoldable pub is_on : ℕ → ℕ → Bool
is_on j x = eqb (x / 2 ^ j % 2) 1

abbrev pub words : Marks → List ℕ
words m = m.a ∷ m.b ∷ m.c ∷ m.d ∷ []

unfoldable pub marked_in : List ℕ → ℕ → Bool
marked_in ws v = is_on (v % 64) (get_or ws (v / 64) 0)

-- the options below k that have the property, the greatest first
unfoldable pub those_below : ℕ → (ℕ → Bool) → List ℕ
those_below zero p = []
those_below (suc k) p = cond (p k) (k ∷ those_below k p) (those_below k p)

-- the options that are marked, the greatest first
abbrev pub marked_options : Marks → List ℕ
marked_options m = those_below 256 (marked_in (words m))

-- the list in any order, as marks: each of its options, and as many as it has
pub record Holds (vs : List ℕ) (n : ℕ) (m : Marks) : Type 0 where
  pub within : some_beyond n vs ≡ false
  pub once : repeats vs ≡ false
  pub options : marked_options m ≡ greatest_first vs n
  pub count : length (marked_options m) ≡ length vs

-- an option of n or more is told before an option that repeats
pub record Again (vs : List ℕ) (n : ℕ) : Type 0 where
  pub within : some_beyond n vs ≡ false
  pub again : repeats vs ≡ true

abbrev pub Lists : List ℕ → ℕ → Result Marks Refusal → Type 0
Lists vs n (Ok m) = Holds vs n m
Lists vs n (Err why) = (why ≡ NoSuchOption) × (some_beyond n vs ≡ true) ⊎ (why ≡ BadList) × Again vs n

-- the greatest is the first
abbrev pub first_of : List ℕ → Option ℕ
first_of [] = None
first_of (v ∷ vs) = Some v

-- the list without option v
unfoldable pub without : ℕ → List ℕ → List ℕ
without v [] = []
without v (w ∷ ws) = cond (eqb v w) ws (w ∷ without v ws)

-- marks of a list's options, whatever its order, while it is read
pub record SameOptions (vs : List ℕ) (m : Marks) : Type 0 where
  pub once : repeats vs ≡ false
  pub same : (v : ℕ) → marked_in (words m) v ≡ listed vs v

abbrev pub Reads : List ℕ → Result Marks Refusal → Type 0
Reads vs (Ok m) = SameOptions vs m
Reads vs (Err why) = (why ≡ BadList) × (repeats vs ≡ true)
