-- The value that each job must have at a setting, from the values of its sets.
use Rattle.std.specs.Prelude.{ℕ, zero, suc, Bool, true, false, cond, not, ◌&&◌, ◌||◌, List, [], ◌∷◌, ◌++◌, map, get_or, eqb, None, Some}
use Rattle.std.specs.Bool.{beq}
use Rattle.std.proofs.Math.Option.{Option, none, some}
use Rattle.bdd.specs.Array.{Entry, entry, every}
use Rattle.bdd.specs.Value.{Setting, Function, put, with_option}
use Rattle.bdd.specs.Table.{answer}
use Rattle.bdd.specs.Lent.{Flip}

-- 1 for on, 0 for off
abbrev pub digit : Bool → ℕ
digit true = 1
digit false = 0

-- the setting with the flipped option switched
unfoldable pub switched : Flip → Setting → Setting
switched None σ = σ
switched (Some v) σ = put v (not (σ v)) σ

-- an operator: the table's answer at the values of its sets, where an output flip first switches its option in the
-- setting and a set's own flip then switches its option for that set alone
unfoldable pub operated : List ℕ → Flip → Flip → Flip → Function → Function → Function
operated table left right output f g σ =
    let τ = switched output σ in
    eqb (answer table (digit (f (switched left τ)) ∷ digit (g (switched right τ)) ∷ [])) 1

unfoldable pub negated : Function → Function
negated f σ = not (f σ)

-- on where the set is on with the option off or with it on
unfoldable pub exists : ℕ → Function → Function
exists v f σ = with_option v false f σ || with_option v true f σ

-- on where the set is on with both
unfoldable pub for_all : ℕ → Function → Function
for_all v f σ = with_option v false f σ && with_option v true f σ

-- the set's value where the option stands as asked, otherwise off
unfoldable pub selected : ℕ → Bool → Function → Function
selected v b f σ = cond (beq (σ v) b) (f σ) false

-- the setting with the named options put as asked: 0 off, 1 on, 2 free
unfoldable pub fixed : List ℕ → Setting → Setting
fixed values σ i = cond (eqb (get_or values i 2) 2) (σ i) (eqb (get_or values i 2) 1)

unfoldable pub restricted : List ℕ → Function → Function
restricted values f σ = f (fixed values σ)

-- option v is in the list
unfoldable pub listed : List ℕ → ℕ → Bool
listed [] v = false
listed (w ∷ ws) v = eqb w v || listed ws v

-- the settings that differ from σ in picked options alone, among the m options from k on: read from the smallest
-- variable, off before on
unfoldable pub ways : List ℕ → ℕ → ℕ → Setting → List Setting
ways vs zero k σ = σ ∷ []
ways vs (suc m) k σ =
    cond (listed vs k) (ways vs m (suc k) (put k false σ) ++ ways vs m (suc k) (put k true σ)) (ways vs m (suc k) σ)

-- the first of them that is allowed
unfoldable pub first_allowed : Function → List Setting → Option Setting
first_allowed f [] = none
first_allowed f (τ ∷ τs) = cond (f τ) (some τ) (first_allowed f τs)

-- the settings agree on n options
unfoldable pub agree : ℕ → Setting → Setting → Bool
agree n σ τ = every n (λ i. beq (σ i) (τ i))

abbrev pub is_way : ℕ → Setting → Option Setting → Bool
is_way n σ none = false
is_way n σ (some τ) = agree n σ τ

-- keeps, for each setting of the other options, the one allowed setting of the picked options that is smallest
unfoldable pub picked : ℕ → List ℕ → Function → Function
picked n vs f σ = is_way n σ (first_allowed f (ways vs n 0 σ))

-- the terminals and literals over n options, which are arrays of their own
abbrev pub false_array : ℕ → List Entry
false_array n = entry n 0 0 ∷ []

abbrev pub true_array : ℕ → List Entry
true_array n = entry n 0 0 ∷ entry n 1 1 ∷ []

-- (v,0,1) for on or (v,1,0) for off
abbrev pub literal_array : ℕ → ℕ → Bool → List Entry
literal_array n v b = entry n 0 0 ∷ entry n 1 1 ∷ entry v (digit (not b)) (digit b) ∷ []

-- negation keeps the layout: false and true swap; otherwise links 0 and 1 swap from entry 2 on
abbrev pub swapped_link : ℕ → ℕ
swapped_link zero = 1
swapped_link (suc zero) = 0
swapped_link (suc (suc i)) = suc (suc i)

unfoldable pub not_array : List Entry → List Entry
not_array [] = []
not_array (e ∷ []) = true_array e.variable
not_array (e ∷ d ∷ []) = false_array e.variable
not_array (e ∷ d ∷ c ∷ es) =
    e ∷ d ∷ map (λ (x : Entry). entry x.variable (swapped_link x.low) (swapped_link x.high)) (c ∷ es)
