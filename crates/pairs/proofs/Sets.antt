-- A task of any number of ordered sets: one entry of each. What it stands for is told where the table decides it, and where the
-- table does not it asks the least variable, and its children stand for its two sides.
use Prim.Native.Nat.{ℕ, zero, suc, ◌<◌, ◌≤◌, min}
use mathlib.Core.Path.{◌≡◌, refl, sym, ap, ap₂, ◌∙◌, fun_ext}
use mathlib.Core.Logic.{◌⊎◌, inl, inr, ⊎_elim}
use mathlib.Core.Bool.{Bool, true, false}
use mathlib.Core.List.Memᴰ.{of_map as in_map}
use mathlib.Core.List.{List, [], ◌∷◌, map, map-map}
use native.Mathlib.Omega.{arith}
use lib.ListN.{length}
use lib.Dec.{eqb}
use borrow.Author.Tests.{eqb-true, eqb-false}
use Rattle.bdd.specs.Array.{Runs, var_of, size, options}
use Rattle.bdd.specs.Value.{Setting, Function, value_at, put, with_option, Of}
use Rattle.bdd.specs.Table.{answer}
use Rattle.bdd.specs.Jobs.{digit, switched}
use Rattle.bdd.specs.Pairs.{moved}
use Rattle.bdd.specs.Lent.{Flip}
use Rattle.bdd.proofs.Logic.{le_or_lt}
use Rattle.bdd.proofs.Ordered.{Layered}
use Rattle.bdd.proofs.Settings.{Ignores}
use Rattle.bdd.proofs.Following.{value_ignores, value_of}
use Rattle.op_function.proofs.Tables.{GoodOf}
use Rattle.counting.proofs.Among.{In, here, there, in-none, each}
use Rattle.pairs.proofs.Flips.{swapped, switched_put, switched_agree}
use Rattle.pairs.proofs.Filled.{answer_most, answer_known, answer_filled}
use Rattle.pairs.proofs.Sides.{variable_most, value_fills, Moves, moved_within, moved_later, moved_value}

-- an entry of a set, and the set's own flip
pub record Side : Type 0 where
  pub set : Runs
  pub flip : Flip
  pub at : ℕ

abbrev pub side : Runs → Flip → ℕ → Side
side a f i = record { set = a; flip = f; at = i }

abbrev pub variable : Side → ℕ
variable s = var_of s.set s.at

-- what the table reads: entry 0 is off, entry 1 on, any other not yet known
abbrev pub input : Side → ℕ
input s = min s.at 2

-- where it goes when option v is put on side b
abbrev pub goes : ℕ → Bool → Side → Side
goes v b s = side s.set s.flip (moved s.set s.flip v b s.at)

-- the set is ordered and over n options, and the entry is there
pub record Placed (n : ℕ) (s : Side) : Type 0 where
  pub layered : Layered s.set
  pub over : options s.set ≡ n
  pub within : s.at < size s.set

-- v is the least variable of the entries
pub record Least (v : ℕ) (ss : List Side) : Type 0 where
  pub least : (s : Side) → In s ss → v ≤ variable s
  pub one : Side
  pub listed : In one ss
  pub equal : v ≡ variable one

-- the value at the entry, where the output's flip is first and the set's own then
abbrev reads : Flip → Setting → Side → ℕ
reads out σ s = digit (value_at s.set s.at (switched s.flip (switched out σ)))

-- what a task stands for: the table's answer at the values of its entries
unfoldable pub meaning_in : List ℕ → Flip → List Side → Function
meaning_in table out ss σ = eqb (answer table (map (reads out σ) ss)) 1

map_same : {A : Type 0} (f g : A → ℕ) (xs : List A) → ((x : A) → In x xs → f x ≡ g x) → map f xs ≡ map g xs
map_same f g [] h = refl
map_same f g (x ∷ xs) h = ap₂ (λ (k : ℕ) (ks : List ℕ). k ∷ ks) (h x (here refl)) (map_same f g xs (λ y m. h y (there m)))

digit_on : (b : Bool) → eqb (digit b) 1 ≡ b
digit_on true = refl
digit_on false = refl

digit_of : (d : ℕ) → d < 2 → d ≡ digit (eqb d 1)
digit_of zero l = refl
digit_of (suc zero) l = refl
digit_of (suc (suc d)) l = absurd (omega arith)

-- some entry is no terminal, or none is
unknown_or_known : (ss : List Side) → ((s : Side) × In s ss × (2 ≤ s.at)) ⊎ ((s : Side) → In s ss → s.at < 2)
unknown_or_known [] = inr (λ s m. absurd (in-none m))
unknown_or_known (s ∷ ss) =
    ⊎_elim (λ (l : 2 ≤ s.at). inl (s, here refl, l))
    (λ (l : s.at < 2).
    ⊎_elim (λ (u : (r : Side) × In r ss × (2 ≤ r.at)). inl (u.0, there u.1, u.2)) (λ k. inr (each (λ r. r.at < 2) l k)) (unknown_or_known ss))
    (le_or_lt 2 s.at)

module _ {n : ℕ} {table : List ℕ} {ss : List Side} (placed : (s : Side) → In s ss → Placed n s) (good : GoodOf (length ss) table) where
  abbrev decision : ℕ
  decision = answer table (map input ss)

  pub decision_most : decision < 3
  decision_most = answer_most ss good input (λ s m. omega arith)

  -- a task that is not undecided is decided as off or as on
  pub decided_digit : eqb decision 2 ≡ false → decision ≡ digit (eqb decision 1)
  decided_digit h = let ne = eqb-false decision 2 h in digit_of decision (omega (arith, decision_most))

  -- a decided task stands for its answer, whatever the values at its entries are
  pub meaning_decided : eqb decision 2 ≡ false → (out : Flip) → meaning_in table out ss ≡ (λ σ. eqb decision 1)
  unfolding meaning_in
  meaning_decided h out =
      let ne = eqb-false decision 2 h in
      fun_ext (λ σ.
      ap (λ (d : ℕ). eqb d 1)
      (answer_filled ss good input (λ s m. omega arith) (reads out σ)
      (λ s m. value_fills s.set (placed s m).layered s.at (placed s m).within (switched s.flip (switched out σ)))
      (omega (arith, decision_most))))

  pub meaning_of : (out : Flip) → Of n (meaning_in table out ss)
  unfolding meaning_in
  meaning_of out σ τ h =
      ap (λ (ds : List ℕ). eqb (answer table ds) 1)
      (map_same (reads out σ) (reads out τ) ss
      (λ s m.
      let p = placed s m in
      ap digit
      (value_of s.set p.layered s.at p.within _ _
      (λ i l. switched_agree s.flip n _ _ (switched_agree out n σ τ h) i (omega (arith, p.over))))))

  module _ {v : ℕ} (asks : Least v ss) where
    pub asked_most : v ≤ n
    asked_most =
        let s = asks.one in
        let p = placed s asks.listed in
        omega (arith, asks.equal, p.over, variable_most s.set p.layered s.at p.within)

    -- no option below the asked one is looked at, flipped or not
    pub meaning_ignores : (out : Flip) (k : ℕ) → k < v → Ignores k (meaning_in table out ss)
    unfolding meaning_in
    meaning_ignores out k l b = fun_ext (λ σ. ap (λ (ds : List ℕ). eqb (answer table ds) 1) (map_same (reads out (put k b σ)) (reads out σ) ss (same σ)))
      where
        same : (σ : Setting) (s : Side) → In s ss → reads out (put k b σ) s ≡ reads out σ s
        same σ s m =
            let p = placed s m in
            let τ = switched s.flip (switched out σ) in
            ap (λ (υ : Setting). digit (value_at s.set s.at υ))
            (ap (switched s.flip) (switched_put out k b σ) ∙ switched_put s.flip k (swapped out k b) (switched out σ))
            ∙ ap (λ (f : Function). digit (f τ))
            (value_ignores s.set p.layered s.at p.within k (omega (arith, asks.least s m)) (swapped s.flip k (swapped out k b)))

    module _ (un : eqb decision 2 ≡ true) where
      -- where all values are known a good table decides, so one of the entries has an option for its variable
      asked_below : v < n
      asked_below =
          ⊎_elim (λ (u : (s : Side) × In s ss × (2 ≤ s.at)).
          let p = placed u.0 u.1 in
          omega (arith, asks.least u.0 u.1, p.over, (p.layered.entry_on u.0.at u.2 p.within).variable))
          (λ k.
          absurd (omega (arith, eqb-true decision 2 un, answer_known ss good input (λ s m. omega arith) (λ s m. omega (arith, k s m)))))
          (unknown_or_known ss)

      moves : (s : Side) → In s ss → Moves v s.set s.at
      moves s m =
          let p = placed s m in
          record { layered = p.layered; within = p.within; option = omega (arith, asked_below, p.over); first = asks.least s m }

      pub child_placed : (b : Bool) (s : Side) → In s (map (goes v b) ss) → Placed n s
      child_placed b s m =
          let o = in_map (goes v b) ss m in
          let p = placed o.0 o.1 in
          rw (← o.2) (record { layered = p.layered; over = p.over; within = moved_within (moves o.0 o.1) o.0.flip b })

      pub child_later : (b : Bool) {w : ℕ} → Least w (map (goes v b) ss) → v < w
      child_later b a =
          let o = in_map (goes v b) ss a.listed in
          omega (arith, a.equal, ap variable o.2, moved_later (moves o.0 o.1) o.0.flip b)

      -- each side of the asked option is a child; an output flip at that option swaps the two
      pub meaning_child : (out : Flip) (b : Bool)
          → with_option v b (meaning_in table out ss) ≡ meaning_in table out (map (goes v (swapped out v b)) ss)
      unfolding meaning_in
      meaning_child out b =
          fun_ext (λ σ.
          ap (λ (ds : List ℕ). eqb (answer table ds) 1)
          (map_same (reads out (put v b σ)) (λ s. reads out σ (goes v c s)) ss (same σ) ∙ sym (map-map (reads out σ) (goes v c) ss)))
        where
          c : Bool
          c = swapped out v b

          same : (σ : Setting) (s : Side) → In s ss → reads out (put v b σ) s ≡ reads out σ (goes v c s)
          same σ s m =
              ap (λ (υ : Setting). digit (value_at s.set s.at υ))
              (ap (switched s.flip) (switched_put out v b σ) ∙ switched_put s.flip v c (switched out σ))
              ∙ ap (λ (f : Function). digit (f (switched s.flip (switched out σ)))) (moved_value (moves s m) s.flip c)
