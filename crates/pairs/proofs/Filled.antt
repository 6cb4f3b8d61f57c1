-- A good table of any number of sets, read at inputs that stand for something: what it answers is below 3, known where they are
-- known, and stands where each of them is filled in.
use Prim.Native.Nat.{ℕ, ◌<◌, ◌≤◌}
use mathlib.Core.Path.{◌≡◌, refl, sym, ap, ◌∙◌}
use mathlib.Core.Logic.{inl, inr, ⊎_elim}
use mathlib.Core.Bool.{true}
use mathlib.Core.List.{List, [], ◌∷◌, map}
use native.Mathlib.Omega.{arith}
use borrow.Author.Tests.{lt-ltb}
use lib.ListN.{length}
use Rattle.bdd.specs.Table.{answer, all_of, known}
use Rattle.bdd.proofs.Logic.{and_both}
use Rattle.op_function.proofs.Inputs.{Each, each_map, Made, here, there}
use Rattle.op_function.proofs.Tables.{GoodOf, Fills}
use Rattle.counting.proofs.Among.{In, here as first, there as later}

-- what stands where any one unknown is made known
abbrev Stays : (List ℕ → ℕ) → List ℕ → Type 0
Stays F xs = F xs < 2 → (ys : List ℕ) → Made xs ys → F ys ≡ F xs

module _ {S : Type 0} where
  -- a claim at every k inputs, at k of them
  each_at : (P : List ℕ → Type 0) (ss : List S) (f : S → ℕ) → ((s : S) → In s ss → f s ≤ 2) → Each (length ss) P → P (map f ss)
  each_at P [] f h e = e
  each_at P (s ∷ ss) f h e = each_at (λ xs. P (f s ∷ xs)) ss f (λ r m. h r (later m)) (e (f s) (h s (first refl)))

  all_known : (ss : List S) (f : S → ℕ) → ((s : S) → In s ss → f s < 2) → all_of known (map f ss) ≡ true
  unfolding all_of known
  all_known [] f h = refl
  all_known (s ∷ ss) f h = and_both _ _ (lt-ltb _ _ (h s (first refl))) (all_known ss f (λ r m. h r (later m)))

  -- stands where all are filled in
  filled : (F : List ℕ → ℕ) (ss : List S) (f g : S → ℕ) → ((s : S) → In s ss → f s ≤ 2) → ((s : S) → In s ss → Fills (f s) (g s))
      → Each (length ss) (Stays F) → F (map f ss) < 2 → F (map g ss) ≡ F (map f ss)
  filled F [] f g h fills e l = refl
  filled F (s ∷ ss) f g h fills e l =
      let small : g s ≤ 2 = ⊎_elim (λ q. omega (arith, h s (first refl))) (λ q. omega arith) (fills s (first refl)) in
      let one : F (g s ∷ map f ss) ≡ F (f s ∷ map f ss) =
      ⊎_elim (λ (q : f s ≡ g s). ap (λ (k : ℕ). F (k ∷ map f ss)) (sym q))
      (λ (q : (f s ≡ 2) × (g s < 2)). each_at (Stays F) (s ∷ ss) f h e l (g s ∷ map f ss) (here q.0 q.1)) (fills s (first refl)) in
      filled (λ xs. F (g s ∷ xs)) ss f g (λ r m. h r (later m)) (λ r m. fills r (later m))
      (each_map (length ss) (λ xs k b ys m. k b (g s ∷ ys) (there m)) (e (g s) small)) (omega arith)
      ∙ one

module _ {S : Type 0} (ss : List S) {table : List ℕ} (good : GoodOf (length ss) table) (f : S → ℕ) (h : (s : S) → In s ss → f s ≤ 2) where
  pub answer_most : answer table (map f ss) < 3
  answer_most = each_at (λ xs. answer table xs < 3) ss f h (each_map (length ss) (λ xs s. s.small) good.sound)

  pub answer_known : ((s : S) → In s ss → f s < 2) → answer table (map f ss) < 2
  answer_known k =
      each_at (λ xs. all_of known xs ≡ true → answer table xs < 2) ss f h (each_map (length ss) (λ xs s. s.decided) good.sound)
      (all_known ss f k)

  pub answer_filled : (g : S → ℕ) → ((s : S) → In s ss → Fills (f s) (g s)) → answer table (map f ss) < 2
      → answer table (map g ss) ≡ answer table (map f ss)
  answer_filled g fills l = filled (answer table) ss f g h fills (each_map (length ss) (λ xs s. s.stands) good.sound) l
