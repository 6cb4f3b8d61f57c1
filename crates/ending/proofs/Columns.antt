-- The terminals over what was built, run by run.
use Prim.Native.Nat.{ℕ, suc, ◌+◌, ◌≤◌, min}
use mathlib.Core.Path.{◌≡◌, refl, ap, ◌∙◌}
use mathlib.Core.List.{List, [], ◌∷◌, ◌++◌, map}
use native.Mathlib.Omega.{arith}
use lib.ListN.{length, take, drop}
use Rattle.bdd.specs.Array.{Entry, entry}
use Rattle.bdd.specs.Answers.{output_after}
use Rattle.lent.specs.Copied.{copied}
use Rattle.index_run.specs.Placing.{column}

-- entry 0 alone, over a run that holds nothing behind the terminals
pub first_terminal : (was : List ℕ) (x y : ℕ) → 1 ≤ length was → copied (column was []) (x ∷ y ∷ []) 1 ≡ x ∷ drop 1 was
first_terminal [] x y l = absurd (omega arith)
first_terminal (a ∷ []) x y l = refl
first_terminal (a ∷ b ∷ was) x y l =
    let k : min 1 (min (suc (suc (length was))) 2) ≡ 1 = omega arith in
    ap (λ (k : ℕ). take k (x ∷ y ∷ []) ++ drop k (a ∷ b ∷ was)) k

-- both terminals, before what stands behind them
pub both_terminals : (was xs : List ℕ) (x y s : ℕ) → 2 ≤ length was → 2 ≤ s → copied (column was xs) (x ∷ y ∷ []) s ≡ x ∷ y ∷ xs ++ drop (2 + length xs) was
both_terminals [] xs x y s l m = absurd (omega arith)
both_terminals (a ∷ []) xs x y s l m = absurd (omega arith)
both_terminals (a ∷ b ∷ was) xs x y s l m =
    let behind : List ℕ = xs ++ drop (2 + length xs) (a ∷ b ∷ was) in
    let k : min s (min (suc (suc (length behind))) 2) ≡ 2 = omega arith in
    ap (λ (k : ℕ). take k (x ∷ y ∷ []) ++ drop k (a ∷ b ∷ behind)) k

-- a column of false
pub false_column : (f : Entry → ℕ) (n s : ℕ) (es made : List Entry) (was : List ℕ) (x y : ℕ) → es ≡ [] → made ≡ entry n 0 0 ∷ [] → f (entry n 0 0) ≡ x → s ≡ 1 → 1 ≤ length was → copied (column was (map f es)) (x ∷ y ∷ []) s ≡ output_after 0 (map f made) was
unfolding output_after
false_column f n s es made was x y e m p q l =
    rw (e, m, p, q) (first_terminal was x y l)

-- a column of any other array
pub other_column : (f : Entry → ℕ) (n s : ℕ) (es made : List Entry) (was : List ℕ) (x y : ℕ) → made ≡ entry n 0 0 ∷ entry n 1 1 ∷ es → f (entry n 0 0) ≡ x → f (entry n 1 1) ≡ y → 2 ≤ s → 2 ≤ length was → copied (column was (map f es)) (x ∷ y ∷ []) s ≡ output_after 0 (map f made) was
unfolding output_after
other_column f n s es made was x y m p q k l =
    let two : 2 + length (map f es) ≡ suc (suc (length (map f es))) = omega arith in
    rw (m, p, q) (both_terminals was (map f es) x y s l k ∙ ap (λ (d : ℕ). x ∷ y ∷ map f es ++ drop d was) two)
