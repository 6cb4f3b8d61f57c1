-- The output runs with entries behind the terminals' places: what stands under a number, and one entry more. Said once over a
-- column.
use Prim.Native.Nat.{ℕ, suc, ◌+◌, ◌<◌, ◌≤◌}
use mathlib.Core.Path.{◌≡◌, refl, sym, ap, ◌∙◌}
use mathlib.Core.List.{List, [], ◌∷◌, ◌++◌, map, map-append, append_assoc, append-nil}
use native.Mathlib.Omega.{arith}
use lib.ListN.{length, get_or, take, drop, set, take-append-drop, length-append, length-map, get_or-append, get_or-map}
use lib.Seq.{drop-cons, length-take-le, set_at, get_or-append-add}
use Rattle.bdd.specs.Array.{Entry, Runs, runs, entry, entry_of}
use Rattle.index_run.specs.Placing.{Fit, column, holding, appended}

column_more : (was xs : List ℕ) (k x : ℕ) → k ≡ 2 + length xs → k < length was → set (column was xs) k x ≡ column was (xs ++ (x ∷ []))
column_more was xs k x e l =
    let front : length (take 2 was ++ xs) ≡ k =
    omega (arith, length-append (take 2 was) xs, length-take-le 2 was (omega arith)) in
    let behind : drop (2 + length xs) was ≡ get_or was k 0 ∷ drop (suc k) was = ap (λ (i : ℕ). drop i was) (sym e) ∙ drop-cons was k 0 l in
    let after : 2 + length (xs ++ (x ∷ [])) ≡ suc k = omega (arith, length-append xs (x ∷ [])) in
    rw (behind, after) (set_at (take 2 was ++ xs) (get_or was k 0) (drop (suc k) was) x k front ∙ sym (simp append_assoc))

column_at : (was xs : List ℕ) (i : ℕ) → 2 ≤ length was → i < length xs → get_or (column was xs) (2 + i) 0 ≡ get_or xs i 0
column_at was xs i l h =
    let two : length (take 2 was) ≡ 2 = length-take-le 2 was l in
    get_or-append (take 2 was ++ xs) (drop (2 + length xs) was) 0 (2 + i) (omega (arith, length-append (take 2 was) xs))
    ∙ ap (λ (k : ℕ). get_or (take 2 was ++ xs) (k + i) 0) (sym two)
    ∙ get_or-append-add (take 2 was) xs i 0

column_none : (was : List ℕ) → column was [] ≡ was
column_none was = ap (λ (l : List ℕ). l ++ drop 2 was) (append-nil (take 2 was)) ∙ take-append-drop 2 was

-- every run with no entries holds none
pub holding_none : (was : Runs) → was ≡ holding was []
holding_none was i =
    runs (sym (column_none was.variable) i) (sym (column_none was.low) i) (sym (column_none was.high) i)

module _ (was : Runs) (es : List Entry) where
  -- the entry under a number
  pub holding_at : (i : ℕ) → Fit was 2 → i < length es → entry_of (holding was es) (2 + i) ≡ get_or es i (entry 0 0 0)
  holding_at i fit l k = entry (one (λ e. e.variable) was.variable refl fit.variable k) (one (λ e. e.low) was.low refl fit.low k) (one (λ e. e.high) was.high refl fit.high k)
    where
      one : (f : Entry → ℕ) (run : List ℕ) → f (entry 0 0 0) ≡ 0 → 2 ≤ length run → get_or (column run (map f es)) (2 + i) 0 ≡ f (get_or es i (entry 0 0 0))
      one f run z h =
          column_at run (map f es) i h (omega (arith, length-map es f))
          ∙ ap (λ (d : ℕ). get_or (map f es) i d) (sym z)
          ∙ get_or-map f es i (entry 0 0 0)

  -- one entry more
  pub holding_more : (k v l h : ℕ) → k ≡ 2 + length es → Fit was (k + 1)
      → appended (holding was es) k v l h ≡ holding was (es ++ (entry v l h ∷ []))
  holding_more k v l h e fit i = runs (one (λ e. e.variable) was.variable fit.variable i) (one (λ e. e.low) was.low fit.low i) (one (λ e. e.high) was.high fit.high i)
    where
      one : (f : Entry → ℕ) (run : List ℕ) → k + 1 ≤ length run → set (column run (map f es)) k (f (entry v l h)) ≡ column run (map f (es ++ (entry v l h ∷ [])))
      one f run g =
          column_more run (map f es) k (f (entry v l h)) (omega (arith, length-map es f)) (omega arith)
          ∙ ap (column run) (sym (map-append f es (entry v l h ∷ [])))
