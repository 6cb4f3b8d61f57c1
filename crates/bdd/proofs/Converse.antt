-- The converse: an array that is layered and reduced, and whose entries a walk over the links meets in the order of their
-- numbers, is the array of its own value. So signing order is decided from the array alone; and, as Bryant proved, no two
-- entries of a reduced array have the same values.
use Prim.Native.Nat.{ℕ, zero, suc, ◌<◌, ◌≤◌}
use mathlib.Core.Path.{◌≡◌, refl, sym, ap, ap₂, ◌∙◌, subst, fun_ext}
use mathlib.Core.Logic.{◌≢◌, ⊎_elim}
use mathlib.Core.Bool.{Bool, true, false, cond, not}
use mathlib.Core.List.{List, [], ◌∷◌, ◌++◌}
use native.Mathlib.Omega.{arith}
use native.Mathlib.Nat.{eq-or-lt_of_le}
use lib.ListN.{length, get_or, length-append, get_or-append}
use lib.Seq.{get_or_at}
use Rattle.bdd.specs.Array.{Entry, Runs, entry, laid, var_of, entry_of, size, options, root, ordered, tidy}
use Rattle.bdd.specs.Value.{Setting, Function, value_at, value}
use Rattle.bdd.specs.Signed.{Written, written, write, signed, same_runs, in_order}
use Rattle.bdd.proofs.Logic.{le_or_lt, and_left, and_both}
use Rattle.bdd.proofs.Ordered.{Layered, ordered_open, ordered_close}
use Rattle.bdd.proofs.Reduction.{Reduced, Tidy, tidy_open}
use Rattle.bdd.proofs.Written.{grown_same, Stands, stands_grown, written_stands, constant, at_option, find_absent, decide_new}
use Rattle.bdd.proofs.Following.{side, side_back, value_0, value_1, value_ignores, value_side}
use Rattle.bdd.proofs.Walked.{over, entry_over, Walk, seen, new, walk_grows}
use Rattle.bdd.proofs.Meaning.{size_laid, signed_never, signed_sometimes, runs_path, same_runs_of, in_order_path, signed_facts, signed_reduced, signed_walk}

-- the first j entries behind the terminals, and those below number k
abbrev front : Runs → ℕ → List Entry
front a zero = []
front a (suc j) = front a j ++ (entry_of a (suc (suc j)) ∷ [])

abbrev below : Runs → ℕ → List Entry
below a zero = []
below a (suc zero) = []
below a (suc (suc j)) = front a j

front_length : (a : Runs) (j : ℕ) → length (front a j) ≡ j
front_length a zero = refl
front_length a (suc j) = length-append (front a j) _ ∙ omega (arith, front_length a j)

front_at : (a : Runs) (j i : ℕ) → i < j → get_or (front a j) i (entry 0 0 0) ≡ entry_of a (suc (suc i))
front_at a zero i l = absurd (omega arith)
front_at a (suc j) i l =
    ⊎_elim
    (λ (e : i ≡ j). rw e (get_or_at (front a j) (entry_of a (suc (suc j))) [] (entry 0 0 0) j (front_length a j)))
    (λ (e : i < j).
    get_or-append (front a j) _ (entry 0 0 0) i (omega (arith, front_length a j)) ∙ front_at a j i e)
    (eq-or-lt_of_le (omega arith))

sides_entry : (first : Bool) (a : Runs) (i : ℕ)
    → entry (var_of a i) (cond first (side a (not first) i) (side a first i)) (cond first (side a first i) (side a (not first) i)) ≡ entry_of a i
sides_entry true a i = refl
sides_entry false a i = refl

sides_differ : (first : Bool) (a : Runs) (i : ℕ) → Reduced a i → side a first i ≢ side a (not first) i
sides_differ true a i h e = h.links (sym e)
sides_differ false a i h e = h.links e

module _ (first : Bool) (a : Runs) (layered : Layered a) (reduced : (i : ℕ) → 2 ≤ i → i < size a → Reduced a i) where
  -- with both its sides written, entry i is written next
  next : (j : ℕ) (es es₁ : List Entry) → let i : ℕ = suc (suc j) in i < size a
      → write first (options a) 0 (value_at a (side a first i)) es ≡ written es₁ (side a first i)
      → write first (options a) 0 (value_at a (side a (not first) i)) es₁ ≡ written (front a j) (side a (not first) i)
      → write first (options a) 0 (value_at a i) es ≡ written (front a (suc j)) i
  next j es es₁ l hx hy =
      let i : ℕ = suc (suc j) in
      let x : ℕ = side a first i in
      let y : ℕ = side a (not first) i in
      let here = layered.entry_on i (omega arith) l in
      let far : (m : ℕ) → m < length (front a j) → get_or (front a j) m (entry 0 0 0) ≢ entry_of a i =
      λ m q e. (reduced i (omega arith) l).single (suc (suc m)) (omega arith) (omega (arith, front_length a j))
      (sym (front_at a j m (omega (arith, front_length a j))) ∙ e) in
      at_option first (options a) (var_of a i) (value_at a i) es (written es₁ x) (written (front a j) y) here.variable
      (λ m q. value_ignores a layered i l m q)
      (rw (value_side a layered first i (omega arith) l) hx)
      (rw (value_side a layered (not first) i (omega arith) l) hy)
      ∙ decide_new first (var_of a i) x y (front a j) (sides_differ first a i (reduced i (omega arith) l))
      (rw (sides_entry first a i) (find_absent (entry_of a i) 2 (front a j) far))
      ∙ ap₂ (λ (e : Entry) (p : ℕ). written (front a j ++ (e ∷ [])) p) (sides_entry first a i) (omega (arith, front_length a j))

  -- every entry below number 2 + j stands in those
  stand : (j : ℕ) → suc (suc j) ≤ size a → (i : ℕ) → i < suc (suc j) → Stands first (options a) 0 (value_at a i) (front a j) i
  stand zero l zero m =
      let f : value_at a 0 ≡ (λ σ. false) = fun_ext (value_0 a layered) in
      rw f (constant first false (options a) 0 [])
  stand zero l (suc zero) m =
      let f : value_at a 1 ≡ (λ σ. true) = fun_ext (λ σ. value_1 a layered σ l) in
      rw f (constant first true (options a) 0 [])
  stand zero l (suc (suc i)) m = absurd (omega arith)
  stand (suc j) l i m =
      let top : ℕ = suc (suc j) in
      let here = layered.entry_on top (omega arith) l in
      let before : (i : ℕ) → i < top → Stands first (options a) 0 (value_at a i) (front a j) i = stand j (omega arith) in
      let made : write first (options a) 0 (value_at a top) (front a j) ≡ written (front a (suc j)) top =
      next j (front a j) (front a j) l (before (side a first top) (side_back a first top here))
      (before (side a (not first) top) (side_back a (not first) top here)) in
      ⊎_elim
      (λ (e : i ≡ top).
      rw e (rw made at (written_stands first (options a) 0 (value_at a top) (front a j))))
      (λ (e : i < top).
      stands_grown first (options a) 0 (value_at a i) (front a j) (front a (suc j)) i (before i e)
      (record { more = entry_of a top ∷ []; path = refl }))
      (eq-or-lt_of_le (omega arith))

  stand_below : (k : ℕ) → 2 ≤ k → k ≤ size a → (i : ℕ) → i < k → Stands first (options a) 0 (value_at a i) (below a k) i
  stand_below zero t l i m = absurd (omega arith)
  stand_below (suc zero) t l i m = absurd (omega arith)
  stand_below (suc (suc j)) t l i m = stand j l i m

  no_two : (i j : ℕ) → i < size a → j < size a → ((σ : Setting) → value_at a i σ ≡ value_at a j σ) → i ≡ j
  no_two i j l m h =
      ⊎_elim
      (λ (t : 2 ≤ size a).
      let s = stand_below (size a) t (omega arith) in
      ap (λ (w : Written). w.at)
      (sym (s i l) ∙ ap (λ (f : Function). write first (options a) 0 f (below a (size a))) (fun_ext h) ∙ s j m))
      (λ (t : size a < 2). omega arith)
      (le_or_lt 2 (size a))

  -- what a walk meets is what is written
  walk_writes : (i k m : ℕ) → Walk first a i k m → 2 ≤ k → m ≤ size a
      → write first (options a) 0 (value_at a i) (below a k) ≡ written (below a m) i
  walk_writes i k _ (seen l) t s = stand_below k t s i l
  walk_writes zero k _ (new {l = l} b x y) t s = absurd (omega arith)
  walk_writes (suc zero) k _ (new {l = l} b x y) t s = absurd (omega arith)
  walk_writes (suc (suc j)) k _ (new {l = l} b x y) t s =
      let i : ℕ = suc (suc j) in
      let gx = walk_grows x in
      let gy = walk_grows y in
      next j (below a k) (below a l) s (walk_writes (side a first i) k l x t (omega arith))
      (walk_writes (side a (not first) i) l i y (omega arith) (omega arith))

  over_entry : (j i : ℕ) → size a ≡ suc (suc j) → i < size a → entry_of a i ≡ entry_of (over (options a) (front a j)) i
  over_entry j zero e l = layered.entry_0 l
  over_entry j (suc zero) e l = layered.entry_1 l
  over_entry j (suc (suc i)) e l =
      sym (entry_over (options a) (front a j) (front a j) i (grown_same _) (omega (arith, front_length a j))
      ∙ front_at a j i (omega arith))

  from_entries : (es : List Entry) → signed first (options a) (value a) ≡ es → size a ≡ length es
      → ((i : ℕ) → i < size a → entry_of a i ≡ entry_of (laid es) i) → a ≡ laid (signed first (options a) (value a))
  from_entries es is long h =
      runs_path a _ layered (signed_facts first (options a) (value a)) (rw is (long ∙ sym (size_laid es))) (λ i m. rw is (h i m))

  false_entry : (n i : ℕ) → entry_of a 0 ≡ entry n 0 0 → i < 1 → entry_of a i ≡ entry_of (laid (entry n 0 0 ∷ [])) i
  false_entry n zero h l = h
  false_entry n (suc i) h l = absurd (omega arith)

  -- an array whose entries stand in the order of a walk is the array of its value
  pub walk_order : 1 ≤ size a → (3 ≤ size a → Walk first a (root a) 2 (size a)) → a ≡ laid (signed first (options a) (value a))
  unfolding value
  walk_order l walk = at (size a) refl
    where
      at : (k : ℕ) → size a ≡ k → a ≡ laid (signed first (options a) (value a))
      at zero e = absurd (omega arith)
      at (suc zero) e =
          let r : root a ≡ 0 = omega arith in
          let f : value a ≡ (λ σ. false) = fun_ext (λ σ. ap (λ (i : ℕ). value_at a i σ) r ∙ value_0 a layered σ) in
          from_entries (entry (options a) 0 0 ∷ [])
          (signed_never first (options a) (value a) [] (rw f (constant first false (options a) 0 []))) e
          (λ i m. false_entry (options a) i (layered.entry_0 l) (omega arith))
      at (suc (suc j)) e =
          let r : root a ≡ suc j = omega arith in
          let w : Walk first a (root a) 2 (suc (suc j)) =
          ⊎_elim (λ (t : 3 ≤ size a). subst (λ (m : ℕ). Walk first a (root a) 2 m) e (walk t))
          (λ (t : size a < 3).
          let two : suc (suc j) ≡ 2 = omega arith in
          let known : root a < 2 = omega arith in
          rw two (seen known))
          (le_or_lt 3 (size a)) in
          let made : write first (options a) 0 (value_at a (root a)) [] ≡ written (front a j) (root a) =
          walk_writes (root a) 2 (suc (suc j)) w (omega arith) (omega arith) in
          from_entries (entry (options a) 0 0 ∷ entry (options a) 1 1 ∷ front a j)
          (signed_sometimes first (options a) (value a) (front a j) j (made ∙ ap (written (front a j)) r))
          (e ∙ ap (λ (m : ℕ). suc (suc m)) (sym (front_length a j)))
          (λ i m. over_entry j i e m)

-- Bryant: no two entries of a tidy array have the same values
pub no_two_same : (a : Runs) → tidy a ≡ true → (i j : ℕ) → i < size a → j < size a
    → ((σ : Setting) → value_at a i σ ≡ value_at a j σ) → i ≡ j
no_two_same a h = let t = tidy_open a h in no_two true a t.ordered.layered t.reduced

-- ---- signing order, from the array alone

-- tidy, and from 3 entries on a walk from the root that knows the terminals meets the entries in the order of their numbers
pub record IsInOrder (first : Bool) (a : Runs) : Type 0 where
  pub tidy : Tidy a
  pub walk : 3 ≤ size a → Walk first a (root a) 2 (size a)

pub in_order_close : (first : Bool) (a : Runs) → IsInOrder first a → in_order first a ≡ true
unfolding in_order
in_order_close first a h =
    and_both _ _ (ordered_close a h.tidy.ordered)
    (same_runs_of a _ (walk_order first a h.tidy.ordered.layered h.tidy.reduced h.tidy.ordered.size_least h.walk))

pub in_order_open : (first : Bool) (a : Runs) → in_order first a ≡ true → IsInOrder first a
unfolding in_order
in_order_open first a h =
    let is = in_order_path first a h in
    record {
      tidy = record {
        ordered = ordered_open a (and_left (ordered a) (same_runs a (laid (signed first (options a) (value a)))) h);
        reduced = subst (λ (b : Runs). (i : ℕ) → 2 ≤ i → i < size b → Reduced b i) (sym is) (signed_reduced first (options a) (value a));
      };
      walk = λ l.
          subst (λ (b : Runs). 2 ≤ size b → Walk first b (root b) 2 (size b)) (sym is) (signed_walk first (options a) (value a)) (omega arith);
    }
