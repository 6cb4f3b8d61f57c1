-- What the array of a function means: it is tidy, its value is the function, every entry is reached from the root, and it is
-- the one array in signing order with that value.
use Prim.Native.Nat.{ℕ, suc, ◌+◌, ◌<◌, ◌≤◌}
use mathlib.Core.Path.{◌≡◌, refl, sym, ap, ap₂, ◌∙◌, fun_ext}
use mathlib.Core.Logic.{◌≢◌, ⊎_elim}
use mathlib.Core.Bool.{Bool, true, false, cond, not}
use mathlib.Core.List.{List, [], ◌∷◌}
use native.Mathlib.Omega.{arith}
use native.Mathlib.Nat.{eq-or-lt_of_le}
use lib.ListN.{length, length-map}
use lib.Seq.{ext_get_or}
use lib.Dec.{eqb, eqb-suc-zero}
use borrow.Author.Tests.{eqb-true, eqb-false, eq-eqb}
use Rattle.bdd.specs.Bounds.{most_options, most_entries}
use Rattle.bdd.specs.Array.{Entry, Runs, entry, laid, entry_of, size, options, root, every, same_entry, layered, ordered, decides, single, tidy}
use Rattle.bdd.specs.Value.{Setting, Function, Of, value, value_at, follow}
use Rattle.bdd.specs.Signed.{Written, written, write, signed, same_runs, in_order}
use Rattle.bdd.specs.Reach.{Reached, at_root, by_low, by_high}
use Rattle.bdd.proofs.Logic.{le_or_lt, and_left, and_right, and_both, every_at, every_of, same_entry_path, same_entry_of}
use Rattle.bdd.proofs.Ordered.{Layered, Ordered, layered_close, ordered_open, ordered_close}
use Rattle.bdd.proofs.Reduction.{Reduced, decides_close, single_close, tidy_close}
use Rattle.bdd.proofs.Written.{grown_same}
use Rattle.bdd.proofs.Following.{side}
use Rattle.bdd.proofs.Walked.{over, Good, Walk, seen, new, walk_last, walk_grows, Wrote, wrote, wrote_value}

-- ---- the two shapes

-- what is written over n options
abbrev pub writing : Bool → ℕ → Function → Written
writing first n f = write first n 0 f []

-- false is one entry; any other is what was written, behind the terminals
pub data Shape (first : Bool) (n : ℕ) (f : Function) : List Entry → Type 0 where
  never : (writing first n f).at ≡ 0 → Shape first n f (entry n 0 0 ∷ [])
  sometimes : (writing first n f).at ≢ 0 → Shape first n f (entry n 0 0 ∷ entry n 1 1 ∷ (writing first n f).entries)

pub shape : (first : Bool) (n : ℕ) (f : Function) → Shape first n f (signed first n f)
unfolding signed
shape first n f = at (eqb (writing first n f).at 0) refl
  where
    at : (t : Bool) → eqb (writing first n f).at 0 ≡ t
        → Shape first n f (cond t (entry n 0 0 ∷ []) (entry n 0 0 ∷ entry n 1 1 ∷ (writing first n f).entries))
    at true e = never (eqb-true _ 0 e)
    at false e = sometimes (eqb-false _ 0 e)

pub signed_never : (first : Bool) (n : ℕ) (f : Function) (es : List Entry) → write first n 0 f [] ≡ written es 0
    → signed first n f ≡ entry n 0 0 ∷ []
unfolding signed
signed_never first n f es h = rw h

pub signed_sometimes : (first : Bool) (n : ℕ) (f : Function) (es : List Entry) (p : ℕ) → write first n 0 f [] ≡ written es (suc p)
    → signed first n f ≡ entry n 0 0 ∷ entry n 1 1 ∷ es
unfolding signed
signed_sometimes first n f es p h = rw (h, eqb-suc-zero p)

pub size_laid : (es : List Entry) → size (laid es) ≡ length es
size_laid es = length-map es (λ (e : Entry). e.variable)

false_layered : (n : ℕ) → Layered (laid (entry n 0 0 ∷ []))
false_layered n =
    record {
      low_length = refl;
      high_length = refl;
      entry_0 = λ l. refl;
      entry_1 = λ l. absurd (omega arith);
      entry_on = λ i k l. absurd (omega arith);
    }

over_layered : (n : ℕ) (es : List Entry) → ((i : ℕ) → 2 ≤ i → i < 2 + length es → Good (over n es) i) → Layered (over n es)
over_layered n es good =
    let long = size_laid es in
    record {
      low_length = omega (arith, length-map es (λ (e : Entry). e.low));
      high_length = omega (arith, length-map es (λ (e : Entry). e.high));
      entry_0 = λ l. refl;
      entry_1 = λ l. refl;
      entry_on = λ i k l. (good i k (omega arith)).inner;
    }

module _ (first : Bool) (n : ℕ) (f : Function) where
  abbrev w : Written
  w = writing first n f

  -- what the writing of the whole function did
  pub wrote_all : Wrote first n (writing first n f).entries 0 0 (writing first n f)
  wrote_all = wrote first n w.entries n 0 f [] (omega arith) (grown_same _) (λ i k l. absurd (omega arith))

  wrote_layered : Layered (over n w.entries)
  wrote_layered = over_layered n w.entries wrote_all.good

  -- the root is where the writing ended
  root_at : w.at ≢ 0 → root (over n w.entries) ≡ w.at
  root_at ne =
      let long = size_laid w.entries in
      ⊎_elim (λ (e : 2 + length w.entries ≡ 2 + 0). omega (arith, wrote_all.inside))
      (λ (e : 2 + length w.entries ≡ suc w.at). omega arith)
      (walk_last wrote_all.walk)

  layered_of : (es : List Entry) → Shape first n f es → Layered (laid es)
  layered_of _ (never e) = false_layered n
  layered_of _ (sometimes e) = wrote_layered

  reduced_of : (es : List Entry) → Shape first n f es → (i : ℕ) → 2 ≤ i → i < size (laid es) → Reduced (laid es) i
  reduced_of _ (never e) i k l = absurd (omega arith)
  reduced_of _ (sometimes e) i k l = (wrote_all.good i k (omega (arith, size_laid w.entries))).reduced

  options_of : (es : List Entry) → Shape first n f es → options (laid es) ≡ n
  options_of _ (never e) = refl
  options_of _ (sometimes e) = refl

  some_of : (es : List Entry) → Shape first n f es → 1 ≤ size (laid es)
  some_of _ (never e) = omega arith
  some_of _ (sometimes e) = omega arith

  wrote_is : Of n f → (σ : Setting) → value_at (over n w.entries) w.at σ ≡ f σ
  wrote_is of =
      wrote_value first n w.entries wrote_layered n 0 f [] (λ σ τ h. of σ τ (λ i l. h i (omega arith) (omega arith))) (grown_same _)

  value_of : (es : List Entry) → Shape first n f es → Of n f → (σ : Setting) → value (laid es) σ ≡ f σ
  unfolding value value_at follow
  value_of _ (never e) of σ = rw e at (wrote_is of σ)
  value_of _ (sometimes e) of σ = ap (λ (i : ℕ). value_at (over n w.entries) i σ) (root_at e) ∙ wrote_is of σ

  walk_of : (es : List Entry) → Shape first n f es → 2 ≤ size (laid es) → Walk first (laid es) (root (laid es)) 2 (size (laid es))
  walk_of _ (never e) l = absurd (omega arith)
  walk_of _ (sometimes e) l =
      let top : size (over n w.entries) ≡ 2 + length w.entries = omega (arith, size_laid w.entries) in
      rw (root_at e, top) wrote_all.walk

  -- ---- what the array is

  pub signed_options : options (laid (signed first n f)) ≡ n
  signed_options = options_of _ (shape first n f)

  pub signed_facts : Layered (laid (signed first n f))
  signed_facts = layered_of _ (shape first n f)

  pub signed_reduced : (i : ℕ) → 2 ≤ i → i < size (laid (signed first n f)) → Reduced (laid (signed first n f)) i
  signed_reduced = reduced_of _ (shape first n f)

  pub signed_layered : layered (laid (signed first n f)) ≡ true
  signed_layered = layered_close _ signed_facts

  pub signed_decides : every (size (laid (signed first n f))) (decides (laid (signed first n f))) ≡ true
  signed_decides = decides_close _ signed_reduced

  pub signed_single : every (size (laid (signed first n f))) (single (laid (signed first n f))) ≡ true
  signed_single = single_close _ signed_reduced

  -- a walk over its links meets its entries in the order of their numbers
  pub signed_walk : 2 ≤ size (laid (signed first n f))
      → Walk first (laid (signed first n f)) (root (laid (signed first n f))) 2 (size (laid (signed first n f)))
  signed_walk = walk_of _ (shape first n f)

  module _ (n-most : n ≤ most_options) (most : length (signed first n f) ≤ most_entries) where
    ordered_facts : Ordered (laid (signed first n f))
    ordered_facts =
        record {
          options_most = rw signed_options n-most;
          size_least = some_of _ (shape first n f);
          size_most = rw (size_laid (signed first n f)) most;
          layered = signed_facts;
        }

    pub signed_ordered : ordered (laid (signed first n f)) ≡ true
    signed_ordered = ordered_close _ ordered_facts

    pub signed_tidy : tidy (laid (signed first n f)) ≡ true
    signed_tidy = tidy_close _ (record { ordered = ordered_facts; reduced = signed_reduced })

  pub signed_value : Of n f → (σ : Setting) → value (laid (signed first n f)) σ ≡ f σ
  signed_value = value_of _ (shape first n f)

-- ---- every entry is reached

reached_side : (a : Runs) (b : Bool) (i : ℕ) → Reached a i → 2 ≤ i → Reached a (side a b i)
reached_side a true i r l = by_high r l
reached_side a false i r l = by_low r l

-- what a walk from a reached entry meets is reached
walk_reached : {first : Bool} {a : Runs} {i k m : ℕ} → Walk first a i k m → 2 ≤ k → Reached a i → (j : ℕ) → k ≤ j → j < m → Reached a j
walk_reached (seen l) t r j p q = absurd (omega arith)
walk_reached {first} {a} (new {i} {k} {l} b x y) t r j p q =
    ⊎_elim (λ (e : j ≡ i). rw e r)
    (λ (e : j < i).
    ⊎_elim
    (λ (z : l ≤ j).
    walk_reached y (omega (arith, walk_grows x)) (reached_side a (not first) i r (omega arith)) j z e)
    (λ (z : j < l). walk_reached x t (reached_side a first i r (omega arith)) j p z)
    (le_or_lt l j))
    (eq-or-lt_of_le (omega arith))

pub signed_reached : (first : Bool) (n : ℕ) (f : Function) (i : ℕ) → 2 ≤ i → i < length (signed first n f)
    → Reached (laid (signed first n f)) i
signed_reached first n f i k l =
    let long = size_laid (signed first n f) in
    walk_reached (signed_walk first n f (omega arith)) (omega arith) at_root i k (omega arith)

-- ---- the one array

-- runs as long as one another that hold the same entries are the same
pub runs_path : (a b : Runs) → Layered a → Layered b → size a ≡ size b → ((i : ℕ) → i < size a → entry_of a i ≡ entry_of b i) → a ≡ b
runs_path a b A B s h =
    let v : a.variable ≡ b.variable = ext_get_or 0 a.variable b.variable s (λ i l. ap (λ (e : Entry). e.variable) (h i l)) in
    let lo : a.low ≡ b.low =
    ext_get_or 0 a.low b.low (A.low_length ∙ s ∙ sym B.low_length)
    (λ i l. ap (λ (e : Entry). e.low) (h i (omega (arith, A.low_length)))) in
    let hi : a.high ≡ b.high =
    ext_get_or 0 a.high b.high (A.high_length ∙ s ∙ sym B.high_length)
    (λ i l. ap (λ (e : Entry). e.high) (h i (omega (arith, A.high_length)))) in
    λ i. record { variable = v i; low = lo i; high = hi i }

pub same_runs_of : (a b : Runs) → a ≡ b → same_runs a b ≡ true
unfolding same_runs
same_runs_of a b e =
    and_both _ _ (eq-eqb _ _ (ap size e))
    (every_of (size a) _ (λ i l. same_entry_of _ _ (ap (λ (c : Runs). entry_of c i) e)))

-- an array in signing order is the array of its value
pub in_order_path : (first : Bool) (a : Runs) → in_order first a ≡ true → a ≡ laid (signed first (options a) (value a))
unfolding in_order same_runs
in_order_path first a h =
    let b = laid (signed first (options a) (value a)) in
    let same = and_right (ordered a) (same_runs a b) h in
    let each = every (size a) (λ i. same_entry (entry_of a i) (entry_of b i)) in
    runs_path a b (ordered_open a (and_left (ordered a) (same_runs a b) h)).layered (signed_facts first (options a) (value a))
    (eqb-true _ _ (and_left (eqb (size a) (size b)) each same))
    (λ i l. same_entry_path _ _ (every_at (size a) _ (and_right (eqb (size a) (size b)) each same) i l))

pub one_array : (first : Bool) (a b : Runs) → in_order first a ≡ true → in_order first b ≡ true → options a ≡ options b
    → ((σ : Setting) → value a σ ≡ value b σ) → a ≡ b
one_array first a b ha hb o v =
    in_order_path first a ha ∙ ap₂ (λ (n : ℕ) (f : Function). laid (signed first n f)) o (fun_ext v) ∙ sym (in_order_path first b hb)

pub every_function_has_one : (first : Bool) (n : ℕ) (f : Function) → Of n f → n ≤ most_options → length (signed first n f) ≤ most_entries
    → in_order first (laid (signed first n f)) ≡ true
unfolding in_order
every_function_has_one first n f of n-most most =
    let a = laid (signed first n f) in
    and_both _ _ (signed_ordered first n f n-most most)
    (same_runs_of a _
    (ap₂ (λ (m : ℕ) (g : Function). laid (signed first m g)) (sym (signed_options first n f)) (sym (fun_ext (signed_value first n f of)))))
