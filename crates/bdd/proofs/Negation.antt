-- Negation: its value at a setting is the other value, it stays ordered and in signing order, and twice it gives the set
-- back. Links 0 and 1 change places, and so do both ends of every way through the links.
use Prim.Native.Nat.{ℕ, zero, suc, ◌+◌, ◌<◌, ◌≤◌}
use mathlib.Core.Path.{◌≡◌, refl, sym, ap, ap₂, ◌∙◌, subst, fun_ext}
use mathlib.Core.Logic.{⊎_elim}
use mathlib.Core.Bool.{Bool, true, false, cond, not}
use mathlib.Core.List.{List, [], ◌∷◌, ◌++◌, map, map-append, map-map}
use mathlib.Core.Option.{Option, none, some}
use native.Mathlib.Omega.{arith}
use lib.ListN.{length, get_or, take, drop, length-map, get_or-map}
use lib.Seq.{ext_get_or}
use lib.Dec.{eqb, ltb, eqb-suc-zero}
use borrow.Author.Tests.{eqb-true, eqb-false, eq-eqb, ne_eqb, lt-ltb, le-ltb}
use Rattle.bdd.specs.Bounds.{most_options}
use Rattle.bdd.specs.Array.{Entry, Runs, entry, runs, laid, var_of, entry_of, entries_from, entries_of, size, options, root, even, layered, ordered, bounded, every, placed, same_entry}
use Rattle.bdd.specs.Value.{Setting, Function, with_option, chosen, follow, value_at, value}
use Rattle.bdd.specs.Signed.{Written, written, find, found_or_added, add, decide, write, under_terminals, signed, same_runs, in_order}
use Rattle.bdd.specs.Jobs.{negated, true_array, false_array, swapped_link, not_array}
use Rattle.bdd.proofs.Logic.{and_left, and_right, and_both, le_or_lt}
use Rattle.bdd.proofs.Ordered.{Layered, ordered_open, ordered_close}
use Rattle.bdd.proofs.Written.{constant, find_some}
use Rattle.bdd.proofs.Walked.{walk_seen}
use Rattle.bdd.proofs.Following.{side, side_back, side_variable, side_terminal, follow_ends, value_0, value_1}
use Rattle.bdd.proofs.Meaning.{writing, wrote_all, size_laid, signed_never, signed_sometimes, signed_ordered, signed_value, same_runs_of, in_order_path}

-- ---- runs as entries, and back

pub entries_length : (a : Runs) (i k : ℕ) → length (entries_from a i k) ≡ k
unfolding entries_from
entries_length a i zero = refl
entries_length a i (suc k) = ap suc (entries_length a (suc i) k)

pub entries_at : (a : Runs) (i k j : ℕ) (z : Entry) → j < k → get_or (entries_from a i k) j z ≡ entry_of a (i + j)
unfolding entries_from
entries_at a i zero j z l = absurd (omega arith)
entries_at a i (suc k) zero z l = ap (entry_of a) (omega arith)
entries_at a i (suc k) (suc j) z l = entries_at a (suc i) k j z (omega arith) ∙ ap (entry_of a) (omega arith)

pub entry_at : (a : Runs) (i : ℕ) → i < size a → get_or (entries_of a) i (entry 0 0 0) ≡ entry_of a i
entry_at a i l = entries_at a 0 (size a) i (entry 0 0 0) l ∙ ap (entry_of a) (omega arith)

-- a column of the entries is the run
column : (a : Runs) (f : Entry → ℕ) (run : List ℕ) → f (entry 0 0 0) ≡ 0 → ((i : ℕ) → f (entry_of a i) ≡ get_or run i 0) → length run ≡ size a
    → map f (entries_of a) ≡ run
column a f run z h l =
    let long = length-map (entries_of a) f ∙ entries_length a 0 (size a) in
    ext_get_or 0 (map f (entries_of a)) run (long ∙ sym l)
    (λ i m.
    subst (λ (d : ℕ). get_or (map f (entries_of a)) i d ≡ f (get_or (entries_of a) i (entry 0 0 0))) z (get_or-map f (entries_of a) i (entry 0 0 0))
    ∙ ap f (entry_at a i (omega arith))
    ∙ h i)

pub laid_entries : (a : Runs) → even a ≡ true → laid (entries_of a) ≡ a
unfolding even
laid_entries a e =
    let one = eqb (length a.low) (size a) in
    let other = eqb (length a.high) (size a) in
    let v = column a (λ (d : Entry). d.variable) a.variable refl (λ i. refl) refl in
    let l = column a (λ (d : Entry). d.low) a.low refl (λ i. refl) (eqb-true _ _ (and_left one other e)) in
    let h = column a (λ (d : Entry). d.high) a.high refl (λ i. refl) (eqb-true _ _ (and_right one other e)) in
    λ i. record { variable = v i; low = l i; high = h i }

entry_laid : (es : List Entry) (i : ℕ) → entry_of (laid es) i ≡ get_or es i (entry 0 0 0)
entry_laid es i =
    let z : Entry = entry 0 0 0 in
    let v = get_or-map (λ (d : Entry). d.variable) es i z in
    let l = get_or-map (λ (d : Entry). d.low) es i z in
    let h = get_or-map (λ (d : Entry). d.high) es i z in
    λ j. record { variable = v j; low = l j; high = h j }

pub entries_laid : (es : List Entry) → entries_of (laid es) ≡ es
entries_laid es =
    let long = entries_length (laid es) 0 (size (laid es)) ∙ size_laid es in
    ext_get_or (entry 0 0 0) (entries_of (laid es)) es long
    (λ i l. entry_at (laid es) i (omega (arith, size_laid es)) ∙ entry_laid es i)

ordered_even : (a : Runs) → ordered a ≡ true → even a ≡ true
unfolding ordered layered
ordered_even a h =
    and_left (even a) (every (size a) (placed a)) (and_right (bounded (options a) (size a)) (layered a) h)

-- ---- the swap

abbrev swapped : Entry → Entry
swapped x = entry x.variable (swapped_link x.low) (swapped_link x.high)

swapped_twice : (i : ℕ) → swapped_link (swapped_link i) ≡ i
swapped_twice zero = refl
swapped_twice (suc zero) = refl
swapped_twice (suc (suc i)) = refl

pub swapped_same : (i : ℕ) → 2 ≤ i → swapped_link i ≡ i
swapped_same zero l = absurd (omega arith)
swapped_same (suc zero) l = absurd (omega arith)
swapped_same (suc (suc i)) l = refl

swapped_inside : (i k : ℕ) → i < k → 2 ≤ k → swapped_link i < k
swapped_inside zero k l t = omega arith
swapped_inside (suc zero) k l t = omega arith
swapped_inside (suc (suc i)) k l t = l

swapped_eqb : (i j : ℕ) → eqb (swapped_link i) (swapped_link j) ≡ eqb i j
swapped_eqb i j = at (eqb i j) refl
  where
    at : (t : Bool) → eqb i j ≡ t → eqb (swapped_link i) (swapped_link j) ≡ t
    at true e = eq-eqb (swapped_link i) (swapped_link j) (ap swapped_link (eqb-true i j e))
    at false e = ne_eqb (swapped_link i) (swapped_link j) (λ p. eqb-false i j e (sym (swapped_twice i) ∙ ap swapped_link p ∙ swapped_twice j))

swapped_on : (i : ℕ) → i < 2 → eqb (swapped_link i) 1 ≡ not (eqb i 1)
swapped_on zero l = refl
swapped_on (suc zero) l = refl
swapped_on (suc (suc i)) l = absurd (omega arith)

map_swapped_twice : (es : List Entry) → map swapped (map swapped es) ≡ es
map_swapped_twice [] = refl
map_swapped_twice (e ∷ es) =
    let l = swapped_twice e.low in
    let h = swapped_twice e.high in
    ap₂ (λ (d : Entry) (ds : List Entry). d ∷ ds) (λ i. record { variable = e.variable; low = l i; high = h i }) (map_swapped_twice es)

-- ---- the array as three runs

-- links 0 and 1 swap from entry 2 on
abbrev pub swapped_links : List ℕ → List ℕ
swapped_links ls = take 2 ls ++ map swapped_link (drop 2 ls)

abbrev pub swapped_runs : Runs → Runs
swapped_runs a = runs a.variable (swapped_links a.low) (swapped_links a.high)

pub swapped_length : (ls : List ℕ) → length (swapped_links ls) ≡ length ls
swapped_length [] = refl
swapped_length (l ∷ []) = refl
swapped_length (l ∷ h ∷ ls) = ap (λ (k : ℕ). suc (suc k)) (length-map ls swapped_link)

pub swapped_at : (ls : List ℕ) (i : ℕ) → i < length ls → get_or (swapped_links ls) i 0 ≡ cond (ltb i 2) (get_or ls i 0) (swapped_link (get_or ls i 0))
swapped_at [] i m = absurd (omega arith)
swapped_at (l ∷ []) zero m = refl
swapped_at (l ∷ []) (suc i) m = absurd (omega arith)
swapped_at (l ∷ h ∷ ls) zero m = refl
swapped_at (l ∷ h ∷ ls) (suc zero) m = refl
swapped_at (l ∷ h ∷ ls) (suc (suc i)) m = rw (le-ltb (suc (suc i)) 2 (omega arith)) (at ls i (omega arith))
  where
    at : (ls : List ℕ) (i : ℕ) → i < length ls → get_or (map swapped_link ls) i 0 ≡ swapped_link (get_or ls i 0)
    at [] i m = absurd (omega arith)
    at (l ∷ ls) zero m = refl
    at (l ∷ ls) (suc i) m = at ls i (omega arith)

laid_swapped : (es : List Entry) → 3 ≤ length es → laid (not_array es) ≡ swapped_runs (laid es)
unfolding not_array
laid_swapped [] l = absurd (omega arith)
laid_swapped (e ∷ []) l = absurd (omega arith)
laid_swapped (e ∷ d ∷ []) l = absurd (omega arith)
laid_swapped (e ∷ d ∷ c ∷ es) l =
    let v = map-map (λ (x : Entry). x.variable) swapped (c ∷ es) in
    let lo = map-map (λ (x : Entry). x.low) swapped (c ∷ es) ∙ sym (map-map swapped_link (λ (x : Entry). x.low) (c ∷ es)) in
    let hi = map-map (λ (x : Entry). x.high) swapped (c ∷ es) ∙ sym (map-map swapped_link (λ (x : Entry). x.high) (c ∷ es)) in
    λ i.
    record {
      variable = e.variable ∷ d.variable ∷ v i;
      low = e.low ∷ d.low ∷ lo i;
      high = e.high ∷ d.high ∷ hi i;
    }

-- three entries or more keep their layout
pub not_runs : (a : Runs) → even a ≡ true → 3 ≤ size a → laid (not_array (entries_of a)) ≡ swapped_runs a
not_runs a e l =
    laid_swapped (entries_of a) (omega (arith, entries_length a 0 (size a))) ∙ ap swapped_runs (laid_entries a e)

-- false and true swap
pub not_false_array : (a : Runs) → size a ≡ 1 → not_array (entries_of a) ≡ true_array (options a)
unfolding not_array entries_from
not_false_array a e = ap (λ (k : ℕ). not_array (entries_from a 0 k)) e

pub not_true_array : (a : Runs) → size a ≡ 2 → not_array (entries_of a) ≡ false_array (options a)
unfolding not_array entries_from
not_true_array a e = ap (λ (k : ℕ). not_array (entries_from a 0 k)) e

-- ---- the value, where the layout is kept

module _ (a : Runs) (A : Layered a) (long : 1 < size a) where
  abbrev b : Runs
  b = swapped_runs a

  side_kept : (s : Bool) (i : ℕ) → i ≤ 1 → i < size a → side b s i ≡ i
  side_kept true i t l = swapped_at a.high i (omega (arith, A.high_length)) ∙ rw (lt-ltb i 2 (omega arith)) (side_terminal a A true i t l)
  side_kept false i t l = swapped_at a.low i (omega (arith, A.low_length)) ∙ rw (lt-ltb i 2 (omega arith)) (side_terminal a A false i t l)

  side_swapped : (s : Bool) (i : ℕ) → 2 ≤ i → i < size a → side b s i ≡ swapped_link (side a s i)
  side_swapped true i t l = swapped_at a.high i (omega (arith, A.high_length)) ∙ rw (le-ltb i 2 t)
  side_swapped false i t l = swapped_at a.low i (omega (arith, A.low_length)) ∙ rw (le-ltb i 2 t)

  -- entries 0 and 1 have the same variable
  variable_swapped : (i : ℕ) → var_of a (swapped_link i) ≡ var_of a i
  variable_swapped zero = ap (λ (e : Entry). e.variable) (A.entry_1 long)
  variable_swapped (suc zero) = sym (ap (λ (e : Entry). e.variable) (A.entry_1 long))
  variable_swapped (suc (suc i)) = refl

  side_inside : (s : Bool) (i : ℕ) → 2 ≤ i → i < size a → side b s i < i
  side_inside s i t l =
      rw (side_swapped s i t l) (swapped_inside _ i (side_back a s i (A.entry_on i t l)) t)

  side_later : (s : Bool) (i : ℕ) → 2 ≤ i → i < size a → var_of a i < var_of a (side b s i)
  side_later s i t l =
      rw (side_swapped s i t l, variable_swapped) (side_variable a s i (A.entry_on i t l))

  kept : (i : ℕ) → i ≤ 1 → i < size a → var_of a i ≡ options a → entry_of b i ≡ entry (options a) i i
  kept i t l v =
      let lo = side_kept false i t l in
      let hi = side_kept true i t l in
      λ j. record { variable = v j; low = lo j; high = hi j }

  swapped_layered : Layered b
  swapped_layered =
      record {
        low_length = swapped_length a.low ∙ A.low_length;
        high_length = swapped_length a.high ∙ A.high_length;
        entry_0 = λ l. kept 0 (omega arith) l refl;
        entry_1 = λ l. kept 1 (omega arith) l (ap (λ (e : Entry). e.variable) (A.entry_1 long));
        entry_on = λ i t l.
            record {
              variable = (A.entry_on i t l).variable;
              low = side_inside false i t l;
              high = side_inside true i t l;
              low_variable = side_later false i t l;
              high_variable = side_later true i t l;
            };
      }

  chosen_swapped : (σ : Setting) (i : ℕ) → i < size a → chosen b σ (swapped_link i) ≡ swapped_link (chosen a σ i)
  unfolding chosen
  chosen_swapped σ zero l =
      side_kept (σ (var_of a 1)) 1 (omega arith) long ∙ sym (ap swapped_link (side_terminal a A (σ (var_of a 0)) 0 (omega arith) l))
  chosen_swapped σ (suc zero) l =
      side_kept (σ (var_of a 0)) 0 (omega arith) (omega arith) ∙ sym (ap swapped_link (side_terminal a A (σ (var_of a 1)) 1 (omega arith) l))
  chosen_swapped σ (suc (suc i)) l = side_swapped (σ (var_of a (suc (suc i)))) (suc (suc i)) (omega arith) l

  chosen_inside : (σ : Setting) (i : ℕ) → i < size a → chosen a σ i < size a
  unfolding chosen
  chosen_inside σ i l =
      ⊎_elim (λ (t : i ≤ 1). omega (arith, side_terminal a A (σ (var_of a i)) i t l))
      (λ (t : 1 < i). omega (arith, side_back a (σ (var_of a i)) i (A.entry_on i t l)))
      (le_or_lt i 1)

  -- every way through the links ends at the other terminal
  follow_swapped : (σ : Setting) (k i : ℕ) → i < size a → follow b σ k (swapped_link i) ≡ swapped_link (follow a σ k i)
  unfolding follow
  follow_swapped σ zero i l = refl
  follow_swapped σ (suc k) i l =
      ap (follow b σ k) (chosen_swapped σ i l) ∙ follow_swapped σ k (chosen a σ i) (chosen_inside σ i l)

  swapped_value : (i : ℕ) → 2 ≤ i → i < size a → (σ : Setting) → value_at b i σ ≡ not (value_at a i σ)
  unfolding value_at
  swapped_value i t l σ =
      ap (λ (j : ℕ). eqb j 1) (ap (follow b σ i) (sym (swapped_same i t)) ∙ follow_swapped σ i i l)
      ∙ swapped_on _ (follow_ends a A σ i i l (omega arith))

-- ---- the laws

by_size : {P : Type 0} (k : ℕ) → 1 ≤ k → (k ≡ 1 → P) → (k ≡ 2 → P) → (3 ≤ k → P) → P
by_size zero l one two more = absurd (omega arith)
by_size (suc zero) l one two more = one refl
by_size (suc (suc zero)) l one two more = two refl
by_size (suc (suc (suc k))) l one two more = more (omega arith)

-- the negation of a set
abbrev pub negation : Runs → Runs
negation a = laid (not_array (entries_of a))

signed_false : (n : ℕ) → signed true n (λ σ. false) ≡ false_array n
signed_false n = signed_never true n (λ σ. false) [] (constant true false n 0 [])

signed_true : (n : ℕ) → signed true n (λ σ. true) ≡ true_array n
signed_true n = signed_sometimes true n (λ σ. true) [] 0 (constant true true n 0 [])

-- false and true, as the arrays of their functions
module _ (n : ℕ) (most : n ≤ most_options) where
  false_ordered : ordered (laid (false_array n)) ≡ true
  false_ordered = rw signed_false at (signed_ordered true n (λ σ. false) most (rw (signed_false n) (omega arith)))

  true_ordered : ordered (laid (true_array n)) ≡ true
  true_ordered = rw signed_true at (signed_ordered true n (λ σ. true) most (rw (signed_true n) (omega arith)))

false_value : (n : ℕ) (σ : Setting) → value (laid (false_array n)) σ ≡ false
false_value n σ = rw signed_false at (signed_value true n (λ σ. false) (λ σ τ h. refl) σ)

true_value : (n : ℕ) (σ : Setting) → value (laid (true_array n)) σ ≡ true
true_value n σ = rw signed_true at (signed_value true n (λ σ. true) (λ σ τ h. refl) σ)

pub negation_options : (a : Runs) → ordered a ≡ true → options (negation a) ≡ options a
negation_options a h =
    by_size (size a) (ordered_open a h).size_least
    (λ e. ap (λ (es : List Entry). options (laid es)) (not_false_array a e))
    (λ e. ap (λ (es : List Entry). options (laid es)) (not_true_array a e))
    (λ l. ap options (not_runs a (ordered_even a h) l))

pub negation_ordered : (a : Runs) → ordered a ≡ true → ordered (negation a) ≡ true
negation_ordered a h =
    let o = ordered_open a h in
    by_size (size a) o.size_least
    (λ e. rw (not_false_array a e) (true_ordered (options a) o.options_most))
    (λ e. rw (not_true_array a e) (false_ordered (options a) o.options_most))
    (λ l.
    rw (not_runs a (ordered_even a h) l)
    (ordered_close (swapped_runs a)
    record {
      options_most = o.options_most;
      size_least = o.size_least;
      size_most = o.size_most;
      layered = swapped_layered a o.layered (omega arith);
    }))

pub negation_value : (a : Runs) → ordered a ≡ true → (σ : Setting) → value (negation a) σ ≡ negated (value a) σ
unfolding value negated
negation_value a h σ =
    let o = ordered_open a h in
    let at : (i : ℕ) → root a ≡ i → value a σ ≡ value_at a i σ = λ i e. ap (λ (j : ℕ). value_at a j σ) e in
    by_size (size a) o.size_least
    (λ e.
    rw (not_false_array a e)
    (true_value (options a) σ ∙ ap not (sym (at 0 (omega arith) ∙ value_0 a o.layered σ))))
    (λ e.
    rw (not_true_array a e)
    (false_value (options a) σ ∙ ap not (sym (at 1 (omega arith) ∙ value_1 a o.layered σ (omega arith)))))
    (λ l.
    ap (λ (b : Runs). value b σ) (not_runs a (ordered_even a h) l)
    ∙ (swapped_value a o.layered (omega arith) (root a) (omega arith) (omega arith) σ))

not_twice : (es : List Entry) → 3 ≤ length es → not_array (not_array es) ≡ es
unfolding not_array
not_twice [] l = absurd (omega arith)
not_twice (e ∷ []) l = absurd (omega arith)
not_twice (e ∷ d ∷ []) l = absurd (omega arith)
not_twice (e ∷ d ∷ c ∷ es) l = ap (λ (ds : List Entry). e ∷ d ∷ ds) (map_swapped_twice (c ∷ es))

pub negation_twice : (a : Runs) → ordered a ≡ true → not_array (not_array (entries_of a)) ≡ entries_of a
unfolding not_array entries_from
negation_twice a h =
    let o = (ordered_open a h).layered in
    by_size (size a) (ordered_open a h).size_least
    (λ e.
    ap not_array (not_false_array a e)
    ∙ sym (ap (entries_from a 0) e ∙ ap (λ (d : Entry). d ∷ []) (o.entry_0 (omega arith))))
    (λ e.
    ap not_array (not_true_array a e)
    ∙ sym (ap (entries_from a 0) e
    ∙ ap₂ (λ (d c : Entry). d ∷ c ∷ []) (o.entry_0 (omega arith)) (o.entry_1 (omega arith))))
    (λ l. not_twice (entries_of a) (omega (arith, entries_length a 0 (size a))))

-- ---- signing order

abbrev swapped_written : Written → Written
swapped_written w = written (map swapped w.entries) (swapped_link w.at)

same_swapped : (d e : Entry) → same_entry (swapped d) (swapped e) ≡ same_entry d e
unfolding same_entry
same_swapped d e = rw (swapped_eqb d.low e.low, swapped_eqb d.high e.high)

find_swapped : (e : Entry) (p : ℕ) (es : List Entry) → find (swapped e) p (map swapped es) ≡ find e p es
unfolding find
find_swapped e p [] = refl
find_swapped e p (d ∷ ds) = rw (same_swapped d e, find_swapped e (suc p) ds)

add_swapped : (e : Entry) (es : List Entry) → add (swapped e) (map swapped es) ≡ swapped_written (add e es)
unfolding add
add_swapped e es = ap (found_or_added (swapped e) (map swapped es)) (find_swapped e 2 es) ∙ at (find e 2 es) refl
  where
    at : (o : Option ℕ) → find e 2 es ≡ o → found_or_added (swapped e) (map swapped es) o ≡ swapped_written (found_or_added e es o)
    at none q =
        ap₂ written (sym (map-append swapped es (e ∷ [])))
        (ap (λ (k : ℕ). 2 + k) (length-map es swapped) ∙ sym (swapped_same (2 + length es) (omega arith)))
    at (some p) q = ap (written (map swapped es)) (sym (swapped_same p (omega (arith, (find_some e 2 p es q).1))))

decide_swapped : (first : Bool) (k x y : ℕ) (es : List Entry)
    → decide first k (swapped_link x) (swapped_link y) (map swapped es) ≡ swapped_written (decide first k x y es)
unfolding decide
decide_swapped first k x y es = rw (swapped_eqb x y) (at first (eqb x y))
  where
    at : (first t : Bool)
        → cond t (written (map swapped es) (swapped_link x)) (add (entry k (cond first (swapped_link y) (swapped_link x)) (cond first (swapped_link x) (swapped_link y))) (map swapped es))
        ≡ swapped_written (cond t (written es x) (add (entry k (cond first y x) (cond first x y)) es))
    at first true = refl
    at true false = add_swapped (entry k y x) es
    at false false = add_swapped (entry k x y) es

write_swapped : (first : Bool) (m k : ℕ) (f : Function) (es : List Entry)
    → write first m k (negated f) (map swapped es) ≡ swapped_written (write first m k f es)
unfolding write negated
write_swapped first zero k f es = ap (written (map swapped es)) (at (f (λ i. false)))
  where
    at : (t : Bool) → cond (not t) 1 0 ≡ swapped_link (cond t 1 0)
    at true = refl
    at false = refl
write_swapped first (suc m) k f es =
    let f₁ = with_option k first f in
    let f₂ = with_option k (not first) f in
    let x = write first m (suc k) f₁ es in
    let y = write first m (suc k) f₂ x.entries in
    rw (write_swapped first m (suc k) f₁ es, write_swapped first m (suc k) f₂ x.entries)
    (decide_swapped first k x.at y.at y.entries)

pub negation_signed : (first : Bool) (n : ℕ) (f : Function) → not_array (signed first n f) ≡ signed first n (negated f)
unfolding signed not_array
negation_signed first n f =
    let w = writing first n f in
    let did = wrote_all first n f in
    at w.at w.entries (λ l. omega (arith, walk_seen did.walk l)) did.inside
    ∙ sym (ap (under_terminals n) (write_swapped first n 0 f []))
  where
    at : (p : ℕ) (es : List Entry) → (p < 2 → length es ≡ 0) → p < 2 + length es
        → not_array (under_terminals n (written es p)) ≡ under_terminals n (swapped_written (written es p))
    at zero [] h l = refl
    at zero (e ∷ es) h l = absurd (omega (arith, h (omega arith)))
    at (suc zero) [] h l = refl
    at (suc zero) (e ∷ es) h l = absurd (omega (arith, h (omega arith)))
    at (suc (suc p)) [] h l = absurd (omega arith)
    at (suc (suc p)) (e ∷ es) h l = rw (eqb-suc-zero (suc p))

-- a set in signing order stays in signing order
pub negation_in_order : (first : Bool) (a : Runs) → in_order first a ≡ true → in_order first (negation a) ≡ true
unfolding in_order
negation_in_order first a h =
    let n = options a in
    let o = and_left (ordered a) (same_runs a (laid (signed first n (value a)))) h in
    let es : entries_of a ≡ signed first n (value a) =
    ap entries_of (in_order_path first a h) ∙ entries_laid (signed first n (value a)) in
    and_both _ _ (negation_ordered a o)
    (same_runs_of (negation a) _
    (ap laid (ap not_array es ∙ negation_signed first n (value a))
    ∙ ap₂ (λ (m : ℕ) (g : Function). laid (signed first m g)) (sym (negation_options a o)) (sym (fun_ext (negation_value a o)))))
