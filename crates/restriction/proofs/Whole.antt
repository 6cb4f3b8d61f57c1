-- A restriction whole: refused by its checks, or run. And one option as a list of values.
use Rattle.std.specs.Prelude.{Err, None}
use Rattle.std.proofs.Common.{◌≡◌, ℕ, zero, suc, ◌<◌, ◌≤◌, Bool, true, false, cond, ◌||◌, eqb, ltb, List, [], ◌∷◌, ◌++◌, length, get_or, take, drop, set, replicate, sym, refl, ap, ◌∙◌, ⊎_elim, arith, length-append, length-drop, length-set, length-take, get_or-set_other, get_or-take, get_or-set_same, ltb-false, eqb-true}
use mathlib.Core.Path.{fun_ext}
use mathlib.Core.Option.{Option, none, some}
use lib.ListN.{get_or-eq_default, length-replicate}
use borrow.Author.Tests.{eqb-false}
use Rattle.bdd.specs.Array.{Runs, options, size, laid}
use Rattle.bdd.specs.Value.{Setting, Function, put, with_option}
use Rattle.bdd.specs.Signed.{signed, low_first}
use Rattle.bdd.specs.Jobs.{digit, fixed, restricted}
use Rattle.bdd.specs.Pairs.{room}
use Rattle.bdd.specs.Answers.{Checks, gives, number, clears, told_first, answered, paper_order, row_in, comes_first, over_limit, no_room, size_checks}
use Rattle.bdd.specs.Operations.{stack_short}
use Rattle.bdd.specs.Lent.{Answer}
use Rattle.bdd.specs.declared.Refusal.{Refusal}
use Rattle.bdd.specs.declared.Refusal.TheVariants.{ShortRun, NoRoom}
use Rattle.bdd.proofs.Logic.{le_or_lt}
use Rattle.bdd.proofs.Refusing as refusing
use Rattle.bdd.proofs.Refusing.{ascending, first_in_list, answered_in_order, outputs_kept, working_kept}
use Rattle.ending.specs.Ends.{Bounds, Comes, Ends, ended, ended_runs}
use Rattle.ending.specs.declared.Bound.{Bound}
use Rattle.ending.specs.declared.Explored.{Explored}
use Rattle.ending.proofs.Whole.{Kept, same_zeros, ends}
use Rattle.restriction.specs.Restricts.{Working, run_checks, restriction_checks, Restricts, Zeros}
use Rattle.restriction.specs.Exploring.{Rooms}

-- the three rows of 6, before others
short_first : (p q r : Bool) (rest : Checks)
    → first_in_list (gives ShortRun p ∷ gives ShortRun q ∷ gives ShortRun r ∷ rest) ≡ cond (p || q || r) (some ShortRun) (first_in_list rest)
unfolding first_in_list
short_first true q r rest = refl
short_first false true r rest = refl
short_first false false true rest = refl
short_first false false false rest = refl

none_short : (p q r : Bool) → (p || q || r) ≡ false → (p ≡ false) × (q ≡ false) × (r ≡ false)
none_short true q r e = absurd (let z : ◌≡◌ {A = ℕ} 0 1 = cc in omega arith)
none_short false true r e = absurd (let z : ◌≡◌ {A = ℕ} 0 1 = cc in omega arith)
none_short false false r e = (refl, refl, e)

abbrev short : Runs → Working → ℕ → Bool
short a w W = stack_short (options a) (length w.stack) || ltb (length w.index) W || ltb (length w.map) (size a)

-- what the test of the runs told
pub short_as : (a : Runs) (w : Working) (out : Runs) {n W : ℕ} {t : Bool} (b : Bool) → n ≡ options a → W ≡ room out
    → t ≡ (stack_short n (length w.stack) || ltb (length w.index) W || ltb (length w.map) (size a)) → t ≡ b → short a w (room out) ≡ b
short_as a w out b e f h q = rw (e, f) at (sym h ∙ q)

pub map_long : (a : Runs) (w : Working) (out : Runs) → short a w (room out) ≡ false → size a ≤ length w.map
map_long a w out e =
    ltb-false _ _ (none_short (stack_short (options a) (length w.stack)) (ltb (length w.index) (room out)) (ltb (length w.map) (size a)) e).2

-- the runs are long enough
pub roomy : (a : Runs) (w : Working) (out : Runs) (most : ℕ) → short a w (room out) ≡ false → most ≤ room out
    → Rooms a most out w.stack w.index w.map
roomy a w out most e l =
    let h = none_short (stack_short (options a) (length w.stack)) (ltb (length w.index) (room out)) (ltb (length w.map) (size a)) e in
    let i : room out ≤ length w.index = ltb-false _ _ h.1 in
    record {
      few = omega arith;
      output_fits = record { variable = omega arith; low = omega arith; high = omega arith };
      stack_fits = ltb-false _ _ h.0;
      index_fits = omega arith;
      map_fits = ltb-false _ _ h.2;
    }

-- the exploration is lent as much of the map run as there are entries, and the rest stays behind it
module _ (k : ℕ) (map : List ℕ) (l : k ≤ length map) where
  pub part_full : k ≡ length (take k map)
  part_full = omega (arith, length-take k map)

  pub part_kept : (part : List ℕ) → length part ≡ length (take k map) → length (part ++ drop k map) ≡ length map
  part_kept part e = omega (arith, length-append part (drop k map), length-drop k map, length-take k map)

pub roomy_part : {a : Runs} {most : ℕ} {out : Runs} {stack index map : List ℕ} → Rooms a most out stack index map
    → Rooms a most out stack index (take (size a) map)
roomy_part {a} {map = map} r =
    record {
      few = r.few;
      output_fits = r.output_fits;
      stack_fits = r.stack_fits;
      index_fits = r.index_fits;
      map_fits = omega (arith, part_full (size a) map r.map_fits);
    }

module _ (a : Runs) (f : Function) (was : Runs) (lent : Working) where
  abbrev pub S : ℕ
  S = length (signed low_first (options a) f)

  abbrev pub last : Checks
  last = gives NoRoom (no_room None (room was) S) ∷ []

  abbrev pub late : Checks
  late = run_checks a lent (room was) ++ last

  -- checks that stand in the paper's order: the first of them that holds is answered
  module _ (early : Checks) (in_order : ascending (early ++ late) ≡ true) where
    answers : {x : Option Refusal} → first_in_list (early ++ late) ≡ x
        → told_first x (S ∷ []) ≡ answered (restriction_checks early a lent (room was) S) (S ∷ [])
    answers e = ap (λ (x : Option Refusal). told_first x (S ∷ [])) (sym e) ∙ sym (answered_in_order (early ++ late) (S ∷ []) in_order)

    keeps : (why : Refusal) → first_in_list (early ++ late) ≡ some why → clears (number why) ≡ false → Restricts early a f was was lent lent (Err why)
    keeps why e k =
        record {
          makes = record { answer = answers e; outputs = outputs_kept why k (laid (signed low_first (options a) f)) was };
          stack = working_kept why k lent.stack;
          index = working_kept why k lent.index;
          map = working_kept why k lent.map;
        }

    -- one of a form's own checks holds
    pub stopped : {why : Refusal} → first_in_list early ≡ some why → clears (number why) ≡ false → Restricts early a f was was lent lent (Err why)
    stopped {why} e k = keeps why (refusing.stopped early late e) k

  late_in_order : ascending late ≡ true
  unfolding ascending comes_first row_in paper_order
  late_in_order = refl

  -- none of them does
  pub passed : (early : Checks) → ascending (early ++ late) ≡ true → first_in_list early ≡ none → {now : Runs} {back : Working} {r : Answer}
      → Restricts [] a f was now lent back r → Restricts early a f was now lent back r
  passed early in_order clean h =
      record {
        makes =
            record {
              answer = h.makes.answer ∙ answered_in_order late (S ∷ []) late_in_order ∙ answers early in_order (refusing.passed early late clean);
              outputs = h.makes.outputs;
            };
        stack = h.stack;
        index = h.index;
        map = h.map;
      }

  pub too_short : short a lent (room was) ≡ true → Restricts [] a f was was lent lent (Err ShortRun)
  too_short e =
      keeps [] late_in_order ShortRun
      (short_first (stack_short (options a) (length lent.stack)) (ltb (length lent.index) (room was)) (ltb (length lent.map) (size a)) last ∙ rw e) refl

  -- what the exploration came to, and how it ended
  module _ (enough : short a lent (room was) ≡ false) (mid now : Runs) (later back : Working)
      (stack-kept : length later.stack ≡ length lent.stack) (index_kept : length later.index ≡ length lent.index)
      (map-kept : length later.map ≡ length lent.map) (zeros : Zeros later back) (kept : Kept was mid) (b : Bound)
      (bounds : Bounds None (room was) b) (m : ℕ) (m-is : m ≡ options a) where
    ended_so : {r : Answer} → Ends low_first (options a) f None was now r → Restricts [] a f was now lent back r
    unfolding first_in_list over_limit
    ended_so e =
        record {
          makes =
              record {
                answer =
                    e.answer
                    ∙ answers [] late_in_order {x = first_in_list (size_checks None (room was) S)}
                    (short_first (stack_short (options a) (length lent.stack)) (ltb (length lent.index) (room was)) (ltb (length lent.map) (size a)) last ∙ rw enough);
                outputs = e.outputs;
              };
          stack = zeros.stack ∙ same_zeros lent.stack later.stack stack-kept ∙ sym (e.clears lent.stack);
          index = zeros.index ∙ same_zeros lent.index later.index index_kept ∙ sym (e.clears lent.index);
          map = zeros.map ∙ same_zeros lent.map later.map map-kept ∙ sym (e.clears lent.map);
        }

    pub ran : (x : Explored) {r : Answer} → Comes low_first (options a) f b.most was mid x → r ≡ ended x b → now ≡ ended_runs r m mid
        → Restricts [] a f was now lent back r
    ran x h e g = rw e (ended_so (ends low_first (options a) f None was mid now b bounds kept m m-is x h (rw e at g)))

-- one option: its value, and every other free
abbrev pub one_value : ℕ → ℕ → ℕ → Bool → List ℕ
one_value places n v b = take n (set (replicate places 2) v (digit b))

free : (m i : ℕ) → ◌≡◌ {A = ℕ} (get_or (replicate m 2) i 2) 2
free zero i = refl
free (suc m) zero = refl
free (suc m) (suc i) = free m i

module _ (places n v : ℕ) (b : Bool) (l : v < n) (k : n ≤ places) where
  at_option : get_or (one_value places n v b) v 2 ≡ digit b
  at_option = get_or-take n (set (replicate places 2) v (digit b)) v 2 l ∙ get_or-set_same (replicate places 2) v (digit b) 2 (omega (arith, length-replicate {A = ℕ} places 2))

  elsewhere : (i : ℕ) → (i ≡ v → ⊥) → get_or (one_value places n v b) i 2 ≡ 2
  elsewhere i ne =
      ⊎_elim
      (λ (q : n ≤ i). get_or-eq_default (one_value places n v b) 2 (omega (arith, length-take n (set (replicate places 2) v (digit b)))))
      (λ (q : i < n). get_or-take n (set (replicate places 2) v (digit b)) i 2 q ∙ get_or-set_other (replicate places 2) v i (digit b) 2 ne ∙ free places i)
      (le_or_lt n i)

  digit_fixed : (c : Bool) → (d : Bool) → cond (eqb (digit c) 2) d (eqb (digit c) 1) ≡ c
  digit_fixed true d = refl
  digit_fixed false d = refl

  fixed_one : (σ : Setting) → fixed (one_value places n v b) σ ≡ put v b σ
  unfolding fixed put
  fixed_one σ = fun_ext (λ i. at i (eqb i v) refl)
    where
      at : (i : ℕ) (t : Bool) → eqb i v ≡ t
          → cond (eqb (get_or (one_value places n v b) i 2) 2) (σ i) (eqb (get_or (one_value places n v b) i 2) 1) ≡ cond t b (σ i)
      at i true e = rw (eqb-true i v e, at_option) (digit_fixed b (σ v))
      at i false e = rw (elsewhere i (eqb-false i v e))

  pub one_restricted : (f : Function) → restricted (one_value places n v b) f ≡ with_option v b f
  unfolding restricted
  one_restricted f = fun_ext (λ σ. ap f (fixed_one σ))

  pub one_length : length (one_value places n v b) ≡ n
  one_length = omega (arith, length-take n (set (replicate places 2) v (digit b)), length-set (replicate places 2) v (digit b), length-replicate {A = ℕ} places 2)
