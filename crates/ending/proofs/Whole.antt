-- From what an exploration came to and how the output was left to the end: 8, 9 or done with S, the output, and a number after which
-- working runs are all zero.
use Rattle.std.specs.Prelude.{Err, Ok}
use Prim.Native.Nat.{ℕ, suc, ◌+◌, ◌<◌, ◌≤◌}
use mathlib.Core.Path.{◌≡◌, refl, sym, ap, ◌∙◌, subst}
use mathlib.Core.Logic.{◌⊎◌, inl, inr, ⊎_elim}
use mathlib.Core.Bool.{Bool, true, false, cond, not}
use mathlib.Core.List.{List, [], ◌∷◌}
use mathlib.Core.Option.{none, some}
use native.Mathlib.Omega.{arith}
use lib.ListN.{length, replicate}
use lib.Dec.{eqb}
use borrow.Author.Tests.{lt-ltb, le-ltb, eqb-true, eqb-false}
use Rattle.bdd.specs.Array.{Entry, Runs, laid, entry}
use Rattle.bdd.specs.Value.{Function}
use Rattle.bdd.specs.Signed.{signed}
use Rattle.bdd.specs.Pairs.{room}
use Rattle.bdd.specs.Answers.{told_answer, told_first, number, clears, all_zero, outputs_after, working_after}
use Rattle.bdd.specs.declared.Refusal.{Refusal}
use Rattle.bdd.specs.declared.Refusal.TheVariants.{OverLimit, NoRoom}
use Rattle.bdd.specs.Lent.{Limit}
use Rattle.bdd.proofs.Logic.{le_or_lt}
use Rattle.bdd.proofs.Refusing.{first_in_list, output_cleared, working_cleared}
use Rattle.index_run.specs.Placing.{holding}
use Rattle.tasks.proofs.Finished.{Finished}
use Rattle.ending.specs.declared.Bound.{Bound}
use Rattle.ending.specs.declared.Explored.{Explored}
use Rattle.ending.specs.declared.Explored.TheVariants as explored
use Rattle.ending.specs.Ends.{Bounds, Comes, Entered, Ends, cleared, too_long, ended, ended_runs, size_from, with_terminals}
use Rattle.ending.proofs.Columns.{false_column, other_column}

pub same_zeros : (was now : List ℕ) → length now ≡ length was → all_zero now ≡ all_zero was
same_zeros was now e = ap (λ (k : ℕ). replicate k 0) e

-- the output was as long before the exploration as after it
pub record Kept (was mid : Runs) : Type 0 where
  pub variable : length mid.variable ≡ length was.variable
  pub low : length mid.low ≡ length was.low
  pub high : length mid.high ≡ length was.high

-- S, from the number of the root's entry
record Sized (v next n : ℕ) (es made : List Entry) : Type 0 where
  size : size_from v next ≡ length made
  shape : ((es ≡ []) × (made ≡ entry n 0 0 ∷ []) × (size_from v next ≡ 1)) ⊎ ((made ≡ entry n 0 0 ∷ entry n 1 1 ∷ es) × (2 ≤ size_from v next))

module _ {first : Bool} {n : ℕ} {f : Function} {es : List Entry} {v next : ℕ} (h : Finished first n f es v) (e : next ≡ 2 + length es) where
  sized_at : (b : Bool) → eqb v 0 ≡ b → Sized v next n es (signed first n f)
  sized_at true z =
      let v-is = eqb-true v 0 z in
      let m = h.never v-is in
      let one : size_from v next ≡ 1 = rw z in
      record { size = one ∙ sym (ap length m); shape = inl (h.nothing (omega arith), m, one) }
  sized_at false z =
      let m = h.sometimes (eqb-false v 0 z) in
      let s : size_from v next ≡ next = rw z in
      let two : 2 + length es ≡ suc (suc (length es)) = omega arith in
      record { size = s ∙ e ∙ two ∙ sym (ap length m); shape = inr (m, omega arith) }

  sized : Sized v next n es (signed first n f)
  sized = sized_at (eqb v 0) refl

-- the terminals over what was built are the array
laid_out : (was : Runs) {n m v next most : ℕ} {es made : List Entry} → m ≡ n → Sized v next n es made → most ≤ length was.variable → most ≤ length was.low → most ≤ length was.high → size_from v next ≤ most → with_terminals m (size_from v next) (holding was es) ≡ outputs_after 0 (laid made) was
laid_out was {n} {m} {v} {next} {most} {es} {made} e z rv rl rh l =
    ⊎_elim
    (λ (f : (es ≡ []) × (made ≡ entry n 0 0 ∷ []) × (size_from v next ≡ 1)).
    let k = f.2 in
    let x = false_column (λ (d : Entry). d.variable) n (size_from v next) es made was.variable m m f.0 f.1 (sym e) k (omega arith) in
    let y = false_column (λ (d : Entry). d.low) n (size_from v next) es made was.low 0 1 f.0 f.1 refl k (omega arith) in
    let w = false_column (λ (d : Entry). d.high) n (size_from v next) es made was.high 0 1 f.0 f.1 refl k (omega arith) in
    λ i. record { variable = x i; low = y i; high = w i })
    (λ (f : (made ≡ entry n 0 0 ∷ entry n 1 1 ∷ es) × (2 ≤ size_from v next)).
    let k = f.1 in
    let x = other_column (λ (d : Entry). d.variable) n (size_from v next) es made was.variable m m f.0 (sym e) (sym e) k (omega arith) in
    let y = other_column (λ (d : Entry). d.low) n (size_from v next) es made was.low 0 1 f.0 refl refl k (omega arith) in
    let w = other_column (λ (d : Entry). d.high) n (size_from v next) es made was.high 0 1 f.0 refl refl k (omega arith) in
    λ i. record { variable = x i; low = y i; high = w i })
    z.shape

-- after a refusal that clears, from runs of the same lengths
pub outputs_cleared : (why : Refusal) → clears (number why) ≡ true → (made was mid : Runs) → Kept was mid → cleared mid ≡ outputs_after (number why) made was
outputs_cleared why c made was mid kept =
    let v = same_zeros was.variable mid.variable kept.variable ∙ sym (output_cleared why c made.variable was.variable) in
    let l = same_zeros was.low mid.low kept.low ∙ sym (output_cleared why c made.low was.low) in
    let h = same_zeros was.high mid.high kept.high ∙ sym (output_cleared why c made.high was.high) in
    λ i. record { variable = v i; low = l i; high = h i }

over_clears : (limited : Bool) → clears (number (cond limited OverLimit NoRoom)) ≡ true
over_clears true = refl
over_clears false = refl

-- 8 for the limit, else 9
over : (limited : Bool) (s : ℕ) → told_answer (Err (cond limited OverLimit NoRoom)) ≡ told_first (cond limited (some OverLimit) (cond (not limited) (some NoRoom) none)) (s ∷ [])
over true s = refl
over false s = refl

module _ (first : Bool) (n : ℕ) (f : Function) (limit : Limit) (was mid now : Runs) (b : Bound) (bounds : Bounds limit (room was) b) (kept : Kept was mid) where
  -- longer than it may be
  long : b.most < length (signed first n f) → now ≡ cleared mid → Ends first n f limit was now (too_long b)
  unfolding first_in_list
  long l e =
      let why = cond b.limited OverLimit NoRoom in
      record {
        answer = rw (bounds.limit_passed _ l, bounds.room_passed _ l) (over b.limited (length (signed first n f)));
        outputs = e ∙ outputs_cleared why (over_clears b.limited) (laid (signed first n f)) was mid kept;
        clears = working_cleared why (over_clears b.limited);
      }

  module _ (m : ℕ) (m-is : m ≡ n) where
    done : (v next : ℕ) → Entered first n f b.most was mid v next → size_from v next ≤ b.most → now ≡ with_terminals m (size_from v next) mid → Ends first n f limit was now (Ok (size_from v next))
    unfolding first_in_list working_after
    done v next h l e =
        let z = sized h.finished h.next_is in
        let s = size_from v next in
        let S : s ≡ length (signed first n f) = z.size in
        let fits : length (signed first n f) ≤ b.most = subst (λ (k : ℕ). k ≤ b.most) S l in
        let room-v : b.most ≤ length was.variable = omega (arith, bounds.room_most) in
        let room-l : b.most ≤ length was.low = omega (arith, bounds.room_most) in
        let room-h : b.most ≤ length was.high = omega (arith, bounds.room_most) in
        record {
          answer = rw (bounds.limit_kept _ fits, bounds.room_kept _ fits) (ap (λ (k : ℕ). told_answer (Ok k)) S);
          outputs = e ∙ ap (with_terminals m s) h.outputs ∙ laid_out was m-is z room-v room-l room-h l;
          clears = λ run. refl;
        }

    pub ends : (x : Explored) → Comes first n f b.most was mid x → now ≡ ended_runs (ended x b) m mid → Ends first n f limit was now (ended x b)
    ends explored.NoPairRoom h e = absurd h
    ends explored.Long h e = long h e
    ends (explored.Array v next) h e =
        ⊎_elim (λ (l : size_from v next ≤ b.most). rw (le-ltb _ _ l) (done v next h l (rw (le-ltb _ _ l) at e)))
        (λ (l : b.most < size_from v next).
        rw (lt-ltb _ _ l) (long (subst (λ (k : ℕ). b.most < k) (sized h.finished h.next_is).size l) (rw (lt-ltb _ _ l) at e)))
        (le_or_lt (size_from v next) b.most)
