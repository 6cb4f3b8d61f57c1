-- The dry run: refused by its checks, or what its count comes to.
use Rattle.std.specs.Prelude.{Err, Ok, Result, Some, None}
use Rattle.std.specs.Prelude as std
use Prim.Native.Nat.{ℕ, ◌*◌, ◌≤◌}
use mathlib.Core.Path.{◌≡◌, refl, sym, ap, ◌∙◌}
use mathlib.Core.Bool.{Bool, true, false, cond, not}
use mathlib.Core.List.{List, [], ◌∷◌, ◌++◌}
use mathlib.Core.Option.{Option, none, some}
use native.Mathlib.Omega.{arith}
use lib.ListN.{length, take, drop}
use lib.Seq.{length-take-le, length_front}
use Rattle.bdd.specs.Jobs.{digit}
use Rattle.bdd.specs.Pairs.{count, can_hold, pair_room}
use Rattle.bdd.specs.Answers.{Checks, gives, number, clears, told_first, answered, paper_order, row_in, comes_first, over_limit, no_room, all_zero, working_after}
use Rattle.bdd.specs.Operations.{Operation, job_checks, dry_checks}
use Rattle.bdd.specs.declared.Refusal.{Refusal}
use Rattle.bdd.specs.declared.Refusal.TheVariants.{PairRoom, OverLimit}
use Rattle.bdd.proofs.Refusing as refusing
use Rattle.bdd.proofs.Refusing.{ascending, first_in_list, answered_in_order, working_kept, working_cleared}
use Rattle.complexity.specs.Counts.{Counts}
use Rattle.complexity.specs.declared.Counted.{Counted}
use Rattle.ending.specs.Ends.{Bounds}
use Rattle.ending.specs.declared.Bound.{Bound}
use Rattle.ending.proofs.Whole.{same_zeros}
use Rattle.boolean_ops.specs.declared.Dry.{Dry}
use Rattle.boolean_ops.specs.Operations.{Dries}
use Rattle.boolean_ops.specs.Pieces.{Passes, Stops, Admits, dried}

over_clears : (limited : Bool) → clears (number (cond limited OverLimit PairRoom)) ≡ true
over_clears true = refl
over_clears false = refl

-- 8 for the limit, else 7
over : (limited : Bool) → cond (not limited) (some PairRoom) (cond limited (some OverLimit) none) ≡ some (cond limited OverLimit PairRoom)
over true = refl
over false = refl

-- the part of the pair run that has room for k pairs and no more
pub part_length : (pairs : List ℕ) (k : ℕ) → k ≤ pair_room pairs → length (take (4 * k) pairs) ≡ 4 * k
unfolding pair_room
part_length pairs k l = length-take-le (4 * k) pairs (omega arith)

part_room : (pairs : List ℕ) (k : ℕ) → k ≤ pair_room pairs → pair_room (take (4 * k) pairs) ≡ k
unfolding pair_room
part_room pairs k l = omega (arith, part_length pairs k l)

module _ (o : Operation) (pairs stack : List ℕ) where
  abbrev c : ℕ
  c = count o.job

  abbrev R : ℕ
  R = pair_room pairs

  abbrev values : List ℕ
  values = digit (can_hold o.job) ∷ c ∷ []

  abbrev early : Checks
  early = job_checks o.job o.output (length stack)

  abbrev late : Checks
  late = gives PairRoom (no_room o.limit R c) ∷ gives OverLimit (over_limit o.limit R c) ∷ []

  answers : (x : Option Refusal) → first_in_list (early ++ late) ≡ x → told_first x values ≡ answered (dry_checks o pairs stack) values
  unfolding ascending comes_first row_in paper_order
  answers x e = ap (λ (x : Option Refusal). told_first x values) (sym e) ∙ sym (answered_in_order (early ++ late) values refl)

  pub dry_stopped : {why : Refusal} → Stops early why → Dries o pairs stack pairs stack (Err why)
  dry_stopped {why} h =
      record {
        answer = answers (some why) (refusing.stopped early late h.first);
        pairs_after = working_kept why h.keeps pairs;
        stack_after = working_kept why h.keeps stack;
      }

  module _ (clean : first_in_list early ≡ none) (b : Bound) (bounds : Bounds o.limit R b) where
    -- what the count comes to under the bound, and both runs all zero
    pub dry_ran : (k : std.Option Counted) → Counts o.job b.most k → Dries o pairs stack (all_zero pairs) (all_zero stack) (dried k b.limited)
    unfolding first_in_list working_after
    dry_ran None h =
        let why = cond b.limited OverLimit PairRoom in
        record {
          answer = answers (some why) (refusing.passed early late clean ∙ rw (bounds.room_passed c h, bounds.limit_passed c h) (over b.limited));
          pairs_after = sym (working_cleared why (over_clears b.limited) pairs);
          stack_after = sym (working_cleared why (over_clears b.limited) stack);
        }
    dry_ran (Some k) h =
        record {
          answer =
              (λ i. told_first none (digit (h.holds i) ∷ h.counted i ∷ []))
              ∙ answers none (refusing.passed early late clean ∙ rw (bounds.room_kept c h.fits, bounds.limit_kept c h.fits));
          pairs_after = refl;
          stack_after = refl;
        }

    -- it was counted in that part of the pair run, which came back as long as it was
    pub dry_left : (k : std.Option Counted) (part : List ℕ) {p s : List ℕ} {r : Result Dry Refusal} → Counts o.job (pair_room (take (4 * b.most) pairs)) k
        → length part ≡ length (take (4 * b.most) pairs) → r ≡ dried k b.limited
        → p ≡ all_zero (part ++ drop (4 * b.most) pairs) → s ≡ all_zero stack → Dries o pairs stack p s r
    dry_left k part h kept e f g =
        let n = 4 * b.most in
        rw (e, f ∙ same_zeros pairs (part ++ drop n pairs) (length_front pairs part n kept), g)
        (dry_ran k (rw (part_room pairs b.most bounds.room_most) at h))

-- what the admission tells in each of its cases
pub admitted : (cs : Checks) (n : ℕ) {m : ℕ} {r : Result ℕ Refusal} → Admits cs n r → r ≡ Ok m → Passes cs n m
admitted cs n h e = rw e at h

pub refused : (cs : Checks) (n : ℕ) {why : Refusal} {r : Result ℕ Refusal} → Admits cs n r → r ≡ Err why → Stops cs why
refused cs n h e = rw e at h
