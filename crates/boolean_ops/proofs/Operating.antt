-- An operator whole: refused by its checks, or run.
use Rattle.std.specs.Prelude.{Err}
use Prim.Native.Nat.{ℕ, ◌+◌, ◌*◌, ◌<◌, ◌≤◌}
use mathlib.Core.Path.{◌≡◌, refl, sym, ap, ◌∙◌}
use mathlib.Core.Bool.{false}
use mathlib.Core.List.{[], ◌∷◌, ◌++◌}
use mathlib.Core.Option.{Option, none, some}
use lib.ListN.{length}
use lib.Dec.{ltb}
use borrow.Author.Tests.{lt-ltb, le-ltb, eqb-true, ltb-false, not-false}
use Rattle.bdd.specs.Array.{Runs, options, laid}
use Rattle.bdd.specs.Signed.{high_first}
use Rattle.bdd.specs.Pairs.{Job, Checked, room, pair_room, tasks}
use Rattle.bdd.specs.Answers.{Checks, gives, number, clears, told_first, answered, paper_order, row_in, comes_first, size_checks}
use Rattle.bdd.specs.Operations.{Operation, Working, meant, made, job_checks, operation_checks, Operates}
use Rattle.bdd.specs.Lent.{Answer, Flip}
use Rattle.bdd.specs.declared.Refusal.{Refusal}
use Rattle.bdd.specs.declared.Refusal.TheVariants.{ShortRun, PairRoom}
use Rattle.bdd.proofs.Refusing as refusing
use Rattle.bdd.proofs.Refusing.{ascending, first_in_list, answered_in_order, clear, outputs_kept, working_kept, working_cleared}
use Rattle.ending.specs.Ends.{Ends, cleared}
use Rattle.ending.proofs.Whole.{Kept, outputs_cleared}
use Rattle.boolean_ops.specs.Pieces.{Stops, Zeros}

-- what the refusals 1 to 5 and 6 for the stack leave
pub record Left (j : Job) (places : ℕ) : Type 0 where
  pub checked : Checked j
  pub stack_fits : 2 * options j.left + 1 ≤ places

pub clean_left : (j : Job) (out : Flip) (places : ℕ) → first_in_list (job_checks j out places) ≡ none → Left j places
clean_left j out places h =
    let table = clear _ _ h in
    let left = clear _ _ table.rest in
    let right = clear _ _ left.rest in
    let counts = clear _ _ right.rest in
    let option = clear _ _ counts.rest in
    let stack = clear _ _ option.rest in
    record {
      checked =
          record {
            left = not-false _ left.here;
            right = not-false _ right.here;
            same_options = eqb-true _ _ (not-false _ counts.here);
            table = not-false _ table.here;
          };
      stack_fits = ltb-false _ _ stack.here;
    }

module _ (o : Operation) (was : Runs) (lent : Working) where
  abbrev S : ℕ
  S = length (made o)

  abbrev early : Checks
  early = job_checks o.job o.output (length lent.stack)

  abbrev late : Checks
  late =
      gives ShortRun (ltb (length lent.index) (room was))
      ∷ gives PairRoom (ltb (pair_room lent.pairs) (tasks o.job))
      ∷ size_checks o.limit (room was) S

  -- the checks stand in the paper's order, so the first of them that holds is answered
  answers : {x : Option Refusal} → first_in_list (early ++ late) ≡ x → told_first x (S ∷ []) ≡ answered (operation_checks o lent (room was) S) (S ∷ [])
  unfolding ascending comes_first row_in paper_order
  answers e = ap (λ (x : Option Refusal). told_first x (S ∷ [])) (sym e) ∙ sym (answered_in_order (early ++ late) (S ∷ []) refl)

  keeps : (why : Refusal) → first_in_list (early ++ late) ≡ some why → clears (number why) ≡ false → Operates o was was lent lent (Err why)
  keeps why e k =
      record {
        makes = record { answer = answers e; outputs = outputs_kept why k (laid (made o)) was };
        pairs = working_kept why k lent.pairs;
        stack = working_kept why k lent.stack;
        index = working_kept why k lent.index;
      }

  pub stopped : {why : Refusal} → Stops early why → Operates o was was lent lent (Err why)
  stopped {why} h = keeps why (refusing.stopped early late h.first) h.keeps

  module _ (clean : first_in_list early ≡ none) where
    pub index_short : length lent.index < room was → Operates o was was lent lent (Err ShortRun)
    unfolding first_in_list
    index_short l = keeps ShortRun (refusing.passed early late clean ∙ rw (lt-ltb _ _ l)) refl

    module _ (fits : room was ≤ length lent.index) (now : Runs) (back : Working) (zeros : Zeros lent back) where
      pub no_pair_room : (mid : Runs) → Kept was mid → pair_room lent.pairs < tasks o.job → now ≡ cleared mid → Operates o was now lent back (Err PairRoom)
      unfolding first_in_list
      no_pair_room mid kept l e =
          record {
            makes =
                record {
                  answer = answers {x = some PairRoom} (refusing.passed early late clean ∙ rw (le-ltb _ _ fits, lt-ltb _ _ l));
                  outputs = e ∙ outputs_cleared PairRoom refl (laid (made o)) was mid kept;
                };
            pairs = zeros.pairs ∙ sym (working_cleared PairRoom refl lent.pairs);
            stack = zeros.stack ∙ sym (working_cleared PairRoom refl lent.stack);
            index = zeros.index ∙ sym (working_cleared PairRoom refl lent.index);
          }

      pub ran : {r : Answer} → tasks o.job ≤ pair_room lent.pairs → Ends high_first (options o.job.left) (meant o) o.limit was now r → Operates o was now lent back r
      unfolding first_in_list
      ran l e =
          record {
            makes =
                record {
                  answer = e.answer ∙ answers {x = first_in_list (size_checks o.limit (room was) S)} (refusing.passed early late clean ∙ rw (le-ltb _ _ fits, le-ltb _ _ l));
                  outputs = e.outputs;
                };
            pairs = zeros.pairs ∙ sym (e.clears lent.pairs);
            stack = zeros.stack ∙ sym (e.clears lent.stack);
            index = zeros.index ∙ sym (e.clears lent.index);
          }
