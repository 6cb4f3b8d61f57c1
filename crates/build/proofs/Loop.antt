-- The loop: what holds before each turn, how it begins, goes on and ends.
use Rattle.std.specs.Prelude.{None, Some, Option}
use Prim.Native.Nat.{ℕ, ◌<◌, ◌≤◌}
use mathlib.Core.Path.{◌≡◌, refl, sym, ap, subst, ◌∙◌}
use mathlib.Core.List.{List, [], ◌∷◌}
use native.Mathlib.Omega.{arith}
use lib.ListN.{length, set, length-set, length-replicate}
use Rattle.bdd.specs.Array.{Runs, options}
use Rattle.bdd.specs.Signed.{signed, high_first}
use Rattle.bdd.specs.Pairs.{Job, Pair, result, roots, pair_room}
use Rattle.bdd.specs.Answers.{all_zero}
use Rattle.bdd.specs.Lent.{Flip, output_of, SameOutput, SameWorking}
use Rattle.bdd.specs.declared.OutputRuns.{OutputRuns}
use Rattle.bdd.specs.declared.WorkingRuns.{WorkingRuns}
use Rattle.pair_run.specs.Held as held
use Rattle.pair_run.proofs.Laws as pairs-run
use Rattle.index_run.proofs.Laws as index_run
use Rattle.index_run.proofs.Columns.{holding_none}
use Rattle.ending.proofs.Alike.{Alike}
use Rattle.counting.proofs.Stack.{stacked}
use Rattle.tasks.proofs.Build.{Build, started, built, root_known}
use Rattle.pairs.proofs.Pairs.{meaning_roots, pair_tasks}
use Rattle.step.specs.Step.{code, decoded}
use Rattle.step.proofs.Codes.{roots_small}
use Rattle.build.specs.declared.Built.{Built}
use Rattle.build.specs.declared.State.{State}
use Rattle.build.specs.Build.{Rooms, Prepared, Outcome}
use Rattle.build.specs.Looks.{Known, Concludes}
use Rattle.build.specs.Exploring.{Exploring, Advanced, Turned, looks}
use Rattle.build.proofs.Turns.{pushed_stack}

rooms_alike : {j : Job} {most : ℕ} {was now : Runs} {pairs pairs' stack stack' index index' : List ℕ} → Rooms j most was pairs stack index
    → Alike was now pairs pairs' stack stack' index index' → Rooms j most now pairs' stack' index'
unfolding pair_room
rooms_alike r a =
    let f = r.output_fits in
    record {
      few = r.few;
      output_fits = omega (arith, a.variable, a.low, a.high);
      pairs_fit = omega (arith, r.pairs_fit, a.pairs_length);
      stack_fits = omega (arith, r.stack_fits, a.stack_length);
      index_fits = omega (arith, r.index_fits, a.index_length);
    }

-- the loop's invariant, over the runs where it began and now
pub record Going (j : Job) (out : Flip) (most : ℕ) (was now : Runs) (pairs pairs' stack stack' index index' : List ℕ) (s : State) : Type 0 where
  pub state : Exploring j out most was pairs' stack' index' now s
  pub rooms : Rooms j most now pairs' stack' index'
  pub alike : Alike was now pairs pairs' stack stack' index index'

-- what a turn keeps of the lent runs
pub alike_of : {was now : OutputRuns} {lent back : WorkingRuns} → SameOutput was now → SameWorking lent back
    → Alike (output_of was) (output_of now) lent.pairs.now back.pairs.now lent.stack.now back.stack.now lent.index.now back.index.now
alike_of o w =
    record {
      variable = o.variable_length;
      low = o.low_length;
      high = o.high_length;
      pairs_length = w.pairs_length;
      stack_length = w.stack_length;
      index_length = w.index_length;
    }

-- the pair run and the index run are cleared, the root waits alone, and nothing is known or written
pub going_begun : {j : Job} {most : ℕ} {now : Runs} {pairs stack index : List ℕ} → Prepared j most now pairs stack index
    → (out : Flip) {pairs' stack' index' : List ℕ} (p : Pair) → pairs' ≡ all_zero pairs → index' ≡ all_zero index → p ≡ roots j
    → stack' ≡ set stack 0 (code p)
    → Going j out most now now pairs' pairs' stack' stack' index' index' (record { height = 1; next = 2; count = 0 })
unfolding roots
going_begun {j} {most} {now} {pairs} {stack} {index} h out {pairs'} {stack'} {index'} p clear-pairs clear-index root wrote =
    let c = h.checked in
    let none = pairs-run.empty pairs in
    let small = roots_small c {p = roots j} refl in
    let one : stacked decoded stack' 1 ≡ roots j ∷ [] =
    rw (wrote, root) (pushed_stack stack 0 1 (roots j) small (omega (arith, h.rooms.stack_fits)) refl) in
    record {
      state =
          record {
            checked = c;
            memo = rw clear-pairs none.sound;
            number = rw clear-pairs none.none;
            entries = [];
            built =
                rw one
                (started (pair_tasks c out) (Known pairs') (λ q v k. none.absent q.left q.right v (rw clear-pairs at k)) h.root_undecided);
            written =
                record {
                  room = h.rooms.output_fits;
                  indexed = rw clear-index (index_run.empty index now);
                  next_is = refl;
                  fits = omega arith;
                  outputs = holding_none now;
                };
          };
      rooms =
          rooms_alike h.rooms
          (record {
            variable = refl;
            low = refl;
            high = refl;
            pairs_length = ap length clear-pairs ∙ length-replicate (length pairs) 0;
            stack_length = ap length wrote ∙ length-set stack 0 (code p);
            index_length = ap length clear-index ∙ length-replicate (length index) 0;
          });
      alike = record { variable = refl; low = refl; high = refl; pairs_length = refl; stack_length = refl; index_length = refl };
    }

module _ {j : Job} {out : Flip} {most : ℕ} {was now : Runs} {pairs pairs' stack stack' index index' : List ℕ} {s : State}
    (g : Going j out most was now pairs pairs' stack stack' index index' s) where
  -- after a turn
  module _ (r : Option State) (now'' : Runs) (pairs'' stack'' index'' : List ℕ)
      (turned : Turned j out most was (looks j pairs' stack' s.height) pairs'' stack'' index'' now'' r) where
    advanced : (z : State) → r ≡ Some z → Advanced j out most was (looks j pairs' stack' s.height) pairs'' stack'' index'' now'' z
    advanced z q = subst (Turned j out most was (looks j pairs' stack' s.height) pairs'' stack'' index'' now'') q turned

    pub going_less : (z : State) → r ≡ Some z → looks j pairs'' stack'' z.height < looks j pairs' stack' s.height
    going_less z q = (advanced z q).less

    pub going_on : (z : State) → r ≡ Some z → Alike now now'' pairs' pairs'' stack' stack'' index' index''
        → Going j out most was now'' pairs pairs'' stack stack'' index index'' z
    going_on z q a =
        let b = g.alike in
        record {
          state = (advanced z q).state;
          rooms = rooms_alike g.rooms a;
          alike = record {
            variable = a.variable ∙ b.variable;
            low = a.low ∙ b.low;
            high = a.high ∙ b.high;
            pairs_length = a.pairs_length ∙ b.pairs_length;
            stack_length = a.stack_length ∙ b.stack_length;
            index_length = a.index_length ∙ b.index_length;
          };
        }

    pub going_long : r ≡ None → most < length (signed high_first (options j.left) (result j out))
    going_long q = subst (Turned j out most was (looks j pairs' stack' s.height) pairs'' stack'' index'' now'') q turned

  -- nothing waits, so the root is known
  module _ (none : s.height ≤ 0) (p : Pair) (root : p ≡ roots j) where
    ended : Build (pair_tasks g.state.checked out) (Known pairs') [] g.state.entries
    ended =
        let zero : s.height ≡ 0 = omega arith in
        subst (λ (h : ℕ). Build (pair_tasks g.state.checked out) (Known pairs') (stacked decoded stack' h) g.state.entries) zero g.state.built

    pub going_done : (a : Option Built) → (held.Searchable pairs' → Concludes pairs' p s.next a) → Outcome j out most was now a
    unfolding pair_tasks
    going_done (Some b) found =
        let o = g.state.written in
        let k = found g.state.memo in
        record {
          entries = g.state.entries;
          finished =
              rw (meaning_roots j out) at
              (built (pair_tasks g.state.checked out) b.number ended (subst (λ (q : Pair). Known pairs' q b.number) root k.0));
          next_is = k.1 ∙ o.next_is;
          fits = omega (arith, k.1, o.fits);
          outputs = o.outputs;
        }
    going_done None found =
        let k = root_known (pair_tasks g.state.checked out) ended in
        absurd (found g.state.memo k.0 (subst (λ (q : Pair). Known pairs' q k.0) (sym root) k.1))
