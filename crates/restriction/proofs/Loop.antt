-- The loop: what holds before each turn, how it begins, goes on and ends; and a terminal, which needs none.
use Rattle.std.specs.Prelude.{None, Some, Option}
use Rattle.std.proofs.Common.{◌≡◌, ℕ, zero, suc, ◌+◌, ◌<◌, ◌≤◌, min, List, [], length, get_or, set, sym, refl, ap, ◌∙◌, subst, ⊎_elim, arith, length-set, get_or-set_other, get_or-set_same, eq-eqb, ne_eqb}
use lib.ListN.{length-replicate}
use Rattle.bdd.specs.Array.{Runs, options, root}
use Rattle.bdd.specs.Signed.{signed, low_first}
use Rattle.bdd.specs.Answers.{all_zero}
use Rattle.bdd.specs.Lent.{output_of, SameOutput}
use Rattle.bdd.specs.declared.OutputRuns.{OutputRuns}
use Rattle.bdd.proofs.Logic.{le_or_lt}
use Rattle.bdd.proofs.Ordered.{ordered_open}
use Rattle.chains.proofs.Zeros.{getD_zeros}
use Rattle.index_run.proofs.Laws.{empty}
use Rattle.index_run.proofs.Columns.{holding_none}
use Rattle.tasks.proofs.Build.{Build, started, built, built_decided, root_known}
use Rattle.tasks.proofs.Finished.{Finished}
use Rattle.ending.specs.Ends.{Entered, Comes}
use Rattle.ending.specs.declared.Explored.{Explored}
use Rattle.ending.specs.declared.Explored.TheVariants as explored
use Rattle.restriction.specs.Entries.{entry_tasks, meaning_root}
use Rattle.restriction.specs.Restricts.{SameRuns}
use Rattle.restriction.specs.declared.RestrictionRuns.{RestrictionRuns}
use Rattle.restriction.specs.Exploring.{Checked, Rooms, restricted_value, opened, Known, Concludes, undone, Exploring, looks, Advanced, Turned}
use Rattle.restriction.specs.declared.exploration.State.{State}
use Rattle.restriction.proofs.Turns.{digit_of}

-- a set that has one entry or two is the terminal that its root is
pub terminal : (a : Runs) (values : List ℕ) (most : ℕ) (was : Runs) → Checked a values → (r : ℕ) → r ≡ root a → r < 2
    → Entered low_first (options a) (restricted_value a values) most was was r 2
unfolding entry_tasks
terminal a values most was c r e l =
    let t = entry_tasks a values c.ordered in
    let made = built_decided t (ne_eqb (min (root a) 2) 2 (λ z. absurd (omega arith))) in
    record {
      entries = [];
      finished =
          subst (Finished low_first (options a) (restricted_value a values) []) (digit_of (root a) (omega arith) ∙ sym e)
          (rw (meaning_root a values c.ordered) at made);
      next_is = refl;
      fits = omega arith;
      outputs = holding_none was;
    }

-- what two calls in a row keep
pub still_same : {a b c : OutputRuns} → SameOutput a b → SameOutput b c → SameOutput a c
still_same x y =
    record {
      variable = y.variable ∙ x.variable;
      low = y.low ∙ x.low;
      high = y.high ∙ x.high;
      variable_length = y.variable_length ∙ x.variable_length;
      low_length = y.low_length ∙ x.low_length;
      high_length = y.high_length ∙ x.high_length;
    }

pub still_same_work : {a b c : RestrictionRuns} → SameRuns a b → SameRuns b c → SameRuns a c
still_same_work x y =
    record {
      stack = y.stack ∙ x.stack;
      index = y.index ∙ x.index;
      map = y.map ∙ x.map;
      stack_length = y.stack_length ∙ x.stack_length;
      index_length = y.index_length ∙ x.index_length;
      map_length = y.map_length ∙ x.map_length;
    }

rooms_alike : {a : Runs} {most : ℕ} {was now : OutputRuns} {begun work : RestrictionRuns}
    → Rooms a most (output_of was) begun.stack.now begun.index.now begun.map.now → SameOutput was now → SameRuns begun work
    → Rooms a most (output_of now) work.stack.now work.index.now work.map.now
rooms_alike r o w =
    let f = r.output_fits in
    record {
      few = r.few;
      output_fits = omega (arith, o.variable_length, o.low_length, o.high_length);
      stack_fits = omega (arith, r.stack_fits, w.stack_length);
      index_fits = omega (arith, r.index_fits, w.index_length);
      map_fits = omega (arith, r.map_fits, w.map_length);
    }

-- the loop's invariant, over the runs where it began and now
pub record Going (a : Runs) (values : List ℕ) (most : ℕ) (was now : OutputRuns) (begun work : RestrictionRuns) (s : State) : Type 0 where
  pub state : Exploring a values most (output_of was) work.stack.now work.index.now work.map.now (output_of now) s
  pub rooms : Rooms a most (output_of now) work.stack.now work.index.now work.map.now
  pub same : SameOutput was now
  pub same_work : SameRuns begun work

-- a map run that is opened has the terminals, and nothing else
module _ (map : List ℕ) (two : 2 ≤ length map) where
  opened_terminals : (i : ℕ) → i < 2 → get_or (opened map) i 0 ≡ i + 1
  opened_terminals zero l =
      get_or-set_other (set (all_zero map) 0 1) 1 0 2 0 (omega arith)
      ∙ get_or-set_same (all_zero map) 0 1 0 (omega (arith, length-replicate {A = ℕ} (length map) 0))
  opened_terminals (suc zero) l =
      get_or-set_same (set (all_zero map) 0 1) 1 2 0 (omega (arith, length-set (all_zero map) 0 1, length-replicate {A = ℕ} (length map) 0))
  opened_terminals (suc (suc i)) l = absurd (omega arith)

  opened_none : (i : ℕ) → 2 ≤ i → get_or (opened map) i 0 ≡ 0
  opened_none i l =
      get_or-set_other (set (all_zero map) 0 1) 1 i 2 0 (omega arith)
      ∙ get_or-set_other (all_zero map) 0 i 1 0 (omega arith)
      ∙ getD_zeros (length map) i

  opened_most : (i : ℕ) → get_or (opened map) i 0 ≤ 2
  opened_most i = ⊎_elim (λ (l : 2 ≤ i). omega (arith, opened_none i l)) (λ (l : i < 2). omega (arith, opened_terminals i l)) (le_or_lt 2 i)

pub opened_length : (map : List ℕ) → length (opened map) ≡ length map
opened_length map = length-set (set (all_zero map) 0 1) 1 2 ∙ length-set (all_zero map) 0 1 ∙ length-replicate (length map) 0

-- the index run is cleared, the map run opened, the root is looked at, and nothing is known or written
pub going_begun : {a : Runs} {values : List ℕ} {most : ℕ} {now : OutputRuns} {lent begun : RestrictionRuns} → Checked a values
    → Rooms a most (output_of now) lent.stack.now lent.index.now lent.map.now → SameRuns lent begun
    → (r : ℕ) → begun.index.now ≡ all_zero lent.index.now → begun.map.now ≡ opened lent.map.now → r ≡ root a → 2 ≤ r
    → Going a values most now now begun begun (record { top = r; height = 1; next = 2 })
going_begun {a} {values} {most} {now} {lent} {begun} c rooms same r clear-index map_is root_is two =
    let map : List ℕ = lent.map.now in
    let map' : List ℕ = begun.map.now in
    let long : 2 ≤ length map = omega (arith, rooms.map_fits) in
    let at : (i : ℕ) → get_or map' i 0 ≡ get_or (opened map) i 0 = λ i. ap (λ (m : List ℕ). get_or m i 0) map_is in
    let kept : SameOutput now now = record { variable = refl; low = refl; high = refl; variable_length = refl; low_length = refl; high_length = refl } in
    record {
      state =
          record {
            checked = c;
            entries = [];
            built =
                rw root_is
                (started (entry_tasks a values c.ordered) (Known map') (λ i v k. absurd (omega (arith, at i, opened_none map long i k.0, k.1)))
                (eq-eqb (min (root a) 2) 2 (omega arith)));
            written =
                record {
                  room = rooms.output_fits;
                  indexed = rw clear-index (empty lent.index.now (output_of now));
                  next_is = refl;
                  fits = omega arith;
                  outputs = holding_none (output_of now);
                };
            terminals = λ i l. at i ∙ opened_terminals map long i l;
            numbers = λ i. omega (arith, at i, opened_most map long i);
          };
      rooms = rooms_alike rooms kept same;
      same = kept;
      same_work = record { stack = refl; index = refl; map = refl; stack_length = refl; index_length = refl; map_length = refl };
    }

module _ {a : Runs} {values : List ℕ} {most : ℕ} {was now : OutputRuns} {begun work : RestrictionRuns} {s : State}
    (g : Going a values most was now begun work s) where
  -- after a turn
  module _ (r : (Option State)) (now'' : OutputRuns) (work'' : RestrictionRuns)
      (turned : Turned a values most (output_of was) (looks a work.map.now s) work''.stack.now work''.index.now work''.map.now (output_of now'') r) where
    advanced : (z : State) → r ≡ Some z
        → Advanced a values most (output_of was) (looks a work.map.now s) work''.stack.now work''.index.now work''.map.now (output_of now'') z
    advanced z q = rw q at turned

    pub going_less : (z : State) → r ≡ Some z → looks a work''.map.now z < looks a work.map.now s
    going_less z q = (advanced z q).less

    pub going_on : (z : State) → r ≡ Some z → SameOutput now now'' → SameRuns work work'' → Going a values most was now'' begun work'' z
    going_on z q o w =
        record {
          state = (advanced z q).state;
          rooms = rooms_alike g.rooms o w;
          same = still_same g.same o;
          same_work = still_same_work g.same_work w;
        }

    pub going_long : r ≡ None → most < length (signed low_first (options a) (restricted_value a values))
    going_long q = rw q at turned

  -- the root is within the map run
  pub root_mapped : {r : ℕ} → r ≡ root a → r < length work.map.now
  root_mapped e = omega (arith, e, g.rooms.map_fits, (ordered_open a g.state.checked.ordered).size_least)

  -- nothing waits, so the root is known
  module _ (none : s.height ≤ 0) (r : ℕ) (root_is : r ≡ root a) (two : 2 ≤ r) where
    ended : Build (entry_tasks a values g.state.checked.ordered) (Known work.map.now) [] g.state.entries
    ended =
        let zero : s.height ≡ 0 = omega arith in
        subst (λ (h : ℕ). Build (entry_tasks a values g.state.checked.ordered) (Known work.map.now) (undone s.top work.stack.now h) g.state.entries) zero g.state.built

    pub going_done : (x : Explored) → Concludes work.map.now r s.next x → Comes low_first (options a) (restricted_value a values) most (output_of was) (output_of now) x
    unfolding entry_tasks
    going_done explored.NoPairRoom h = h
    going_done (explored.Array v behind) h =
        let o = g.state.written in
        let known : Known work.map.now (root a) v =
        subst (λ (q : ℕ). Known work.map.now q v) root_is (two, h.0) in
        record {
          entries = g.state.entries;
          finished = rw (meaning_root a values g.state.checked.ordered) at (built (entry_tasks a values g.state.checked.ordered) v ended known);
          next_is = h.1 ∙ o.next_is;
          fits = omega (arith, h.1, o.fits);
          outputs = o.outputs;
        }
    going_done explored.Long h =
        let k = root_known (entry_tasks a values g.state.checked.ordered) ended in
        absurd (omega (arith, h, k.1.1, ap (λ (q : ℕ). get_or work.map.now q 0) root_is))
