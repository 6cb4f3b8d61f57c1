-- The exploration as a whole: how it begins, what it keeps from one way down and up to the next, and what it comes to.
use Prim.Native.Nat.{ℕ, ◌/◌, ◌<◌, ◌≤◌}
use mathlib.Core.Path.{◌≡◌, refl, sym, ap, subst, ◌∙◌}
use mathlib.Core.Logic.{⊎_elim}
use mathlib.Core.List.{List, [], ◌∷◌}
use native.Mathlib.Omega.{arith}
use lib.ListN.{length}
use Rattle.bdd.specs.Bounds.{most_entries}
use Rattle.bdd.specs.Array.{Entry, Runs, options}
use Rattle.bdd.specs.Signed.{high_first}
use Rattle.bdd.specs.Pairs.{Job, Checked, Pair, pairs_of, result, roots, undecided, reached, tasks, pair_room}
use Rattle.bdd.specs.Pairs as page
use Rattle.bdd.specs.Answers.{all_zero}
use Rattle.bdd.specs.Lent.{Flip, output_of, SameOutput, SameWorking}
use Rattle.bdd.specs.declared.OutputRuns.{OutputRuns}
use Rattle.bdd.specs.declared.WorkingRuns.{WorkingRuns}
use Rattle.counting.proofs.Among.{here, in-none, in-cases, keeps_none}
use Rattle.counting.proofs.Noting.{Noting, noting_start, note_old, whole}
use Rattle.tasks.proofs.Finished.{Finished}
use Rattle.tasks.proofs.Tasks.{Settled}
use Rattle.tasks.proofs.Open.{Writes, root_awaited, root_ended}
use Rattle.pairs.proofs.Pairs.{meaning_roots, pairs_fall, pair_tasks}
use Rattle.pair_run.specs.Held as held
use Rattle.pair_run.proofs.Laws.{count_room}
use Rattle.index_run.specs.Placing.{Fit, Output}
use Rattle.index_run.proofs.Laws as index_run
use Rattle.index_run.proofs.Columns.{holding_none}
use Rattle.ending.proofs.Alike.{Alike}
use Rattle.ending.specs.Ends.{Entered}
use Rattle.ending.specs.declared.Explored.{Explored}
use Rattle.ending.specs.declared.Explored.TheVariants as explored
use Rattle.step.specs.Step.{decoded}
use Rattle.complexity.specs.Counts.{Told, Counts}
use Rattle.complexity.specs.declared.Counted.{Counted}
use Rattle.noting.specs.Exploring.{Begun}
use Rattle.apply.specs.Awaiting.{Path, at_root, Awaits, Ended, Due, left, Descends, Upward, Turned, Overlong, Rises}
use Rattle.apply.specs.Apply.{Admissible, Explores, CountedOn}
use Rattle.apply.specs.declared.Descent.{Descent}
use Rattle.std.specs.Prelude.{Option, Some, None}
use Rattle.apply.specs.declared.Ascent.{Ascent}
use Rattle.apply.specs.declared.Ascent.TheVariants as up
use Rattle.apply.proofs.Paths.{path_root, path_bare}
use Rattle.apply.proofs.Stacking.{frames_length}

-- before each way down: a pair is awaited
pub record Going (j : Job) (out : Flip) (most : ℕ) (was now : Runs) (pairs pairs' stack stack' index index' : List ℕ) (q : Pair) (depth entered next : ℕ) : Type 0 where
  pub entries : List Entry
  pub state : Awaits j out pairs' stack' depth entered q entries
  pub output : Output most was index' now next entries
  pub alike : Alike was now pairs pairs' stack stack' index index'

-- the pair run is empty, and the root is awaited
pub going_begun : {j : Job} {most : ℕ} {now : Runs} {stack index index' : List ℕ} → Admissible j most now stack index → (out : Flip) {pairs : List ℕ}
    → held.Empty pairs → index' ≡ all_zero index → {p : Pair} → p ≡ roots j
    → Going j out most now now pairs pairs stack stack index' index' p 0 0 2
unfolding roots
going_begun {j} {most} {now} {stack} {index} {index'} h out {pairs} e clear-index {p} root =
    record {
      entries = [];
      state =
          record {
            checked = h.checked;
            memo = e.sound;
            number = e.none;
            opens = [];
            waiting = [];
            path = subst (λ (q : Pair). Path h.checked out pairs [] [] [] [] q) (sym root) at_root;
            writes = subst (λ (q : Pair). Writes (pair_tasks h.checked out) (q ∷ []) []) (sym root) (root_awaited (pair_tasks h.checked out));
            settled = λ q v k. absurd (omega (arith, k.noted.below, e.none));
            noted = [];
            seen = [];
            noting = subst (λ (q : Pair). Noting (pairs_of j) [] [] (q ∷ [])) (sym root) (noting_start (pairs_of j));
            keeps = keeps_none _ (λ q k. e.absent q.left q.right k.0 k.1);
            counted = refl;
          };
      output =
          record {
            room = h.output_fits;
            indexed = rw clear-index (index_run.empty index now);
            next_is = refl;
            fits = omega arith;
            outputs = holding_none now;
          };
      alike = record { variable = refl; low = refl; high = refl; pairs_length = refl; stack_length = refl; index_length = refl };
    }

-- where a pair is open, the run holds what a count goes on from
pub begun_of : {j : Job} {out : Flip} {most entered : ℕ} {pairs stack : List ℕ} → Overlong j out most entered pairs stack → Begun j pairs entered
begun_of {j} {out} {entered = entered} {pairs} {stack} o =
    let s = o.ended.state in
    record {
      sound = s.memo;
      number = s.number;
      reached = λ p k. s.noting.noted_reached p (s.keeps.listed p k);
      asks = λ p k. s.noting.noted_undecided p (s.keeps.listed p k);
      root =
          ⊎_elim (λ r. r) (λ b. absurd (omega (arith, o.some, frames_length stack o.depth, ap length b.0)))
          (path_root s.checked out s.path);
    }

-- the root has ended
module _ {j : Job} {out : Flip} {pairs stack : List ℕ} {entered v : ℕ} {es : List Entry} (e : Ended j out pairs stack 0 entered v es) where
  root_finished : Finished high_first (options j.left) (result j out) es v
  unfolding pair_tasks
  root_finished =
      let c = e.state.checked in
      let t = pair_tasks c out in
      let b = path_bare c out e.state.path refl in
      let w : Writes t (roots j ∷ []) es =
      subst (λ (q : Pair). Writes t (q ∷ []) es) b.root (subst (λ (ps : List Pair). Writes t (e.awaited ∷ ps) es) b.opens e.state.writes) in
      rw (meaning_roots j out) at (root_ended t w (subst (λ (q : Pair). Settled t es q v) b.root e.stands))

  -- all pairs are entered, so they had room
  pub root_counted : page.count j ≤ pair_room pairs
  unfolding page.count reached
  root_counted =
      let s = e.state in
      let b = path_bare s.checked out s.path refl in
      let n : Noting (pairs_of j) s.noted s.seen (e.awaited ∷ []) =
      subst (λ (ws : List Pair). Noting (pairs_of j) s.noted s.seen (e.awaited ∷ ws)) b.waiting s.noting in
      let all =
      whole (note_old n (here refl) {now = []} (λ q m. in-cases m) (λ q l. absurd (in-none l)) (λ u. s.keeps.listed e.awaited (e.met u)))
      (pairs_fall s.checked) in
      omega (arith, all.counted, s.counted, s.number, count_room pairs s.memo)

  pub root_entered : {most next : ℕ} {was now : Runs} {index : List ℕ} → Output most was index now next es
      → Entered high_first (options j.left) (result j out) most was now v next
  root_entered o = record { entries = es; finished = root_finished; next_is = o.next_is; fits = o.fits; outputs = o.outputs }

-- what a count that went on tells
pub counted_full : (j : Job) (R : ℕ) (r : Option Counted) → Counts j R r → r ≡ None → R < page.count j
counted_full j R r k e = subst (Counts j R) e k

pub counted_all : (j : Job) (R : ℕ) (r : Option Counted) {c : Counted} → Counts j R r → r ≡ Some c → page.count j ≤ R
counted_all j R r {c} k e =
    let t : Told j R c.pairs c.on = subst (Counts j R) e k in
    t.fits

module _ {j : Job} {out : Flip} {most : ℕ} {was now : Runs} {pairs pairs' stack stack' index index' : List ℕ} {q : Pair} {depth entered next : ℕ}
    (g : Going j out most was now pairs pairs' stack stack' index index' q depth entered next) (h : Admissible j most was stack index) where
  pub going_due : Due j out pairs' stack' depth entered q
  going_due = record { entries = g.entries; state = g.state; places = omega (arith, h.stack_fits, g.alike.stack_length) }

  -- the way down has ended, at `r`
  module _ (pairs'' stack'' : List ℕ) (r : Option Descent)
      (went : (es : List Entry) → Awaits j out pairs' stack' depth entered q es
      → Descends j out pairs' pairs'' stack'' (left pairs' stack' depth entered) es r)
      (pairs_length : length pairs'' ≡ length pairs') (stack_length : length stack'' ≡ length stack') where
    went_as : (z : Option Descent) → r ≡ z → Descends j out pairs' pairs'' stack'' (left pairs' stack' depth entered) g.entries z
    went_as z e = subst (Descends j out pairs' pairs'' stack'' (left pairs' stack' depth entered) g.entries) e (went g.entries g.state)

    pub going_full : r ≡ None → pair_room pairs < tasks j
    unfolding pair_room tasks
    going_full e = let l : pair_room pairs' < page.count j = went_as None e in omega (arith, g.alike.pairs_length)

    module _ {d : Descent} (e : r ≡ Some d) where
      ended : Ended j out pairs'' stack'' d.depth d.count d.number g.entries
      ended = (went_as (Some d) e).0

      pub going_up : Upward most pairs'' stack'' index' now d.depth d.number next
      going_up =
          record {
            j = j;
            out = out;
            entered = d.count;
            was = was;
            entries = g.entries;
            ended = ended;
            output = g.output;
            places = omega (arith, h.stack_fits, g.alike.stack_length, stack_length);
          }

      pub going_rooms : (most ≤ most_entries) × (most ≤ length index') × Fit now most
      going_rooms =
          let f = h.output_fits in
          (h.few, omega (arith, h.index_fits, g.alike.index_length), record { variable = omega (arith, f.variable, g.alike.variable); low = omega (arith, f.low, g.alike.low); high = omega (arith, f.high, g.alike.high) })

      -- and the way up, at `a`
      module _ (pairs''' stack''' index''' : List ℕ) (now''' : Runs) (a : Ascent)
          (rose : (j : Job) (out : Flip) (before : Runs) (entered : ℕ) (es : List Entry) → Ended j out pairs'' stack'' d.depth entered d.number es
          → Output most before index' now next es → Rises j out most before entered (left pairs'' stack'' d.depth entered) pairs''' stack''' index''' now''' a)
          (alike : Alike now now''' pairs'' pairs''' stack'' stack''' index' index''') where
        rose_as : (z : Ascent) → a ≡ z → Rises j out most was d.count (left pairs'' stack'' d.depth d.count) pairs''' stack''' index''' now''' z
        rose_as z f =
            subst (Rises j out most was d.count (left pairs'' stack'' d.depth d.count) pairs''' stack''' index''' now''') f (rose j out was d.count g.entries ended g.output)

        same_room : pair_room pairs''' ≡ pair_room pairs
        unfolding pair_room
        same_room = ap (λ (n : ℕ). n / 4) (alike.pairs_length ∙ pairs_length ∙ g.alike.pairs_length)

        pub going_array : {root behind : ℕ} → a ≡ up.Root root behind → 1 ≤ pair_room pairs
            → Explores j out most was now''' pairs (explored.Array root behind)
        unfolding tasks
        going_array {root} {behind} f some =
            let s = rose_as (up.Root root behind) f in
            record { fits = omega (arith, root_counted s.ended, same_room); comes = root_entered s.ended s.output }

        module _ (f : a ≡ up.Long) where
          over : Overlong j out most d.count pairs''' stack'''
          over = rose_as up.Long f

          pub going_begun_on : Begun j pairs''' d.count
          going_begun_on = begun_of over

          pub going_long : 1 ≤ pair_room pairs → (x : Explored) → CountedOn j pairs''' x → Explores j out most was now''' pairs x
          unfolding tasks
          going_long some explored.NoPairRoom l = omega (arith, same_room)
          going_long some explored.Long l = record { fits = omega (arith, same_room); comes = over.long }
          going_long some (explored.Array w n) l = absurd l

        module _ {w higher behind : ℕ} (f : a ≡ up.Await w higher behind) where
          turned : Turned j out most was d.count (left pairs'' stack'' d.depth d.count) pairs''' stack''' index''' now''' (decoded w) higher behind
          turned = rose_as (up.Await w higher behind) f

          pub going_less : left pairs''' stack''' higher d.count < left pairs' stack' depth entered
          going_less = omega (arith, turned.less, (went_as (Some d) e).1)

          pub going_on : {p : Pair} → p ≡ decoded w → Going j out most was now''' pairs pairs''' stack stack''' index index''' p higher d.count behind
          going_on same =
              let b = g.alike in
              record {
                entries = turned.entries;
                state = rw same turned.state;
                output = turned.output;
                alike = record {
                  variable = alike.variable ∙ b.variable;
                  low = alike.low ∙ b.low;
                  high = alike.high ∙ b.high;
                  pairs_length = alike.pairs_length ∙ pairs_length ∙ b.pairs_length;
                  stack_length = alike.stack_length ∙ stack_length ∙ b.stack_length;
                  index_length = alike.index_length ∙ b.index_length;
                };
              }

-- what a call keeps of the lent runs
pub alike_of : {was now : OutputRuns} {lent back : WorkingRuns} → SameOutput was now → SameWorking lent back
    → Alike (output_of was) (output_of now) lent.pairs.now back.pairs.now lent.stack.now back.stack.now lent.index.now back.index.now
alike_of o w =
    record {
      variable = o.variable_length;
      low = o.low_length;
      high = o.high_length;
      pairs_length = w.pairs_length;
      stack_length = w.stack_length;
      index_length = w.index_length;
    }

-- runs of the same lengths have the same room
pub index_alike : {j : Job} {most : ℕ} {out : Runs} {stack index index' : List ℕ} → Admissible j most out stack index → length index' ≡ length index
    → Admissible j most out stack index'
index_alike h e =
    record { checked = h.checked; few = h.few; output_fits = h.output_fits; stack_fits = h.stack_fits; index_fits = omega (arith, h.index_fits) }

pub full_alike : (j : Job) (pairs pairs' : List ℕ) → length pairs' ≡ length pairs → pair_room pairs' < tasks j → pair_room pairs < tasks j
unfolding pair_room
full_alike j pairs pairs' e l = omega (arith, e)

pub room_alike : (j : Job) (out : Flip) (most : ℕ) (was now : Runs) (pairs pairs' : List ℕ) → length pairs' ≡ length pairs → (x : Explored)
    → Explores j out most was now pairs' x → Explores j out most was now pairs x
unfolding pair_room
room_alike j out most was now pairs pairs' e explored.NoPairRoom l = full_alike j pairs pairs' e l
room_alike j out most was now pairs pairs' e explored.Long f = record { fits = omega (arith, f.fits, e); comes = f.comes }
room_alike j out most was now pairs pairs' e (explored.Array v next) f = record { fits = omega (arith, f.fits, e); comes = f.comes }

-- the pair run has no room, or some: at least one pair is remembered
pub no_room : (j : Job) (pairs : List ℕ) → length pairs < 4 → pair_room pairs < tasks j
unfolding pair_room tasks
no_room j pairs l = omega arith

pub some_room : (pairs pairs' : List ℕ) → length pairs' ≡ length pairs → 4 ≤ length pairs → 1 ≤ pair_room pairs'
unfolding pair_room
some_room pairs pairs' e l = omega (arith, e)
