-- How the exploration begins, what the answer of a look tells, and what it knows when every noted pair was looked at.
use Rattle.std.specs.Prelude.{None, Some, Option}
use Prim.Native.Nat.{ℕ, ◌<◌, ◌≤◌}
use mathlib.Core.Path.{◌≡◌, sym, ap, ap₂, subst, ◌∙◌}
use mathlib.Core.Logic.{⊎_elim}
use mathlib.Core.Bool.{true, false}
use mathlib.Core.List.{List}
use native.Mathlib.Omega.{arith}
use lib.ListN.{length}
use lib.Dec.{eqb}
use borrow.Author.Tests.{eq-eqb, ne_eqb}
use Rattle.bdd.specs.Pairs.{Job, Checked, Pair, pair, pairs_of, roots, decision, undecided, reached, can_hold, pair_room}
use Rattle.bdd.specs.Pairs as pairs
use Rattle.counting.proofs.First.{first_distinct}
use Rattle.counting.proofs.Reaching.{at_root}
use Rattle.counting.proofs.Noting.{root_holds}
use Rattle.pairs.proofs.Pairs.{pairs_fall, roots_some, roots_none}
use Rattle.pair_run.specs.Held as held
use Rattle.pair_run.proofs.Laws.{added_stands, added_only}
use Rattle.complexity.specs.Counts.{Told, Counts}
use Rattle.complexity.specs.declared.Counted.{Counted}
use Rattle.complexity.specs.Exploring.{InRun}
use Rattle.step.specs.Step.{decision_in, Small}
use Rattle.step.proofs.Codes.{reach_small}
use Rattle.noting.specs.Exploring.{pair_of, Begun, Exploring, Went, Leaves}
use Rattle.noting.specs.declared.State.{State}
use Rattle.noting.proofs.Queues.{queue_start, queue_done}
use Rattle.noting.proofs.Taking.{rooms, node_in_run, in_run_first, holds_nodes}

-- the pairs that stand in the run are noted, and none was looked at
pub start : {j : Job} {run : List ℕ} {k : ℕ} → Begun j run k → Exploring j run (record { done = 0; count = k; on = false })
unfolding held.Searchable
start {j} {run} {k} b =
    let stands = node_in_run b.number in
    record {
      holds = record { sound = b.sound; number = b.number };
      queue =
          queue_start (pairs_of j) (pair_of run) k
          (first_distinct (pair_of run) k (λ i l x y. b.sound.linked.single i l (omega (arith, b.number)) (omega (arith, b.number))))
          (λ i l. b.asks (pair_of run i) (stands i l)) (λ i l. b.reached (pair_of run i) (stands i l))
          (in_run_first b.number (roots j) b.root);
    }

pub went : {j : Job} (was : List ℕ) {now : List ℕ} {state s : State} {r : (Option State)} → Leaves j was now state r → r ≡ Some s → Went j now state s
went {j} was {now} {state} t e = subst (Leaves j was now state) e t

-- the run is as long as the one at the beginning
pub full : (j : Job) (begin was now : List ℕ) (state : State) (r : (Option State)) → length was ≡ length begin → Leaves j was now state r → r ≡ None
    → pair_room begin < pairs.count j
full j begin was now state r long t e =
    let over : pair_room was < pairs.count j = subst (Leaves j was now state) e t in
    omega (arith, over, rooms was begin long)

-- the table decides the roots: they are all that is reached
pub root_decided : {j : Job} (most : ℕ) (p : Pair) (d : ℕ) → Checked j → p ≡ roots j → d ≡ decision_in j.table p → (d ≡ 2 → ⊥)
    → Told j most 0 (eqb d 1)
unfolding decision can_hold reached
root_decided {j} most p d checked e told ne =
    let same : decision j (roots j) ≡ d = ap (λ (q : Pair). decision_in j.table q) (sym e) ∙ sym told in
    let u : undecided j (roots j) ≡ false = ap (λ (x : ℕ). eqb x 2) same ∙ ne_eqb d 2 ne in
    let none = roots_none checked u in
    record {
      counted = sym none;
      holds = ap (λ (x : ℕ). eqb x 1) (sym same) ∙ sym (root_holds (pairs_fall checked) u);
      fits = omega (arith, none);
    }

module _ {j : Job} (checked : Checked j) {p : Pair} (e : p ≡ roots j) where
  -- in an empty run the roots may be noted
  pub ready : {was : List ℕ} → held.Empty was → held.Ready was p.left 0 0
  ready none =
      let small : Small p = rw e (reach_small checked at_root) in
      record { sound = none.sound; number = none.none; left_small = omega (arith, small.left); result_small = omega arith }

  module _ {d : ℕ} (says : d ≡ decision_in j.table p) (two : d ≡ 2) where
    waits : undecided j (roots j) ≡ true
    unfolding decision
    waits = eq-eqb _ _ (ap (decision_in j.table) (sym e) ∙ sym says ∙ two)

    -- the roots alone are noted
    pub begun : {was now : List ℕ} → held.Empty was → held.Added was now p.left p.right 0 → Begun j now 1
    begun {now = now} none a =
        let only : (q : Pair) → InRun now q → q ≡ roots j =
        λ q x.
        ⊎_elim (λ w. ap₂ pair w.0 w.1 ∙ e) (λ w. absurd (none.absent q.left q.right x.0 w))
        (added_only a q.left q.right x.0 x.1) in
        record {
          sound = a.sound;
          number = omega (arith, a.counted, none.none);
          reached = λ q x. rw (only q x) at_root;
          asks = λ q x. rw (only q x) waits;
          root = subst (InRun now) e (0, added_stands a);
        }

    -- there is no room for one pair
    pub no_room : (begin was : List ℕ) → length was ≡ length begin → held.Empty was → held.NoPlace was p.left p.right
        → pair_room begin < pairs.count j
    no_room begin was long none full = omega (arith, none.none, full.full, roots_some checked waits, rooms was begin long)

-- every noted pair was looked at
pub told : {j : Job} {run : List ℕ} {s : State} (begin : List ℕ) → Checked j → Exploring j run s → length run ≡ length begin → s.count ≤ s.done
    → Told j (pair_room begin) s.count s.on
unfolding pairs.count reached can_hold
told {run = run} {s} begin checked e long all =
    let a = queue_done e.queue (pairs_fall checked) all in
    record { counted = a.counted; holds = a.holds; fits = omega (arith, a.counted, holds_nodes e.holds, rooms run begin long) }

-- an answer for a run is one for a run that is as long
pub same_room : (j : Job) (begin was : List ℕ) (r : Option Counted) → length was ≡ length begin → Counts j (pair_room was) r → Counts j (pair_room begin) r
same_room j begin was r long t = subst (λ (n : ℕ). Counts j n r) (rooms was begin long) t
