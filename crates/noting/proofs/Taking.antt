-- One look at the next noted pair: what becomes of each of its two children, over plain variables.
use Rattle.std.specs.Prelude.{Option, Some, None}
use Prim.Native.Nat.{ℕ, ◌+◌, ◌/◌, ◌<◌, ◌≤◌}
use mathlib.Core.Path.{◌≡◌, refl, sym, ap, ap₂, subst}
use mathlib.Core.Logic.{inl, inr}
use mathlib.Core.Bool.{Bool, true}
use mathlib.Core.List.{List, [], ◌∷◌}
use native.Mathlib.Omega.{arith}
use lib.ListN.{length}
use borrow.Author.Tests.{eq-eqb, ne_eqb}
use Rattle.bdd.specs.Pairs.{Job, Checked, Pair, pair, decision, undecided, reached, pair_room}
use Rattle.bdd.specs.Pairs as pairs
use Rattle.counting.proofs.Among.{In}
use Rattle.counting.proofs.First.{first, first_open, first_close}
use Rattle.pairs.proofs.Pairs.{pairs_fall, pairs_most}
use Rattle.pair_run.specs.Held as held
use Rattle.pair_run.proofs.Laws.{count_room}
use Rattle.pair_run.proofs.Rooms.{fours}
use Rattle.complexity.specs.Exploring.{InRun}
use Rattle.step.specs.Step.{Small, Within, Leads}
use Rattle.step.specs.declared.Children.{Children}
use Rattle.step.proofs.Codes.{reach_within, reach_small}
use Rattle.noting.specs.Exploring.{pair_of, Holds, Decided, Old, Marked, Over, Takes, Underway}
use Rattle.noting.specs.declared.Taken.{Taken}
use Rattle.noting.proofs.Queues.{queue_open, queue_reached, taken_reached, queue_decided, queue_old, queue_below, queue_new}

-- runs that are as long have as much room
pub rooms : (a b : List ℕ) → length a ≡ length b → pair_room a ≡ pair_room b
unfolding pair_room
rooms a b e = ap (λ (n : ℕ). n / 4) e

-- a pair stands in the run where it is one of the noted pairs, and only there
module _ {run : List ℕ} {k : ℕ} (number : held.count run ≡ k) where
  pub node_in_run : (i : ℕ) → i < k → InRun run (pair_of run i)
  node_in_run i l = (
    held.result_at (held.nodes run) run i,
    record {
      node = i;
      noted = record { below = omega (arith, number); left = refl; right = refl; result = refl };
    },
  )

  pub first_in_run : (p : Pair) → In p (first (pair_of run) k) → InRun run p
  first_in_run p m = let s = first_open (pair_of run) k p m in subst (InRun run) (sym s.equal) (node_in_run s.number s.below)

  pub in_run_first : (p : Pair) → InRun run p → In p (first (pair_of run) k)
  in_run_first p w =
      let s = w.1.noted in
      subst (λ (q : Pair). In q (first (pair_of run) k)) (ap₂ pair s.left s.right)
      (first_close (pair_of run) k w.1.node (omega (arith, s.below, number)))

-- as many are noted as there is room for, at most
pub holds_nodes : {run : List ℕ} {k : ℕ} → Holds run k → k ≤ held.nodes run
holds_nodes {run} h = omega (arith, count_room run h.sound, h.number)

pub holds_length : {run : List ℕ} {k : ℕ} → Holds run k → k ≤ length run
holds_length {run} h = omega (arith, holds_nodes h, fours run)

-- the next noted pair, and that both its children are to be taken
module _ {j : Job} (checked : Checked j) {run : List ℕ} {d k : ℕ} {on : Bool} (u : Underway j run [] d k on) (l : d < k) where
  pub next_there : d < held.nodes run
  next_there = omega (arith, holds_nodes u.holds)

  module _ (p : Pair) (e : p ≡ pair_of run d) where
    pub next_within : Within j.left p.left × Within j.right p.right
    next_within = rw e (reach_within checked (queue_reached u.queue d l))

    pub opened : (next : Children) → Leads j p next → Underway j run (next.on ∷ next.off ∷ []) (d + 1) k on
    opened next s = rw (s.on, s.off, e) (record { holds = u.holds; queue = queue_open u.queue l })

-- p is taken
module _ {j : Job} (checked : Checked j) {was : List ℕ} (p : Pair) {more : List Pair} {d k : ℕ} {on : Bool}
    (u : Underway j was (p ∷ more) d k on) where
  pub taken_small : Small p
  taken_small = reach_small checked (taken_reached u.queue)

  asks : decision j p ≡ 2 → undecided j p ≡ true
  asks e = eq-eqb _ _ e

  module _ {now : List ℕ} {k' : ℕ} {on' : Bool} where
    decided : Decided j.table was now p k on k' on' → Underway j now more d k' on'
    unfolding decision
    decided s =
        rw (s.same, s.number, s.flag)
        (record { holds = u.holds; queue = queue_decided u.queue (ne_eqb (decision j p) 2 s.decided) })

    old : Old j.table was now p k on k' on' → Underway j now more d k' on'
    unfolding decision
    old s =
        rw (s.same, s.number, s.flag)
        (record { holds = u.holds; queue = queue_old u.queue (asks s.asks) (in_run_first u.holds.number p s.stands) })

    marked : Marked j.table was now p k on k' on' → Underway j now more d k' on'
    unfolding decision node_in_run
    marked s =
        let a = s.added in
        let n = u.holds.number in
        let same : (i : ℕ) → i < k → pair_of now i ≡ pair_of was i =
        λ i l.
        let w = node_in_run n i l in
        let m = a.kept i _ _ _ w.1.noted in
        ap₂ pair m.left m.right in
        let new : pair_of now k ≡ p = rw n at (ap₂ pair a.noted.left a.noted.right) in
        rw (s.number, s.flag)
        (record {
          holds = record { sound = a.sound; number = omega (arith, a.counted, n) };
          queue =
              queue_new u.queue (asks s.asks) (λ m. let w = first_in_run n p m in a.absent w.0 w.1) (pair_of now) same new;
        })

    noted : Takes j.table was now p k on (Some (record { count = k'; on = on' })) → Underway j now more d k' on'
    noted (inl s) = decided s
    noted (inr (inl s)) = old s
    noted (inr (inr s)) = marked s

  -- the exploration goes on
  pub took : {now : List ℕ} {t : Taken} (r : Option Taken) → Takes j.table was now p k on r → r ≡ Some t → Underway j now more d t.count t.on
  took {now} r t e = noted (subst (Takes j.table was now p k on) e t)

  -- it is one too many, in a run that is as long as the one at the beginning
  pub over : (begin : List ℕ) → length was ≡ length begin → (now : List ℕ) (r : Option Taken) → Takes j.table was now p k on r → r ≡ None
      → pair_room begin < pairs.count j
  unfolding decision pairs.count reached
  over begin long now r t e =
      let s : Over j.table was p = subst (Takes j.table was now p k on) e t in
      let more = queue_below u.queue (asks s.asks) (λ m. let w = first_in_run u.holds.number p m in s.none.absent w.0 w.1) (pairs_fall checked) in
      omega (arith, more, s.none.full, u.holds.number, pairs_most checked, rooms was begin long)
