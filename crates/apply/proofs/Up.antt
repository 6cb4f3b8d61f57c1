-- The way up from a pair that has ended: the pair above it turns to its other child where that was the first; else it is closed, with the
-- entry that is placed for it, or that entry is one too many.
use Prim.Native.Nat.{ℕ, suc, ◌+◌, ◌*◌, ◌/◌, ◌%◌, ◌^◌, ◌<◌, ◌≤◌}
use mathlib.Core.Path.{◌≡◌, refl, sym, ap, ap₂, subst, ◌∙◌}
use mathlib.Core.Logic.{◌⊎◌, inl, inr, ⊎_elim}
use mathlib.Core.Bool.{Bool, true, false, cond, false≢true}
use mathlib.Core.List.{List, ◌∷◌}
use native.Mathlib.Omega.{arith}
use lib.ListN.{length, get_or}
use lib.Dec.{eqb}
use borrow.Author.Tests.{eqb-true, eqb-false, eq-eqb, ne_eqb}
use Rattle.bdd.specs.Array.{Entry, options}
use Rattle.bdd.specs.Signed.{Written, decide, signed, high_first}
use Rattle.bdd.specs.Pairs.{Job, Checked, Pair, pair, pairs_of, result, asked, undecided}
use Rattle.bdd.specs.Lent.{Flip}
use Rattle.counting.proofs.Among.{In, here, there, in-cases, each}
use Rattle.counting.proofs.Reaching.{Reach}
use Rattle.counting.proofs.Noting.{Noting, note_old}
use Rattle.tasks.proofs.Tasks.{Tasks, Waits, Settled, settled_grown}
use Rattle.tasks.proofs.Open.{Writes, turned, closed, closed_grown, closed_settled, closed_longer}
use Rattle.tasks.proofs.Deciding.{decide_below}
use Rattle.pairs.proofs.Pairs.{meaning_roots, pairs_fall, pair_tasks}
use Rattle.pair_run.specs.Held as held
use Rattle.pair_run.proofs.Laws.{noted_stands, noted_same, count_room}
use Rattle.pair_run.proofs.Rooms.{nodes_alike}
use Rattle.step.specs.Step.{decoded, side}
use Rattle.complexity.specs.Exploring.{InRun}
use Rattle.apply.specs.Frames.{Frame, frame, frame_of, frames, framed, returns}
use Rattle.apply.specs.Awaiting.{Path, to_near, to_other, Known, Awaits, Ended, left}
use Rattle.apply.proofs.Stacking.{frames_length, frames_top}
use Rattle.apply.proofs.Paths.{path_frame, path_height, path_written, path_closed}

same_number : (a b : ℕ) → (a ≡ b) ⊎ (a ≡ b → ⊥)
same_number a b = at (eqb a b) refl
  where
    at : (t : Bool) → eqb a b ≡ t → (a ≡ b) ⊎ (a ≡ b → ⊥)
    at true e = inl (eqb-true a b e)
    at false e = inr (eqb-false a b e)

-- a frame whose other child is awaited
turned_frame : (a w : ℕ) → a % 2 ≡ 0 → frame_of (a + 1) w ≡ frame (a / 2) true w
turned_frame a w e = ap₂ (λ (i : ℕ) (t : Bool). frame i t w) (omega arith) (eq-eqb ((a + 1) % 2) 1 (omega arith))

module _ {j : Job} (c : Checked j) (out : Flip) (run : List ℕ) (es : List Entry) where
  -- the first child of the pair of f has ended with v: the other is awaited
  record Turning (f : Frame) (fs : List Frame) (v : ℕ) (noted : List Pair) : Type 0 where
    opens : List Pair
    waiting : List Pair
    seen : List Pair
    path : Path c out run es (frame f.node true v ∷ fs) opens waiting (decoded f.number)
    writes : Writes (pair_tasks c out) (decoded f.number ∷ opens) es
    noting : Noting (pairs_of j) noted seen (decoded f.number ∷ waiting)

  -- both have, the other with v: the pair itself is to end
  record Closing (f : Frame) (fs : List Frame) (v : ℕ) (noted : List Pair) : Type 0 where
    task : Pair
    opens : List Pair
    waiting : List Pair
    seen : List Pair
    path : Path c out run es fs opens waiting task
    waits : Waits (pair_tasks c out) task
    node : held.Noted run f.node task.left task.right (asked j task)
    near_is : Settled (pair_tasks c out) es (side j out true task) f.number
    small : f.number < 2 ^ 16
    other_is : Settled (pair_tasks c out) es (side j out false task) v
    writes : Writes (pair_tasks c out) (side j out false task ∷ task ∷ opens) es
    noting : Noting (pairs_of j) noted seen (task ∷ waiting)

  module _ {v : ℕ} {noted seen : List Pair} where
    turning : {f : Frame} {fs : List Frame} {ps ws : List Pair} {q : Pair} → Path c out run es (f ∷ fs) ps ws q → f.turned ≡ false
        → Settled (pair_tasks c out) es q v → v < 2 ^ 16 → Writes (pair_tasks c out) (q ∷ ps) es → Noting (pairs_of j) noted seen (q ∷ ws)
        → (undecided j q ≡ true → In q noted) → Turning f fs v noted
    unfolding pair_tasks
    turning (to_near {fs} {ps} {ws} {p} {i} {w} d u n e) b s l wr nt m =
        let other : Path c out run es (frame i true v ∷ fs) (p ∷ ps) ws (side j out false p) = to_other d u n s l in
        let still : Noting (pairs_of j) noted (side j out true p ∷ seen) (side j out false p ∷ ws) =
        note_old nt (here refl) {now = side j out false p ∷ ws} (λ q h. in-cases h) (λ q h. nt.waiting_reached q (there h)) m in
        record {
          opens = p ∷ ps;
          waiting = ws;
          seen = side j out true p ∷ seen;
          path = subst (λ (q : Pair). Path c out run es (frame i true v ∷ fs) (p ∷ ps) ws q) (sym e) other;
          writes = subst (λ (q : Pair). Writes (pair_tasks c out) (q ∷ p ∷ ps) es) (sym e) (turned (pair_tasks c out) ps u s wr);
          noting = subst (λ (q : Pair). Noting (pairs_of j) noted (side j out true p ∷ seen) (q ∷ ws)) (sym e) still;
        }
    turning (to_other d u n s z) b _ l wr nt m = absurd (false≢true (sym b))

    closing : {f : Frame} {fs : List Frame} {ps ws : List Pair} {q : Pair} → Path c out run es (f ∷ fs) ps ws q → f.turned ≡ true
        → Settled (pair_tasks c out) es q v → Writes (pair_tasks c out) (q ∷ ps) es → Noting (pairs_of j) noted seen (q ∷ ws)
        → (undecided j q ≡ true → In q noted) → Closing f fs v noted
    closing (to_near d u n e) b s wr nt m = absurd (false≢true b)
    closing (to_other {fs} {ps} {ws} {p} d u n s z) b t wr nt m =
        record {
          task = p;
          opens = ps;
          waiting = ws;
          seen = side j out false p ∷ seen;
          path = d;
          waits = u;
          node = n;
          near_is = s;
          small = z;
          other_is = t;
          writes = wr;
          noting =
              note_old nt (here refl) {now = p ∷ ws} (λ q h. ⊎_elim (λ e. inl e) (λ l. inr (there l)) (in-cases h))
              (each (λ q. Reach (pairs_of j) q) u.reached (λ q h. nt.waiting_reached q (there h))) m;
        }

-- the pairs that stand in a run are those that stood there before a result was changed
module _ {run run' : List ℕ} {i a u : ℕ} (p : Pair) (n : held.Noted run i p.left p.right a) (ch : held.Changed run run' i u) where
  at_node : (q : Pair) (w : ℕ) → held.Noted run' i q.left q.right w → (q ≡ p) × (w ≡ u)
  at_node q w m =
      let same = noted_same m (ch.noted p.left p.right a n) in
      ((λ z. pair (same.0 z) (same.1 z)), same.2)

  changed_in : (q : Pair) → InRun run q → InRun run' q
  changed_in q (w, s) =
      ⊎_elim (λ (e : s.node ≡ i). (u, noted_stands (ch.noted q.left q.right w (subst (λ (k : ℕ). held.Noted run k q.left q.right w) e s.noted))))
      (λ d. (w, noted_stands (ch.kept s.node q.left q.right w d s.noted))) (same_number s.node i)

  changed_from : (q : Pair) → InRun run' q → InRun run q
  changed_from q (w, s) =
      ⊎_elim
      (λ e.
      let same = at_node q w (subst (λ (k : ℕ). held.Noted run' k q.left q.right w) e.0 s.noted) in
      subst (InRun run) (sym same.0) (a, noted_stands n)) (λ m. (w, noted_stands m)) (ch.only s.node q.left q.right w s.noted)

module _ {j : Job} {out : Flip} {pairs stack : List ℕ} {k entered v : ℕ} {es : List Entry} (e : Ended j out pairs stack (suc k) entered v es) where
  abbrev state : Awaits j out pairs stack (suc k) entered e.awaited es
  state = e.state

  abbrev checked : Checked j
  checked = e.state.checked

  abbrev t : Tasks high_first (pairs_of j)
  t = pair_tasks e.state.checked out

  abbrev first : ℕ
  first = get_or stack (2 * k) 0

  abbrev second : ℕ
  second = get_or stack (2 * k + 1) 0

  abbrev top : Frame
  top = frame_of first second

  noted_awaited : undecided j e.awaited ≡ true → In e.awaited state.noted
  noted_awaited u = state.keeps.listed e.awaited (e.met u)

  -- the frame is in the stack, its node in the run
  pub frame_fits : 2 * options j.left + 1 ≤ length stack → 2 * k + 1 < length stack
  frame_fits places =
      let reached = state.noting.waiting_reached e.awaited (here refl) in
      let most : asked j e.awaited ≤ options j.left = (pairs_fall checked).most e.awaited reached in
      omega (arith, places, most, path_height checked out state.path, frames_length stack k)

  pub node_fits : first / 2 < held.nodes pairs
  node_fits =
      let o = path_frame checked out state.path top (here refl) in
      omega (arith, o.noted.below, count_room pairs state.memo)

  -- it turns to its other child
  module _ (even : first % 2 ≡ 0) (fits : 2 * k + 1 < length stack) where
    not_turned : eqb (first % 2) 1 ≡ false
    not_turned = ne_eqb (first % 2) 1 (λ z. absurd (omega arith))

    done : Turning checked out pairs es top (frames stack k) v state.noted
    done = turning checked out pairs es state.path not_turned e.stands e.small state.writes state.noting noted_awaited

    frames_now : frames (framed stack k (first + 1) v) (suc k) ≡ frame (first / 2) true v ∷ frames stack k
    frames_now = frames_top stack k (first + 1) v fits ∙ ap (λ (f : Frame). f ∷ frames stack k) (turned_frame first v even)

    settled_now : (p : Pair) (u : ℕ) → Known pairs (frame (first / 2) true v ∷ frames stack k) p u → Settled t es p u
    settled_now p u h =
        state.settled p u
        (record {
          node = h.node;
          noted = h.noted;
          closed = each (λ f. f.node ≡ h.node → ⊥) (λ z. h.closed _ (here refl) z) (λ f m. h.closed f (there m));
        })

    pub turned_on : Awaits j out pairs (framed stack k (first + 1) v) (suc k) entered (decoded second) es
    turned_on =
        let d = done in
        record {
          checked = checked;
          memo = state.memo;
          number = state.number;
          opens = d.opens;
          waiting = d.waiting;
          path = subst (λ (fs : List Frame). Path checked out pairs es fs d.opens d.waiting (decoded second)) (sym frames_now) d.path;
          writes = d.writes;
          settled = subst (λ (fs : List Frame). (p : Pair) (u : ℕ) → Known pairs fs p u → Settled t es p u) (sym frames_now) settled_now;
          noted = state.noted;
          seen = d.seen;
          noting = d.noting;
          keeps = state.keeps;
          counted = state.counted;
        }

    pub turned_less : left pairs (framed stack k (first + 1) v) (suc k) entered < left pairs stack (suc k) entered
    turned_less =
        let now : returns (frames (framed stack k (first + 1) v) (suc k)) ≡ 1 + returns (frames stack k) = ap returns frames_now in
        let was : returns (frames stack (suc k)) ≡ 2 + returns (frames stack k) = ap (λ (b : Bool). cond b 1 2 + returns (frames stack k)) not_turned in
        omega (arith, now, was)

  -- it is closed
  module _ (odd : first % 2 ≡ 1) where
    is_turned : eqb (first % 2) 1 ≡ true
    is_turned = eq-eqb (first % 2) 1 odd

    both : Closing checked out pairs es top (frames stack k) v state.noted
    both = closing checked out pairs es state.path is_turned e.stands state.writes state.noting noted_awaited

    abbrev p : Pair
    p = both.task

    abbrev w : Written
    w = decide high_first (held.result_at (held.nodes pairs) pairs (first / 2)) second v es

    decides : decide high_first (asked j p) second v es ≡ w
    decides = ap (λ (a : ℕ). decide high_first a second v es) (sym both.node.result)

    pub number_below : 2 + length es < 2 ^ 16 → w.at < 2 ^ 16
    number_below l = decide_below high_first (held.result_at (held.nodes pairs) pairs (first / 2)) second v es (2 ^ 16) both.small e.small l

    pub closed_less : (pairs' : List ℕ) → length pairs' ≡ length pairs → left pairs' stack k entered ≤ left pairs stack (suc k) entered
    closed_less pairs' l =
        let was : returns (frames stack (suc k)) ≡ 1 + returns (frames stack k) = ap (λ (b : Bool). cond b 1 2 + returns (frames stack k)) is_turned in
        omega (arith, was, nodes_alike pairs pairs' l)

    module _ {pairs' : List ℕ} (ch : held.Changed pairs pairs' (first / 2) w.at) where
      ended_now : Settled t w.entries p w.at
      unfolding pair_tasks
      ended_now = closed_settled t both.opens both.waits both.near_is both.other_is decides

      settled_closed : (r : Pair) (u : ℕ) → Known pairs' (frames stack k) r u → Settled t w.entries r u
      unfolding pair_tasks
      settled_closed r u h =
          ⊎_elim
          (λ (z : h.node ≡ first / 2).
          let same = at_node p both.node ch r u (subst (λ (i : ℕ). held.Noted pairs' i r.left r.right u) z h.noted) in
          subst (λ (q : Pair). Settled t w.entries q u) (sym same.0) (subst (Settled t w.entries p) (sym same.1) ended_now))
          (λ d.
          ⊎_elim (λ z. absurd (d z.0))
          (λ n.
          settled_grown t
          (state.settled r u
          (record { node = h.node; noted = n; closed = each (λ f. f.node ≡ h.node → ⊥) (λ z. d (sym z)) h.closed }))
          (closed_grown t both.opens both.waits both.near_is both.other_is decides))
          (ch.only h.node r.left r.right u h.noted))
          (same_number h.node (first / 2))

      pub closed_on : w.at < 2 ^ 16 → Ended j out pairs' stack k entered w.at w.entries
      unfolding pair_tasks
      closed_on small =
          record {
            awaited = p;
            state = record {
              checked = checked;
              memo = ch.sound;
              number = ch.counted ∙ state.number;
              opens = both.opens;
              waiting = both.waiting;
              path =
                  path_written checked out (closed_grown t both.opens both.waits both.near_is both.other_is decides)
                  (path_closed checked out p both.node ch both.path (omega arith));
              writes = closed t both.opens both.waits both.near_is both.other_is decides both.writes;
              settled = settled_closed;
              noted = state.noted;
              seen = both.seen;
              noting = both.noting;
              keeps =
                  record {
                    holds = λ q m. changed_in p both.node ch q (state.keeps.holds q m);
                    listed = λ q m. state.keeps.listed q (changed_from p both.node ch q m);
                  };
              counted = state.counted;
            };
            met = λ u. changed_in p both.node ch p (asked j p, noted_stands both.node);
            stands = ended_now;
            small = small;
          }

    -- one entry more would be too long
    pub closed_long : length es < length w.entries → 3 + length es ≤ length (signed high_first (options j.left) (result j out))
    unfolding pair_tasks
    closed_long l =
        rw (meaning_roots j out) at (closed_longer t both.opens both.waits both.near_is both.other_is decides both.writes l)
