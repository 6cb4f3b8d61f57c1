-- The way down, by what a look at the pair that is awaited finds: it is decided, it has ended before, it is one too many, or it is
-- opened now.
use Prim.Native.Nat.{ℕ, suc, ◌+◌, ◌*◌, ◌%◌, ◌^◌, ◌<◌, ◌≤◌, min}
use mathlib.Core.Path.{◌≡◌, refl, sym, ap, ap₂, subst, ◌∙◌}
use mathlib.Core.Logic.{inl, inr, ⊎_elim}
use mathlib.Core.Bool.{Bool, true, false, cond, false≢true}
use mathlib.Core.List.{List, ◌∷◌}
use native.Mathlib.Omega.{arith}
use lib.ListN.{length}
use lib.Dec.{eqb}
use borrow.Author.Tests.{eq-eqb, ne_eqb}
use Rattle.bdd.specs.Array.{Entry, options, var_of}
use Rattle.bdd.specs.Jobs.{digit}
use Rattle.bdd.specs.Pairs.{Job, Checked, Pair, pair, pairs_of, asked, undecided, decision, reached, pair_room}
use Rattle.bdd.specs.Pairs as page
use Rattle.bdd.specs.Lent.{Flip}
use Rattle.counting.proofs.Among.{In, here, there, in-cases, each, keeps_more}
use Rattle.counting.proofs.Reaching.{Reach}
use Rattle.counting.proofs.Reaching as counting
use Rattle.counting.proofs.Noting.{note_new, note_below}
use Rattle.tasks.proofs.Tasks.{Waits, Settled, decided_settled}
use Rattle.tasks.proofs.Open.{opened}
use Rattle.pairs.proofs.Pairs.{pairs_fall, pairs_most, left_ordered, reach_inside, decision_most, decided_digit, pair_tasks}
use Rattle.chains.specs.declared.Stored.{Stored}
use Rattle.chains.specs.declared.Stored.TheVariants.{New, Known as Known-pair, Full}
use Rattle.pair_run.specs.Held as held
use Rattle.pair_run.proofs.Laws.{noted_same, result_below, added_stands, added_kept, added_only, on_new, on_known, on_full, same_known}
use Rattle.pair_run.proofs.Rooms.{nodes_alike}
use Rattle.step.specs.Step.{code, decoded, decision_in, side, Small, Within}
use Rattle.step.proofs.Codes.{decoded_code, reach_within, reach_small}
use Rattle.apply.specs.Frames.{Frame, frame, frame_of, frames, framed}
use Rattle.apply.specs.Awaiting.{Path, to_near, Known, Awaits, Ended, Due, Opened, left, Meets}
use Rattle.apply.specs.declared.Met.{Met}
use Rattle.apply.specs.declared.Met.TheVariants as met
use Rattle.apply.proofs.Stacking.{frames_length, frames_top}
use Rattle.apply.proofs.Paths.{sides_in, side_reached, path_frame, path_height, path_entered}

digit_cond : (b : Bool) → digit b ≡ cond b 1 0
digit_cond true = refl
digit_cond false = refl

-- a frame whose other child waits
fresh_frame : (e w : ℕ) → frame_of (2 * e) w ≡ frame e false w
fresh_frame e w = ap₂ (λ (i : ℕ) (t : Bool). frame i t w) (omega arith) (ne_eqb (2 * e % 2) 1 (λ z. absurd (omega arith)))

module _ {j : Job} {out : Flip} {pairs stack : List ℕ} {depth entered : ℕ} {q : Pair} {es : List Entry}
    (a : Awaits j out pairs stack depth entered q es) where
  pub awaited_reached : Reach (pairs_of j) q
  awaited_reached = a.noting.waiting_reached q (here refl)

  pub awaited_small : Small q
  awaited_small = reach_small a.checked awaited_reached

  pub awaited_within : Within j.left q.left × Within j.right q.right
  awaited_within = reach_within a.checked awaited_reached

  -- the table decides it
  pub meet_decided : {d : ℕ} → d ≡ decision_in j.table q → d < 2 → Ended j out pairs stack depth entered d es
  unfolding decision
  meet_decided {d} e l =
      let u : undecided j q ≡ false = ne_eqb (decision j q) 2 (λ z. absurd (omega arith)) in
      let is : cond (eqb (decision j q) 1) 1 0 ≡ d =
      sym (e ∙ decided_digit a.checked q (reach_inside a.checked awaited_reached) u ∙ digit_cond (eqb (decision j q) 1)) in
      record {
        awaited = q;
        state = a;
        met = λ t. absurd (false≢true (sym u ∙ t));
        stands = subst (Settled (pair_tasks a.checked out) es q) is (decided_settled (pair_tasks a.checked out) q es awaited_reached u);
        small = omega arith;
      }

  -- it stands in the run, at a node that is not open
  pub meet_known : {v : ℕ} → held.Stands pairs q.left q.right v → Ended j out pairs stack depth entered v es
  meet_known {v} s =
      record {
        awaited = q;
        state = a;
        met = λ t. (v, s);
        stands =
            a.settled q v
            (record {
              node = s.node;
              noted = s.noted;
              closed = λ f m z.
                  let o = path_frame a.checked out a.path f m in
                  let same = noted_same (subst (λ (i : ℕ). held.Noted pairs i o.task.left o.task.right (asked j o.task)) z o.noted) s.noted in
                  let equal : o.task ≡ q = λ i. pair (same.0 i) (same.1 i) in
                  absurd (omega (arith, o.before, ap (asked j) equal));
            });
        small = result_below s;
      }

  module _ {d : ℕ} (told : d ≡ decision_in j.table q) (unsure : 2 ≤ d) where
    asks : undecided j q ≡ true
    unfolding decision
    asks = eq-eqb (decision j q) 2 (omega (arith, told, decision_most a.checked q (reach_inside a.checked awaited_reached)))

    waits : Waits (pair_tasks a.checked out) q
    waits = record { reached = awaited_reached; undecided = asks }

    -- one frame more finds room
    pub height_fits : 2 * options j.left + 1 ≤ length stack → 2 * depth + 1 < length stack
    height_fits places =
        omega (arith, path_height a.checked out a.path, frames_length stack depth, counting.asks_below (pairs_fall a.checked) awaited_reached asks)

    module _ (absent : held.Absent pairs q.left q.right) where
      new : In q a.noted → ⊥
      new m = let k = a.keeps.holds q m in absent k.0 k.1

      below : entered < page.count j
      unfolding page.count reached
      below = omega (arith, a.counted, note_below (pairs_fall a.checked) a.noting (here refl) asks new)

      -- it is one too many
      pub meet_full : held.count pairs ≡ held.nodes pairs → pair_room pairs < page.count j
      meet_full full = omega (arith, full, a.number, below, pairs_most a.checked)

      pub few : entered < 2 ^ 31
      few = omega (arith, below, pairs_most a.checked)

    -- it is opened: entered in the run, with a frame on the stack
    module _ {pairs' stack' : List ℕ} {near other : Pair} (added : held.Added pairs pairs' q.left q.right (asked j q))
        (same_length : length pairs' ≡ length pairs) (near_is : near ≡ side j out true q) (other_is : other ≡ side j out false q)
        (places : 2 * options j.left + 1 ≤ length stack) (pushed : stack' ≡ framed stack depth (2 * entered) (code other)) where
      frames_now : frames stack' (depth + 1) ≡ frame entered false (code other) ∷ frames stack depth
      frames_now =
          let one : depth + 1 ≡ suc depth = omega arith in
          ap₂ frames pushed one
          ∙ frames_top stack depth (2 * entered) (code other) (height_fits places)
          ∙ ap (λ (f : Frame). f ∷ frames stack depth) (fresh_frame entered (code other))

      node : held.Noted pairs' entered q.left q.right (asked j q)
      node = subst (λ (i : ℕ). held.Noted pairs' i q.left q.right (asked j q)) a.number added.noted

      path_now : Path a.checked out pairs' es (frame entered false (code other) ∷ frames stack depth) (q ∷ a.opens) (side j out false q ∷ a.waiting) (side j out true q)
      path_now =
          to_near (path_entered a.checked out added.kept a.path) waits node
          (ap (λ (r : Pair). decoded (code r)) other_is ∙ decoded_code (side j out false q) (reach_small a.checked (side_reached a.checked out waits false)))

      settled_now : (p : Pair) (v : ℕ) → Known pairs' (frame entered false (code other) ∷ frames stack depth) p v → Settled (pair_tasks a.checked out) es p v
      settled_now p v k =
          ⊎_elim (λ z. absurd (k.closed _ (here refl) (sym (z.0 ∙ a.number))))
          (λ n. a.settled p v (record { node = k.node; noted = n; closed = λ f m. k.closed f (there m) }))
          (added.only k.node p.left p.right v k.noted)

      pub meet_open : Opened j out pairs pairs' stack' depth entered (left pairs stack depth entered) near es
      unfolding pair_tasks
      meet_open =
          let t = pair_tasks a.checked out in
          let u = note_new a.noting (here refl) {now = side j out true q ∷ side j out false q ∷ a.waiting}
          (λ p m. ⊎_elim (λ e. inl e) (λ l. inr (there (there l))) (in-cases m))
          (each (λ p. Reach (pairs_of j) p) (side_reached a.checked out waits true)
          (each (λ p. Reach (pairs_of j) p) (side_reached a.checked out waits false) (λ p m. a.noting.waiting_reached p (there m))))
          asks (new added.absent) (sides_in j out q a.waiting) in
          let free : entered < held.nodes pairs' = omega (arith, added.free, a.number, nodes_alike pairs pairs' same_length) in
          record {
            state =
                record {
                  checked = a.checked;
                  memo = added.sound;
                  number = omega (arith, added.counted, a.number);
                  opens = q ∷ a.opens;
                  waiting = side j out false q ∷ a.waiting;
                  path = subst (λ (p : Pair). Path a.checked out pairs' es (frames stack' (depth + 1)) (q ∷ a.opens) (side j out false q ∷ a.waiting) p) (sym near_is) (rw frames_now path_now);
                  writes = rw near_is (opened t a.opens waits a.writes);
                  settled = rw frames_now settled_now;
                  noted = q ∷ a.noted;
                  seen = q ∷ a.seen;
                  noting = rw near_is u;
                  keeps =
                      keeps_more a.keeps (asked j q, added_stands added) (λ p k. (k.0, added_kept added p.left p.right k.0 k.1))
                      (λ p k. ⊎_elim (λ z. inl (λ i. pair (z.0 i) (z.1 i))) (λ s. inr (k.0, s)) (added_only added p.left p.right k.0 k.1));
                  counted = omega (arith, a.counted);
                };
            fits = free;
            less = rw frames_now (omega (arith, added.free, a.number, nodes_alike pairs pairs' same_length));
          }

-- what the insertion of the pair that is awaited says, where the table leaves it undecided and `ask` is the option that it asks
module _ {j : Job} {out : Flip} {pairs stack : List ℕ} {depth entered : ℕ} {q : Pair} {es : List Entry}
    (a : Awaits j out pairs stack depth entered q es) {d ask : ℕ} (told : d ≡ decision_in j.table q) (unsure : 2 ≤ d)
    (asks-it : ask ≡ min (var_of j.left q.left) (var_of j.right q.right)) {pairs' : List ℕ} (r : Stored)
    (i : held.Insertion pairs pairs' q.left q.right ask entered r) where
  is_asked : ask ≡ asked j q
  unfolding asked
  is_asked = asks-it

  ready : held.Ready pairs q.left ask entered
  ready =
      let s = awaited_small a in
      let l = counting.asks_below (pairs_fall a.checked) (awaited_reached a) (asks a told unsure) in
      record {
        sound = a.memo;
        number = a.number;
        left_small = omega (arith, s.left);
        result_small = omega (arith, is_asked, l, (left_ordered a.checked).options_most);
      }

  pub answer_known : {v : ℕ} → r ≡ Known-pair v
      → Ended j out pairs' stack depth entered v es × (left pairs' stack depth entered ≤ left pairs stack depth entered)
  answer_known {v} e =
      let same = same_known i e in
      (rw same (meet_known a (on_known i e ready)), omega (arith, ap held.nodes same))

  pub answer_full : r ≡ Full → pair_room pairs < page.count j
  answer_full e = let n = on_full i e ready in meet_full a told unsure n.absent n.full

  pub answer_new : r ≡ New → held.Added pairs pairs' q.left q.right (asked j q)
  answer_new e = subst (held.Added pairs pairs' q.left q.right) is_asked (on_new i e ready)

  -- the frame finds room, and its number is whole
  pub push_ready : r ≡ New → {other : Pair} → other ≡ side j out false q → 2 * options j.left + 1 ≤ length stack
      → (2 * depth + 1 < length stack) × (entered < 2 ^ 31) × Small other
  push_ready e same places =
      (height_fits a told unsure places, few a told unsure (answer_new e).absent, rw same (reach_small a.checked (side_reached a.checked out (waits a told unsure) false)))

-- on the way down: what is awaited, for whatever was written, that the way gets no longer, and that the runs are as long as they were
pub record Descending (j : Job) (out : Flip) (pairs₀ stack₀ : List ℕ) (depth₀ entered₀ : ℕ) (q₀ : Pair) (pairs stack : List ℕ) (depth entered : ℕ) (q : Pair) : Type 0 where
  pub now : (es : List Entry) → Awaits j out pairs₀ stack₀ depth₀ entered₀ q₀ es
      → Awaits j out pairs stack depth entered q es × (left pairs stack depth entered ≤ left pairs₀ stack₀ depth₀ entered₀)
  pub pairs_length : length pairs ≡ length pairs₀
  pub stack_length : length stack ≡ length stack₀

pub descending_begun : (j : Job) (out : Flip) (pairs stack : List ℕ) (depth entered : ℕ) (q : Pair)
    → Descending j out pairs stack depth entered q pairs stack depth entered q
descending_begun j out pairs stack depth entered q = record { now = λ es a. (a, omega arith); pairs_length = refl; stack_length = refl }

module _ {j : Job} {out : Flip} {pairs₀ stack₀ : List ℕ} {depth₀ entered₀ : ℕ} {q₀ : Pair} {pairs stack : List ℕ} {depth entered : ℕ} {q : Pair}
    (g : Descending j out pairs₀ stack₀ depth₀ entered₀ q₀ pairs stack depth entered q) (due₀ : Due j out pairs₀ stack₀ depth₀ entered₀ q₀) where
  pub descending_due : Due j out pairs stack depth entered q
  descending_due =
      record { entries = due₀.entries; state = (g.now due₀.entries due₀.state).0; places = omega (arith, due₀.places, g.stack_length) }

  -- what the pair that is awaited came to
  module _ (pairs' stack' : List ℕ) (r : Met)
      (look : (es : List Entry) → Awaits j out pairs stack depth entered q es → Meets j out pairs pairs' stack' depth entered (left pairs stack depth entered) es r) where
    meets_as : (z : Met) → r ≡ z → (es : List Entry) → Awaits j out pairs₀ stack₀ depth₀ entered₀ q₀ es
        → Meets j out pairs pairs' stack' depth entered (left pairs stack depth entered) es z
    meets_as z e es a = subst (Meets j out pairs pairs' stack' depth entered (left pairs stack depth entered) es) e (look es (g.now es a).0)

    pub descends_full : r ≡ met.Full → pair_room pairs₀ < page.count j
    unfolding pair_room
    descends_full e =
        let l : pair_room pairs < page.count j = meets_as met.Full e due₀.entries due₀.state in
        omega (arith, g.pairs_length)

    pub descends_end : {v : ℕ} → r ≡ met.Known v → (es : List Entry) → Awaits j out pairs₀ stack₀ depth₀ entered₀ q₀ es
        → Ended j out pairs' stack' depth entered v es × (left pairs' stack' depth entered ≤ left pairs₀ stack₀ depth₀ entered₀)
    descends_end {v} e es a = let m = meets_as (met.Known v) e es a in (m.0, omega (arith, m.1, (g.now es a).1))

    module _ {near : Pair} (e : r ≡ met.Open near) where
      pub descends_less : left pairs' stack' (depth + 1) (entered + 1) < left pairs stack depth entered
      descends_less = (meets_as (met.Open near) e due₀.entries due₀.state).less

      -- one frame and one pair more can be counted
      pub descends_fits : (depth + 1 < 2 ^ 33) × (entered + 1 < 2 ^ 33)
      descends_fits =
          let o = meets_as (met.Open near) e due₀.entries due₀.state in
          let h = path_height o.state.checked out o.state.path in
          let m = (pairs_fall o.state.checked).most near (o.state.noting.waiting_reached near (here refl)) in
          (omega (arith, h, m, frames_length stack' (depth + 1), (left_ordered o.state.checked).options_most), omega (arith, o.fits))

      pub descends_on : length pairs' ≡ length pairs → length stack' ≡ length stack
          → Descending j out pairs₀ stack₀ depth₀ entered₀ q₀ pairs' stack' (depth + 1) (entered + 1) near
      descends_on p s =
          record {
            now = λ es a. let o = meets_as (met.Open near) e es a in (o.state, omega (arith, o.less, (g.now es a).1));
            pairs_length = p ∙ g.pairs_length;
            stack_length = s ∙ g.stack_length;
          }
