-- One look at the stack's top, by what it finds, over plain variables: p is the pair that the top stands for, d what the
-- table says of it.
use Prim.Native.Nat.{ℕ, ◌+◌, ◌-◌, ◌/◌, ◌<◌, ◌≤◌}
use mathlib.Core.Path.{◌≡◌, sym, ap, subst, ◌∙◌}
use mathlib.Core.Logic.{◌⊎◌, inl, inr, ⊎_elim}
use mathlib.Core.Bool.{Bool, true, false, ◌||◌}
use mathlib.Core.List.{List}
use native.Mathlib.Omega.{arith}
use lib.ListN.{length, get_or, length-set}
use lib.Dec.{eqb}
use borrow.Author.Tests.{eq-eqb, ne_eqb}
use Rattle.bdd.specs.Pairs.{Job, Checked, Pair, pair, pairs_of, decision, undecided, child, reached, pair_room}
use Rattle.bdd.specs.Pairs as pairs
use Rattle.counting.proofs.Reaching.{Reach, by_step}
use Rattle.counting.proofs.Turns.{tally_reached, tally_height, tally_decided, tally_known, tally_fits, tally_below, tally_new}
use Rattle.pairs.proofs.Pairs.{pairs_fall, pairs_most}
use Rattle.pair_run.proofs.Laws.{added_stands, added_kept, added_only}
use Rattle.step.specs.Step.{code, decoded, decision_in, Small, Within, Leads}
use Rattle.step.specs.declared.Children.{Children}
use Rattle.step.proofs.Codes.{decoded_code, reach_within, reach_small}
use Rattle.complexity.specs.Exploring.{InRun, Marked, Old, Over, Notes, Exploring, Went, pushed}
use Rattle.complexity.specs.declared.State.{State}
use Rattle.complexity.specs.declared.Noted.{Noted}
use Rattle.complexity.specs.declared.Noted.TheVariants.{New, Known, Full}

-- a pair more was allowed
pub new_fits : (most : ℕ) (was now : List ℕ) (p : Pair) (k : ℕ) (r : Noted) → Notes most was now p k r → r ≡ New → k < most
new_fits most was now p k r n is =
    let m : Marked was now p k most = subst (Notes most was now p k) is n in
    m.fits

pub top_place : {j : Job} {most : ℕ} {run stack : List ℕ} {s : State}
    → Checked j × (Exploring j most run stack s × (0 < s.height)) → s.height - 1 < length stack
top_place pre = omega (arith, pre.1.1, pre.1.0.places, tally_height pre.1.0.tally (pairs_fall pre.0))

module _ {j : Job} {most : ℕ} {run stack : List ℕ} {s : State}
    (pre : Checked j × (Exploring j most run stack s × (0 < s.height)))
    (p : Pair) (there : p ≡ decoded (get_or stack (s.height - 1) 0)) where
  checked : Checked j
  checked = pre.0

  e : Exploring j most run stack s
  e = pre.1.0

  h : ℕ
  h = s.height - 1

  top : s.height ≡ h + 1
  unfolding h
  top = omega (arith, pre.1.1)

  same : decoded (get_or stack h 0) ≡ p
  unfolding h
  same = sym there

  reaches : Reach (pairs_of j) p
  reaches = tally_reached e.tally h p top same

  pub top_within : Within j.left p.left × Within j.right p.right
  top_within = reach_within checked reaches

  pub top_small : Small p
  top_small = reach_small checked reaches

  module _ (d : ℕ) (told : d ≡ decision_in j.table p) where
    -- the table decides it
    pub look_decided : (d ≡ 2 → ⊥) → (on : Bool) → on ≡ (eqb d 1 || s.on)
        → Went j most s run stack (record { height = s.height - 1; count = s.count; on = on })
    unfolding decision h
    look_decided ne on f =
        let flag : (eqb (decision j p) 1 || s.on) ≡ on = ap (λ (x : ℕ). eqb x 1 || s.on) (sym told) ∙ sym f in
        record {
          exploring = record {
            tally = rw flag at (tally_decided e.tally h p top same (ap (λ (x : ℕ). eqb x 2) (sym told) ∙ ne_eqb d 2 ne));
            holds = e.holds;
            places = e.places;
          };
          less = omega (arith, top);
        }

    module _ (two : d ≡ 2) where
      asks : undecided j p ≡ true
      unfolding decision
      asks = eq-eqb _ _ (sym told ∙ two)

      -- it is noted already
      pub look_known : {now : List ℕ} (r : Noted) → Notes most run now p s.count r → r ≡ Known
          → Went j most s now stack (record { height = s.height - 1; count = s.count; on = s.on })
      unfolding h
      look_known {now} r n is =
          let o : Old run now p = subst (Notes most run now p s.count) is n in
          record {
            exploring = record {
              tally = rw o.same (tally_known e.tally h p top same asks o.stands);
              holds = rw o.same e.holds;
              places = e.places;
            };
            less = omega (arith, top);
          }

      -- it is one too many
      pub look_full : (now : List ℕ) (r : Noted) → Notes most run now p s.count r → r ≡ Full → most < pairs.count j
      unfolding pairs.count reached
      look_full now r n is =
          let o : Over run now p s.count most = subst (Notes most run now p s.count) is n in
          omega (arith, o.full, tally_below e.tally h p top same asks (pairs_fall checked) (λ w. o.absent w.0 w.1))

      module _ (next : Children) (l : Leads j p next) where
        small : (b : Bool) → Small (child j b p)
        small b = reach_small checked (by_step reaches asks b)

        room : h + 2 ≤ length stack
        room = omega (arith, e.places, tally_fits e.tally h p top same asks (pairs_fall checked))

        pub push_ready : (s.height - 1 + 1 < length stack) × (Small next.off × Small next.on)
        unfolding h
        push_ready = (omega (arith, room), (rw l.off (small false), rw l.on (small true)))

        coded : (q : Pair) (b : Bool) → q ≡ child j b p → decoded (code q) ≡ child j b p
        coded q b e = ap (λ (r : Pair). decoded (code r)) e ∙ decoded_code (child j b p) (small b)

        -- it is new: noted, and its children wait
        pub look_new : {now above : List ℕ} (r : Noted) → Notes most run now p s.count r → r ≡ New → length now ≡ length run
            → above ≡ pushed stack (s.height - 1) next
            → Went j most s now above (record { height = s.height - 1 + 2; count = s.count + 1; on = s.on })
        unfolding pair_room h pairs.count reached
        look_new {now} {above} r n is len wrote =
            let m : Marked run now p s.count most = subst (Notes most run now p s.count) is n in
            let a = m.added in
            let below = tally_below e.tally h p top same asks (pairs_fall checked) (λ w. a.absent w.0 w.1) in
            let only : (q : Pair) → InRun now q → (q ≡ p) ⊎ InRun run q =
            λ q x. ⊎_elim (λ w. inl (λ i. pair (w.0 i) (w.1 i))) (λ w. inr (x.0, w)) (added_only a q.left q.right x.0 x.1) in
            let rooms : pair_room now ≡ pair_room run = ap (λ (n : ℕ). n / 4) len in
            record {
              exploring = record {
                tally =
                    rw wrote
                    (tally_new e.tally h p top same asks (pairs_fall checked) (λ w. a.absent w.0 w.1) true
                    (code next.off) (code next.on) (coded next.off false l.off) (coded next.on true l.on) (omega (arith, room))
                    (0, added_stands a) (λ q w. (w.0, added_kept a q.left q.right w.0 w.1)) only);
                holds = record { sound = a.sound; number = omega (arith, a.counted, e.holds.number); few = omega (arith, below, pairs_most checked); fits = omega (arith, m.fits); room = omega (arith, rooms, e.holds.room) };
                places = rw wrote (simp length-set e.places);
              };
              less = omega (arith, m.fits, top);
            }
