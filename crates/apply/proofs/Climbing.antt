-- The loop of the way up: what holds at each frame, how it begins, goes on and ends.
use Prim.Native.Nat.{ℕ, suc, ◌+◌, ◌-◌, ◌*◌, ◌/◌, ◌%◌, ◌^◌, ◌<◌, ◌≤◌, max}
use mathlib.Core.Path.{◌≡◌, refl, sym, ap, subst, ◌∙◌}
use mathlib.Core.List.{List}
use native.Mathlib.Omega.{arith}
use lib.ListN.{length, get_or, set}
use Rattle.bdd.specs.Bounds.{most_entries}
use Rattle.bdd.specs.Array.{Entry, Runs}
use Rattle.bdd.specs.Signed.{decide, high_first}
use Rattle.bdd.specs.Pairs.{Job}
use Rattle.bdd.specs.Lent.{Flip}
use Rattle.pair_run.specs.Held as held
use Rattle.std.specs.Prelude.{Some, None}
use Rattle.index_run.specs.Placing.{Fit, Output, Placement, placed, Placing}
use Rattle.ending.proofs.Alike.{Alike}
use Rattle.step.specs.Step.{decoded}
use Rattle.apply.specs.Frames.{framed}
use Rattle.apply.specs.Awaiting.{Ended, left, Settling, Upward, Rising, Turned, Overlong}
use Rattle.apply.proofs.Up.{frame_fits, node_fits, turned_on, turned_less, number_below, closed_less, closed_on, closed_long}

-- whatever had ended where the way began, what has ended now
pub record Climbing (most : ℕ) (was : Runs) (pairs stack index : List ℕ) (opened ended behind : ℕ) (now : Runs) (pairs' stack' index' : List ℕ)
    (depth v next : ℕ) : Type 0 where
  pub rising : (j : Job) (out : Flip) (before : Runs) (entered : ℕ) (es : List Entry) → Ended j out pairs stack opened entered ended es
      → Output most before index was behind es
      → Rising j out most before entered (left pairs stack opened entered) pairs' stack' index' now depth v next
  pub alike : Alike was now pairs pairs' stack stack' index index'

pub climb_begun : (most : ℕ) (was : Runs) (pairs stack index : List ℕ) (opened ended behind : ℕ)
    → Climbing most was pairs stack index opened ended behind was pairs stack index opened ended behind
climb_begun most was pairs stack index opened ended behind =
    record {
      rising = λ j out before entered es e o. record { entries = es; ended = e; output = o; less = omega arith };
      alike = record { variable = refl; low = refl; high = refl; pairs_length = refl; stack_length = refl; index_length = refl };
    }

module _ {most : ℕ} {was now : Runs} {pairs stack index pairs' stack' index' : List ℕ} {opened ended behind depth v next : ℕ}
    (g : Climbing most was pairs stack index opened ended behind now pairs' stack' index' depth v next) where
  -- no pair is open
  pub climb_done : depth ≤ 0 → (j : Job) (out : Flip) (before : Runs) (entered : ℕ) (es : List Entry) → Ended j out pairs stack opened entered ended es
      → Output most before index was behind es → Rising j out most before entered (left pairs stack opened entered) pairs' stack' index' now 0 v next
  climb_done none j out before entered es e o =
      let zero : depth ≡ 0 = omega arith in
      subst (λ (d : ℕ). Rising j out most before entered (left pairs stack opened entered) pairs' stack' index' now d v next) zero
      (g.rising j out before entered es e o)

  -- the frame on top is number depth - 1
  module _ (some : 0 < depth) where
    abbrev at : ℕ
    at = 2 * depth - 2

    abbrev first : ℕ
    first = get_or stack' at 0

    abbrev second : ℕ
    second = get_or stack' (at + 1) 0

    at_is : 2 * (depth - 1) ≡ at
    at_is = omega arith

    depth_is : depth ≡ suc (depth - 1)
    depth_is = omega arith

    module _ (j : Job) (out : Flip) (before : Runs) (entered : ℕ) (es : List Entry) (e : Ended j out pairs stack opened entered ended es)
        (o : Output most before index was behind es) where
      risen : Rising j out most before entered (left pairs stack opened entered) pairs' stack' index' now (suc (depth - 1)) v next
      risen =
          subst (λ (d : ℕ). Rising j out most before entered (left pairs stack opened entered) pairs' stack' index' now d v next) depth_is
          (g.rising j out before entered es e o)

    -- what the calls ask
    module _ (u : Upward most pairs stack index was opened ended behind) where
      here : Rising u.j u.out most u.was u.entered (left pairs stack opened u.entered) pairs' stack' index' now (suc (depth - 1)) v next
      here = risen u.j u.out u.was u.entered u.entries u.ended u.output

      pub climb_fits : at + 1 < length stack'
      climb_fits = omega (arith, frame_fits here.ended (omega (arith, u.places, g.alike.stack_length)))

      pub climb_node : first / 2 < held.nodes pairs'
      climb_node = subst (λ (i : ℕ). get_or stack' i 0 / 2 < held.nodes pairs') at_is (node_fits here.ended)

      pub climb_next : (2 ≤ next) × (next ≤ max 2 most)
      climb_next = (omega (arith, here.output.next_is), here.output.fits)

    pub climb_room : (most ≤ length index) × Fit was most → (most ≤ length index') × Fit now most
    climb_room (l, f) =
        let a = g.alike in (
          omega (arith, a.index_length),
          record { variable = omega (arith, f.variable, a.variable); low = omega (arith, f.low, a.low); high = omega (arith, f.high, a.high) },
        )

    -- the first child has ended
    module _ (even : first % 2 ≡ 0) (fits : at + 1 < length stack') (j : Job) (out : Flip) (before : Runs) (entered : ℕ) (es : List Entry)
        (e : Ended j out pairs stack opened entered ended es) (o : Output most before index was behind es) where
      turned_low : Turned j out most before entered (left pairs stack opened entered) pairs' (framed stack' (depth - 1) (get_or stack' (2 * (depth - 1)) 0 + 1) v) index' now
          (decoded (get_or stack' (2 * (depth - 1) + 1) 0)) (suc (depth - 1)) next
      turned_low =
          let r = risen j out before entered es e o in
          let low : get_or stack' (2 * (depth - 1)) 0 % 2 ≡ 0 = ap (λ (i : ℕ). get_or stack' i 0 % 2) at_is ∙ even in
          let room : 2 * (depth - 1) + 1 < length stack' = omega arith in
          record {
            entries = r.entries;
            state = turned_on r.ended low room;
            output = r.output;
            less = omega (arith, turned_less r.ended low room, r.less);
          }

      pub climb_turned : Turned j out most before entered (left pairs stack opened entered) pairs' (set (set stack' at (first + 1)) (at + 1) v) index' now (decoded second) depth next
      climb_turned =
          subst (λ (d : ℕ). Turned j out most before entered (left pairs stack opened entered) pairs' (set (set stack' at (first + 1)) (at + 1) v) index' now (decoded second) d next)
          (sym depth_is)
          (subst (λ (i : ℕ). Turned j out most before entered (left pairs stack opened entered) pairs' (set (set stack' i (get_or stack' i 0 + 1)) (i + 1) v) index' now
          (decoded (get_or stack' (i + 1) 0)) (suc (depth - 1)) next) at_is turned_low)

    -- both children have: the entry is placed, and the pair has its number; or the entry is one too many
    module _ (odd : first % 2 ≡ 1) (few : most ≤ most_entries) (pairs'' index'' : List ℕ) (now'' : Runs) (b : Placement)
        (placing : (before : Runs) (es : List Entry) → Output most before index' now next es
        → Placing most before es (decide high_first (held.result_at (held.nodes pairs') pairs' (first / 2)) second v es) index'' now'' next b)
        (settling : held.Searchable pairs' → Settling pairs' pairs'' (first / 2) b) where
      abbrev k : ℕ
      k = depth - 1

      odd_low : get_or stack' (2 * k) 0 % 2 ≡ 1
      odd_low = ap (λ (i : ℕ). get_or stack' i 0 % 2) at_is ∙ odd

      placing_low : (c : Placement) → b ≡ c → (before : Runs) (es : List Entry) → Output most before index' now next es
          → Placing most before es (decide high_first (held.result_at (held.nodes pairs') pairs' (get_or stack' (2 * k) 0 / 2)) (get_or stack' (2 * k + 1) 0) v es) index'' now'' next c
      placing_low c told before es o =
          subst (λ (i : ℕ). Placing most before es (decide high_first (held.result_at (held.nodes pairs') pairs' (get_or stack' i 0 / 2)) (get_or stack' (i + 1) 0) v es) index'' now'' next c)
          (sym at_is)
          (subst (λ (a : Placement). Placing most before es (decide high_first (held.result_at (held.nodes pairs') pairs' (first / 2)) second v es) index'' now'' next a) told
          (placing before es o))

      settling_low : (c : Placement) → b ≡ c → held.Searchable pairs' → Settling pairs' pairs'' (get_or stack' (2 * k) 0 / 2) c
      settling_low c told s =
          subst (λ (i : ℕ). Settling pairs' pairs'' (get_or stack' i 0 / 2) c) (sym at_is)
          (subst (λ (a : Placement). Settling pairs' pairs'' (first / 2) a) told (settling s))

      pub climb_on : (number further : ℕ) → b ≡ Some (placed number further) → Alike now now'' pairs' pairs'' stack' stack' index' index''
          → Climbing most was pairs stack index opened ended behind now'' pairs'' stack' index'' k number further
      climb_on number further told a =
          let c = g.alike in
          record {
            rising = λ j out before entered es e o.
                let r = risen j out before entered es e o in
                let w = decide high_first (held.result_at (held.nodes pairs') pairs' (get_or stack' (2 * k) 0 / 2)) (get_or stack' (2 * k + 1) 0) v r.entries in
                let p = placing_low (Some (placed number further)) told before r.entries r.output in
                let small : w.at < 2 ^ 16 = number_below r.ended odd_low (omega (arith, r.output.next_is, r.output.fits)) in
                let ch : held.Changed pairs' pairs'' (get_or stack' (2 * k) 0 / 2) w.at =
                subst (held.Changed pairs' pairs'' (get_or stack' (2 * k) 0 / 2)) p.1
                (settling_low (Some (placed number further)) told r.ended.state.memo (omega (arith, p.1))) in
                record {
                  entries = w.entries;
                  ended = subst (λ (n : ℕ). Ended j out pairs'' stack' k entered n w.entries) (sym p.1) (closed_on r.ended odd_low ch small);
                  output = p.0;
                  less = omega (arith, closed_less r.ended odd_low pairs'' a.pairs_length, r.less);
                };
            alike = record {
              variable = a.variable ∙ c.variable;
              low = a.low ∙ c.low;
              high = a.high ∙ c.high;
              pairs_length = a.pairs_length ∙ c.pairs_length;
              stack_length = a.stack_length ∙ c.stack_length;
              index_length = a.index_length ∙ c.index_length;
            };
          }

      pub climb_long : b ≡ None → (j : Job) (out : Flip) (before : Runs) (entered : ℕ) (es : List Entry) → Ended j out pairs stack opened entered ended es
          → Output most before index was behind es → Overlong j out most entered pairs'' stack'
      climb_long told j out before entered es e o =
          let r = risen j out before entered es e o in
          let p = placing_low None told before r.entries r.output in
          let same : pairs'' ≡ pairs' = settling_low None told r.ended.state.memo in
          record {
            long = omega (arith, closed_long r.ended odd_low p.0, r.output.next_is, p.1);
            depth = suc k;
            value = v;
            entries = r.entries;
            some = omega arith;
            ended = subst (λ (run : List ℕ). Ended j out run stack' (suc k) entered v r.entries) (sym same) r.ended;
          }
