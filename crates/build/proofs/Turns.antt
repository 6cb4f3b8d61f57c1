-- One turn of the loop, by what the look at the stack's top found: each case keeps the invariant and leaves fewer looks.
use Rattle.std.specs.Prelude.{None, Some}
use Prim.Native.Nat.{ℕ, ◌+◌, ◌*◌, ◌-◌, ◌^◌, ◌<◌, ◌≤◌, max}
use mathlib.Core.Path.{◌≡◌, refl, sym, ap, ap₂, subst, ◌∙◌}
use mathlib.Core.Logic.{⊎_elim, inl, inr}
use mathlib.Core.Bool.{Bool, true, false, cond}
use mathlib.Core.List.{List, ◌∷◌}
use native.Mathlib.Omega.{arith}
use lib.ListN.{length, set}
use lib.Seq.{get_or-set_same, lt-length-set}
use lib.Dec.{eqb}
use borrow.Author.Tests.{eq-eqb, ne_eqb}
use Rattle.bdd.specs.Bounds.{most_entries}
use Rattle.bdd.specs.Array.{Entry, Runs, options}
use Rattle.bdd.specs.Signed.{Written, decide, signed, high_first}
use Rattle.bdd.specs.Jobs.{digit}
use Rattle.bdd.specs.Pairs.{Job, Checked, Pair, pair, pairs_of, result, asked, undecided, decision, among, count}
use Rattle.bdd.specs.Lent.{Flip}
use Rattle.pair_run.specs.Held as held
use Rattle.pair_run.proofs.Laws.{result_below, count_room, added_stands, added_kept, added_only}
use Rattle.index_run.specs.Placing.{Fit, Output, Placement, Placing}
use Rattle.index_run.specs.declared.Placed.{Placed}
use Rattle.counting.proofs.Reaching.{Reach, by_step}
use Rattle.counting.proofs.Stack.{stacked, stacked_length, stacked_top, stacked_push}
use Rattle.tasks.proofs.Tasks.{Tasks}
use Rattle.tasks.proofs.Deciding.{decide_below}
use Rattle.tasks.proofs.Build.{Build, Answered, decided, held, Learns, top_waits, top_asks, child_asks, top_room, look_known, look_both, look_near, look_other, look_settled, look_longer}
use Rattle.tasks.proofs.Measure.{less_popped, less_pushed, less_settled}
use Rattle.pairs.proofs.Flips.{swapped}
use Rattle.pairs.proofs.Pairs.{nine, meaning_roots, reach_inside, pairs_fall, decision_most, decided_digit, pair_tasks, pairs_most}
use Rattle.step.specs.Step.{code, decoded, Small, Within, side}
use Rattle.step.proofs.Codes.{decoded_code, reach_within, reach_small}
use Rattle.build.specs.declared.State.{State}
use Rattle.build.specs.declared.Wanted.{Wanted}
use Rattle.build.specs.declared.Wanted.TheVariants.{Nothing, One, Two}
use Rattle.build.specs.declared.Seen.{Seen}
use Rattle.build.specs.declared.Seen.TheVariants.{Ready, Wants}
use Rattle.build.specs.Build.{Rooms}
use Rattle.build.specs.Looks.{Known, Replied, IsReady, Misses, MissesBoth, Lacks, Looked, Fits, Stacked, Settleable, Settling}
use Rattle.build.specs.Exploring.{top, Exploring, kept, looks, Advanced}
use Rattle.build.proofs.Kept.{known_kept, absent_kept, fewer}

-- a push
pub pushed_stack : (stack : List ℕ) (h h' : ℕ) (q : Pair) → Small q → h < length stack → h' ≡ h + 1
    → stacked decoded (set stack h (code q)) h' ≡ q ∷ stacked decoded stack h
pushed_stack stack h h' q small l e =
    stacked_push decoded stack h h' (code q) l (omega arith) ∙ ap (λ (r : Pair). r ∷ stacked decoded stack h) (decoded_code q small)

pushed_top : (stack : List ℕ) (h h' : ℕ) (q : Pair) → Small q → h < length stack → h' ≡ h + 1 → top (set stack h (code q)) h' ≡ q
pushed_top stack h h' q small l e =
    let k : h' - 1 ≡ h = omega arith in
    rw (k, get_or-set_same stack h (code q) 0 l) (decoded_code q small)

digit_cond : (b : Bool) → digit b ≡ cond b 1 0
digit_cond true = refl
digit_cond false = refl

module _ {j : Job} (c : Checked j) (out : Flip) (run : List ℕ) {p : Pair} (r : Reach (pairs_of j) p) where
  answered : (v : ℕ) → Replied j.table run p (Some v) → Answered (pair_tasks c out) (Known run) p v
  unfolding decision
  answered v (inr k) = held k
  answered v (inl (e, l)) =
      let d : undecided j p ≡ false = ne_eqb (decision j p) 2 (λ q. absurd (omega arith)) in
      subst (Answered (pair_tasks c out) (Known run) p)
      (sym (e ∙ decided_digit c p (reach_inside c r) d ∙ digit_cond (eqb (decision j p) 1))) (decided d)

  answer_below : (v : ℕ) → Replied j.table run p (Some v) → v < 2 ^ 16
  answer_below v (inl a) = omega (arith, a.1)
  answer_below v (inr k) = result_below k

  waiting : Replied j.table run p None → undecided j p ≡ true
  unfolding decision
  waiting m = eq-eqb (decision j p) 2 (omega (arith, m.0, decision_most c p (reach_inside c r)))

module _ {j : Job} {out : Flip} {most : ℕ} {was : Runs} {pairs stack index : List ℕ} {now : Runs} {s : State}
    (e : Exploring j out most was pairs stack index now s) (live : 0 < s.height) where
  abbrev n : ℕ
  n = options j.left

  abbrev height : ℕ
  height = s.height

  abbrev p : Pair
  p = top stack height

  abbrev t : Tasks high_first (pairs_of j)
  t = pair_tasks e.checked out

  -- the stack with its top in sight
  opened : Build t (Known pairs) (p ∷ stacked decoded stack (height - 1)) e.entries
  opened =
      subst (λ (ps : List Pair). Build t (Known pairs) ps e.entries) (stacked_top decoded stack height (height - 1) (omega arith)) e.built

  reached : Reach (pairs_of j) p
  reached = (top_waits t opened).reached

  undecided_top : undecided j p ≡ true
  undecided_top = (top_waits t opened).undecided

  pub look_safe : {q : Pair} → q ≡ p → (length j.table ≡ 9) × (Within j.left q.left × Within j.right q.right)
  look_safe same =
      (nine e.checked, subst (λ (q : Pair). Within j.left q.left × Within j.right q.right) (sym same) (reach_within e.checked reached))

  -- room for two more
  top_fits : height + 2 ≤ 2 * n + 1
  top_fits = omega (arith, top_room t opened, stacked_length decoded stack (height - 1))

  top_below : held.Absent pairs p.left p.right → held.count pairs < count j
  top_below a =
      fewer j (pairs_fall e.checked) e.memo (λ q v k. (opened.known_waits q v k).reached) (λ q v k. (opened.known_waits q v k).undecided)
      reached undecided_top a

  side_reached : (b : Bool) → Reach (pairs_of j) (side j out b p)
  side_reached b = by_step reached undecided_top (swapped out (asked j p) b)

  side_small : (b : Bool) {q : Pair} → q ≡ side j out b p → Small q
  side_small b same = subst Small (sym same) (reach_small e.checked (side_reached b))

  -- another stack, and nothing else
  restacked : {ps : List Pair} (stack' : List ℕ) (height' : ℕ) → stacked decoded stack' height' ≡ ps
      → Build t (Known pairs) ps e.entries → looks j pairs stack' height' < looks j pairs stack height
      → Advanced j out most was (looks j pairs stack height) pairs stack' index now (record { height = height'; next = s.next; count = s.count })
  restacked stack' height' q b l =
      record {
        state = record { checked = e.checked; memo = e.memo; number = e.number; entries = e.entries; built = rw q b; written = e.written };
        less = l;
      }

  -- the look found the top in the pair run: it is popped
  popped : (v : ℕ) → Known pairs p v
      → Advanced j out most was (looks j pairs stack height) pairs stack index now (record { height = height - 1; next = s.next; count = s.count })
  popped v k =
      restacked stack (height - 1) refl (look_known t opened v k)
      (rw (known_kept pairs j p v k)
      (less_popped n (count j) (held.count pairs) height (height - 1) (asked j p) (asked j (top stack (height - 1)))
      (among (pairs_of j) (top stack (height - 1)) (kept pairs)) (omega arith)))

  module _ (absent : held.Absent pairs p.left p.right) where
    -- a child that needs a look is on top of the stack now
    fewer_looks : (b : Bool) (stack' : List ℕ) (height' : ℕ) → top stack' height' ≡ side j out b p
        → Replied j.table pairs (side j out b p) None → looks j pairs stack' height' < looks j pairs stack height
    unfolding pair_tasks
    fewer_looks b stack' height' q r =
        rw (q, absent_kept pairs j p absent, absent_kept pairs j (side j out b p) r.1)
        (less_pushed n (count j) (held.count pairs) height height' (asked j p) (asked j (side j out b p)) (top_asks t opened) (child_asks t opened b))

    one_pushed : (b : Bool) (q : Pair) → Misses j out pairs p b q
        → Build t (Known pairs) (side j out b p ∷ p ∷ stacked decoded stack (height - 1)) e.entries
    unfolding pair_tasks
    one_pushed true q m =
        look_near t opened m.number (answered e.checked out pairs (side_reached false) m.number m.replied)
        (waiting e.checked out pairs (side_reached true) m.misses)
    one_pushed false q m =
        look_other t opened m.number (answered e.checked out pairs (side_reached true) m.number m.replied)
        (waiting e.checked out pairs (side_reached false) m.misses)

    -- one child goes on top
    one_more : (b : Bool) (q : Pair) → Misses j out pairs p b q → height < length stack
        → Advanced j out most was (looks j pairs stack height) pairs (set stack height (code q)) index now (record { height = height + 1; next = s.next; count = s.count })
    one_more b q m l =
        let small = side_small b m.same in
        restacked (set stack height (code q)) (height + 1)
        (pushed_stack stack height (height + 1) q small l refl
        ∙ ap₂ (λ (r : Pair) (rs : List Pair). r ∷ rs) m.same (stacked_top decoded stack height (height - 1) (omega arith)))
        (one_pushed b q m)
        (fewer_looks b (set stack height (code q)) (height + 1) (pushed_top stack height (height + 1) q small l refl ∙ m.same) m.misses)

    -- both children go on top, the one that becomes high last
    two_more : (near other : Pair) → MissesBoth j out pairs p near other → height + 1 < length stack
        → Advanced j out most was (looks j pairs stack height) pairs (set (set stack height (code other)) (height + 1) (code near)) index now
        (record { height = height + 2; next = s.next; count = s.count })
    unfolding pair_tasks
    two_more near other m l =
        let small = side_small true m.same_near in
        let small' = side_small false m.same_other in
        let first : List ℕ = set stack height (code other) in
        let room : height + 1 < length first = lt-length-set stack height (code other) l in
        restacked (set first (height + 1) (code near)) (height + 2)
        (pushed_stack first (height + 1) (height + 2) near small room (omega arith)
        ∙ ap₂ (λ (r : Pair) (rs : List Pair). r ∷ rs) m.same_near
        (pushed_stack stack height (height + 1) other small' (omega arith) refl
        ∙ ap₂ (λ (r : Pair) (rs : List Pair). r ∷ rs) m.same_other (stacked_top decoded stack height (height - 1) (omega arith))))
        (look_both t opened (waiting e.checked out pairs (side_reached true) m.misses_near) (waiting e.checked out pairs (side_reached false) m.misses_other))
        (fewer_looks true (set first (height + 1) (code near)) (height + 2)
        (pushed_top first (height + 1) (height + 2) near small room (omega arith) ∙ m.same_near) m.misses_near)

  -- one pair more can be counted
  pub count_fits : s.count + 1 < 2 ^ 33
  count_fits = omega (arith, e.number, count_room pairs e.memo)

  -- what the calls ask of the runs
  module _ (rooms : Rooms j most now pairs stack index) where
    pub room_two : height + 1 < length stack
    room_two = omega (arith, top_fits, rooms.stack_fits)

    pub settle_safe : ((most ≤ most_entries) × (2 ≤ s.next) × (s.next ≤ max 2 most) × (most ≤ length index)) × Fit now most
    settle_safe = ((rooms.few, omega (arith, e.written.next_is), e.written.fits, rooms.index_fits), rooms.output_fits)

  -- q is what the code has for the top, a what it saw there
  module _ {q : Pair} (same : q ≡ p) (a : Seen) (looked : held.Searchable pairs → Looked j out pairs q a) where
    seen_as : (b : Seen) → a ≡ b → Looked j out pairs p b
    seen_as b z =
        subst (λ (b : Seen). Looked j out pairs p b) z (subst (λ (q : Pair). Looked j out pairs q a) same (looked e.memo))

    -- what is wanted may go on the stack
    pub wanted_fits : (w : Wanted) → a ≡ Wants w → Fits w
    wanted_fits w z = at w (seen_as (Wants w) z)
      where
        at : (w : Wanted) → Lacks j out pairs p w → Fits w
        at Nothing k = omega arith
        at (One r) m = ⊎_elim (λ k. side_small true k.same) (λ k. side_small false k.same) m
        at (Two near other) m = (side_small true m.same_near, side_small false m.same_other)

    pub turn_wanted : (w : Wanted) → a ≡ Wants w → {stack' : List ℕ} {height' : ℕ} → Stacked stack height w stack' height'
        → height + 1 < length stack
        → Advanced j out most was (looks j pairs stack height) pairs stack' index now (record { height = height'; next = s.next; count = s.count })
    turn_wanted w z {stack'} {height'} o l = at w (seen_as (Wants w) z) o
      where
        at : (w : Wanted) → Lacks j out pairs p w → Stacked stack height w stack' height'
            → Advanced j out most was (looks j pairs stack height) pairs stack' index now (record { height = height'; next = s.next; count = s.count })
        at Nothing k o = rw (o.0, o.1) (popped k.0 k.1)
        at (One r) m o =
            rw (o.0, o.1) (⊎_elim (λ k. one_more k.absent true r k (omega arith)) (λ k. one_more k.absent false r k (omega arith)) m)
        at (Two near other) m o = rw (o.0, o.1) (two_more m.absent near other m l)

    -- both children have their answers: the entry is placed, and the pair is known
    module _ (rooms : Rooms j most now pairs stack index) (ask x y : ℕ) (z : a ≡ Ready ask x y) (index' : List ℕ) (now' : Runs) (pairs' : List ℕ) (b : Placement)
        (placing : (was : Runs) (es : List Entry) → Output most was index now s.next es
        → Placing most was es (decide high_first ask x y es) index' now' s.next b)
        (settling : Settleable pairs q s.count → Settling pairs pairs' q b) where
      r : IsReady j out pairs p ask x y
      r = seen_as (Ready ask x y) z

      settled : Settling pairs pairs' p b
      settled =
          subst (λ (q : Pair). Settleable pairs q s.count → Settling pairs pairs' q b) same settling
          (record {
            sound = e.memo;
            number = e.number;
            absent = r.absent;
            free = omega (arith, top_below r.absent, rooms.pairs_fit, pairs_most e.checked);
            small = reach_small e.checked reached;
          })

      abbrev w : Written
      w = decide high_first ask x y e.entries

      near_is : Answered t (Known pairs) (side j out true p) x
      near_is = answered e.checked out pairs (side_reached true) x r.near

      other_is : Answered t (Known pairs) (side j out false p) y
      other_is = answered e.checked out pairs (side_reached false) y r.other

      w_is : decide high_first (asked j p) x y e.entries ≡ w
      w_is = ap (λ (k : ℕ). decide high_first k x y e.entries) (sym r.asks)

      placed_as : (c : Placement) → b ≡ c → Placing most was e.entries w index' now' s.next c
      placed_as c z = subst (Placing most was e.entries w index' now' s.next) z (placing was e.entries e.written)

      -- the pair is known with its number, and popped
      pub turn_settled : (it : Placed) → b ≡ Some it
          → Advanced j out most was (looks j pairs stack height) pairs' stack index' now' (record { height = height - 1; next = it.behind; count = s.count + 1 })
      unfolding pair_tasks
      turn_settled it z =
          let v = it.number in
          let o = placed_as (Some it) z in
          let few : v < 2 ^ 16 =
          omega (arith, o.1, decide_below high_first ask x y e.entries (2 ^ 16) (answer_below e.checked out pairs (side_reached true) x r.near) (answer_below e.checked out pairs (side_reached false) y r.other) (omega (arith, e.written.next_is, e.written.fits, rooms.few))) in
          let added : held.Added pairs pairs' p.left p.right v = subst (Settling pairs pairs' p) z settled few in
          let learns : Learns (Known pairs) (Known pairs') p w.at =
          record {
            new = subst (Known pairs' p) o.1 (added_stands added);
            kept = λ q u h. added_kept added q.left q.right u h;
            only = λ q u h.
                ⊎_elim (λ c. inr ((λ i. pair (c.0 i) (c.1 i)), c.2 ∙ o.1)) (λ k. inl k) (added_only added q.left q.right u h);
          } in
          record {
            state = record {
              checked = e.checked;
              memo = added.sound;
              number = omega (arith, added.counted, e.number);
              entries = w.entries;
              built = look_settled t opened x y w near_is other_is w_is (Known pairs') learns;
              written = o.0;
            };
            less =
                less_settled n (count j) (held.count pairs) (held.count pairs') height (height - 1) (asked j p) (asked j (top stack (height - 1)))
                (among (pairs_of j) p (kept pairs)) (among (pairs_of j) (top stack (height - 1)) (kept pairs')) (omega (arith, added.counted))
                (top_below r.absent) (omega (arith, top_fits));
          }

      -- one entry more would be too long
      pub turn_long : b ≡ None → most < length (signed high_first n (result j out))
      unfolding pair_tasks
      turn_long z =
          let o = placed_as None z in
          let long : 3 + length e.entries ≤ length (signed high_first n (result j out)) =
          rw (meaning_roots j out) at (look_longer t opened x y w near_is other_is w_is o.0) in
          omega (arith, e.written.next_is, o.1)
