-- One turn of the loop, by what the look at its entry found: each case keeps the invariant and leaves fewer looks.
use Rattle.std.specs.Prelude.{None, Some}
use Rattle.std.proofs.Common.{◌≡◌, ℕ, zero, suc, ◌+◌, ◌-◌, ◌*◌, ◌%◌, ◌^◌, ◌<◌, ◌≤◌, min, max, Bool, true, false, cond, not, eqb, List, [], ◌∷◌, length, get_or, drop, set, sym, refl, ap, ◌∙◌, subst, inl, inr, ⊎_elim, arith, length-append, length-set, get_or-set_other, get_or-set_same, eq-eqb, ne_eqb}
use mathlib.Core.Option.{Option, none, some}
use native.Mathlib.Decide.{ℕ_discrete}
use Rattle.bdd.specs.Bounds.{most_entries}
use Rattle.bdd.specs.Array.{Entry, Runs, entry, options, var_of}
use Rattle.bdd.specs.Signed.{Written, written, find, found_or_added, add, decide, signed, low_first}
use Rattle.bdd.specs.Pairs.{Exploration, undecided_in}
use Rattle.bdd.proofs.Logic.{le_or_lt}
use Rattle.bdd.proofs.Ordered.{ordered_open}
use Rattle.bdd.proofs.Written.{find_some, decide_grows}
use Rattle.bdd.specs.declared.BddNode.{BddNode}
use Rattle.index_run.specs.Placing.{Fit, Output, Placing, Placement}
use Rattle.index_run.specs.declared.Placed.{Placed}
use Rattle.counting.proofs.Reaching.{Reach, by_step}
use Rattle.counting.proofs.Stack.{stacked_length, stacked_push}
use Rattle.tasks.proofs.Tasks.{Tasks}
use Rattle.tasks.proofs.Build.{Build, Answered, decided, held, Learns, top_waits, top_asks, child_asks, top_room, look_known, look_first, look_other, look_settled, look_longer}
use Rattle.tasks.proofs.Measure.{less_popped, less_pushed, less_settled}
use Rattle.restriction.specs.Entries.{followed, entries_of, entry_tasks, meaning_root, undecided_least, reach_within, reach_inner}
use Rattle.restriction.specs.Exploring.{Rooms, restricted_value, Known, Replied, Sighted, IsReady, WantsLow, WantsHigh, Looked, Settling, itself, below, undone, popped, Exploring, marked, looks, Advanced}
use Rattle.restriction.specs.declared.exploration.Seen.TheVariants as seen
use Rattle.restriction.specs.declared.exploration.State.{State}

-- a place that is 0 is one that is not marked
marked_most : (xs : List ℕ) → marked xs ≤ length xs
unfolding marked
marked_most [] = omega arith
marked_most (x ∷ xs) = at (eqb x 0) (marked_most xs)
  where
    at : (t : Bool) → marked xs ≤ length xs → cond t (marked xs) (suc (marked xs)) ≤ suc (length xs)
    at true l = omega arith
    at false l = omega arith

marked_below : (xs : List ℕ) (i : ℕ) → i < length xs → get_or xs i 0 ≡ 0 → marked xs < length xs
unfolding marked
marked_below [] i l e = absurd (omega arith)
marked_below (x ∷ xs) zero l e = rw (eq-eqb x 0 e) (omega (arith, marked_most xs))
marked_below (x ∷ xs) (suc i) l e = at (eqb x 0) (marked_below xs i (omega arith) e)
  where
    at : (t : Bool) → marked xs < length xs → cond t (marked xs) (suc (marked xs)) < suc (length xs)
    at true l = omega arith
    at false l = omega arith

marked_more : (xs : List ℕ) (i v : ℕ) → i < length xs → get_or xs i 0 ≡ 0 → (v ≡ 0 → ⊥) → marked xs < marked (set xs i v)
unfolding marked
marked_more [] i v l e n = absurd (omega arith)
marked_more (x ∷ xs) zero v l e n = rw (eq-eqb x 0 e, ne_eqb v 0 n) (omega arith)
marked_more (x ∷ xs) (suc i) v l e n = at (eqb x 0) (marked_more xs i v (omega arith) e n)
  where
    at : (t : Bool) → marked xs < marked (set xs i v) → cond t (marked xs) (suc (marked xs)) < cond t (marked (set xs i v)) (suc (marked (set xs i v)))
    at true l = l
    at false l = omega arith

-- what is decided between entries that stand has a number that stands
decide_inside : (first : Bool) (k x y : ℕ) (es : List Entry) → x < 2 + length es
    → (decide first k x y es).at < 2 + length (decide first k x y es).entries
unfolding decide add
decide_inside first k x y es l = at (eqb x y)
  where
    e : Entry
    e = entry k (cond first y x) (cond first x y)

    by : (f : Option ℕ) → find e 2 es ≡ f → (found_or_added e es f).at < 2 + length (found_or_added e es f).entries
    by none q = omega (arith, length-append es (e ∷ []))
    by (some p) q = let r = find_some e 2 p es q in omega (arith, r.1, r.2)

    at : (t : Bool) → (cond t (written es x) (add e es)).at < 2 + length (cond t (written es x) (add e es)).entries
    at true = l
    at false = by (find e 2 es) refl

decide_longer : (first : Bool) (k x y : ℕ) (es : List Entry) → length es ≤ length (decide first k x y es).entries
decide_longer first k x y es =
    let g = decide_grows first k x y es in
    omega (arith, ap length g.path, length-append es g.more)

pub digit_of : (i : ℕ) → i < 2 → cond (eqb (min i 2) 1) 1 0 ≡ i
digit_of zero l = refl
digit_of (suc zero) l = refl
digit_of (suc (suc i)) l = absurd (omega arith)

-- what is not done, once an entry is done with, and once another goes before it
undone_top : (top : ℕ) (stack : List ℕ) (h k : ℕ) → h ≡ suc k → undone top stack h ≡ top ∷ below stack k
undone_top top stack h k e = rw e

pub undone_popped : (stack : List ℕ) (h : ℕ) → undone (get_or stack h 0) stack h ≡ below stack h
undone_popped stack zero = refl
undone_popped [] (suc h) = refl
undone_popped (x ∷ xs) (suc h) = refl

undone_pushed : (q top : ℕ) (stack : List ℕ) (h k : ℕ) → h ≡ suc k → h < length stack → undone q (set stack h top) (h + 1) ≡ q ∷ top ∷ below stack k
undone_pushed q top [] h k e l = absurd (omega arith)
undone_pushed q top (x ∷ xs) h k e l =
    undone_top q (set (x ∷ xs) h top) (h + 1) h (omega arith)
    ∙ ap (λ (ps : List ℕ). q ∷ ps) (rw e (stacked_push itself xs k (suc k) top (omega arith) refl))

-- an entry that is not known is not held
not_held : {k : ℕ} → k ≡ 0 → not (eqb k 0) ≡ false
not_held e = rw e

is_held : (k v : ℕ) → k ≡ v + 1 → not (eqb k 0) ≡ true
is_held k v e = ap not (ne_eqb k 0 (λ z. absurd (omega arith)))

module _ {a : Runs} {values : List ℕ} {most : ℕ} {was : Runs} {stack index map : List ℕ} {now : Runs} {s : State}
    (e : Exploring a values most was stack index map now s) (live : 0 < s.height) where
  abbrev n : ℕ
  n = options a

  abbrev height : ℕ
  height = s.height

  abbrev i : ℕ
  i = s.top

  abbrev x : Exploration ℕ
  x = entries_of a values

  abbrev t : Tasks low_first x
  t = entry_tasks a values e.checked.ordered

  -- what is not done, with its first in sight
  opened : Build t (Known map) (i ∷ below stack (height - 1)) e.entries
  opened =
      subst (λ (ps : List ℕ). Build t (Known map) ps e.entries) (undone_top i stack height (height - 1) (omega arith)) e.built

  reached : Reach x i
  reached = (top_waits t opened).reached

  undecided_top : undecided_in x i ≡ true
  undecided_top = (top_waits t opened).undecided

  side_reached : (b : Bool) → Reach x (followed a values b i)
  side_reached b = by_step reached undecided_top b

  -- room for two more
  top_fits : height + 2 ≤ 2 * n + 1
  top_fits = omega (arith, top_room t opened, stacked_length itself (drop 1 stack) (height - 1))

  -- what the calls ask of the runs
  module _ (rooms : Rooms a most now stack index map) where
    pub room_top : height < length stack
    room_top = omega (arith, top_fits, rooms.stack_fits)

    mapped : {j : ℕ} → Reach x j → j < length map
    mapped r = omega (arith, reach_within a values e.checked.ordered r, rooms.map_fits)

    pub sighted : Sighted a values map i
    sighted =
        let o = (ordered_open a e.checked.ordered).layered in
        let l = reach_within a values e.checked.ordered reached in
        record {
          within =
              record {
                variable = l;
                low = omega (arith, o.low_length);
                high = omega (arith, o.high_length);
                option = omega (arith, (reach_inner a values e.checked.ordered reached undecided_top).variable, e.checked.values_fit);
              };
          mapped = mapped reached;
          low = mapped (side_reached false);
          high = mapped (side_reached true);
        }

    pub settle_safe : ((most ≤ most_entries) × (2 ≤ s.next) × (s.next ≤ max 2 most) × (most ≤ length index)) × (Fit now most × (i < length map))
    settle_safe = ((rooms.few, omega (arith, e.written.next_is), e.written.fits, rooms.index_fits), (rooms.output_fits, mapped reached))

  two_top : 2 ≤ i
  two_top = undecided_least a values e.checked.ordered i undecided_top

  answered : {j : ℕ} → Reach x j → (v : ℕ) → Replied map j (Some v) → Answered t (Known map) j v
  answered {j} r v k =
      elim (le_or_lt 2 j) [
        | inl two ↦ held (two, k)
        | inr l ↦
            let q : j ≡ v = omega (arith, e.terminals j l) in
            subst (Answered t (Known map) j) (digit_of j l ∙ q) (decided (ne_eqb (min j 2) 2 (λ z. absurd (omega arith))))
      ]

  waiting : (j : ℕ) → Replied map j None → undecided_in x j ≡ true
  waiting j m =
      elim (le_or_lt 2 j) [
        | inl two ↦ eq-eqb (min j 2) 2 (omega arith)
        | inr l ↦ absurd (omega (arith, e.terminals j l))
      ]

  -- other entries that are not done, and nothing else
  restacked : {ps : List ℕ} (stack' : List ℕ) (top' height' : ℕ) → undone top' stack' height' ≡ ps
      → Build t (Known map) ps e.entries → looks a map (record { top = top'; height = height'; next = s.next }) < looks a map s
      → Advanced a values most was (looks a map s) stack' index map now (record { top = top'; height = height'; next = s.next })
  restacked stack' top' height' q b l =
      record {
        state =
            record {
              checked = e.checked;
              entries = e.entries;
              built = rw q b;
              written = e.written;
              terminals = e.terminals;
              numbers = e.numbers;
            };
        less = l;
      }

  -- the look found the entry finished: it is done with
  pub turn_popped : (get_or map i 0 ≡ 0 → ⊥) → Advanced a values most was (looks a map s) stack index map now (popped stack height s.next)
  turn_popped h =
      let v = get_or map i 0 - 1 in
      let k : get_or map i 0 ≡ v + 1 = omega arith in
      let top' = get_or stack (height - 1) 0 in
      restacked stack top' (height - 1) (undone_popped stack (height - 1)) (look_known t opened v (two_top, k))
      (rw (is_held (get_or map i 0) v k)
      (less_popped n (length map) (marked map) height (height - 1) (var_of a i) (var_of a top') (not (eqb (get_or map top' 0) 0)) (omega arith)))

  -- a link that needs a look goes before it
  module _ (absent : get_or map i 0 ≡ 0) (room : height < length stack) where
    pushed : (b : Bool) {q : ℕ} → q ≡ followed a values b i → Replied map (followed a values b i) None
        → Build t (Known map) (followed a values b i ∷ i ∷ below stack (height - 1)) e.entries
        → Advanced a values most was (looks a map s) (set stack height i) index map now (record { top = q; height = height + 1; next = s.next })
    unfolding entry_tasks
    pushed b {q} same m built =
        restacked (set stack height i) q (height + 1)
        (undone_pushed q i stack height (height - 1) (omega arith) room ∙ ap (λ (r : ℕ). r ∷ i ∷ below stack (height - 1)) same)
        built
        (rw (same, not_held absent, not_held m)
        (less_pushed n (length map) (marked map) height (height + 1) (var_of a i) (var_of a (followed a values b i)) (top_asks t opened) (child_asks t opened b)))

    wants_low : {q : ℕ} → WantsLow a values map i q
        → Advanced a values most was (looks a map s) (set stack height i) index map now (record { top = q; height = height + 1; next = s.next })
    unfolding entry_tasks
    wants_low w = pushed false w.same w.misses (look_first t opened (waiting (followed a values false i) w.misses))

    wants_high : {q : ℕ} → WantsHigh a values map i q
        → Advanced a values most was (looks a map s) (set stack height i) index map now (record { top = q; height = height + 1; next = s.next })
    unfolding entry_tasks
    wants_high w =
        pushed true w.same w.misses
        (look_other t opened w.number (answered (side_reached false) w.number w.low) (waiting (followed a values true i) w.misses))

  pub turn_wants : {q : ℕ} → Looked a values map i (seen.Wants q) → height < length stack
      → Advanced a values most was (looks a map s) (set stack height i) index map now (record { top = q; height = height + 1; next = s.next })
  turn_wants l room = ⊎_elim (λ w. wants_low w.absent room w) (λ w. wants_high w.absent room w) l

  -- both links have their answers: the entry is placed, and the top is known
  module _ (rooms : Rooms a most now stack index map) (d : BddNode) (r : IsReady a values map i d) (index' : List ℕ) (now' : Runs) (map' : List ℕ) (b : Placement)
      (placing : (was : Runs) (es : List Entry) → Output most was index now s.next es
      → Placing most was es (decide low_first d.variable d.low d.high es) index' now' s.next b)
      (settling : Settling map map' i b) where
    abbrev ask : ℕ
    ask = d.variable

    abbrev y : ℕ
    y = d.low

    abbrev z : ℕ
    z = d.high

    abbrev w : Written
    w = decide low_first ask y z e.entries

    near_is : Answered t (Known map) (followed a values false i) y
    near_is = answered (side_reached false) y r.low

    other_is : Answered t (Known map) (followed a values true i) z
    other_is = answered (side_reached true) z r.high

    w_is : decide low_first (var_of a i) y z e.entries ≡ w
    w_is = ap (λ (k : ℕ). decide low_first k y z e.entries) (sym r.asks)

    placed_as : (c : Placement) → b ≡ c → Placing most was e.entries w index' now' s.next c
    placed_as c q = subst (Placing most was e.entries w index' now' s.next) q (placing was e.entries e.written)

    -- a number that stands, of the low side
    low_inside : y < 2 + length e.entries
    low_inside = omega (arith, r.low, e.numbers (followed a values false i), e.written.next_is)

    module _ (p : Placed) (b-is : b ≡ Some p) where
      abbrev v : ℕ
      v = p.number

      abbrev behind : ℕ
      behind = p.behind

      o : Output most was index' now' behind w.entries × (v ≡ w.at)
      o = placed_as (Some p) b-is

      inside : v < behind
      inside = omega (arith, o.1, o.0.next_is, decide_inside low_first ask y z e.entries low_inside)

      few : behind ≤ most_entries
      few = omega (arith, o.0.fits, rooms.few)

      map_is : map' ≡ set map i (v + 1)
      map_is =
          let wraps : (v + 1) % 2 ^ 32 ≡ v + 1 = omega (arith, inside, few) in
          subst (Settling map map' i) b-is settling ∙ ap (set map i) wraps

      at_top : i < length map
      at_top = (settle_safe rooms).1.1

      here : get_or map' i 0 ≡ v + 1
      here = rw map_is (get_or-set_same map i (v + 1) 0 at_top)

      there : (j : ℕ) → (j ≡ i → ⊥) → get_or map' j 0 ≡ get_or map j 0
      there j ne = rw map_is (get_or-set_other map i j (v + 1) 0 ne)

      learns : Learns (Known map) (Known map') i w.at
      learns =
          record {
            new = (two_top, here ∙ ap (λ (k : ℕ). k + 1) o.1);
            kept = λ j u h.
                elim (ℕ_discrete j i) [
                  | yes q ↦ absurd (omega (arith, h.1, r.absent, ap (λ (k : ℕ). get_or map k 0) q))
                  | no q ↦ (h.0, there j q ∙ h.1)
                ];
            only = λ j u h.
                elim (ℕ_discrete j i) [
                  | yes q ↦ inr (q, omega (arith, h.1, here, ap (λ (k : ℕ). get_or map' k 0) q, o.1))
                  | no q ↦ inl (h.0, sym (there j q) ∙ h.1)
                ];
          }

      terminals : (j : ℕ) → j < 2 → get_or map' j 0 ≡ j + 1
      terminals j l = there j (λ q. absurd (omega (arith, two_top))) ∙ e.terminals j l

      numbers : (j : ℕ) → get_or map' j 0 ≤ behind
      numbers j =
          elim (ℕ_discrete j i) [
            | yes q ↦ omega (arith, here, inside, ap (λ (k : ℕ). get_or map' k 0) q)
            | no q ↦ omega (arith, there j q, e.numbers j, e.written.next_is, o.0.next_is, decide_longer low_first ask y z e.entries)
          ]

      less : looks a map' (popped stack height behind) < looks a map s
      less =
          let same : length map' ≡ length map = ap length map_is ∙ length-set map i (v + 1) in
          let more : marked map < marked map' = rw map_is (marked_more map i (v + 1) at_top r.absent (λ q. absurd (omega arith))) in
          let top' = get_or stack (height - 1) 0 in
          rw same
          (less_settled n (length map) (marked map) (marked map') height (height - 1) (var_of a i) (var_of a top')
          (not (eqb (get_or map i 0) 0)) (not (eqb (get_or map' top' 0) 0)) more (marked_below map i at_top r.absent) (omega (arith, top_fits)))

      -- the entry is known with its number, and done with
      pub turn_settled : Advanced a values most was (looks a map s) stack index' map' now' (popped stack height behind)
      unfolding entry_tasks
      turn_settled =
          record {
            state =
                record {
                  checked = e.checked;
                  entries = w.entries;
                  built = rw (undone_popped stack (height - 1)) (look_settled t opened y z w near_is other_is w_is (Known map') learns);
                  written = o.0;
                  terminals = terminals;
                  numbers = numbers;
                };
            less = less;
          }

    -- one entry more would be too long
    pub turn_long : b ≡ None → most < length (signed low_first n (restricted_value a values))
    unfolding entry_tasks
    turn_long q =
        let c = placed_as None q in
        let long : 3 + length e.entries ≤ length (signed low_first n (restricted_value a values)) =
        rw (meaning_root a values e.checked.ordered) at (look_longer t opened y z w near_is other_is w_is c.0) in
        omega (arith, e.written.next_is, c.1)
