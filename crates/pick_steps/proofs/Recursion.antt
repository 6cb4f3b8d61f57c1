-- `var_pick` and the recursion over the options: what their calls ask for, and that what they answer is what the steps come to.
use Rattle.std.specs.Prelude.{Err, None, Ok, Some, Option, ℕ}
use Prim.Native.Nat.{ℕ, suc, ◌+◌, ◌*◌, ◌≤◌}
use mathlib.Core.Path.{◌≡◌, refl, sym, ap, ◌∙◌, subst}
use mathlib.Core.Bool.{false}
use mathlib.Core.List.{List, [], ◌∷◌}
use native.Mathlib.Omega.{arith}
use native.Mathlib.Nat.{le_refl, mul-le-mul, suc-mul, suc-add}
use lib.ListN.{length, length-map}
use Rattle.bdd.specs.Array.{Entry, Runs, laid, entries_of}
use Rattle.bdd.specs.Pairs.{job, room}
use Rattle.bdd.specs.Operations.{Working}
use Rattle.bdd.specs.Lent.{Answer}
use Rattle.bdd.specs.declared.Refusal.{Refusal}
use Rattle.bdd.proofs.Ordered.{even_of}
use Rattle.bdd.proofs.Negation.{laid_entries}
use Rattle.operators.specs.Numbered.{numbered}
use Rattle.relation_ops.specs.Relations.{selection}
use Rattle.relation_ops.specs.Picking.{Outcome, followed_by, step, copy_checks, relation_step, operator_step, var_pick_steps, pick_steps}
use Rattle.relation_ops.proofs.Steps.{Alike, exists_step, var_pick_alike, pick_alike}
use Rattle.marks.specs.Marking.{first_of, without}
use Rattle.marks.proofs.Those.{first_and_rest, nothing_left}
use Rattle.slots.specs.Slots.{set_at, part, Below, Whole, Slots, Leaves}
use Rattle.slots.specs.declared.Place.{Place}
use Rattle.slots.specs.declared.Place.TheVariants.{Slot}
use Rattle.slots.proofs.Leaving.{LongAs, same_room, set_stays, slot_stands, same_operator, lower, Finished, finished, then_leaves, refused_then}
use Rattle.pick_steps.specs.Sequences.{joined_steps, Joins, Ready}

-- ---- slots

pub fewer_slots : (j k W t : ℕ) (spare left : Runs) → j ≤ k → LongAs spare left → Slots k W t spare → Slots j W t left
fewer_slots j k W t spare left l m slots =
    let p : j * W ≤ k * W = mul-le-mul l (le_refl W) in
    record { variable = omega (arith, slots.variable, m.variable); low = omega (arith, slots.low, m.low); high = omega (arith, slots.high, m.high) }

pub as_long : (spare : Runs) → LongAs spare spare
as_long spare = record { variable = refl; low = refl; high = refl }

pub alike_through : {w u x : Working} → Alike u w → Alike x u → Alike x w
alike_through a b = record { pairs = b.pairs ∙ a.pairs; stack = b.stack ∙ a.stack; index = b.index ∙ a.index }

next_slots : (k W t : ℕ) (spare left : Runs) → LongAs spare left → Slots (suc k + 2) W t spare → Slots (k + 2) W (t + W) left
next_slots k W t spare left m slots =
    let p : (suc k + 2) * W ≡ (k + 2) * W + W = ap (λ (x : ℕ). x * W) (suc-add k 2) ∙ suc-mul (k + 2) W in
    record { variable = omega (arith, p, slots.variable, m.variable); low = omega (arith, p, slots.low, m.low); high = omega (arith, p, slots.high, m.high) }

-- ---- `var_pick`

-- the two steps of `var_pick`
pub var_pick_then : (w u : Working) (p : Place) (v : ℕ) {t s : ℕ} (given was mid now spare half left : Runs) {r q : Answer} → Below p t → Alike u w → LongAs was mid
    → Leaves (relation_step w (room was) (selection (set_at p given spare) v false)) t was mid spare half r → r ≡ Ok s
    → Leaves (operator_step u (room mid) (job (set_at p given half) (set_at (Slot t s) given half) (numbered 4) None (Some v))) t mid now half left q
    → Leaves (var_pick_steps w (room was) (set_at p given spare) v) t was now spare left q
var_pick_then w u p v {t} {s} given was mid now spare half left below-p alike long l e m =
    let a = set_at p given spare in
    let first = finished l e in
    then_leaves (λ off. operator_step w (room was) (job a (laid off) (numbered 4) None (Some v))) first (omega arith) (same_room was mid long)
    (same_operator (numbered 4) (Some v) alike (same_room was mid long) (set_stays p given spare half below-p first.holds.before) (slot_stands given first.size first.holds))
    m

-- ---- the join

pub join_then : (w u : Working) (p : Place) (v : ℕ) {W s one t : ℕ} (given was mid now spare half left : Runs) {r q : Answer}
    → Joins p W s t was spare → Alike u w → LongAs was mid
    → Leaves (var_pick_steps w (room was) (set_at p given spare) v) (t + W + W) was mid spare half r → r ≡ Ok one
    → Leaves (operator_step u (room mid) (job (set_at (Slot (t + W) s) given half) (set_at (Slot (t + W + W) one) given half) (numbered 8) None None)) t mid now half left q
    → Leaves (joined_steps w (room was) (set_at p given spare) v (part (t + W) s spare)) t was now spare left q
join_then w u p v {W} {s} {one} {t} given was mid now spare half left joins alike long l e m =
    let f = finished l e in
    let fits = joins.fits in
    let rest : set_at (Slot (t + W) s) given half ≡ part (t + W) s spare =
    set_stays {t = t + W + W} (Slot (t + W) s) given spare half (omega arith) f.holds.before in
    then_leaves (λ es. operator_step w (room was) (job (part (t + W) s spare) (laid es) (numbered 8) None None)) f (omega arith) (same_room was mid long)
    (same_operator (numbered 8) None alike (same_room was mid long) rest (slot_stands given f.size f.holds))
    m

-- ---- the recursion

pub greatest_so : {r : (Option ℕ)} {os : List ℕ} {v : ℕ} → r ≡ first_of os → r ≡ Some v → os ≡ v ∷ without v os
greatest_so {r} {os} {v} e f = first_and_rest v os (sym e ∙ f)

pub others_so : {r : (Option ℕ)} {os vs : List ℕ} {v : ℕ} → r ≡ first_of os → r ≡ Some v → vs ≡ without v os → os ≡ v ∷ vs
others_so {r} {os} {vs} {v} e f g = greatest_so e f ∙ ap (λ (xs : List ℕ). v ∷ xs) (sym g)

pub nothing_so : {r : (Option ℕ)} {os : List ℕ} → r ≡ first_of os → r ≡ None → os ≡ []
nothing_so {r} {os} e f = nothing_left os (sym e ∙ f)

pub nothing_picked : (w : Working) (os : List ℕ) (a : Runs) {t : ℕ} {was now spare left : Runs} {r : Answer} → os ≡ []
    → Leaves (step (room was) copy_checks (entries_of a)) t was now spare left r → Leaves (pick_steps w (room was) os a) t was now spare left r
unfolding pick_steps
nothing_picked w os a e l = rw e l

laid_whole : (es : List Entry) → Whole (laid es)
laid_whole es =
    laid_entries (laid es)
    (even_of (laid es) (length-map es (λ (x : Entry). x.low) ∙ sym (length-map es (λ (x : Entry). x.variable)))
    (length-map es (λ (x : Entry). x.high) ∙ sym (length-map es (λ (x : Entry). x.variable))))

module _ (w : Working) (W : ℕ) (a : Runs) (v : ℕ) where
  -- what follows where the rest is picked
  abbrev then_join : List Entry → Outcome
  then_join rest = followed_by (var_pick_steps w W a v) (λ one. operator_step w W (job (laid rest) (laid one) (numbered 8) None None))

  -- where the greatest is quantified away
  abbrev then_rest : List ℕ → List Entry → Outcome
  then_rest vs without = followed_by (pick_steps w W vs (laid without)) then_join

  exists_first : {os : List ℕ} (vs : List ℕ) → os ≡ v ∷ vs → followed_by (operator_step w W (job a a (numbered 14) None (Some v))) (then_rest vs) ≡ pick_steps w W os a
  unfolding pick_steps
  exists_first vs e =
      ap (λ (o : Outcome). followed_by o (then_rest vs)) (exists_step w W a v) ∙ ap (λ (os : List ℕ). pick_steps w W os a) (sym e)

-- the greatest option v of the list os, and the others, vs
module _ (w : Working) (p : Place) (v : ℕ) (os vs : List ℕ) (greatest : os ≡ v ∷ vs) (given was mid spare half : Runs) (t : ℕ) {r : Answer}
    (first : Leaves (operator_step w (room was) (job (set_at p given spare) (set_at p given spare) (numbered 14) None (Some v))) t was mid spare half r) where
  abbrev a : Runs
  a = set_at p given spare

  pub exists_refused : {now left : Runs} {why : Refusal} → r ≡ Err why → Leaves (pick_steps w (room was) os a) t was now spare left (Err why)
  exists_refused {now} {left} {why} e = rw (← exists_first w (room was) a v vs greatest) (refused_then (then_rest w (room was) a v vs) {t = t} {now = now} {left = left} first e)

  module _ (W : ℕ) {s : ℕ} (done : r ≡ Ok s) (long : LongAs was mid) where
    abbrev f : Finished (operator_step w (room was) (job a a (numbered 14) None (Some v))) s t was mid spare half
    f = finished first done

    -- what the recursion asks for
    pub rest_ready : Ready p (length os) W t given was spare → LongAs spare half → Ready (Slot t s) (length vs) W (t + W) given mid half
    rest_ready ready long-spare =
        let e = ready.room_is in
        let same = same_room was mid long in
        let size = f.size in
        let fits = f.holds.fits in
        record {
          room_is = e ∙ sym same;
          set = omega arith;
          whole = subst Whole (sym (slot_stands given f.size f.holds)) (laid_whole f.array);
          slots = next_slots (length vs) W t spare half long-spare (rw greatest at ready.slots);
        }

    -- the rest is picked of the set that was left
    goes_on : (u : Working) → Alike u w
        → followed_by (pick_steps u (room mid) vs (set_at (Slot t s) given half)) (then_join w (room was) a v) ≡ then_rest w (room was) a v vs f.array
    goes_on u alike =
        ap (λ (o : Outcome). followed_by o (then_join w (room was) a v))
        (pick_alike u w alike (room mid) vs (set_at (Slot t s) given half)
        ∙ (λ i. pick_steps w (same_room was mid long i) vs (slot_stands given f.size f.holds i)))

    whole_leaves : (u : Working) → Alike u w → {now left : Runs} {q : Answer}
        → Leaves (followed_by (pick_steps u (room mid) vs (set_at (Slot t s) given half)) (then_join w (room was) a v)) t mid now half left q
        → Leaves (pick_steps w (room was) os a) t was now spare left q
    whole_leaves u alike l =
        rw (← exists_first w (room was) a v vs greatest)
        (then_leaves (then_rest w (room was) a v vs) f (le_refl t) (same_room was mid long) (goes_on u alike) l)

    module _ (u : Working) (alike : Alike u w) {late after : Runs} {k : Answer}
        (second : Leaves (pick_steps u (room mid) vs (set_at (Slot t s) given half)) (t + W) mid late half after k) where
      pub rest_refused : {now left : Runs} {why : Refusal} → k ≡ Err why → Leaves (pick_steps w (room was) os a) t was now spare left (Err why)
      rest_refused {now} {left} {why} e = whole_leaves u alike (refused_then (then_join w (room was) a v) {t = t} {now = now} {left = left} second e)

      module _ {m : ℕ} (both : k ≡ Ok m) (long-late : LongAs mid late) where
        abbrev g : Finished (pick_steps u (room mid) vs (set_at (Slot t s) given half)) m (t + W) mid late half after
        g = finished second both

        pub join_ready : Ready p (length os) W t given was spare → LongAs spare half → LongAs half after → Joins p W m t late after
        join_ready ready long-spare long-half =
            let size = g.size in
            let fits = g.holds.fits in
            let e : room mid ≡ W = same_room was mid long ∙ sym ready.room_is in
            let most : 3 ≤ length os + 2 = omega (arith, ap length greatest) in
            record {
              room_is = ready.room_is ∙ sym (same_room mid late long-late ∙ same_room was mid long);
              set = ready.set;
              fits = omega (arith, size, fits, e);
              slots = fewer_slots 3 (length os + 2) W t half after most long-half (fewer_slots (length os + 2) (length os + 2) W t spare half (le_refl _) long-spare ready.slots);
            }

        pub rest_joined : (u₂ : Working) → Alike u₂ w → Below p t → {now left : Runs} {q : Answer}
            → Leaves (joined_steps u₂ (room late) (set_at p given after) v (part (t + W) m after)) t late now after left q
            → Leaves (pick_steps w (room was) os a) t was now spare left q
        rest_joined u₂ alike₂ below-p l =
            let rooms : room late ≡ room was = same_room mid late long-late ∙ same_room was mid long in
            let set : set_at p given after ≡ a =
            set_stays p given half after below-p (lower (t + W) t half after (omega arith) g.holds.before) ∙ set_stays p given spare half below-p f.holds.before in
            let rest : part (t + W) m after ≡ laid g.array = ap (λ (n : ℕ). part (t + W) n after) g.size ∙ g.holds.stands in
            let one : var_pick_steps u₂ (room late) (set_at p given after) v ≡ var_pick_steps w (room was) a v =
            var_pick_alike u₂ w alike₂ (room late) (set_at p given after) v ∙ (λ i. var_pick_steps w (rooms i) (set i) v) in
            let joined : (es : List Entry) → operator_step u₂ (room late) (job (part (t + W) m after) (laid es) (numbered 8) None None)
            ≡ operator_step w (room was) (job (laid g.array) (laid es) (numbered 8) None None) =
            λ es. same_operator (numbered 8) None alike₂ rooms rest refl in
            whole_leaves u alike
            (then_leaves (then_join w (room was) a v) g (omega arith) (same_room mid late long-late) (λ i. followed_by (one i) (λ es. joined es i)) l)
