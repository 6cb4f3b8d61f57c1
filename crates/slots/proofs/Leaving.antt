-- What steps leave in the spare runs: one step alone, and one after the other.
use Rattle.std.specs.Prelude.{Err, None, Ok}
use Prim.Native.Nat.{ℕ, ◌+◌, ◌≤◌, ◌<◌, min}
use mathlib.Core.Path.{◌≡◌, refl, sym, ap, ◌∙◌}
use mathlib.Core.Bool.{Bool, true, false}
use mathlib.Core.List.{List, [], ◌∷◌, ◌++◌}
use mathlib.Core.Option.{Option, none, some}
use native.Mathlib.Omega.{arith}
use lib.ListN.{length, take, drop, length-map, length-append}
use lib.Seq.{take_at, take-length}
use borrow.Author.Tests.{ltb-false, lt-ltb, le-ltb}
use Rattle.bdd.specs.Array.{Entry, Runs, runs, laid, entries_of}
use Rattle.bdd.specs.Pairs.{room}
use Rattle.bdd.specs.Answers.{Checks, Makes, gives, number_of, first_refusal, first_of_two, no_room, outputs_after, output_after, comes_first, row_in, paper_order}
use Rattle.bdd.specs.Operations.{Working, working_of, Operates, operation, operation_checks}
use Rattle.bdd.specs.Pairs.{Job, job}
use Rattle.bdd.specs.Lent.{Flip, Answer, output_of, SameOutput, SameWorking}
use Rattle.bdd.specs.declared.OutputRuns.{OutputRuns}
use Rattle.bdd.specs.declared.WorkingRuns.{WorkingRuns}
use Rattle.bdd.specs.declared.Refusal.{Refusal}
use Rattle.bdd.specs.declared.Refusal.TheVariants.{NoRoom}
use Rattle.bdd.proofs.Refusing.{ascending, first_in_list, one_by_one, clear}
use Rattle.relation_ops.specs.Relations.{Relation, Relates, selection, relation_checks}
use Rattle.relation_ops.specs.Picking.{Outcome, wrote, stopped, ended, followed_by, step, copy_checks, relation_step, operator_step, answer_of, array_from}
use Rattle.relation_ops.proofs.Steps.{Alike, operator_alike}
use Rattle.relation_ops.proofs.Whole.{told_step}
use Rattle.lent.specs.Copied.{copied}
use Rattle.slots.specs.declared.Place.{Place}
use Rattle.slots.specs.declared.Place.TheVariants.{Given, Slot}
use Rattle.slots.specs.Slots.{set_at, pasted, kept, part, below, behind, size_told, Slots, Below, Holds, Leaves}
use Rattle.slots.proofs.Parts.{pasted_stands, pasted_before, behind_made, same_before, same_part}

-- three runs that are equal one by one
pub three : {v v' l l' h h' : List ℕ} → v ≡ v' → l ≡ l' → h ≡ h' → runs v l h ≡ runs v' l' h'
three a b c = λ i. record { variable = a i; low = b i; high = c i }

-- what is kept of the same runs
pub kept_same : (t s : ℕ) (was : Runs) {from same : Runs} → from ≡ same → kept t s from was ≡ kept t s same was
kept_same t s was e = ap (λ (b : Runs). kept t s b was) e

-- ---- one step

-- one run of an array that is made in the output and then pasted at place t
record RunHolds (made : List ℕ) (t W : ℕ) (was now spare left : List ℕ) : Type 0 where
  stands : take (length made) (drop t left) ≡ made
  before : take t left ≡ take t spare
  rest : drop W now ≡ drop W was

run_holds : (made : List ℕ) (t W : ℕ) (was now spare left : List ℕ) → length made ≤ W → t + W ≤ length spare
    → now ≡ made ++ drop (length made) was → left ≡ pasted t (length made) now spare → RunHolds made t W was now spare left
run_holds made t W was now spare left l m n e =
    let long : length made ≤ length now = omega (arith, ap length n, length-append made (drop (length made) was)) in
    record {
      stands =
          ap (λ (xs : List ℕ). take (length made) (drop t xs)) e
          ∙ pasted_stands t spare (length made) now (omega arith) long
          ∙ ap (take (length made)) n
          ∙ take_at made (drop (length made) was) (length made) refl;
      before = ap (take t) e ∙ pasted_before t spare (length made) now (omega arith);
      rest = ap (drop W) n ∙ behind_made made was W l;
    }

-- all three
made_holds : (es : List Entry) (t : ℕ) (was now spare left : Runs) → length es ≤ room was → Slots 1 (room was) t spare
    → now ≡ outputs_after 0 (laid es) was → left ≡ kept t (length es) now spare → Holds es t was now spare left
unfolding output_after
made_holds es t was now spare left l slots n e =
    let v = run_holds (laid es).variable t (room was) was.variable now.variable spare.variable left.variable
    (omega (arith, length-map es (λ (x : Entry). x.variable))) (omega (arith, slots.variable)) (ap (λ (a : Runs). a.variable) n)
    (ap (λ (a : Runs). a.variable) e ∙ ap (λ (k : ℕ). pasted t k now.variable spare.variable) (sym (length-map es (λ (x : Entry). x.variable)))) in
    let w = run_holds (laid es).low t (room was) was.low now.low spare.low left.low
    (omega (arith, length-map es (λ (x : Entry). x.low))) (omega (arith, slots.low)) (ap (λ (a : Runs). a.low) n)
    (ap (λ (a : Runs). a.low) e ∙ ap (λ (k : ℕ). pasted t k now.low spare.low) (sym (length-map es (λ (x : Entry). x.low)))) in
    let h = run_holds (laid es).high t (room was) was.high now.high spare.high left.high
    (omega (arith, length-map es (λ (x : Entry). x.high))) (omega (arith, slots.high)) (ap (λ (a : Runs). a.high) n)
    (ap (λ (a : Runs). a.high) e ∙ ap (λ (k : ℕ). pasted t k now.high spare.high) (sym (length-map es (λ (x : Entry). x.high)))) in
    record {
      fits = l;
      stands =
          three
          (ap (λ (k : ℕ). take k (drop t left.variable)) (sym (length-map es (λ (x : Entry). x.variable))) ∙ v.stands)
          (ap (λ (k : ℕ). take k (drop t left.low)) (sym (length-map es (λ (x : Entry). x.low))) ∙ w.stands)
          (ap (λ (k : ℕ). take k (drop t left.high)) (sym (length-map es (λ (x : Entry). x.high))) ∙ h.stands);
      before = three v.before w.before h.before;
      rest = three v.rest w.rest h.rest;
    }

-- checks that tell an array longer than the room
abbrev pub Fits : (ℕ → ℕ → Checks) → Type 0
Fits checks = (W s : ℕ) → first_refusal (checks W s) ≡ none → s ≤ W

last_clear : (cs : Checks) (why : Refusal) (b : Bool) → first_in_list (cs ++ gives why b ∷ []) ≡ none → b ≡ false
last_clear [] why b h = (clear _ _ h).here
last_clear (c ∷ cs) why b h = last_clear cs why b (clear _ _ h).rest

room_last : (cs : Checks) (W s : ℕ) → ascending (cs ++ gives NoRoom (no_room None W s) ∷ []) ≡ true
    → first_refusal (cs ++ gives NoRoom (no_room None W s) ∷ []) ≡ none → s ≤ W
unfolding no_room
room_last cs W s a e = ltb-false W s (last_clear cs NoRoom (no_room None W s) (sym (one_by_one (cs ++ gives NoRoom (no_room None W s) ∷ []) a) ∙ e))

pub relation_fits : (x : Relation) (w : Working) → Fits (relation_checks x w)
unfolding ascending comes_first row_in paper_order
relation_fits x w W s e = room_last (_ ∷ _ ∷ _ ∷ _ ∷ _ ∷ []) W s refl e

pub operation_fits : (j : Job) (w : Working) → Fits (operation_checks (operation j None None) w)
unfolding ascending comes_first row_in paper_order
operation_fits j w W s e = room_last (_ ∷ _ ∷ _ ∷ _ ∷ _ ∷ _ ∷ _ ∷ _ ∷ _ ∷ []) W s refl e

record Wrote (f : Option Refusal) (es out : List Entry) : Type 0 where
  clean : f ≡ none
  same : es ≡ out

wrote_so : (f : Option Refusal) (es out : List Entry) → ended f es ≡ wrote out → Wrote f es out
wrote_so none es out e = record { clean = refl; same = cc }
wrote_so (some why) es out e = absurd (let z : ◌≡◌ {A = ℕ} 0 1 = cc in omega arith)

pub step_leaves : {checks : ℕ → ℕ → Checks} {es : List Entry} {t : ℕ} {was now spare left : Runs} {r : Answer} → Fits checks → Slots 1 (room was) t spare
    → Makes checks es was now r → {k : ℕ} → k ≡ size_told r → left ≡ kept t k now spare → Leaves (step (room was) checks es) t was now spare left r
step_leaves {checks} {es} {t} {was} {now} {spare} {left} {r} fits slots m {k} size e =
    record {
      answer = told_step m;
      done = λ out o.
          let w = wrote_so (first_refusal (checks (room was) (length es))) es out o in
          let d : r ≡ Ok (length es) = told_step m ∙ ap (λ (f : Option Refusal). answer_of (ended f es)) w.clean in
          rw (← w.same)
          (made_holds es t was now spare left (fits (room was) (length es) w.clean) slots
          (m.outputs ∙ ap (λ (q : Answer). outputs_after (number_of q) (laid es) was) d)
          (e ∙ ap (λ (n : ℕ). kept t n now spare) (size ∙ ap size_told d)));
    }

pub operates_leaves : {j : Job} {w back : Working} {t : ℕ} {was now spare left : Runs} {r : Answer} → Slots 1 (room was) t spare
    → Operates (operation j None None) was now w back r → {k : ℕ} → k ≡ size_told r → left ≡ kept t k now spare → Leaves (operator_step w (room was) j) t was now spare left r
operates_leaves {j} {w} slots o size e = step_leaves (operation_fits j w) slots o.makes size e

pub relates_leaves : {x : Relation} {w back : Working} {t : ℕ} {was now spare left : Runs} {r : Answer} → Slots 1 (room was) t spare
    → Relates x was now w back r → {k : ℕ} → k ≡ size_told r → left ≡ kept t k now spare → Leaves (relation_step w (room was) x) t was now spare left r
relates_leaves {x} {w} slots o size e = step_leaves (relation_fits x w) slots o.makes size e

-- ---- one after the other

-- a set that stands before place t is as it was
pub set_stays : {t : ℕ} (p : Place) (given spare left : Runs) → Below p t → below t left ≡ below t spare → set_at p given left ≡ set_at p given spare
set_stays Given given spare left b e = refl
set_stays {t} (Slot at size) given spare left b e =
    three (same_part t left.variable spare.variable (ap (λ (a : Runs). a.variable) e) at size b)
    (same_part t left.low spare.low (ap (λ (a : Runs). a.low) e) at size b)
    (same_part t left.high spare.high (ap (λ (a : Runs). a.high) e) at size b)

-- steps that are refused at the first
pub refused_then : {o : Outcome} (next : List Entry → Outcome) {t t₁ : ℕ} {was mid now spare half left : Runs} {r : Answer} {why : Refusal}
    → Leaves o t₁ was mid spare half r → r ≡ Err why → Leaves (followed_by o next) t was now spare left (Err why)
refused_then {o} next {t} {t₁} {was} {mid} {now} {spare} {half} {left} {r} {why} l e = at o (sym e ∙ l.answer)
  where
    at : (o : Outcome) → Err why ≡ answer_of o → Leaves (followed_by o next) t was now spare left (Err why)
    at (wrote es) q = absurd (let z : ◌≡◌ {A = ℕ} 0 1 = cc in omega arith)
    at (stopped other) q = record { answer = q; done = λ es p. absurd (let z : ◌≡◌ {A = ℕ} 0 1 = cc in omega arith) }

-- steps that are done, with an array of s entries
pub record Finished (o : Outcome) (s t : ℕ) (was now spare left : Runs) : Type 0 where
  pub array : List Entry
  pub is : o ≡ wrote array
  pub size : s ≡ length array
  pub holds : Holds array t was now spare left

pub finished : {o : Outcome} {s t : ℕ} {was now spare left : Runs} {r : Answer} → Leaves o t was now spare left r → r ≡ Ok s → Finished o s t was now spare left
finished {o} {s} {t} {was} {now} {spare} {left} l e = at o (sym e ∙ l.answer) l.done
  where
    at : (o : Outcome) → Ok s ≡ answer_of o → ((es : List Entry) → o ≡ wrote es → Holds es t was now spare left) → Finished o s t was now spare left
    at (wrote es) k h = record { array = es; is = refl; size = ap size_told k; holds = h es refl }
    at (stopped why) k h = absurd (let z : ◌≡◌ {A = ℕ} 0 1 = cc in omega arith)

pub lower : (t₁ t : ℕ) (spare left : Runs) → t ≤ t₁ → below t₁ left ≡ below t₁ spare → below t left ≡ below t spare
lower t₁ t spare left l e =
    three (same_before t₁ left.variable spare.variable (ap (λ (a : Runs). a.variable) e) t l)
    (same_before t₁ left.low spare.low (ap (λ (a : Runs). a.low) e) t l)
    (same_before t₁ left.high spare.high (ap (λ (a : Runs). a.high) e) t l)

-- the others go on from what the first left
pub then_leaves : {o after : Outcome} (next : List Entry → Outcome) {t t₁ s : ℕ} {was mid now spare half left : Runs} {q : Answer}
    → (f : Finished o s t₁ was mid spare half) → t ≤ t₁ → room mid ≡ room was → after ≡ next f.array
    → Leaves after t mid now half left q → Leaves (followed_by o next) t was now spare left q
then_leaves {o} {after} next {t} {t₁} {s} {was} {mid} {now} {spare} {half} {left} {q} f l same to m =
    let h = f.holds in
    rw f.is
    record {
      answer = m.answer ∙ ap answer_of to;
      done = λ out p.
          let k = m.done out (to ∙ p) in
          record {
            fits = rw (← same) k.fits;
            stands = k.stands;
            before = k.before ∙ lower t₁ t spare half l h.before;
            rest = ap (λ (W : ℕ). behind W now) (sym same) ∙ k.rest ∙ ap (λ (W : ℕ). behind W mid) same ∙ h.rest;
          };
    }

-- ---- the calls read their sets where they stand

pub relates_so : {a a' was now : Runs} {v : ℕ} {lent back : Working} {r : Answer} → a ≡ a'
    → Relates (selection a v false) was now lent back r → Relates (selection a' v false) was now lent back r
relates_so e o = rw e at o

-- three runs as long as others
pub record LongAs (was now : Runs) : Type 0 where
  pub variable : length now.variable ≡ length was.variable
  pub low : length now.low ≡ length was.low
  pub high : length now.high ≡ length was.high

pub long_as : {was now : OutputRuns} → SameOutput was now → LongAs (output_of was) (output_of now)
long_as s = record { variable = s.variable_length; low = s.low_length; high = s.high_length }

pub alike_as : {was now : WorkingRuns} → SameWorking was now → Alike (working_of now) (working_of was)
alike_as s = record { pairs = s.pairs_length; stack = s.stack_length; index = s.index_length }

pub same_room : (was now : Runs) → LongAs was now → room now ≡ room was
same_room was now l = rw (l.variable, l.low, l.high)

-- the array stands in the slot
pub slot_stands : {es : List Entry} {t s : ℕ} {was now spare left : Runs} (given : Runs) → s ≡ length es → Holds es t was now spare left → set_at (Slot t s) given left ≡ laid es
slot_stands {es} {t} {s} {was} {now} {spare} {left} given size h = ap (λ (k : ℕ). part t k left) size ∙ h.stands

-- the same operator, where the sets stand and the runs are as they were
pub same_operator : (t : List ℕ) (flip : Flip) {w u : Working} {W U : ℕ} {a a' b b' : Runs} → Alike u w → U ≡ W → a' ≡ a → b' ≡ b
    → operator_step u U (job a' b' t None flip) ≡ operator_step w W (job a b t None flip)
same_operator t flip {w} {u} {W} {U} {a} {a'} {b} {b'} alike e f g =
    operator_alike u w alike U (job a' b' t None flip) ∙ (λ i. operator_step w (e i) (job (f i) (g i) t None flip))

-- ---- the copy of a set

pub copied_whole : (was from : List ℕ) (s : ℕ) → length from ≡ s → s ≤ length was → copied was from s ≡ from ++ drop (length from) was
copied_whole was from s e l = at (min s (min (length was) (length from))) (omega arith)
  where
    at : (k : ℕ) → k ≡ length from → take k from ++ drop k was ≡ from ++ drop (length from) was
    at k f = rw f (ap (λ (xs : List ℕ). xs ++ drop (length from) was) (take-length from))

module _ (a was : Runs) (t : ℕ) (spare : Runs) (whole : laid (entries_of a) ≡ a) {size : ℕ} (e : size ≡ length a.variable) where
  abbrev es : List Entry
  es = entries_of a

  size_is : size ≡ length es
  size_is = e ∙ ap (λ (b : Runs). length b.variable) (sym whole) ∙ length-map es (λ (x : Entry). x.variable)

  pub copy_refused : {now left : Runs} → room was < size → Leaves (step (room was) copy_checks es) t was now spare left (Err NoRoom)
  unfolding first_refusal first_of_two no_room
  copy_refused {now} {left} l =
      let stop : step (room was) copy_checks es ≡ stopped NoRoom = rw (lt-ltb (room was) (length es) (rw size_is at l)) refl in
      record { answer = sym (ap answer_of stop); done = λ out p. absurd (let q = sym stop ∙ p in let z : ◌≡◌ {A = ℕ} 0 1 = cc in omega arith) }

  pub copy_leaves : {now left : Runs} → Slots 1 (room was) t spare → size ≤ room was
      → now ≡ runs (copied was.variable a.variable size) (copied was.low a.low size) (copied was.high a.high size)
      → left ≡ kept t size now spare → Leaves (step (room was) copy_checks es) t was now spare left (Ok size)
  unfolding first_refusal first_of_two no_room output_after
  copy_leaves {now} {left} slots l n k =
      let fits : length es ≤ room was = rw size_is at l in
      let goes : step (room was) copy_checks es ≡ wrote es = rw (le-ltb (room was) (length es) fits) refl in
      let v : length a.variable ≡ size = sym e in
      let w : length a.low ≡ size = ap (λ (b : Runs). length b.low) (sym whole) ∙ length-map es (λ (x : Entry). x.low) ∙ sym size_is in
      let h : length a.high ≡ size = ap (λ (b : Runs). length b.high) (sym whole) ∙ length-map es (λ (x : Entry). x.high) ∙ sym size_is in
      let out : now ≡ outputs_after 0 (laid es) was =
      n
      ∙ three (copied_whole was.variable a.variable size v (omega arith)) (copied_whole was.low a.low size w (omega arith))
      (copied_whole was.high a.high size h (omega arith))
      ∙ ap (λ (b : Runs). outputs_after 0 b was) (sym whole) in
      record {
        answer = ap Ok size_is ∙ sym (ap answer_of goes);
        done = λ out-es p.
            let q : wrote es ≡ wrote out-es = sym goes ∙ p in
            let same : es ≡ out-es = ap array_from q in
            rw (← same) (made_holds es t was now spare left fits slots out (k ∙ ap (λ (m : ℕ). kept t m now spare) size_is));
      }
