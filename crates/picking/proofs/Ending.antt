-- Picking as a whole: what the checks give the steps, and that the answer, the output and the other runs are those of the promise.
use Rattle.std.specs.Prelude.{Err, Ok}
use Prim.Native.Nat.{ℕ, ◌+◌, ◌≤◌, min}
use mathlib.Core.Path.{◌≡◌, refl, ap, ◌∙◌, subst}
use mathlib.Core.List.{List, ◌++◌}
use mathlib.Core.Option.{none}
use native.Mathlib.Omega.{arith}
use native.Mathlib.Nat.{add-mul}
use lib.ListN.{length, take, drop, length-map, take-append-drop}
use Rattle.bdd.specs.Array.{Entry, Runs, laid, options}
use Rattle.bdd.specs.Pairs.{room}
use Rattle.bdd.specs.Answers.{Checks, output_after, outputs_after}
use Rattle.bdd.specs.Operations.{Working}
use Rattle.bdd.specs.Lent.{Answer}
use Rattle.bdd.specs.declared.Refusal.{Refusal}
use Rattle.bdd.proofs.Refusing.{first_in_list}
use Rattle.bdd.proofs.Ordered.{ordered_open, even_of}
use Rattle.bdd.proofs.Negation.{laid_entries}
use Rattle.lent.specs.Copied.{copied}
use Rattle.ending.specs.Ends.{cleared}
use Rattle.relation_ops.specs.Picking.{Outcome, wrote, stopped, Picking, Picks, picking, picking_one, pick_steps, var_pick_steps, greatest_first, answer_of}
use Rattle.relation_ops.proofs.Steps.{Alike, Late, none_beyond, or_left, pick_late, var_pick_late}
use Rattle.relation_ops.proofs.Whole.{early, Cleared, picks_refused, picks_stopped, picks_done}
use Rattle.relation_ops.specs.Picking.{some_beyond}
use borrow.Author.Tests.{leb-false}
use Rattle.marks.specs.Marking.{marked_options}
use Rattle.marks.specs.declared.Marks.{Marks}
use Rattle.slots.specs.Slots.{pasted, kept, Whole, Slots, Holds, Leaves}
use Rattle.slots.proofs.Parts.{pasted_stands}
use Rattle.slots.proofs.Leaving.{three, LongAs, copied_whole}
use Rattle.pick_ends.specs.Pieces.{Stops, Passes, restored, handed}
use Rattle.pick_ends.proofs.Admitting.{opened}

-- ---- what the checks give the steps

module _ (x : Picking) (w : Working) (spare : Runs) (W : ℕ) (clean : first_in_list (early x w spare W) ≡ none) where
  pub given_whole : Whole x.set
  given_whole =
      let l = (ordered_open x.set (opened x w spare W clean).set).layered in
      laid_entries x.set (even_of x.set l.low_length l.high_length)

  -- behind the first slot there are two more than options
  pub slots_behind : (saved : Runs) → LongAs spare saved → {k : ℕ} → k ≡ length x.picks → Slots (k + 2) W W saved
  slots_behind saved l {k} e =
      let o = opened x w spare W clean in
      let p = add-mul (length x.picks) 4 W in
      let q = add-mul (length x.picks) 2 W in
      rw e
      record { variable = omega (arith, o.variable, l.variable, p, q); low = omega (arith, o.low, l.low, p, q); high = omega (arith, o.high, l.high, p, q) }

-- ---- the output

run_back : (W s : ℕ) (made was mid spare left : List ℕ) → W ≤ length was → length mid ≡ length was → W ≤ length spare → W ≤ length left
    → length made ≡ s → s ≤ W → take W left ≡ take W (pasted 0 W was spare) → take s (drop W left) ≡ made → drop W mid ≡ drop W was
    → restored W s mid left ≡ made ++ drop (length made) was
run_back W s made was mid spare left lw lm ls ll size l front there rest =
    ap (λ (xs : List ℕ). copied xs (take s (drop W left)) s) (again (min W (min (length mid) (length left))) (omega arith))
    ∙ ap (λ (xs : List ℕ). copied was xs s) there
    ∙ copied_whole was made s size (omega arith)
  where
    again : (k : ℕ) → k ≡ W → take k left ++ drop k mid ≡ was
    again k e =
        rw e
        (ap (λ (xs : List ℕ). xs ++ drop W mid) (front ∙ pasted_stands 0 spare W was (omega arith) lw)
        ∙ ap (λ (xs : List ℕ). take W was ++ xs) rest
        ∙ take-append-drop W was)

cleared_same : (was mid : Runs) → LongAs was mid → cleared mid ≡ cleared was
cleared_same was mid l = rw (l.variable, l.low, l.high) refl

pub long_through : {was mid now : Runs} → LongAs was mid → LongAs mid now → LongAs was now
long_through a b = record { variable = b.variable ∙ a.variable; low = b.low ∙ a.low; high = b.high ∙ a.high }

pub cleared_as : (lent u back : Working) (spare left given_back : Runs) → Alike u lent → LongAs spare left → Cleared u back left given_back → Cleared lent back spare given_back
cleared_as lent u back spare left given_back alike long c =
    record {
      pairs = rw alike.pairs at c.pairs;
      stack = rw alike.stack at c.stack;
      index = rw alike.index at c.index;
      variable = rw long.variable at c.variable;
      low = rw long.low at c.low;
      high = rw long.high at c.high;
    }

module _ (x : Picking) (was mid now : Runs) (lent back : Working) (spare saved left given_back : Runs) {r : Answer}
    (clean : first_in_list (early x lent spare (room was)) ≡ none) (lates : (why : Refusal) → x.steps lent (room was) ≡ stopped why → Late why)
    (long : LongAs was mid) (long-saved : LongAs spare saved) (long-left : LongAs saved left) (keeps : saved ≡ kept 0 (room was) was spare)
    (leaves : Leaves (x.steps lent (room was)) (room was) was mid saved left r) (hands : now ≡ handed r (room was) mid left) (c : Cleared lent back spare given_back) where
  abbrev W : ℕ
  W = room was

  done_output : (es : List Entry) → Holds es W was mid saved left → r ≡ Ok (length es) → now ≡ outputs_after 0 (laid es) was
  unfolding output_after
  done_output es h d =
      let o = opened x lent spare W clean in
      let p = add-mul (length x.picks) 4 W in
      let fits = h.fits in
      let v = long-saved.variable in
      let l = long-saved.low in
      let m = long-saved.high in
      hands ∙ ap (λ (q : Answer). handed q W mid left) d
      ∙ three
      (run_back W (length es) (laid es).variable was.variable mid.variable spare.variable left.variable
      (omega arith) long.variable (omega (arith, o.variable, p)) (omega (arith, o.variable, p, v, long-left.variable)) (length-map es (λ (e : Entry). e.variable)) fits
      (ap (λ (a : Runs). a.variable) h.before ∙ ap (λ (a : Runs). take W a.variable) keeps) (ap (λ (a : Runs). a.variable) h.stands) (ap (λ (a : Runs). a.variable) h.rest))
      (run_back W (length es) (laid es).low was.low mid.low spare.low left.low
      (omega arith) long.low (omega (arith, o.low, p)) (omega (arith, o.low, p, l, long-left.low)) (length-map es (λ (e : Entry). e.low)) fits
      (ap (λ (a : Runs). a.low) h.before ∙ ap (λ (a : Runs). take W a.low) keeps) (ap (λ (a : Runs). a.low) h.stands) (ap (λ (a : Runs). a.low) h.rest))
      (run_back W (length es) (laid es).high was.high mid.high spare.high left.high
      (omega arith) long.high (omega (arith, o.high, p)) (omega (arith, o.high, p, m, long-left.high)) (length-map es (λ (e : Entry). e.high)) fits
      (ap (λ (a : Runs). a.high) h.before ∙ ap (λ (a : Runs). take W a.high) keeps) (ap (λ (a : Runs). a.high) h.stands) (ap (λ (a : Runs). a.high) h.rest))

  pub picks_so : Picks x was now lent back spare given_back r
  picks_so = at (x.steps lent W) refl
    where
      at : (o : Outcome) → x.steps lent W ≡ o → Picks x was now lent back spare given_back r
      at (wrote es) e =
          let d : r ≡ Ok (length es) = leaves.answer ∙ ap answer_of e in
          let n = done_output es (leaves.done es e) d in
          rw d (picks_done x was lent spare clean now back given_back c e n)
      at (stopped why) e =
          let d : r ≡ Err why = leaves.answer ∙ ap answer_of e in
          rw d
          (picks_stopped x was lent spare clean now back given_back c e (lates why e)
          (hands ∙ ap (λ (q : Answer). handed q W mid left) d ∙ cleared_same was mid long))

-- the same, where W is a number that is the room
pub picks_all : (x : Picking) (was mid now : Runs) (lent back : Working) (spare saved left given_back : Runs) {r : Answer} {W : ℕ} → W ≡ room was
    → first_in_list (early x lent spare W) ≡ none → ((why : Refusal) → x.steps lent W ≡ stopped why → Late why)
    → LongAs was mid → LongAs spare saved → LongAs saved left → saved ≡ kept 0 W was spare
    → Leaves (x.steps lent (room was)) W was mid saved left r → now ≡ handed r W mid left → Cleared lent back spare given_back
    → Picks x was now lent back spare given_back r
picks_all x was mid now lent back spare saved left given_back e clean lates long long-saved long-left keeps leaves hands c =
    picks_so x was mid now lent back spare saved left given_back (rw e at clean) (rw e at lates) long long-saved long-left (rw e at keeps) (rw e at leaves) (rw e at hands) c

-- ---- the two calls

-- the marked options are those of the list
pub marked_leaves : {cs : Checks} {a : Runs} {vs : List ℕ} {m : Marks} (w : Working) {t : ℕ} {was now spare left : Runs} {r : Answer} → Passes cs a vs m
    → Leaves (pick_steps w (room was) (marked_options m) a) t was now spare left r → Leaves (pick_steps w (room was) (greatest_first vs (options a)) a) t was now spare left r
marked_leaves {cs} {a} {vs} {m} w {t} {was} {now} {spare} {left} {r} p l = subst (λ (os : List ℕ). Leaves (pick_steps w (room was) os a) t was now spare left r) p.marked l

pub stopped_picks : (x : Picking) (was : Runs) (lent : Working) (spare : Runs) {W : ℕ} {why : Refusal} → W ≡ room was → Stops (early x lent spare W) why → Picks x was was lent lent spare spare (Err why)
stopped_picks x was lent spare e h = let s = rw e at h in picks_refused x was lent spare s.first s.keeps

pub var_pick_lates : (a : Runs) (v W : ℕ) (lent : Working) (spare : Runs) → W ≤ 4096 → first_in_list (early (picking_one a v) lent spare W) ≡ none
    → (why : Refusal) → var_pick_steps lent W a v ≡ stopped why → Late why
unfolding some_beyond
var_pick_lates a v W lent spare few clean why e =
    let o = opened (picking_one a v) lent spare W clean in
    var_pick_late lent W few a v why o.set (leb-false _ _ (or_left _ _ o.within)) (record { stack = o.stack; index = o.index }) e

pub pick_lates : (a : Runs) (vs : List ℕ) (W : ℕ) (lent : Working) (spare : Runs) → W ≤ 4096 → first_in_list (early (picking a vs) lent spare W) ≡ none
    → (why : Refusal) → pick_steps lent W (greatest_first vs (options a)) a ≡ stopped why → Late why
pick_lates a vs W lent spare few clean why e =
    let o = opened (picking a vs) lent spare W clean in
    pick_late lent W few (greatest_first vs (options a)) a why o.set (none_beyond vs (options a) (options a) (omega arith)) (record { stack = o.stack; index = o.index }) e
