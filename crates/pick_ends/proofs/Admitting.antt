-- The checks before the steps: which of them is answered, and what is known where none holds.
use Rattle.std.specs.Prelude.{Err, Ok, Some, Option, ℕ, Result}
use Prim.Native.Nat.{ℕ, zero, suc, ◌+◌, ◌*◌, ◌≤◌}
use mathlib.Core.Path.{◌≡◌, refl, sym, ap, ◌∙◌}
use mathlib.Core.Bool.{Bool, true, false, cond, not, ◌||◌}
use mathlib.Core.Logic.{◌⊎◌, inl, inr}
use mathlib.Core.List.{List, [], ◌∷◌}
use mathlib.Core.Option.{none, some}
use native.Mathlib.Omega.{arith}
use lib.ListN.{length}
use borrow.Author.Tests.{ltb-false, not-false}
use Rattle.bdd.specs.Array.{Runs, options, ordered}
use Rattle.bdd.specs.Answers.{Checks, gives}
use Rattle.bdd.specs.Operations.{Working}
use Rattle.bdd.specs.declared.Refusal.{Refusal}
use Rattle.bdd.specs.declared.Refusal.TheVariants.{LeftNotOrdered, NoSuchOption, BadList, ShortRun}
use Rattle.bdd.proofs.Refusing.{first_in_list, clear}
use Rattle.bdd.proofs.Ordered.{ordered_open}
use Rattle.checks.specs.Checked.{checked_order}
use Rattle.checks.proofs.Verdict.{told_ordered, told_options}
use Rattle.relation_ops.specs.Picking.{Picking, picking, some_beyond, spare_short}
use Rattle.relation_ops.proofs.Steps.{or_left, or_right}
use Rattle.relation_ops.proofs.Whole.{early}
use Rattle.marks.specs.Marking.{Lists, Again, those_below, marked_in, words}
use Rattle.marks.specs.declared.Marks.{Marks}
use Rattle.pick_ends.specs.Pieces.{runs_short, Stops, Passes, Admits}

-- ---- the first that holds

first_here : (why : Refusal) (b : Bool) (cs : Checks) → b ≡ true → first_in_list (gives why b ∷ cs) ≡ some why
unfolding first_in_list
first_here why b cs e = rw e

first_skip : (why : Refusal) (b : Bool) (cs : Checks) → b ≡ false → first_in_list (gives why b ∷ cs) ≡ first_in_list cs
unfolding first_in_list
first_skip why b cs e = rw e

shorts : (b c d : Bool) → first_in_list (gives ShortRun b ∷ gives ShortRun c ∷ gives ShortRun d ∷ []) ≡ cond (b || (c || d)) (some ShortRun) none
unfolding first_in_list
shorts true c d = refl
shorts false true d = refl
shorts false false true = refl
shorts false false false = refl

few_marked : (k : ℕ) (p : ℕ → Bool) → length (those_below k p) ≤ k
unfolding those_below
few_marked zero p = omega arith
few_marked (suc k) p = at (p k) (few_marked k p)
  where
    at : (b : Bool) → length (those_below k p) ≤ k → length (cond b (k ∷ those_below k p) (those_below k p)) ≤ suc k
    at true l = omega arith
    at false l = omega arith

module _ (a : Runs) (vs : List ℕ) (W : ℕ) (w : Working) (spare : Runs) where
  pub not_set : ordered a ≡ false → Stops (early (picking a vs) w spare W) LeftNotOrdered
  not_set e = record { first = first_here LeftNotOrdered _ _ (ap not e); keeps = refl }

  module _ {r : (Option ℕ)} (n : ℕ) (p : r ≡ checked_order a) (q : r ≡ Some n) where
    set_is : not (ordered a) ≡ false
    set_is = ap not (told_ordered a n p q)

    n_is : n ≡ options a
    n_is = told_options a n p q

    pub few_options : n ≤ 256
    few_options = rw n_is (ordered_open a (told_ordered a n p q)).options_most

    pub unlisted : {l : Result Marks Refusal} {why : Refusal} → Lists vs n l → l ≡ Err why → Stops (early (picking a vs) w spare W) why
    unlisted {why} h e = at (rw e at h)
      where
        at : (why ≡ NoSuchOption) × (some_beyond n vs ≡ true) ⊎ (why ≡ BadList) × Again vs n → Stops (early (picking a vs) w spare W) why
        at (inl b) =
            rw b.0
            record { first = first_skip LeftNotOrdered _ _ set_is ∙ first_here NoSuchOption _ _ (rw n_is at b.1); keeps = refl }
        at (inr g) =
            rw g.0
            record {
              first = first_skip LeftNotOrdered _ _ set_is ∙ first_skip NoSuchOption _ _ (rw n_is at g.1.within) ∙ first_here BadList _ _ g.1.again;
              keeps = refl;
            }

    module _ {l : Result Marks Refusal} {m : Marks} (h : Lists vs n l) (e : l ≡ Ok m) where
      pub few_picks : length vs ≤ 256
      few_picks = let g = rw e at h in omega (arith, g.count, few_marked 256 (marked_in (words m)))

      abbrev short : Bool
      short = runs_short n (length vs) W w spare

      up_to_short : {b : Bool} → b ≡ short → first_in_list (early (picking a vs) w spare W) ≡ cond b (some ShortRun) none
      up_to_short {b} s =
          let g = rw e at h in
          first_skip LeftNotOrdered _ _ set_is ∙ first_skip NoSuchOption _ _ (rw n_is at g.within) ∙ first_skip BadList _ _ g.once
          ∙ shorts _ _ _
          ∙ sym (ap (λ (x : Bool). cond x (some ShortRun) none) (s ∙ (λ i. runs_short (n_is i) (length vs) W w spare)))

      pub too_short : {b : Bool} → b ≡ short → b ≡ true → Stops (early (picking a vs) w spare W) ShortRun
      too_short s t = record { first = up_to_short s ∙ ap (λ (x : Bool). cond x (some ShortRun) none) t; keeps = refl }

      pub long_enough : {b : Bool} → b ≡ short → b ≡ false → Passes (early (picking a vs) w spare W) a vs m
      long_enough s t =
          let g = rw e at h in
          record {
            clean = up_to_short s ∙ ap (λ (x : Bool). cond x (some ShortRun) none) t;
            marked = rw n_is at g.options;
            count = g.count;
          }

-- ---- what is known where none holds

pub record Open (x : Picking) (w : Working) (spare : Runs) (W : ℕ) : Type 0 where
  pub set : ordered x.set ≡ true
  pub within : some_beyond (options x.set) x.picks ≡ false
  pub stack : 2 * options x.set + 1 ≤ length w.stack
  pub index : W ≤ length w.index
  pub variable : (length x.picks + 4) * W ≤ length spare.variable
  pub low : (length x.picks + 4) * W ≤ length spare.low
  pub high : (length x.picks + 4) * W ≤ length spare.high

pub opened : (x : Picking) (w : Working) (spare : Runs) (W : ℕ) → first_in_list (early x w spare W) ≡ none → Open x w spare W
opened x w spare W h =
    let k = length x.picks in
    let set = clear _ _ h in
    let option = clear _ _ set.rest in
    let list = clear _ _ option.rest in
    let stack = clear _ _ list.rest in
    let index = clear _ _ stack.rest in
    let spares = clear _ _ index.rest in
    let two = or_left (spare_short k W spare.variable || spare_short k W spare.low) (spare_short k W spare.high) spares.here in
    record {
      set = not-false _ set.here;
      within = option.here;
      stack = ltb-false _ _ stack.here;
      index = ltb-false _ _ index.here;
      variable = ltb-false _ _ (or_left (spare_short k W spare.variable) (spare_short k W spare.low) two);
      low = ltb-false _ _ (or_right (spare_short k W spare.variable) (spare_short k W spare.low) two);
      high = ltb-false _ _ (or_right (spare_short k W spare.variable || spare_short k W spare.low) (spare_short k W spare.high) spares.here);
    }

pub passing : (cs : Checks) (a : Runs) (vs : List ℕ) {r : (Result Marks Refusal)} {m : Marks} → Admits cs a vs r → r ≡ Ok m → Passes cs a vs m
passing cs a vs h e = rw e at h

pub stopping : (cs : Checks) (a : Runs) (vs : List ℕ) {r : (Result Marks Refusal)} {why : Refusal} → Admits cs a vs r → r ≡ Err why → Stops cs why
stopping cs a vs h e = rw e at h
