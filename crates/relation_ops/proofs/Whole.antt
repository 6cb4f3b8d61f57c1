-- Picking whole: refused by its checks, refused by a step, or done. And what the promise of a call says of the step that it is.
use Rattle.std.specs.Prelude.{Err, Ok}
use Prim.Native.Nat.{ℕ}
use mathlib.Core.Path.{◌≡◌, refl, sym, ap, ◌∙◌}
use mathlib.Core.Bool.{Bool, true, false, not, ◌||◌}
use mathlib.Core.List.{List, [], ◌∷◌, ◌++◌}
use mathlib.Core.Option.{Option, none, some}
use native.Mathlib.Omega.{arith}
use lib.ListN.{length, get_or}
use lib.Dec.{ltb}
use borrow.Author.Tests.{not-false, ltb-false, leb-false, eq-eqb}
use Rattle.bdd.specs.Array.{Entry, Runs, runs, laid, entries_of, options, ordered}
use Rattle.bdd.specs.Value.{value}
use Rattle.bdd.specs.Jobs.{listed, picked}
use Rattle.bdd.specs.Pairs.{room}
use Rattle.bdd.specs.Answers.{Checks, gives, Makes, Told, told, told_answer, told_first, answered, first_refusal, number, clears, all_zero, outputs_after, working_after, comes_first, row_in, paper_order}
use Rattle.bdd.specs.Operations.{Working, stack_short}
use Rattle.bdd.specs.Lent.{Answer}
use Rattle.bdd.specs.declared.Refusal.{Refusal}
use Rattle.bdd.specs.declared.Refusal.TheVariants.{LeftNotOrdered, NoSuchOption, BadList, ShortRun, PairRoom, NoRoom, BadTable, RightNotOrdered, CountsDiffer, OverLimit}
use Rattle.bdd.proofs.Refusing as refusing
use Rattle.bdd.proofs.Refusing.{ascending, first_in_list, answered_in_order, told_once, no_refusal, clear, outputs_kept, working_kept, output_cleared, working_cleared}
use Rattle.relation_ops.specs.Picking.{Outcome, wrote, stopped, ended, step, Picking, Picks, picking, picking_one, pick_steps, greatest_first, picking_checks, step_checks, answer_of, array_from, some_beyond, repeats, spare_short}
use Rattle.relation_ops.proofs.Steps.{Made, Late, no_pairs, no_room_left, Roomy, or_left, none_beyond, not_none, nothing_first, pick_late, pick_wrote, copy_wrote, var_pick_late, var_pick_picked}

-- ---- a call as a step

-- the answer of a call is that of the step
pub told_step : {checks : ℕ → ℕ → Checks} {es : List Entry} {was now : Runs} {r : Answer} → Makes checks es was now r → r ≡ answer_of (step (room was) checks es)
told_step {checks} {es} {was} {now} {r} m = at (first_refusal (checks (room was) (length es))) m.answer
  where
    at : (o : Option Refusal) → told_answer r ≡ told_first o (length es ∷ []) → r ≡ answer_of (ended o es)
    at none e = told_once r (Ok (length es)) e
    at (some why) e = told_once r (Err why) e

-- ---- the ends

late_first : (why : Refusal) → Late why → first_in_list (step_checks (stopped why)) ≡ some why
unfolding first_in_list
late_first PairRoom no_pairs = refl
late_first NoRoom no_room_left = refl
late_first BadTable never = elim never [ ]
late_first LeftNotOrdered never = elim never [ ]
late_first RightNotOrdered never = elim never [ ]
late_first CountsDiffer never = elim never [ ]
late_first NoSuchOption never = elim never [ ]
late_first BadList never = elim never [ ]
late_first ShortRun never = elim never [ ]
late_first OverLimit never = elim never [ ]

late_clears : (why : Refusal) → Late why → clears (number why) ≡ true
late_clears PairRoom no_pairs = refl
late_clears NoRoom no_room_left = refl
late_clears BadTable never = elim never [ ]
late_clears LeftNotOrdered never = elim never [ ]
late_clears RightNotOrdered never = elim never [ ]
late_clears CountsDiffer never = elim never [ ]
late_clears NoSuchOption never = elim never [ ]
late_clears BadList never = elim never [ ]
late_clears ShortRun never = elim never [ ]
late_clears OverLimit never = elim never [ ]

-- every working run and every spare run all zero
pub record Cleared (lent back : Working) (spare given_back : Runs) : Type 0 where
  pub pairs : back.pairs ≡ all_zero lent.pairs
  pub stack : back.stack ≡ all_zero lent.stack
  pub index : back.index ≡ all_zero lent.index
  pub variable : given_back.variable ≡ all_zero spare.variable
  pub low : given_back.low ≡ all_zero spare.low
  pub high : given_back.high ≡ all_zero spare.high

-- 2, 5, 10 and 6
abbrev pub early : Picking → Working → Runs → ℕ → Checks
early x w spare W =
    let k = length x.picks in
    gives LeftNotOrdered (not (ordered x.set))
    ∷ gives NoSuchOption (some_beyond (options x.set) x.picks)
    ∷ gives BadList (repeats x.picks)
    ∷ gives ShortRun (stack_short (options x.set) (length w.stack))
    ∷ gives ShortRun (ltb (length w.index) W)
    ∷ gives ShortRun (spare_short k W spare.variable || spare_short k W spare.low || spare_short k W spare.high)
    ∷ []

module _ (x : Picking) (was : Runs) (lent : Working) (spare : Runs) where
  abbrev outcome : Outcome
  outcome = x.steps lent (room was)

  abbrev S : ℕ
  S = length (array_from outcome)

  answers : {o : Option Refusal} → first_in_list (early x lent spare (room was) ++ step_checks outcome) ≡ o
      → told_first o (S ∷ []) ≡ answered (picking_checks x lent spare (room was) S) (S ∷ [])
  unfolding ascending comes_first row_in paper_order
  answers e = ap (λ (o : Option Refusal). told_first o (S ∷ [])) (sym e) ∙ sym (answered_in_order (early x lent spare (room was) ++ step_checks outcome) (S ∷ []) refl)

  -- refused by the checks: every run is as it was
  pub picks_refused : {why : Refusal} → first_in_list (early x lent spare (room was)) ≡ some why → clears (number why) ≡ false → Picks x was was lent lent spare spare (Err why)
  picks_refused {why} e k =
      record {
        makes = record { answer = answers (refusing.stopped (early x lent spare (room was)) (step_checks outcome) e); outputs = outputs_kept why k (laid (array_from outcome)) was };
        pairs = working_kept why k lent.pairs;
        stack = working_kept why k lent.stack;
        index = working_kept why k lent.index;
        spare_variable = working_kept why k spare.variable;
        spare_low = working_kept why k spare.low;
        spare_high = working_kept why k spare.high;
      }

  module _ (clean : first_in_list (early x lent spare (room was)) ≡ none) (now : Runs) (back : Working) (given_back : Runs) (cleared : Cleared lent back spare given_back) where
    clean_answers : {o : Option Refusal} → first_in_list (step_checks outcome) ≡ o → told_first o (S ∷ []) ≡ answered (picking_checks x lent spare (room was) S) (S ∷ [])
    clean_answers e = answers (refusing.passed (early x lent spare (room was)) (step_checks outcome) clean ∙ e)

    -- refused by a step: every run is all zero
    pub picks_stopped : {why : Refusal} → outcome ≡ stopped why → Late why → now ≡ runs (all_zero was.variable) (all_zero was.low) (all_zero was.high)
        → Picks x was now lent back spare given_back (Err why)
    picks_stopped {why} e late n =
        let k = late_clears why late in
        let made = laid (array_from outcome) in
        let v = output_cleared why k made.variable was.variable in
        let l = output_cleared why k made.low was.low in
        let h = output_cleared why k made.high was.high in
        record {
          makes =
              record {
                answer = clean_answers {o = some why} (ap (λ (o : Outcome). first_in_list (step_checks o)) e ∙ late_first why late);
                outputs = n ∙ sym (λ i. record { variable = v i; low = l i; high = h i });
              };
          pairs = cleared.pairs ∙ sym (working_cleared why k lent.pairs);
          stack = cleared.stack ∙ sym (working_cleared why k lent.stack);
          index = cleared.index ∙ sym (working_cleared why k lent.index);
          spare_variable = cleared.variable ∙ sym (working_cleared why k spare.variable);
          spare_low = cleared.low ∙ sym (working_cleared why k spare.low);
          spare_high = cleared.high ∙ sym (working_cleared why k spare.high);
        }

    -- done: the array of the last step stands first
    pub picks_done : {es : List Entry} → outcome ≡ wrote es → now ≡ outputs_after 0 (laid es) was → Picks x was now lent back spare given_back (Ok (length es))
    unfolding first_in_list working_after
    picks_done {es} e n =
        record {
          makes =
              record {
                answer =
                    ap (λ (o : Outcome). told 0 (length (array_from o) ∷ [])) (sym e)
                    ∙ clean_answers {o = none} (ap (λ (o : Outcome). first_in_list (step_checks o)) e);
                outputs = n ∙ ap (λ (o : Outcome). outputs_after 0 (laid (array_from o)) was) (sym e);
              };
          pairs = cleared.pairs;
          stack = cleared.stack;
          index = cleared.index;
          spare_variable = cleared.variable;
          spare_low = cleared.low;
          spare_high = cleared.high;
        }

-- ---- what is done is picked

-- the output holds an array of this kind, S entries long
pub record Written (kind : List Entry → Type 0) (was now : Runs) (s : ℕ) : Type 0 where
  pub made : List Entry
  pub is : kind made
  pub size : s ≡ length made
  pub outputs : now ≡ outputs_after 0 (laid made) was

none_first : (cs : Checks) (s t : ℕ) → told_answer (Ok s) ≡ told_first (first_in_list cs) (t ∷ []) → first_in_list cs ≡ none
none_first cs s t e = at (first_in_list cs) e
  where
    at : (o : Option Refusal) → told_answer (Ok s) ≡ told_first o (t ∷ []) → o ≡ none
    at none q = refl
    at (some why) q = absurd (no_refusal why (ap (λ (x : Told). x.number) q))

not_late : (why : Refusal) → Late why → first_in_list (step_checks (stopped why)) ≡ none → ⊥
not_late why late e =
    let p = late_first why late in
    let z : ◌≡◌ {A = ℕ} 0 1 = cc in
    omega arith

module _ (x : Picking) (kind : List Entry → Type 0) (was : Runs) (lent : Working) (spare : Runs)
    (late : (why : Refusal) → ordered x.set ≡ true → some_beyond (options x.set) x.picks ≡ false → Roomy lent (room was) (options x.set) → x.steps lent (room was) ≡ stopped why → Late why)
    (written : (es : List Entry) → some_beyond (options x.set) x.picks ≡ false → x.steps lent (room was) ≡ wrote es → kind es) where
  done_so : {now : Runs} {back : Working} {given_back : Runs} {s : ℕ} → Picks x was now lent back spare given_back (Ok s) → Written kind was now s
  unfolding ascending comes_first row_in paper_order
  done_so {now} {back} {given_back} {s} picks =
      let all = early x lent spare (room was) ++ step_checks (outcome x was lent spare) in
      let n = none_first all s (S x was lent spare) (picks.makes.answer ∙ answered_in_order all (S x was lent spare ∷ []) refl) in
      let left = clear _ _ n in
      let option = clear _ _ left.rest in
      let list = clear _ _ option.rest in
      let stack = clear _ _ list.rest in
      let index = clear _ _ stack.rest in
      let spares = clear _ _ index.rest in
      let told_so : told 0 (s ∷ []) ≡ told 0 (S x was lent spare ∷ []) = picks.makes.answer ∙ answered_in_order all (S x was lent spare ∷ []) refl ∙ ap (λ (o : Option Refusal). told_first o (S x was lent spare ∷ [])) n in
      at option.here (ap (λ (t : Told). get_or t.values 0 0) told_so)
      (λ why e. late why (not-false _ left.here) option.here (record { stack = ltb-false _ _ stack.here; index = ltb-false _ _ index.here }) e)
      spares.rest (outcome x was lent spare) refl
    where
      at : some_beyond (options x.set) x.picks ≡ false → s ≡ S x was lent spare → ((why : Refusal) → outcome x was lent spare ≡ stopped why → Late why)
          → first_in_list (step_checks (outcome x was lent spare)) ≡ none → (o : Outcome) → outcome x was lent spare ≡ o → Written kind was now s
      at b q h c (wrote es) e =
          let same = ap array_from e in
          record { made = es; is = written es b e; size = q ∙ ap length same; outputs = picks.makes.outputs ∙ ap (λ (made : List Entry). outputs_after 0 (laid made) was) same }
      at b q h c (stopped why) e = absurd (not_late why (h why e) (ap (λ (o : Outcome). first_in_list (step_checks o)) (sym e) ∙ c))

module _ (a : Runs) {was now : Runs} {lent back : Working} {spare given_back : Runs} {s : ℕ} where
  -- the one array, in signing order, of what is picked
  pub pick_done : (v : ℕ) (vs : List ℕ) → Picks (picking a (v ∷ vs)) was now lent back spare given_back (Ok s)
      → Written (Made (options a) (picked (options a) (v ∷ vs) (value a))) was now s
  unfolding some_beyond listed
  pick_done v vs =
      done_so (picking a (v ∷ vs)) _ was lent spare
      (λ why h b roomy e. pick_late lent (room was) (omega arith) (greatest_first (v ∷ vs) (options a)) a why h (none_beyond (v ∷ vs) (options a) (options a) (omega arith)) roomy e)
      (λ es b e.
      pick_wrote lent (room was) (omega arith) (v ∷ vs) a es
      (not_none (v ∷ vs) (options a) v (leb-false (options a) v (or_left _ _ b)) (ap (λ (t : Bool). t || listed vs v) (eq-eqb v v refl))) e)

  pub var_pick_done : (v : ℕ) → Picks (picking_one a v) was now lent back spare given_back (Ok s)
      → Written (Made (options a) (picked (options a) (v ∷ []) (value a))) was now s
  unfolding some_beyond
  var_pick_done v =
      done_so (picking_one a v) _ was lent spare
      (λ why h b roomy e. var_pick_late lent (room was) (omega arith) a v why h (leb-false (options a) v (or_left _ _ b)) roomy e)
      (λ es b e. var_pick_picked lent (room was) (omega arith) a v es e)

  -- with nothing to pick the set as it is
  pub copy_done : Picks (picking a []) was now lent back spare given_back (Ok s) → Written (λ es. es ≡ entries_of a) was now s
  unfolding some_beyond
  copy_done =
      done_so (picking a []) _ was lent spare
      (λ why h b roomy e. pick_late lent (room was) (omega arith) (greatest_first [] (options a)) a why h (none_beyond [] (options a) (options a) (omega arith)) roomy e)
      (λ es b e. copy_wrote lent (room was) (omega arith) a es (ap (λ (vs : List ℕ). pick_steps lent (room was) vs a) (sym (nothing_first (options a))) ∙ e))
