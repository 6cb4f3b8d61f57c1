-- From the operator's promise to that of the job: the refusals that can never come fall away, and the others stand.
use Rattle.std.specs.Prelude.{Err, None, Ok}
use Prim.Native.Nat.{ℕ}
use mathlib.Core.Path.{◌≡◌, refl, sym, ap, ◌∙◌}
use mathlib.Core.Bool.{Bool, true, false, cond, not, ◌||◌}
use mathlib.Core.List.{List, [], ◌∷◌, ◌++◌}
use mathlib.Core.Option.{Option, none, some}
use native.Mathlib.Omega.{arith}
use lib.ListN.{length}
use lib.Dec.{eqb, leb, ltb}
use borrow.Author.Tests.{ne_eqb, eq-eqb, eqb-true, lt-ltb, le-ltb, leb-true, leb-false}
use Rattle.bdd.specs.Array.{Runs, runs, laid, options, ordered}
use Rattle.bdd.specs.Value.{value}
use Rattle.bdd.specs.Signed.{signed, high_first}
use Rattle.bdd.specs.Table.{good}
use Rattle.bdd.specs.Jobs.{digit}
use Rattle.bdd.specs.Pairs.{job, result, tasks, pair_room, room}
use Rattle.bdd.specs.Answers.{Checks, gives, told_answer, told_first, number, number_of, answered, first_refusal, clears, no_room, over_limit, output_after, outputs_after, refused_after, working_after, comes_first, row_in, paper_order}
use Rattle.bdd.specs.Operations.{Operation, Working, operation, operation_checks, made, beyond, stack_short, Operates}
use Rattle.bdd.specs.Lent.{Answer}
use Rattle.bdd.specs.declared.Refusal.{Refusal}
use Rattle.bdd.specs.declared.Refusal.TheVariants.{LeftNotOrdered, RightNotOrdered, CountsDiffer, NoSuchOption, ShortRun, PairRoom, OverLimit, NoRoom}
use Rattle.bdd.proofs.Ordered.{ordered_open}
use Rattle.bdd.proofs.Refusing.{ascending, first_in_list, one_by_one, answered_in_order, passed, stopped, told_once, no_refusal}
use Rattle.operators.specs.Numbered.{numbered}
use Rattle.relation_ops.specs.Relations.{Relation, set_of, array_of, relation_checks, Relates, existential, universal, selection, retold, as_option}
use Rattle.relation_ops.proofs.Values.{exists_value, for_all_value, selected_value, literal_ordered, good_table}

-- a refusal in other words, if there is one
abbrev reworded : (Refusal → Refusal) → Option Refusal → Option Refusal
reworded word none = none
reworded word (some why) = some (word why)

-- the words leave every run as it is after the refusal, and change none that the job's own checks give
record Faithful (word : Refusal → Refusal) : Type 0 where
  runs : (why : Refusal) → clears (number why) ≡ clears (number (word why))
  left : word LeftNotOrdered ≡ LeftNotOrdered
  short : word ShortRun ≡ ShortRun
  pairs : word PairRoom ≡ PairRoom
  room : word NoRoom ≡ NoRoom

-- the operator's checks of what is made from the set
abbrev of_the_other : Relation → Checks
of_the_other x =
    let n = options (set_of x) in
    gives RightNotOrdered (not (ordered x.job.right))
    ∷ gives CountsDiffer (not (eqb n (options x.job.right)))
    ∷ gives NoSuchOption (beyond n x.job.flip_left || beyond n x.job.flip_right || beyond n None)
    ∷ []

abbrev of_the_option : Relation → Checks
of_the_option x = gives NoSuchOption (leb (options (set_of x)) x.option) ∷ []

-- an operator that does the job: a good table, the job's value, and it says no to what is made from the set exactly where the option is n
-- or more
pub record Does (x : Relation) (word : Refusal → Refusal) : Type 0 where
  pub table : good 2 x.job.table ≡ true
  pub meant : result x.job None ≡ x.meant
  pub option : ordered (set_of x) ≡ true → reworded word (first_in_list (of_the_other x)) ≡ first_in_list (of_the_option x)

abbrev operator_of : Relation → Operation
operator_of x = operation x.job None None

-- 6, 7 and 9: the operator's, which has no limit, and the job's
abbrev late : Relation → Working → ℕ → ℕ → Checks
late x w W s =
    gives ShortRun (stack_short (options (set_of x)) (length w.stack))
    ∷ gives ShortRun (ltb (length w.index) W)
    ∷ gives PairRoom (ltb (pair_room w.pairs) (tasks x.job))
    ∷ gives OverLimit (over_limit None W s)
    ∷ gives NoRoom (no_room None W s)
    ∷ []

abbrev own_late : Relation → Working → ℕ → ℕ → Checks
own_late x w W s =
    gives ShortRun (stack_short (options (set_of x)) (length w.stack))
    ∷ gives ShortRun (ltb (length w.index) W)
    ∷ gives PairRoom (ltb (pair_room w.pairs) (tasks x.job))
    ∷ gives NoRoom (no_room None W s)
    ∷ []

-- checks one after the other
joined : (word : Refusal → Refusal) (cs ds more rest : Checks) → reworded word (first_in_list cs) ≡ first_in_list ds
    → reworded word (first_in_list more) ≡ first_in_list rest → reworded word (first_in_list (cs ++ more)) ≡ first_in_list (ds ++ rest)
joined word cs ds more rest h k = at (first_in_list cs) refl
  where
    at : (o : Option Refusal) → first_in_list cs ≡ o → reworded word (first_in_list (cs ++ more)) ≡ first_in_list (ds ++ rest)
    at none e = ap (reworded word) (passed cs more e) ∙ k ∙ sym (passed ds rest (sym h ∙ ap (reworded word) e))
    at (some why) e = ap (reworded word) (stopped cs more e) ∙ sym (stopped ds rest (sym h ∙ ap (reworded word) e))

module _ (word : Refusal → Refusal) (faithful : Faithful word) where
  -- 6, 7 and 9
  stays : (stack index pairs full : Bool)
      → reworded word (cond stack (some ShortRun) (cond index (some ShortRun) (cond pairs (some PairRoom) (cond full (some NoRoom) none))))
      ≡ cond stack (some ShortRun) (cond index (some ShortRun) (cond pairs (some PairRoom) (cond full (some NoRoom) none)))
  stays true index pairs full = ap some faithful.short
  stays false true pairs full = ap some faithful.short
  stays false false true full = ap some faithful.pairs
  stays false false false true = ap some faithful.room
  stays false false false false = refl

  told_so : (r : Answer) (o : Option Refusal) (s : ℕ) → told_answer r ≡ told_first o (s ∷ []) → told_answer (retold word r) ≡ told_first (reworded word o) (s ∷ [])
  told_so r none s e = ap (λ (q : Answer). told_answer (retold word q)) (told_once r (Ok s) e)
  told_so r (some why) s e = ap (λ (q : Answer). told_answer (retold word q)) (told_once r (Err why) e)

  refused : (why : Refusal) → eqb (number why) 0 ≡ false
  refused why = ne_eqb (number why) 0 (λ e. no_refusal why (sym e))

  same_output : (r : Answer) (array was : List ℕ) → output_after (number_of r) array was ≡ output_after (number_of (retold word r)) array was
  unfolding output_after refused_after
  same_output (Ok s) array was = refl
  same_output (Err why) array was = rw (refused why, refused (word why), faithful.runs why)

  outputs_same : (r : Answer) (array was : Runs) → outputs_after (number_of r) array was ≡ outputs_after (number_of (retold word r)) array was
  outputs_same r array was =
      let v = same_output r array.variable was.variable in
      let l = same_output r array.low was.low in
      let h = same_output r array.high was.high in
      λ i. record { variable = v i; low = l i; high = h i }

  same_working : (r : Answer) (was : List ℕ) → working_after (number_of r) was ≡ working_after (number_of (retold word r)) was
  unfolding working_after refused_after
  same_working (Ok s) was = refl
  same_working (Err why) was = rw (refused why, refused (word why), faithful.runs why)

  module _ (x : Relation) (does : Does x word) where
    first : (w : Working) (W s : ℕ) → reworded word (first_in_list (operation_checks (operator_of x) w W s)) ≡ first_in_list (relation_checks x w W s)
    unfolding first_in_list over_limit
    first w W s = rw does.table (at (ordered (set_of x)) refl)
      where
        at : (b : Bool) → ordered (set_of x) ≡ b
            → reworded word (cond (not b) (some LeftNotOrdered) (first_in_list (of_the_other x ++ late x w W s)))
            ≡ cond (not b) (some LeftNotOrdered) (first_in_list (of_the_option x ++ own_late x w W s))
        at false e = ap some faithful.left
        at true e =
            joined word (of_the_other x) (of_the_option x) (late x w W s) (own_late x w W s) (does.option e)
            (stays (stack_short (options (set_of x)) (length w.stack)) (ltb (length w.index) W) (ltb (pair_room w.pairs) (tasks x.job)) (no_room None W s))

    answers : (w : Working) (W s : ℕ) (r : Answer) → told_answer r ≡ answered (operation_checks (operator_of x) w W s) (s ∷ []) → told_answer (retold word r) ≡ answered (relation_checks x w W s) (s ∷ [])
    unfolding ascending comes_first row_in paper_order
    answers w W s r e =
        told_so r (first_in_list (operation_checks (operator_of x) w W s)) s (e ∙ answered_in_order (operation_checks (operator_of x) w W s) (s ∷ []) refl)
        ∙ ap (λ (o : Option Refusal). told_first o (s ∷ [])) (first w W s)
        ∙ sym (answered_in_order (relation_checks x w W s) (s ∷ []) refl)

    relates : {was now : Runs} {lent back : Working} {r : Answer} → Operates (operator_of x) was now lent back r → Relates x was now lent back (retold word r)
    relates {was} {now} {lent} {back} {r} o =
        let same : made (operator_of x) ≡ array_of x = ap (signed high_first (options (set_of x))) does.meant in
        record {
          makes =
              rw (← same)
              record {
                answer = answers lent (room was) (length (made (operator_of x))) r o.makes.answer;
                outputs = o.makes.outputs ∙ outputs_same r (laid (made (operator_of x))) was;
              };
          pairs = o.pairs ∙ same_working r lent.pairs;
          stack = o.stack ∙ same_working r lent.stack;
          index = o.index ∙ same_working r lent.index;
        }

-- ---- the quantifiers: no refusal is told in other words

itself : Faithful (λ why. why)
itself = record { runs = λ why. refl; left = refl; short = refl; pairs = refl; room = refl }

as_it_is : (r : Answer) → retold (λ why. why) r ≡ r
as_it_is (Ok s) = refl
as_it_is (Err why) = refl

-- ordered on one side, ordered on the other, over the same options
same_set : (a : Runs) (v : ℕ) → ordered a ≡ true
    → reworded (λ why. why) (cond (not (ordered a)) (some RightNotOrdered) (cond (not (eqb (options a) (options a))) (some CountsDiffer) (cond (leb (options a) v || false) (some NoSuchOption) none)))
    ≡ cond (leb (options a) v) (some NoSuchOption) none
same_set a v e = rw (e, eq-eqb (options a) (options a) refl) (at (leb (options a) v))
  where
    at : (b : Bool) → reworded (λ why. why) (cond (b || false) (some NoSuchOption) none) ≡ cond b (some NoSuchOption) none
    at true = refl
    at false = refl

pub does_exists : (a : Runs) (v : ℕ) → Does (existential a v) (λ why. why)
unfolding first_in_list
does_exists a v = record { table = good_table 14 (omega arith); meant = exists_value v (value a); option = same_set a v }

-- the job is refused exactly as its operator is
pub exists_refusal : (a : Runs) (v : ℕ) (w : Working) (W s : ℕ) → first_refusal (relation_checks (existential a v) w W s) ≡ first_refusal (operation_checks (operator_of (existential a v)) w W s)
unfolding ascending comes_first row_in paper_order
exists_refusal a v w W s =
    let x = existential a v in
    one_by_one (relation_checks x w W s) refl
    ∙ sym (first (λ why. why) itself x (does_exists a v) w W s)
    ∙ same_words (first_in_list (operation_checks (operator_of x) w W s))
    ∙ sym (one_by_one (operation_checks (operator_of x) w W s) refl)
  where
    same_words : (o : Option Refusal) → reworded (λ why. why) o ≡ o
    same_words none = refl
    same_words (some why) = refl

pub does_for_all : (a : Runs) (v : ℕ) → Does (universal a v) (λ why. why)
unfolding first_in_list
does_for_all a v = record { table = good_table 8 (omega arith); meant = for_all_value v (value a); option = same_set a v }

module _ (a : Runs) (v : ℕ) {was now : Runs} {lent back : Working} {r : Answer} where
  pub exists_relates : Operates (operator_of (existential a v)) was now lent back r → Relates (existential a v) was now lent back r
  exists_relates o = rw (as_it_is r) at (relates (λ why. why) itself (existential a v) (does_exists a v) o)

  pub for_all_relates : Operates (operator_of (universal a v)) was now lent back r → Relates (universal a v) was now lent back r
  for_all_relates o = rw (as_it_is r) at (relates (λ why. why) itself (universal a v) (does_for_all a v) o)

-- ---- selection: 3 is told as 5

module _ (answer : Answer) (why : Refusal) (e : answer ≡ Err why) where
  pub option_for_3 : number why ≡ 3 → Err NoSuchOption ≡ retold as_option answer
  unfolding as_option
  option_for_3 h = rw (e, eq-eqb (number why) 3 h)

  pub others_stay : (number why ≡ 3 → ⊥) → Err why ≡ retold as_option answer
  unfolding as_option
  others_stay h = rw (e, ne_eqb (number why) 3 h)

option_word : Faithful as_option
unfolding as_option
option_word = record { runs = kept; left = refl; short = refl; pairs = refl; room = refl }
  where
    kept : (why : Refusal) → clears (number why) ≡ clears (number (as_option why))
    kept why = at (eqb (number why) 3) refl
      where
        at : (b : Bool) → eqb (number why) 3 ≡ b → clears (number why) ≡ clears (number (cond b NoSuchOption why))
        at true e = ap clears (eqb-true (number why) 3 e)
        at false e = refl

pub does_select : (a : Runs) (v : ℕ) (b : Bool) → Does (selection a v b) as_option
unfolding first_in_list as_option
does_select a v b =
    record {
      table = good_table 8 (omega arith);
      meant = selected_value (options a) v b (value a);
      option =
          λ e.
          let lit = literal_ordered (options a) v b (ordered_open a e).options_most in
          rw (lit, eq-eqb (options a) (options a) refl) (at (leb (options a) v) refl);
    }
  where
    at : (b : Bool) → leb (options a) v ≡ b → reworded as_option (cond (not (ltb v (options a))) (some RightNotOrdered) none) ≡ cond b (some NoSuchOption) none
    at true e = rw (le-ltb v (options a) (leb-true (options a) v e))
    at false e = rw (lt-ltb v (options a) (leb-false (options a) v e))

-- the literal's three entries, n as entry 0 of the set has it
module _ (a : Runs) (v : ℕ) (b : Bool) {was now : Runs} {lent back : Working} {r q : Answer} {n low high : ℕ} where
  pub select_relates : n ≡ options a → low ≡ digit (not b) → high ≡ digit b
      → Operates (operation (job a (runs (n ∷ n ∷ v ∷ []) (0 ∷ 1 ∷ low ∷ []) (0 ∷ 1 ∷ high ∷ [])) (numbered 8) None None) None None) was now lent back r
      → q ≡ retold as_option r → Relates (selection a v b) was now lent back q
  select_relates en el eh o e = rw e (relates as_option option_word (selection a v b) (does_select a v b) (rw (en, el, eh) at o))
