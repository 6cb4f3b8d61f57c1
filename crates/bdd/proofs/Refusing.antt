-- The refusals one by one: where a call's checks stand in the paper's order, the first that holds is answered. And an answer's number
-- and values tell which answer it is.
use Rattle.std.specs.Prelude.{Err, Ok}
use Prim.Native.Nat.{ℕ, ◌<◌}
use mathlib.Core.Path.{◌≡◌, refl, sym, ap, ◌∙◌}
use mathlib.Core.Bool.{Bool, true, false, cond, ◌&&◌}
use mathlib.Core.List.{List, [], ◌∷◌, ◌++◌}
use mathlib.Core.Option.{Option, none, some}
use native.Mathlib.Omega.{arith}
use lib.ListN.{get_or}
use lib.Dec.{eqb}
use borrow.Author.Tests.{leb-true, le-leb, ne_eqb}
use Rattle.bdd.specs.Answers.{Check, Checks, Told, number, paper_order, row_in, comes_first, first_of_two, first_refusal, answered, told_first, told_answer, clears, all_zero, refused_after, output_after, outputs_after, working_after}
use Rattle.bdd.specs.Array.{Runs}
use Rattle.bdd.specs.Lent.{Answer}
use Rattle.bdd.specs.declared.Refusal.{Refusal}
use Rattle.bdd.specs.declared.Refusal.TheVariants.{BadTable, LeftNotOrdered, RightNotOrdered, CountsDiffer, NoSuchOption, BadList, ShortRun, PairRoom, OverLimit, NoRoom}
use Rattle.bdd.proofs.Logic.{and_left, and_right}

-- the checks stand in the paper's order
unfoldable pub ascending : Checks → Bool
ascending [] = true
ascending (c ∷ []) = true
ascending (c ∷ d ∷ cs) = comes_first c.refusal d.refusal && ascending (d ∷ cs)

ascending_first : (c d : Check) (ds : Checks) → ascending (c ∷ d ∷ ds) ≡ true → comes_first c.refusal d.refusal ≡ true
unfolding ascending
ascending_first c d ds a = and_left (comes_first c.refusal d.refusal) (ascending (d ∷ ds)) a

ascending_rest : (c : Check) (cs : Checks) → ascending (c ∷ cs) ≡ true → ascending cs ≡ true
unfolding ascending
ascending_rest c [] a = refl
ascending_rest c (d ∷ ds) a = and_right (comes_first c.refusal d.refusal) (ascending (d ∷ ds)) a

-- the first of the list that holds
unfoldable pub first_in_list : Checks → Option Refusal
first_in_list [] = none
first_in_list (c ∷ cs) = cond c.holds (some c.refusal) (first_in_list cs)

comes_first_trans : (a b c : Refusal) → comes_first a b ≡ true → comes_first b c ≡ true → comes_first a c ≡ true
unfolding comes_first
comes_first_trans a b c p q =
    let row : Refusal → ℕ = λ why. row_in paper_order (number why) in
    le-leb (row a) (row c) (omega (arith, leb-true (row a) (row b) p, leb-true (row b) (row c) q))

-- a refusal that comes before all that an ascending list gives is the first of both
ahead_of : (why w : Refusal) (b : Bool) (rest : Option Refusal) → comes_first why w ≡ true → first_of_two why rest ≡ some why
    → first_of_two why (cond b (some w) rest) ≡ some why
unfolding first_of_two
ahead_of why w true rest p h = rw p
ahead_of why w false rest p h = h

ahead : (why : Refusal) (c : Check) (cs : Checks) → comes_first why c.refusal ≡ true → ascending (c ∷ cs) ≡ true
    → first_of_two why (first_in_list (c ∷ cs)) ≡ some why
unfolding first_in_list first_of_two ascending
ahead why c [] p a = ahead_of why c.refusal c.holds none p refl
ahead why c (d ∷ ds) p a =
    ahead_of why c.refusal c.holds (first_in_list (d ∷ ds)) p
    (ahead why d ds (comes_first_trans why c.refusal d.refusal p (ascending_first c d ds a)) (ascending_rest c (d ∷ ds) a))

-- what the first check gives, before the rest of an ascending list
first_ahead : (c : Check) (cs : Checks) → ascending (c ∷ cs) ≡ true → first_of_two c.refusal (first_in_list cs) ≡ some c.refusal
unfolding first_in_list first_of_two ascending
first_ahead c [] a = refl
first_ahead c (d ∷ ds) a = ahead c.refusal d ds (ascending_first c d ds a) (ascending_rest c (d ∷ ds) a)

-- checks in the paper's order are answered by the first of the list that holds
pub one_by_one : (cs : Checks) → ascending cs ≡ true → first_refusal cs ≡ first_in_list cs
unfolding first_refusal first_in_list
one_by_one [] a = refl
one_by_one (c ∷ cs) a = rw (one_by_one cs (ascending_rest c cs a), first_ahead c cs a)

pub answered_in_order : (cs : Checks) (values : List ℕ) → ascending cs ≡ true → answered cs values ≡ told_first (first_in_list cs) values
answered_in_order cs values a = ap (λ (o : Option Refusal). told_first o values) (one_by_one cs a)

-- where none of the list holds, the first does not, and none of the rest
pub record Clear (c : Check) (cs : Checks) : Type 0 where
  pub here : c.holds ≡ false
  pub rest : first_in_list cs ≡ none

pub clear : (c : Check) (cs : Checks) → first_in_list (c ∷ cs) ≡ none → Clear c cs
unfolding first_in_list
clear c cs h = at c.holds refl h
  where
    at : (b : Bool) → c.holds ≡ b → cond b (some c.refusal) (first_in_list cs) ≡ none → Clear c cs
    at true e k = absurd (let z : ◌≡◌ {A = ℕ} 0 1 = cc in omega arith)
    at false e k = record { here = e; rest = k }

-- checks of which none holds, before others
pub passed : (cs rest : Checks) → first_in_list cs ≡ none → first_in_list (cs ++ rest) ≡ first_in_list rest
unfolding first_in_list
passed [] rest h = refl
passed (c ∷ cs) rest h = at c.holds (passed cs rest) h
  where
    at : (b : Bool) → (first_in_list cs ≡ none → first_in_list (cs ++ rest) ≡ first_in_list rest)
        → cond b (some c.refusal) (first_in_list cs) ≡ none → cond b (some c.refusal) (first_in_list (cs ++ rest)) ≡ first_in_list rest
    at true g k = absurd (let z : ◌≡◌ {A = ℕ} 0 1 = cc in omega arith)
    at false g k = g k

-- checks that stop at one, before others
pub stopped : (cs rest : Checks) {why : Refusal} → first_in_list cs ≡ some why → first_in_list (cs ++ rest) ≡ some why
unfolding first_in_list
stopped [] rest h = absurd (let z : ◌≡◌ {A = ℕ} 0 1 = cc in omega arith)
stopped (c ∷ cs) rest {why} h = at c.holds (stopped cs rest) h
  where
    at : (b : Bool) → (first_in_list cs ≡ some why → first_in_list (cs ++ rest) ≡ some why)
        → cond b (some c.refusal) (first_in_list cs) ≡ some why → cond b (some c.refusal) (first_in_list (cs ++ rest)) ≡ some why
    at true g k = k
    at false g k = g k

-- ---- the paper's numbers tell the refusals apart from each other and from 0

-- the refusals at their numbers; none has number 0
refusals : List Refusal
refusals = BadTable ∷ BadTable ∷ LeftNotOrdered ∷ RightNotOrdered ∷ CountsDiffer ∷ NoSuchOption ∷ ShortRun ∷ PairRoom ∷ OverLimit ∷ NoRoom ∷ BadList ∷ []

record Numbered (why : Refusal) : Type 0 where
  found : get_or refusals (number why) BadTable ≡ why
  positive : 0 < number why

numbered : (why : Refusal) → Numbered why
unfolding refusals
numbered BadTable = record { found = refl; positive = omega arith }
numbered LeftNotOrdered = record { found = refl; positive = omega arith }
numbered RightNotOrdered = record { found = refl; positive = omega arith }
numbered CountsDiffer = record { found = refl; positive = omega arith }
numbered NoSuchOption = record { found = refl; positive = omega arith }
numbered ShortRun = record { found = refl; positive = omega arith }
numbered PairRoom = record { found = refl; positive = omega arith }
numbered OverLimit = record { found = refl; positive = omega arith }
numbered NoRoom = record { found = refl; positive = omega arith }
numbered BadList = record { found = refl; positive = omega arith }

pub one_refusal : (why other : Refusal) → number why ≡ number other → why ≡ other
one_refusal why other e = sym (numbered why).found ∙ ap (λ (n : ℕ). get_or refusals n BadTable) e ∙ (numbered other).found

pub no_refusal : (why : Refusal) → 0 ≡ number why → ⊥
no_refusal why e = let p = (numbered why).positive in omega arith

pub told_once : (r q : Answer) → told_answer r ≡ told_answer q → r ≡ q
told_once (Ok s) (Ok t) e = ap (λ (x : Told). Ok (get_or x.values 0 0)) e
told_once (Ok s) (Err why) e = absurd (no_refusal why (ap (λ (x : Told). x.number) e))
told_once (Err why) (Ok s) e = absurd (no_refusal why (ap (λ (x : Told). x.number) (sym e)))
told_once (Err why) (Err other) e = ap Err (one_refusal why other (ap (λ (x : Told). x.number) e))

-- ---- the runs after a refusal, whichever it is

not_done : (why : Refusal) → eqb (number why) 0 ≡ false
not_done why = ne_eqb (number why) 0 (λ e. no_refusal why (sym e))

output_refused : (why : Refusal) (made was : List ℕ) → output_after (number why) made was ≡ refused_after (number why) was
unfolding output_after
output_refused why made was = rw (not_done why)

working_refused : (why : Refusal) (was : List ℕ) → working_after (number why) was ≡ refused_after (number why) was
unfolding working_after
working_refused why was = rw (not_done why)

-- a refusal that keeps: every run is as it was
module _ (why : Refusal) (keeps : clears (number why) ≡ false) where
  output_kept : (made was : List ℕ) → was ≡ output_after (number why) made was
  unfolding refused_after
  output_kept made was = sym (output_refused why made was ∙ rw keeps)

  pub outputs_kept : (made was : Runs) → was ≡ outputs_after (number why) made was
  outputs_kept made was =
      let v = output_kept made.variable was.variable in
      let l = output_kept made.low was.low in
      let h = output_kept made.high was.high in
      λ i. record { variable = v i; low = l i; high = h i }

  pub working_kept : (was : List ℕ) → was ≡ working_after (number why) was
  unfolding refused_after
  working_kept was = sym (working_refused why was ∙ rw keeps)

-- a refusal that clears: every run is all zero
module _ (why : Refusal) (cleared : clears (number why) ≡ true) where
  pub output_cleared : (made was : List ℕ) → output_after (number why) made was ≡ all_zero was
  unfolding refused_after
  output_cleared made was = output_refused why made was ∙ rw cleared

  pub working_cleared : (was : List ℕ) → working_after (number why) was ≡ all_zero was
  unfolding refused_after
  working_cleared was = working_refused why was ∙ rw cleared
