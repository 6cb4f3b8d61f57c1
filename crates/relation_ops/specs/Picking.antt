-- Picking: the sequence of its steps, each one operator into room W, and what it comes to; which refusal is given exactly when; and what
-- every lent run holds after its answer. The value is `picked`.
use Rattle.std.specs.Prelude.{ℕ, zero, suc, ◌+◌, ◌*◌, ◌≡◌, Bool, false, cond, not, ◌||◌, List, [], ◌∷◌, length, eqb, leb, ltb, Err, None, Ok, Some}
use Rattle.std.proofs.Math.Option.{Option, none, some}
use Rattle.bdd.specs.Array.{Entry, Runs, laid, entries_of, options, ordered}
use Rattle.bdd.specs.Jobs.{listed}
use Rattle.bdd.specs.Pairs.{Job, job, room}
use Rattle.bdd.specs.Answers.{Checks, gives, first_refusal, Makes, number, number_of, no_room, working_after}
use Rattle.bdd.specs.Operations.{Working, operation, operation_checks, made, stack_short}
use Rattle.bdd.specs.Lent.{Answer}
use Rattle.bdd.specs.declared.Refusal.{Refusal}
use Rattle.bdd.specs.declared.Refusal.TheVariants.{LeftNotOrdered, NoSuchOption, BadList, ShortRun, PairRoom, NoRoom}
use Rattle.operators.specs.Numbered.{numbered}
use Rattle.relation_ops.specs.Relations.{Relation, existential, selection, array_of, relation_checks}

-- what steps come to: the array of the last one, or the refusal of the first that is refused
pub data Outcome : Type 0 where
  wrote : List Entry → Outcome
  stopped : Refusal → Outcome

abbrev pub ended : Option Refusal → List Entry → Outcome
ended none es = wrote es
ended (some why) es = stopped why

-- the next step takes the array
abbrev pub followed_by : Outcome → (List Entry → Outcome) → Outcome
followed_by (wrote es) next = next es
followed_by (stopped why) next = stopped why

-- a step that makes this array, with its own checks, into room W
abbrev pub step : ℕ → (ℕ → ℕ → Checks) → List Entry → Outcome
step W checks es = ended (first_refusal (checks W (length es))) es

abbrev pub copy_checks : ℕ → ℕ → Checks
copy_checks W s = gives NoRoom (no_room None W s) ∷ []

-- with these working runs, into room W
module _ (w : Working) (W : ℕ) where
  abbrev pub relation_step : Relation → Outcome
  relation_step x = step W (relation_checks x w) (array_of x)

  abbrev pub operator_step : Job → Outcome
  operator_step j = step W (operation_checks (operation j None None) w) (made (operation j None None))

  -- select where the option is off; then the set and not that, flipped at the option
  abbrev pub var_pick_steps : Runs → ℕ → Outcome
  var_pick_steps a v =
      followed_by (relation_step (selection a v false)) (λ off. operator_step (job a (laid off) (numbered 4) None (Some v)))

  -- the options with the greatest first: it is quantified away, the rest is picked, then joined with `var_pick` of it; with
  -- no option the set is copied as it is
  unfoldable pub pick_steps : List ℕ → Runs → Outcome
  pick_steps [] a = step W copy_checks (entries_of a)
  pick_steps (v ∷ vs) a =
      followed_by (relation_step (existential a v))
      (λ without.
      followed_by (pick_steps vs (laid without))
      (λ rest. followed_by (var_pick_steps a v) (λ one. operator_step (job (laid rest) (laid one) (numbered 8) None None))))

-- the options of a list among the first n, the greatest first: the list may come in any order
unfoldable pub greatest_first : List ℕ → ℕ → List ℕ
greatest_first vs zero = []
greatest_first vs (suc m) = cond (listed vs m) (m ∷ greatest_first vs m) (greatest_first vs m)

-- some option of the list is n or more
unfoldable pub some_beyond : ℕ → List ℕ → Bool
some_beyond n [] = false
some_beyond n (v ∷ vs) = leb n v || some_beyond n vs

-- the list repeats an option
unfoldable pub repeats : List ℕ → Bool
repeats [] = false
repeats (v ∷ vs) = listed vs v || repeats vs

-- the set, the options that are picked, and the steps with these working runs into this room
pub record Picking : Type 0 where
  pub set : Runs
  pub picks : List ℕ
  pub steps : Working → ℕ → Outcome

abbrev pub picking : Runs → List ℕ → Picking
picking a vs = record { set = a; picks = vs; steps = λ w W. pick_steps w W (greatest_first vs (options a)) a }

abbrev pub picking_one : Runs → ℕ → Picking
picking_one a v = record { set = a; picks = v ∷ []; steps = λ w W. var_pick_steps w W a v }

abbrev pub answer_of : Outcome → Answer
answer_of (wrote es) = Ok (length es)
answer_of (stopped why) = Err why

abbrev pub array_from : Outcome → List Entry
array_from (wrote es) = es
array_from (stopped why) = []

abbrev pub stopped_with : ℕ → Outcome → Bool
stopped_with k (wrote es) = false
stopped_with k (stopped why) = eqb (number why) k

-- a step's refusal 7 or 9 is the answer of the whole
abbrev pub step_checks : Outcome → Checks
step_checks o = gives PairRoom (stopped_with 7 o) ∷ gives NoRoom (stopped_with 9 o) ∷ []

-- shorter than (k+4) times W, for k picked options
abbrev pub spare_short : ℕ → ℕ → List ℕ → Bool
spare_short k W spare = ltb (length spare) ((k + 4) * W)

-- 2, 5, 10, 6 for the stack, the index and each of the spare runs, then the steps
abbrev pub picking_checks : Picking → Working → Runs → ℕ → ℕ → Checks
picking_checks x w spare W s =
    let k = length x.picks in
    gives LeftNotOrdered (not (ordered x.set))
    ∷ gives NoSuchOption (some_beyond (options x.set) x.picks)
    ∷ gives BadList (repeats x.picks)
    ∷ gives ShortRun (stack_short (options x.set) (length w.stack))
    ∷ gives ShortRun (ltb (length w.index) W)
    ∷ gives ShortRun (spare_short k W spare.variable || spare_short k W spare.low || spare_short k W spare.high)
    ∷ step_checks (x.steps w W)

-- what picking promises of its answer, of the output, of the working runs and of the spare runs
pub record Picks (x : Picking) (was now : Runs) (lent back : Working) (spare given_back : Runs) (r : Answer) : Type 0 where
  pub makes : Makes (picking_checks x lent spare) (array_from (x.steps lent (room was))) was now r
  pub pairs : back.pairs ≡ working_after (number_of r) lent.pairs
  pub stack : back.stack ≡ working_after (number_of r) lent.stack
  pub index : back.index ≡ working_after (number_of r) lent.index
  pub spare_variable : given_back.variable ≡ working_after (number_of r) spare.variable
  pub spare_low : given_back.low ≡ working_after (number_of r) spare.low
  pub spare_high : given_back.high ≡ working_after (number_of r) spare.high
