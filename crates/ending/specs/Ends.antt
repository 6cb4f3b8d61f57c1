-- The end of a maker of arrays: the bound on its array, the answer that its exploration comes to, and the output after it.
use Rattle.std.specs.Prelude.{ℕ, ◌+◌, ◌<◌, ◌≤◌, max, ◌≡◌, Bool, false, cond, not, List, [], ◌∷◌, length, eqb, ltb, Err, Ok}
use Rattle.bdd.specs.Array.{Entry, Runs, runs, laid}
use Rattle.bdd.specs.Value.{Function}
use Rattle.bdd.specs.Signed.{signed}
use Rattle.bdd.specs.Pairs.{room}
use Rattle.bdd.specs.Answers.{told_answer, number_of, over_limit, no_room, size_checks, told_first, all_zero, outputs_after, working_after}
use Rattle.bdd.specs.Lent.{Answer, Limit}
use Rattle.bdd.specs.declared.Refusal.TheVariants.{PairRoom, OverLimit, NoRoom}
use Rattle.bdd.proofs.Refusing.{first_in_list}
use Rattle.lent.specs.Copied.{copied}
use Rattle.index_run.specs.Placing.{holding}
use Rattle.tasks.proofs.Finished.{Finished}
use Rattle.ending.specs.declared.Bound.{Bound}
use Rattle.ending.specs.declared.Explored.{Explored}
use Rattle.ending.specs.declared.Explored.TheVariants.{Array, NoPairRoom, Long}

-- the most that may be made with a limit and a room, and whether more exceeds the limit or the room
pub record Bounds (limit : Limit) (room : ℕ) (b : Bound) : Type 0 where
  pub room_most : b.most ≤ room
  pub limit_kept : (s : ℕ) → s ≤ b.most → over_limit limit room s ≡ false
  pub room_kept : (s : ℕ) → s ≤ b.most → no_room limit room s ≡ false
  pub limit_passed : (s : ℕ) → b.most < s → over_limit limit room s ≡ b.limited
  pub room_passed : (s : ℕ) → b.most < s → no_room limit room s ≡ not b.limited

-- the output all zero
abbrev pub cleared : Runs → Runs
cleared out = runs (all_zero out.variable) (all_zero out.low) (all_zero out.high)

-- the output with the first s of the two terminals over n
abbrev pub with_terminals : ℕ → ℕ → Runs → Runs
with_terminals n s out =
    runs (copied out.variable (n ∷ n ∷ []) s) (copied out.low (0 ∷ 1 ∷ []) s) (copied out.high (0 ∷ 1 ∷ []) s)

-- S, from the number of the root's entry and the number behind the last: false is one entry
abbrev pub size_from : ℕ → ℕ → ℕ
size_from v next = cond (eqb v 0) 1 next

-- an array that is too long: 8 for the limit, else 9
abbrev pub too_long : Bound → Answer
too_long b = Err (cond b.limited OverLimit NoRoom)

-- the answer that an exploration comes to
abbrev pub ended : Explored → Bound → Answer
ended NoPairRoom b = Err PairRoom
ended Long b = too_long b
ended (Array v next) b = cond (ltb b.most (size_from v next)) (too_long b) (Ok (size_from v next))

abbrev pub ended_runs : Answer → ℕ → Runs → Runs
ended_runs (Ok s) n out = with_terminals n s out
ended_runs (Err why) n out = cleared out

-- the array of f stands in the output but for its terminals: it ended at entry v, and `next` is the number behind the last
pub record Entered (first : Bool) (n : ℕ) (f : Function) (most : ℕ) (was now : Runs) (v next : ℕ) : Type 0 where
  pub entries : List Entry
  pub finished : Finished first n f entries v
  pub next_is : next ≡ 2 + length entries
  pub fits : next ≤ max 2 most
  pub outputs : now ≡ holding was entries

-- what an exploration for the array of f came to, where its pairs had room
abbrev pub Comes : Bool → ℕ → Function → ℕ → Runs → Runs → Explored → Type 0
Comes first n f most was now NoPairRoom = ⊥
Comes first n f most was now Long = most < length (signed first n f)
Comes first n f most was now (Array v next) = Entered first n f most was now v next

-- the end: 8, 9 or done with S; the output; and a number after which working runs are all zero
pub record Ends (first : Bool) (n : ℕ) (f : Function) (limit : Limit) (was now : Runs) (r : Answer) : Type 0 where
  pub answer :
      told_answer r ≡ told_first (first_in_list (size_checks limit (room was) (length (signed first n f)))) (length (signed first n f) ∷ [])
  pub outputs : now ≡ outputs_after (number_of r) (laid (signed first n f)) was
  pub clears : (run : List ℕ) → working_after (number_of r) run ≡ all_zero run
