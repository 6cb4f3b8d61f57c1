-- What the building exploration makes: the entries of an operator's array behind the terminals, in signing order.
use Rattle.std.specs.Prelude.{ℕ, ◌+◌, ◌*◌, ◌<◌, ◌≤◌, ◌≡◌, true, List, length, Option, Some, None}
use Rattle.bdd.specs.Bounds.{most_entries}
use Rattle.bdd.specs.Array.{Runs, options}
use Rattle.bdd.specs.Signed.{signed, high_first}
use Rattle.bdd.specs.Pairs.{Job, Checked, result, undecided, roots, count, pair_room}
use Rattle.bdd.specs.Lent.{Flip}
use Rattle.index_run.specs.Placing.{Fit}
use Rattle.ending.specs.Ends.{Entered}
use Rattle.build.specs.declared.Built.{Built}

-- the lent runs are long enough for the job, and for `most` entries
pub record Rooms (j : Job) (most : ℕ) (out : Runs) (pairs stack index : List ℕ) : Type 0 where
  pub few : most ≤ most_entries
  pub output_fits : Fit out most
  pub pairs_fit : count j ≤ pair_room pairs
  pub stack_fits : 2 * options j.left + 1 ≤ length stack
  pub index_fits : most ≤ length index

-- what the caller has checked: the job, whose root is undecided, and the room
pub record Prepared (j : Job) (most : ℕ) (out : Runs) (pairs stack index : List ℕ) : Type 0 where
  pub checked : Checked j
  pub root_undecided : undecided j (roots j) ≡ true
  pub rooms : Rooms j most out pairs stack index

-- the array of the job's value, or that it is longer than `most`
abbrev pub Outcome : Job → Flip → ℕ → Runs → Runs → Option Built → Type 0
Outcome j out most was now (Some b) = Entered high_first (options j.left) (result j out) most was now b.number b.behind
Outcome j out most was now None = most < length (signed high_first (options j.left) (result j out))
