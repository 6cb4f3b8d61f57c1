-- An entry of the array that is being written, found if it stands, else put behind the last: the output with entries behind the
-- terminals' places, and what placing one more says, over `decide` and free of the side that is written first.
use Rattle.std.specs.Prelude.{ℕ, ◌+◌, ◌<◌, ◌≤◌, max, ◌≡◌, Bool, cond, List, ◌++◌, length, take, drop, set, Option, Some, None}
use Rattle.bdd.specs.Array.{Entry, Runs, runs, laid}
use Rattle.bdd.specs.Signed.{Written, decide}
use Rattle.index_run.specs.Index.{Indexed}
use Rattle.index_run.specs.declared.Placed.{Placed}

-- the three runs have room for k entries
pub record Fit (out : Runs) (k : ℕ) : Type 0 where
  pub variable : k ≤ length out.variable
  pub low : k ≤ length out.low
  pub high : k ≤ length out.high

-- a run with the numbers xs from number 2 on; numbers 0 and 1 and those behind are as they were
abbrev pub column : List ℕ → List ℕ → List ℕ
column was xs = take 2 was ++ xs ++ drop (2 + length xs) was

-- the output runs with the entries es behind the terminals' places
abbrev pub holding : Runs → List Entry → Runs
holding was es =
    runs (column was.variable (laid es).variable) (column was.low (laid es).low) (column was.high (laid es).high)

-- es stands behind the terminals' places of the output, and in the index; `next` is the number behind the last
pub record Output (most : ℕ) (was : Runs) (index : List ℕ) (now : Runs) (next : ℕ) (es : List Entry) : Type 0 where
  pub room : Fit was most
  pub indexed : Indexed index now next
  pub next_is : next ≡ 2 + length es
  pub fits : next ≤ max 2 most
  pub outputs : now ≡ holding was es

-- the output with the entry (v, l, h) under the number k
abbrev pub appended : Runs → ℕ → ℕ → ℕ → ℕ → Runs
appended out k v l h = runs (set out.variable k v) (set out.low k l) (set out.high k h)

-- where an entry stands, and the number behind the last; or that one entry more would be too many
abbrev pub Placement : Type 0
Placement = Option Placed

abbrev pub placed : ℕ → ℕ → Placed
placed number behind = record { number = number; behind = behind }

-- the entry stands under `next`; or it may not
abbrev pub Appended : ℕ → Runs → Runs → ℕ → ℕ → ℕ → ℕ → Placement → Type 0
Appended most was now v l h next (Some p) =
    (next < most) × (p.number ≡ next) × (p.behind ≡ next + 1) × (now ≡ appended was next v l h)
Appended most was now v l h next None = most ≤ next

-- what `decide` says of an entry with these two links, whichever side is written first
abbrev pub decided : Bool → ℕ → ℕ → ℕ → List Entry → Written
decided first v l h es = decide first v (cond first h l) (cond first l h) es

-- from the entries es to w: they stand, and the entry was placed under w's number; or one entry more would be too long
abbrev pub Placing : ℕ → Runs → List Entry → Written → List ℕ → Runs → ℕ → Placement → Type 0
Placing most was es w index now next (Some p) = Output most was index now p.behind w.entries × (p.number ≡ w.at)
Placing most was es w index now next None = (length es < length w.entries) × (most ≤ next)
