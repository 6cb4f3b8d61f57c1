-- The slots of picking: where a set stands, and what a sequence of steps leaves in the spare runs.
use Rattle.std.specs.Prelude.{ℕ, ◌+◌, ◌*◌, ◌≤◌, ◌≡◌, List, ◌++◌, length, take, drop, Err, Ok}
use Rattle.bdd.specs.Array.{Entry, Runs, runs, laid, entries_of}
use Rattle.bdd.specs.Pairs.{room}
use Rattle.bdd.specs.Lent.{Answer}
use Rattle.lent.specs.Copied.{copied}
use Rattle.relation_ops.specs.Picking.{Outcome, wrote, answer_of}
use Rattle.slots.specs.declared.Place.{Place}
use Rattle.slots.specs.declared.Place.TheVariants.{Given, Slot}

-- the first s numbers of another run, from place t on
abbrev pub pasted : {A : Type 0} → ℕ → ℕ → List A → List A → List A
pasted t s from run = take t run ++ copied (drop t run) from s

abbrev pub kept : ℕ → ℕ → Runs → Runs → Runs
kept t s from a =
    runs (pasted t s from.variable a.variable) (pasted t s from.low a.low) (pasted t s from.high a.high)

-- the first s entries of a set, in the output
abbrev pub copied_runs : Runs → Runs → ℕ → Runs
copied_runs out a s = runs (copied out.variable a.variable s) (copied out.low a.low s) (copied out.high a.high s)

-- three runs of one length
abbrev pub Whole : Runs → Type 0
Whole a = laid (entries_of a) ≡ a

-- s entries from place t on, those before place t, those behind the first W
abbrev pub part : ℕ → ℕ → Runs → Runs
part t s a = runs (take s (drop t a.variable)) (take s (drop t a.low)) (take s (drop t a.high))

-- the set that was given, or `size` entries of the spare runs from place `at` on
abbrev pub set_at : Place → Runs → Runs → Runs
set_at Given given spare = given
set_at (Slot at size) given spare = part at size spare

abbrev pub below : ℕ → Runs → Runs
below t a = runs (take t a.variable) (take t a.low) (take t a.high)

abbrev pub behind : ℕ → Runs → Runs
behind W a = runs (drop W a.variable) (drop W a.low) (drop W a.high)

-- S, none where it is refused
abbrev pub size_told : Answer → ℕ
size_told (Ok s) = s
size_told (Err why) = 0

-- k slots of W entries fit into the spare runs from place t on
pub record Slots (k W t : ℕ) (spare : Runs) : Type 0 where
  pub variable : t + k * W ≤ length spare.variable
  pub low : t + k * W ≤ length spare.low
  pub high : t + k * W ≤ length spare.high

-- the place behind a set; a given one takes none of the spare runs
abbrev pub end_of : Place → ℕ
end_of Given = 0
end_of (Slot at size) = at + size

-- a set that is given, or stands before place t
abbrev pub Below : Place → ℕ → Type 0
Below p t = end_of p ≤ t

-- the array stands at place t; what stood before it is as it was, and so is the output behind its first W entries
pub record Holds (es : List Entry) (t : ℕ) (was now spare left : Runs) : Type 0 where
  pub fits : length es ≤ room was
  pub stands : part t (length es) left ≡ laid es
  pub before : below t left ≡ below t spare
  pub rest : behind (room was) now ≡ behind (room was) was

-- the answer is what the steps come to; where they are done, their array stands at place t
pub record Leaves (o : Outcome) (t : ℕ) (was now spare left : Runs) (r : Answer) : Type 0 where
  pub answer : r ≡ answer_of o
  pub done : (es : List Entry) → o ≡ wrote es → Holds es t was now spare left
