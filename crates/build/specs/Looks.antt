-- What one look at the top of the stack finds, what goes on the stack then, and what the pair that it settles becomes.
use Rattle.std.specs.Prelude.{ℕ, ◌+◌, ◌-◌, ◌^◌, ◌<◌, ◌≤◌, ◌≡◌, Bool, true, false, not, List, ◌⊎◌, set, None, Some, Option}
use Rattle.bdd.specs.Pairs.{Job, Pair, asked}
use Rattle.bdd.specs.Lent.{Flip}
use Rattle.pair_run.specs.Held.{nodes, count, Stands, Absent, Searchable, Added}
use Rattle.index_run.specs.Placing.{Placement}
use Rattle.step.specs.Step.{code, decision_in, Small, side}
use Rattle.build.specs.declared.Built.{Built}
use Rattle.build.specs.declared.Wanted.{Wanted}
use Rattle.build.specs.declared.Wanted.TheVariants.{Nothing, One, Two}
use Rattle.build.specs.declared.Seen.{Seen}
use Rattle.build.specs.declared.Seen.TheVariants.{Ready, Wants}

-- the pair run holds the pair, with this result
abbrev pub Known : List ℕ → Pair → ℕ → Type 0
Known run p v = Stands run p.left p.right v

-- a pair needs no look of its own, since it is decided or known; or it needs one
abbrev pub Replied : List ℕ → List ℕ → Pair → Option ℕ → Type 0
Replied table run p (Some v) = ((v ≡ decision_in table p) × (v < 2)) ⊎ Known run p v
Replied table run p None = (2 ≤ decision_in table p) × Absent run p.left p.right

-- the pair is not known, and both its children have their answers, x the high side's
pub record IsReady (j : Job) (out : Flip) (run : List ℕ) (p : Pair) (ask x y : ℕ) : Type 0 where
  pub absent : Absent run p.left p.right
  pub asks : ask ≡ asked j p
  pub near : Replied j.table run (side j out true p) (Some x)
  pub other : Replied j.table run (side j out false p) (Some y)

-- the child on side b is q and needs a look; the other has its answer
pub record Misses (j : Job) (out : Flip) (run : List ℕ) (p : Pair) (b : Bool) (q : Pair) : Type 0 where
  pub absent : Absent run p.left p.right
  pub same : q ≡ side j out b p
  pub misses : Replied j.table run (side j out b p) None
  pub number : ℕ
  pub replied : Replied j.table run (side j out (not b) p) (Some number)

-- both children need a look
pub record MissesBoth (j : Job) (out : Flip) (run : List ℕ) (p near other : Pair) : Type 0 where
  pub absent : Absent run p.left p.right
  pub same_near : near ≡ side j out true p
  pub same_other : other ≡ side j out false p
  pub misses_near : Replied j.table run (side j out true p) None
  pub misses_other : Replied j.table run (side j out false p) None

-- the pair is known, or these of its children need a look first
abbrev pub Lacks : Job → Flip → List ℕ → Pair → Wanted → Type 0
Lacks j out run p Nothing = (v : ℕ) × Known run p v
Lacks j out run p (One q) = Misses j out run p true q ⊎ Misses j out run p false q
Lacks j out run p (Two near other) = MissesBoth j out run p near other

-- what a look at a pair finds
abbrev pub Looked : Job → Flip → List ℕ → Pair → Seen → Type 0
Looked j out run p (Ready ask x y) = IsReady j out run p ask x y
Looked j out run p (Wants w) = Lacks j out run p w

-- the pairs that go on the stack leave room in one number each
abbrev pub Fits : Wanted → Type 0
Fits Nothing = 0 ≤ 0
Fits (One q) = Small q
Fits (Two near other) = Small near × Small other

-- the stack with what is wanted on top, the near child last; or without its top, where nothing is
abbrev pub Stacked : List ℕ → ℕ → Wanted → List ℕ → ℕ → Type 0
Stacked was height Nothing now behind = (now ≡ was) × (behind ≡ height - 1)
Stacked was height (One q) now behind = (now ≡ set was height (code q)) × (behind ≡ height + 1)
Stacked was height (Two near other) now behind =
    (now ≡ set (set was height (code other)) (height + 1) (code near)) × (behind ≡ height + 2)

-- the root is known with this number
abbrev pub Concludes : List ℕ → Pair → ℕ → Option Built → Type 0
Concludes run root next (Some b) = Known run root b.number × (b.behind ≡ next)
Concludes run root next None = Absent run root.left root.right

-- the pair is not known, k others are, and there is a node for it
pub record Settleable (run : List ℕ) (p : Pair) (k : ℕ) : Type 0 where
  pub sound : Searchable run
  pub number : count run ≡ k
  pub absent : Absent run p.left p.right
  pub free : count run < nodes run
  pub small : Small p

-- the pair is known with the number that was placed, if half a number holds it
abbrev pub Settling : List ℕ → List ℕ → Pair → Placement → Type 0
Settling was now p (Some it) = it.number < 2 ^ 16 → Added was now p.left p.right it.number
Settling was now p None = now ≡ was
