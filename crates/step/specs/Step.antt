-- A pair as one number of the stack, and what the exploration's step must find.
use Rattle.std.specs.Prelude.{ℕ, ◌+◌, ◌*◌, ◌/◌, ◌%◌, ◌<◌, min, ◌≡◌, Bool, true, false, List, [], ◌∷◌, length, None, Some}
use Rattle.bdd.specs.Bounds.{factor}
use Rattle.bdd.specs.Array.{Runs, size}
use Rattle.bdd.specs.Table.{answer}
use Rattle.bdd.specs.Pairs.{Pair, pair, Job, asked, child}
use Rattle.bdd.specs.Pairs as page
use Rattle.bdd.specs.Lent.{Flip, set_of}
use Rattle.bdd.specs.declared.Operands.{Operands}
use Rattle.pairs.proofs.Flips.{swapped}
use Rattle.step.specs.declared.Children.{Children}
use Rattle.step.specs.declared.Links.{Links}
use Rattle.step.specs.declared.Ways.{Ways}

-- the job that a call is handed, with a table of its own or any other
abbrev pub job_over : Operands → List ℕ → Job
job_over o table = page.job (set_of o.left) (set_of o.right) table o.flips.left o.flips.right

abbrev pub code : Pair → ℕ
code p = p.left * factor + p.right

-- the pair that a number of the stack stands for
abbrev pub decoded : ℕ → Pair
decoded x = pair (x / factor) (x % factor)

-- both entries leave room in that number
pub record Small (p : Pair) : Type 0 where
  pub left : p.left < factor
  pub right : p.right < factor

-- the table's answer at a pair
abbrev pub decision_in : List ℕ → Pair → ℕ
decision_in table p = answer table (min p.left 2 ∷ min p.right 2 ∷ [])

-- entry i is within each run of the set
pub record Within (a : Runs) (i : ℕ) : Type 0 where
  pub variable : i < size a
  pub low : i < length a.low
  pub high : i < length a.high

-- no option is flipped
abbrev pub kept : Flip → Bool
kept None = true
kept (Some w) = false

-- the child pairs from where each side goes
abbrev pub paired : ℕ → Links → Links → Children
paired ask l r = record { ask = ask; off = pair l.off r.off; on = pair l.on r.on }

-- the asked option, and the child pairs
pub record Leads (j : Job) (p : Pair) (r : Children) : Type 0 where
  pub ask : r.ask ≡ asked j p
  pub off : r.off ≡ child j false p
  pub on : r.on ≡ child j true p

-- the child that becomes the new entry's link on side b: an output flip at the asked option swaps the two
abbrev pub side : Job → Flip → Bool → Pair → Pair
side j out b p = child j (swapped out (asked j p) b) p

-- the asked option and the two children; the one that becomes high is the near one, which is finished first
pub record Parts (j : Job) (out : Flip) (p : Pair) (w : Ways) : Type 0 where
  pub ask : w.ask ≡ asked j p
  pub near : w.near ≡ side j out true p
  pub other : w.other ≡ side j out false p

-- the page's own, for those who look for it here
abbrev pub job : Runs → Runs → List ℕ → Flip → Flip → Job
job = page.job
