-- What callers lend and are answered, as the definitions see it: the runs of a set, of the output and of the work.
use Rattle.std.specs.Prelude.{ℕ, ◌≡◌, length, Option, None, Result}
use Rattle.bdd.specs.Array.{Entry, Runs, entry, runs}
use Rattle.bdd.specs.declared.Refusal.{Refusal}
use Rattle.bdd.specs.declared.BddNode.{BddNode}
use Rattle.bdd.specs.declared.RuleSet.{RuleSet}
use Rattle.bdd.specs.declared.OutputRuns.{OutputRuns}
use Rattle.bdd.specs.declared.WorkingRuns.{WorkingRuns}

-- S, or why there is no array
abbrev pub Answer : Type 0
Answer = Result ℕ Refusal

-- the option that is switched, or none
abbrev pub Flip : Type 0
Flip = Option ℕ

abbrev pub no_flip : Flip
no_flip = None

-- the most entries that may be written, or no limit
abbrev pub Limit : Type 0
Limit = Option ℕ

abbrev pub no_limit : Limit
no_limit = None

abbrev pub entry_of_node : BddNode → Entry
entry_of_node e = entry e.variable e.low e.high

-- the lent runs of a set
abbrev pub set_of : RuleSet → Runs
set_of s = runs s.variable.now s.low.now s.high.now

-- the lent runs of the output
abbrev pub output_of : OutputRuns → Runs
output_of o = runs o.variable.now o.low.now o.high.now

-- after a call the output is still the same three lent runs, each as long as it was
pub record SameOutput (was now : OutputRuns) : Type 0 where
  pub variable : now.variable.ghost_name ≡ was.variable.ghost_name
  pub low : now.low.ghost_name ≡ was.low.ghost_name
  pub high : now.high.ghost_name ≡ was.high.ghost_name
  pub variable_length : length now.variable.now ≡ length was.variable.now
  pub low_length : length now.low.now ≡ length was.low.now
  pub high_length : length now.high.now ≡ length was.high.now

-- and so the working runs
pub record SameWorking (was now : WorkingRuns) : Type 0 where
  pub pairs : now.pairs.ghost_name ≡ was.pairs.ghost_name
  pub stack : now.stack.ghost_name ≡ was.stack.ghost_name
  pub index : now.index.ghost_name ≡ was.index.ghost_name
  pub pairs_length : length now.pairs.now ≡ length was.pairs.now
  pub stack_length : length now.stack.now ≡ length was.stack.now
  pub index_length : length now.index.now ≡ length was.index.now
