-- `pair_run::find` meets its contract: each end of the search is an answer.
use Rattle.pair_run.proofs.Ends.{stands_at, absent_free, absent_nowhere}
use Rattle.pair_run.proofs.find.Goals as goal

pub returns-in-At : goal.returns-in-At
returns-in-At c s = stands_at _ _ _ _ c.search.ensures s _ _ c.in-At.is c.result_of.ensures

pub returns-in-Free : goal.returns-in-Free
returns-in-Free c s = absent_free _ _ _ _ c.search.ensures s _ c.in-Free.is

pub returns-in-Nowhere : goal.returns-in-Nowhere
returns-in-Nowhere c s = absent_nowhere _ _ _ _ c.search.ensures s c.in-Nowhere.is
