-- `index_run::insert` meets its contract: each end of the search is an answer, and a place takes the node of the number.
-- the index, the output and the entry
use Rattle.bdd.specs.Lent.{set_of, entry_of_node}
use Rattle.index_run.proofs.Ends.{known_at, joined_at}
use Rattle.index_run.proofs.insert.Goals as goal

-- the check finds this alone, but where the answer beside it is refused it says nothing of it
pub returns-in-At : goal.returns-in-At
returns-in-At c =
    known_at c.args.index.now (set_of c.args.set.now) (entry_of_node c.args.e) _ c.args.number c.nodes_before-nodes.ensures _ c.search.ensures _ c.in-At.is

pub returns-in-Free : goal.returns-in-Free
returns-in-Free c =
    joined_at c.args.index.now (set_of c.args.set.now) (entry_of_node c.args.e) _ c.args.number c.nodes_before-nodes.ensures _ c.search.ensures c.requires _ _ c.in-Free.is c.join.ensures
