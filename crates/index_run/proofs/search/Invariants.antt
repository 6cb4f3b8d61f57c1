-- `index_run::search` meets its contract: its turns are those of the laws of chains, and every chain so far was full.
use Prim.Native.Nat.{ℕ, ◌≤◌}
use mathlib.Core.Path.{◌≡◌}
use Rattle.bdd.specs.Lent.{set_of, entry_of_node}
use Rattle.chains.specs.Spread.{turned}
use Rattle.chains.specs.Chains.{full}
use Rattle.chains.proofs.Search.{Searching}
use Rattle.index_run.specs.Index.{places, folded, chains_of}
use Rattle.index_run.proofs.search.Given as goal

abbrev pub invariant-loop : goal.invariant-loop
invariant-loop l =
    ((m : ℕ) × ((full ≤ m) × Searching (chains_of (places l.index) l.nodes l.index (set_of l.set)) (entry_of_node l.e) l.counter l.place m))
    × (l.mixed ≡ turned l.counter (folded (entry_of_node l.e)) l.e.high)
