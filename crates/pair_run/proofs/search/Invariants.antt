-- `pair_run::search` meets its contract: its turns are those of the laws of chains, and every chain so far was full.
use Prim.Native.Nat.{ℕ, ◌≤◌}
use mathlib.Core.Path.{◌≡◌}
use Rattle.chains.specs.Spread.{turned}
use Rattle.chains.specs.Chains.{full}
use Rattle.chains.proofs.Search.{Searching}
use Rattle.pair_run.specs.Held.{chains_of}
use Rattle.pair_run.proofs.search.Given as goal

abbrev pub invariant-loop : goal.invariant-loop
invariant-loop l =
    ((m : ℕ) × ((full ≤ m) × Searching (chains_of l.room l.run) l.p l.counter l.place m))
    × (l.mixed ≡ turned l.counter l.p.left l.p.right)
