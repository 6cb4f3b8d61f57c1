-- Four numbers to a pair; and every search in the pair run begins at a place of it.
use Prim.Native.Nat.{ℕ, ◌-◌, ◌*◌, ◌/◌, ◌^◌, ◌≤◌, min}
use mathlib.Core.Path.{◌≡◌, ap, ap₂}
use mathlib.Core.List.{List}
use native.Mathlib.Omega.{arith}
use lib.ListN.{length}
use lib.Dec.{eqb}
use borrow.Author.Tests.{eqb-true, eqb-false}
use Rattle.bdd.specs.Pairs.{Pair, pair, pair_room}
use Rattle.chains.specs.Chains.{Says}
use Rattle.chains.proofs.Saying.{says}
use Rattle.chains.proofs.Spots.{spot_below}
use Rattle.chains.proofs.Search.{Homed}
use Rattle.pair_run.specs.Held.{nodes, chains_of}

pub fours : (run : List ℕ) → 4 * nodes run ≤ length run
unfolding pair_room
fours run = omega arith

pub nodes_alike : (run run' : List ℕ) → length run' ≡ length run → nodes run' ≡ nodes run
unfolding pair_room
nodes_alike run run' e = ap (λ (x : ℕ). min (x / 4) (2 ^ 32 - 1)) e

pub homed : (n : ℕ) (run : List ℕ) → Homed (chains_of n run)
homed n run p d some = spot_below n p.left p.right d some

-- where the right entries are the same, the left ones decide
pub tells_pair : (a b l r : ℕ) → b ≡ r → Says (eqb a l) (pair a b ≡ pair l r)
tells_pair a b l r e =
    says (eqb a l) (λ t. ap₂ pair (eqb-true a l t) e) (λ t q. eqb-false a l t (ap (λ (k : Pair). k.left) q))
