-- `apply::settle` meets its contract: the entry is placed, and its number is the result of the node.
use Prim.Native.Nat.{ℕ}
use mathlib.Core.Path.{◌≡◌, subst}
use mathlib.Core.Bool.{true}
use mathlib.Core.List.{List}
use Rattle.bdd.specs.Array.{Entry, Runs}
use Rattle.bdd.specs.Lent.{output_of}
use Rattle.bdd.specs.Signed.{decide, high_first}
use Rattle.index_run.specs.Placing.{Placement, Placing}
use Rattle.index_run.proofs.Placing.{placing_told}
use Rattle.apply.proofs.settle.Goals as goal

-- the answer, once it is told, for the option that the node has
asking_told : (most : ℕ) (was : Runs) (es : List Entry) (x y : ℕ) (index : List ℕ) (out : Runs) (next : ℕ) {k n : ℕ} {a b : Placement} → k ≡ n → a ≡ b
    → Placing most was es (decide high_first k x y es) index out next a → Placing most was es (decide high_first n x y es) index out next b
asking_told most was es x y index out next {k} {n} {a} {b} same told p =
    subst (λ (i : ℕ). Placing most was es (decide high_first i x y es) index out next b) same
    (placing_told most was es (decide high_first k x y es) index out next told p)

pub returns-in_err-placed-clause-placing : goal.returns-in_err-placed-clause-placing
returns-in_err-placed-clause-placing c before es o =
    let a = c.args in
    let put = c.place in
    rw c.from_residual.ensures
    (asking_told a.most before es a.x a.y put.new.index (output_of put.new.out) a.next c.result_of.ensures c.in_err-placed.was
    (put.ensures.placing true before es o))

pub returns-clause-placing : goal.returns-clause-placing
returns-clause-placing c before es o =
    let a = c.args in
    let put = c.place in
    asking_told a.most before es a.x a.y put.new.index (output_of put.new.out) a.next c.result_of.ensures c.in_ok-placed.was
    (put.ensures.placing true before es o)
