-- `op_function::operators::answers` meets its contract: the answers that were copied so far stand in their places.
use Prim.Native.Nat.{ℕ, ◌+◌, ◌<◌}
use mathlib.Core.Path.{◌≡◌, refl, ◌∙◌}
use mathlib.Core.List.{List}
use native.Mathlib.Omega.{arith}
use lib.ListN.{length, get_or, set, length-set}
use lib.Seq.{get_or-set_same, get_or-set_other, ext_get_or}
use borrow.Author.Count.{below_more}
use Rattle.bdd.specs.Table.{operator, inputs}
use Rattle.op_function.proofs.operators.answers.Goals as goal

-- one more of the answers stands in its place
stored : (t xs : List ℕ) (i v : ℕ) → i < length t → ((k : ℕ) → k < i → get_or t k 3 ≡ get_or xs k 3) → v ≡ get_or xs i 3
    → (k : ℕ) → k < i + 1 → get_or (set t i v) k 3 ≡ get_or xs k 3
stored t xs i v l h e =
    below_more _ i (λ k m. get_or-set_other t i k v 3 (omega arith) ∙ h k m) (get_or-set_same t i v 3 l ∙ e)

pub loop-i-init : goal.loop-i-init
loop-i-init c = (refl, λ k l. absurd (omega arith))

pub loop-i-preserved : goal.loop-i-preserved
loop-i-preserved c =
    let now = c.loop-i in
    (simp length-set now.invariant.0, stored now.nine (operator c.args.p) now.i _ (omega arith) now.invariant.1 c.entry.ensures)

pub returns : goal.returns
unfolding operator inputs
returns c = ext_get_or 3 _ _ c.loop-i.invariant.0 (λ k l. c.loop-i.invariant.1 k (omega arith))
