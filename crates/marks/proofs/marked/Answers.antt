-- `marks::marked` meets its contract.
use Prim.Native.Nat.{ℕ, ◌≤◌}
use mathlib.Core.Path.{◌≡◌, sym, ◌∙◌}
use mathlib.Core.Bool.{false}
use mathlib.Core.Logic.{inr}
use mathlib.Core.List.{List}
use Rattle.std.specs.Prelude.{Result, Ok, Err}
use Rattle.bdd.specs.declared.Refusal.{Refusal}
use Rattle.relation_ops.specs.Picking.{some_beyond}
use Rattle.marks.specs.Marking.{Lists, Reads}
use Rattle.marks.specs.declared.Marks.{Marks}
use Rattle.marks.proofs.Marking.{beyond_least, holds}
use Rattle.marks.proofs.marked.Goals as goal

lists : (vs : List ℕ) (n : ℕ) (r : Result Marks Refusal) → n ≤ 256 → some_beyond n vs ≡ false → Reads vs r → Lists vs n r
lists vs n (Ok m) l b h = holds vs n m l b h
lists vs n (Err why) l b h = inr (h.0, record { within = b; again = h.1 })

pub read-requires : goal.read-requires
read-requires c = beyond_least _ 256 _ c.requires (sym c.is_beyond.ensures ∙ c.if-is_beyond.false)

pub returns : goal.returns
returns c =
    lists _ _ c.read.result c.requires (sym c.is_beyond.ensures ∙ c.if-is_beyond.false) c.read.ensures
