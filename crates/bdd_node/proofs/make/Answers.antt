-- `bdd_node::make` meets its contract: 5 leaves the runs, 9 clears them, and done lays the first s entries over them.
use mathlib.Core.Path.{refl, sym}
use mathlib.Core.List.{List, [], ◌∷◌}
use native.Mathlib.Omega.{arith}
use lib.Seq.{length-take-le}
use borrow.Author.Tests.{lt-ltb, le-ltb}
use Rattle.bdd.specs.Array.{Entry, entry}
use Rattle.bdd.specs.Lent.{entry_of_node}
use Rattle.bdd.specs.declared.Refusal.TheVariants.{NoSuchOption}
use Rattle.bdd.proofs.Makers.{maker_no_option, maker_room, makes_refused, makes_no_room, makes_done}
use Rattle.bdd_node.proofs.Cells.{column}
use Rattle.bdd_node.proofs.make.Goals as goal

pub returns-then-n-gt-MOST_OPTIONS-clause-made : goal.returns-then-n-gt-MOST_OPTIONS-clause-made
returns-then-n-gt-MOST_OPTIONS-clause-made c = makes_refused _ _ NoSuchOption refl (maker_no_option (lt-ltb _ _ c.if-n-gt-MOST_OPTIONS.true))

pub returns-then-room-s-clause-made : goal.returns-then-room-s-clause-made
returns-then-room-s-clause-made c =
    let zero = c.clear_output.ensures in
    let a = c.args in
    let es : List Entry = entry a.n 0 0 ∷ entry a.n 1 1 ∷ entry_of_node a.e ∷ [] in
    let s = length-take-le a.s es c.requires in
    makes_no_room _ _ (maker_room (le-ltb _ _ c.if-n-gt-MOST_OPTIONS.false)) (omega arith) (λ i. record { variable = zero.variable i; low = zero.low i; high = zero.high i })

pub returns-clause-made : goal.returns-clause-made
returns-clause-made c =
    let a = c.args in
    let es : List Entry = entry a.n 0 0 ∷ entry a.n 1 1 ∷ entry_of_node a.e ∷ [] in
    let s = length-take-le a.s es c.requires in
    let v = column (λ (e : Entry). e.variable) es a.out.now.variable.now _ _ a.s (omega arith) c.requires refl c.copy.ensures in
    let l = column (λ (e : Entry). e.low) es a.out.now.low.now _ _ a.s (omega arith) c.requires refl c.copy-2.ensures in
    let h = column (λ (e : Entry). e.high) es a.out.now.high.now _ _ a.s (omega arith) c.requires refl c.copy-3.ensures in
    makes_done _ _ (maker_room (le-ltb _ _ c.if-n-gt-MOST_OPTIONS.false)) (sym s) (omega arith) (λ i. record { variable = v i; low = l i; high = h i })
