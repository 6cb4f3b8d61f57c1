-- `compare::settle` meets its contract: the same numbers, or what the roots' numbers tell.
use Rattle.std.proofs.Common.{sym, ◌∙◌, arith}
use Rattle.bdd.proofs.Ordered.{ordered_open}
use Rattle.compare.proofs.Settling.{left_numberable, right_numberable, settled_equal, settled_same, settled_apart}
use Rattle.compare.proofs.settle.Goals as goal

pub returns-then-are_equal : goal.returns-then-are_equal
returns-then-are_equal c = settled_equal c.requires _ c.are_equal.ensures c.if-are_equal.true

pub number_all-next-requires : goal.number_all-next-requires
number_all-next-requires c = left_numberable c.requires

pub number_all-requires : goal.number_all-requires
number_all-requires c = right_numberable c.requires c.number_all-next.ensures c.number_all-next.auto.room

pub overflow_sub-l : goal.overflow_sub-l
overflow_sub-l c = omega (arith, (ordered_open _ c.requires.comparable.left).size_least)

pub number-requires : goal.number-requires
number-requires c = let h = c.requires in
    let l = (ordered_open _ h.comparable.left).size_least in
    omega (arith, h.long)

pub overflow_sub-r : goal.overflow_sub-r
overflow_sub-r c = omega (arith, (ordered_open _ c.requires.comparable.right).size_least)

pub number-requires-2 : goal.number-requires-2
number-requires-2 c = let h = c.requires in
    let r = (ordered_open _ h.comparable.right).size_least in
    omega (arith, h.long)

pub returns-then-number : goal.returns-then-number
returns-then-number c = settled_same c.requires c.number_all-next.ensures c.number_all-next.auto.room c.number_all.ensures c.number_all.auto.room _ c.are_equal.ensures c.if-are_equal.false
    (sym c.number.ensures ∙ c.if-number.true ∙ c.number-2.ensures)

pub part-requires : goal.part-requires
part-requires c = settled_apart c.requires c.number_all-next.ensures c.number_all-next.auto.room c.number_all.ensures c.number_all.auto.room
    (λ e. c.if-number.false (c.number.ensures ∙ e ∙ sym c.number-2.ensures))
