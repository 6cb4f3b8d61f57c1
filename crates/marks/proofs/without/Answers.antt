-- `marks::without` meets its contract.
use Prim.Native.Nat.{ℕ, ◌-◌, ◌*◌, ◌%◌, ◌^◌, ◌≤◌}
use mathlib.Core.Path.{◌≡◌, sym, ap, ap₂, ◌∙◌}
use mathlib.Core.List.{List}
use native.Mathlib.Omega.{arith}
use Rattle.marks.specs.Marking.{words, is_on, marked_in, those_below}
use Rattle.marks.proofs.Digits.{least}
use Rattle.marks.proofs.Marking.{alone, has_word, unmarked, was_unmarked}
use Rattle.marks.proofs.without.Goals as goal

pub returns-then-not-is_marked : goal.returns-then-not-is_marked
returns-then-not-is_marked c = was_unmarked (words c.args.m) _ (sym c.is_marked.ensures ∙ c.if-not-is_marked.true)

pub overflow_sub-word : goal.overflow_sub-word
unfolding marked_in
overflow_sub-word c =
    let j = c.args.v % 64 in
    let e : (1 * 2 ^ j) % 2 ^ 64 ≡ 2 ^ j = alone j (omega arith) in
    let f : 2 ^ j ≤ c.word.result =
    least j c.word.result (ap (is_on j) c.word.ensures ∙ sym c.is_marked.ensures ∙ c.if-not-is_marked.false) in
    omega arith

pub with_word-requires : goal.with_word-requires
with_word-requires c =
    has_word (words c.args.m) _ (sym c.is_marked.ensures ∙ c.if-not-is_marked.false)

pub returns : goal.returns
returns c =
    let m = c.args.m in
    let v = c.args.v in
    ap (λ (ws : List ℕ). those_below 256 (marked_in ws)) c.with_word.ensures
    ∙ unmarked (words m) v _ (sym c.is_marked.ensures ∙ c.if-not-is_marked.false)
    (ap₂ ◌-◌ c.word.ensures (alone (v % 64) (omega arith)))
