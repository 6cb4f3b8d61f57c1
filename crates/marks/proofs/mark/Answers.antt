-- `marks::mark` meets its contract.
use Prim.Native.Nat.{ℕ, ◌+◌, ◌*◌, ◌%◌, ◌^◌, ◌<◌}
use mathlib.Core.Path.{◌≡◌, ap, ap₂, ◌∙◌}
use mathlib.Core.List.{List}
use native.Mathlib.Omega.{arith}
use Rattle.marks.specs.Marking.{words, is_on, marked_in}
use Rattle.marks.proofs.Digits.{fits}
use Rattle.marks.proofs.Marking.{alone, also_marked}
use Rattle.marks.proofs.mark.Goals as goal

pub overflow_add-word : goal.overflow_add-word
unfolding marked_in
overflow_add-word c =
    let j = c.args.v % 64 in
    let e : (1 * 2 ^ j) % 2 ^ 64 ≡ 2 ^ j = alone j (omega arith) in
    let f : c.word.result + 2 ^ j < 2 ^ 64 =
    fits 64 j c.word.result (omega arith) (omega arith) (ap (is_on j) c.word.ensures ∙ c.requires.1) in
    record { fits = omega arith }

pub returns : goal.returns
returns c =
    λ u.
    ap (λ (ws : List ℕ). marked_in ws u) c.with_word.ensures
    ∙ also_marked (words c.args.m) c.args.v _ (omega arith) c.requires.1
    (ap₂ ◌+◌ c.word.ensures (alone (c.args.v % 64) (omega arith))) u
