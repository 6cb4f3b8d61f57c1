-- Runs that are written from a place on, or from the front: what is put behind what was put.
use Prim.Native.Nat.{ℕ, ◌+◌, ◌≤◌}
use mathlib.Core.Path.{◌≡◌, ap, sym, ◌∙◌}
use mathlib.Core.List.{List, ◌++◌, append_assoc, append-nil}
use native.Mathlib.Omega.{arith}
use native.Mathlib.Nat.{zero-add}
use lib.ListN.{length, take, drop, length-append, drop_of_length-le}
use lib.Seq.{length-take-le, take_at, drop_at, drop-drop}
use Rattle.serialisation.specs.Bytes.{put_at, over}

-- these, and then the next behind them, are both together
pub put_more : (was : List ℕ) (at : ℕ) (these next : List ℕ) (n : ℕ) → at ≤ length was → at + length these ≡ n → put_at (put_at was at these) n next ≡ put_at was at (these ++ next)
unfolding put_at
put_more was at these next n h e =
    let p = take at was ++ these in
    let q = drop (at + length these) was in
    let size : length p ≡ n =
    length-append (take at was) these ∙ ap (λ (k : ℕ). k + length these) (length-take-le at was h) ∙ e in
    let both : at + length these + length next ≡ at + length (these ++ next) = omega (arith, length-append these next) in
    let front : take n (p ++ q) ≡ p = take_at p q n size in
    let back : drop (n + length next) (p ++ q) ≡ drop (at + length (these ++ next)) was =
    sym (drop-drop (length next) n (p ++ q)) ∙ ap (drop (length next)) (drop_at p q n size)
    ∙ drop-drop (length next) (at + length these) was ∙ ap (λ (k : ℕ). drop k was) both in
    (λ i. front i ++ next ++ back i)
    ∙ ap (λ (l : List ℕ). l ++ drop (at + length (these ++ next)) was) (append_assoc (take at was) these next)

pub over_put : (these was : List ℕ) → over these was ≡ put_at was 0 these
unfolding put_at over
over_put these was = ap (λ (k : ℕ). these ++ drop k was) (sym (zero-add (length these)))

pub over_more : (these next was : List ℕ) (n : ℕ) → length these ≡ n → put_at (over these was) n next ≡ over (these ++ next) was
over_more these next was n e =
    ap (λ (l : List ℕ). put_at l n next) (over_put these was) ∙ put_more was 0 these next n (omega arith) (zero-add (length these) ∙ e)
    ∙ sym (over_put (these ++ next) was)

-- nothing is left behind what fills the run
pub over_all : (these was : List ℕ) → length these ≡ length was → over these was ≡ these
unfolding over
over_all these was e =
    let none : length was ≤ length these = omega arith in
    ap (λ (l : List ℕ). these ++ l) (drop_of_length-le was none) ∙ append-nil these
