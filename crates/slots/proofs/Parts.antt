-- Parts of one run: what is read from a place on, and what is pasted there.
use Prim.Native.Nat.{ℕ, zero, suc, ◌+◌, ◌-◌, ◌≤◌, min}
use mathlib.Core.Path.{◌≡◌, sym, ap, ◌∙◌}
use mathlib.Core.List.{List, [], ◌∷◌, ◌++◌}
use native.Mathlib.Omega.{arith}
use native.Mathlib.Nat.{zero-add, suc-add}
use lib.ListN.{length, take, drop, length-drop}
use lib.Seq.{length-take-le, take-nil, take-take, drop-drop, take_at, drop_at, drop-append-add}
use Rattle.lent.specs.Copied.{copied}
use Rattle.slots.specs.Slots.{pasted}

module _ {A : Type 0} (t : ℕ) (xs : List A) where
  -- the array that is pasted stands there, and what stands before it is as it was
  pub pasted_stands : (s : ℕ) (from : List A) → t + s ≤ length xs → s ≤ length from → take s (drop t (pasted t s from xs)) ≡ take s from
  pasted_stands s from l m = at (min s (min (length (drop t xs)) (length from))) (omega (arith, length-drop t xs))
    where
      at : (k : ℕ) → k ≡ s → take s (drop t (take t xs ++ (take k from ++ drop k (drop t xs)))) ≡ take s from
      at k e =
          rw e
          (ap (take s) (drop_at (take t xs) (take s from ++ drop s (drop t xs)) t (length-take-le t xs (omega arith)))
          ∙ take_at (take s from) (drop s (drop t xs)) s (length-take-le s from m))

  pub pasted_before : (s : ℕ) (from : List A) → t ≤ length xs → take t (pasted t s from xs) ≡ take t xs
  pasted_before s from l = take_at (take t xs) (copied (drop t xs) from s) t (length-take-le t xs l)

-- behind room W nothing of an array that fits
pub behind_made : {A : Type 0} (made was : List A) (W : ℕ) → length made ≤ W → drop W (made ++ drop (length made) was) ≡ drop W was
behind_made made was W l =
    let d = W - length made in
    let e : W ≡ length made + d = omega arith in
    ap (λ (k : ℕ). drop k (made ++ drop (length made) was)) e
    ∙ drop-append-add made (drop (length made) was) d
    ∙ drop-drop d (length made) was
    ∙ ap (λ (k : ℕ). drop k was) (sym e)

drop_take : {A : Type 0} (a s : ℕ) (l : List A) → drop a (take (a + s) l) ≡ take s (drop a l)
drop_take zero s l = ap (λ (k : ℕ). take k l) (zero-add s)
drop_take (suc a) s [] = ap (drop (suc a)) (take-nil (suc a + s)) ∙ sym (take-nil s)
drop_take (suc a) s (x ∷ xs) = ap (λ (k : ℕ). drop (suc a) (take k (x ∷ xs))) (suc-add a s) ∙ drop_take a s xs

-- runs that are the same before place t
module _ {A : Type 0} (t : ℕ) (xs ys : List A) (e : take t xs ≡ take t ys) where
  pub same_before : (a : ℕ) → a ≤ t → take a xs ≡ take a ys
  same_before a l = sym (take-take a t xs l) ∙ ap (take a) e ∙ take-take a t ys l

  pub same_part : (a s : ℕ) → a + s ≤ t → take s (drop a xs) ≡ take s (drop a ys)
  same_part a s l = sym (drop_take a s xs) ∙ ap (drop a) (same_before (a + s) l) ∙ drop_take a s ys
