-- What the numbers given for a flip and a limit mean: one number stands for none, and any other of n or more is refused.
use Rattle.std.specs.Prelude.{None, Some}
use Prim.Native.Nat.{ℕ, ◌<◌, ◌≤◌, min}
use mathlib.Core.Path.{◌≡◌, sym, ap, ◌∙◌}
use mathlib.Core.Bool.{Bool, cond}
use mathlib.Core.Logic.{⊎_elim}
use native.Mathlib.Omega.{arith}
use native.Mathlib.Nat.{min-eq_left, min-eq_right}
use lib.Dec.{leb}
use borrow.Author.Tests.{ne_eqb, le-leb}
use Rattle.bdd.proofs.Logic.{le_or_lt}
use Rattle.bdd.specs.Operations.{beyond}
use Rattle.bdd.specs.Lent.{Flip}
use Rattle.exports.specs.Numbered.{no_flip, farthest, numbered_flip}

flip_given : (x : ℕ) → (x ≡ no_flip → ⊥) → Some (min x farthest) ≡ numbered_flip x
flip_given x h = sym (ap (λ (t : Bool). cond t None (Some (min x farthest))) (ne_eqb x no_flip h))

-- so that a number other than that for none is n or more exactly where the flip that it gives is
pub beyond_given : (n x : ℕ) → n ≤ farthest → (x ≡ no_flip → ⊥) → beyond n (numbered_flip x) ≡ leb n x
beyond_given n x small other =
    ap (λ (f : Flip). beyond n f) (sym (flip_given x other))
    ∙ ⊎_elim (λ (h : x ≤ farthest). ap (λ (v : ℕ). leb n v) (min-eq_left h))
    (λ (h : farthest < x).
    ap (λ (v : ℕ). leb n v) (min-eq_right (omega arith)) ∙ le-leb n farthest small ∙ sym (le-leb n x (omega arith)))
    (le_or_lt x farthest)
