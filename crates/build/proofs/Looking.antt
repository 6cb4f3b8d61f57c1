-- What a look at a pair that waits finds, by whether its two children have their answers.
use Rattle.std.specs.Prelude.{None, Some, Option, is_some}
use Prim.Native.Nat.{ℕ}
use mathlib.Core.Path.{◌≡◌, sym, subst, ◌∙◌}
use mathlib.Core.Bool.{Bool, true, false}
use mathlib.Core.List.{List}
use native.Mathlib.Omega.{arith}
use Rattle.bdd.specs.Pairs.{Job, Pair}
use Rattle.bdd.specs.Lent.{Flip}
use Rattle.pair_run.specs.Held.{Absent, Found}
use Rattle.step.specs.Step.{side, Parts}
use Rattle.step.specs.declared.Ways.{Ways}
use Rattle.build.specs.Looks.{Replied, Misses, MissesBoth}

-- the look-up does not find the pair
pub not_found : {run : List ℕ} {l r : ℕ} (a : Option ℕ) {b : Bool} → Found run l r a → b ≡ is_some a → b ≡ false → Absent run l r
not_found None f e n = f
not_found (Some v) f e n = absurd (let z : true ≡ false = sym e ∙ n in let o : ◌≡◌ {A = ℕ} 0 1 = cc in omega arith)

-- what is known of a pair that waits once both its children were asked for
pub record Asked (j : Job) (out : Flip) (run : List ℕ) (p : Pair) (w : Ways) (high low : Option ℕ) : Type 0 where
  pub absent : Absent run p.left p.right
  pub parts : Parts j out p w
  pub near : Replied j.table run (side j out true p) high
  pub other : Replied j.table run (side j out false p) low

pub asked_both : (j : Job) (out : Flip) (run : List ℕ) (p : Pair) (w : Ways) (high low : Option ℕ) → Absent run p.left p.right → Parts j out p w
    → Replied j.table run w.near high → Replied j.table run w.other low → Asked j out run p w high low
asked_both j out run p w high low absent parts near other =
    record {
      absent = absent;
      parts = parts;
      near = subst (λ (q : Pair). Replied j.table run q high) parts.near near;
      other = subst (λ (q : Pair). Replied j.table run q low) parts.other other;
    }

module _ {j : Job} {out : Flip} {run : List ℕ} {p : Pair} {w : Ways} {high low : Option ℕ} (a : Asked j out run p w high low) where
  -- an answer, once it is told
  told : (b : Bool) (x y : Option ℕ) → x ≡ y → Replied j.table run (side j out b p) x → Replied j.table run (side j out b p) y
  told b x y = subst (λ (r : Option ℕ). Replied j.table run (side j out b p) r)

  pub looked_near : (y : ℕ) → high ≡ None → low ≡ Some y → Misses j out run p true w.near
  looked_near y e f =
      record {
        absent = a.absent;
        same = a.parts.near;
        misses = told true high None e a.near;
        number = y;
        replied = told false low (Some y) f a.other;
      }

  pub looked_other : (x : ℕ) → high ≡ Some x → low ≡ None → Misses j out run p false w.other
  looked_other x e f =
      record {
        absent = a.absent;
        same = a.parts.other;
        misses = told false low None f a.other;
        number = x;
        replied = told true high (Some x) e a.near;
      }

  pub looked_both : high ≡ None → low ≡ None → MissesBoth j out run p w.near w.other
  looked_both e f =
      record {
        absent = a.absent;
        same_near = a.parts.near;
        same_other = a.parts.other;
        misses_near = told true high None e a.near;
        misses_other = told false low None f a.other;
      }
