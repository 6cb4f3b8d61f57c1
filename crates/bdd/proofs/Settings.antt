-- Laws of putting an option in a setting, and of functions that ignore an option.
use Prim.Native.Nat.{ℕ}
use mathlib.Core.Path.{◌≡◌, refl, sym, ap, ◌∙◌, fun_ext}
use mathlib.Core.Logic.{◌≢◌}
use mathlib.Core.Bool.{Bool, true, false, cond}
use lib.Dec.{eqb}
use borrow.Author.Tests.{eqb-true, eq-eqb, ne_eqb}
use Rattle.bdd.specs.Value.{Setting, Function, put, with_option}

pub put_same : (k : ℕ) (b c : Bool) (σ : Setting) → put k b (put k c σ) ≡ put k b σ
unfolding put
put_same k b c σ = fun_ext (λ i. at (eqb i k) i)
  where
    at : (t : Bool) (i : ℕ) → cond t b (cond t c (σ i)) ≡ cond t b (σ i)
    at true i = refl
    at false i = refl

pub put_other : (j k : ℕ) (b c : Bool) (σ : Setting) → j ≢ k → put j b (put k c σ) ≡ put k c (put j b σ)
unfolding put
put_other j k b c σ ne = fun_ext (λ i. at i (eqb i j) (eqb i k) refl refl)
  where
    at : (i : ℕ) (s t : Bool) → eqb i j ≡ s → eqb i k ≡ t → cond s b (cond t c (σ i)) ≡ cond t c (cond s b (σ i))
    at i true true p q = absurd (ne (sym (eqb-true i j p) ∙ eqb-true i k q))
    at i true false p q = refl
    at i false true p q = refl
    at i false false p q = refl

pub put_itself : (k : ℕ) (σ : Setting) → put k (σ k) σ ≡ σ
unfolding put
put_itself k σ = fun_ext (λ i. at i (eqb i k) refl)
  where
    at : (i : ℕ) (t : Bool) → eqb i k ≡ t → cond t (σ k) (σ i) ≡ σ i
    at i true p = ap σ (sym (eqb-true i k p))
    at i false p = refl

pub put_at : (k : ℕ) (b : Bool) (σ : Setting) → put k b σ k ≡ b
unfolding put
put_at k b σ = ap (λ (t : Bool). cond t b (σ k)) (eq-eqb k k refl)

pub put_off : (k : ℕ) (b : Bool) (σ : Setting) (i : ℕ) → i ≢ k → put k b σ i ≡ σ i
unfolding put
put_off k b σ i ne = ap (λ (t : Bool). cond t b (σ i)) (ne_eqb i k ne)

-- a function ignores option k: putting it changes nothing
abbrev pub Ignores : ℕ → Function → Type 0
Ignores k f = (b : Bool) → with_option k b f ≡ f

pub ignores_put : (k : ℕ) (b : Bool) (f : Function) → Ignores k (with_option k b f)
ignores_put k b f c = fun_ext (λ σ. ap f (put_same k b c σ))

pub ignores_with : (j k : ℕ) (b : Bool) (f : Function) → j ≢ k → Ignores j f → Ignores j (with_option k b f)
ignores_with j k b f ne h c = fun_ext (λ σ. ap f (put_other k j b c σ (λ e. ne (sym e))) ∙ ap (λ (g : Function). g (put k b σ)) (h c))
