-- The value of each operator that is run is the one that the paper gives the job; and where a literal is ordered.
use Rattle.std.specs.Prelude.{None, Some}
use Prim.Native.Nat.{ℕ, ◌≤◌, ◌<◌}
use mathlib.Core.Path.{◌≡◌, refl, sym, ap, ◌∙◌, fun_ext}
use mathlib.Core.Bool.{Bool, true, false, cond, not, ◌&&◌, ◌||◌, beq, and_comm, or_comm}
use mathlib.Core.List.{[], ◌∷◌}
use lib.Dec.{eqb, ltb}
use borrow.Author.Tests.{eq-eqb, le-leb, lt-ltb}
use Rattle.bdd.specs.Bounds.{most_options}
use Rattle.bdd.specs.Array.{laid, ordered, bounded, layered, even, every, placed, inner, same_entry}
use Rattle.bdd.specs.Value.{Setting, Function, value, value_at, follow, chosen, put}
use Rattle.bdd.specs.Table.{answer, digits, operator, filled, bit, all_of, inputs, fillings, good}
use Rattle.bdd.specs.Jobs.{operated, switched, digit, exists, for_all, selected, literal_array}
use Rattle.bdd.proofs.Settings.{put_itself}
use Rattle.op_function.proofs.Sixteen.{operator_good}
use Rattle.operators.specs.Numbered.{numbered}

-- an operator at two known values
abbrev decided : ℕ → Bool → Bool → Bool
decided p x y = eqb (answer (numbered p) (digit x ∷ digit y ∷ [])) 1

by_four : (p : ℕ) (by : Bool → Bool → Bool) → decided p true true ≡ by true true → decided p true false ≡ by true false
    → decided p false true ≡ by false true → decided p false false ≡ by false false → (x y : Bool) → decided p x y ≡ by x y
by_four p by tt tf ft ff true true = tt
by_four p by tt tf ft ff true false = tf
by_four p by tt tf ft ff false true = ft
by_four p by tt tf ft ff false false = ff

or_value : (x y : Bool) → decided 14 x y ≡ (x || y)
unfolding numbered answer digits operator filled bit all_of inputs fillings
or_value = by_four 14 ◌||◌ refl refl refl refl

and_value : (x y : Bool) → decided 8 x y ≡ (x && y)
unfolding numbered answer digits operator filled bit all_of inputs fillings
and_value = by_four 8 ◌&&◌ refl refl refl refl

and_not_value : (x y : Bool) → decided 4 x y ≡ (x && not y)
unfolding numbered answer digits operator filled bit all_of inputs fillings
and_not_value = by_four 4 (λ x y. x && not y) refl refl refl refl

-- a set with itself flipped at the option: its values with the option off and with it on, in one order or the other
module _ (p : ℕ) (by : Bool → Bool → Bool) (value-by : (x y : Bool) → decided p x y ≡ by x y) (swap : (x y : Bool) → by x y ≡ by y x) where
  quantified : (v : ℕ) (f : Function) (σ : Setting) → operated (numbered p) None (Some v) None f f σ ≡ by (f (put v false σ)) (f (put v true σ))
  unfolding operated switched
  quantified v f σ = value-by _ _ ∙ ap (λ (τ : Setting). by (f τ) (f (put v (not (σ v)) σ))) (sym (put_itself v σ)) ∙ at (σ v)
    where
      at : (b : Bool) → by (f (put v b σ)) (f (put v (not b) σ)) ≡ by (f (put v false σ)) (f (put v true σ))
      at true = swap _ _
      at false = refl

pub exists_value : (v : ℕ) (f : Function) → operated (numbered 14) None (Some v) None f f ≡ exists v f
unfolding exists
exists_value v f = fun_ext (quantified 14 ◌||◌ or_value or_comm v f)

pub for_all_value : (v : ℕ) (f : Function) → operated (numbered 8) None (Some v) None f f ≡ for_all v f
unfolding for_all
for_all_value v f = fun_ext (quantified 8 ◌&&◌ and_value and_comm v f)

pub both_value : (f g : Function) → operated (numbered 8) None None None f g ≡ (λ σ. f σ && g σ)
unfolding operated switched
both_value f g = fun_ext (λ σ. and_value (f σ) (g σ))

pub without_value : (v : ℕ) (f g : Function) → operated (numbered 4) None (Some v) None f g ≡ (λ σ. f σ && not (g (switched (Some v) σ)))
unfolding operated switched
without_value v f g = fun_ext (λ σ. and_not_value (f σ) (g (switched (Some v) σ)))

-- a literal is on where its option stands as asked, whatever option n is
literal_value : (n v : ℕ) (b : Bool) (σ : Setting) → value (laid (literal_array n v b)) σ ≡ beq (σ v) b
unfolding value value_at follow chosen
literal_value n v b σ = at b (σ v)
  where
    either : (t : Bool) (x : ℕ) → cond t x x ≡ x
    either true x = refl
    either false x = refl

    at : (b s : Bool) → eqb (chosen (laid (literal_array n v b)) σ (cond s (digit b) (digit (not b)))) 1 ≡ beq s b
    at true true = ap (λ (x : ℕ). eqb x 1) (either (σ n) 1)
    at true false = ap (λ (x : ℕ). eqb x 1) (either (σ n) 0)
    at false true = ap (λ (x : ℕ). eqb x 1) (either (σ n) 0)
    at false false = ap (λ (x : ℕ). eqb x 1) (either (σ n) 1)

pub selected_value : (n v : ℕ) (b : Bool) (f : Function) → operated (numbered 8) None None None f (value (laid (literal_array n v b))) ≡ selected v b f
unfolding operated switched selected
selected_value n v b f = fun_ext (λ σ. and_value (f σ) (value (laid (literal_array n v b)) σ) ∙ ap (λ (t : Bool). f σ && t) (literal_value n v b σ) ∙ at (f σ) (beq (σ v) b))
  where
    at : (x t : Bool) → (x && t) ≡ cond t x false
    at true true = refl
    at true false = refl
    at false true = refl
    at false false = refl

four : (t : Bool) → (t && true && (t && t)) ≡ t
four true = refl
four false = refl

-- over at most 256 options a literal is ordered exactly where its option is one of them
pub literal_ordered : (n v : ℕ) (b : Bool) → n ≤ most_options → ordered (laid (literal_array n v b)) ≡ ltb v n
unfolding ordered bounded layered even every placed inner same_entry
literal_ordered n v true l = rw (le-leb n most_options l, eq-eqb n n refl) (four (ltb v n))
literal_ordered n v false l = rw (le-leb n most_options l, eq-eqb n n refl) (four (ltb v n))

-- every operator's table is good
pub good_table : (p : ℕ) → p < 16 → good 2 (numbered p) ≡ true
unfolding numbered
good_table p l = rw (lt-ltb p 16 l) (operator_good p l)
