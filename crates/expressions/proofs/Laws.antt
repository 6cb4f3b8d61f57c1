-- What follows from the theorem on the arrays themselves: De Morgan, distribution, flips and negation twice; and the request's own case,
-- a set restricted and put in signing order against the same rule built by conjunction.
use Rattle.std.specs.Prelude.{None, Some}
use Prim.Native.Nat.{ℕ}
use mathlib.Core.Path.{◌≡◌, refl, sym, ap, ap₂, ◌∙◌, fun_ext}
use mathlib.Core.Bool.{Bool, true, false, cond, not, ◌||◌, beq, not-not}
use mathlib.Core.List.{List, [], ◌∷◌, ◌++◌}
use native.Mathlib.Omega.{arith}
use lib.ListN.{get_or}
use lib.Dec.{eqb}
use Rattle.bdd.specs.Array.{Entry, entry, laid, same_entry}
use Rattle.bdd.specs.Value.{Setting, Function, put}
use Rattle.bdd.specs.Signed.{signed, write, decide, add, find, high_first, low_first}
use Rattle.bdd.specs.Table.{operator, answer, digits, filled, bit, all_of, inputs, fillings}
use Rattle.bdd.specs.Jobs.{operated, switched, negated, exists, selected, digit, literal_array, false_array, true_array}
use Rattle.bdd.specs.Lent.{Flip}
use Rattle.bdd.proofs.Settings.{put_same, put_at, put_itself}
use Rattle.bdd.proofs.Written.{constant}
use Rattle.bdd.proofs.Meaning.{signed_never}
use Rattle.operators.specs.Numbered.{numbered}
use Rattle.relation_ops.proofs.Values.{selected_value}
use Rattle.expressions.specs.Expressions as expressions
use Rattle.expressions.specs.Expressions.{signing, any, Expression, set, negation, existential, put_in_order, restriction_at, value_of}
use Rattle.expressions.specs.Writing.{Writes}
use Rattle.expressions.proofs.Theorem.{written, same_array}

-- operator p without flips
abbrev pub joined : ℕ → Expression signing → Expression signing → Expression signing
joined p x y = expressions.operator (numbered p) None None None x y

abbrev pub both : Expression signing → Expression signing → Expression signing
both = joined 8

abbrev pub either : Expression signing → Expression signing → Expression signing
either = joined 14

abbrev pub differ : Expression signing → Expression signing → Expression signing
differ = joined 6

-- both inputs flipped at the option, joined by and: the set itself, flipped
abbrev pub flip : ℕ → Expression signing → Expression signing
flip v x = expressions.operator (numbered 8) (Some v) (Some v) None x x

-- ---- truths of Booleans, each by one table

abbrev decided : ℕ → Bool → Bool → Bool
decided p a b = eqb (answer (numbered p) (digit a ∷ digit b ∷ [])) 1

abbrev four : (Bool → Bool → Bool) → List Bool
four f = f true true ∷ f true false ∷ f false true ∷ f false false ∷ []

on_two : (f g : Bool → Bool → Bool) → four f ≡ four g → (a b : Bool) → f a b ≡ g a b
on_two f g e true true = ap (λ (bs : List Bool). get_or bs 0 false) e
on_two f g e true false = ap (λ (bs : List Bool). get_or bs 1 false) e
on_two f g e false true = ap (λ (bs : List Bool). get_or bs 2 false) e
on_two f g e false false = ap (λ (bs : List Bool). get_or bs 3 false) e

on_three : (f g : Bool → Bool → Bool → Bool) → four (f true) ≡ four (g true) → four (f false) ≡ four (g false) → (a b c : Bool) → f a b c ≡ g a b c
on_three f g e h true = on_two (f true) (g true) e
on_three f g e h false = on_two (f false) (g false) h

-- a set joined with itself by and
alone : (b : Bool) → decided 8 b b ≡ b
unfolding numbered answer digits operator filled bit all_of inputs fillings
alone true = refl
alone false = refl

none : (b : Bool) → decided 6 b b ≡ false
unfolding numbered answer digits operator filled bit all_of inputs fillings
none true = refl
none false = refl

switched_twice : (v : ℕ) (σ : Setting) → switched (Some v) (switched (Some v) σ) ≡ σ
unfolding switched
switched_twice v σ =
    put_same v _ (not (σ v)) σ ∙ ap (λ (b : Bool). put v (not b) σ) (put_at v (not (σ v)) σ)
    ∙ ap (λ (b : Bool). put v b σ) (not-not (σ v)) ∙ put_itself v σ

flip_value : (n v : ℕ) (x : Expression signing) (σ : Setting) → value_of n (flip v x) σ ≡ value_of n x (switched (Some v) σ)
unfolding value_of operated switched
flip_value n v x σ = alone (value_of n x (put v (not (σ v)) σ))

-- ---- the laws, on the arrays that are hashed

module _ {n : ℕ} {es fs : List Entry} where
  pub de_morgan_and : (x y : Expression signing) → Writes n signing (negation (both x y)) es → Writes n signing (either (negation x) (negation y)) fs → es ≡ fs
  unfolding value_of negated operated switched numbered answer digits operator filled bit all_of inputs fillings
  de_morgan_and x y w u =
      same_array w u (λ σ. on_two (λ a b. not (decided 8 a b)) (λ a b. decided 14 (not a) (not b)) refl (value_of n x σ) (value_of n y σ))

  pub de_morgan_or : (x y : Expression signing) → Writes n signing (negation (either x y)) es → Writes n signing (both (negation x) (negation y)) fs → es ≡ fs
  unfolding value_of negated operated switched numbered answer digits operator filled bit all_of inputs fillings
  de_morgan_or x y w u =
      same_array w u (λ σ. on_two (λ a b. not (decided 14 a b)) (λ a b. decided 8 (not a) (not b)) refl (value_of n x σ) (value_of n y σ))

  pub and_over_or : (x y z : Expression signing) → Writes n signing (both x (either y z)) es → Writes n signing (either (both x y) (both x z)) fs → es ≡ fs
  unfolding value_of operated switched numbered answer digits operator filled bit all_of inputs fillings
  and_over_or x y z w u =
      same_array w u
      (λ σ.
      on_three (λ a b c. decided 8 a (decided 14 b c)) (λ a b c. decided 14 (decided 8 a b) (decided 8 a c)) refl refl
      (value_of n x σ) (value_of n y σ) (value_of n z σ))

  pub or_over_and : (x y z : Expression signing) → Writes n signing (either x (both y z)) es → Writes n signing (both (either x y) (either x z)) fs → es ≡ fs
  unfolding value_of operated switched numbered answer digits operator filled bit all_of inputs fillings
  or_over_and x y z w u =
      same_array w u
      (λ σ.
      on_three (λ a b c. decided 14 a (decided 8 b c)) (λ a b c. decided 8 (decided 14 a b) (decided 14 a c)) refl refl
      (value_of n x σ) (value_of n y σ) (value_of n z σ))

  pub or_by_and : (x y : Expression signing) → Writes n signing (either x y) es → Writes n signing (negation (both (negation x) (negation y))) fs → es ≡ fs
  unfolding value_of negated operated switched numbered answer digits operator filled bit all_of inputs fillings
  or_by_and x y w u =
      same_array w u (λ σ. on_two (λ a b. decided 14 a b) (λ a b. not (decided 8 (not a) (not b))) refl (value_of n x σ) (value_of n y σ))

  pub negation_twice : (x : Expression signing) → Writes n signing (negation (negation x)) es → Writes n signing x fs → es ≡ fs
  unfolding value_of negated
  negation_twice x w u = same_array w u (λ σ. not-not (value_of n x σ))

  pub flip_twice : (v : ℕ) (x : Expression signing) → Writes n signing (flip v (flip v x)) es → Writes n signing x fs → es ≡ fs
  flip_twice v x w u =
      same_array w u (λ σ. flip_value n v (flip v x) σ ∙ flip_value n v x (switched (Some v) σ) ∙ ap (value_of n x) (switched_twice v σ))

  -- the operator's own flip of an input undoes a flip of it
  pub input_flip_twice : (table : List ℕ) (v : ℕ) (right output : Flip) (x y : Expression signing)
      → Writes n signing (expressions.operator table (Some v) right output (flip v x) y) es
      → Writes n signing (expressions.operator table None right output x y) fs → es ≡ fs
  unfolding value_of operated switched
  input_flip_twice table v right output x y w u =
      same_array w u
      (λ σ.
      let τ = switched output σ in
      ap (λ (b : Bool). eqb (answer table (digit b ∷ digit (value_of n y (switched right τ)) ∷ [])) 1)
      (flip_value n v x (switched (Some v) τ) ∙ ap (value_of n x) (switched_twice v τ)))

  -- and a flip of the array undoes the output's
  pub output_flip_twice : (table : List ℕ) (v : ℕ) (left right : Flip) (x y : Expression signing)
      → Writes n signing (flip v (expressions.operator table left right (Some v) x y)) es
      → Writes n signing (expressions.operator table left right None x y) fs → es ≡ fs
  unfolding value_of operated switched
  output_flip_twice table v left right x y w u =
      same_array w u
      (λ σ.
      flip_value n v (expressions.operator table left right (Some v) x y) σ
      ∙ ap (λ (τ : Setting). eqb (answer table (digit (value_of n x (switched left τ)) ∷ digit (value_of n y (switched right τ)) ∷ [])) 1)
      (switched_twice v σ))

  -- a set restricted at an option and put in signing order is the set joined with the literal and quantified
  pub restricted_or_joined : (v : ℕ) (b : Bool) (x : Expression signing)
      → Writes n signing (put_in_order (restriction_at v b x)) es
      → Writes n signing (existential v (both x (set (laid (literal_array n v b))))) fs → es ≡ fs
  unfolding value_of exists selected
  restricted_or_joined v b x w u =
      let f = value_of n x in
      same_array w u
      (λ σ.
      at b (f (put v true σ)) (f (put v false σ)) (f (put v b σ)) (chosen f σ b)
      ∙ ap₂ (λ (off on : Bool). cond (beq off b) (f (put v false σ)) false || cond (beq on b) (f (put v true σ)) false)
      (sym (put_at v false σ)) (sym (put_at v true σ))
      ∙ sym (ap (λ (g : Function). g (put v false σ) || g (put v true σ)) (selected_value n v b f)))
    where
      chosen : (f : Function) (σ : Setting) (b : Bool) → f (put v b σ) ≡ cond b (f (put v true σ)) (f (put v false σ))
      chosen f σ true = refl
      chosen f σ false = refl

      at : (b on off x : Bool) → x ≡ cond b on off → x ≡ (cond (beq false b) off false || cond (beq true b) on false)
      at true on off x e = e
      at false on true x e = e
      at false on false x e = e

-- a set without itself is false
pub xor_with_itself : {n : ℕ} {es : List Entry} (x : Expression signing) → Writes n signing (differ x x) es → es ≡ false_array n
unfolding value_of operated switched
xor_with_itself {n} x w =
    (written w).array ∙ ap (signed high_first n) (fun_ext (λ σ. none (value_of n x σ))) ∙ signed_never high_first n (λ σ. false) [] (constant high_first false n 0 [])

-- the restricted array itself need not be the one in signing order: x0 xor x1 with no option named, of the settled table
abbrev unlike : Function
unlike σ = cond (σ 0) (not (σ 1)) (σ 1)

pub restricted_otherwise : signed low_first 2 unlike ≡ signed high_first 2 unlike → ⊥
unfolding signed write decide add find same_entry put
restricted_otherwise e = let z : ◌≡◌ {A = ℕ} 0 1 = ap (λ (es : List Entry). (get_or es 2 (entry 0 0 0)).low) e in omega arith
