-- The answer of a yes/no check, `cond test y n`: what it is where the test passes and where it cannot, and what it tells of
-- the test.
use mathlib.Core.Path.{◌≡◌, refl, ap, sym, ◌∙◌}
use mathlib.Core.Bool.{Bool, true, false, cond}
use Rattle.bdd.proofs.Logic.{is_false}

module _ {A : Type 0} (test : Bool) (y n : A) where
  pub says_yes : test ≡ true → y ≡ cond test y n
  says_yes e = ap (λ (b : Bool). cond b y n) (sym e)

  pub says_no : (test ≡ true → ⊥) → n ≡ cond test y n
  says_no h = ap (λ (b : Bool). cond b y n) (is_false test h)

  module _ {r : A} (p : r ≡ cond test y n) where
    pub told_yes : (r ≡ n → ⊥) → test ≡ true
    told_yes h = at test refl
      where
        at : (b : Bool) → test ≡ b → test ≡ true
        at true e = e
        at false e = absurd (h (p ∙ ap (λ (b : Bool). cond b y n) e))

    pub told_no : (r ≡ y → ⊥) → test ≡ false
    told_no h = at test refl
      where
        at : (b : Bool) → test ≡ b → test ≡ false
        at true e = absurd (h (p ∙ ap (λ (b : Bool). cond b y n) e))
        at false e = e

    -- a yes is the one that the check gives
    pub told_as : test ≡ true → r ≡ y
    told_as e = p ∙ ap (λ (b : Bool). cond b y n) e
