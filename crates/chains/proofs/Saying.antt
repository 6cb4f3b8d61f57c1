-- An answer that says whether something holds, by the test that gave it.
use mathlib.Core.Path.{◌≡◌, refl, sym}
use mathlib.Core.Bool.{Bool, true, false, false≢true}
use Rattle.chains.specs.Chains.{Says}

pub says : {P : Type 0} (b : Bool) → (b ≡ true → P) → (b ≡ false → P → ⊥) → Says b P
says true holds fails = holds refl
says false holds fails = fails refl

-- what the answer says, once it is told
pub said : {P : Type 0} (b : Bool) → Says b P → b ≡ true → P
said true s e = s
said false s e = absurd (false≢true e)

pub denied : {P : Type 0} (b : Bool) → Says b P → b ≡ false → P → ⊥
denied true s e = absurd (false≢true (sym e))
denied false s e = s
