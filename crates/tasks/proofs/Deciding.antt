-- An entry that is decided is one more or none, and its number is no greater than what was there or the next one.
use Prim.Native.Nat.{ℕ, suc, ◌+◌, ◌<◌, ◌≤◌}
use mathlib.Core.Path.{◌≡◌, refl}
use mathlib.Core.Bool.{Bool, true, false, cond}
use mathlib.Core.List.{List, [], ◌∷◌}
use mathlib.Core.Option.{Option, none, some}
use native.Mathlib.Omega.{arith}
use lib.ListN.{length, length-append}
use lib.Dec.{eqb}
use Rattle.bdd.specs.Array.{Entry, entry}
use Rattle.bdd.specs.Signed.{written, find, found_or_added, add, decide}
use Rattle.bdd.proofs.Written.{find_some}

added_length : (e : Entry) (es : List Entry) (f : Option ℕ) → length (found_or_added e es f).entries ≤ suc (length es)
added_length e es none = omega (arith, length-append es (e ∷ []))
added_length e es (some p) = omega arith

pub decide_length : (first : Bool) (k y z : ℕ) (es : List Entry) → length (decide first k y z es).entries ≤ suc (length es)
unfolding decide add
decide_length first k y z es = at (eqb y z)
  where
    e : Entry
    e = entry k (cond first z y) (cond first y z)

    at : (b : Bool) → length (cond b (written es y) (add e es)).entries ≤ suc (length es)
    at true = omega arith
    at false = added_length e es (find e 2 es)

-- the number is one of the two that `decide` was handed, or one of an entry
pub decide_below : (first : Bool) (k x y : ℕ) (es : List Entry) (b : ℕ) → x < b → y < b → 2 + length es < b → (decide first k x y es).at < b
unfolding decide add
decide_below first k x y es b lx ly le = at (eqb x y)
  where
    d : Entry
    d = entry k (cond first y x) (cond first x y)

    found : (f : Option ℕ) → find d 2 es ≡ f → (found_or_added d es f).at < b
    found none q = le
    found (some p) q = let h = find_some d 2 p es q in omega (arith, h.1, h.2)

    at : (t : Bool) → (cond t (written es x) (found_or_added d es (find d 2 es))).at < b
    at true = lx
    at false = found (find d 2 es) refl
