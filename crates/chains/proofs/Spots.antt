-- Every place at which a search begins is a place.
use Prim.Native.Nat.{ℕ, ◌+◌, ◌*◌, ◌^◌, ◌<◌}
use mathlib.Core.Path.{◌≡◌, refl, sym, ap, ◌∙◌}
use native.Mathlib.Nat.{mul-le-mul_left, mul-le-mul_right, le-pred_of_lt, mod-le, mod-lt, div-lt_iff_lt-mul}
use native.Mathlib.Numerals.{add-one}
use native.Mathlib.Omega.{arith}
use lib.Dec.{lit<}
use Rattle.chains.specs.Spread.{mixed, turned, scaled, spot_of}

mixed_below : (x y : ℕ) → mixed x y < 2 ^ 32
unfolding mixed
mixed_below x y = mod-lt (x * 0x3EC0_5657 + y * 0x6E1E_F25B) {m = 2 ^ 32} (lit< tt)

-- a number below 2 ^ 32 is spread to a place
scaled_below : (room x : ℕ) → 0 < room → x < 2 ^ 32 → scaled room x < room
unfolding scaled
scaled_below room x some l =
    (div-lt_iff_lt-mul {k = 2 ^ 32} (lit< tt)).1
    (omega (arith, mul-le-mul_left x (mod-le room (2 ^ 32)), mul-le-mul_right room (le-pred_of_lt l)))

pub spot_below : (room x y d : ℕ) → 0 < room → spot_of room x y d < room
unfolding spot_of turned
spot_below room x y d some = scaled_below room (mixed (turned d x y) y) some (mixed_below (turned d x y) y)

-- one mixing more, and the place to which it leads
pub turned_next : (d x y : ℕ) {a b : ℕ} → a ≡ turned d x y → b ≡ mixed a y → b ≡ turned (d + 1) x y
unfolding turned
turned_next d x y p q = q ∙ ap (λ (m : ℕ). mixed m y) p ∙ ap (λ (n : ℕ). turned n x y) (sym (add-one d))

pub spot_next : (d x y : ℕ) {a b n m p : ℕ} → a ≡ turned d x y → b ≡ mixed a y → n ≡ m → p ≡ scaled n b → p ≡ spot_of m x y d
unfolding turned spot_of
spot_next d x y p q r s = s ∙ rw (r, q, p)

-- nothing is mixed yet
pub turned_none : (x y : ℕ) → x ≡ turned 0 x y
unfolding turned
turned_none x y = refl
