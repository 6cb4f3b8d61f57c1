-- The places at which the search for two numbers begins, one after the other; no promise rests on the two factors.
use Rattle.std.specs.Prelude.{ℕ, zero, suc, ◌+◌, ◌*◌, ◌/◌, ◌%◌, ◌^◌}

unfoldable pub mixed : ℕ → ℕ → ℕ
mixed x y = (x * 0x3EC0_5657 + y * 0x6E1E_F25B) % 2 ^ 32

-- y mixed into x so many times
unfoldable pub turned : ℕ → ℕ → ℕ → ℕ
turned zero x y = x
turned (suc d) x y = mixed (turned d x y) y

-- a number below 2 ^ 32, spread over the room: the upper half of a product
unfoldable pub scaled : ℕ → ℕ → ℕ
scaled room x = x * (room % 2 ^ 32) / 2 ^ 32

-- the place after d others
unfoldable pub spot_of : ℕ → ℕ → ℕ → ℕ → ℕ
spot_of room x y d = scaled room (turned (suc d) x y)
