-- The bounds of the base: n is 0 to 256, L is 1 to 4,096; and a factor above all numbers of entries. No other definition names
-- these numbers.
use Rattle.std.specs.Prelude.{ℕ}

abbrev pub most_options : ℕ
most_options = 256

abbrev pub most_entries : ℕ
most_entries = 4096

-- two numbers of entries in one: the first times this, and the second, which is smaller
abbrev pub factor : ℕ
factor = 32768
