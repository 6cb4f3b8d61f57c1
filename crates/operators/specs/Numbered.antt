-- The nine answers of an operator by its number. A number of 16 or more names none: no answers, which no table rule passes, so
-- that it is refused with 1.
use Rattle.std.specs.Prelude.{ℕ, cond, List, [], ltb}
use Rattle.bdd.specs.Table.{operator}

unfoldable pub numbered : ℕ → List ℕ
numbered p = cond (ltb p 16) (operator p) []
