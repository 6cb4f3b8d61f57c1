-- The answers of the checks, from the definitions of the page.
use Rattle.std.specs.Prelude.{ℕ, ◌<◌, ◌≡◌, true, cond, None, Some, Option}
use Rattle.bdd.specs.Array.{Runs, options, placed, ordered}

-- yes, with n, exactly where the set is ordered
abbrev pub checked_order : Runs → Option ℕ
checked_order a = cond (ordered a) (Some (options a)) None

-- every entry before entry i is in its place
abbrev pub Behind : Runs → ℕ → Type 0
Behind a i = (k : ℕ) → k < i → placed a k ≡ true
