-- A list of values has one for each option.
use Rattle.std.proofs.Common.{◌≡◌, ℕ, true, eqb, List, length, eqb-true}
use Rattle.std.specs.Prelude.{nat_le}
use Rattle.std.specs.List.{list_all}
use Rattle.bdd.proofs.Logic.{and_left}
use Rattle.restriction.specs.Restricts.{are_values}

pub values_length : (n : ℕ) (s : List ℕ) → are_values n s ≡ true → length s ≡ n
unfolding are_values
values_length n s e = eqb-true _ _ (and_left (eqb (length s) n) (list_all (λ x. nat_le x 2) s) e)
