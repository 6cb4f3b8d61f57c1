-- A front that is copied: as many elements as asked, as far as both runs go; the rest as it was.
use Rattle.std.specs.Prelude.{ℕ, min, List, ◌++◌, length, take, drop}

abbrev pub copied : {A : Type 0} → List A → List A → ℕ → List A
copied was from s =
    let k = min s (min (length was) (length from)) in
    take k from ++ drop k was
