-- A run of links, negated: links 0 and 1 swap from entry 2 on. They stand first, and the rest of the run is as it was.
use Rattle.std.specs.Prelude.{ℕ, List, ◌++◌, map, length, take, drop}
use Rattle.bdd.specs.Jobs.{swapped_link}

abbrev pub negated_over : List ℕ → List ℕ → List ℕ
negated_over from was = (take 2 from ++ map swapped_link (drop 2 from)) ++ drop (length from) was
