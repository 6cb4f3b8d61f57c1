-- The cells that `make` copies are the columns of its entries.
use Prim.Native.Nat.{ℕ, ◌≤◌, min}
use mathlib.Core.Path.{◌≡◌, ap, ◌∙◌}
use mathlib.Core.List.{List, map}
use native.Mathlib.Omega.{arith}
use lib.ListN.{length, take}
use lib.Seq.{length-take-le}
use Rattle.bdd.specs.Array.{Entry}
use Rattle.bdd.specs.Answers.{output_after}
use Rattle.bdd.proofs.Makers.{map_take}
use Rattle.lent.specs.Copied.{copied}

-- a copied front is an output run after done
pub column : (f : Entry → ℕ) (es : List Entry) (was from now : List ℕ) (s : ℕ) → s ≤ length was → s ≤ length from → map f es ≡ from → now ≡ copied was from s → now ≡ output_after 0 (map f (take s es)) was
unfolding output_after
column f es was from now s w l e n =
    let k : min s (min (length was) (length from)) ≡ s = omega arith in
    let m : map f (take s es) ≡ take s from = map_take f s es ∙ ap (take s) e in
    rw (n, k, m, length-take-le s from l)
