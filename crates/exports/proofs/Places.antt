-- Where a record starts in its file: the bytes from there, as many as the part has, are the part; and a part without bytes is
-- exactly one behind the last whole record.
use Prim.Native.Nat.{ℕ, ◌*◌, ◌≤◌, ◌<◌}
use mathlib.Core.Path.{◌≡◌, ap, sym}
use mathlib.Core.Bool.{Bool, cond}
use mathlib.Core.Logic.{⊎_elim}
use mathlib.Core.List.{List}
use native.Mathlib.Omega.{arith}
use lib.ListN.{length, take, drop}
use borrow.Author.Tests.{lt-ltb, le-ltb}
use Rattle.bdd.proofs.Logic.{le_or_lt}
use Rattle.serialisation.specs.Bytes.{whole, part}
use Rattle.serialisation.proofs.Parts.{part_there, part_none, part_length}
use Rattle.exports.specs.Numbered.{place}

pub placed : (file : List ℕ) (k : ℕ) → k < whole file → 10 * k ≡ place file k
unfolding place
placed file k h = ap (λ (t : Bool). cond t (10 * k) 0) (sym (lt-ltb k (whole file) h))

unplaced : (file : List ℕ) (k : ℕ) → whole file ≤ k → 0 ≡ place file k
unfolding place
unplaced file k h = ap (λ (t : Bool). cond t (10 * k) 0) (sym (le-ltb k (whole file) h))

pub there : (file : List ℕ) (k : ℕ) → (length (part file k) ≡ 0 → ⊥) → k < whole file
there file k some =
    ⊎_elim (λ (h : whole file ≤ k). absurd (some (ap length (sym (part_none file k h))))) (λ (h : k < whole file). h)
    (le_or_lt (whole file) k)

pub behind : (file : List ℕ) (k : ℕ) → length (part file k) ≡ 0 → 0 ≡ place file k
behind file k none =
    ⊎_elim (λ (h : whole file ≤ k). unplaced file k h) (λ (h : k < whole file). absurd (omega (arith, part_length file k h)))
    (le_or_lt (whole file) k)

-- the part is the bytes of the file from its place on, as many as it has
pub part_at_place : (file : List ℕ) (k : ℕ) → take (length (part file k)) (drop (place file k) file) ≡ part file k
part_at_place file k =
    ⊎_elim (λ (h : whole file ≤ k). rw (← part_none file k h))
    (λ (h : k < whole file). rw (part_length file k h, ← placed file k h) (part_there file k h))
    (le_or_lt (whole file) k)
