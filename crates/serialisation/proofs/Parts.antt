-- Record k of a file: where it is, how long, and that there is none behind the last whole one.
use Prim.Native.Nat.{ℕ, ◌*◌, ◌≤◌, ◌<◌}
use mathlib.Core.Path.{◌≡◌, ap, sym, ◌∙◌}
use mathlib.Core.Bool.{Bool, cond}
use mathlib.Core.List.{List, []}
use native.Mathlib.Omega.{arith}
use lib.ListN.{length, take, drop, length-drop}
use lib.Seq.{length-take-le}
use borrow.Author.Tests.{lt-ltb, le-ltb}
use Rattle.serialisation.specs.Bytes.{whole, part}

pub part_there : (s : List ℕ) (k : ℕ) → k < whole s → take 10 (drop (10 * k) s) ≡ part s k
unfolding part
part_there s k h = ap (λ (b : Bool). cond b (take 10 (drop (10 * k) s)) []) (sym (lt-ltb k (whole s) h))

pub part_none : (s : List ℕ) (k : ℕ) → whole s ≤ k → [] ≡ part s k
unfolding part
part_none s k h = ap (λ (b : Bool). cond b (take 10 (drop (10 * k) s)) []) (sym (le-ltb k (whole s) h))

-- ten bytes
pub part_length : (s : List ℕ) (k : ℕ) → k < whole s → length (part s k) ≡ 10
part_length s k h =
    let there : 10 ≤ length (drop (10 * k) s) = simp length-drop (omega arith) in
    ap length (sym (part_there s k h)) ∙ length-take-le 10 (drop (10 * k) s) there
