-- The turns of a walk, high side first: what it ends in is settled by what its two sides end in; and the walk from the root.
use Rattle.std.specs.Prelude.{None, Some, Option, ℕ}
use Prim.Native.Nat.{ℕ, suc, ◌+◌, ◌≤◌, ◌<◌}
use mathlib.Core.Path.{◌≡◌, refl, subst}
use mathlib.Core.Logic.{◌≢◌}
use mathlib.Core.Bool.{Bool, not}
use mathlib.Core.List.{List}
use native.Mathlib.Omega.{arith}
use native.Mathlib.Numerals.{add-one}
use lib.ListN.{get_or}
use Rattle.bdd.specs.Array.{Runs, size, root, low_link_of, high_link_of}
use Rattle.bdd.specs.Signed.{high_first}
use Rattle.bdd.specs.Walk.{side, Walk, seen, new}
use Rattle.bdd.proofs.Ordered.{Ordered}
use Rattle.bdd.proofs.Converse.{IsInOrder}
use Rattle.set_checks.specs.Checked.{Walkable, Met}

-- a walk leaves one number of entries known
pub walk_one : {first : Bool} {a : Runs} {i k l m : ℕ} → Walk first a i k l → Walk first a i k m → l ≡ m
walk_one (seen p) (seen q) = refl
walk_one (seen p) (new q x y) = absurd (omega arith)
walk_one (new p x y) (seen q) = absurd (omega arith)
walk_one (new p x y) (new q x' y') = refl

-- a walk that comes to a new entry
pub record Opened (first : Bool) (a : Runs) (i k m : ℕ) : Type 0 where
  pub between : ℕ
  pub one : Walk first a (side a first i) k between
  pub other : Walk first a (side a (not first) i) between i
  pub leaves : m ≡ suc i

pub walk_open : {first : Bool} {a : Runs} {i k m : ℕ} → Walk first a i k m → k ≤ i → Opened first a i k m
walk_open (seen p) h = absurd (omega arith)
walk_open (new {l = l} p x y) h = record { between = l; one = x; other = y; leaves = refl }

pub told_known : (a : Runs) (i k : ℕ) (r : (Option ℕ)) → Met a i k r → (m : ℕ) → r ≡ Some m → Walk high_first a i k m
told_known a i k r h m z = subst (Met a i k) z h

module _ (low high : List ℕ) (i k : ℕ) (w : Walkable low high i k) where
  -- both links of a new entry lead down
  pub back : k ≤ i → (get_or low i 0 < i) × (get_or high i 0 < i)
  back due = w.down i (omega (arith, w.terminals)) (omega arith)

  -- on to an earlier entry, with no fewer entries known
  pub walkable_on : (x l : ℕ) → x < i → k ≤ l → Walkable low high x l
  walkable_on x l h grown =
      record {
        in_low = omega (arith, w.in_low);
        in_high = omega (arith, w.in_high);
        terminals = omega (arith, w.terminals);
        down = λ m p q. w.down m p (omega arith);
      }

module _ (a : Runs) (i k : ℕ) (due : k ≤ i) (x : ℕ) (high : x ≡ high_link_of a i) (r : (Option ℕ)) (first : Met a x k r) where
  pub broken_high : r ≡ None → Met a i k None
  broken_high z m w =
      let o = walk_open w due in
      subst (Met a x k) z first o.between (rw high o.one)

  module _ (l : ℕ) (known : r ≡ Some l) where
    known_high : Walk high_first a x k l
    known_high = told_known a x k r first l known

    module _ (y : ℕ) (low : y ≡ low_link_of a i) (s : (Option ℕ)) (then : Met a y l s) where
      low_side : (m : ℕ) → Walk high_first a i k m → Walk high_first a y l i
      low_side m w =
          let o = walk_open w due in
          let same : o.between ≡ l = walk_one o.one (rw high at known_high) in
          rw (low, ← same) o.other

      pub broken_low : s ≡ None → Met a i k None
      broken_low z m w = subst (Met a y l) z then i (low_side m w)

      module _ (m : ℕ) (told : s ≡ Some m) where
        known_low : Walk high_first a y l m
        known_low = told_known a y l s then m told

        pub broken_here : m ≢ i → Met a i k None
        broken_here ne p w = ne (walk_one known_low (low_side p w))

        pub met : m ≡ i → Met a i k (Some (i + 1))
        met e = rw add-one (new {l = l} due (rw high at known_high) (rw (low, e) at known_low))

-- the walk from the root of an ordered set
module _ (a : Runs) (l : 3 ≤ size a) where
  pub walkable_root : Ordered a → Walkable a.low a.high (root a) 2
  walkable_root o =
      record {
        in_low = omega (arith, o.layered.low_length);
        in_high = omega (arith, o.layered.high_length);
        terminals = omega arith;
        down = λ j p q. let e = o.layered.entry_on j p (omega arith) in (e.low, e.high);
      }

  module _ (r : (Option ℕ)) (walk : Met a (root a) 2 r) where
    pub root_broken : r ≡ None → IsInOrder high_first a → ⊥
    root_broken z h = subst (Met a (root a) 2) z walk (size a) (h.walk l)

    pub root_met : (m : ℕ) → r ≡ Some m → Walk high_first a (root a) 2 (size a)
    root_met m z =
        let w = told_known a (root a) 2 r walk m z in
        let all : m ≡ size a = omega (arith, (walk_open w (omega arith)).leaves) in
        rw all at w
