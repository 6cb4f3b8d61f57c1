-- A number of the stack stands for its pair; what moves by the asked option is the child; and the entries of a reached pair are
-- within their sets, and small.
use Prim.Native.Nat.{ℕ, ◌-◌, ◌<◌, ◌≤◌, min}
use mathlib.Core.Path.{◌≡◌, ap, ◌∙◌}
use mathlib.Core.Bool.{Bool, true, false}
use native.Mathlib.Omega.{arith}
use lib.Arith.{digits_div, digits_mod}
use Rattle.bdd.specs.Bounds.{most_entries}
use Rattle.bdd.specs.Array.{Runs, var_of, size}
use Rattle.bdd.specs.Pairs.{Pair, pair, Job, Checked, pairs_of, asked, child, moved, roots}
use Rattle.bdd.proofs.Ordered.{Ordered}
use Rattle.counting.proofs.Reaching.{Reach, at_root}
use Rattle.pairs.proofs.Pairs.{left_ordered, right_ordered, reach_inside}
use Rattle.step.specs.Step.{code, decoded, Small, Within, Leads}
use Rattle.step.specs.declared.Children.{Children}

pub decoded_code : (p : Pair) → Small p → decoded (code p) ≡ p
decoded_code p s = λ i. record { left = digits_div p.left s.right i; right = digits_mod p.left s.right i }

-- where option v leads a pair on side b
abbrev pub moved_pair : Job → Pair → Bool → ℕ → Pair
moved_pair j p b v = pair (moved j.left j.flip_left v b p.left) (moved j.right j.flip_right v b p.right)

pub leads : (j : Job) (p : Pair) (r : Children) → r.ask ≡ min (var_of j.left p.left) (var_of j.right p.right)
    → r.off ≡ moved_pair j p false r.ask → r.on ≡ moved_pair j p true r.ask → Leads j p r
unfolding asked child
leads j p r ask off on =
    record { ask = ask; off = off ∙ ap (moved_pair j p false) ask; on = on ∙ ap (moved_pair j p true) ask }

within : {a : Runs} {i : ℕ} → Ordered a → i < size a → Within a i
within o l =
    record { variable = l; low = omega (arith, o.layered.low_length); high = omega (arith, o.layered.high_length) }

module _ {j : Job} (c : Checked j) {p : Pair} (r : Reach (pairs_of j) p) where
  pub reach_within : Within j.left p.left × Within j.right p.right
  reach_within = let i = reach_inside c r in (within (left_ordered c) i.left, within (right_ordered c) i.right)

  pub reach_small : Small p
  reach_small =
      let i = reach_inside c r in
      record { left = omega (arith, i.left, (left_ordered c).size_most); right = omega (arith, i.right, (right_ordered c).size_most) }

-- the pair that the code has for the roots
module _ {j : Job} (c : Checked j) where
  pub roots_there : ((0 < size j.left) × (size j.left ≤ most_entries)) × ((0 < size j.right) × (size j.right ≤ most_entries))
  roots_there =
      let l = left_ordered c in
      let r = right_ordered c in
      ((l.size_least, l.size_most), (r.size_least, r.size_most))

  module _ {p : Pair} (e : p ≡ pair (size j.left - 1) (size j.right - 1)) where
    pub roots_are : p ≡ roots j
    unfolding roots
    roots_are = e

    pub roots_small : Small p
    roots_small = rw roots_are (reach_small c at_root)
