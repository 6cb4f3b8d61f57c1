-- Where the sides go: what a flip makes of it, the child pairs from both, and the children by the side that they become.
use Rattle.std.specs.Prelude.{None, Some}
use Prim.Native.Nat.{ℕ, min}
use mathlib.Core.Path.{◌≡◌, refl, sym, ap, ◌∙◌}
use mathlib.Core.Bool.{Bool, true, false, not, ◌&&◌, false≢true}
use mathlib.Core.List.{List}
use Rattle.std.specs.Prelude.{is_some, eqb}
use Rattle.std.specs.Option.{option_eq}
use Rattle.bdd.specs.Array.{Runs, var_of}
use Rattle.bdd.specs.Pairs.{Job, Pair, pair, job, child, flipped, moved}
use Rattle.bdd.specs.Lent.{Flip}
use Rattle.bdd.proofs.Logic.{and_left, and_right}
use Rattle.pairs.proofs.Flips.{swapped}
use Rattle.step.specs.Step.{Leads, side, Parts, kept, paired}
use Rattle.step.specs.declared.Children.{Children}
use Rattle.step.specs.declared.Links.{Links}
use Rattle.step.specs.declared.Ways.{Ways}
use Rattle.step.proofs.Codes.{leads}

-- a flip at the option exchanges the two sides, another one changes nothing
pub moved_swapped : (a : Runs) (f : Flip) (v : ℕ) (b : Bool) (i : ℕ) → flipped f v ≡ true → moved a f v b i ≡ moved a None v (not b) i
unfolding moved flipped
moved_swapped a f v b i e = rw e

pub moved_kept : (a : Runs) (f : Flip) (v : ℕ) (b : Bool) (i : ℕ) → flipped f v ≡ false → moved a f v b i ≡ moved a None v b i
unfolding moved flipped
moved_kept a f v b i e = rw e

kept_is : (f : Flip) → kept f ≡ true → f ≡ None
kept_is None e = refl
kept_is (Some w) e = absurd (false≢true e)

-- a flip that is none switches no option
pub none_flips : (f : Flip) (v : ℕ) → is_some f ≡ false → flipped f v ≡ false
unfolding flipped
none_flips None v e = refl
none_flips (Some w) v e = absurd (false≢true (sym e))

-- a flip that is this option
pub flip_is : (f : Flip) (v : ℕ) → option_eq eqb f (Some v) ≡ flipped f v
unfolding flipped
flip_is None v = refl
flip_is (Some w) v = refl

-- what holds without flips holds with flips that keep
pub leads_kept : (a b : Runs) (table : List ℕ) (f g : Flip) (p : Pair) (r : Children) → (kept f && kept g) ≡ true
    → Leads (job a b table None None) p r → Leads (job a b table f g) p r
leads_kept a b table f g p r e l =
    rw (kept_is f (and_left (kept f) (kept g) e), kept_is g (and_right (kept f) (kept g) e)) l

-- both sides where the asked option leads, in one
pub joined_leads : (j : Job) (p : Pair) (ask : ℕ) (l r : Links) (c : Children) → ask ≡ min (var_of j.left p.left) (var_of j.right p.right)
    → (l.off ≡ moved j.left j.flip_left ask false p.left) × (l.on ≡ moved j.left j.flip_left ask true p.left)
    → (r.off ≡ moved j.right j.flip_right ask false p.right) × (r.on ≡ moved j.right j.flip_right ask true p.right)
    → c ≡ paired ask l r → Leads j p c
joined_leads j p ask l r c asks left right e =
    rw e (leads j p (paired ask l r) asks (λ i. pair (left.0 i) (right.0 i)) (λ i. pair (left.1 i) (right.1 i)))

module _ (j : Job) (out : Flip) (p : Pair) (r : Children) (leads : Leads j p r) where
  becomes : (c s : Bool) → swapped out r.ask c ≡ s → child j s p ≡ side j out c p
  becomes c s t = ap (λ (d : Bool). child j d p) (sym t) ∙ ap (λ (v : ℕ). child j (swapped out v c) p) leads.ask

  pub parts_swapped : flipped out r.ask ≡ true → Parts j out p (record { ask = r.ask; near = r.off; other = r.on })
  parts_swapped f =
      record { ask = leads.ask; near = leads.off ∙ becomes true false (rw f); other = leads.on ∙ becomes false true (rw f) }

  pub parts_kept : flipped out r.ask ≡ false → Parts j out p (record { ask = r.ask; near = r.on; other = r.off })
  parts_kept f =
      record { ask = leads.ask; near = leads.on ∙ becomes true true (rw f); other = leads.off ∙ becomes false false (rw f) }

-- the children as they are
pub parts_unswapped : (j : Job) (out : Flip) (p : Pair) (r : Children) (w : Ways) → Leads j p r → flipped out r.ask ≡ false
    → (w.ask ≡ r.ask) × (w.near ≡ r.on) × (w.other ≡ r.off) → Parts j out p w
parts_unswapped j out p r w leads f same =
    let k = parts_kept j out p r leads f in
    record { ask = same.0 ∙ k.ask; near = same.1 ∙ k.near; other = same.2 ∙ k.other }
