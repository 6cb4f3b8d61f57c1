-- Demand 3: two expressions over the same options of which no step was refused have equal arrays exactly where they have the same value at
-- every setting; and every such array is in signing order.
use Rattle.std.specs.Prelude.{None, Ok}
use Prim.Native.Nat.{ℕ, ◌≤◌}
use mathlib.Core.Path.{◌≡◌, refl, sym, ap, ap₂, ◌∙◌, fun_ext}
use mathlib.Core.Bool.{Bool, true, false, cond, not, ◌&&◌}
use mathlib.Core.List.{List, [], ◌∷◌, ◌++◌}
use native.Mathlib.Omega.{arith}
use lib.ListN.{length, get_or}
use lib.Dec.{eqb}
use borrow.Author.Tests.{ltb-false}
use Rattle.bdd.specs.Array.{Entry, Runs, laid, entries_of, entries_from, options, ordered}
use Rattle.bdd.specs.Value.{Setting, Function, Of, value, put, with_option}
use Rattle.bdd.specs.Signed.{signed, high_first, low_first, in_order, in_signing_order, same_runs}
use Rattle.bdd.specs.Jobs.{operated, negated, exists, for_all, selected, picked, restricted, fixed, not_array}
use Rattle.bdd.specs.Pairs.{job, room}
use Rattle.bdd.specs.Answers.{Checks, gives, Makes, set_checks, no_room}
use Rattle.bdd.specs.Operations.{Working, operation, Operates}
use Rattle.bdd.specs.declared.Refusal.TheVariants.{NoRoom}
use Rattle.bdd.specs.Lent.{Flip, Limit}
use Rattle.bdd.proofs.Logic.{and_left, and_both}
use Rattle.bdd.proofs.Ordered.{ordered_open, even_of}
use Rattle.bdd.proofs.Following.{ordered_value_of}
use Rattle.bdd.proofs.Meaning.{in_order_path, same_runs_of}
use Rattle.bdd.proofs.Negation.{laid_entries, entries_laid, negation_options, negation_ordered, negation_value, negation_signed}
use Rattle.operators.specs.Numbered.{numbered}
use Rattle.relation_ops.specs.Relations.{Relation, Relates, existential, universal, selection, array_of}
use Rattle.relation_ops.specs.Picking.{Picks, picking, wrote, relation_step}
use Rattle.relation_ops.proofs.Steps.{Stands, Made, stands_so, picked_by, by_greatest, nothing_first, operation_wrote, exists_wrote, for_all_wrote, select_wrote}
use Rattle.relation_ops.proofs.Whole.{Written, pick_done, copy_done}
use Rattle.relation_ops.proofs.Values.{both_value}
use Rattle.restriction.specs.Restricts as restricts
use Rattle.restriction.specs.Restricts.{Restricts, run_checks}
use Rattle.expressions.specs.Expressions.{Layout, signing, any, Expression, value_of}
use Rattle.expressions.specs.Writing.{Writes, of_set, of_operator, of_negation, of_existential, of_universal, of_selection, of_picking, of_order, of_loose_set, of_restriction, of_restriction_at}
use Rattle.expressions.proofs.Steps.{held, did, wrote_it, last_clear, one_clear}

-- what the array of an expression of each layout is: the one array of the value, or an ordered array of it
abbrev pub Fits : Layout → ℕ → Function → List Entry → Type 0
Fits signing = Made
Fits any = Stands

stands : (l : Layout) {n : ℕ} {f : Function} {es : List Entry} → Fits l n f es → Stands n f es
stands signing m = m.stands
stands any s = s

as_made : {m n : ℕ} {f g : Function} {es out : List Entry} → m ≡ n → f ≡ g → out ≡ es → Made m f es → Made n g out
as_made p q r m = rw (← p, ← q, r) m

as_stands : {m n : ℕ} {f g : Function} {es out : List Entry} → m ≡ n → f ≡ g → out ≡ es → Stands m f es → Stands n g out
as_stands p q r s = rw (← p, ← q, r) s

-- ---- each kind of step

loose_fits : (a : Runs) → ordered a ≡ true → Stands (options a) (value a) (entries_of a)
loose_fits a h =
    let l = (ordered_open a h).layered in
    let same = laid_entries a (even_of a l.low_length l.high_length) in
    record { is_ordered = ap ordered same ∙ h; over = ap options same; means = ap value same }

set_fits : (a : Runs) → in_signing_order a ≡ true → Made (options a) (value a) (entries_of a)
unfolding in_order
set_fits a h =
    record {
      array = ap entries_of (in_order_path high_first a h) ∙ entries_laid (signed high_first (options a) (value a));
      stands = loose_fits a (and_left (ordered a) (same_runs a (laid (signed high_first (options a) (value a)))) h);
    }

module _ {n : ℕ} {f : Function} {xs : List Entry} (x : Stands n f xs) {was now : Runs} {s : ℕ} where
  module _ {lent back : Working} where
    operator_fits : {table : List ℕ} {left right output : Flip} {limit : Limit} {g : Function} {ys : List Entry} → Stands n g ys
        → Operates (operation (job (laid xs) (laid ys) table left right) output limit) was now lent back (Ok s)
        → Made n (operated table left right output f g) (entries_from now 0 s)
    operator_fits {table} {left} {right} {output} {limit} {g} {ys} y o =
        let d = did o.makes in
        as_made x.over (ap₂ (operated table left right output) x.means y.means) d.array
        (operation_wrote lent (room was) (omega arith) (operation (job (laid xs) (laid ys) table left right) output limit) _ (wrote_it d))

    -- a set joined with itself by and keeps its value
    order_fits : Operates (operation (job (laid xs) (laid xs) (numbered 8) None None) None None) was now lent back (Ok s) → Made n f (entries_from now 0 s)
    order_fits o = as_made refl (both_value f f ∙ fun_ext (λ σ. same (f σ))) refl (operator_fits x o)
      where
        same : (b : Bool) → (b && b) ≡ b
        same true = refl
        same false = refl

    -- one operator on one set, whose value is worked out from the set's
    relation_fits : (r : Relation) (by : Function → Function)
        → (relation_step lent (room was) r ≡ wrote (array_of r) → Made (options (laid xs)) (by (value (laid xs))) (array_of r))
        → Relates r was now lent back (Ok s) → Made n (by f) (entries_from now 0 s)
    relation_fits r by writes o = let d = did o.makes in as_made x.over (ap by x.means) d.array (writes (wrote_it d))

    picking_fits : (vs : List ℕ) {spare given_back : Runs} → xs ≡ signed high_first n f → Picks (picking (laid xs) vs) was now lent back spare given_back (Ok s)
        → Made n (picked n vs f) (entries_from now 0 s)
    unfolding picked_by
    picking_fits [] array p =
        let w = copy_done (laid xs) p in
        let nothing : picked n [] f ≡ f = sym (by_greatest [] n f) ∙ ap (λ (vs : List ℕ). picked_by vs f) (nothing_first n) in
        as_made refl (sym nothing) (held w.made was w.size w.outputs ∙ w.is ∙ entries_laid xs) (record { array = array; stands = x })
    picking_fits (v ∷ vs) array p =
        let w = pick_done (laid xs) v vs p in
        as_made x.over (ap₂ (λ (m : ℕ) (g : Function). picked m (v ∷ vs) g) x.over x.means) (held w.made was w.size w.outputs) w.is

  restriction_fits : {early : Checks} {lent back : restricts.Working} (g : Function) → Of n g → Restricts early (laid xs) g was now lent back (Ok s)
      → Stands n g (entries_from now 0 s)
  unfolding no_room
  restriction_fits {early} {lent} g of r =
      let d = did r.makes in
      let m = options (laid xs) in
      let fits = ltb-false (room was) (length (signed low_first m g))
      (one_clear _ (last_clear (run_checks (laid xs) lent (room was)) _ (last_clear early _ d.clean))) in
      as_stands x.over refl d.array
      (stands_so low_first m g (ordered_open (laid xs) x.is_ordered).options_most (omega arith) (rw x.over of))

negation_fits : {n : ℕ} {f : Function} {xs : List Entry} {was now : Runs} {s : ℕ} → Made n f xs
    → Makes (set_checks (not (ordered (laid xs)))) (not_array (entries_of (laid xs))) was now (Ok s) → Made n (negated f) (entries_from now 0 s)
negation_fits {n} {f} {xs} x m =
    let o = x.stands.is_ordered in
    as_made refl refl (did m).array
    (record {
      array = ap not_array (entries_laid xs ∙ x.array) ∙ negation_signed high_first n f;
      stands =
          record {
            is_ordered = negation_ordered (laid xs) o;
            over = negation_options (laid xs) o ∙ x.stands.over;
            means = fun_ext (negation_value (laid xs) o) ∙ ap negated x.stands.means;
          };
    })

of_restricted : (values : List ℕ) {n : ℕ} {f : Function} → Of n f → Of n (restricted values f)
unfolding restricted fixed
of_restricted values of σ τ h =
    of (fixed values σ) (fixed values τ) (λ i l. ap (λ (b : Bool). cond (eqb (get_or values i 2) 2) b (eqb (get_or values i 2) 1)) (h i l))

of_with : (v : ℕ) (b : Bool) {n : ℕ} {f : Function} → Of n f → Of n (with_option v b f)
unfolding put
of_with v b of σ τ h = of (put v b σ) (put v b τ) (λ i l. ap (λ (c : Bool). cond (eqb i v) b c) (h i l))

of_value : {n : ℕ} {f : Function} {es : List Entry} → Stands n f es → Of n (value (laid es))
of_value {n} {f} {es} s = rw s.over at (ordered_value_of (laid es) s.is_ordered)

-- ---- the theorem

-- whatever the steps were, the array is that of the value
pub written : {n : ℕ} {l : Layout} {x : Expression l} {es : List Entry} → Writes n l x es → Fits l n (value_of n x) es
unfolding value_of
written (of_set a h e) = as_made e refl refl (set_fits a h)
written (of_operator x y o) = operator_fits (written x).stands (written y).stands o
written (of_negation x m) = negation_fits (written x) m
written (of_existential {v} {x = _} {xs} {was} {lent = lent} x o) =
    relation_fits (written x).stands (existential (laid xs) v) (exists v) (exists_wrote lent (room was) (omega arith) (laid xs) v _) o
written (of_universal {v} {x = _} {xs} {was} {lent = lent} x o) =
    relation_fits (written x).stands (universal (laid xs) v) (for_all v) (for_all_wrote lent (room was) (omega arith) (laid xs) v _) o
written (of_selection {v} {b} {x = _} {xs} {was} {lent = lent} x o) =
    relation_fits (written x).stands (selection (laid xs) v b) (selected v b) (select_wrote lent (room was) (omega arith) (laid xs) v b _) o
written (of_picking {vs} x p) = picking_fits (written x).stands vs (written x).array p
written (of_order x o) = order_fits (written x) o
written (of_loose_set a h e) = as_stands e refl refl (loose_fits a h)
written (of_restriction {l} {values} {xs = xs} x r) =
    let s = stands l (written x) in
    as_stands refl (ap (restricted values) s.means) refl
    (restriction_fits s (restricted values (value (laid xs))) (of_restricted values (of_value s)) r)
written (of_restriction_at {l} {v} {b} {xs = xs} x r) =
    let s = stands l (written x) in
    as_stands refl (ap (with_option v b) s.means) refl
    (restriction_fits s (with_option v b (value (laid xs))) (of_with v b (of_value s)) r)

module _ {n : ℕ} {x y : Expression signing} {es fs : List Entry} (wx : Writes n signing x es) (wy : Writes n signing y fs) where
  -- the same value at every setting, equal arrays number for number
  pub same_array : ((σ : Setting) → value_of n x σ ≡ value_of n y σ) → es ≡ fs
  same_array same = (written wx).array ∙ ap (signed high_first n) (fun_ext same) ∙ sym (written wy).array

  -- and the other way round
  pub same_value : es ≡ fs → (σ : Setting) → value_of n x σ ≡ value_of n y σ
  same_value same σ =
      ap (λ (f : Function). f σ) (sym (written wx).stands.means ∙ ap (λ (ds : List Entry). value (laid ds)) same ∙ (written wy).stands.means)

-- every such array is in signing order
pub signing_order : {n : ℕ} {x : Expression signing} {es : List Entry} → Writes n signing x es → in_signing_order (laid es) ≡ true
unfolding in_order
signing_order {n} {x} {es} w =
    let m = written w in
    let s = m.stands in
    and_both _ _ s.is_ordered
    (same_runs_of (laid es) _ (ap laid m.array ∙ ap₂ (λ (k : ℕ) (f : Function). laid (signed high_first k f)) (sym s.over) (sym s.means)))
