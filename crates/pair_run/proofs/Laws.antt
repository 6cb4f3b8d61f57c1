-- Laws for the callers of the pair run: what follows from its definitions alone.
use Rattle.std.specs.Prelude.{None, Some, Option, ℕ}
use Prim.Native.Nat.{ℕ, ◌^◌, ◌≤◌, ◌<◌}
use mathlib.Core.Path.{◌≡◌, refl, sym, ap, ap₂, subst, ◌∙◌}
use mathlib.Core.List.{List, ◌++◌}
use mathlib.Core.Logic.{◌⊎◌, inl, inr, ⊎_elim}
use native.Mathlib.Omega.{arith}
use lib.ListN.{length, get_or, get_or-append, take, drop, replicate, length-append, length-replicate, length-take, length-drop}
use Rattle.bdd.specs.Answers.{all_zero}
use Rattle.bdd.specs.Pairs.{pair}
use Rattle.chains.proofs.Zeros.{getD_zeros}
use Rattle.chains.proofs.Growing.{newest_is}
use Rattle.pair_run.specs.Held.{nodes, result_at, chains_of, count, Noted, Stands, Absent, Searchable, Found, Inserted, Insertion, Ready, Added, NoPlace, Empty}
use Rattle.chains.specs.Chains.{latest, Chained, Unchanged}
use Rattle.pair_run.proofs.Rooms.{fours, nodes_alike, homed}
use Rattle.chains.specs.declared.Stored.{Stored}
use Rattle.chains.specs.declared.Stored.TheVariants.{New, Known, Full}

pub noted_stands : {run : List ℕ} {i l r v : ℕ} → Noted run i l r v → Stands run l r v
noted_stands {run} {i} a = record { node = i; noted = a }

-- a node has one pair and one result
pub noted_same : {run : List ℕ} {i l r v l' r' v' : ℕ} → Noted run i l r v → Noted run i l' r' v' → (l ≡ l') × (r ≡ r') × (v ≡ v')
noted_same a b = (sym a.left ∙ b.left, sym a.right ∙ b.right, sym a.result ∙ b.result)

-- a pair stands once, so with one result
pub noted_node : {run : List ℕ} {i k l r v w : ℕ} → Searchable run → Noted run i l r v → Noted run k l r w → i ≡ k
unfolding Searchable
noted_node {run} {i} {k} s a b =
    s.linked.single i k a.below b.below (ap₂ pair (a.left ∙ sym b.left) (a.right ∙ sym b.right))

pub one_result : {run : List ℕ} {l r v w : ℕ} → Searchable run → Stands run l r v → Stands run l r w → v ≡ w
one_result {run} s a b =
    sym a.noted.result ∙ ap (result_at (nodes run) run) (noted_node s a.noted b.noted) ∙ b.noted.result

-- a result is half a number
pub result_below : {run : List ℕ} {l r v : ℕ} → Stands run l r v → v < 2 ^ 16
result_below s = omega (arith, s.noted.result)

-- what an insertion says of the pairs, whatever their nodes
module _ {was now : List ℕ} {l r v : ℕ} (a : Added was now l r v) where
  pub added_stands : Stands now l r v
  added_stands = noted_stands a.noted

  pub added_kept : (x y w : ℕ) → Stands was x y w → Stands now x y w
  added_kept x y w s = noted_stands (a.kept s.node x y w s.noted)

  pub added_only : (x y w : ℕ) → Stands now x y w → ((x ≡ l) × (y ≡ r) × (w ≡ v)) ⊎ Stands was x y w
  added_only x y w s = ⊎_elim (λ e. inl (e.1, e.2, e.3)) (λ t. inr (noted_stands t)) (a.only s.node x y w s.noted)

pub count_room : (run : List ℕ) → Searchable run → count run ≤ nodes run
unfolding Searchable
count_room run s = s.linked.fits

-- what each answer of a look-up says, and that no other fits
pub on_at : {run : List ℕ} {l r v : ℕ} {a : (Option ℕ)} → Found run l r a → a ≡ Some v → Stands run l r v
on_at {run} {l} {r} f e = subst (Found run l r) e f

pub on_missing : {run : List ℕ} {l r : ℕ} {a : (Option ℕ)} → Found run l r a → a ≡ None → Absent run l r
on_missing {run} {l} {r} f e = subst (Found run l r) e f

pub only_at : {run : List ℕ} {l r v : ℕ} (a : (Option ℕ)) → Searchable run → Found run l r a → Stands run l r v → a ≡ Some v
only_at (Some w) s f t = ap Some (one_result s f t)
only_at None s f t = absurd (f _ t)

pub only_missing : {run : List ℕ} {l r : ℕ} (a : (Option ℕ)) → Found run l r a → Absent run l r → a ≡ None
only_missing (Some w) f t = absurd (t w f)
only_missing None f t = refl

-- what each answer of an insertion says
module _ {was now : List ℕ} {l r v k : ℕ} {a : Stored} (i : Insertion was now l r v k a) where
  pub on_new : a ≡ New → Ready was l v k → Added was now l r v
  on_new e s = subst (Inserted was now l r v) e (i.inserted s)

  pub on_known : {w : ℕ} → a ≡ Known w → Ready was l v k → Stands was l r w
  on_known e s = subst (Inserted was now l r v) e (i.inserted s)

  pub on_full : a ≡ Full → Ready was l v k → NoPlace was l r
  on_full e s = subst (Inserted was now l r v) e (i.inserted s)

  pub same_known : {w : ℕ} → a ≡ Known w → now ≡ was
  same_known e = subst (Unchanged was now) e i.unchanged

  pub same_full : a ≡ Full → now ≡ was
  same_full e = subst (Unchanged was now) e i.unchanged

-- no other answer fits, and the run is sound after any
module _ {was now : List ℕ} {l r v k : ℕ} (s : Ready was l v k) where
  pub only_known : (a : Stored) {w : ℕ} → Insertion was now l r v k a → Stands was l r w → a ≡ Known w
  only_known New i t = absurd ((i.inserted s).absent _ t)
  only_known (Known u) i t = ap Known (one_result s.sound (i.inserted s) t)
  only_known Full i t = absurd ((i.inserted s).absent _ t)

  pub only_new : (a : Stored) → Insertion was now l r v k a → Absent was l r → count was < nodes was → a ≡ New
  only_new New i t f = refl
  only_new (Known u) i t f = absurd (t u (i.inserted s))
  only_new Full i t f = absurd (omega (arith, (i.inserted s).full))

  pub only_full : (a : Stored) → Insertion was now l r v k a → Absent was l r → count was ≡ nodes was → a ≡ Full
  only_full New i t f = absurd (omega (arith, (i.inserted s).free))
  only_full (Known u) i t f = absurd (t u (i.inserted s))
  only_full Full i t f = refl

  pub still_sound : (a : Stored) → Insertion was now l r v k a → Searchable now
  still_sound New i = (i.inserted s).sound
  still_sound (Known w) i = subst Searchable (sym i.unchanged) s.sound
  still_sound Full i = subst Searchable (sym i.unchanged) s.sound

-- a run whose places are all zero is empty: nothing leads to what stands in a node
pub no_heads : (run : List ℕ) → ((b : ℕ) → b < nodes run → get_or run b 0 ≡ 0) → Empty run
unfolding Searchable count
no_heads run free =
    let t = chains_of (nodes run) run in
    let c : Chained t 0 =
    record {
      home = λ i. 0;
      linked = record {
        fits = omega arith;
        heads = λ b l. free b l ∙ (unfold latest in refl);
        followers = λ i l. absurd (omega arith);
        comes = λ i l. absurd (omega arith);
        single = λ i j l m e. absurd (omega arith);
      };
    } in
    let none = newest_is t (homed (nodes run) run) c.home 0 c.linked (λ l. absurd (omega arith)) in
    record { sound = rw none c; none = none; absent = λ l r v s. absurd (omega (arith, s.noted.below, none)) }

-- so is a run whose places were cleared, whatever its nodes hold
pub front_cleared : (was front : List ℕ) (k : ℕ) → k ≡ nodes was → front ≡ replicate (length (take k was)) 0 → Empty (front ++ drop k was)
front_cleared was front k e z =
    let m : length (take k was) ≡ k = simp length-take (omega (arith, e, fours was)) in
    let f : front ≡ replicate k 0 = z ∙ ap (λ (n : ℕ). replicate n 0) m in
    let same : length (front ++ drop k was) ≡ length was =
    rw f (simp (length-append, length-replicate, length-drop) (omega (arith, e, fours was))) in
    no_heads (front ++ drop k was) (λ b l.
    let low : b < length (replicate k 0) = rw (length-replicate {A = ℕ} k 0) (omega (arith, e, nodes_alike was (front ++ drop k was) same, l)) in
    rw f (get_or-append (replicate k 0) (drop k was) 0 b low ∙ getD_zeros k b))

-- an all-zero run is one
pub empty : (was : List ℕ) → Empty (all_zero was)
empty was = no_heads (all_zero was) (λ b l. getD_zeros (length was) b)
