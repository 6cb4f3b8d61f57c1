-- One entry of the tidy check: what each answer of the index says of its tests; and the turns of the loop over the entries.
use Prim.Native.Nat.{ℕ, zero, suc, ◌+◌, ◌*◌, ◌≤◌, ◌<◌}
use mathlib.Core.Path.{◌≡◌, refl, sym, ap, subst, ◌∙◌}
use mathlib.Core.Logic.{◌≢◌, ⊎_elim}
use mathlib.Core.Bool.{Bool, true, false, false≢true}
use mathlib.Core.List.{List, ◌∷◌}
use native.Mathlib.Omega.{arith}
use native.Mathlib.Nat.{eq-or-lt_of_le, not-suc-le-zero, le_of_suc-le-suc}
use lib.ListN.{length, take, replicate, length-replicate}
use Rattle.bdd.specs.Array.{Runs, entry_of, size, ordered, low_link_of, high_link_of}
use Rattle.bdd.proofs.Logic.{is_false}
use Rattle.bdd.proofs.Ordered.{Ordered, ordered_open}
use Rattle.bdd.proofs.Reduction.{Reduced, reduced_at, reduced_of}
use Rattle.chains.specs.declared.Stored.{Stored}
use Rattle.chains.specs.declared.Stored.TheVariants.{New, Known}
use Rattle.index_run.specs.Index.{Indexed, Room, Insertion}
use Rattle.index_run.proofs.Laws.{empty, on_new, on_known}
use Rattle.set_checks.specs.Checked.{Blank, Coming, Taken}

-- an index of zeros holds no entry
pub none_indexed : (n : ℕ) (a : Runs) → Indexed (replicate n 0) a 2
none_indexed n a = subst (λ (m : ℕ). Indexed (replicate m 0) a 2) (length-replicate n 0) (empty (replicate n 0) a)

-- the front of a run of zeros
zeros_front : (k n : ℕ) → k ≤ n → take k (replicate {A = ℕ} n 0) ≡ replicate k 0
zeros_front zero n h = refl
zeros_front (suc k) zero h = absurd (not-suc-le-zero h)
zeros_front (suc k) (suc n) h = ap (λ (xs : List ℕ). 0 ∷ xs) (zeros_front k n (le_of_suc-le-suc h))

pub front_length : (k n : ℕ) → k ≤ n → k ≡ length (take k (replicate {A = ℕ} n 0))
front_length k n h = sym (ap length (zeros_front k n h) ∙ length-replicate k 0)

-- two places for each entry fit the room of the tidy check
pub front_fits : (a : Runs) → ordered a ≡ true → 2 * size a ≤ 8192
front_fits a o = omega (arith, (ordered_open a o).size_most)

pub blank : (n : ℕ) (a : Runs) → ordered a ≡ true → 2 * size a ≤ n → Blank (take (2 * size a) (replicate n 0)) a
blank n a o h =
    subst (λ (xs : List ℕ). Blank xs a) (sym (zeros_front (2 * size a) n h))
    (record {
      ordered = o;
      zero = ap (λ (m : ℕ). replicate m 0) (sym (length-replicate {A = ℕ} (2 * size a) 0));
      room = omega (arith, length-replicate {A = ℕ} (2 * size a) 0);
    })

refused : (now : List ℕ) (a : Runs) (i : ℕ) → 2 ≤ i → (Reduced a i → ⊥) → Taken now a i false
refused now a i k h =
    record { reduced = is_false _ (λ e. h (reduced_at a i k e)); indexed = λ e. absurd (false≢true e) }

module _ (was : List ℕ) (a : Runs) (i : ℕ) (comes : Coming was a i) where
  -- set and index have room for the entries before it
  pub room_for : Room was a i
  room_for =
      record {
        least = comes.indexed.least;
        few = omega (arith, comes.small);
        index_long = omega (arith, comes.entry, comes.room);
        variable = omega (arith, comes.entry);
        low = omega (arith, comes.low);
        high = omega (arith, comes.high);
      }

  pub equal_links : low_link_of a i ≡ high_link_of a i → Taken was a i false
  equal_links e = refused was a i comes.indexed.least (λ h. h.links e)

  module _ (now : List ℕ) (r : Stored) (insertion : Insertion was now a i (entry_of a i) r) where
    pub taken : low_link_of a i ≢ high_link_of a i → r ≡ New → Taken now a i true
    taken links z =
        let added = on_new insertion z comes.indexed in
        record {
          reduced =
              sym (reduced_of a i (record {
                links = links;
                single = λ j p q e. added.fresh j (record { least = p; below = q; equal = e });
              }));
          indexed = λ e. added.indexed a (λ j p q. refl) refl;
        }

    pub found_before : {j : ℕ} → r ≡ Known j → Taken now a i false
    found_before z =
        let there = on_known insertion z comes.indexed in
        refused now a i comes.indexed.least (λ h. h.single _ there.least there.below there.equal)

-- the loop of the tidy check: the entries from 2 on below i are reduced and indexed
pub record Reducing (index : List ℕ) (a : Runs) (i : ℕ) : Type 0 where
  pub room : size a ≤ length index
  pub indexed : Indexed index a i
  pub reduced : (j : ℕ) → 2 ≤ j → j < i → Reduced a j

pub reducing_none : (index : List ℕ) (a : Runs) → Blank index a → Reducing index a 2
reducing_none index a b =
    record { room = b.room; indexed = subst (λ (xs : List ℕ). Indexed xs a 2) (sym b.zero) (none_indexed (length index) a); reduced = λ j p q. absurd (omega arith) }

pub coming : (index : List ℕ) (a : Runs) (i : ℕ) → Ordered a → Reducing index a i → i < size a → Coming index a i
coming index a i o h l =
    record {
      entry = l;
      low = omega (arith, o.layered.low_length);
      high = omega (arith, o.layered.high_length);
      small = omega (arith, o.size_most);
      room = h.room;
      indexed = h.indexed;
    }

pub reducing_more : (was now : List ℕ) (a : Runs) (i : ℕ) (r : Bool) → Reducing was a i → length now ≡ length was → Taken now a i r → r ≡ true → Reducing now a (i + 1)
reducing_more was now a i r h e t z =
    record {
      room = omega (arith, h.room, e);
      indexed = t.indexed z;
      reduced = λ j p q.
          ⊎_elim (λ (y : j ≡ i). rw y (reduced_at a i h.indexed.least (sym t.reduced ∙ z))) (λ (y : j < i). h.reduced j p y)
          (eq-or-lt_of_le (omega arith));
    }

pub not_reduced : (now : List ℕ) (a : Runs) (i : ℕ) (r : Bool) → Taken now a i r → r ≡ false → Reduced a i → ⊥
not_reduced now a i r t z h = false≢true (sym z ∙ t.reduced ∙ reduced_of a i h)
