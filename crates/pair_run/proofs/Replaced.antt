-- The result of a node is another: the chains are as they were, and so are the pairs.
use Prim.Native.Nat.{ℕ, ◌+◌, ◌*◌, ◌/◌, ◌%◌, ◌^◌, ◌<◌}
use mathlib.Core.Path.{◌≡◌, sym, ap, ap₂, subst, ◌∙◌}
use mathlib.Core.Logic.{◌⊎◌, inl, inr}
use mathlib.Core.List.{List}
use native.Mathlib.Decide.{ℕ_discrete}
use native.Mathlib.Omega.{arith}
use lib.ListN.{get_or, set, length-set}
use lib.Seq.{get_or-set_same, get_or-set_other}
use Rattle.bdd.specs.Pairs.{Pair, pair}
use Rattle.chains.specs.Chains.{Comes, Linked, Chained}
use Rattle.chains.proofs.Growing.{newest_is}
use Rattle.pair_run.specs.Held.{nodes, head_at, right_at, behind_at, left_at, result_at, key_at, chains_of, count, Noted, Searchable, Changed}
use Rattle.pair_run.proofs.Rooms.{fours, nodes_alike, homed}

-- another run with the same places, followers and keys
module _ (n : ℕ) (was now : List ℕ) (heads : (b : ℕ) → b < n → head_at now b ≡ head_at was b) (followers : (j : ℕ) → behind_at n now j ≡ behind_at n was j) (keys : (j : ℕ) → key_at n now j ≡ key_at n was j) where
  comes_alike : {home : ℕ → ℕ} {k b : ℕ} {p : Pair} → Comes (chains_of n was) home k p b → Comes (chains_of n now) home k p b
  comes_alike w = record { after = w.after; few = w.few; here = w.here; over = w.over }

  linked_alike : {home : ℕ → ℕ} {k : ℕ} → Linked (chains_of n was) home k → Linked (chains_of n now) home k
  linked_alike {home} {k} c =
      record {
        fits = c.fits;
        heads = λ b l. heads b l ∙ c.heads b l;
        followers = λ j l. followers j ∙ c.followers j l;
        comes = λ j l. subst (λ (p : Pair). Comes (chains_of n now) home k p (home j)) (sym (keys j)) (comes_alike (c.comes j l));
        single = λ i j l m e. c.single i j l m (sym (keys i) ∙ e ∙ keys j);
      }

module _ (run : List ℕ) (i v : ℕ) (fits : i < nodes run) (small : v < 2 ^ 16) where
  abbrev n : ℕ
  n = nodes run

  abbrev at : ℕ
  at = n + 3 * i + 2

  -- the left entry stays
  abbrev both : ℕ
  both = get_or run at 0 / 2 ^ 16 * 2 ^ 16 + v

  after : List ℕ
  after = set run at both

  same_nodes : nodes after ≡ nodes run
  unfolding after
  same_nodes = nodes_alike run after (simp length-set)

  other : (j : ℕ) → (j ≡ at → ⊥) → get_or after j 0 ≡ get_or run j 0
  unfolding after
  other j e = get_or-set_other run at j both 0 e

  this : get_or after at 0 ≡ both
  unfolding after
  this = get_or-set_same run at both 0 (omega (arith, fours run))

  lefts : (j : ℕ) → left_at n after j ≡ left_at n run j
  lefts j =
      elim (ℕ_discrete j i) [
        | yes e ↦ rw e (omega (arith, this))
        | no e ↦ ap (λ (x : ℕ). x / 2 ^ 16) (other (n + 3 * j + 2) (omega arith))
      ]

  rights : (j : ℕ) → right_at n after j ≡ right_at n run j
  rights j = other (n + 3 * j) (omega arith)

  here : result_at n after i ≡ v
  here = omega (arith, this)

  elsewhere : (j : ℕ) → (j ≡ i → ⊥) → result_at n after j ≡ result_at n run j
  elsewhere j e = ap (λ (x : ℕ). x % 2 ^ 16) (other (n + 3 * j + 2) (omega arith))

  module _ (sound : Searchable run) where
    chained : Chained (chains_of n after) (count run)
    unfolding Searchable
    chained =
        record {
          home = sound.home;
          linked =
              linked_alike n run after (λ b l. other b (omega arith)) (λ j. other (n + 3 * j + 1) (omega arith))
              (λ j. ap₂ pair (lefts j) (rights j)) sound.linked;
        }

    same_count : count after ≡ count run
    unfolding count
    same_count = rw same_nodes (newest_is (chains_of n after) (homed n after) chained.home (count run) chained.linked (λ l. omega (arith, fits)))

    still_sound : Searchable after
    unfolding Searchable
    still_sound = rw (same_nodes, same_count) chained

    noted_here : (a b w : ℕ) → Noted run i a b w → Noted after i a b v
    noted_here a b w s =
        record {
          below = omega (arith, s.below, same_count);
          left = rw same_nodes (lefts i ∙ s.left);
          right = rw same_nodes (rights i ∙ s.right);
          result = rw same_nodes here;
        }

    noted_kept : (k a b w : ℕ) → (k ≡ i → ⊥) → Noted run k a b w → Noted after k a b w
    noted_kept k a b w e s =
        record {
          below = omega (arith, s.below, same_count);
          left = rw same_nodes (lefts k ∙ s.left);
          right = rw same_nodes (rights k ∙ s.right);
          result = rw same_nodes (elsewhere k e ∙ s.result);
        }

    noted_only : (k a b w : ℕ) → Noted after k a b w → Dec (k ≡ i) → ((k ≡ i) × (w ≡ v)) ⊎ Noted run k a b w
    noted_only k a b w s (yes e) = inl (e, sym (rw same_nodes at s.result) ∙ ap (result_at n after) e ∙ here)
    noted_only k a b w s (no e) =
        inr
        (record {
          below = omega (arith, s.below, same_count);
          left = sym (lefts k) ∙ rw same_nodes at s.left;
          right = sym (rights k) ∙ rw same_nodes at s.right;
          result = sym (elsewhere k e) ∙ rw same_nodes at s.result;
        })

    pub replaced : Changed run (set run (nodes run + 3 * i + 2) (get_or run (nodes run + 3 * i + 2) 0 / 2 ^ 16 * 2 ^ 16 + v)) i v
    unfolding after
    replaced =
        record {
          sound = still_sound;
          counted = same_count;
          noted = noted_here;
          kept = noted_kept;
          only = λ k a b w s. noted_only k a b w s (ℕ_discrete k i);
        }
