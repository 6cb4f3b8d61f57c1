-- What the end of a search says of the pairs that stand in the run.
use Prim.Native.Nat.{ℕ, ◌≤◌, ◌<◌}
use mathlib.Core.Path.{◌≡◌, sym, ap, ap₂, subst, ◌∙◌}
use mathlib.Core.List.{List}
use native.Mathlib.Omega.{arith}
use Rattle.bdd.specs.Pairs.{Pair, pair}
use Rattle.chains.specs.Chains.{Chains}
use Rattle.chains.specs.declared.Place.{Place}
use Rattle.chains.specs.declared.Place.TheVariants.{At, Free, Nowhere}
use Rattle.chains.proofs.Search.{met, opened, no_places}
use Rattle.pair_run.specs.Held.{nodes, result_at, chains_of, count, Stands, Absent, Searchable, Ready, NoPlace, Added, Searched, written}
use Rattle.pair_run.proofs.Written.{added}

abbrev Run : List ℕ → Chains Pair
Run run = chains_of (nodes run) run

module _ (run : List ℕ) (l r : ℕ) (end : Place) (searched : Searched run l r end) where
  pub within_at : (i : ℕ) → end ≡ At i → i < nodes run
  within_at i e = (met (Run run) (pair l r) end searched i e).within

  -- with the room that the code has
  pub within_free : {n : ℕ} → n ≡ nodes run → (b : ℕ) → end ≡ Free b → b < n
  within_free {n} room b e = subst (λ (x : ℕ). b < x) (sym room) (opened (Run run) (pair l r) end searched b e).within

  empty : end ≡ Nowhere → nodes run ≡ 0
  empty = no_places (Run run) (pair l r) end searched

  module _ (s : Searchable run) where
    pub stands_at : (i v : ℕ) → end ≡ At i → v ≡ result_at (nodes run) run i → Stands run l r v
    unfolding Searchable
    stands_at i v e f =
        let m = met (Run run) (pair l r) end searched i e in
        record {
          node = i;
          noted = record {
            below = m.used s.home (count run) s.linked;
            left = ap (λ (k : Pair). k.left) m.equal;
            right = ap (λ (k : Pair). k.right) m.equal;
            result = sym f;
          };
        }

    pub absent_free : (b : ℕ) → end ≡ Free b → Absent run l r
    unfolding Searchable
    absent_free b e v t =
        ((opened (Run run) (pair l r) end searched b e).at s.home (count run) s.linked).nowhere t.node t.noted.below (ap₂ pair t.noted.left t.noted.right)

    pub none_nowhere : end ≡ Nowhere → count run ≡ nodes run
    unfolding Searchable
    none_nowhere e = omega (arith, empty e, s.linked.fits)

    pub absent_nowhere : end ≡ Nowhere → Absent run l r
    absent_nowhere e v t = absurd (omega (arith, t.noted.below, none_nowhere e, empty e))

    pub no_place : end ≡ Nowhere → NoPlace run l r
    no_place e = record { absent = absent_nowhere e; full = none_nowhere e }

    -- the search came to a place, but no node is left
    pub no_node : (b k : ℕ) → end ≡ Free b → count run ≡ k → nodes run ≤ k → NoPlace run l r
    unfolding Searchable
    no_node b k e c m = record { absent = absent_free b e; full = omega (arith, s.linked.fits) }

  -- the next node was written, with the room that the code has
  pub added_free : (n v k b : ℕ) (now : List ℕ) → n ≡ nodes run → end ≡ Free b → k < n → now ≡ written n run b k l r v → Ready run l v k
      → Added run now l r v
  added_free n v k b now room e fits f ready =
      subst (λ (x : List ℕ). Added run x l r v) (sym (f ∙ ap (λ (x : ℕ). written x run b k l r v) room))
      (added run b k l r v ready (opened (Run run) (pair l r) end searched b e) (omega (arith, room)))
