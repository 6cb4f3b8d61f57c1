-- What the end of a search says of the entries that are indexed.
use Prim.Native.Nat.{ℕ, suc, ◌+◌, ◌-◌, ◌^◌, ◌<◌, ◌≤◌}
use mathlib.Core.Path.{◌≡◌, refl, sym, ap, subst, ◌∙◌}
use mathlib.Core.List.{List}
use native.Mathlib.Omega.{arith}
use lib.ListN.{length}
use Rattle.bdd.specs.Array.{Entry, Runs, entry_of}
use Rattle.chains.specs.Chains.{Chains, Chained, Has, Open}
use Rattle.chains.specs.declared.Place.{Place}
use Rattle.chains.specs.declared.Place.TheVariants.{At, Free, Nowhere}
use Rattle.chains.specs.declared.Stored.TheVariants as stored
use Rattle.chains.proofs.Search.{met, opened, no_places}
use Rattle.index_run.specs.Index.{places, linked, chains_of, Numbered, Fresh, Indexed, Room, Added, Insertion, Searched}
use Rattle.index_run.proofs.Links.{same_linked, joined}
use Rattle.index_run.proofs.Laws.{key_of}

-- the numbers below k are room for as many nodes
pub nodes_room : {index : List ℕ} {out : Runs} {k : ℕ} (m : ℕ) → m ≡ k - 2 → Room index out k → Room index out (m + 2)
nodes_room m q r =
    record {
      least = omega arith;
      few = omega (arith, r.few, r.least);
      index_long = omega (arith, r.index_long, r.least);
      variable = omega (arith, r.variable);
      low = omega (arith, r.low);
      high = omega (arith, r.high);
    }

-- there is a node for the number k where there is a place, and half a number tells it
pub node_room : {index : List ℕ} {out : Runs} {k : ℕ} (m b : ℕ) → m ≡ k - 2 → b < length index → Room index out k
    → (m < length index) × (m < 2 ^ 16 - 1)
node_room m b q l r = (omega (arith, r.index_long), omega (arith, r.few))

abbrev Run : List ℕ → Runs → ℕ → Chains Entry
Run index out k = chains_of (places index) (k - 2) index out

module _ (index : List ℕ) (out : Runs) (e : Entry) (m k : ℕ) (nodes : m ≡ k - 2) (end : Place) (searched-by : Searched index out m e end) where
  searched : Searched index out (k - 2) e end
  searched = subst (λ (x : ℕ). Searched index out x e end) nodes searched-by

  pub met_at : (i : ℕ) → end ≡ At i → Has (Run index out k) e i
  met_at i z = met (Run index out k) e end searched i z

  pub open_at : (b : ℕ) → end ≡ Free b → Open (Run index out k) e b
  open_at b z = opened (Run index out k) e end searched b z

  -- the node of a number that is indexed
  node_below : Indexed index out k → (i : ℕ) → Numbered out k e i → i - 2 < k - 2
  node_below x i n = omega (arith, x.least, n.least, n.below)

  nowhere : (b : ℕ) → end ≡ Free b → Indexed index out k → Fresh out k e
  nowhere b z x i n =
      ((open_at b z).at x.chained.home (k - 2) x.chained.linked).nowhere (i - 2) (node_below x i n) (key_of n)

  pub known_at : (i : ℕ) → end ≡ At i → Insertion index index out k e (stored.Known (i + 2))
  known_at i z =
      record {
        unchanged = refl;
        inserted = λ x.
            record {
              least = omega arith;
              below = omega (arith, (met_at i z).used x.chained.home (k - 2) x.chained.linked);
              equal = (met_at i z).equal;
            };
      }

  module _ (room : Room index out k) where
    -- where there is no place, no number is below k
    pub none_at : end ≡ Nowhere → Insertion index index out k e stored.Full
    none_at z =
        let none : places index ≡ 0 = no_places (Run index out k) e end searched z in
        let last : k ≤ 2 = omega (arith, room.index_long) in
        record {
          unchanged = refl;
          inserted = λ x. record { fresh = λ i n. absurd (omega (arith, n.least, n.below)); full = omega (arith, x.least) };
        }

    added_at : (b : ℕ) → end ≡ Free b → Indexed index out k → Added (linked index b (k - 2)) out k e
    added_at b z x =
        let two = x.least in
        let here : k - 2 + 2 ≡ k = omega arith in
        let more : suc (k - 2) ≡ k + 1 - 2 = omega arith in
        let node = node_room {index = index} {out = out} {k = k} (k - 2) b refl (open_at b z).within room in
        let now : List ℕ = linked index b (k - 2) in
        record {
          fresh = nowhere b z x;
          free = omega (arith, same_linked index b (k - 2), node);
          indexed = λ later agree stands.
              record {
                least = omega arith;
                chained =
                    subst (λ (n : ℕ). Chained (chains_of (places now) n now later) n) more
                    (joined index out later e (k - 2) b x.chained (open_at b z) node.0 (omega (arith, node)) (λ i l. agree (i + 2) (omega arith) (omega arith)) (ap (entry_of later) here ∙ stands));
              };
        }

    pub joined_at : (now : List ℕ) (b : ℕ) → end ≡ Free b → now ≡ linked index b m → Insertion index now out k e stored.New
    joined_at now b z joint =
        let q : now ≡ linked index b (k - 2) = joint ∙ ap (linked index b) nodes in
        record {
          unchanged = ap length q ∙ same_linked index b (k - 2);
          inserted = λ x. subst (λ (l : List ℕ). Added l out k e) (sym q) (added_at b z x);
        }
