-- What a head and a follower leave at the other places and nodes of the run; and a node that comes first in the chain of a place: once
-- its entry stands in the output, the index is right for one entry more.
use Prim.Native.Nat.{ℕ, suc, ◌+◌, ◌*◌, ◌/◌, ◌%◌, ◌^◌, ◌<◌}
use mathlib.Core.Path.{◌≡◌, sym, ap, subst, ◌∙◌}
use mathlib.Core.List.{List}
use native.Mathlib.Decide.{ℕ_discrete}
use native.Mathlib.Omega.{arith}
use lib.ListN.{length, length-set}
use lib.Seq.{get_or-set_same, get_or-set_other}
use Rattle.bdd.specs.Array.{Entry, Runs, entry_of}
use Rattle.chains.specs.Chains.{Chained, Open}
use Rattle.chains.proofs.Latest.{latest_most}
use Rattle.chains.proofs.Search.{Homed}
use Rattle.chains.proofs.Spots.{spot_below}
use Rattle.chains.proofs.Growing.{Grown, grown}
use Rattle.index_run.specs.Index.{places, head_at, behind_at, with_behind, with_head, linked, folded, chains_of}

pub homed : (n m : ℕ) (index : List ℕ) (out : Runs) → Homed (chains_of n m index out)
homed n m index out e d some = spot_below n (folded e) e.high d some

-- a number with another half, at its own place and at the others
module _ (index : List ℕ) (i k : ℕ) (within : i < length index) where
  behind_here : k < 2 ^ 16 → behind_at (with_behind index i k) i ≡ k
  unfolding with_behind
  behind_here l = omega (arith, get_or-set_same index i (head_at index i * 2 ^ 16 + k) 0 within)

  behind_there : (j : ℕ) → (j ≡ i → ⊥) → behind_at (with_behind index i k) j ≡ behind_at index j
  unfolding with_behind
  behind_there j ne = ap (λ (x : ℕ). x % 2 ^ 16) (get_or-set_other index i j (head_at index i * 2 ^ 16 + k) 0 ne)

  head_kept : k < 2 ^ 16 → (b : ℕ) → head_at (with_behind index i k) b ≡ head_at index b
  unfolding with_behind
  head_kept l b =
      elim (ℕ_discrete b i) [
        | yes e ↦ rw e (omega (arith, get_or-set_same index i (head_at index i * 2 ^ 16 + k) 0 within))
        | no e ↦ ap (λ (x : ℕ). x / 2 ^ 16) (get_or-set_other index i b (head_at index i * 2 ^ 16 + k) 0 e)
      ]

  head_here : head_at (with_head index i k) i ≡ k
  unfolding with_head
  head_here = omega (arith, get_or-set_same index i (k * 2 ^ 16 + behind_at index i) 0 within)

  head_there : (b : ℕ) → (b ≡ i → ⊥) → head_at (with_head index i k) b ≡ head_at index b
  unfolding with_head
  head_there b ne = ap (λ (x : ℕ). x / 2 ^ 16) (get_or-set_other index i b (k * 2 ^ 16 + behind_at index i) 0 ne)

  behind_kept : (j : ℕ) → behind_at (with_head index i k) j ≡ behind_at index j
  unfolding with_head
  behind_kept j =
      elim (ℕ_discrete j i) [
        | yes e ↦ rw e (omega (arith, get_or-set_same index i (k * 2 ^ 16 + behind_at index i) 0 within))
        | no e ↦ ap (λ (x : ℕ). x % 2 ^ 16) (get_or-set_other index i j (k * 2 ^ 16 + behind_at index i) 0 e)
      ]

same_behind : (index : List ℕ) (i k : ℕ) → length (with_behind index i k) ≡ length index
unfolding with_behind
same_behind index i k = length-set index i (head_at index i * 2 ^ 16 + k)

same_head : (index : List ℕ) (b k : ℕ) → length (with_head index b k) ≡ length index
unfolding with_head
same_head index b k = length-set index b (k * 2 ^ 16 + behind_at index b)

pub same_linked : (index : List ℕ) (b i : ℕ) → length (linked index b i) ≡ length index
unfolding linked
same_linked index b i =
    same_head (with_behind index i (head_at index b)) b (i + 1) ∙ same_behind index i (head_at index b)

module _ (index : List ℕ) (out later : Runs) (e : Entry) (n b : ℕ) (c : Chained (chains_of (places index) n index out) n) (o : Open (chains_of (places index) n index out) e b) (room : n < length index) (few : n < 2 ^ 16) (agree : (i : ℕ) → i < n → entry_of later (i + 2) ≡ entry_of out (i + 2)) (stands : entry_of later (n + 2) ≡ e) where
  small : head_at index b < 2 ^ 16
  small = omega (arith, c.linked.heads b o.within, latest_most c.home b n)

  between : List ℕ
  between = with_behind index n (head_at index b)

  inside : b < length between
  unfolding between
  inside = omega (arith, same_behind index n (head_at index b), o.within)

  grown_by : Grown (chains_of (places index) n index out) (head_at (linked index b n)) (behind_at (linked index b n)) (λ i. entry_of later (i + 2)) n e b
  unfolding linked between
  grown_by =
      record {
        first = head_here between b (n + 1) inside ∙ omega arith;
        heads = λ d w ne. head_there between b (n + 1) inside d ne ∙ head_kept index n (head_at index b) room small d;
        follower = behind_kept between b (n + 1) inside n ∙ behind_here index n (head_at index b) room small;
        followers = λ i w.
            behind_kept between b (n + 1) inside i ∙ behind_there index n (head_at index b) room i (λ z. absurd (omega arith));
        has = stands;
        keys = agree;
      }

  pub joined : Chained (chains_of (places (linked index b n)) (suc n) (linked index b n) later) (suc n)
  joined =
      subst (λ (m : ℕ). Chained (chains_of m (suc n) (linked index b n) later) (suc n)) (sym (same_linked index b n))
      (grown (chains_of (places index) n index out) _ _ _ c.home n e b c.linked (o.at c.home n c.linked) grown_by o.within (suc n) (omega arith))
