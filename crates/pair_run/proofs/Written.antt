-- A pair is written to the next node, at the front of the chain where its search ended: it is added, and nothing else changes.
use Prim.Native.Nat.{ℕ, suc, ◌+◌, ◌*◌, ◌%◌, ◌^◌, ◌<◌, ◌≤◌}
use mathlib.Core.Path.{◌≡◌, sym, ap, ap₂, subst, ◌∙◌}
use mathlib.Core.Logic.{◌⊎◌, inl, inr}
use mathlib.Core.List.{List}
use native.Mathlib.Decide.{ℕ_discrete}
use native.Mathlib.Omega.{arith}
use lib.ListN.{length, get_or, set, length-set}
use lib.Seq.{get_or-set_same, get_or-set_other}
use Rattle.bdd.specs.Pairs.{Pair, pair}
use Rattle.chains.specs.Chains.{Chained, Open}
use Rattle.chains.proofs.Growing.{Grown, grown, newest_is}
use Rattle.pair_run.specs.Held.{nodes, head_at, right_at, behind_at, left_at, result_at, key_at, chains_of, count, Noted, Absent, Searchable, Added, Ready, written}
use Rattle.pair_run.proofs.Rooms.{fours, nodes_alike, homed}

module _ (n : ℕ) (run : List ℕ) (b i l r v : ℕ) where
  -- the run after one, two and three of the stores
  one : List ℕ
  one = set run (n + 3 * i) r

  two : List ℕ
  two = set one (n + 3 * i + 1) (head_at run b)

  both : ℕ
  both = l % 2 ^ 16 * 2 ^ 16 + v % 2 ^ 16

  three : List ℕ
  three = set two (n + 3 * i + 2) both

  length_three : length three ≡ length run
  unfolding one two three
  length_three = simp length-set

  pub length_written : length (written n run b i l r v) ≡ length run
  unfolding written one two three both
  length_written = simp length-set

  -- a number that is none of the three of the node
  three_other : (j : ℕ) → (j ≡ n + 3 * i → ⊥) → (j ≡ n + 3 * i + 1 → ⊥) → (j ≡ n + 3 * i + 2 → ⊥) → get_or three j 0 ≡ get_or run j 0
  unfolding one two three both
  three_other j x y z =
      get_or-set_other two (n + 3 * i + 2) j both 0 z
      ∙ get_or-set_other one (n + 3 * i + 1) j (head_at run b) 0 y
      ∙ get_or-set_other run (n + 3 * i) j r 0 x

  module _ (place : b < n) (node : i < n) (room : 4 * n ≤ length run) where
    behind : (j : ℕ) → n ≤ j → get_or (written n run b i l r v) j 0 ≡ get_or three j 0
    unfolding written one two three both
    behind j m = get_or-set_other three b j (i + 1) 0 (omega arith)

    written_head : head_at (written n run b i l r v) b ≡ i + 1
    unfolding written one two three both
    written_head = get_or-set_same three b (i + 1) 0 (omega (arith, length_three))

    written_right : get_or (written n run b i l r v) (n + 3 * i) 0 ≡ r
    unfolding one two three both
    written_right =
        behind (n + 3 * i) (omega arith)
        ∙ get_or-set_other two (n + 3 * i + 2) (n + 3 * i) both 0 (omega arith)
        ∙ get_or-set_other one (n + 3 * i + 1) (n + 3 * i) (head_at run b) 0 (omega arith)
        ∙ get_or-set_same run (n + 3 * i) r 0 (omega arith)

    written_behind : get_or (written n run b i l r v) (n + 3 * i + 1) 0 ≡ head_at run b
    unfolding one two three both
    written_behind =
        behind (n + 3 * i + 1) (omega arith)
        ∙ get_or-set_other two (n + 3 * i + 2) (n + 3 * i + 1) both 0 (omega arith)
        ∙ get_or-set_same one (n + 3 * i + 1) (head_at run b) 0 (simp length-set (omega arith))

    written_both : get_or (written n run b i l r v) (n + 3 * i + 2) 0 ≡ both
    unfolding one two three both
    written_both =
        behind (n + 3 * i + 2) (omega arith)
        ∙ get_or-set_same two (n + 3 * i + 2) both 0 (simp length-set (omega arith))

    module _ (small-left : l < 2 ^ 16) (small_result : v < 2 ^ 16) where
      pub written_left : left_at n (written n run b i l r v) i ≡ l
      unfolding both
      written_left = omega (arith, written_both)

      pub written_result : result_at n (written n run b i l r v) i ≡ v
      unfolding both
      written_result = omega (arith, written_both)

      pub written_key : key_at n (written n run b i l r v) i ≡ pair l r
      written_key = ap₂ pair written_left written_right

    -- the three numbers of another node are as they were
    pub node_kept : (j d : ℕ) → (j ≡ i → ⊥) → d < 3 → get_or (written n run b i l r v) (n + 3 * j + d) 0 ≡ get_or run (n + 3 * j + d) 0
    node_kept j d e l = behind (n + 3 * j + d) (omega arith) ∙ three_other (n + 3 * j + d) (omega arith) (omega arith) (omega arith)

    pub head_kept : (c : ℕ) → c < n → (c ≡ b → ⊥) → head_at (written n run b i l r v) c ≡ head_at run c
    unfolding written one two three both
    head_kept c within e =
        get_or-set_other three b c (i + 1) 0 e ∙ three_other c (omega arith) (omega arith) (omega arith)

    pub right_kept : (j : ℕ) → (j ≡ i → ⊥) → right_at n (written n run b i l r v) j ≡ right_at n run j
    right_kept j e = behind (n + 3 * j) (omega arith) ∙ three_other (n + 3 * j) (omega arith) (omega arith) (omega arith)

    pub left_kept : (j : ℕ) → (j ≡ i → ⊥) → left_at n (written n run b i l r v) j ≡ left_at n run j
    left_kept j e = omega (arith, node_kept j 2 e (omega arith))

    pub result_kept : (j : ℕ) → (j ≡ i → ⊥) → result_at n (written n run b i l r v) j ≡ result_at n run j
    result_kept j e = omega (arith, node_kept j 2 e (omega arith))

    pub grown_by : l < 2 ^ 16 → v < 2 ^ 16
        → Grown (chains_of n run) (head_at (written n run b i l r v)) (behind_at n (written n run b i l r v)) (key_at n (written n run b i l r v)) i (pair l r) b
    grown_by sl sv =
        record {
          first = omega (arith, written_head);
          heads = head_kept;
          follower = written_behind;
          followers = λ j b. node_kept j 1 (omega arith) (omega arith);
          has = written_key sl sv;
          keys = λ j b. ap₂ pair (left_kept j (omega arith)) (right_kept j (omega arith));
        }

-- the place where the search for the pair ended, and the next node
module _ (run : List ℕ) (b i l r v : ℕ) (ready : Ready run l v i) (opens : Open (chains_of (nodes run) run) (pair l r) b) (fits : i < nodes run) where
  abbrev n : ℕ
  n = nodes run

  after : List ℕ
  after = written (nodes run) run b i l r v

  same_nodes : nodes after ≡ nodes run
  unfolding after
  same_nodes = nodes_alike run after (length_written n run b i l r v)

  -- the chains with the node more
  chained : Chained (chains_of n after) (suc i)
  unfolding after Searchable
  chained =
      let c = subst (Chained (chains_of n run)) ready.number ready.sound in
      grown (chains_of n run) _ _ _ c.home i (pair l r) b c.linked (opens.at c.home i c.linked)
      (grown_by n run b i l r v opens.within fits (fours run) ready.left_small ready.result_small) opens.within n fits

  now_counted : count after ≡ suc i
  unfolding count
  now_counted = rw same_nodes (newest_is (chains_of n after) (homed n after) chained.home (suc i) chained.linked (λ l. omega arith))

  sound : Searchable after
  unfolding Searchable
  sound = rw (same_nodes, now_counted) chained

  absent : Absent run l r
  unfolding Searchable
  absent w s =
      let c = ready.sound in
      (opens.at c.home (count run) c.linked).nowhere s.node s.noted.below (ap₂ pair s.noted.left s.noted.right)

  older : {j x y w : ℕ} → Noted run j x y w → j ≡ i → ⊥
  older s e = absurd (omega (arith, s.below, ready.number))

  still : (j x y w : ℕ) → Noted run j x y w → Noted after j x y w
  unfolding after
  still j x y w s =
      record {
        below = omega (arith, s.below, ready.number, now_counted);
        left = rw same_nodes (left_kept n run b i l r v opens.within fits (fours run) j (older s) ∙ s.left);
        right = rw same_nodes (right_kept n run b i l r v opens.within fits (fours run) j (older s) ∙ s.right);
        result = rw same_nodes (result_kept n run b i l r v opens.within fits (fours run) j (older s) ∙ s.result);
      }

  this : Noted after i l r v
  unfolding after
  this =
      record {
        below = omega (arith, now_counted);
        left = rw same_nodes (written_left n run b i l r v opens.within fits (fours run) ready.left_small ready.result_small);
        right = rw same_nodes (ap (λ (k : Pair). k.right) (written_key n run b i l r v opens.within fits (fours run) ready.left_small ready.result_small));
        result = rw same_nodes (written_result n run b i l r v opens.within fits (fours run) ready.left_small ready.result_small);
      }

  only_this : (j x y w : ℕ) → Noted after j x y w → Dec (j ≡ i) → ((j ≡ count run) × (x ≡ l) × (y ≡ r) × (w ≡ v)) ⊎ Noted run j x y w
  unfolding after
  only_this j x y w s (yes e) =
      inl (
        e ∙ sym ready.number,
        sym s.left ∙ ap (left_at (nodes after) after) e ∙ this.left,
        sym s.right ∙ ap (right_at (nodes after) after) e ∙ this.right,
        sym s.result ∙ ap (result_at (nodes after) after) e ∙ this.result,
      )
  only_this j x y w s (no e) =
      inr
      (record {
        below = omega (arith, s.below, ready.number, now_counted);
        left = sym (left_kept n run b i l r v opens.within fits (fours run) j e) ∙ rw same_nodes at s.left;
        right = sym (right_kept n run b i l r v opens.within fits (fours run) j e) ∙ rw same_nodes at s.right;
        result = sym (result_kept n run b i l r v opens.within fits (fours run) j e) ∙ rw same_nodes at s.result;
      })

  pub added : Added run (written (nodes run) run b i l r v) l r v
  unfolding after
  added =
      record {
        absent = absent;
        free = omega (arith, ready.number);
        sound = sound;
        noted = subst (λ (j : ℕ). Noted after j l r v) (sym ready.number) this;
        kept = still;
        only = λ j x y w s. only_this j x y w s (ℕ_discrete j i);
        counted = omega (arith, now_counted, ready.number);
      }
