-- A node more: the chains stay as a search needs them. Chains without a node, and how many nodes there are.
use Prim.Native.Nat.{ℕ, zero, suc, ◌<◌, ◌≤◌}
use mathlib.Core.Path.{◌≡◌, refl, sym, ap, subst, ◌∙◌}
use native.Mathlib.Decide.{ℕ_discrete}
use native.Mathlib.Omega.{arith}
use Rattle.chains.specs.Chains.{Chains, full, latest, load, Comes, Linked, Chained, OpenAt, newest}
use Rattle.chains.proofs.Latest.{latest_most, latest_last, put_home, put_here, put_other, put_latest, put_latest_here, put_latest_other, put_load}
use Rattle.chains.proofs.Search.{Homed}

-- the same places with other nodes
abbrev pub with_nodes : {K : Type 0} → Chains K → ℕ → (ℕ → ℕ) → (ℕ → ℕ) → (ℕ → K) → Chains K
with_nodes t nodes head behind key = record { places = t.places; nodes = nodes; spot = t.spot; head = head; behind = behind; key = key }

-- node n has k and is the first of the chain of place b, and nothing else changed
pub record Grown {K : Type 0} (t : Chains K) (head behind : ℕ → ℕ) (key : ℕ → K) (n : ℕ) (k : K) (b : ℕ) : Type 0 where
  pub first : head b ≡ suc n
  pub heads : (c : ℕ) → c < t.places → (c ≡ b → ⊥) → head c ≡ t.head c
  pub follower : behind n ≡ t.head b
  pub followers : (i : ℕ) → i < n → behind i ≡ t.behind i
  pub has : key n ≡ k
  pub keys : (i : ℕ) → i < n → key i ≡ t.key i

module _ {K : Type 0} (t : Chains K) (head behind : ℕ → ℕ) (key : ℕ → K) (home : ℕ → ℕ) (n : ℕ) (k : K) (b : ℕ) (c : Linked t home n) (o : OpenAt t home n k b) (g : Grown t head behind key n k b) (within : b < t.places) (nodes : ℕ) (room : n < nodes) where
  abbrev t' : Chains K
  t' = with_nodes t nodes head behind key

  home' : ℕ → ℕ
  home' = put_home home n b

  -- a place to which a search came is still one to which it comes
  still_comes : (x y : K) (p q : ℕ) → y ≡ x → q ≡ p → Comes t home n x p → Comes t' home' (suc n) y q
  unfolding home'
  still_comes x y p q e f w =
      record {
        after = w.after;
        few = w.few;
        here = ap (λ (z : K). t.spot z w.after) e ∙ w.here ∙ sym f;
        over = λ d l.
            let was : full ≤ load home (t.spot y d) n = subst (λ (z : K). full ≤ load home (t.spot z d) n) (sym e) (w.over d l) in
            omega (arith, put_load home n b (t.spot y d));
      }

  older : (i : ℕ) → i < suc n → (i ≡ n → ⊥) → i < n
  older i l e = omega arith

  comes : (i : ℕ) → i < suc n → Comes t' home' (suc n) (key i) (home' i)
  unfolding home'
  comes i l =
      elim (ℕ_discrete i n) [
        | yes e ↦ still_comes k (key i) b (home' i) (ap key e ∙ g.has) (ap home' e ∙ put_here home n b) o.comes
        | no e ↦ still_comes (t.key i) (key i) (home i) (home' i) (g.keys i (older i l e)) (put_other home n b i (older i l e)) (c.comes i (older i l e))
      ]

  heads : (d : ℕ) → d < t.places → head d ≡ latest home' d (suc n)
  unfolding home'
  heads d l =
      elim (ℕ_discrete d b) [
        | yes e ↦ ap head e ∙ g.first ∙ sym (put_latest_here home n b) ∙ ap (λ (z : ℕ). latest home' z (suc n)) (sym e)
        | no e ↦ g.heads d l e ∙ c.heads d l ∙ sym (put_latest_other home n b d e)
      ]

  followers : (i : ℕ) → i < suc n → behind i ≡ latest home' (home' i) i
  unfolding home'
  followers i l =
      elim (ℕ_discrete i n) [
        | yes e ↦
            rw e
            (g.follower ∙ c.heads b within ∙ sym (put_latest home n b b n (omega arith)) ∙ ap (λ (z : ℕ). latest home' z n) (sym (put_here home n b)))
        | no e ↦
            g.followers i (older i l e)
            ∙ c.followers i (older i l e)
            ∙ sym (put_latest home n b (home i) i (omega arith))
            ∙ ap (λ (z : ℕ). latest home' z i) (sym (put_other home n b i (older i l e)))
      ]

  single : (i j : ℕ) → i < suc n → j < suc n → key i ≡ key j → i ≡ j
  single i j l m e = one (ℕ_discrete i n) (ℕ_discrete j n)
    where
      one : Dec (i ≡ n) → Dec (j ≡ n) → i ≡ j
      one (yes p) (yes q) = p ∙ sym q
      one (yes p) (no q) = absurd (o.nowhere j (older j m q) (sym (g.keys j (older j m q)) ∙ sym e ∙ ap key p ∙ g.has))
      one (no p) (yes q) = absurd (o.nowhere i (older i l p) (sym (g.keys i (older i l p)) ∙ e ∙ ap key q ∙ g.has))
      one (no p) (no q) =
          c.single i j (older i l p) (older j m q) (sym (g.keys i (older i l p)) ∙ e ∙ g.keys j (older j m q))

  pub grown : Chained (with_nodes t nodes head behind key) (suc n)
  grown =
      record { home = home'; linked = record { fits = room; heads = heads; followers = followers; comes = comes; single = single } }

-- places that lead nowhere
pub none_chained : {K : Type 0} (t : Chains K) → ((b : ℕ) → t.head b ≡ 0) → Chained t 0
none_chained t free =
    record {
      home = λ i. 0;
      linked = record {
        fits = omega arith;
        heads = λ b l. free b ∙ (unfold latest in refl);
        followers = λ i l. absurd (omega arith);
        comes = λ i l. absurd (omega arith);
        single = λ i j l m e. absurd (omega arith);
      };
    }

newest_most : (head : ℕ → ℕ) (n m : ℕ) → ((b : ℕ) → b < m → head b ≤ n) → newest head m ≤ n
unfolding newest
newest_most head n zero h = omega arith
newest_most head n (suc m) h = omega (arith, h m (omega arith), newest_most head n m (λ b l. h b (omega arith)))

newest_least : (head : ℕ → ℕ) (b m : ℕ) → b < m → head b ≤ newest head m
unfolding newest
newest_least head b zero l = absurd (omega arith)
newest_least head b (suc m) l =
    elim (ℕ_discrete b m) [ yes e ↦ omega (arith, ap head e) | no e ↦ omega (arith, newest_least head b m (omega arith)) ]

-- the newest node is the first of its chain
pub newest_is : {K : Type 0} (t : Chains K) → Homed t → (home : ℕ → ℕ) (n : ℕ) → Linked t home n → (0 < n → 0 < t.places)
    → newest t.head t.places ≡ n
newest_is t homed home n c some = go n refl
  where
    most : newest t.head t.places ≤ n
    most = newest_most t.head n t.places (λ b l. omega (arith, c.heads b l, latest_most home b n))

    go : (x : ℕ) → n ≡ x → newest t.head t.places ≡ n
    go zero e = omega (arith, most)
    go (suc x) e =
        let l : x < n = omega arith in
        let w = c.comes x l in
        let there : home x < t.places = subst (λ (z : ℕ). z < t.places) w.here (homed (t.key x) w.after (some (omega arith))) in
        let first : t.head (home x) ≡ n = c.heads (home x) there ∙ (rw e (latest_last home x)) in
        omega (arith, most, newest_least t.head (home x) t.places there)
