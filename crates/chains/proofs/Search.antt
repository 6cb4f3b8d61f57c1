-- The search for a key: it goes from full chain to full chain, and where it ends without the key, the key stands nowhere.
use Prim.Native.Nat.{ℕ, zero, suc, ◌+◌, ◌<◌, ◌≤◌}
use mathlib.Core.Path.{◌≡◌, refl, sym, ap, subst, ◌∙◌}
use mathlib.Core.Logic.{◌⊎◌, ⊎_elim}
use native.Mathlib.Decide.{ℕ_discrete}
use native.Mathlib.Omega.{arith}
use Rattle.bdd.proofs.Logic.{le_or_lt}
use Rattle.chains.specs.Chains.{Chains, full, tries, load, Comes, Linked, NoneOf, NowhereBelow, Has, WalkedBy, Walked, Open, Ended}
use Rattle.chains.specs.declared.Trail.{Trail}
use Rattle.chains.specs.declared.Trail.TheVariants as trail
use Rattle.chains.specs.declared.Place.{Place}
use Rattle.chains.specs.declared.Place.TheVariants as place

-- a place of a key is a place
abbrev pub Homed : {K : Type 0} → Chains K → Type 0
Homed {K} t = (k : K) (d : ℕ) → 0 < t.places → t.spot k d < t.places

-- the chains at the first `tried` places of k were walked: none has k, all but the last are full, and the last has m nodes
pub record Tried {K : Type 0} (t : Chains K) (home : ℕ → ℕ) (n : ℕ) (k : K) (tried m : ℕ) : Type 0 where
  pub none : (d : ℕ) → d < tried → NoneOf t home n k (t.spot k d)
  pub over : (d : ℕ) → d + 1 < tried → full ≤ load home (t.spot k d) n
  pub last : (d : ℕ) → d + 1 ≡ tried → m ≡ load home (t.spot k d) n

-- `at` is the last of them; before the first one, m is taken for full
pub record Searching {K : Type 0} (t : Chains K) (k : K) (tried at m : ℕ) : Type 0 where
  pub few : tried ≤ tries
  pub begins : tried ≡ 0 → full ≤ m
  pub here : (d : ℕ) → d + 1 ≡ tried → at ≡ t.spot k d
  pub walked : (home : ℕ → ℕ) (n : ℕ) → Linked t home n → Tried t home n k tried m

module _ {K : Type 0} (t : Chains K) (k : K) where
  pub begun : (at : ℕ) → Searching t k 0 at full
  begun at =
      record {
        few = omega arith;
        begins = λ e. omega arith;
        here = λ d e. absurd (omega arith);
        walked = λ home n c.
            record { none = λ d l. absurd (omega arith); over = λ d l. absurd (omega arith); last = λ d e. absurd (omega arith) };
      }

  module _ (tried at m : ℕ) (s : Searching t k tried at m) where
    module _ (home : ℕ → ℕ) (n : ℕ) (c : Linked t home n) (more : full ≤ m) where
      -- what was walked before is full
      filled : (d : ℕ) → d < tried → full ≤ load home (t.spot k d) n
      filled d l =
          let w = s.walked home n c in
          elim (ℕ_discrete (d + 1) tried) [ yes e ↦ omega (arith, w.last d e) | no e ↦ w.over d (omega arith) ]

      further : (m' : ℕ) → WalkedBy t home n k (t.spot k tried) m' → Tried t home n k (tried + 1) m'
      further m' b =
          let w = s.walked home n c in
          let same : (d : ℕ) → d + 1 ≡ tried + 1 → tried ≡ d = λ d e. omega arith in
          record {
            none = λ d l.
                elim (ℕ_discrete tried d) [
                  | yes e ↦ subst (λ (x : ℕ). NoneOf t home n k (t.spot k x)) e b.none
                  | no e ↦ w.none d (omega arith)
                ];
            over = λ d l. filled d (omega arith);
            last = λ d e. b.counted ∙ ap (λ (x : ℕ). load home (t.spot k x) n) (same d e);
          }

    -- one place more was walked
    pub gone_on : full ≤ m → tried < tries → (at' m' : ℕ) → at' ≡ t.spot k tried → Walked t k at' (trail.End m') → Searching t k (tried + 1) at' m'
    gone_on more l at' m' e w =
        let same : (d : ℕ) → d + 1 ≡ tried + 1 → tried ≡ d = λ d q. omega arith in
        record {
          few = omega arith;
          begins = λ q. absurd (omega arith);
          here = λ d q. e ∙ ap (t.spot k) (same d q);
          walked = λ home n c. further home n c more m' (subst (λ (x : ℕ). WalkedBy t home n k x m') e (w home n c));
        }

    -- the last chain is not full, or it is the last of all
    module _ (end : (m < full) ⊎ (tries ≤ tried)) (d : ℕ) (now : d + 1 ≡ tried) where
      module _ (home : ℕ → ℕ) (n : ℕ) (c : Linked t home n) where
        comes_here : Comes t home n k at
        comes_here =
            record {
              after = d;
              few = omega (arith, s.few);
              here = sym (s.here d now);
              over = λ e l. (s.walked home n c).over e (omega arith);
            }

        nowhere : NowhereBelow t n k
        nowhere i l e =
            let w = s.walked home n c in
            let o = c.comes i l in
            let there : home i ≡ t.spot k o.after = sym o.here ∙ ap (λ (x : K). t.spot x o.after) e in
            ⊎_elim
            (λ (y : tried ≤ o.after).
            let all : full ≤ load home (t.spot k d) n = subst (λ (x : K). full ≤ load home (t.spot x d) n) e (o.over d (omega arith)) in
            ⊎_elim (λ (z : m < full). absurd (omega (arith, w.last d now))) (λ (z : tries ≤ tried). absurd (omega (arith, o.few))) end)
            (λ (y : o.after < tried). w.none o.after y i l there e) (le_or_lt tried o.after)

      open_here : Homed t → 0 < t.places → Open t k at
      open_here homed some =
          record {
            within = subst (λ (x : ℕ). x < t.places) (sym (s.here d now)) (homed k d some);
            at = λ home n c. record { comes = comes_here home n c; nowhere = nowhere home n c };
          }

    pub ended : (m < full) ⊎ (tries ≤ tried) → Homed t → 0 < t.places → Open t k at
    ended end homed some = go tried refl
      where
        go : (x : ℕ) → tried ≡ x → Open t k at
        go zero e =
            ⊎_elim (λ (l : m < full). absurd (omega (arith, s.begins e))) (λ (l : tries ≤ tried). absurd (omega arith)) end
        go (suc d) e = open_here end d (omega arith) homed some

-- where a search ended, once it is told
module _ {K : Type 0} (t : Chains K) (k : K) (end : Place) (ended : Ended t k end) where
  pub met : (i : ℕ) → end ≡ place.At i → Has t k i
  met i e = subst (Ended t k) e ended

  pub opened : (b : ℕ) → end ≡ place.Free b → Open t k b
  opened b e = subst (Ended t k) e ended

  pub no_places : end ≡ place.Nowhere → t.places ≡ 0
  no_places e = subst (Ended t k) e ended

-- where a walk ended, once it is told
module _ {K : Type 0} (t : Chains K) (k : K) (b : ℕ) (end : Trail) (walked : Walked t k b end) where
  pub walk_met : (i : ℕ) → end ≡ trail.At i → Has t k i
  walk_met i e = subst (Walked t k b) e walked

  pub walk_ended : (m : ℕ) → end ≡ trail.End m → Walked t k b (trail.End m)
  walk_ended m e = subst (Walked t k b) e walked
