-- The walk along the chain of a place: it meets the nodes that belong to the place, from the newest on, each once.
use Prim.Native.Nat.{ℕ, suc, ◌+◌, ◌<◌, ◌≤◌}
use mathlib.Core.Path.{◌≡◌, sym, ap, ◌∙◌}
use mathlib.Core.Logic.{◌⊎◌, ⊎_elim}
use native.Mathlib.Decide.{ℕ_discrete}
use native.Mathlib.Omega.{arith}
use Rattle.bdd.proofs.Logic.{le_or_lt}
use Rattle.chains.specs.Chains.{Chains, latest, load, Linked, Has, WalkedBy}
use Rattle.chains.proofs.Latest.{latest_most, Last, latest_some, latest_none, load_none}

-- of the nodes of place b those from `from` on were met, m of them, and none has k; `next` leads to the last of the others
pub record Left {K : Type 0} (t : Chains K) (home : ℕ → ℕ) (n : ℕ) (k : K) (b bound next m : ℕ) : Type 0 where
  pub from : ℕ
  pub below : from ≤ n
  pub within : from ≤ bound
  pub leads : next ≡ latest home b from
  pub passed : (i : ℕ) → from ≤ i → i < n → home i ≡ b → t.key i ≡ k → ⊥
  pub counted : m + load home b from ≡ load home b n

-- the walk has met m nodes; those that are left are below `bound`, whatever the run holds
pub record Walking {K : Type 0} (t : Chains K) (k : K) (b bound next m : ℕ) : Type 0 where
  pub few : m + bound ≤ t.nodes
  pub left : (home : ℕ → ℕ) (n : ℕ) → Linked t home n → Left t home n k b bound next m

module _ {K : Type 0} (t : Chains K) (k : K) (b : ℕ) where
  pub begun : b < t.places → (next : ℕ) → next ≡ t.head b → Walking t k b t.nodes next 0
  begun l next e =
      record {
        few = omega arith;
        left = λ home n c.
            record {
              from = n;
              below = omega arith;
              within = c.fits;
              leads = e ∙ c.heads b l;
              passed = λ i a z h q. absurd (omega arith);
              counted = omega arith;
            };
      }

  module _ (bound next m : ℕ) (w : Walking t k b bound next m) where
    -- a node is left
    module _ (node : ℕ) (some : next ≡ suc node) (more : next ≤ bound) where
      last : (home : ℕ → ℕ) (n : ℕ) (c : Linked t home n) → Last home b (w.left home n c).from node
      last home n c = latest_some home b (w.left home n c).from node (sym (w.left home n c).leads ∙ some)

      pub found : t.key node ≡ k → Has t k node
      found e =
          record {
            within = omega (arith, w.few);
            equal = e;
            used = λ home n c. omega (arith, (last home n c).below, (w.left home n c).below);
          }

      pub gone_on : (t.key node ≡ k → ⊥) → (further : ℕ) → further ≡ t.behind node → Walking t k b node further (m + 1)
      gone_on e further f =
          record {
            few = omega (arith, w.few);
            left = λ home n c.
                let o = w.left home n c in
                let h = last home n c in
                let b = o.below in
                record {
                  from = node;
                  below = omega (arith, h.below);
                  within = omega arith;
                  leads = f ∙ c.followers node (omega (arith, h.below)) ∙ ap (λ (p : ℕ). latest home p node) h.belongs;
                  passed = λ i a z q s.
                      elim (ℕ_discrete i node) [
                        | yes y ↦ e (ap t.key (sym y) ∙ s)
                        | no y ↦ ⊎_elim (λ (l : o.from ≤ i). o.passed i l z q s) (λ (l : i < o.from). h.later i (omega arith) l q) (le_or_lt o.from i)
                      ];
                  counted = omega (arith, h.counted, o.counted);
                };
          }

    -- no node is left
    pub ended : (next ≡ 0) ⊎ (bound < next) → (home : ℕ → ℕ) (n : ℕ) → Linked t home n → WalkedBy t home n k b m
    ended end home n c =
        let o = w.left home n c in
        let none : next ≡ 0 = ⊎_elim (λ z. z) (λ z. absurd (omega (arith, o.within, o.leads, latest_most home b o.from))) end in
        let free : latest home b o.from ≡ 0 = sym o.leads ∙ none in
        record {
          counted = omega (arith, o.counted, load_none home b o.from free);
          none = λ i l h s.
              ⊎_elim (λ (a : o.from ≤ i). o.passed i a l h s) (λ (a : i < o.from). latest_none home b o.from free i a h) (le_or_lt o.from i);
        }
