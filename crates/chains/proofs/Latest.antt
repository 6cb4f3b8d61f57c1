-- The last of the nodes that belong to a place, how many there are, and how both grow with one node more.
use Prim.Native.Nat.{ℕ, zero, suc, ◌<◌, ◌≤◌}
use mathlib.Core.Path.{◌≡◌, refl, sym, ap, ◌∙◌}
use mathlib.Core.Bool.{cond}
use native.Mathlib.Decide.{ℕ_discrete}
use native.Mathlib.Omega.{arith}
use lib.Dec.{eqb}
use borrow.Author.Tests.{eq-eqb, ne_eqb}
use Rattle.chains.specs.Chains.{latest, load}

module _ (home : ℕ → ℕ) (b : ℕ) where
  -- one node more: it belongs to the place, or it does not
  latest_here : (n : ℕ) → home n ≡ b → latest home b (suc n) ≡ suc n
  unfolding latest
  latest_here n e = rw (eq-eqb (home n) b e)

  latest_past : (n : ℕ) → (home n ≡ b → ⊥) → latest home b (suc n) ≡ latest home b n
  unfolding latest
  latest_past n e = rw (ne_eqb (home n) b e)

  load_here : (n : ℕ) → home n ≡ b → load home b (suc n) ≡ suc (load home b n)
  unfolding load
  load_here n e = rw (eq-eqb (home n) b e)

  load_past : (n : ℕ) → (home n ≡ b → ⊥) → load home b (suc n) ≡ load home b n
  unfolding load
  load_past n e = rw (ne_eqb (home n) b e)

  pub latest_most : (n : ℕ) → latest home b n ≤ n
  latest_most zero = unfold latest in omega arith
  latest_most (suc n) =
      elim (ℕ_discrete (home n) b) [ yes e ↦ omega (arith, latest_here n e) | no e ↦ omega (arith, latest_past n e, latest_most n) ]

  -- node i is the last below n
  pub record Last (n i : ℕ) : Type 0 where
    pub below : i < n
    pub belongs : home i ≡ b
    pub later : (j : ℕ) → i < j → j < n → home j ≡ b → ⊥
    pub counted : load home b n ≡ suc (load home b i)

  last_more : (n i : ℕ) → (home n ≡ b → ⊥) → Last n i → Last (suc n) i
  last_more n i e l =
      record {
        below = omega (arith, l.below);
        belongs = l.belongs;
        later = λ j a c h. elim (ℕ_discrete j n) [ yes q ↦ e (ap home (sym q) ∙ h) | no q ↦ l.later j a (omega arith) h ];
        counted = load_past n e ∙ l.counted;
      }

  latest_zero : latest home b 0 ≡ 0
  unfolding latest
  latest_zero = refl

  pub latest_some : (n i : ℕ) → latest home b n ≡ suc i → Last n i
  latest_some zero i q = absurd (omega (arith, latest_zero))
  latest_some (suc n) i q =
      elim (ℕ_discrete (home n) b) [
        | yes e ↦
            let same : i ≡ n = omega (arith, latest_here n e) in
            rw same (record { below = omega arith; belongs = e; later = λ j a c h. absurd (omega arith); counted = load_here n e })
        | no e ↦ last_more n i e (latest_some n i (sym (latest_past n e) ∙ q))
      ]

  -- there is none
  pub latest_none : (n : ℕ) → latest home b n ≡ 0 → (j : ℕ) → j < n → home j ≡ b → ⊥
  latest_none zero q j l h = absurd (omega arith)
  latest_none (suc n) q j l h =
      elim (ℕ_discrete (home n) b) [
        | yes e ↦ absurd (omega (arith, latest_here n e))
        | no e ↦ elim (ℕ_discrete j n) [ yes p ↦ e (ap home (sym p) ∙ h) | no p ↦ latest_none n (sym (latest_past n e) ∙ q) j (omega arith) h ]
      ]

  pub load_none : (n : ℕ) → latest home b n ≡ 0 → load home b n ≡ 0
  load_none zero q = unfold load in refl
  load_none (suc n) q =
      elim (ℕ_discrete (home n) b) [
        | yes e ↦ absurd (omega (arith, latest_here n e))
        | no e ↦ load_past n e ∙ load_none n (sym (latest_past n e) ∙ q)
      ]

-- node n comes to belong to place b
pub put_home : (ℕ → ℕ) → ℕ → ℕ → ℕ → ℕ
put_home home n b i = cond (eqb i n) b (home i)

module _ (home : ℕ → ℕ) (n b : ℕ) where
  pub put_here : put_home home n b n ≡ b
  unfolding put_home
  put_here = rw (eq-eqb n n refl)

  pub put_other : (i : ℕ) → i < n → put_home home n b i ≡ home i
  unfolding put_home
  put_other i l = rw (ne_eqb i n (λ e. absurd (omega arith)))

  -- older nodes belong where they did
  pub put_latest : (c m : ℕ) → m ≤ n → latest (put_home home n b) c m ≡ latest home c m
  unfolding latest
  put_latest c zero l = refl
  put_latest c (suc m) l = rw (put_other m l, put_latest c m (omega arith)) refl

  put_load_below : (c m : ℕ) → m ≤ n → load (put_home home n b) c m ≡ load home c m
  unfolding load
  put_load_below c zero l = refl
  put_load_below c (suc m) l = rw (put_other m l, put_load_below c m (omega arith)) refl

  -- its place leads to it, and every other place where it led
  pub put_latest_here : latest (put_home home n b) b (suc n) ≡ suc n
  put_latest_here = latest_here (put_home home n b) b n put_here

  pub put_latest_other : (c : ℕ) → (c ≡ b → ⊥) → latest (put_home home n b) c (suc n) ≡ latest home c n
  put_latest_other c e =
      latest_past (put_home home n b) c n (λ h. e (sym h ∙ put_here)) ∙ put_latest c n (omega arith)

  -- no place has fewer
  pub put_load : (c : ℕ) → load home c n ≤ load (put_home home n b) c (suc n)
  put_load c =
      elim (ℕ_discrete (put_home home n b n) c) [
        | yes e ↦ omega (arith, load_here (put_home home n b) c n e, put_load_below c n (omega arith))
        | no e ↦ omega (arith, load_past (put_home home n b) c n e, put_load_below c n (omega arith))
      ]

-- the last node is the last of its place
pub latest_last : (home : ℕ → ℕ) (n : ℕ) → latest home (home n) (suc n) ≡ suc n
latest_last home n = latest_here home (home n) n refl
