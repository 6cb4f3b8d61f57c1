-- What is picked, by the greatest option: it is quantified away, the rest is picked, and of the two ways that are left for it the off one
-- is taken where it is allowed. So the recursion over the options, the greatest first, comes to `picked`.
use Rattle.std.specs.Prelude.{Some}
use Prim.Native.Nat.{ℕ, zero, suc, ◌+◌, ◌≤◌, ◌<◌}
use mathlib.Core.Path.{◌≡◌, refl, sym, ap, ap₂, ◌∙◌, fun_ext}
use mathlib.Core.Bool.{Bool, true, false, cond, not, ◌&&◌, ◌||◌, beq, and-true}
use mathlib.Core.Logic.{◌⊎◌, inl, inr}
use mathlib.Core.List.{List, [], ◌∷◌, ◌++◌, append_assoc}
use mathlib.Core.Option.{Option, none, some}
use native.Mathlib.Omega.{arith}
use Rattle.bdd.specs.Array.{every}
use Rattle.bdd.specs.Value.{Setting, Function, put}
use Rattle.bdd.specs.Jobs.{exists, selected, switched, listed, ways, first_allowed, agree, is_way, picked}
use Rattle.bdd.proofs.Logic.{every_at, le_or_lt}
use Rattle.bdd.proofs.Settings.{put_at, put_off, put_itself}

-- ---- the ways, by their greatest option

each : (Setting → List Setting) → List Setting → List Setting
each g [] = []
each g (τ ∷ τs) = g τ ++ each g τs

each_append : (g : Setting → List Setting) (xs ys : List Setting) → each g (xs ++ ys) ≡ each g xs ++ each g ys
unfolding each
each_append g [] ys = refl
each_append g (x ∷ xs) ys = ap (λ (zs : List Setting). g x ++ zs) (each_append g xs ys) ∙ sym (append_assoc (g x) (each g xs) (each g ys))

-- both ways of option k
abbrev both : ℕ → Setting → List Setting
both k τ = put k false τ ∷ put k true τ ∷ []

abbrev last : List ℕ → ℕ → Setting → List Setting
last vs k τ = cond (listed vs k) (both k τ) (τ ∷ [])

ways_last : (vs : List ℕ) (m k top : ℕ) (σ : Setting) → top ≡ m + k → ways vs (suc m) k σ ≡ each (last vs top) (ways vs m k σ)
unfolding ways each
ways_last vs zero k top σ e = rw (let p : top ≡ k = omega arith in p) (at (listed vs k))
  where
    at : (b : Bool) → cond b ((put k false σ ∷ []) ++ (put k true σ ∷ [])) (σ ∷ []) ≡ cond b (both k σ) (σ ∷ []) ++ []
    at true = refl
    at false = refl
ways_last vs (suc m) k top σ e = at (λ ρ. ways_last vs m (suc k) top ρ (omega arith)) (listed vs k)
  where
    at : ((ρ : Setting) → ways vs (suc m) (suc k) ρ ≡ each (last vs top) (ways vs m (suc k) ρ)) → (b : Bool)
        → cond b (ways vs (suc m) (suc k) (put k false σ) ++ ways vs (suc m) (suc k) (put k true σ)) (ways vs (suc m) (suc k) σ)
        ≡ each (last vs top) (cond b (ways vs m (suc k) (put k false σ) ++ ways vs m (suc k) (put k true σ)) (ways vs m (suc k) σ))
    at deeper true =
        ap₂ ◌++◌ (deeper (put k false σ)) (deeper (put k true σ))
        ∙ sym (each_append (last vs top) (ways vs m (suc k) (put k false σ)) (ways vs m (suc k) (put k true σ)))
    at deeper false = deeper σ

-- ---- the first that is allowed

abbrev mapped : (Setting → Setting) → Option Setting → Option Setting
mapped g none = none
mapped g (some τ) = some (g τ)

-- option k off where that is allowed, else on
abbrev settled : ℕ → Function → Setting → Setting
settled k f τ = put k (not (f (put k false τ))) τ

first_of_both : (k : ℕ) (f : Function) (τs : List Setting) → first_allowed f (each (both k) τs) ≡ mapped (settled k f) (first_allowed (exists k f) τs)
unfolding each first_allowed exists
first_of_both k f [] = refl
first_of_both k f (τ ∷ τs) = at (f (put k false τ)) (f (put k true τ)) refl (first_of_both k f τs)
  where
    at : (x y : Bool) → f (put k false τ) ≡ x → first_allowed f (each (both k) τs) ≡ mapped (settled k f) (first_allowed (exists k f) τs)
        → cond x (some (put k false τ)) (cond y (some (put k true τ)) (first_allowed f (each (both k) τs)))
        ≡ mapped (settled k f) (cond (x || y) (some τ) (first_allowed (exists k f) τs))
    at true y e h = rw e
    at false true e h = rw e
    at false false e h = h

each_alone : (τs : List Setting) → each (λ τ. τ ∷ []) τs ≡ τs
unfolding each
each_alone [] = refl
each_alone (τ ∷ τs) = ap (λ (zs : List Setting). τ ∷ zs) (each_alone τs)

-- one fact of each of the list
data Each (P : Setting → Type 0) : List Setting → Type 0 where
  nothing : Each P []
  also : {τ : Setting} {τs : List Setting} → P τ → Each P τs → Each P (τ ∷ τs)

each_both : {P : Setting → Type 0} {xs ys : List Setting} → Each P xs → Each P ys → Each P (xs ++ ys)
each_both nothing k = k
each_both (also p h) k = also p (each_both h k)

-- what is found is allowed, and one of the list
record Found (P : Setting → Type 0) (f : Function) (τ : Setting) : Type 0 where
  holds : P τ
  allowed : f τ ≡ true

found : {P : Setting → Type 0} (f : Function) (τ : Setting) {τs : List Setting} → Each P τs → first_allowed f τs ≡ some τ → Found P f τ
unfolding first_allowed
found f τ nothing e = absurd (let z : ◌≡◌ {A = ℕ} 0 1 = cc in omega arith)
found {P} f τ (also {τ = ρ} {τs = τs} p h) e = at (f ρ) refl (found f τ h) e
  where
    at : (b : Bool) → f ρ ≡ b → (first_allowed f τs ≡ some τ → Found P f τ) → cond b (some ρ) (first_allowed f τs) ≡ some τ → Found P f τ
    at true q g k = let r : ρ ≡ τ = cc in rw (← r) record { holds = p; allowed = q }
    at false q g k = g k

-- ---- the ways differ from the setting only in the options that are walked

abbrev From : ℕ → Setting → Setting → Type 0
From top σ τ = (i : ℕ) → top ≤ i → τ i ≡ σ i

from_put : (top k : ℕ) (b : Bool) (σ ρ : Setting) → k < top → From top σ ρ → From top σ (put k b ρ)
from_put top k b σ ρ l h i m = put_off k b ρ i (λ e. absurd (omega arith)) ∙ h i m

ways_from : (vs : List ℕ) (m k top : ℕ) (σ ρ : Setting) → m + k ≤ top → From top σ ρ → Each (From top σ) (ways vs m k ρ)
unfolding ways
ways_from vs zero k top σ ρ l h = also h nothing
ways_from vs (suc m) k top σ ρ l h =
    at (λ τ g. ways_from vs m (suc k) top σ τ (omega arith) g) (listed vs k)
  where
    at : ((τ : Setting) → From top σ τ → Each (From top σ) (ways vs m (suc k) τ)) → (b : Bool)
        → Each (From top σ) (cond b (ways vs m (suc k) (put k false ρ) ++ ways vs m (suc k) (put k true ρ)) (ways vs m (suc k) ρ))
    at deeper true =
        each_both (deeper (put k false ρ) (from_put top k false σ ρ (omega arith) h)) (deeper (put k true ρ) (from_put top k true σ ρ (omega arith) h))
    at deeper false = deeper ρ h

-- ---- settings that agree

beq_same : (b : Bool) → beq b b ≡ true
beq_same true = refl
beq_same false = refl

beq_path : (b c : Bool) → beq b c ≡ true → b ≡ c
beq_path true true e = refl
beq_path true false e = absurd (let z : ◌≡◌ {A = ℕ} 0 1 = cc in omega arith)
beq_path false true e = absurd (let z : ◌≡◌ {A = ℕ} 0 1 = cc in omega arith)
beq_path false false e = refl

every_same : (k : ℕ) (s t : ℕ → Bool) → ((i : ℕ) → i < k → s i ≡ t i) → every k s ≡ every k t
unfolding every
every_same zero s t h = refl
every_same (suc k) s t h = ap₂ ◌&&◌ (every_same k s t (λ i l. h i (omega arith))) (h k (omega arith))

-- on the options below m, and from m on: everywhere
agreed : (m : ℕ) (σ τ : Setting) → agree m σ τ ≡ true → From m σ τ → τ ≡ σ
unfolding agree
agreed m σ τ e h = fun_ext (λ i. at i (le_or_lt m i))
  where
    at : (i : ℕ) → (m ≤ i) ⊎ (i < m) → τ i ≡ σ i
    at i (inl l) = h i l
    at i (inr l) = sym (beq_path (σ i) (τ i) (every_at m (λ i. beq (σ i) (τ i)) e i l))

-- ---- one option more

-- the set without what the flipped selection holds: on where the option is off, and where it is on but may not be off
unfoldable pub var_picked : ℕ → Function → Function
var_picked v f σ = f σ && not (selected v false f (switched (Some v) σ))

-- of the two ways for option m the off one is taken where it is allowed
off_first : (m : ℕ) (f : Function) (σ : Setting) → exists m f σ ≡ true → beq (σ m) (not (f (put m false σ))) ≡ var_picked m f σ
unfolding var_picked exists selected switched
off_first m f σ e =
    at (σ m) (side false) (side true) e
    ∙ ap₂ (λ (u w : Bool). u && not w) (sym (by (σ m)) ∙ ap f (put_itself m σ))
    (ap₂ (λ (u w : Bool). cond (beq u false) w false) (sym (put_at m (not (σ m)) σ)) (by_other (σ m)))
  where
    side : Bool → Bool
    side b = f (put m b σ)

    by : (s : Bool) → side s ≡ cond s (side true) (side false)
    by true = refl
    by false = refl

    by_other : (s : Bool) → cond s (side false) (side true) ≡ side (not s)
    by_other true = refl
    by_other false = refl

    at : (s x y : Bool) → (x || y) ≡ true → beq s (not x) ≡ (cond s y x && not (cond (beq (not s) false) (cond s x y) false))
    at true true true h = refl
    at true true false h = refl
    at true false true h = refl
    at true false false h = absurd (let z : ◌≡◌ {A = ℕ} 0 1 = cc in omega arith)
    at false true y h = refl
    at false false y h = refl

-- what was found for the options below m, with option m put so
with_last : (m : ℕ) (b : Bool) (σ τ : Setting) → agree (suc m) σ (put m b τ) ≡ (agree m σ τ && beq (σ m) b)
unfolding agree every
with_last m b σ τ =
    ap₂ ◌&&◌ (every_same m _ _ (λ i l. ap (beq (σ i)) (put_off m b τ i (λ e. absurd (omega arith))))) (ap (beq (σ m)) (put_at m b τ))

-- a law of what agrees below m needs to hold only where it is the setting itself
where_agreed : (a : Bool) (x y : Bool) → (a ≡ true → x ≡ y) → (a && x) ≡ (a && y)
where_agreed true x y h = h refl
where_agreed false x y h = refl

module _ (m : ℕ) (vs : List ℕ) where
  by_last : (k : ℕ) {b : Bool} → listed vs k ≡ b → (σ : Setting) → each (last vs k) (ways vs m 0 σ) ≡ each (λ τ. cond b (both k τ) (τ ∷ [])) (ways vs m 0 σ)
  by_last k l σ = ap (λ (b : Bool). each (λ τ. cond b (both k τ) (τ ∷ [])) (ways vs m 0 σ)) l

  -- option m is picked
  pub picked_listed : (f : Function) → listed vs m ≡ true → picked (suc m) vs f ≡ (λ σ. picked m vs (exists m f) σ && var_picked m f σ)
  unfolding picked
  picked_listed f l =
      fun_ext
      (λ σ.
      ap (λ (τs : List Setting). is_way (suc m) σ (first_allowed f τs)) (ways_last vs m 0 m σ (omega arith) ∙ by_last m l σ)
      ∙ ap (is_way (suc m) σ) (first_of_both m f (ways vs m 0 σ))
      ∙ at σ (first_allowed (exists m f) (ways vs m 0 σ)) refl)
    where
      at : (σ : Setting) (o : Option Setting) → first_allowed (exists m f) (ways vs m 0 σ) ≡ o
          → is_way (suc m) σ (mapped (settled m f) o) ≡ (is_way m σ o && var_picked m f σ)
      at σ none e = refl
      at σ (some τ) e =
          let τ-found = found (exists m f) τ (ways_from vs m 0 m σ σ (omega arith) (λ i k. refl)) e in
          with_last m (not (f (put m false τ))) σ τ
          ∙ where_agreed (agree m σ τ) _ _
          (λ a. let same : τ ≡ σ = agreed m σ τ a τ-found.holds in rw same (off_first m f σ (ap (exists m f) (sym same) ∙ τ-found.allowed)))

  -- option m is not
  pub picked_other : (f : Function) → listed vs m ≡ false → picked (suc m) vs f ≡ picked m vs f
  unfolding picked agree every
  picked_other f l =
      fun_ext
      (λ σ.
      ap (λ (τs : List Setting). is_way (suc m) σ (first_allowed f τs)) (ways_last vs m 0 m σ (omega arith) ∙ by_last m l σ ∙ each_alone (ways vs m 0 σ))
      ∙ at σ (first_allowed f (ways vs m 0 σ)) refl)
    where
      at : (σ : Setting) (o : Option Setting) → first_allowed f (ways vs m 0 σ) ≡ o → is_way (suc m) σ o ≡ is_way m σ o
      at σ none e = refl
      at σ (some τ) e =
          let τ-found = found f τ (ways_from vs m 0 m σ σ (omega arith) (λ i k. refl)) e in
          ap (λ (b : Bool). agree m σ τ && beq (σ m) b) (τ-found.holds m (omega arith))
          ∙ ap (λ (b : Bool). agree m σ τ && b) (beq_same (σ m)) ∙ and-true (agree m σ τ)

-- nothing is picked
pub picked_none : (vs : List ℕ) (f : Function) → picked 0 vs f ≡ f
unfolding picked ways first_allowed agree every
picked_none vs f = fun_ext (λ σ. at σ (f σ))
  where
    at : (σ : Setting) (b : Bool) → is_way 0 σ (cond b (some σ) none) ≡ b
    at σ true = refl
    at σ false = refl
