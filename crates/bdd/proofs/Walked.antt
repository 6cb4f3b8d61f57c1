-- What is written, looked at in any array that it is part of: each entry is as `inner` says, has links that differ, and is
-- none of those before it; and a walk over the links, first side first, meets the entries in the order of their numbers.
--
use Prim.Native.Nat.{ℕ, zero, suc, ◌+◌, ◌<◌, ◌≤◌}
use mathlib.Core.Path.{◌≡◌, refl, sym, ap, ◌∙◌}
use mathlib.Core.Logic.{◌≢◌, ◌⊎◌, inl, inr, ⊎_elim}
use mathlib.Core.Bool.{Bool, true, false, cond, not}
use mathlib.Core.List.{List, [], ◌∷◌, ◌++◌}
use mathlib.Core.Option.{Option, none, some}
use native.Mathlib.Omega.{arith}
use native.Mathlib.Nat.{eq-or-lt_of_le}
use lib.ListN.{length, get_or, length-map, length-append, get_or-map, get_or-append}
use lib.Seq.{get_or-append_seam}
use lib.Dec.{eqb}
use borrow.Author.Tests.{eqb-true, eqb-false}
use Rattle.bdd.specs.Array.{Entry, Runs, entry, laid, var_of, low_link_of, high_link_of, entry_of, size, options}
use Rattle.bdd.specs.Value.{Setting, Function, put, with_option, value_at, chosen}
use Rattle.bdd.specs.Signed.{Written, written, find, found_or_added, add, decide, write}
pub use Rattle.bdd.specs.Walk.{Walk, seen, new}
use Rattle.bdd.proofs.Ordered.{Inner, Layered}
use Rattle.bdd.proofs.Reduction.{Reduced}
use Rattle.bdd.proofs.Settings.{put_itself, put_at, put_off}
use Rattle.bdd.proofs.Written.{Grown, grown_trans, find_some, find_none, decide_grows, write_grows}
use Rattle.bdd.proofs.Following.{side, side_back, value_0, value_1, value_follows}

-- entries behind the terminals of n options, as an array
abbrev pub over : ℕ → List Entry → Runs
over n es = laid (entry n 0 0 ∷ entry n 1 1 ∷ es)

-- of entry i, from 2 on
pub record Good (a : Runs) (i : ℕ) : Type 0 where
  pub inner : Inner a i
  pub reduced : Reduced a i

pub walk_seen : {first : Bool} {a : Runs} {i k m : ℕ} → Walk first a i k m → i < k → m ≡ k
walk_seen (seen l) h = refl
walk_seen (new l x y) h = absurd (omega arith)

-- a walk meets nothing new, or its entry last
pub walk_last : {first : Bool} {a : Runs} {i k m : ℕ} → Walk first a i k m → (m ≡ k) ⊎ (m ≡ suc i)
walk_last (seen l) = inl refl
walk_last (new l x y) = inr refl

pub walk_grows : {first : Bool} {a : Runs} {i k m : ℕ} → Walk first a i k m → k ≤ m
walk_grows (seen l) = omega arith
walk_grows (new l x y) = omega arith

-- both sides, by the one that is first
either : (P : Bool → Type 0) (first : Bool) → P first → P (not first) → (b : Bool) → P b
either P true p q true = p
either P true p q false = q
either P false p q true = q
either P false p q false = p

-- entry p asks option k, and its two sides are x, the first, and y
pub record Asks (first : Bool) (a : Runs) (k x y p : ℕ) : Type 0 where
  pub after : 2 ≤ p
  pub variable : var_of a p ≡ k
  pub one : side a first p ≡ x
  pub other : side a (not first) p ≡ y

asks_inner : (first : Bool) (a : Runs) (k x y p : ℕ) → Asks first a k x y p → k < options a → x < p → y < p
    → k < var_of a x → k < var_of a y → Inner a p
asks_inner first a k x y p h l xb yb xv yv =
    let back : (b : Bool) → side a b p < p =
    either (λ b. side a b p < p) first (omega (arith, h.one)) (omega (arith, h.other)) in
    let later : (b : Bool) → var_of a p < var_of a (side a b p) =
    either (λ b. var_of a p < var_of a (side a b p)) first (rw (h.one, h.variable) xv) (rw (h.other, h.variable) yv) in
    record {
      variable = omega (arith, h.variable);
      low = back false;
      high = back true;
      low_variable = later false;
      high_variable = later true;
    }

asks_links : (first : Bool) (a : Runs) (k x y p : ℕ) → Asks first a k x y p → x ≢ y → low_link_of a p ≢ high_link_of a p
asks_links true a k x y p h ne e = ne (sym h.one ∙ sym e ∙ h.other)
asks_links false a k x y p h ne e = ne (sym h.one ∙ e ∙ h.other)

entry_asks : (first : Bool) (a : Runs) (k x y p : ℕ) → 2 ≤ p → entry_of a p ≡ entry k (cond first y x) (cond first x y)
    → Asks first a k x y p
entry_asks true a k x y p l e =
    record { after = l; variable = ap (λ (d : Entry). d.variable) e; one = ap (λ (d : Entry). d.high) e; other = ap (λ (d : Entry). d.low) e }
entry_asks false a k x y p l e =
    record { after = l; variable = ap (λ (d : Entry). d.variable) e; one = ap (λ (d : Entry). d.low) e; other = ap (λ (d : Entry). d.high) e }

two_plus : (j : ℕ) → 2 + j ≡ suc (suc j)
two_plus j = omega arith

-- entry 2 + j of an array is entry j of those behind the terminals
pub entry_over : (n : ℕ) (es final : List Entry) (j : ℕ) → Grown es final → j < length es
    → entry_of (over n final) (suc (suc j)) ≡ get_or es j (entry 0 0 0)
entry_over n es final j g l =
    let e : entry_of (over n final) (suc (suc j)) ≡ get_or final j (entry 0 0 0) =
    λ i. record {
      variable = get_or-map (λ (d : Entry). d.variable) final j (entry 0 0 0) i;
      low = get_or-map (λ (d : Entry). d.low) final j (entry 0 0 0) i;
      high = get_or-map (λ (d : Entry). d.high) final j (entry 0 0 0) i;
    } in
    e ∙ ap (λ (l : List Entry). get_or l j (entry 0 0 0)) g.path ∙ get_or-append es g.more (entry 0 0 0) j l

-- f looks only at the options from k up to m
abbrev pub Between : ℕ → ℕ → Function → Type 0
Between k m f = (σ τ : Setting) → ((i : ℕ) → k ≤ i → i < m → σ i ≡ τ i) → f σ ≡ f τ

between_put : (k m l : ℕ) (b : Bool) (f : Function) → Between k m f → m ≡ l → Between (suc k) l (with_option k b f)
between_put k m l b f h e σ τ eq = h (put k b σ) (put k b τ) (λ i p q. at i p q (eq-or-lt_of_le p))
  where
    at : (i : ℕ) → k ≤ i → i < m → (k ≡ i) ⊎ (k < i) → put k b σ i ≡ put k b τ i
    at i p q (inl r) = rw (← r) (put_at k b σ ∙ sym (put_at k b τ))
    at i p q (inr r) = put_off k b σ i (omega arith) ∙ eq i r (omega arith) ∙ sym (put_off k b τ i (omega arith))

module _ (first : Bool) (n : ℕ) (final : List Entry) where
  abbrev pub whole : Runs
  whole = over n final

  -- what settling an entry comes to
  pub data Decided (k x y : ℕ) (es : List Entry) : Written → Type 0 where
    same : x ≡ y → Decided k x y es (written es x)
    found : {p : ℕ} → x ≢ y → Asks first whole k x y p → p < 2 + length es → Decided k x y es (written es p)
    added : (e : Entry) → x ≢ y → Asks first whole k x y (2 + length es)
        → ((j : ℕ) → 2 ≤ j → j < 2 + length es → entry_of whole j ≢ entry_of whole (2 + length es))
        → Decided k x y es (written (es ++ (e ∷ [])) (2 + length es))

  decided : (k x y : ℕ) (es : List Entry) → Grown (decide first k x y es).entries final → Decided k x y es (decide first k x y es)
  unfolding decide add
  decided k x y es g = at (eqb x y) refl g
    where
      e : Entry
      e = entry k (cond first y x) (cond first x y)

      before : Grown es final → find e 2 es ≡ none → (j : ℕ) → 2 ≤ j → j < 2 + length es → entry_of whole j ≢ e
      before g o zero l m = absurd (omega arith)
      before g o (suc zero) l m = absurd (omega arith)
      before g o (suc (suc j)) l m = λ q. find_none e 2 es o j (omega arith) (sym (entry_over n es final j g (omega arith)) ∙ q)

      adding : x ≢ y → (o : Option ℕ) → find e 2 es ≡ o → Grown (found_or_added e es o).entries final → Decided k x y es (found_or_added e es o)
      adding ne none o g =
          let last : entry_of whole (2 + length es) ≡ e =
          rw (two_plus (length es)) (entry_over n (es ++ (e ∷ [])) final (length es) g (rw length-append (omega arith)) ∙ get_or-append_seam es e [] (entry 0 0 0)) in
          added e ne (entry_asks first whole k x y (2 + length es) (omega arith) last)
          (λ j l m q. before (grown_trans (record { more = e ∷ []; path = refl }) g) o j l m (q ∙ last))
      adding ne (some p) o g =
          let r = find_some e 2 p es o in
          let here : entry_of whole p ≡ e =
          rw (r.1, two_plus r.0) (entry_over n es final r.0 g r.2 ∙ r.3) in
          found ne (entry_asks first whole k x y p (omega (arith, r.1)) here) (omega (arith, r.1, r.2))

      at : (t : Bool) → eqb x y ≡ t → Grown (cond t (written es x) (add e es)).entries final → Decided k x y es (cond t (written es x) (add e es))
      at true t g = same (eqb-true x y t)
      at false t g = adding (eqb-false x y t) (find e 2 es) refl g

  -- what holds after a function of the options from k on is written behind l entries
  pub record Wrote (k l : ℕ) (w : Written) : Type 0 where
    pub inside : w.at < 2 + length w.entries
    pub later : k ≤ var_of whole w.at
    pub good : (i : ℕ) → 2 ≤ i → i < 2 + length w.entries → Good whole i
    pub walk : Walk first whole w.at (2 + l) (2 + length w.entries)

  settled : (k l : ℕ) (x y w : Written) → k < n → Wrote (suc k) l x → Wrote (suc k) (length x.entries) y
      → Decided k x.at y.at y.entries w → Wrote k l w
  settled k l x y _ h X Y (same e) =
      let still : 2 + length y.entries ≡ 2 + length x.entries = walk_seen Y.walk (omega (arith, X.inside)) in
      record {
        inside = omega (arith, Y.inside);
        later = omega (arith, X.later);
        good = Y.good;
        walk = rw still X.walk;
      }
  settled k l x y _ h X Y (found {p} ne at m) =
      let g = (Y.good p at.after m).inner in
      let xb : x.at < p = omega (arith, at.one, side_back whole first p g) in
      let yb : y.at < p = omega (arith, at.other, side_back whole (not first) p g) in
      let K : 2 + length y.entries ≡ 2 + l =
      ⊎_elim
      (λ (q : 2 + length y.entries ≡ 2 + length x.entries).
      ⊎_elim (λ (r : 2 + length x.entries ≡ 2 + l). q ∙ r) (λ (r : 2 + length x.entries ≡ suc x.at). absurd (omega arith))
      (walk_last X.walk))
      (λ (q : 2 + length y.entries ≡ suc y.at). absurd (omega arith))
      (walk_last Y.walk) in
      let known : p < 2 + l = omega arith in
      record {
        inside = m;
        later = omega (arith, at.variable);
        good = Y.good;
        walk = rw K (seen known);
      }
  settled k l x y _ h X Y (added e ne at before) =
      let p : ℕ = 2 + length y.entries in
      let long : length (y.entries ++ (e ∷ [])) ≡ suc (length y.entries) = length-append y.entries (e ∷ []) ∙ omega arith in
      let top : 2 + length (y.entries ++ (e ∷ [])) ≡ suc p = omega arith in
      let gx = walk_grows X.walk in
      let gy = walk_grows Y.walk in
      let due : 2 + l ≤ p = omega arith in
      let here : Good whole p =
      record {
        inner = asks_inner first whole k x.at y.at p at h (omega (arith, X.inside)) Y.inside X.later Y.later;
        reduced = record { links = asks_links first whole k x.at y.at p at ne; single = before };
      } in
      record {
        inside = omega arith;
        later = omega (arith, at.variable);
        good = λ i a b.
            ⊎_elim (λ (q : i ≡ p). rw q here) (λ (q : i < p). Y.good i a q) (eq-or-lt_of_le (omega arith));
        walk = rw top (new {i = p} {l = 2 + length x.entries} due (rw at.one X.walk) (rw at.other Y.walk));
      }

  pub wrote : (m k : ℕ) (f : Function) (es : List Entry) → k + m ≡ n → Grown (write first m k f es).entries final
      → ((i : ℕ) → 2 ≤ i → i < 2 + length es → Good whole i) → Wrote k (length es) (write first m k f es)
  unfolding write
  wrote zero k f es h g good = at (f (λ i. false))
    where
      at : (b : Bool) → Wrote k (length es) (written es (cond b 1 0))
      at true = record { inside = omega arith; later = omega arith; good = good; walk = seen {i = 1} {k = 2 + length es} (omega arith) }
      at false = record { inside = omega arith; later = omega arith; good = good; walk = seen {i = 0} {k = 2 + length es} (omega arith) }
  wrote (suc m) k f es h g good =
      let f₁ = with_option k first f in
      let f₂ = with_option k (not first) f in
      let x = write first m (suc k) f₁ es in
      let y = write first m (suc k) f₂ x.entries in
      let gy = grown_trans (decide_grows first k x.at y.at y.entries) g in
      let gx = grown_trans (write_grows first m (suc k) f₂ x.entries) gy in
      let X = wrote m (suc k) f₁ es (omega arith) gx good in
      let Y = wrote m (suc k) f₂ x.entries (omega arith) gy X.good in
      settled k (length es) x y _ (omega arith) X Y (decided k x.at y.at y.entries g)

  in_whole : (es : List Entry) (p : ℕ) → Grown es final → p < 2 + length es → p < size whole
  in_whole es p g l =
      omega (arith, length-map final (λ (d : Entry). d.variable), ap length g.path, length-append es g.more)

  module _ (layered : Layered whole) where
    asks_value : (k x y p : ℕ) (f : Function) (σ : Setting) → Asks first whole k x y p → p < size whole
        → value_at whole x σ ≡ f (put k first σ) → value_at whole y σ ≡ f (put k (not first) σ) → value_at whole p σ ≡ f σ
    unfolding chosen
    asks_value k x y p f σ at m hx hy =
        let by_side : (b : Bool) → value_at whole (side whole b p) σ ≡ f (put k b σ) =
        either (λ b. value_at whole (side whole b p) σ ≡ f (put k b σ)) first (rw at.one hx) (rw at.other hy) in
        value_follows whole layered σ p at.after m
        ∙ ap (λ (v : ℕ). value_at whole (side whole (σ v) p) σ) at.variable
        ∙ by_side (σ k)
        ∙ ap f (put_itself k σ)

    settled_value : (k x y : ℕ) (es : List Entry) (w : Written) (f : Function) (σ : Setting) → Decided k x y es w → Grown w.entries final
        → value_at whole x σ ≡ f (put k first σ) → value_at whole y σ ≡ f (put k (not first) σ) → value_at whole w.at σ ≡ f σ
    settled_value k x y es _ f σ (same e) g hx hy =
        either (λ b. value_at whole x σ ≡ f (put k b σ)) first hx (ap (λ (i : ℕ). value_at whole i σ) e ∙ hy) (σ k) ∙ ap f (put_itself k σ)
    settled_value k x y es _ f σ (found {p} ne at m) g hx hy = asks_value k x y p f σ at (in_whole es p g m) hx hy
    settled_value k x y es _ f σ (added e ne at before) g hx hy =
        asks_value k x y (2 + length es) f σ at (in_whole (es ++ (e ∷ [])) (2 + length es) g (rw length-append (omega arith))) hx hy

    -- the value at the entry where the writing ended is the function
    pub wrote_value : (m k : ℕ) (f : Function) (es : List Entry) → Between k (k + m) f → Grown (write first m k f es).entries final
        → (σ : Setting) → value_at whole (write first m k f es).at σ ≡ f σ
    unfolding write
    wrote_value zero k f es on g σ = at (f (λ i. false)) refl
      where
        at : (b : Bool) → f (λ i. false) ≡ b → value_at whole (cond b 1 0) σ ≡ f σ
        at true e = value_1 whole layered σ (omega arith) ∙ sym e ∙ on (λ i. false) σ (λ i l m. absurd (omega arith))
        at false e = value_0 whole layered σ ∙ sym e ∙ on (λ i. false) σ (λ i l m. absurd (omega arith))
    wrote_value (suc m) k f es on g σ =
        let f₁ = with_option k first f in
        let f₂ = with_option k (not first) f in
        let x = write first m (suc k) f₁ es in
        let y = write first m (suc k) f₂ x.entries in
        let gy = grown_trans (decide_grows first k x.at y.at y.entries) g in
        let gx = grown_trans (write_grows first m (suc k) f₂ x.entries) gy in
        settled_value k x.at y.at y.entries _ f σ (decided k x.at y.at y.entries g) g
        (wrote_value m (suc k) f₁ es (between_put k (k + suc m) (suc k + m) first f on (omega arith)) gx σ)
        (wrote_value m (suc k) f₂ x.entries (between_put k (k + suc m) (suc k + m) (not first) f on (omega arith)) gy σ)
