-- Going down from the roots of two sets whose entries have their numbers: the entries' numbers stay different, the setting so far
-- leads to them, and no setting at which the sets differ was passed by.
use Rattle.std.proofs.Common.{◌≡◌, ℕ, zero, suc, ◌+◌, ◌<◌, ◌≤◌, Bool, true, false, cond, not, eqb, ltb, ◌≢◌, List, length, get_or, set, sym, refl, ap, ◌∙◌, inl, inr, arith, length-set, get_or-set_other, get_or-set_same, ltb-false, ltb-true, eq-eqb, eqb-true}
use borrow.Author.Tests.{eqb-false}
use Rattle.bdd.specs.Array.{Entry, Runs, var_of, low_link_of, high_link_of, size, options, root}
use Rattle.bdd.specs.Value.{Setting, chosen, value_at, value}
use Rattle.bdd.proofs.Ordered.{Layered, ordered_open}
use Rattle.bdd.proofs.Following.{side, side_back, side_variable, side_terminal, value_0, value_1, value_follows}
use Rattle.bdd.proofs.Logic.{le_or_lt}
use Rattle.chains.proofs.Zeros.{getD_zeros}
use Rattle.compare.specs.Told.{setting_of, Parted}
use Rattle.compare.specs.Numbers.{number_at, Numbers}
use Rattle.compare.specs.Parting.{asks, Steppable, Steps, off, on, Apart, AllOff}
use Rattle.compare.proofs.Numbering.{number_terminal}

-- where entry i leads at option v on a side
abbrev leads_on : Runs → Bool → ℕ → ℕ → ℕ
leads_on a t v i = cond (eqb (var_of a i) v) (side a t i) i

-- the smaller variable is one of the two, and at most either
asks_left : (x y : ℕ) → cond (ltb x y) x y ≤ x
asks_left x y = at (ltb x y) refl
  where
    at : (t : Bool) → ltb x y ≡ t → cond t x y ≤ x
    at true e = omega arith
    at false e = ltb-false x y e

asks_right : (x y : ℕ) → cond (ltb x y) x y ≤ y
asks_right x y = at (ltb x y) refl
  where
    at : (t : Bool) → ltb x y ≡ t → cond t x y ≤ y
    at true e = omega (arith, ltb-true x y e)
    at false e = omega arith

module _ (a : Runs) (layered : Layered a) where
  -- only the terminals ask no option
  variable_1 : 1 < size a → var_of a 1 ≡ options a
  variable_1 l = ap (λ (e : Entry). e.variable) (layered.entry_1 l)

  inner_asks : (i : ℕ) → i < size a → var_of a i < options a → 2 ≤ i
  inner_asks zero l h = absurd (omega arith)
  inner_asks (suc zero) l h = absurd (omega (arith, variable_1 l))
  inner_asks (suc (suc i)) l h = omega arith

  asks_most : (i : ℕ) → i < size a → var_of a i ≤ options a
  asks_most zero l = omega arith
  asks_most (suc zero) l = omega (arith, variable_1 l)
  asks_most (suc (suc i)) l = omega (arith, (layered.entry_on (suc (suc i)) (omega arith) l).variable)

  terminal : (i : ℕ) → i < size a → options a ≤ var_of a i → i < 2
  terminal zero l h = omega arith
  terminal (suc zero) l h = omega arith
  terminal (suc (suc i)) l h = absurd (omega (arith, (layered.entry_on (suc (suc i)) (omega arith) l).variable))

  side_within : (t : Bool) (i : ℕ) → i < size a → side a t i < size a
  side_within t i l =
      elim (le_or_lt i 1) [
        | inl k ↦ rw (side_terminal a layered t i k l) l
        | inr k ↦ omega (arith, side_back a t i (layered.entry_on i k l))
      ]

  module _ (v i : ℕ) (l : i < size a) where
    -- it stays in the set
    pub leads_within : (t : Bool) → leads_on a t v i < size a
    leads_within t = at (eqb (var_of a i) v)
      where
        at : (b : Bool) → cond b (side a t i) i < size a
        at true = side_within t i l
        at false = l

    module _ (least : v ≤ var_of a i) (short : v < options a) where
      -- and asks later; where it moves, it moves back
      leads_later : (t : Bool) → v < var_of a (leads_on a t v i)
      leads_later t = at (eqb (var_of a i) v) refl
        where
          at : (b : Bool) → eqb (var_of a i) v ≡ b → v < var_of a (cond b (side a t i) i)
          at true e =
              let w : var_of a i ≡ v = eqb-true (var_of a i) v e in
              omega (arith, side_variable a t i (layered.entry_on i (inner_asks i l (omega arith)) l))
          at false e = omega (arith, eqb-false (var_of a i) v e)

      leads_moves : var_of a i ≡ v → (t : Bool) → leads_on a t v i < i
      leads_moves z t = rw (eq-eqb _ _ z) (side_back a t i (layered.entry_on i (inner_asks i l (omega arith)) l))

      leads_back : (t : Bool) → leads_on a t v i ≤ i
      leads_back t = at (eqb (var_of a i) v) refl
        where
          at : (b : Bool) → eqb (var_of a i) v ≡ b → cond b (side a t i) i ≤ i
          at true e =
              let w : var_of a i ≡ v = eqb-true (var_of a i) v e in
              omega (arith, side_back a t i (layered.entry_on i (inner_asks i l (omega arith)) l))
          at false e = omega arith

      leads_value : (σ : Setting) (t : Bool) → σ v ≡ t → value_at a i σ ≡ value_at a (leads_on a t v i) σ
      unfolding chosen
      leads_value σ t z = at (eqb (var_of a i) v) refl
        where
          at : (b : Bool) → eqb (var_of a i) v ≡ b → value_at a i σ ≡ value_at a (cond b (side a t i) i) σ
          at true e =
              let w : var_of a i ≡ v = eqb-true _ _ e in
              value_follows a layered σ i (inner_asks i l (omega arith)) l
              ∙ ap (λ (x : ℕ). value_at a (side a (σ x) i) σ) w
              ∙ ap (λ (b : Bool). value_at a (side a b i) σ) z
          at false e = refl

-- what a step reads
module _ {a b : Runs} {p q : ℕ} {room s : List ℕ} (w : Steppable a b p q room s) where
  pub left_reads : (p < size a) × (p < length a.low) × (p < length a.high)
  left_reads =
      let o = (ordered_open a w.left_set).layered in
      (w.left, omega (arith, w.left, o.low_length), omega (arith, w.left, o.high_length))

  pub right_reads : (q < size b) × (q < length b.low) × (q < length b.high)
  right_reads =
      let o = (ordered_open b w.right_set).layered in
      (w.right, omega (arith, w.right, o.low_length), omega (arith, w.right, o.high_length))

  pub left_within : (v : ℕ) → 0 + leads_on a false v p < length room
  left_within v = omega (arith, leads_within a (ordered_open a w.left_set).layered v p w.left false, w.long)

  pub right_within : (v : ℕ) → size a + leads_on b false v q < length room
  right_within v = omega (arith, leads_within b (ordered_open b w.right_set).layered v q w.right false, w.long)

-- a step from what its calls answer
module _ (a b : Runs) (p q : ℕ) (room s : List ℕ) (v l r x y : ℕ) (is : v ≡ asks a.variable b.variable p q)
    (left : l ≡ leads_on a false v p) (right : r ≡ leads_on b false v q) (left_number : x ≡ number_at room 0 l) (right_number : y ≡ number_at room (size a) r) where
  pub steps_off : x ≢ y → Steps a b p q room s l r s
  steps_off ne =
      rw (left, right)
      (off v is (λ e. ne (left_number ∙ ap (number_at room 0) left ∙ e ∙ sym (right_number ∙ ap (number_at room (size a)) right))))

  pub steps_on : x ≡ y → (i j : ℕ) → i ≡ leads_on a true v p → j ≡ leads_on b true v q → Steps a b p q room s i j (set s v 1)
  steps_on e i j d f =
      rw (d, f) (on v is (sym (left_number ∙ ap (number_at room 0) left) ∙ e ∙ right_number ∙ ap (number_at room (size a)) right))

-- the numbers of two entries do not become the same on both sides of the option that is asked
never_both : {a b : Runs} {f g : ℕ → ℕ} → Layered a → Layered b → Numbers a b f g → options a ≡ options b
    → (p q v : ℕ) → p < size a → q < size b → f p ≢ g q → v ≡ asks a.variable b.variable p q → v < options a
    → f (leads_on a false v p) ≡ g (leads_on b false v q) → f (leads_on a true v p) ≡ g (leads_on b true v q) → ⊥
never_both {a} {b} {f} {g} left right n same p q v pl ql ne is short = at (eqb (var_of a p) v) (eqb (var_of b q) v) refl refl
  where
    inner_left : var_of a p ≡ v → 2 ≤ p
    inner_left e = inner_asks a left p pl (omega arith)

    inner_right : var_of b q ≡ v → 2 ≤ q
    inner_right e = inner_asks b right q ql (omega arith)

    at : (s t : Bool) → eqb (var_of a p) v ≡ s → eqb (var_of b q) v ≡ t
        → f (cond s (low_link_of a p) p) ≡ g (cond t (low_link_of b q) q) → f (cond s (high_link_of a p) p) ≡ g (cond t (high_link_of b q) q) → ⊥
    at true true x y lo hi =
        let e : var_of a p ≡ v = eqb-true _ _ x in
        let d : var_of b q ≡ v = eqb-true _ _ y in
        ne (n.both p q (inner_left e) pl (inner_right d) ql (e ∙ sym d) lo hi)
    at true false x y lo hi = ne (n.left p (inner_left (eqb-true _ _ x)) pl (lo ∙ sym hi) ∙ lo)
    at false true x y lo hi = ne (lo ∙ sym (n.right q (inner_right (eqb-true _ _ y)) ql (sym lo ∙ hi)))
    at false false x y lo hi = one (ltb (var_of a p) (var_of b q)) refl
      where
        one : (t : Bool) → ltb (var_of a p) (var_of b q) ≡ t → ⊥
        one true z = eqb-false _ _ x (sym (is ∙ ap (λ (t : Bool). cond t (var_of a p) (var_of b q)) z))
        one false z = eqb-false _ _ y (sym (is ∙ ap (λ (t : Bool). cond t (var_of a p) (var_of b q)) z))

-- the state of the walk
pub record Walking (a b : Runs) (n : ℕ) (room : List ℕ) (p q : ℕ) (s : List ℕ) : Type 0 where
  pub sets : Apart a b n room
  pub left : p < size a
  pub right : q < size b
  pub differ : number_at room 0 p ≢ number_at room (size a) q
  pub long : n ≤ length s
  pub plain : (i : ℕ) → get_or s i 0 ≤ 1
  pub later : (i : ℕ) → asks a.variable b.variable p q ≤ i → get_or s i 0 ≡ 0
  pub left_same : (σ : Setting) → ((i : ℕ) → i < asks a.variable b.variable p q → σ i ≡ setting_of s i) → value a σ ≡ value_at a p σ
  pub right_same : (σ : Setting) → ((i : ℕ) → i < asks a.variable b.variable p q → σ i ≡ setting_of s i) → value b σ ≡ value_at b q σ
  pub first : (σ : Setting) → value a σ ≢ value b σ → (i : ℕ) → get_or s i 0 ≡ 1
      → ((j : ℕ) → j < i → σ j ≡ setting_of s j) → σ i ≡ true

-- ---- the start

pub walking_none : {a b : Runs} {n : ℕ} {room s : List ℕ} → Apart a b n room → AllOff s n → Walking a b n room (root a) (root b) s
unfolding value
walking_none {a} {b} {n} {room} {s} h z =
    let none : (i : ℕ) → get_or s i 0 ≡ 0 = λ i. ap (λ (xs : List ℕ). get_or xs i 0) z.zero ∙ getD_zeros (length s) i in
    record {
      sets = h;
      left = omega (arith, (ordered_open a h.comparable.left).size_least);
      right = omega (arith, (ordered_open b h.comparable.right).size_least);
      differ = h.differ;
      long = z.long;
      plain = λ i. omega (arith, none i);
      later = λ i l. none i;
      left_same = λ σ h. refl;
      right_same = λ σ h. refl;
      first = λ σ ne i e h. absurd (omega (arith, none i));
    }

-- ---- a turn

asks_more : (v x y : ℕ) → v < x → v < y → v < cond (ltb x y) x y
asks_more v x y a b = at (ltb x y)
  where
    at : (t : Bool) → v < cond t x y
    at true = a
    at false = b

setting_other : (s : List ℕ) (v x i : ℕ) → i ≢ v → setting_of (set s v x) i ≡ setting_of s i
unfolding setting_of
setting_other s v x i ne = ap (λ (y : ℕ). eqb y 1) (get_or-set_other s v i x 0 ne)

setting_put : (s : List ℕ) (v : ℕ) → v < length s → setting_of (set s v 1) v ≡ true
unfolding setting_of
setting_put s v l = ap (λ (y : ℕ). eqb y 1) (get_or-set_same s v 1 0 l)

setting_zero : (s : List ℕ) (v : ℕ) → get_or s v 0 ≡ 0 → setting_of s v ≡ false
unfolding setting_of
setting_zero s v e = ap (λ (y : ℕ). eqb y 1) e

module _ {a b : Runs} {n : ℕ} {room : List ℕ} {p q : ℕ} {s : List ℕ} (w : Walking a b n room p q s) (v : ℕ)
    (is : v ≡ asks a.variable b.variable p q) (short : v < n) where
  left_set : Layered a
  left_set = (ordered_open a w.sets.comparable.left).layered

  right_set : Layered b
  right_set = (ordered_open b w.sets.comparable.right).layered

  short_left : v < options a
  short_left = omega (arith, w.sets.comparable.left_options)

  short_right : v < options b
  short_right = omega (arith, w.sets.comparable.right_options)

  p_least : v ≤ var_of a p
  p_least = omega (arith, asks_left (var_of a p) (var_of b q))

  q_least : v ≤ var_of b q
  q_least = omega (arith, asks_right (var_of a p) (var_of b q))

  left_value : (σ : Setting) (t : Bool) → σ v ≡ t → value_at a p σ ≡ value_at a (leads_on a t v p) σ
  left_value = leads_value a left_set v p w.left p_least short_left

  right_value : (σ : Setting) (t : Bool) → σ v ≡ t → value_at b q σ ≡ value_at b (leads_on b t v q) σ
  right_value = leads_value b right_set v q w.right q_least short_right

  more : (t : Bool) → v < asks a.variable b.variable (leads_on a t v p) (leads_on b t v q)
  more t =
      asks_more v _ _ (leads_later a left_set v p w.left p_least short_left t) (leads_later b right_set v q w.right q_least short_right t)

  -- a turn goes down
  turn_less : (t : Bool) → leads_on a t v p + leads_on b t v q < p + q
  turn_less t = at (ltb (var_of a p) (var_of b q)) refl
    where
      at : (b' : Bool) → ltb (var_of a p) (var_of b q) ≡ b' → leads_on a t v p + leads_on b t v q < p + q
      at true z =
          let e : var_of a p ≡ v = sym (is ∙ ap (λ (x : Bool). cond x (var_of a p) (var_of b q)) z) in
          omega (arith, leads_moves a left_set v p w.left p_least short_left e t, leads_back b right_set v q w.right q_least short_right t)
      at false z =
          let e : var_of b q ≡ v = sym (is ∙ ap (λ (x : Bool). cond x (var_of a p) (var_of b q)) z) in
          omega (arith, leads_moves b right_set v q w.right q_least short_right e t, leads_back a left_set v p w.left p_least short_left t)

  v_off : get_or s v 0 ≡ 0
  v_off = w.later v (omega arith)

  -- the two entries after the option, and how the numbers stand there
  abbrev Differs : Bool → Type 0
  Differs t = number_at room 0 (leads_on a t v p) ≢ number_at room (size a) (leads_on b t v q)

  turn_off : Differs false → Walking a b n room (leads_on a false v p) (leads_on b false v q) s
  turn_off ne =
      let m = more false in
      let as-off : (σ : Setting) → ((i : ℕ) → i < asks a.variable b.variable (leads_on a false v p) (leads_on b false v q) → σ i ≡ setting_of s i) → σ v ≡ false =
      λ σ h. h v m ∙ setting_zero s v v_off in
      record {
        sets = w.sets;
        left = leads_within a left_set v p w.left false;
        right = leads_within b right_set v q w.right false;
        differ = ne;
        long = w.long;
        plain = w.plain;
        later = λ i l. w.later i (omega arith);
        left_same = λ σ h. w.left_same σ (λ i l. h i (omega arith)) ∙ left_value σ false (as-off σ h);
        right_same = λ σ h. w.right_same σ (λ i l. h i (omega arith)) ∙ right_value σ false (as-off σ h);
        first = w.first;
      }

  module _ (alike : number_at room 0 (leads_on a false v p) ≡ number_at room (size a) (leads_on b false v q)) where
    on_length : v < length s
    on_length = omega (arith, w.long)

    on_plain : (i : ℕ) → get_or (set s v 1) i 0 ≤ 1
    on_plain i = at (eqb i v) refl
      where
        at : (t : Bool) → eqb i v ≡ t → get_or (set s v 1) i 0 ≤ 1
        at true e = rw (eqb-true i v e) (omega (arith, get_or-set_same s v 1 0 on_length))
        at false e = omega (arith, get_or-set_other s v i 1 0 (eqb-false i v e), w.plain i)

    -- with the option off the two still agree, so a setting at which they differ has it on
    on_first : (σ : Setting) → value a σ ≢ value b σ → ((j : ℕ) → j < v → σ j ≡ setting_of s j) → σ v ≡ true
    on_first σ ne h = at (σ v) refl
      where
        at : (t : Bool) → σ v ≡ t → σ v ≡ true
        at true e = e
        at false e =
            absurd
            (ne
            (w.left_same σ (λ i l. h i (omega arith))
            ∙ left_value σ false e
            ∙ w.sets.numbers.alike _ _ (leads_within a left_set v p w.left false) (leads_within b right_set v q w.right false) alike σ
            ∙ sym (right_value σ false e)
            ∙ sym (w.right_same σ (λ i l. h i (omega arith)))))

    first_on : (σ : Setting) → value a σ ≢ value b σ → (i : ℕ) → get_or (set s v 1) i 0 ≡ 1
        → ((j : ℕ) → j < i → σ j ≡ setting_of (set s v 1) j) → σ i ≡ true
    first_on σ ne i e h = at (eqb i v) (ltb i v) refl refl
      where
        at : (t b : Bool) → eqb i v ≡ t → ltb i v ≡ b → σ i ≡ true
        at true b z y =
            let same : i ≡ v = eqb-true i v z in
            ap σ same ∙ on_first σ ne (λ j l. h j (omega arith) ∙ setting_other s v 1 j (omega arith))
        at false true z y =
            let l : i < v = ltb-true i v y in
            w.first σ ne i (sym (get_or-set_other s v i 1 0 (eqb-false i v z)) ∙ e)
            (λ j m. h j m ∙ setting_other s v 1 j (omega arith))
        at false false z y =
            absurd (omega (arith, w.later i (omega (arith, ltb-false i v y)), get_or-set_other s v i 1 0 (eqb-false i v z)))

    turn_on : Walking a b n room (leads_on a true v p) (leads_on b true v q) (set s v 1)
    turn_on =
        let m = more true in
        let c = w.sets.comparable in
        let as-on : (σ : Setting) → ((i : ℕ) → i < asks a.variable b.variable (leads_on a true v p) (leads_on b true v q) → σ i ≡ setting_of (set s v 1) i) → σ v ≡ true =
        λ σ h. h v m ∙ setting_put s v on_length in
        let before : (σ : Setting) → ((i : ℕ) → i < asks a.variable b.variable (leads_on a true v p) (leads_on b true v q) → σ i ≡ setting_of (set s v 1) i)
        → (i : ℕ) → i < asks a.variable b.variable p q → σ i ≡ setting_of s i =
        λ σ h i l. h i (omega arith) ∙ setting_other s v 1 i (omega arith) in
        record {
          sets = w.sets;
          left = leads_within a left_set v p w.left true;
          right = leads_within b right_set v q w.right true;
          differ = λ e.
              never_both left_set right_set w.sets.numbers (sym c.left_options ∙ c.right_options) p q v w.left w.right w.differ is short_left alike e;
          long = omega (arith, w.long, length-set s v 1);
          plain = on_plain;
          later = λ i l. get_or-set_other s v i 1 0 (omega arith) ∙ w.later i (omega arith);
          left_same = λ σ h. w.left_same σ (before σ h) ∙ left_value σ true (as-on σ h);
          right_same = λ σ h. w.right_same σ (before σ h) ∙ right_value σ true (as-on σ h);
          first = first_on;
        }

module _ {a b : Runs} {n : ℕ} {room : List ℕ} {p q : ℕ} {s : List ℕ} (w : Walking a b n room p q s) where
  module _ (short : asks a.variable b.variable p q < n) where
    pub walking_steppable : Steppable a b p q room s
    walking_steppable =
        record {
          left_set = w.sets.comparable.left;
          right_set = w.sets.comparable.right;
          left = w.left;
          right = w.right;
          long = w.sets.long;
          short = omega (arith, w.long);
        }

    pub walking_more : {x y : ℕ} {t : List ℕ} → Steps a b p q room s x y t → Walking a b n room x y t
    walking_more (off v is ne) = turn_off w v is (omega arith) ne
    walking_more (on v is e) = turn_on w v is (omega arith) e

    pub walking_less : {x y : ℕ} {t : List ℕ} → Steps a b p q room s x y t → x + y < p + q
    walking_less (off v is ne) = turn_less w v is (omega arith) false
    walking_less (on v is e) = turn_less w v is (omega arith) true

  -- ---- the end: both are terminals
  pub walking_all : n ≤ asks a.variable b.variable p q → Parted a b s (eqb p 1)
  walking_all far =
      let c = w.sets.comparable in
      let x = (ordered_open a c.left).layered in
      let y = (ordered_open b c.right).layered in
      let some = asks_left (var_of a p) (var_of b q) in
      let others = asks_right (var_of a p) (var_of b q) in
      let pt : p < 2 = terminal a x p w.left (omega (arith, c.left_options)) in
      let qt : q < 2 = terminal b y q w.right (omega (arith, c.right_options)) in
      let ne : p ≢ q = λ e. w.differ (number_terminal room 0 p pt ∙ e ∙ sym (number_terminal room (size a) q qt)) in
      let ends = at x y p q w.left w.right pt qt ne in
      record {
        plain = w.plain;
        off = λ i l. w.later i (omega (arith, asks_most a x p w.left));
        left_value = w.left_same (setting_of s) (λ i l. refl) ∙ ends.0;
        right_value = w.right_same (setting_of s) (λ i l. refl) ∙ ends.1;
        first = w.first;
      }
    where
      at : Layered a → Layered b → (p q : ℕ) → p < size a → q < size b → p < 2 → q < 2 → p ≢ q
          → (value_at a p (setting_of s) ≡ eqb p 1) × (value_at b q (setting_of s) ≡ not (eqb p 1))
      at x y zero zero k l d e ne = absurd (ne refl)
      at x y zero (suc zero) k l d e ne = (value_0 a x (setting_of s), value_1 b y (setting_of s) l)
      at x y (suc zero) zero k l d e ne = (value_1 a x (setting_of s) k, value_0 b y (setting_of s))
      at x y (suc zero) (suc zero) k l d e ne = absurd (ne refl)
      at x y (suc (suc p)) q k l d e ne = absurd (omega arith)
      at x y zero (suc (suc q)) k l d e ne = absurd (omega arith)
      at x y (suc zero) (suc (suc q)) k l d e ne = absurd (omega arith)
