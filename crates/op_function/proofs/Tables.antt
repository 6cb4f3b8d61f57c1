-- A good table as facts with names, both ways: of k sets, and of two sets with its answers as a call reads them.
use Prim.Native.Nat.{ℕ, zero, suc, ◌+◌, ◌*◌, ◌^◌, ◌<◌, ◌≤◌}
use mathlib.Core.Path.{◌≡◌, refl, sym, ◌∙◌, ap}
use mathlib.Core.Logic.{◌⊎◌, inl, inr, ⊎_elim}
use mathlib.Core.Bool.{Bool, true, false, false≢true, not, ◌&&◌, ◌||◌}
use mathlib.Core.List.{List, [], ◌∷◌}
use native.Mathlib.Omega.{arith}
use lib.ListN.{length, get_or}
use lib.Dec.{eqb, ltb}
use borrow.Author.Tests.{eqb-true, eq-eqb, ltb-true, lt-ltb}
use Rattle.bdd.specs.Table.{answer, digits, all_of, known, made_known, sound, good, inputs}
use Rattle.bdd.proofs.Logic.{and_left, and_right, and_both}
use Rattle.op_function.specs.Checked.{checked_table}
use Rattle.op_function.proofs.Inputs.{Each, each_map, each_open, each_close, Made, here, there, made_open, made_close}

-- the answer at these inputs is below 3, known where they are, and stands where one more of them is known
pub record Sound (t : List ℕ) (xs : List ℕ) : Type 0 where
  pub small : answer t xs < 3
  pub decided : all_of known xs ≡ true → answer t xs < 2
  pub stands : answer t xs < 2 → (ys : List ℕ) → Made xs ys → answer t ys ≡ answer t xs

-- a good table of k sets
pub record GoodOf (k : ℕ) (t : List ℕ) : Type 0 where
  pub size : length t ≡ 3 ^ k
  pub sound : Each k (Sound t)

pub follows : (a b : Bool) → (not a || b) ≡ true → a ≡ true → b ≡ true
follows true b e p = e
follows false b e p = absurd (false≢true p)

pub follows_of : (a b : Bool) → (a ≡ true → b ≡ true) → (not a || b) ≡ true
follows_of true b h = h refl
follows_of false b h = refl

module _ (t xs : List ℕ) where
  is_small : Bool
  is_small = ltb (answer t xs) 3

  is_decided : Bool
  is_decided = not (all_of known xs) || known (answer t xs)

  stays : Bool
  stays = not (known (answer t xs)) || all_of (λ ys. eqb (answer t ys) (answer t xs)) (made_known xs)

  sound_open : sound t xs ≡ true → Sound t xs
  unfolding sound known is_small is_decided stays
  sound_open e =
      let two = and_left (is_small && is_decided) stays e in
      record {
        small = ltb-true _ _ (and_left is_small is_decided two);
        decided = λ k. ltb-true _ _ (follows _ _ (and_right is_small is_decided two) k);
        stands = λ l ys m.
            eqb-true _ _ (made_open _ (follows _ _ (and_right (is_small && is_decided) stays e) (lt-ltb _ _ l)) m);
      }

  sound_close : Sound t xs → sound t xs ≡ true
  unfolding sound known is_small is_decided stays
  sound_close h =
      and_both (is_small && is_decided) stays
      (and_both is_small is_decided (lt-ltb _ _ h.small) (follows_of _ _ (λ k. lt-ltb _ _ (h.decided k))))
      (follows_of _ _ (λ k. made_close _ xs (λ ys m. eq-eqb _ _ (h.stands (ltb-true _ _ k) ys m))))

pub good_of_open : (k : ℕ) (t : List ℕ) → good k t ≡ true → GoodOf k t
unfolding good
good_of_open k t e =
    record {
      size = eqb-true _ _ (and_left (eqb (length t) (3 ^ k)) (all_of (sound t) (inputs k)) e);
      sound = each_map k (sound_open t) (each_open k (sound t) (and_right (eqb (length t) (3 ^ k)) (all_of (sound t) (inputs k)) e));
    }

pub good_of_close : (k : ℕ) (t : List ℕ) → GoodOf k t → good k t ≡ true
unfolding good
good_of_close k t g = and_both _ _ (eq-eqb _ _ g.size) (each_close k (sound t) (each_map k (sound_close t) g.sound))

-- the answer at inputs x, y, as a call reads it
abbrev pub at : List ℕ → ℕ → ℕ → ℕ
at t x y = get_or t (3 * x + y) 0

-- input u is what x was, or x was unknown and is now known as u
abbrev pub Fills : ℕ → ℕ → Type 0
Fills x u = (x ≡ u) ⊎ ((x ≡ 2) × (u < 2))

-- a good table of two sets
pub record GoodTable (t : List ℕ) : Type 0 where
  pub size : length t ≡ 9
  pub small : (x y : ℕ) → x ≤ 2 → y ≤ 2 → at t x y < 3
  pub decided : (x y : ℕ) → x < 2 → y < 2 → at t x y < 2
  pub stands : (x y u v : ℕ) → x ≤ 2 → y ≤ 2 → Fills x u → Fills y v → at t x y < 2 → at t u v ≡ at t x y

pub getD_within : (t : List ℕ) (i d e : ℕ) → i < length t → get_or t i d ≡ get_or t i e
getD_within [] i d e h = absurd (omega arith)
getD_within (x ∷ t) zero d e h = refl
getD_within (x ∷ t) (suc i) d e h = getD_within t i d e (omega arith)

-- the definition's answer is what stands at place 3x+y
pub answer_at : (t : List ℕ) (x y : ℕ) → length t ≡ 9 → x ≤ 2 → y ≤ 2 → answer t (x ∷ y ∷ []) ≡ at t x y
unfolding answer digits
answer_at t x y s hx hy =
    let p : 3 * (3 * 0 + x) + y ≡ 3 * x + y = omega arith in
    getD_within t (3 * (3 * 0 + x) + y) 3 0 (omega arith) ∙ ap (λ (i : ℕ). get_or t i 0) p

fills_most : {x u : ℕ} → x ≤ 2 → Fills x u → u ≤ 2
fills_most l f = ⊎_elim (λ p. omega arith) (λ p. omega arith) f

at_filled : (f : ℕ → ℕ) {x u : ℕ} → Fills x u → (u < 2 → f 2 < 2 → f u ≡ f 2) → f x < 2 → f u ≡ f x
at_filled f {x} {u} fills k h =
    ⊎_elim (λ p. ap f (sym p)) (λ p. let e : f x ≡ f 2 = ap f p.0 in k p.1 (omega arith) ∙ sym e) fills

-- what stands when either unknown is made known stands when both are
pub stands_both : (t : List ℕ) → ((y u : ℕ) → y ≤ 2 → u < 2 → at t 2 y < 2 → at t u y ≡ at t 2 y)
    → ((x v : ℕ) → x ≤ 2 → v < 2 → at t x 2 < 2 → at t x v ≡ at t x 2) → (x y u v : ℕ) → x ≤ 2 → y ≤ 2 → Fills x u → Fills y v
    → at t x y < 2 → at t u v ≡ at t x y
stands_both t l r x y u v hx hy fx fy h =
    let left : at t u y ≡ at t x y = at_filled (λ z. at t z y) fx (l y u hy) h in
    at_filled (λ z. at t u z) fy (r u v (fills_most hx fx)) (omega arith) ∙ left

module _ (t : List ℕ) (g : GoodOf 2 t) where
  moved : (x y u v : ℕ) → x ≤ 2 → y ≤ 2 → u ≤ 2 → v ≤ 2 → Made (x ∷ y ∷ []) (u ∷ v ∷ []) → at t x y < 2 → at t u v ≡ at t x y
  moved x y u v hx hy hu hv m h =
      let a = answer_at t x y g.size hx hy in
      sym (answer_at t u v g.size hu hv) ∙ (g.sound x hx y hy).stands (omega arith) (u ∷ v ∷ []) m ∙ a

  two_open : GoodTable t
  unfolding all_of known
  two_open =
      record {
        size = g.size;
        small = λ x y hx hy. omega (arith, (g.sound x hx y hy).small, answer_at t x y g.size hx hy);
        decided = λ x y hx hy.
            omega (
              arith,
              (g.sound x (omega arith) y (omega arith)).decided (and_both _ _ (lt-ltb _ _ hx) (and_both _ _ (lt-ltb _ _ hy) refl)),
              answer_at t x y g.size (omega arith) (omega arith),
            );
        stands =
            stands_both t (λ y u hy l. moved 2 y u y (omega arith) hy (omega arith) hy (here refl l))
            (λ x v hx l. moved x 2 x v hx (omega arith) hx (omega arith) (there (here refl l)));
      }

module _ (t : List ℕ) (g : GoodTable t) where
  stays_at : {x y : ℕ} {ys : List ℕ} → x ≤ 2 → y ≤ 2 → at t x y < 2 → Made (x ∷ y ∷ []) ys → answer t ys ≡ at t x y
  stays_at hx hy h (here p l) =
      answer_at t _ _ g.size (omega arith) hy ∙ g.stands _ _ _ _ hx hy (inr (p, l)) (inl refl) h
  stays_at hx hy h (there (here p l)) =
      answer_at t _ _ g.size hx (omega arith) ∙ g.stands _ _ _ _ hx hy (inl refl) (inr (p, l)) h
  stays_at {y = y} hx hy h (there (there {ys = ys} x14)) = elim x14 [ ]

  two_close : GoodOf 2 t
  unfolding all_of known
  two_close =
      record {
        size = g.size;
        sound = λ x hx y hy.
            let a = answer_at t x y g.size hx hy in
            record {
              small = omega (arith, g.small x y hx hy);
              decided = λ k.
                  omega (
                    arith,
                    g.decided x y (ltb-true _ _ (and_left (ltb x 2) (ltb y 2 && true) k))
                        (ltb-true _ _ (and_left (ltb y 2) true (and_right (ltb x 2) (ltb y 2 && true) k))),
                  );
              stands = λ l ys m. stays_at hx hy (omega arith) m ∙ sym a;
            };
      }

pub good_open : (t : List ℕ) → good 2 t ≡ true → GoodTable t
good_open t e = two_open t (good_of_open 2 t e)

pub good_close : (t : List ℕ) → GoodTable t → good 2 t ≡ true
good_close t g = good_of_close 2 t (two_close t g)

-- what the check tells of a table
pub told_good : (t : List ℕ) → true ≡ checked_table t → GoodTable t
told_good t e = good_open t (sym e)

pub told_bad : (t : List ℕ) → false ≡ checked_table t → good 2 t ≡ false
told_bad t e = sym e
