-- A good table as the check sees it, both ways: nine answers, four of them known, and three rows and three columns
-- whose last answer stands.
use Prim.Native.Nat.{ℕ, ◌+◌, ◌*◌, ◌<◌, ◌≤◌}
use mathlib.Core.Path.{◌≡◌, refl, sym, ◌∙◌, ap}
use mathlib.Core.Logic.{inl, inr, ⊎_elim}
use mathlib.Core.Bool.{Bool, true, false, false≢true, not, ◌&&◌, ◌||◌}
use mathlib.Core.List.{List}
use native.Mathlib.Nat.{eq-or-lt_of_le}
use native.Mathlib.Omega.{arith}
use lib.ListN.{length, get_or}
use lib.Dec.{eqb, ltb}
use borrow.Author.Tests.{eqb-true, eq-eqb, ltb-true, lt-ltb}
use Rattle.bdd.specs.Table.{known, good}
use Rattle.bdd.proofs.Logic.{and_left, and_right, and_both, is_false, every_at, every_of}
use Rattle.op_function.specs.Checked.{known_answers, stands, line, all_lines}
use Rattle.op_function.proofs.Inputs.{below_2}
use Rattle.op_function.proofs.Tables.{GoodTable, Fills, at, follows, follows_of, stands_both, good_open, good_close}

pub record Line (off on unknown : ℕ) : Type 0 where
  pub small : unknown < 3
  pub off_stands : unknown < 2 → off ≡ unknown
  pub on_stands : unknown < 2 → on ≡ unknown

module _ (off on unknown : ℕ) where
  pub stands_open : stands off on unknown ≡ true → Line off on unknown
  unfolding stands known
  stands_open e =
      let both = eqb off unknown && eqb on unknown in
      let rest = and_right (ltb unknown 3) (not (ltb unknown 2) || both) e in
      record {
        small = ltb-true _ _ (and_left (ltb unknown 3) (not (ltb unknown 2) || both) e);
        off_stands = λ l. eqb-true _ _ (and_left (eqb off unknown) (eqb on unknown) (follows _ both rest (lt-ltb _ _ l)));
        on_stands = λ l. eqb-true _ _ (and_right (eqb off unknown) (eqb on unknown) (follows _ both rest (lt-ltb _ _ l)));
      }

  stands_close : Line off on unknown → stands off on unknown ≡ true
  unfolding stands known
  stands_close h =
      and_both _ _ (lt-ltb _ _ h.small)
      (follows_of _ _ (λ k.
      and_both _ _ (eq-eqb _ _ (h.off_stands (ltb-true _ _ k))) (eq-eqb _ _ (h.on_stands (ltb-true _ _ k)))))

module _ (t : List ℕ) where
  place : (i x y : ℕ) → i ≡ 3 * x + y → get_or t i 0 ≡ at t x y
  place i x y e = ap (λ (j : ℕ). get_or t j 0) e

  row : (k : ℕ) → line t (3 * k) 1 ≡ stands (at t k 0) (at t k 1) (at t k 2)
  unfolding line
  row k = cc (place (3 * k) k 0 (omega arith))

  column : (k : ℕ) → line t k 3 ≡ stands (at t 0 k) (at t 1 k) (at t 2 k)
  unfolding line
  column k = cc (place k 0 k (omega arith), place (k + 3) 1 k (omega arith), place (k + 6) 2 k (omega arith))

  known_open : known_answers t ≡ true → (x y : ℕ) → x < 2 → y < 2 → at t x y < 2
  unfolding known_answers known
  known_open e x y hx hy = ltb-true _ _ (every_at 2 _ (every_at 2 _ e x hx) y hy)

  pub known_close : GoodTable t → known_answers t ≡ true
  unfolding known_answers known
  known_close g = every_of 2 _ (λ x hx. every_of 2 _ (λ y hy. lt-ltb _ _ (g.decided x y hx hy)))

  -- the answer at x, y, and the two answers with an unknown of x, y made known
  line_of : GoodTable t → (x y u v w z : ℕ) → x ≤ 2 → y ≤ 2 → Fills x u → Fills y v → Fills x w → Fills y z
      → Line (at t u v) (at t w z) (at t x y)
  line_of g x y u v w z hx hy fu fv fw fz =
      record {
        small = g.small x y hx hy;
        off_stands = g.stands x y u v hx hy fu fv;
        on_stands = g.stands x y w z hx hy fw fz;
      }

  pub row_close : GoodTable t → (k : ℕ) → k < 3 → line t (3 * k) 1 ≡ true
  row_close g k l =
      row k
      ∙ stands_close _ _ _
      (line_of g k 2 k 0 k 1 (omega arith) (omega arith) (inl refl) (inr (refl, omega arith)) (inl refl) (inr (refl, omega arith)))

  pub column_close : GoodTable t → (k : ℕ) → k < 3 → line t k 3 ≡ true
  column_close g k l =
      column k
      ∙ stands_close _ _ _
      (line_of g 2 k 0 k 1 k (omega arith) (omega arith) (inr (refl, omega arith)) (inl refl) (inr (refl, omega arith)) (inl refl))

  pub tested : length t ≡ 9 → known_answers t ≡ true
      → ((k : ℕ) → k < 3 → (line t (3 * k) 1 ≡ true) × (line t k 3 ≡ true)) → GoodTable t
  tested size known-t lines =
      record {
        size = size;
        small = λ x y hx hy.
            ⊎_elim (λ p. omega (arith, ap (λ (z : ℕ). at t z y) p, (columns y hy).small))
            (λ l.
            ⊎_elim (λ p. omega (arith, ap (λ (z : ℕ). at t x z) p, (rows x hx).small))
            (λ m. omega (arith, known_open known-t x y l m)) (eq-or-lt_of_le hy))
            (eq-or-lt_of_le hx);
        decided = known_open known-t;
        stands =
            stands_both t
            (λ y u hy l h. below_2 (λ z. at t z y ≡ at t 2 y) ((columns y hy).off_stands h) ((columns y hy).on_stands h) u l)
            (λ x v hx l h. below_2 (λ z. at t x z ≡ at t x 2) ((rows x hx).off_stands h) ((rows x hx).on_stands h) v l);
      }
    where
      rows : (k : ℕ) → k ≤ 2 → Line (at t k 0) (at t k 1) (at t k 2)
      rows k l = stands_open _ _ _ (sym (row k) ∙ (lines k (omega arith)).0)

      columns : (k : ℕ) → k ≤ 2 → Line (at t 0 k) (at t 1 k) (at t 2 k)
      columns k l = stands_open _ _ _ (sym (column k) ∙ (lines k (omega arith)).1)

abbrev both_lines : List ℕ → ℕ → Bool
both_lines t k = line t (3 * k) 1 && line t k 3

pub lines_open : (t : List ℕ) → all_lines t ≡ true → (k : ℕ) → k < 3 → (line t (3 * k) 1 ≡ true) × (line t k 3 ≡ true)
unfolding all_lines
lines_open t e k l = let both = every_at 3 (both_lines t) e k l in (and_left _ _ both, and_right _ _ both)

pub lines_close : (t : List ℕ) → ((k : ℕ) → k < 3 → both_lines t k ≡ true) → true ≡ all_lines t
unfolding all_lines
lines_close t h = sym (every_of 3 (both_lines t) h)

-- the test of a table: nine answers, those that are known, and the lines
pub good_test : (t : List ℕ) → good 2 t ≡ (eqb (length t) 9 && known_answers t && all_lines t)
good_test t = at (good 2 t) refl
  where
    at : (b : Bool) → good 2 t ≡ b → b ≡ (eqb (length t) 9 && known_answers t && all_lines t)
    at true e =
        let g = good_open t e in
        sym (and_both _ _ (and_both _ _ (eq-eqb _ _ g.size) (known_close t g))
        (sym (lines_close t (λ k l. and_both _ _ (row_close t g k l) (column_close t g k l)))))
    at false e = is_false _ (λ h.
        let two = and_left (eqb (length t) 9 && known_answers t) _ h in
        let lines = and_right (eqb (length t) 9 && known_answers t) _ h in
        false≢true (sym e ∙ good_close t (tested t (eqb-true _ _ (and_left _ _ two)) (and_right _ _ two) (lines_open t lines))))
