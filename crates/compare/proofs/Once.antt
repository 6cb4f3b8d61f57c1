-- A comparison is pinned: whatever setting meets the promise of parting is the same, number for number, and so is the answer.
use Rattle.std.proofs.Common.{◌≡◌, ℕ, zero, suc, ◌<◌, Bool, true, false, not, eqb, ◌≢◌, List, length, get_or, sym, refl, ap, ◌∙◌, arith, ext_get_or, eqb-true}
use mathlib.Core.Bool.{false≢true}
use mathlib.Core.Option.{Option, none, some}
use borrow.Author.Tests.{eqb-false}
use Rattle.bdd.specs.Array.{Runs}
use Rattle.bdd.specs.Value.{value}
use Rattle.bdd.specs.Answers.{Told, told_first, first_refusal, working_after}
use Rattle.bdd.specs.declared.Refusal.{Refusal}
use Rattle.bdd.proofs.Refusing.{one_refusal, no_refusal}
use Rattle.std.specs.Prelude.{Ok, Err}
use Rattle.compare.specs.declared.Comparison.TheVariants.{SameNumbers, SameMeaning, Differ}
use Rattle.compare.specs.Told.{setting_of, two_checks, told_comparison, Compared, Parted, Says, Compares}

not_itself : (b : Bool) → b ≡ not b → ⊥
not_itself true e = false≢true (sym e)
not_itself false e = false≢true e

differs : {a b : Runs} {s : List ℕ} {l : Bool} → Parted a b s l → value a (setting_of s) ≢ value b (setting_of s)
differs {l = l} p e = not_itself l (sym p.left_value ∙ e ∙ p.right_value)

on_too : {a b : Runs} {s t : List ℕ} {l m : Bool} → Parted a b s l → Parted a b t m → (i : ℕ)
    → ((j : ℕ) → j < i → get_or t j 0 ≡ get_or s j 0) → get_or s i 0 ≡ 1 → get_or t i 0 ≡ 1
unfolding setting_of
on_too p q i h e = eqb-true _ _ (p.first _ (differs q) i e (λ j l. ap (λ (x : ℕ). eqb x 1) (h j l)))

module _ {a b : Runs} {s t : List ℕ} {l m : Bool} (p : Parted a b s l) (q : Parted a b t m) where
  alike_at : (i : ℕ) → ((j : ℕ) → j < i → get_or s j 0 ≡ get_or t j 0) → get_or s i 0 ≡ get_or t i 0
  alike_at i h = at (eqb (get_or s i 0) 1) (eqb (get_or t i 0) 1) refl refl
    where
      at : (x y : Bool) → eqb (get_or s i 0) 1 ≡ x → eqb (get_or t i 0) 1 ≡ y → get_or s i 0 ≡ get_or t i 0
      at true y e f =
          let one : get_or s i 0 ≡ 1 = eqb-true _ _ e in
          omega (arith, on_too p q i (λ j n. sym (h j n)) one)
      at false true e f =
          let one : get_or t i 0 ≡ 1 = eqb-true _ _ f in
          omega (arith, on_too q p i h one)
      at false false e f =
          omega (arith, p.plain i, q.plain i, eqb-false (get_or s i 0) 1 e, eqb-false (get_or t i 0) 1 f)

  alike : (k i : ℕ) → i < k → get_or s i 0 ≡ get_or t i 0
  alike zero i d = absurd (omega arith)
  alike (suc k) i d = alike_at i (λ j n. alike k j (omega arith))

  pub parted_once : length s ≡ length t → s ≡ t
  parted_once e = ext_get_or 0 s t e (λ i d. alike (suc i) i (omega arith))

-- ---- no second answer

-- the number does not hang on the values
number_by : (o : Option Refusal) (x y : List ℕ) → (told_first o x).number ≡ (told_first o y).number
number_by none x y = refl
number_by (some why) x y = refl

module _ (a b : Runs) (was s t : List ℕ) (same : length s ≡ length t) where
  says_once : (r q : Compared) → Says a b was s r → Says a b was t q → (told_comparison r).number ≡ (told_comparison q).number → r ≡ q
  says_once (Ok SameNumbers) (Ok SameNumbers) x y e = refl
  says_once (Ok SameNumbers) (Ok SameMeaning) x y e = absurd (y.0 x.0)
  says_once (Ok SameNumbers) (Ok (Differ l)) x y e = absurd (differs y (ap (λ (c : Runs). value c (setting_of t)) x.0))
  says_once (Ok SameNumbers) (Err why) x y e = absurd (no_refusal why e)
  says_once (Ok SameMeaning) (Ok SameNumbers) x y e = absurd (x.0 y.0)
  says_once (Ok SameMeaning) (Ok SameMeaning) x y e = refl
  says_once (Ok SameMeaning) (Ok (Differ l)) x y e = absurd (differs y (x.1 (setting_of t)))
  says_once (Ok SameMeaning) (Err why) x y e = absurd (no_refusal why e)
  says_once (Ok (Differ l)) (Ok SameNumbers) x y e = absurd (differs x (ap (λ (c : Runs). value c (setting_of s)) y.0))
  says_once (Ok (Differ l)) (Ok SameMeaning) x y e = absurd (differs x (y.1 (setting_of s)))
  says_once (Ok (Differ l)) (Ok (Differ m)) x y e =
      ap (λ (v : Bool). Ok (Differ v)) (sym x.left_value ∙ ap (λ (u : List ℕ). value a (setting_of u)) (parted_once x y same) ∙ y.left_value)
  says_once (Ok (Differ l)) (Err why) x y e = absurd (no_refusal why e)
  says_once (Err why) (Ok SameNumbers) x y e = absurd (no_refusal why (sym e))
  says_once (Err why) (Ok SameMeaning) x y e = absurd (no_refusal why (sym e))
  says_once (Err why) (Ok (Differ m)) x y e = absurd (no_refusal why (sym e))
  says_once (Err why) (Err other) x y e = ap Err (one_refusal why other e)

  pub compares_once : {room x y : List ℕ} {r q : Compared} → Compares a b was s room x r → Compares a b was t room y q → (r ≡ q) × (x ≡ y)
  compares_once {room} {r = r} {q} c d =
      let checks = first_refusal (two_checks a b (length room)) in
      let e : (told_comparison r).number ≡ (told_comparison q).number =
      ap (λ (u : Told). u.number) c.answer ∙ number_by checks _ _ ∙ sym (ap (λ (u : Told). u.number) d.answer) in
      (says_once r q c.says d.says e, c.run ∙ ap (λ (k : ℕ). working_after k room) e ∙ sym d.run)
