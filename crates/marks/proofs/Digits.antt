-- The bits of a word: what a power of 2 that is added or taken away does to each, and which is the highest.
use Prim.Native.Nat.{ℕ, zero, suc, ◌+◌, ◌-◌, ◌*◌, ◌/◌, ◌%◌, ◌^◌, ◌≤◌, ◌<◌}
use mathlib.Core.Path.{◌≡◌, refl, sym, ap, ap₂, ◌∙◌}
use mathlib.Core.Bool.{Bool, true, false, not, ◌&&◌, ◌||◌}
use native.Mathlib.Omega.{arith}
use native.Mathlib.Nat.{pow-zero, pow-succ', div-one, div-div-eq-div-mul, div-eq_of_lt, div-eq_of_lt-le, pow-le-pow_right}
use lib.Dec.{eqb, eqb-zero-suc, eqb-suc-zero, eqb-suc-suc}
use borrow.Author.Tests.{eqb-true, eqb-false, eq-eqb}
use Rattle.marks.specs.Marking.{is_on}

-- bit 0 is what is left by 2, bit j + 1 is bit j of the half
on_zero : (x : ℕ) → is_on 0 x ≡ eqb (x % 2) 1
unfolding is_on
on_zero x = ap (λ (y : ℕ). eqb (y % 2) 1) (ap (λ (y : ℕ). x / y) (pow-zero 2) ∙ div-one x)

on_suc : (j x : ℕ) → is_on (suc j) x ≡ is_on j (x / 2)
unfolding is_on
on_suc j x = ap (λ (y : ℕ). eqb (y % 2) 1) (ap (λ (y : ℕ). x / y) (pow-succ' 2 j) ∙ sym (div-div-eq-div-mul x 2 (2 ^ j)))

even : (x : ℕ) → is_on 0 x ≡ false → x % 2 ≡ 0
even x h = let odd-not : x % 2 ≡ 1 → ⊥ = eqb-false (x % 2) 1 (sym (on_zero x) ∙ h) in at (x % 2) odd-not (omega arith)
  where
    at : (r : ℕ) → (r ≡ 1 → ⊥) → r < 2 → r ≡ 0
    at zero n l = refl
    at (suc zero) n l = absurd (n refl)
    at (suc (suc r)) n l = absurd (omega arith)

-- bit j, which is 0, becomes 1
pub added : (j i x : ℕ) → is_on j x ≡ false → is_on i (x + 2 ^ j) ≡ (eqb j i || is_on i x)
added zero zero x h =
    let e : x % 2 ≡ 0 = even x h in
    let z : 2 ^ 0 ≡ 1 = pow-zero 2 in
    on_zero (x + 2 ^ 0) ∙ eq-eqb ((x + 2 ^ 0) % 2) 1 (omega arith)
added zero (suc i) x h =
    let e : x % 2 ≡ 0 = even x h in
    let z : 2 ^ 0 ≡ 1 = pow-zero 2 in
    on_suc i (x + 2 ^ 0) ∙ ap (is_on i) (let q : (x + 2 ^ 0) / 2 ≡ x / 2 = omega arith in q) ∙ sym (on_suc i x)
    ∙ ap (λ (b : Bool). b || is_on (suc i) x) (sym (eqb-zero-suc i))
added (suc j) zero x h =
    let z : 2 ^ suc j ≡ 2 * 2 ^ j = pow-succ' 2 j in
    on_zero (x + 2 ^ suc j) ∙ ap (λ (y : ℕ). eqb y 1) (let q : (x + 2 ^ suc j) % 2 ≡ x % 2 = omega arith in q) ∙ sym (on_zero x)
    ∙ ap (λ (b : Bool). b || is_on 0 x) (sym (eqb-suc-zero j))
added (suc j) (suc i) x h =
    let z : 2 ^ suc j ≡ 2 * 2 ^ j = pow-succ' 2 j in
    on_suc i (x + 2 ^ suc j) ∙ ap (is_on i) (let q : (x + 2 ^ suc j) / 2 ≡ x / 2 + 2 ^ j = omega arith in q)
    ∙ added j i (x / 2) (sym (on_suc j x) ∙ h) ∙ ap₂ ◌||◌ (sym (eqb-suc-suc j i)) (sym (on_suc i x))

-- there is room for it
pub fits : (k j x : ℕ) → j < k → x < 2 ^ k → is_on j x ≡ false → x + 2 ^ j < 2 ^ k
fits zero j x l m h = absurd (omega arith)
fits (suc k) zero x l m h =
    let e : x % 2 ≡ 0 = even x h in
    omega (arith, pow-zero 2, pow-succ' 2 k)
fits (suc k) (suc j) x l m h =
    let z : 2 ^ suc k ≡ 2 * 2 ^ k = pow-succ' 2 k in
    let deeper = fits k j (x / 2) (omega arith) (omega arith) (sym (on_suc j x) ∙ h) in
    omega (arith, pow-succ' 2 j)

-- a word whose bit j is 1 is one whose bit j is 0, and a power of 2
pub record Rest (j x : ℕ) : Type 0 where
  pub rest : ℕ
  pub sum : x ≡ rest + 2 ^ j
  pub off : is_on j rest ≡ false

pub parted : (j x : ℕ) → is_on j x ≡ true → Rest j x
parted zero x h =
    let e : x % 2 ≡ 1 = eqb-true (x % 2) 1 (sym (on_zero x) ∙ h) in
    record { rest = x - 1; sum = omega (arith, pow-zero 2); off = on_zero (x - 1) ∙ ap (λ (y : ℕ). eqb y 1) (let q : (x - 1) % 2 ≡ 0 = omega arith in q) }
parted (suc j) x h =
    let deeper = parted j (x / 2) (sym (on_suc j x) ∙ h) in
    let y = deeper.rest in
    let s : x / 2 ≡ y + 2 ^ j = deeper.sum in
    record {
      rest = x % 2 + 2 * y;
      sum = omega (arith, pow-succ' 2 j);
      off = on_suc j (x % 2 + 2 * y) ∙ ap (is_on j) (let q : (x % 2 + 2 * y) / 2 ≡ y = omega arith in q) ∙ deeper.off;
    }

-- bit j, which is 1, becomes 0
pub taken : (j i x : ℕ) → is_on j x ≡ true → is_on i (x - 2 ^ j) ≡ (not (eqb j i) && is_on i x)
taken j i x h =
    let r = parted j x h in
    let s : x ≡ r.rest + 2 ^ j = r.sum in
    ap (is_on i) (let q : x - 2 ^ j ≡ r.rest = omega arith in q) ∙ at r (eqb j i) refl ∙ ap (λ (y : ℕ). not (eqb j i) && is_on i y) (sym s)
  where
    at : (r : Rest j x) (b : Bool) → eqb j i ≡ b → is_on i r.rest ≡ (not (eqb j i) && is_on i (r.rest + 2 ^ j))
    at r true e = let same : j ≡ i = eqb-true j i e in rw e (ap (λ (k : ℕ). is_on k r.rest) (sym same) ∙ r.off)
    at r false e = rw e (sym (added j i r.rest r.off ∙ ap (λ (b : Bool). b || is_on i r.rest) e))

pub least : (j x : ℕ) → is_on j x ≡ true → 2 ^ j ≤ x
least j x h = let r = parted j x h in let s : x ≡ r.rest + 2 ^ j = r.sum in omega arith

-- the highest bit, and all above it
pub top_on : (j x : ℕ) → 2 ^ j ≤ x → x < 2 ^ (j + 1) → is_on j x ≡ true
unfolding is_on
top_on j x l m =
    let z : 2 ^ suc j ≡ 2 * 2 ^ j = pow-succ' 2 j in
    let u : 2 ^ (j + 1) ≡ 2 ^ suc j = ap (λ (k : ℕ). 2 ^ k) (omega arith) in
    ap (λ (y : ℕ). eqb (y % 2) 1) (div-eq_of_lt-le {k = 1} (2 ^ j) (omega arith) (omega arith))

pub above_off : (j i x : ℕ) → x < 2 ^ j → j ≤ i → is_on i x ≡ false
unfolding is_on
above_off j i x l m =
    let p : 2 ^ j ≤ 2 ^ i = pow-le-pow_right (omega arith) m in
    let q : x < 2 ^ i = omega arith in
    ap (λ (y : ℕ). eqb (y % 2) 1) (div-eq_of_lt q)
