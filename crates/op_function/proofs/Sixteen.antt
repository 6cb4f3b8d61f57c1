-- The sixteen operators: the rule of the constant table at each of its places, and their goodness, each by one test
-- that is computed; the value of operator p at known inputs; and the six that have names.
use Prim.Native.Nat.{ℕ, zero, suc, ◌+◌, ◌*◌, ◌/◌, ◌%◌, ◌<◌, ◌≤◌}
use mathlib.Core.Path.{◌≡◌, refl, ◌∙◌, ap, ap₂}
use mathlib.Core.Bool.{Bool, true, false, cond, not, xor, beq, ◌&&◌, ◌||◌}
use mathlib.Core.List.{List, [], ◌∷◌, ◌++◌, map}
use native.Mathlib.Omega.{arith}
use lib.ListN.{get_or}
use lib.Dec.{eqb, ltb}
use borrow.Author.Tests.{eqb-true, ltb-true, ltb-false}
use Rattle.bdd.specs.Array.{every}
use Rattle.bdd.specs.Table.{operator, filled, bit, digits, answer, all_of, inputs, fillings, good, sound, known, made_known}
use Rattle.bdd.specs.Jobs.{digit}
use Rattle.bdd.proofs.Logic.{every_at}
use Rattle.op_function.specs.Checked.{checked_operator}
use Rattle.op_function.proofs.Tables.{GoodTable, good_open}
use Rattle.std.specs.Prelude.{Some, None}

-- the nine answers of each of the first n operators, one operator after the other
unfoldable pub rows : ℕ → List ℕ
rows zero = []
rows (suc n) = rows n ++ operator n

-- what the constant table must be
unfoldable pub table : List ℕ
table = rows 16

-- place 9p+i of the table holds answer i of operator p
abbrev right : ℕ → Bool
right k = eqb (get_or table k 0) (get_or (operator (k / 9)) (k % 9) 3)

all_right : every 144 right ≡ true
unfolding every table rows operator filled bit digits all_of inputs fillings
all_right = refl

pub rule : (p i : ℕ) → p < 16 → i < 9 → get_or table (9 * p + i) 0 ≡ get_or (operator p) i 3
rule p i hp hi =
    let q : (9 * p + i) / 9 ≡ p = omega arith in
    let m : (9 * p + i) % 9 ≡ i = omega arith in
    eqb-true _ _ (every_at 144 right all_right (9 * p + i) (omega arith)) ∙ ap₂ (λ n j. get_or (operator n) j 3) q m

all_good : every 16 (λ p. good 2 (operator p)) ≡ true
unfolding every good sound answer all_of inputs made_known known digits operator filled bit fillings
all_good = refl

pub operator_good : (p : ℕ) → p < 16 → good 2 (operator p) ≡ true
operator_good p l = every_at 16 (λ p. good 2 (operator p)) all_good p l

-- what a table that is handed out is
pub record Handed (p : ℕ) (t : List ℕ) : Type 0 where
  pub below : p < 16
  pub answers : t ≡ operator p
  pub good_table : GoodTable t

pub told_operator : (p : ℕ) (t : List ℕ) → Some t ≡ checked_operator p → Handed p t
unfolding checked_operator
told_operator p t e = at (ltb p 16) refl e
  where
    at : (b : Bool) → ltb p 16 ≡ b → Some t ≡ cond b (Some (operator p)) None → Handed p t
    at true y e =
        let a : t ≡ operator p = cc in
        record {
          below = ltb-true p 16 y;
          answers = a;
          good_table = good_open t (ap (good 2) a ∙ operator_good p (ltb-true p 16 y));
        }
    at false y e = cc

pub told_no_operator : (p : ℕ) → None ≡ checked_operator p → 16 ≤ p
unfolding checked_operator
told_no_operator p e = at (ltb p 16) refl e
  where
    at : (b : Bool) → ltb p 16 ≡ b → None ≡ cond b (Some (operator p)) None → 16 ≤ p
    at true y e = cc
    at false y e = ltb-false p 16 y

two : (x : ℕ) → x < 2 → cond (eqb x 0 && true) 0 (cond (eqb x 1 && true) 1 2) ≡ x
two zero l = refl
two (suc zero) l = refl
two (suc (suc x)) l = absurd (omega arith)

-- in operator p, bit 2a+b of p is the value at known a, b
pub operator_value : (p : ℕ) (a b : Bool) → answer (operator p) (digit a ∷ digit b ∷ []) ≡ bit p (digit a ∷ digit b ∷ [])
unfolding answer digits operator inputs filled fillings all_of bit
operator_value p false false = two (p / 1 % 2) (omega arith)
operator_value p false true = two (p / 2 % 2) (omega arith)
operator_value p true false = two (p / 4 % 2) (omega arith)
operator_value p true true = two (p / 8 % 2) (omega arith)

-- an operator with a name: its number and what it means
record Named : Type 0 where
  number : ℕ
  meaning : Bool → Bool → Bool

abbrev named_as : (Bool → Bool → Bool) → ℕ → Named
named_as f p = record { number = p; meaning = f }

-- and is 8, or 14, xor 6, iff 9, imp 11, and_not 4
names : List Named
names =
    named_as ◌&&◌ 8 ∷ named_as ◌||◌ 14 ∷ named_as xor 6 ∷ named_as beq 9 ∷ named_as (λ a b. not a || b) 11 ∷ named_as (λ a b. a && not b) 4 ∷ []

abbrev four : (Bool → Bool → ℕ) → List ℕ
four f = f false false ∷ f false true ∷ f true false ∷ f true true ∷ []

named : map (λ (n : Named). four (λ a b. answer (operator n.number) (digit a ∷ digit b ∷ []))) names
    ≡ map (λ (n : Named). four (λ a b. digit (n.meaning a b))) names
unfolding names xor answer digits operator inputs filled fillings all_of bit
named = refl
