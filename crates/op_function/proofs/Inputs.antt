-- The lists of inputs that the definition of a good table goes through, as claims over numbers, for k sets and both
-- ways: a test passes at all inputs, and at all that are got by making one unknown known.
use Prim.Native.Nat.{ℕ, zero, suc, ◌≤◌, ◌<◌}
use mathlib.Core.Path.{◌≡◌, refl, ap, sym, ◌∙◌}
use mathlib.Core.Bool.{Bool, true, false, cond, ◌&&◌}
use mathlib.Core.List.{List, [], ◌∷◌, ◌++◌, map}
use native.Mathlib.Omega.{arith}
use lib.Dec.{eqb}
use borrow.Author.Tests.{eqb-true, eq-eqb}
use Rattle.bdd.specs.Array.{every}
use Rattle.bdd.specs.Table.{all_of, inputs, made_known}
use Rattle.bdd.proofs.Logic.{and_left, and_right, and_both, every_at, every_of}

-- the claim at every k inputs, each 0, 1 or 2
abbrev pub Each : ℕ → (List ℕ → Type 0) → Type 0
Each zero P = P []
Each (suc k) P = (x : ℕ) → x ≤ 2 → Each k (λ xs. P (x ∷ xs))

pub each_map : (k : ℕ) {P Q : List ℕ → Type 0} → ((xs : List ℕ) → P xs → Q xs) → Each k P → Each k Q
each_map zero f h = f [] h
each_map (suc k) f h = λ x l. each_map k (λ xs. f (x ∷ xs)) (h x l)

-- one unknown of the first inputs is known in the second
pub data Made : List ℕ → List ℕ → Type 0 where
  here : {x u : ℕ} {xs : List ℕ} → x ≡ 2 → u < 2 → Made (x ∷ xs) (u ∷ xs)
  there : {x : ℕ} {xs ys : List ℕ} → Made xs ys → Made (x ∷ xs) (x ∷ ys)

pub below_2 : (P : ℕ → Type 0) → P 0 → P 1 → (x : ℕ) → x < 2 → P x
below_2 P p q zero l = p
below_2 P p q (suc zero) l = q
below_2 P p q (suc (suc x)) l = absurd (omega arith)

and_assoc : (a b c : Bool) → (a && (b && c)) ≡ (a && b && c)
and_assoc true b c = refl
and_assoc false b c = refl

all_append : {A : Type 0} (test : A → Bool) (xs ys : List A) → all_of test (xs ++ ys) ≡ (all_of test xs && all_of test ys)
unfolding all_of
all_append test [] ys = refl
all_append test (x ∷ xs) ys = rw (all_append test xs ys) (and_assoc (test x) (all_of test xs) (all_of test ys))

all_map : {A B : Type 0} (test : B → Bool) (f : A → B) (xs : List A) → all_of test (map f xs) ≡ all_of (λ x. test (f x)) xs
unfolding all_of
all_map test f [] = refl
all_map test f (x ∷ xs) = ap (λ (b : Bool). test (f x) && b) (all_map test f xs)

-- the first input goes through 0, 1 and 2
by_first : (k : ℕ) (test : List ℕ → Bool)
    → all_of test (inputs (suc k)) ≡ every 3 (λ x. all_of (λ xs. test (x ∷ xs)) (inputs k))
unfolding inputs every
by_first k test = simp (all_append, all_map)

pub each_open : (k : ℕ) (test : List ℕ → Bool) → all_of test (inputs k) ≡ true → Each k (λ xs. test xs ≡ true)
unfolding inputs all_of
each_open zero test e = and_left (test []) true e
each_open (suc k) test e =
    λ x l. each_open k (λ xs. test (x ∷ xs)) (every_at 3 _ (sym (by_first k test) ∙ e) x (omega arith))

pub each_close : (k : ℕ) (test : List ℕ → Bool) → Each k (λ xs. test xs ≡ true) → all_of test (inputs k) ≡ true
unfolding inputs all_of
each_close zero test h = and_both (test []) true h refl
each_close (suc k) test h = by_first k test ∙ every_of 3 _ (λ x l. each_close k (λ xs. test (x ∷ xs)) (h x (omega arith)))

-- the first input, off and on, where it is unknown
abbrev firsts : Bool → List ℕ → List (List ℕ)
firsts unknown xs = cond unknown ((0 ∷ xs) ∷ (1 ∷ xs) ∷ []) []

-- the first input is made known, or one of the others
by_made : (test : List ℕ → Bool) (x : ℕ) (xs : List ℕ)
    → all_of test (made_known (x ∷ xs)) ≡ (all_of test (firsts (eqb x 2) xs) && all_of (λ ys. test (x ∷ ys)) (made_known xs))
unfolding made_known
by_made test x xs = simp (all_append, all_map)

pub made_open : (test : List ℕ → Bool) {xs ys : List ℕ} → all_of test (made_known xs) ≡ true → Made xs ys → test ys ≡ true
unfolding all_of
made_open test e (here {x = x} {u = u} {xs = xs} p l) =
    let both : (test (0 ∷ xs) && (test (1 ∷ xs) && true)) ≡ true =
    and_left _ _ (rw (eq-eqb x 2 p) at (sym (by_made test x xs) ∙ e)) in
    below_2 (λ z. test (z ∷ xs) ≡ true) (and_left (test (0 ∷ xs)) _ both)
    (and_left (test (1 ∷ xs)) true (and_right (test (0 ∷ xs)) _ both)) u l
made_open test e (there {x = x} {xs = xs} m) =
    made_open (λ ys. test (x ∷ ys)) (and_right (all_of test (firsts (eqb x 2) xs)) _ (sym (by_made test x xs) ∙ e)) m

pub made_close : (test : List ℕ → Bool) (xs : List ℕ) → ((ys : List ℕ) → Made xs ys → test ys ≡ true)
    → all_of test (made_known xs) ≡ true
unfolding made_known all_of
made_close test [] h = refl
made_close test (x ∷ xs) h =
    by_made test x xs
    ∙ and_both _ _ (first (eqb x 2) refl) (made_close (λ ys. test (x ∷ ys)) xs (λ ys m. h (x ∷ ys) (there m)))
  where
    first : (b : Bool) → eqb x 2 ≡ b → all_of test (firsts b xs) ≡ true
    first true q =
        let p = eqb-true x 2 q in
        and_both _ _ (h (0 ∷ xs) (here p (omega arith))) (and_both _ _ (h (1 ∷ xs) (here p (omega arith))) refl)
    first false q = refl
