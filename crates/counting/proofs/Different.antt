-- How many different undecided tasks a list has, and whether one of them is decided as on: both hang on the set of its
-- tasks alone. The count is compared by taking one task out of the test at a time.
use Prim.Native.Nat.{ℕ, suc, ◌≤◌}
use mathlib.Core.Path.{◌≡◌, refl, sym, ap, ◌∙◌}
use mathlib.Core.Logic.{⊎_elim}
use mathlib.Core.Bool.{Bool, true, false, cond, not, ◌&&◌, ◌||◌, false≢true}
use mathlib.Core.List.{List, [], ◌∷◌}
use native.Mathlib.Omega.{arith}
use lib.ListN.{length}
use Rattle.bdd.specs.Pairs.{Exploration, undecided_in, on_in, among, different, some_on}
use Rattle.bdd.proofs.Logic.{and_left}
use Rattle.counting.proofs.Among.{In, here, there, both_ways, or_cases, or_left, or_right, Tells, same_comm, in_among, absent_among, Distinct, none, more}

module _ {T : Type 0} (x : Exploration T) where
  -- how many different tasks of the list pass a test
  passing : (T → Bool) → List T → ℕ
  passing t [] = 0
  passing t (p ∷ ps) = cond (t p && not (among x p ps)) (suc (passing t ps)) (passing t ps)

  different_passing : (ps : List T) → different x ps ≡ passing (undecided_in x) ps
  unfolding different passing
  different_passing [] = refl
  different_passing (p ∷ ps) = ap (λ (n : ℕ). cond (undecided_in x p && not (among x p ps)) (suc n) n) (different_passing ps)

  pub different_most : (ps : List T) → different x ps ≤ length ps
  unfolding different
  different_most [] = omega arith
  different_most (p ∷ ps) = by (undecided_in x p && not (among x p ps)) (different_most ps)
    where
      by : (b : Bool) → different x ps ≤ length ps → cond b (suc (different x ps)) (different x ps) ≤ suc (length ps)
      by true l = omega arith
      by false l = omega arith

  -- the test, but for one task
  but : T → (T → Bool) → T → Bool
  but q t p = t p && not (x.same p q)

  but_left : (t : T → Bool) (q p : T) → but q t p ≡ true → t p ≡ true
  unfolding but
  but_left t q p e = and_left (t p) (not (x.same p q)) e

  module _ (tells : Tells x.same) where
    -- one task out of the test is one less, if it passes and stands in the list
    passing_but : (t : T → Bool) (q : T) (ps : List T)
        → passing t ps ≡ cond (among x q ps && t q) (suc (passing (but q t) ps)) (passing (but q t) ps)
    unfolding passing but among
    passing_but t q [] = refl
    passing_but t q (p ∷ ps) =
        rw (same_comm x tells q p)
        (by (x.same p q) (among x p ps) (t p) (among x q ps) (t q) (passing t ps) (passing_but t q ps)
        (λ e. ap (λ (r : T). among x r ps) (tells.equal p q e)) (λ e. ap t (tells.equal p q e)))
      where
        less : ℕ
        less = passing (but q t) ps

        same : (a b : Bool) (n : ℕ) → n ≡ cond (a && b) (suc less) less
            → cond (b && not a) (suc n) n ≡ cond b (suc (cond (b && false && not a) (suc less) less)) (cond (b && false && not a) (suc less) less)
        same true true n e = e
        same true false n e = e
        same false true n e = ap suc e
        same false false n e = e

        other : (a b c : Bool) (n : ℕ) → n ≡ cond c (suc less) less
            → cond (b && not a) (suc n) n ≡ cond c (suc (cond (b && true && not a) (suc less) less)) (cond (b && true && not a) (suc less) less)
        other true true c n e = e
        other true false c n e = e
        other false true true n e = ap suc e
        other false true false n e = ap suc e
        other false false c n e = e

        by : (s a b c d : Bool) (n : ℕ) → n ≡ cond (c && d) (suc less) less → (s ≡ true → a ≡ c) → (s ≡ true → b ≡ d)
            → cond (b && not a) (suc n) n
            ≡ cond ((s || c) && d) (suc (cond (b && not s && not a) (suc less) less)) (cond (b && not s && not a) (suc less) less)
        by true a b c d n e f g = rw (f refl, g refl) (same c d n e)
        by false a b c d n e f g = other a b (c && d) n e

    -- what passes in one list stands in the other, so the other has as many
    passing_le : (t : T → Bool) (qs ps : List T) → ((p : T) → In p qs → t p ≡ true → In p ps) → passing t qs ≤ passing t ps
    unfolding passing
    passing_le t [] ps h = omega arith
    passing_le t (q ∷ qs) ps h =
        by (t q) refl (among x q qs) refl
        (passing_le t qs ps (λ p m e. h p (there m) e))
        (passing_le (but q t) qs ps (λ p m e. h p (there m) (but_left t q p e)))
      where
        by : (b : Bool) → t q ≡ b → (a : Bool) → among x q qs ≡ a → passing t qs ≤ passing t ps → passing (but q t) qs ≤ passing (but q t) ps
            → cond (b && not a) (suc (passing t qs)) (passing t qs) ≤ passing t ps
        by true f true e l m = l
        by false f a e l m = l
        by true f false e l m =
            let first : passing t qs ≡ passing (but q t) qs =
            passing_but t q qs ∙ ap (λ (c : Bool). cond (c && t q) (suc (passing (but q t) qs)) (passing (but q t) qs)) e in
            let second : passing t ps ≡ suc (passing (but q t) ps) =
            passing_but t q ps
            ∙ ap (λ (c : Bool). cond (c && t q) (suc (passing (but q t) ps)) (passing (but q t) ps)) (in_among x tells (h q (here refl) f))
            ∙ ap (λ (c : Bool). cond c (suc (passing (but q t) ps)) (passing (but q t) ps)) f in
            omega arith

    pub different_le : (qs ps : List T) → ((p : T) → In p qs → undecided_in x p ≡ true → In p ps) → different x qs ≤ different x ps
    different_le qs ps h = omega (arith, passing_le (undecided_in x) qs ps h, different_passing qs, different_passing ps)

    -- a list without repeats has as many as it is long
    different_length : {ps : List T} → Distinct ps → ((p : T) → In p ps → undecided_in x p ≡ true) → different x ps ≡ length ps
    unfolding different
    different_length none h = refl
    different_length (more {p} {ps} a d) h =
        rw (h p (here refl), absent_among x tells p ps a) (ap suc (different_length d (λ q m. h q (there m))))

    pub length_most : {qs : List T} (ps : List T) → Distinct qs → ((p : T) → In p qs → undecided_in x p ≡ true)
        → ((p : T) → In p qs → In p ps) → length qs ≤ different x ps
    length_most {qs} ps d u h = omega (arith, different_length d u, different_le qs ps (λ p m e. h p m))

    -- neither order nor repeats change the count
    pub length_all : {qs : List T} (ps : List T) → Distinct qs → ((p : T) → In p qs → undecided_in x p ≡ true)
        → ((p : T) → In p qs → In p ps) → ((p : T) → In p ps → undecided_in x p ≡ true → In p qs) → length qs ≡ different x ps
    length_all {qs} ps d u h all =
        omega (arith, different_length d u, different_le qs ps (λ p m e. h p m), different_le ps qs all)

  -- a task of the list that is decided as on
  record On (ps : List T) : Type 0 where
    at : T
    listed : In at ps
    holds : on_in x at ≡ true

  on_open : (ps : List T) → some_on x ps ≡ true → On ps
  unfolding some_on
  on_open [] e = absurd (false≢true e)
  on_open (p ∷ ps) e =
      ⊎_elim (λ h. record { at = p; listed = here refl; holds = h })
      (λ m. let o = on_open ps m in record { at = o.at; listed = there o.listed; holds = o.holds })
      (or_cases (on_in x p) (some_on x ps) e)

  on_close : {p : T} {ps : List T} → In p ps → on_in x p ≡ true → some_on x ps ≡ true
  unfolding some_on
  on_close (here {x = q} {xs = ps} e) h = or_left (on_in x q) (some_on x ps) (ap (on_in x) (sym e) ∙ h)
  on_close (there {x = q} {xs = ps} m) h = or_right (on_in x q) (some_on x ps) (on_close m h)

  some_on_le : (qs ps : List T) → ((p : T) → In p qs → In p ps) → some_on x qs ≡ true → some_on x ps ≡ true
  some_on_le qs ps h e = let o = on_open qs e in on_close (h o.at o.listed) o.holds

  pub some_on_same : (qs ps : List T) → ((p : T) → In p qs → In p ps) → ((p : T) → In p ps → In p qs) → some_on x qs ≡ some_on x ps
  some_on_same qs ps f g = both_ways (some_on x qs) (some_on x ps) (some_on_le qs ps f) (some_on_le ps qs g)
