-- The value of a set at a lent setting, by following the links from the root; and whether two sets hold the same numbers.
use Rattle.std.specs.Prelude.{Err, Ok}
use Rattle.std.proofs.Common.{◌≡◌, ℕ, zero, suc, ◌-◌, ◌<◌, ◌≤◌, Bool, true, false, cond, eqb, leb, ◌≢◌, List, [], ◌∷◌, length, get_or, sym, refl, ◌∙◌, arith, ap, eq-eqb, eqb-true, le-leb, leb-true, ◌↔◌, IsTrue, EachIndex}
use mathlib.Core.Bool.{false≢true, ◌&&◌}
use lib.Pointwise.{pointwise, bytes_decides}
use Rattle.bdd.specs.Array.{Runs, every, entry_of, var_of, size, options, ordered, same_entry}
use Rattle.bdd.specs.Value.{chosen, value, value_at}
use Rattle.bdd.specs.Signed.{same_runs}
use Rattle.bdd.specs.Answers.{paper_order, row_in, comes_first, told_first}
use Rattle.bdd.specs.declared.Refusal.TheVariants.{LeftNotOrdered, BadList}
use Rattle.bdd.proofs.Logic.{is_false, and_left, and_right, and_both, every_at, every_of, same_entry_path}
use Rattle.bdd.proofs.Refusing.{ascending, first_in_list, answered_in_order}
use Rattle.bdd.proofs.Ordered.{Ordered, ordered_open}
use Rattle.bdd.proofs.Following.{side_back, value_0, value_1, value_follows}
use Rattle.bdd.proofs.Meaning.{runs_path, same_runs_of}
use Rattle.compare.specs.Told.{setting_of, is_setting, told_valued, value_checks, valued}

-- ---- a setting

pub setting_short : (n : ℕ) (s : List ℕ) → length s ≢ n → false ≡ is_setting n s
unfolding is_setting
setting_short n s ne =
    is_false _ (λ e. ne (eqb-true _ _ (and_left (eqb (length s) n) (every (length s) (λ i. leb (get_or s i 0) 1)) e)))

pub setting_good : (n : ℕ) (s : List ℕ) → length s ≡ n → ((i : ℕ) → i < length s → get_or s i 0 ≤ 1) → true ≡ is_setting n s
unfolding is_setting
setting_good n s e h = sym (and_both _ _ (eq-eqb _ _ e) (every_of (length s) _ (λ i l. le-leb _ _ (h i l))))

-- what the test of each number tells, at n of them
pub setting_each : (n : ℕ) (s : List ℕ) {b : Bool} → length s ≡ n → (IsTrue b ↔ EachIndex s (λ k. get_or s k 0 ≤ 1)) → b ≡ is_setting n s
unfolding is_setting
setting_each n s {b} e = at b
  where
    at : (b : Bool) → (IsTrue b ↔ EachIndex s (λ k. get_or s k 0 ≤ 1)) → b ≡ is_setting n s
    at true h = setting_good n s e (h.0 refl)
    at false h =
        is_false _ (λ f.
        false≢true (h.1 (λ i l. leb-true (get_or s i 0) 1 (every_at (length s) _ (and_right (eqb (length s) n) (every (length s) (λ i. leb (get_or s i 0) 1)) f) i l))))

pub setting_length : (n : ℕ) (s : List ℕ) → is_setting n s ≡ true → length s ≡ n
unfolding is_setting
setting_length n s e = eqb-true _ _ (and_left (eqb (length s) n) (every (length s) (λ i. leb (get_or s i 0) 1)) e)

-- ---- following the links

-- entry i has the value of the root
pub record Follows (a : Runs) (s : List ℕ) (i : ℕ) : Type 0 where
  pub set : Ordered a
  pub setting : length s ≡ options a
  pub below : i < size a
  pub same : value a (setting_of s) ≡ value_at a i (setting_of s)

pub follows_none : (a : Runs) (s : List ℕ) → ordered a ≡ true → length s ≡ options a → Follows a s (size a - 1)
unfolding value
follows_none a s o e =
    let f = ordered_open a o in
    record { set = f; setting = e; below = omega (arith, f.size_least); same = refl }

module _ {a : Runs} {s : List ℕ} {i : ℕ} (f : Follows a s i) where
  pub follows_reads : 1 < i → (i < length a.variable) × (i < length a.low) × (i < length a.high) × (var_of a i < length s)
  follows_reads l =
      let e = f.set.layered.entry_on i l f.below in
      let lo = f.set.layered.low_length in
      let hi = f.set.layered.high_length in
      (f.below, omega (arith, f.below), omega (arith, f.below), omega (arith, e.variable, f.setting))

  pub follows_less : 1 < i → chosen a (setting_of s) i < i
  unfolding chosen
  follows_less l = side_back a (setting_of s (var_of a i)) i (f.set.layered.entry_on i l f.below)

  pub follows_more : 1 < i → Follows a s (chosen a (setting_of s) i)
  follows_more l =
      record {
        set = f.set;
        setting = f.setting;
        below = omega (arith, follows_less l, f.below);
        same = f.same ∙ value_follows a f.set.layered (setting_of s) i l f.below;
      }

  pub follows_all : i ≤ 1 → eqb i 1 ≡ value a (setting_of s)
  follows_all l = at i l f.below ∙ sym f.same
    where
      at : (i : ℕ) → i ≤ 1 → i < size a → eqb i 1 ≡ value_at a i (setting_of s)
      at zero l b = sym (value_0 a f.set.layered (setting_of s))
      at (suc zero) l b = sym (value_1 a f.set.layered (setting_of s) b)
      at (suc (suc i)) l b = absurd (omega arith)

-- ---- the answers of value_at

value_answer : (a : Runs) (s : List ℕ) → valued a s ≡ told_first (first_in_list (value_checks a s)) (cond (value a (setting_of s)) 1 0 ∷ [])
unfolding ascending comes_first row_in paper_order
value_answer a s = answered_in_order (value_checks a s) (cond (value a (setting_of s)) 1 0 ∷ []) refl

pub valued_unordered : (a : Runs) (s : List ℕ) → ordered a ≡ false → told_valued (Err LeftNotOrdered) ≡ valued a s
unfolding first_in_list
valued_unordered a s e = sym (value_answer a s ∙ rw e)

pub valued_unset : (a : Runs) (s : List ℕ) (n : ℕ) → ordered a ≡ true → n ≡ options a → is_setting n s ≡ false → told_valued (Err BadList) ≡ valued a s
unfolding first_in_list
valued_unset a s n e o f = sym (value_answer a s ∙ rw (e, ← o, f))

pub valued_is : (a : Runs) (s : List ℕ) (n : ℕ) (t : Bool) → ordered a ≡ true → n ≡ options a → is_setting n s ≡ true → t ≡ value a (setting_of s)
    → told_valued (Ok t) ≡ valued a s
unfolding first_in_list
valued_is a s n t e o f h = sym (value_answer a s ∙ rw (e, ← o, f, ← h))

-- ---- the same numbers

-- as an equation, both ways
pub same_path : (a b : Runs) → ordered a ≡ true → ordered b ≡ true → same_runs a b ≡ true → a ≡ b
unfolding same_runs
same_path a b p q e =
    let each = every (size a) (λ i. same_entry (entry_of a i) (entry_of b i)) in
    runs_path a b (ordered_open a p).layered (ordered_open b q).layered (eqb-true _ _ (and_left (eqb (size a) (size b)) each e))
    (λ i l. same_entry_path _ _ (every_at (size a) _ (and_right (eqb (size a) (size b)) each e) i l))

pub differ_path : (a b : Runs) → same_runs a b ≡ false → a ≢ b
differ_path a b e p = false≢true (sym e ∙ same_runs_of a b p)

-- the test of the three lists
pub lists_test : (a b : Runs) → ordered a ≡ true → ordered b ≡ true
    → same_runs a b ≡ (pointwise eqb a.variable b.variable && pointwise eqb a.low b.low && pointwise eqb a.high b.high)
lists_test a b p q = at (same_runs a b) refl
  where
    at : (t : Bool) → same_runs a b ≡ t → t ≡ (pointwise eqb a.variable b.variable && pointwise eqb a.low b.low && pointwise eqb a.high b.high)
    at true e =
        let z = same_path a b p q e in
        let v = (bytes_decides a.variable b.variable).1 (ap (λ (c : Runs). c.variable) z) in
        let l = (bytes_decides a.low b.low).1 (ap (λ (c : Runs). c.low) z) in
        let h = (bytes_decides a.high b.high).1 (ap (λ (c : Runs). c.high) z) in
        sym (and_both _ _ (and_both _ _ v l) h)
    at false e =
        is_false _ (λ t.
        let two = and_left _ _ t in
        let v = (bytes_decides a.variable b.variable).0 (and_left _ _ two) in
        let l = (bytes_decides a.low b.low).0 (and_right _ _ two) in
        let h = (bytes_decides a.high b.high).0 (and_right _ _ t) in
        differ_path a b e (λ i. record { variable = v i; low = l i; high = h i }))
