-- From the numbers back to the two sets: what each answer says, and when the call refuses.
use Rattle.std.specs.Prelude.{Err, Ok, Result, ℕ}
use Rattle.std.proofs.Common.{◌≡◌, ℕ, ◌+◌, ◌*◌, ◌<◌, ◌≤◌, Bool, true, false, cond, eqb, ◌≢◌, List, length, get_or, drop, replicate, sym, refl, ap, ◌∙◌, subst, arith, length-drop, get_or-drop, ext_get_or, le-ltb, lt-ltb, eq-eqb, ne_eqb}
use lib.ListN.{length-replicate}
use Rattle.bdd.specs.Array.{Runs, var_of, low_link_of, high_link_of, size, options, root, ordered}
use Rattle.bdd.specs.Value.{Function, value}
use Rattle.bdd.specs.Signed.{same_runs}
use Rattle.bdd.specs.Pairs.{pair_room}
use Rattle.bdd.specs.Answers.{told, paper_order, row_in, comes_first, first_refusal, all_zero, refused_after, working_after}
use Rattle.bdd.specs.declared.Refusal.{Refusal}
use Rattle.bdd.specs.declared.Refusal.TheVariants.{LeftNotOrdered, RightNotOrdered, CountsDiffer, ShortRun}
use Rattle.bdd.proofs.Ordered.{ordered_open}
use Rattle.bdd.proofs.Refusing.{ascending, first_in_list, one_by_one, working_kept}
use Rattle.chains.proofs.Zeros.{getD_zeros}
use Rattle.pair_run.specs.Held as held
use Rattle.pair_run.proofs.Laws.{empty, one_result}
use Rattle.compare.specs.declared.Comparison.{Comparison}
use Rattle.compare.specs.declared.Comparison.TheVariants.{SameNumbers, SameMeaning}
use Rattle.compare.specs.Told.{two_checks, told_comparison, Compares}
use Rattle.compare.specs.Numbers.{number_at, Meanings, Own, passed, found, Named, Numberable, Numbered, Numbers}
use Rattle.compare.specs.Settling.{Comparable, Admitted, Admits, Settleable, Settled}
use Rattle.compare.specs.Parting.{Apart}
use Rattle.compare.proofs.Values.{same_path, differ_path}
use Rattle.compare.proofs.Numbering.{named_grown, named_alike, number_alike}

-- ---- the refusals

pub comparable : (a b : Runs) {n m : ℕ} → ordered a ≡ true → ordered b ≡ true → n ≡ options a → m ≡ options b → n ≡ m → Comparable a b n
comparable a b l r x y e = record { left = l; right = r; left_options = x; right_options = e ∙ y }

in_order : (a b : Runs) (room : ℕ) → first_refusal (two_checks a b room) ≡ first_in_list (two_checks a b room)
unfolding ascending comes_first row_in paper_order
in_order a b room = one_by_one (two_checks a b room) refl

module _ (a b : Runs) (room : ℕ) where
  pub refused_left : ordered a ≡ false → Admits a b room (Err LeftNotOrdered)
  unfolding first_in_list
  refused_left e = (in_order a b room ∙ rw e, refl)

  pub refused_right : ordered a ≡ true → ordered b ≡ false → Admits a b room (Err RightNotOrdered)
  unfolding first_in_list
  refused_right e f = (in_order a b room ∙ rw (e, f), refl)

  pub refused_counts : ordered a ≡ true → ordered b ≡ true → options a ≢ options b → Admits a b room (Err CountsDiffer)
  unfolding first_in_list
  refused_counts e f ne = (in_order a b room ∙ rw (e, f, ne_eqb (options a) (options b) ne), refl)

  pub refused_short : {n : ℕ} → Comparable a b n → room < 5 * (size a + size b) → Admits a b room (Err ShortRun)
  unfolding first_in_list
  refused_short c l = (
    in_order a b room ∙ rw (c.left, c.right, eq-eqb (options a) (options b) (sym c.left_options ∙ c.right_options), lt-ltb room (5 * (size a + size b)) l),
    refl,
  )

  pub admits : {n : ℕ} → Comparable a b n → 5 * (size a + size b) ≤ room → Admits a b room (Ok n)
  unfolding first_in_list
  admits c l =
      record {
        comparable = c;
        long = l;
        passed = in_order a b room ∙ rw (c.left, c.right, eq-eqb (options a) (options b) (sym c.left_options ∙ c.right_options), le-ltb room (5 * (size a + size b)) l);
      }

-- what an admission tells
pub on_over : (a b : Runs) (room : ℕ) {r : Result ℕ Refusal} {n : ℕ} → Admits a b room r → r ≡ Ok n → Admitted a b room n
on_over a b room h e = subst (Admits a b room) e h

pub on_refused : (a b : Runs) (room : ℕ) {r : Result ℕ Refusal} {why : Refusal} → Admits a b room r → r ≡ Err why → Admits a b room (Err why)
on_refused a b room h e = subst (Admits a b room) e h

zeros_again : (was room : List ℕ) → length room ≡ length was → all_zero room ≡ all_zero was
zeros_again was room e = ap (λ (n : ℕ). replicate n 0) e

pub settleable : {a b : Runs} {n : ℕ} (was : List ℕ) {room : List ℕ} → Admitted a b (length was) n → room ≡ all_zero was → Settleable a b n room
settleable was {room} h z =
    let same : length room ≡ length was = ap length z ∙ length-replicate {A = ℕ} (length was) 0 in
    record { comparable = h.comparable; long = omega (arith, h.long); blank = z ∙ sym (zeros_again was room same) }

-- ---- the room at the start: no number but the terminals' is given

terminals : ℕ → Function
terminals p σ = cond (eqb p 1) true false

blank_pairs : (room : List ℕ) (end : ℕ) → room ≡ all_zero room → drop end room ≡ all_zero (drop end room)
blank_pairs room end z =
    ext_get_or 0 (drop end room) (all_zero (drop end room)) (sym (length-replicate {A = ℕ} (length (drop end room)) 0))
    (λ i l. get_or-drop end room i 0 ∙ ap (λ (xs : List ℕ). get_or xs (end + i) 0) z ∙ getD_zeros (length room) (end + i) ∙ sym (getD_zeros (length (drop end room)) i))

begun : (room : List ℕ) (end : ℕ) → room ≡ all_zero room → Meanings (drop end room) 2 terminals
unfolding terminals
begun room end z =
    let e = subst held.Empty (sym (blank_pairs room end z)) (empty (drop end room)) in
    record {
      sound = e.sound;
      least = omega arith;
      counted = omega (arith, e.none);
      off = λ σ. refl;
      on = λ σ. refl;
      keys = λ v links p s. absurd (e.absent v links p s);
    }

module _ {a b : Runs} {n : ℕ} {room : List ℕ} (h : Settleable a b n room) where
  pub settled_equal : (was : List ℕ) {t : Bool} → t ≡ same_runs a b → t ≡ true → Settled a b was was SameNumbers
  settled_equal was is e =
      record { done = refl; says = (same_path a b h.comparable.left h.comparable.right (sym is ∙ e), refl) }

  abbrev end : ℕ
  end = size a + size b

  pub left_numberable : Numberable a room 0 end 2
  unfolding pair_room
  left_numberable =
      let long = h.long in
      let few = (ordered_open a h.comparable.left).size_most in
      let some = (ordered_open b h.comparable.right).size_least in
      record {
        set = h.comparable.left;
        within = omega arith;
        long = omega arith;
        few = omega arith;
        places = omega (arith, length-drop end room);
        meaning = terminals;
        state = begun room end h.blank;
      }

  module _ {later : List ℕ} {m : ℕ} (t : (f : ℕ → Function) → Meanings (drop end room) 2 f → Numbered a room later 0 end f 2 m) (same : length later ≡ length room) where
    abbrev left : Numbered a room later 0 end terminals 2 m
    left = t terminals (begun room end h.blank)

    pub right_numberable : Numberable b later (size a) end m
    unfolding pair_room
    right_numberable =
        let long = h.long in
        let most = left.most in
        let few = (ordered_open a h.comparable.left).size_most in
        let some = (ordered_open b h.comparable.right).size_most in
        record {
          set = h.comparable.right;
          within = omega arith;
          long = omega arith;
          few = omega arith;
          places = omega (arith, length-drop end later);
          meaning = left.meaning;
          state = left.state;
        }

    module _ {last : List ℕ} {k : ℕ} (u : (f : ℕ → Function) → Meanings (drop end later) m f → Numbered b later last (size a) end f m k) (still : length last ≡ length later) where
      abbrev right : Numbered b later last (size a) end left.meaning m k
      right = u left.meaning left.state

      abbrev pairs : List ℕ
      pairs = drop end last

      abbrev f : ℕ → Function
      f = right.meaning

      abbrev left_number : ℕ → ℕ
      left_number = number_at last 0

      abbrev right_number : ℕ → ℕ
      right_number = number_at last (size a)

      before : (j : ℕ) → j < size a → left_number j ≡ number_at later 0 j
      before j l = number_alike later last 0 j (right.before (0 + j) (omega arith))

      left_named : (i : ℕ) → i < size a → Named a pairs f k left_number i
      left_named i l =
          let links : 2 ≤ i → (left_number (low_link_of a i) ≡ number_at later 0 (low_link_of a i)) × (left_number (high_link_of a i) ≡ number_at later 0 (high_link_of a i)) =
          λ d.
          let e = (ordered_open a h.comparable.left).layered.entry_on i d l in
          (before (low_link_of a i) (omega (arith, e.low)), before (high_link_of a i) (omega (arith, e.high))) in
          named_alike (named_grown (left.named i l) right.grown) left_number (before i l) links

      right_named : (j : ℕ) → j < size b → Named b pairs f k right_number j
      right_named = right.named

      -- an entry whose links have one number has that number; entries of one option whose links have the same numbers have the same
      own_alike : {v l g p : ℕ} → l ≡ g → Own pairs v l g p → p ≡ l
      own_alike e (passed d q) = q
      own_alike e (found ne s) = absurd (ne e)

      own_once : {v l g p q : ℕ} → Own pairs v l g p → Own pairs v l g q → p ≡ q
      own_once (passed d x) (passed e y) = x ∙ sym y
      own_once (passed d x) (found ne y) = absurd (ne d)
      own_once (found ne x) (passed e y) = absurd (ne e)
      own_once (found ne x) (found ng y) = one_result right.state.sound x y

      told_apart : Numbers a b left_number right_number
      told_apart =
          record {
            alike = λ i j l r e σ. sym ((left_named i l).means σ) ∙ ap (λ (p : ℕ). f p σ) e ∙ (right_named j r).means σ;
            left = λ i d l e. own_alike e ((left_named i l).own d);
            right = λ j d r e. own_alike e ((right_named j r).own d);
            both = λ i j d l c r v lo hi.
                let x : Own pairs (var_of b j) (right_number (low_link_of b j)) (right_number (high_link_of b j)) (left_number i) =
                rw (← v, ← lo, ← hi) ((left_named i l).own d) in
                own_once x ((right_named j r).own c);
          }

      left_root : root a < size a
      left_root = omega (arith, (ordered_open a h.comparable.left).size_least)

      right_root : root b < size b
      right_root = omega (arith, (ordered_open b h.comparable.right).size_least)

      pub settled_same : (was : List ℕ) {t : Bool} → t ≡ same_runs a b → t ≡ false → left_number (root a) ≡ right_number (root b) → Settled a b was was SameMeaning
      unfolding value
      settled_same was is d e =
          record { done = refl; says = (differ_path a b (sym is ∙ d), told_apart.alike (root a) (root b) left_root right_root e, refl) }

      pub settled_apart : left_number (root a) ≢ right_number (root b) → Apart a b n last
      settled_apart ne =
          record {
            comparable = h.comparable;
            long = let long = h.long in omega (arith, same, still);
            numbers = told_apart;
            differ = ne;
          }

-- ---- the whole

pub compares_refused : (a b : Runs) (was room : List ℕ) (why : Refusal) → Admits a b (length room) (Err why) → Compares a b was was room room (Err why)
unfolding refused_after
compares_refused a b was room why h =
    record {
      answer = rw h.0;
      says = refl;
      run = working_kept why h.1 room;
    }

pub compares : {a b : Runs} {n : ℕ} {was now room : List ℕ} (used : List ℕ) {back : List ℕ} {r : Comparison} → Admitted a b (length room) n → Settled a b was now r
    → length used ≡ length room → back ≡ all_zero used → Compares a b was now room back (Ok r)
unfolding working_after
compares {room = room} used {r = r} h s same z =
    record {
      answer = rw h.passed (ap (λ (k : ℕ). told k (told_comparison (Ok r)).values) s.done);
      says = s.says;
      run = z ∙ zeros_again room used same ∙ sym (ap (λ (k : ℕ). working_after k room) s.done);
    }
