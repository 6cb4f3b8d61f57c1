-- The tests of an array as facts with names, both ways: `ordered a ≡ true` holds exactly where the record does.
--
use Prim.Native.Nat.{ℕ, zero, suc, ◌<◌, ◌≤◌}
use mathlib.Core.Path.{◌≡◌, refl, sym, ◌∙◌}
use mathlib.Core.Bool.{true, ◌&&◌}
use native.Mathlib.Omega.{arith}
use lib.ListN.{length}
use lib.Dec.{eqb, leb, ltb}
use borrow.Author.Tests.{eqb-true, eq-eqb, leb-true, le-leb, ltb-true, lt-ltb}
use Rattle.bdd.specs.Bounds.{most_options, most_entries}
use Rattle.bdd.specs.Array.{Runs, entry, entry_of, size, options, var_of, low_link_of, high_link_of, every, even, bounded, inner, placed, layered, ordered, same_entry}
use Rattle.bdd.proofs.Logic.{and_left, and_right, and_both, every_at, every_of, same_entry_path, same_entry_of}

-- an entry from 2 on
pub record Inner (a : Runs) (i : ℕ) : Type 0 where
  pub variable : var_of a i < options a
  pub low : low_link_of a i < i
  pub high : high_link_of a i < i
  pub low_variable : var_of a i < var_of a (low_link_of a i)
  pub high_variable : var_of a i < var_of a (high_link_of a i)

pub record Layered (a : Runs) : Type 0 where
  pub low_length : length a.low ≡ size a
  pub high_length : length a.high ≡ size a
  pub entry_0 : 0 < size a → entry_of a 0 ≡ entry (options a) 0 0
  pub entry_1 : 1 < size a → entry_of a 1 ≡ entry (options a) 1 1
  pub entry_on : (i : ℕ) → 2 ≤ i → i < size a → Inner a i

pub record Ordered (a : Runs) : Type 0 where
  pub options_most : options a ≤ most_options
  pub size_least : 1 ≤ size a
  pub size_most : size a ≤ most_entries
  pub layered : Layered a

pub inner_open : (a : Runs) (i : ℕ) → inner a i ≡ true → Inner a i
unfolding inner
inner_open a i e =
    let v = ltb (var_of a i) (options a) in
    let l = ltb (low_link_of a i) i in
    let h = ltb (high_link_of a i) i in
    let lv = ltb (var_of a i) (var_of a (low_link_of a i)) in
    let hv = ltb (var_of a i) (var_of a (high_link_of a i)) in
    let links = and_right v (l && h) (and_left (v && (l && h)) (lv && hv) e) in
    let vars = and_right (v && (l && h)) (lv && hv) e in
    record {
      variable = ltb-true _ _ (and_left v (l && h) (and_left (v && (l && h)) (lv && hv) e));
      low = ltb-true _ _ (and_left l h links);
      high = ltb-true _ _ (and_right l h links);
      low_variable = ltb-true _ _ (and_left lv hv vars);
      high_variable = ltb-true _ _ (and_right lv hv vars);
    }

pub inner_close : (a : Runs) (i : ℕ) → Inner a i → inner a i ≡ true
unfolding inner
inner_close a i h =
    and_both _ _
    (and_both _ _ (lt-ltb _ _ h.variable) (and_both _ _ (lt-ltb _ _ h.low) (lt-ltb _ _ h.high)))
    (and_both _ _ (lt-ltb _ _ h.low_variable) (lt-ltb _ _ h.high_variable))

pub placed_terminal : (a : Runs) (i : ℕ) → i < 2 → placed a i ≡ same_entry (entry_of a i) (entry (options a) i i)
unfolding placed
placed_terminal a zero l = refl
placed_terminal a (suc zero) l = refl
placed_terminal a (suc (suc i)) l = absurd (omega arith)

pub placed_inner : (a : Runs) (i : ℕ) → 2 ≤ i → placed a i ≡ inner a i
unfolding placed
placed_inner a zero l = absurd (omega arith)
placed_inner a (suc zero) l = absurd (omega arith)
placed_inner a (suc (suc i)) l = refl

pub placed_close : (a : Runs) → Layered a → (i : ℕ) → i < size a → placed a i ≡ true
unfolding placed
placed_close a h zero l = same_entry_of _ _ (h.entry_0 l)
placed_close a h (suc zero) l = same_entry_of _ _ (h.entry_1 l)
placed_close a h (suc (suc i)) l = inner_close a (suc (suc i)) (h.entry_on (suc (suc i)) (omega arith) l)

pub layered_open : (a : Runs) → layered a ≡ true → Layered a
unfolding layered even placed
layered_open a e =
    let lengths = and_left (even a) (every (size a) (placed a)) e in
    let each = every_at (size a) (placed a) (and_right (even a) (every (size a) (placed a)) e) in
    record {
      low_length = eqb-true _ _ (and_left (eqb (length a.low) (size a)) (eqb (length a.high) (size a)) lengths);
      high_length = eqb-true _ _ (and_right (eqb (length a.low) (size a)) (eqb (length a.high) (size a)) lengths);
      entry_0 = λ l. same_entry_path _ _ (each 0 l);
      entry_1 = λ l. same_entry_path _ _ (each 1 l);
      entry_on = λ i k l. inner_open a i (sym (placed_inner a i k) ∙ each i l);
    }

pub even_of : (a : Runs) → length a.low ≡ size a → length a.high ≡ size a → even a ≡ true
unfolding even
even_of a low high = and_both _ _ (eq-eqb _ _ low) (eq-eqb _ _ high)

pub layered_close : (a : Runs) → Layered a → layered a ≡ true
unfolding layered
layered_close a h =
    and_both _ _ (even_of a h.low_length h.high_length)
    (every_of (size a) (placed a) (placed_close a h))

pub ordered_open : (a : Runs) → ordered a ≡ true → Ordered a
unfolding ordered bounded
ordered_open a e =
    let n = leb (options a) most_options in
    let some = leb 1 (size a) in
    let most = leb (size a) most_entries in
    let bounds = and_left (bounded (options a) (size a)) (layered a) e in
    record {
      options_most = leb-true _ _ (and_left n some (and_left (n && some) most bounds));
      size_least = leb-true _ _ (and_right n some (and_left (n && some) most bounds));
      size_most = leb-true _ _ (and_right (n && some) most bounds);
      layered = layered_open a (and_right (bounded (options a) (size a)) (layered a) e);
    }

-- what a pass over the entries gives
pub ordered_of : (a : Runs) → options a ≤ most_options → 1 ≤ size a → size a ≤ most_entries → length a.low ≡ size a → length a.high ≡ size a → ((i : ℕ) → i < size a → placed a i ≡ true) → ordered a ≡ true
unfolding ordered bounded layered
ordered_of a n some most low high each =
    and_both _ _ (and_both _ _ (and_both _ _ (le-leb _ _ n) (le-leb _ _ some)) (le-leb _ _ most))
    (and_both _ _ (even_of a low high) (every_of (size a) (placed a) each))

pub ordered_close : (a : Runs) → Ordered a → ordered a ≡ true
ordered_close a h =
    ordered_of a h.options_most h.size_least h.size_most h.layered.low_length h.layered.high_length
    (placed_close a h.layered)
