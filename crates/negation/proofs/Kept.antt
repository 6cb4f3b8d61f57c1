-- A run of links as the loop negates it, what the runs hold where the layout is kept, and what a maker of a terminal promises
-- as a negation.
use Prim.Native.Nat.{ℕ, ◌+◌, ◌≤◌, ◌<◌, min}
use mathlib.Core.Path.{◌≡◌, sym, ap, ◌∙◌}
use mathlib.Core.Bool.{true, not, cond}
use mathlib.Core.List.{List, ◌++◌}
use native.Mathlib.Omega.{arith}
use lib.ListN.{length, get_or, take, drop, set}
use lib.Seq.{take_all}
use lib.Dec.{ltb}
use borrow.Author.Tests.{le-ltb}
use Rattle.bdd.specs.Bounds.{most_options}
use Rattle.bdd.specs.Array.{Entry, Runs, laid, size, ordered, options, entries_of}
use Rattle.bdd.specs.Pairs.{room}
use Rattle.bdd.specs.Jobs.{not_array, swapped_link}
use Rattle.bdd.specs.Answers.{Makes, maker_checks, set_checks, output_after, outputs_after}
use Rattle.bdd.specs.Lent.{Answer}
use Rattle.bdd.proofs.Makers.{maker_room, set_room, makes_same, by_room}
use Rattle.bdd.proofs.Meaning.{size_laid}
use Rattle.bdd.proofs.Negation.{swapped_links, swapped_length, swapped_at, swapped_runs, not_runs}
use Rattle.bdd.proofs.Ordered.{even_of, ordered_open}
use Rattle.lent.specs.Copied.{copied}
use Rattle.lent.proofs.Fronts.{Fronted, fronted_more}
use Rattle.negation.specs.Links.{negated_over}

pub links_more : (from : List ℕ) {was run : List ℕ} {i x : ℕ} → Fronted was (swapped_links from) run i → i < length from → i < length was
    → x ≡ cond (ltb i 2) (get_or from i 0) (swapped_link (get_or from i 0)) → Fronted was (swapped_links from) (set run i x) (i + 1)
links_more from {i = i} f l m e = fronted_more f m (omega (arith, swapped_length from)) (swapped_at from i l ∙ sym e)

module _ (a : Runs) (long : 3 ≤ size a) (low : length a.low ≡ size a) (high : length a.high ≡ size a) where
  kept : laid (not_array (entries_of a)) ≡ swapped_runs a
  kept = not_runs a (even_of a low high) long

  pub kept_length : size a ≡ length (not_array (entries_of a))
  kept_length = sym (ap size kept) ∙ size_laid (not_array (entries_of a))

  pub kept_outputs : (was now : Runs) → size a ≤ room was → now.variable ≡ copied was.variable a.variable (size a)
      → now.low ≡ negated_over a.low was.low → now.high ≡ negated_over a.high was.high
      → now ≡ outputs_after 0 (laid (not_array (entries_of a))) was
  unfolding output_after
  kept_outputs was now w v l h =
      let k : min (size a) (min (length was.variable) (size a)) ≡ size a = omega arith in
      let v' : now.variable ≡ a.variable ++ drop (size a) was.variable =
      v ∙ ap (λ (j : ℕ). take j a.variable ++ drop j was.variable) k
      ∙ ap (λ (r : List ℕ). r ++ drop (size a) was.variable) (take_all (size a) a.variable (omega arith)) in
      let l' = l ∙ ap (λ (j : ℕ). swapped_links a.low ++ drop j was.low) (sym (swapped_length a.low)) in
      let h' = h ∙ ap (λ (j : ℕ). swapped_links a.high ++ drop j was.high) (sym (swapped_length a.high)) in
      let laid-over : now ≡ outputs_after 0 (swapped_runs a) was =
      λ i. record { variable = v' i; low = l' i; high = h' i } in
      laid-over ∙ ap (λ (m : Runs). outputs_after 0 m was) (sym kept)

pub terminal_negation : (a : Runs) (n : ℕ) (terminal : ℕ → List Entry) {was now : Runs} {r : Answer} → ordered a ≡ true → n ≡ options a
    → not_array (entries_of a) ≡ terminal (options a) → Makes (maker_checks (ltb most_options n)) (terminal n) was now r
    → Makes (set_checks (not (ordered a))) (not_array (entries_of a)) was now r
terminal_negation a n terminal o e is m =
    let most : n ≤ most_options = omega (arith, (ordered_open a o).options_most) in
    makes_same by_room (maker_room (le-ltb _ _ most)) (set_room (ap not o)) (ap terminal e ∙ sym is) m
