-- Two statements that are weaker than the theorem, and why they would not do: one that a constant array meets, and one that leaves out a
-- kind of step.
use Rattle.std.specs.Prelude.{Ok}
use Prim.Native.Nat.{ℕ}
use mathlib.Core.Path.{◌≡◌, refl, sym, ap, ◌∙◌}
use mathlib.Core.Bool.{Bool, true, false, cond, ◌&&◌}
use mathlib.Core.List.{List, [], ◌∷◌, ◌++◌}
use mathlib.Core.Option.{none}
use native.Mathlib.Omega.{arith}
use lib.ListN.{length, replicate}
use Rattle.bdd.specs.Array.{Entry, Runs, runs, laid, entries_from, same_entry, every, ordered, layered, bounded, even, placed, inner}
use Rattle.bdd.specs.Value.{Setting, value, value_at, follow, chosen}
use Rattle.bdd.specs.Signed.{signed, write, decide, add, find, in_order, same_runs}
use Rattle.bdd.specs.Jobs.{digit, true_array, false_array}
use Rattle.bdd.specs.Answers.{outputs_after, output_after, first_refusal, first_of_two, comes_first, row_in, paper_order, no_room}
use Rattle.bdd.specs.Operations.{Working, working}
use Rattle.bdd.proofs.Refusing.{first_in_list}
use Rattle.relation_ops.specs.Picking as picks
use Rattle.relation_ops.specs.Picking.{Picks, pick_steps, greatest_first, some_beyond, repeats}
use Rattle.relation_ops.proofs.Whole.{picks_done}
use Rattle.expressions.specs.Expressions.{Layout, signing, any, Expression, set, operator, negation, existential, universal, selection, picking, put_in_order, loose_set, restriction, restriction_at, value_of}
use Rattle.expressions.specs.Writing.{Writes, of_set}
use Rattle.expressions.proofs.Theorem.{same_array, same_value}

-- which array an expression has
abbrev Way : Type 1
Way = Expression signing → List Entry → Type 0

-- one half of the theorem: the same value, the same array
abbrev SameArray : ℕ → Way → Type 0
SameArray n way = (x y : Expression signing) (es fs : List Entry) → way x es → way y fs → ((σ : Setting) → value_of n x σ ≡ value_of n y σ) → es ≡ fs

-- the other
abbrev SameValue : ℕ → Way → Type 0
SameValue n way = (x y : Expression signing) (es fs : List Entry) → way x es → way y fs → es ≡ fs → (σ : Setting) → value_of n x σ ≡ value_of n y σ

-- what the calls do
abbrev by_calls : ℕ → Way
by_calls n x es = Writes n signing x es

whole : (n : ℕ) → SameArray n (by_calls n) × SameValue n (by_calls n)
whole n = (λ x y es fs w u. same_array w u, λ x y es fs w u. same_value w u)

-- ---- a constant array

abbrev constant : List Entry → Way
constant c x es = es ≡ c

constant_meets_half : (n : ℕ) (c : List Entry) → SameArray n (constant c)
constant_meets_half n c x y es fs w u same = w ∙ sym u

-- but true and false do not have the same value
constant_fails : (n : ℕ) (c : List Entry) → SameValue n (constant c) → ⊥
unfolding value_of value value_at follow chosen
constant_fails n c whole =
    let e : true ≡ false = at_all_off (whole (set (laid (true_array n))) (set (laid (false_array n))) c c refl refl refl) in
    let z : ◌≡◌ {A = ℕ} 1 0 = ap digit e in
    omega arith
  where
    at_all_off : ((σ : Setting) → value_of n (set (laid (true_array n))) σ ≡ value_of n (set (laid (false_array n))) σ) → true ≡ false
    at_all_off same = same (λ i. false)

-- ---- a kind of step that is left out

-- no step of the expression picks
unfoldable no_picking : {l : Layout} → Expression l → Bool
no_picking (set a) = true
no_picking (operator table left right output x y) = no_picking x && no_picking y
no_picking (negation x) = no_picking x
no_picking (existential v x) = no_picking x
no_picking (universal v x) = no_picking x
no_picking (selection v b x) = no_picking x
no_picking (picking vs x) = false
no_picking (put_in_order x) = no_picking x
no_picking (loose_set a) = true
no_picking (restriction values x) = no_picking x
no_picking (restriction_at v b x) = no_picking x

record WithoutPicking (n : ℕ) (x : Expression signing) (es : List Entry) : Type 0 where
  calls : Writes n signing x es
  never : no_picking x ≡ true

-- both halves hold of it
left_out_meets_whole : (n : ℕ) → SameArray n (WithoutPicking n) × SameValue n (WithoutPicking n)
left_out_meets_whole n = (λ x y es fs w u. same_array w.calls u.calls, λ x y es fs w u. same_value w.calls u.calls)

-- but a picking that was done is a step, as `of_picking` has it
record TakesPicking (n : ℕ) (way : Way) : Type 0 where
  step : {vs : List ℕ} {x : Expression signing} {xs : List Entry} {was now : Runs} {lent back : Working} {spare given_back : Runs} {s : ℕ}
      → way x xs → Picks (picks.picking (laid xs) vs) was now lent back spare given_back (Ok s) → way (picking vs x) (entries_from now 0 s)

-- nothing is picked of true over no options, with room for its two entries
abbrev zeros : ℕ → List ℕ
zeros k = replicate k 0

abbrev room_for_2 : Runs
room_for_2 = runs (zeros 2) (zeros 2) (zeros 2)

abbrev spare_runs : Runs
spare_runs = runs (zeros 8) (zeros 8) (zeros 8)

abbrev runs_lent : Working
runs_lent = working [] (zeros 1) (zeros 2)

picked_nothing : Picks (picks.picking (laid (true_array 0)) []) room_for_2 (laid (true_array 0)) runs_lent runs_lent spare_runs spare_runs (Ok 2)
unfolding output_after first_in_list first_refusal pick_steps greatest_first some_beyond repeats entries_from no_room ordered layered bounded even every placed inner same_entry
picked_nothing =
    picks_done (picks.picking (laid (true_array 0)) []) room_for_2 runs_lent spare_runs refl (laid (true_array 0)) runs_lent spare_runs
    (record { pairs = refl; stack = refl; index = refl; variable = refl; low = refl; high = refl }) refl refl

left_out_fails : TakesPicking 0 (WithoutPicking 0) → ⊥
unfolding no_picking in_order same_runs entries_from value value_at follow chosen signed write decide add find ordered layered bounded even every placed inner same_entry
left_out_fails takes =
    let none-picked = takes.step {xs = true_array 0} (record { calls = of_set (laid (true_array 0)) refl refl; never = refl }) picked_nothing in
    let z : ◌≡◌ {A = ℕ} 0 1 = ap digit none-picked.never in
    omega arith
