-- "Settled on paper, n = 2": the rows of picking through its steps, with room for 8 entries and 8 pairs, by one computed claim; and what
-- the steps refuse though the last array would fit.
use Prim.Native.Nat.{ℕ}
use mathlib.Core.Path.{◌≡◌, refl}
use mathlib.Core.List.{List, [], ◌∷◌, ◌++◌}
use lib.ListN.{replicate}
use Rattle.bdd.specs.Array.{Entry, entry, laid, entries_from, every, same_entry, ordered, layered, bounded, even, placed, inner}
use Rattle.bdd.specs.Value.{value, value_at, follow, chosen, put}
use Rattle.bdd.specs.Signed.{signed, write, decide, add, find}
use Rattle.bdd.specs.Table.{operator, filled, bit, digits, answer, all_of, inputs, fillings, good, sound, made_known, known}
use Rattle.bdd.specs.Jobs.{operated, switched, exists, selected, listed, true_array}
use Rattle.bdd.specs.Pairs.{count, decision, asked, flipped, moved, child, next, roots, within, reached, among, different, tasks, pair_room}
use Rattle.bdd.specs.Answers.{paper_order, row_in, comes_first, first_of_two, first_refusal, over_limit, no_room}
use Rattle.bdd.specs.Operations.{Working, working}
use Rattle.bdd.specs.declared.Refusal.TheVariants.{NoRoom}
use Rattle.operators.specs.Numbered.{numbered}
use Rattle.relation_ops.specs.Picking.{Outcome, wrote, stopped, pick_steps, greatest_first}

abbrev runs_for_8 : Working
runs_for_8 = working (replicate 32 0) (replicate 5 0) (replicate 8 0)

-- x0 or x1
abbrev either : List Entry
either = true_array 2 ++ (entry 1 0 1 ∷ entry 0 2 1 ∷ [])

-- picked from it, into room W
abbrev from_either : List ℕ → ℕ → Outcome
from_either vs W = pick_steps runs_for_8 W (greatest_first vs 2) (laid either)

settled : (from_either (0 ∷ []) 8 ∷ from_either (0 ∷ 1 ∷ []) 8 ∷ from_either (1 ∷ 0 ∷ []) 4 ∷ from_either [] 4 ∷ from_either [] 3 ∷ [])
    ≡ (wrote (true_array 2 ++ (entry 1 1 0 ∷ entry 1 0 1 ∷ entry 0 3 2 ∷ []))
    ∷ wrote (true_array 2 ++ (entry 1 0 1 ∷ entry 0 2 0 ∷ []))
    ∷ stopped NoRoom
    ∷ wrote either
    ∷ stopped NoRoom
    ∷ [])
unfolding pick_steps greatest_first numbered entries_from every same_entry value value_at follow chosen put signed write decide add find operator filled bit digits answer all_of inputs fillings good sound made_known known operated switched exists selected listed count decision asked flipped moved child next roots within reached among different tasks pair_room paper_order row_in comes_first first_of_two first_refusal over_limit no_room ordered layered bounded even placed inner
settled = refl
