-- What follows from the operators' promise, for the files that are hashed: the array has the value that the paper gives the job,
-- is in signing order and has at most c + 2 entries, and two jobs over the same options have the same array exactly where they
-- have the same value.
use Rattle.std.specs.Prelude.{None}
use Prim.Native.Nat.{◌+◌, ◌≤◌}
use mathlib.Core.Path.{◌≡◌, refl, sym, ap, ◌∙◌, fun_ext}
use mathlib.Core.Bool.{Bool, true, false}
use mathlib.Core.List.{List, [], ◌∷◌}
use lib.ListN.{length}
use lib.Dec.{eqb}
use Rattle.bdd.specs.Bounds.{most_entries}
use Rattle.bdd.specs.Array.{Entry, Runs, laid, options, same_entry}
use Rattle.bdd.specs.Value.{Setting, Of, value, value_at, follow, chosen, put}
use Rattle.bdd.specs.Signed.{signed, write, decide, add, find, high_first, in_signing_order}
use Rattle.bdd.specs.Table.{answer, digits, operator, filled, bit, all_of, inputs, fillings}
use Rattle.bdd.specs.Jobs.{operated, switched, digit, literal_array}
use Rattle.bdd.specs.Pairs.{Checked, job, count, decision, asked, flipped, moved, child, next, roots, within, reached, among, different}
use Rattle.bdd.specs.Lent.{Limit}
use Rattle.bdd.proofs.Ordered.{ordered_open}
use Rattle.bdd.proofs.Meaning.{signed_value, every_function_has_one}
use Rattle.bdd.specs.Operations.{Operation, operation, meant, made}
use Rattle.pairs.proofs.Pairs as pairs
use Rattle.operators.specs.Numbered.{numbered}

module _ (o : Operation) (checked : Checked o.job) where
  of_options : Of (options o.job.left) (meant o)
  of_options = pairs.result_of checked o.output

  pub operator_value : (σ : Setting) → value (laid (made o)) σ ≡ meant o σ
  operator_value = signed_value high_first (options o.job.left) (meant o) of_options

  pub operator_signed : length (made o) ≤ most_entries → in_signing_order (laid (made o)) ≡ true
  operator_signed l =
      every_function_has_one high_first (options o.job.left) (meant o) of_options (ordered_open _ checked.left).options_most l

  -- S is at most c + 2, whatever is answered
  pub size_most : length (made o) ≤ count o.job + 2
  size_most = pairs.size_most checked o.output

-- x0 and x0, where S is c + 2
abbrev pub both_x0 : Operation
both_x0 = let x0 = laid (literal_array 2 0 true) in operation (job x0 x0 (operator 8) None None) None None

pub size_met : (count both_x0.job ≡ 1) × (length (made both_x0) ≡ 3)
unfolding value value_at follow chosen put signed write decide add find same_entry operator filled bit digits answer all_of inputs fillings operated switched count decision asked flipped moved child next roots within reached among different
size_met = (refl, refl)

-- the same value at every setting, the same array
pub same_array : (o p : Operation) → options o.job.left ≡ options p.job.left → ((σ : Setting) → meant o σ ≡ meant p σ) → made o ≡ made p
same_array o p e h = λ i. signed high_first (e i) (fun_ext h i)

-- and the other way round
pub same_value : (o p : Operation) → Checked o.job → Checked p.job → made o ≡ made p → (σ : Setting) → meant o σ ≡ meant p σ
same_value o p c d e σ = sym (operator_value o c σ) ∙ ap (λ (es : List Entry). value (laid es) σ) e ∙ operator_value p d σ

-- the and of a set with itself is the set's own function: module 6 writes its signing order
twice : (b : Bool) → eqb (answer (operator 8) (digit b ∷ digit b ∷ [])) 1 ≡ b
unfolding answer digits operator filled bit all_of inputs fillings
twice true = refl
twice false = refl

pub signing_order_array : (a : Runs) (limit : Limit) → made (operation (job a a (numbered 8) None None) None limit) ≡ signed high_first (options a) (value a)
unfolding numbered operated switched
signing_order_array a limit = ap (signed high_first (options a)) (fun_ext (λ σ. twice (value a σ)))
