-- "No step was refused": which arrays the calls of an expression wrote. Each step is the promise of its public call with the answer
-- done, S; its sets are the arrays that the steps before it wrote, and its array is the first S entries of its output.
use Rattle.std.specs.Prelude.{ℕ, ◌≡◌, Bool, true, not, List, [], None, Ok}
use Rattle.bdd.specs.Array.{Entry, Runs, laid, entries_of, entries_from, options, ordered}
use Rattle.bdd.specs.Signed.{in_signing_order}
use Rattle.bdd.specs.Jobs.{not_array}
use Rattle.bdd.specs.Pairs.{job}
use Rattle.bdd.specs.Answers.{Makes, set_checks}
use Rattle.bdd.specs.Operations.{Working, operation, Operates}
use Rattle.bdd.specs.Lent.{Flip, Limit}
use Rattle.operators.specs.Numbered.{numbered}
use Rattle.relation_ops.specs.Relations as relations
use Rattle.relation_ops.specs.Relations.{Relates}
use Rattle.relation_ops.specs.Picking as picks
use Rattle.relation_ops.specs.Picking.{Picks}
use Rattle.restriction.specs.Restricts as restricts
use Rattle.restriction.specs.Restricts.{ByList, ByOption}
use Rattle.expressions.specs.Expressions.{Layout, signing, any, Expression, set, operator, negation, existential, universal, selection, picking, put_in_order, loose_set, restriction, restriction_at}

-- over n options
pub data Writes (n : ℕ) : (l : Layout) → Expression l → List Entry → Type 0 where
  of_set : (a : Runs) → in_signing_order a ≡ true → options a ≡ n → Writes n signing (set a) (entries_of a)
  of_operator : {table : List ℕ} {left right output : Flip} {x y : Expression signing} {xs ys : List Entry}
      {limit : Limit} {was now : Runs} {lent back : Working} {s : ℕ}
      → Writes n signing x xs → Writes n signing y ys
      → Operates (operation (job (laid xs) (laid ys) table left right) output limit) was now lent back (Ok s)
      → Writes n signing (operator table left right output x y) (entries_from now 0 s)
  of_negation : {x : Expression signing} {xs : List Entry} {was now : Runs} {s : ℕ}
      → Writes n signing x xs
      → Makes (set_checks (not (ordered (laid xs)))) (not_array (entries_of (laid xs))) was now (Ok s)
      → Writes n signing (negation x) (entries_from now 0 s)
  of_existential : {v : ℕ} {x : Expression signing} {xs : List Entry} {was now : Runs} {lent back : Working} {s : ℕ}
      → Writes n signing x xs
      → Relates (relations.existential (laid xs) v) was now lent back (Ok s)
      → Writes n signing (existential v x) (entries_from now 0 s)
  of_universal : {v : ℕ} {x : Expression signing} {xs : List Entry} {was now : Runs} {lent back : Working} {s : ℕ}
      → Writes n signing x xs
      → Relates (relations.universal (laid xs) v) was now lent back (Ok s)
      → Writes n signing (universal v x) (entries_from now 0 s)
  of_selection : {v : ℕ} {b : Bool} {x : Expression signing} {xs : List Entry} {was now : Runs} {lent back : Working} {s : ℕ}
      → Writes n signing x xs
      → Relates (relations.selection (laid xs) v b) was now lent back (Ok s)
      → Writes n signing (selection v b x) (entries_from now 0 s)
  of_picking : {vs : List ℕ} {x : Expression signing} {xs : List Entry} {was now : Runs} {lent back : Working} {spare given_back : Runs} {s : ℕ}
      → Writes n signing x xs
      → Picks (picks.picking (laid xs) vs) was now lent back spare given_back (Ok s)
      → Writes n signing (picking vs x) (entries_from now 0 s)
  -- the signing order of a set: the and of the set with itself
  of_order : {x : Expression any} {xs : List Entry} {was now : Runs} {lent back : Working} {s : ℕ}
      → Writes n any x xs
      → Operates (operation (job (laid xs) (laid xs) (numbered 8) None None) None None) was now lent back (Ok s)
      → Writes n signing (put_in_order x) (entries_from now 0 s)
  of_loose_set : (a : Runs) → ordered a ≡ true → options a ≡ n → Writes n any (loose_set a) (entries_of a)
  of_restriction : {l : Layout} {values : List ℕ} {x : Expression l} {xs : List Entry} {was now : Runs} {lent back : restricts.Working} {s : ℕ}
      → Writes n l x xs
      → ByList (laid xs) values was now lent back (Ok s)
      → Writes n any (restriction values x) (entries_from now 0 s)
  of_restriction_at : {l : Layout} {v : ℕ} {b : Bool} {x : Expression l} {xs : List Entry} {was now : Runs} {lent back : restricts.Working} {s : ℕ}
      → Writes n l x xs
      → ByOption (laid xs) v b was now lent back (Ok s)
      → Writes n any (restriction_at v b x) (entries_from now 0 s)
