-- An expression of demand 3: made from sets in signing order by operators, flips, negation, single quantifiers, selection and picking, a
-- set of any layout joining only after it was put in signing order. And its value, worked out from the values of the sets it starts with.
use Rattle.std.specs.Prelude.{ℕ, Bool, List, []}
use Rattle.bdd.specs.Array.{Runs}
use Rattle.bdd.specs.Value.{Function, value, with_option}
use Rattle.bdd.specs.Jobs.{operated, negated, exists, for_all, selected, picked, restricted}
use Rattle.bdd.specs.Lent.{Flip}

-- which order the array of an expression has
pub data Layout : Type 0 where
  signing : Layout
  any : Layout

pub data Expression : Layout → Type 0 where
  -- a set in signing order
  set : Runs → Expression signing
  -- by nine answers, the flips of the left set, of the right set and of the output
  operator : List ℕ → Flip → Flip → Flip → Expression signing → Expression signing → Expression signing
  negation : Expression signing → Expression signing
  existential : ℕ → Expression signing → Expression signing
  universal : ℕ → Expression signing → Expression signing
  selection : ℕ → Bool → Expression signing → Expression signing
  -- of a list of options
  picking : List ℕ → Expression signing → Expression signing
  put_in_order : Expression any → Expression signing
  -- an ordered set, in any layout
  loose_set : Runs → Expression any
  -- by n values, and by one option and a value
  restriction : {l : Layout} → List ℕ → Expression l → Expression any
  restriction_at : {l : Layout} → ℕ → Bool → Expression l → Expression any

-- the value over n options, step by step
unfoldable pub value_of : {l : Layout} → ℕ → Expression l → Function
value_of n (set a) = value a
value_of n (operator table left right output x y) = operated table left right output (value_of n x) (value_of n y)
value_of n (negation x) = negated (value_of n x)
value_of n (existential v x) = exists v (value_of n x)
value_of n (universal v x) = for_all v (value_of n x)
value_of n (selection v b x) = selected v b (value_of n x)
value_of n (picking vs x) = picked n vs (value_of n x)
value_of n (put_in_order x) = value_of n x
value_of n (loose_set a) = value a
value_of n (restriction values x) = restricted values (value_of n x)
value_of n (restriction_at v b x) = with_option v b (value_of n x)
