-- The frames of the stack, two numbers for each open pair. The first is the pair's node, doubled, and one more where its other child is
-- awaited. The second is the other child as one number while the first child is awaited, then the number at which that one ended.
use Rattle.std.specs.Prelude.{ℕ, zero, suc, ◌+◌, ◌*◌, ◌/◌, ◌%◌, Bool, cond, List, [], ◌∷◌, get_or, set, eqb}

pub record Frame : Type 0 where
  pub node : ℕ
  pub turned : Bool
  pub number : ℕ

abbrev pub frame : ℕ → Bool → ℕ → Frame
frame i b w = record { node = i; turned = b; number = w }

abbrev pub frame_of : ℕ → ℕ → Frame
frame_of a w = frame (a / 2) (eqb (a % 2) 1) w

-- the k frames of the stack, the top first
abbrev pub frames : List ℕ → ℕ → List Frame
frames stack zero = []
frames stack (suc k) = frame_of (get_or stack (2 * k) 0) (get_or stack (2 * k + 1) 0) ∷ frames stack k

-- the stack with another frame k
abbrev pub framed : List ℕ → ℕ → ℕ → ℕ → List ℕ
framed stack k a w = set (set stack (2 * k) a) (2 * k + 1) w

-- how often the way still comes back to the open pairs: twice, or once where the other child is awaited
abbrev pub returns : List Frame → ℕ
returns [] = 0
returns (f ∷ fs) = cond f.turned 1 2 + returns fs
