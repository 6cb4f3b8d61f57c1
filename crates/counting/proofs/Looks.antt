-- The loop that counts the reached tasks over a stack: at first the root; a look takes the top off, and where it is undecided and not
-- noted yet, notes it and puts its children on the stack. Ghost lists tell what is noted, what was seen and what waits, top first.
use Prim.Native.Nat.{ℕ, ◌+◌, ◌*◌, ◌-◌, ◌<◌, ◌≤◌}
use mathlib.Core.Path.{◌≡◌, refl}
use mathlib.Core.Logic.{◌⊎◌, inl, inr, ⊎_elim}
use mathlib.Core.Bool.{Bool, true, false, not}
use mathlib.Core.List.{List, [], ◌∷◌}
use native.Mathlib.Omega.{arith}
use lib.ListN.{length}
use Rattle.bdd.specs.Pairs.{Exploration, undecided_in, reached_in, different}
use Rattle.counting.proofs.Among.{In, here, there, in-cases, each}
use Rattle.counting.proofs.Reaching.{Reach, by_step, Falls}
use Rattle.counting.proofs.Noting.{Noting, Whole, noting_start, note_old, note_decided, note_new, note_below, whole}
use Rattle.counting.proofs.Stack.{Low, bottom, above, low_rest, low_most, low_room, low_child}

pub record Counting {T : Type 0} (x : Exploration T) (noted seen stack : List T) : Type 0 where
  pub noting : Noting x noted seen stack
  pub low : Low x stack

pub counted_start : {T : Type 0} (x : Exploration T) → Counting x [] [] (x.root ∷ [])
counted_start x = record { noting = noting_start x; low = above {p = x.root} {ps = []} (omega arith) bottom }

module _ {T : Type 0} {x : Exploration T} {noted seen stack : List T} {p : T} (c : Counting x noted seen (p ∷ stack)) where
  pub top_reached : Reach x p
  top_reached = c.noting.waiting_reached p (here refl)

  rest_reached : (q : T) → In q stack → Reach x q
  rest_reached q m = c.noting.waiting_reached q (there m)

  pub look_decided : undecided_in x p ≡ false → Counting x noted (p ∷ seen) stack
  look_decided d =
      record { noting = note_decided c.noting (here refl) (λ q m. in-cases m) rest_reached d; low = low_rest x c.low }

  pub look_known : In p noted → Counting x noted (p ∷ seen) stack
  look_known m =
      record { noting = note_old c.noting (here refl) (λ q m. in-cases m) rest_reached (λ u. m); low = low_rest x c.low }

  module _ (f : Falls x) (u : undecided_in x p ≡ true) where
    -- a place for two more
    pub push_fits : length stack + 2 ≤ 2 * x.options + 1
    push_fits = omega (arith, low_room x f c.low top_reached u)

    pub look_new : (In p noted → ⊥) → (b : Bool) → Counting x (p ∷ noted) (p ∷ seen) (x.child b p ∷ x.child (not b) p ∷ stack)
    look_new a b =
        record {
          noting =
              note_new c.noting (here refl) {now = x.child b p ∷ x.child (not b) p ∷ stack}
              (λ q m. ⊎_elim (λ e. inl e) (λ l. inr (there (there l))) (in-cases m))
              (each (λ q. Reach x q) (by_step top_reached u b) (each (λ q. Reach x q) (by_step top_reached u (not b)) rest_reached)) u a
              (pushed b);
          low =
              low_child x f c.low top_reached u b {qs = x.child (not b) p ∷ stack} (omega arith)
              (low_child x f c.low top_reached u (not b) (omega arith) (low_rest x c.low));
        }
      where
        pushed : (b d : Bool) → In (x.child d p) (x.child b p ∷ x.child (not b) p ∷ stack)
        pushed true true = here refl
        pushed false false = here refl
        pushed true false = there (here refl)
        pushed false true = there (here refl)

module _ {T : Type 0} {x : Exploration T} (f : Falls x) where
  pub height_most : {noted seen stack : List T} → Counting x noted seen stack → length stack ≤ 2 * x.options + 1
  height_most {stack = stack} c = low_most x f stack c.low c.noting.waiting_reached

  -- a task that is still to be noted: there is one more
  pub new_below : {noted seen stack : List T} {p : T} → Counting x noted seen (p ∷ stack) → undecided_in x p ≡ true
      → (In p noted → ⊥) → length noted < different x (reached_in x)
  new_below c u a = note_below f c.noting (here refl) u a

-- nothing waits
pub done : {T : Type 0} {x : Exploration T} {noted seen : List T} → Counting x noted seen [] → Falls x → Whole x noted seen
done c f = whole c.noting f

-- the looks that are left, where R tasks have room, k are noted and h wait: they fall by one with each look
abbrev pub left : ℕ → ℕ → ℕ → ℕ
left R k h = 2 * (R - k) + h
