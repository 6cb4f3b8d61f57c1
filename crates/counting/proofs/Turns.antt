-- The loop as code keeps it: a run and a height for the stack, any predicate for what is noted, a number for how many, and
-- a flag. The ghost lists are inside; each turn and each way out is one law over plain variables: `height` before the top is
-- taken off, h after it, p the task that the top stands for.
use Prim.Native.Nat.{ℕ, ◌+◌, ◌*◌, ◌<◌, ◌≤◌}
use mathlib.Core.Path.{◌≡◌, refl, sym, ap, ◌∙◌}
use mathlib.Core.Logic.{◌⊎◌}
use mathlib.Core.Bool.{Bool, true, false, not, ◌||◌}
use mathlib.Core.List.{List, [], ◌∷◌}
use native.Mathlib.Omega.{arith}
use lib.ListN.{length, get_or, set}
use Rattle.bdd.specs.Pairs.{Exploration, undecided_in, on_in, reached_in, different, some_on}
use Rattle.counting.proofs.Among.{Keeps, keeps_none, keeps_more}
use Rattle.counting.proofs.Reaching.{Reach, Falls}
use Rattle.counting.proofs.Stack.{stacked, stacked_length, stacked_top, stacked_push, stacked_push_two}
use Rattle.counting.proofs.Noting.{flag_undecided}
use Rattle.counting.proofs.Looks.{Counting, counted_start, top_reached, look_decided, look_known, look_new, push_fits, new_below, height_most, done}

pub record Tally {T : Type 0} (x : Exploration T) (task : ℕ → T) (Noted : T → Type 0) (run : List ℕ) (height k : ℕ) (on : Bool) : Type 0 where
  pub noted : List T
  pub seen : List T
  pub counted : Counting x noted seen (stacked task run height)
  pub keeps : Keeps Noted noted
  pub number : k ≡ length noted
  pub flag : on ≡ some_on x seen

pub tally_start : {T : Type 0} (x : Exploration T) (task : ℕ → T) (Noted : T → Type 0) (run : List ℕ) (v : ℕ) → 0 < length run
    → task v ≡ x.root → ((p : T) → Noted p → ⊥) → Tally x task Noted (set run 0 v) 1 0 false
unfolding some_on
tally_start {T} x task Noted run v l e h =
    let one : stacked task (set run 0 v) 1 ≡ x.root ∷ [] =
    stacked_push task run 0 1 v l refl ∙ ap (λ (p : T). p ∷ []) e in
    record {
      noted = [];
      seen = [];
      counted = rw one (counted_start x);
      keeps = keeps_none Noted h;
      number = refl;
      flag = refl;
    }

module _ {T : Type 0} {x : Exploration T} {task : ℕ → T} {Was : T → Type 0} {run : List ℕ} {height k : ℕ} {on : Bool}
    (t : Tally x task Was run height k on) where
  pub tally_height : Falls x → height ≤ 2 * x.options + 1
  tally_height f = omega (arith, height_most f t.counted, stacked_length task run height)

  module _ (h : ℕ) (p : T) (e : height ≡ h + 1) (top : task (get_or run h 0) ≡ p) where
    opened : Counting x t.noted t.seen (p ∷ stacked task run h)
    opened = rw (stacked_top task run height h (omega arith), top) at t.counted

    pub tally_reached : Reach x p
    tally_reached = top_reached opened

    -- decided: the flag is set where it is decided as on
    pub tally_decided : undecided_in x p ≡ false → Tally x task Was run h k (on_in x p || on)
    unfolding some_on
    tally_decided d =
        record {
          noted = t.noted;
          seen = p ∷ t.seen;
          counted = look_decided opened d;
          keeps = t.keeps;
          number = t.number;
          flag = ap (λ (b : Bool). on_in x p || b) t.flag;
        }

    module _ (u : undecided_in x p ≡ true) where
      same_flag : on ≡ some_on x (p ∷ t.seen)
      same_flag = t.flag ∙ sym (flag_undecided x p t.seen u)

      -- noted already
      pub tally_known : Was p → Tally x task Was run h k on
      tally_known w =
          record {
            noted = t.noted;
            seen = p ∷ t.seen;
            counted = look_known opened (t.keeps.listed p w);
            keeps = t.keeps;
            number = t.number;
            flag = same_flag;
          }

      -- two places more are there
      pub tally_fits : Falls x → h + 2 ≤ 2 * x.options + 1
      tally_fits f = omega (arith, push_fits opened f u, stacked_length task run h)

      module _ (f : Falls x) (absent : Was p → ⊥) where
        -- there is a task more than are noted
        pub tally_below : k < different x (reached_in x)
        tally_below = omega (arith, t.number, new_below f opened u (λ m. absent (t.keeps.holds p m)))

        -- noted now, and its children wait, the one on side b on top
        pub tally_new : {Now : T → Type 0} (b : Bool) (v w : ℕ) → task v ≡ x.child (not b) p → task w ≡ x.child b p → h + 1 < length run
            → Now p → ((q : T) → Was q → Now q) → ((q : T) → Now q → (q ≡ p) ⊎ Was q)
            → Tally x task Now (set (set run h v) (h + 1) w) (h + 2) (k + 1) on
        tally_new b v w ev ew l new kept only =
            let two : stacked task (set (set run h v) (h + 1) w) (h + 2) ≡ x.child b p ∷ x.child (not b) p ∷ stacked task run h =
            stacked_push_two task run h v w l ∙ rw (ev, ew) in
            record {
              noted = p ∷ t.noted;
              seen = p ∷ t.seen;
              counted = rw two (look_new opened f u (λ m. absent (t.keeps.holds p m)) b);
              keeps = keeps_more t.keeps new kept only;
              number = omega (arith, t.number);
              flag = same_flag;
            }

-- nothing waits: the number is c, and the flag says whether it can hold
pub record Totals {T : Type 0} (x : Exploration T) (k : ℕ) (on : Bool) : Type 0 where
  pub counted : k ≡ different x (reached_in x)
  pub holds : on ≡ some_on x (reached_in x)

pub tally_done : {T : Type 0} {x : Exploration T} {task : ℕ → T} {Noted : T → Type 0} {run : List ℕ} {height k : ℕ} {on : Bool} → Falls x
    → Tally x task Noted run height k on → height ≡ 0 → Totals x k on
tally_done {x = x} {task} {run = run} f t e =
    let empty : Counting x t.noted t.seen [] = rw e at t.counted in
    let whole = done empty f in
    record { counted = t.number ∙ whole.counted; holds = t.flag ∙ whole.held }
