-- The exploration that keeps its open tasks as a path from the root: each has its first child open, or its other child, and is written
-- when both have ended. What is ahead of the task that is awaited and of the open ones below it is always what the root had ahead.
use Prim.Native.Nat.{ℕ, ◌+◌, ◌<◌, ◌≤◌}
use mathlib.Core.Path.{◌≡◌, refl, sym, ap, ◌∙◌}
use mathlib.Core.Bool.{Bool, true, false, cond}
use mathlib.Core.List.{List, [], ◌∷◌}
use native.Mathlib.Omega.{arith}
use lib.ListN.{length}
use Rattle.bdd.specs.Array.{Entry}
use Rattle.bdd.specs.Signed.{Written, decide, signed}
use Rattle.bdd.specs.Pairs.{Exploration}
use Rattle.bdd.proofs.Written.{Grown}
use Rattle.tasks.proofs.Finished.{Finished, finished, signed_length}
use Rattle.tasks.proofs.Tasks.{Tasks, Waits, Settled, Settles, near, other, ahead, ahead_grows, passed, pushed_first, pushed_other, settles}

module _ {first : Bool} {T : Type 0} {x : Exploration T} (t : Tasks first x) where
  -- the awaited task on top of the open ones will have written the array of the root
  pub record Writes (ps : List T) (es : List Entry) : Type 0 where
    pub same : ahead t ps es ≡ ahead t (x.root ∷ []) []

  pub root_awaited : Writes (x.root ∷ []) []
  root_awaited = record { same = refl }

  module _ {p : T} {es : List Entry} (ps : List T) (waits : Waits t p) where
    -- p is opened: its first child is awaited
    pub opened : Writes (p ∷ ps) es → Writes (near t p ∷ p ∷ ps) es
    opened w = record { same = pushed_first t p ps es waits ∙ w.same }

    module _ {y : ℕ} (near_is : Settled t es (near t p) y) where
      passed_near : Writes (near t p ∷ p ∷ ps) es → ahead t (p ∷ ps) es ≡ ahead t (x.root ∷ []) []
      passed_near w = sym (passed t (p ∷ ps) near_is) ∙ w.same

      -- the first child has ended: the other is awaited
      pub turned : Writes (near t p ∷ p ∷ ps) es → Writes (other t p ∷ p ∷ ps) es
      turned w = record { same = pushed_other t ps waits near_is ∙ passed_near w }

      -- both have ended
      module _ {z : ℕ} (other_is : Settled t es (other t p) z) {r : Written} (decides : decide first (x.asked p) y z es ≡ r) where
        settling : Settles t p ps es r
        settling = settles t ps waits near_is other_is decides

        pub closed_grown : Grown es r.entries
        closed_grown = settling.grown

        pub closed_settled : Settled t r.entries p r.at
        closed_settled = settling.now

        module _ (w : Writes (other t p ∷ p ∷ ps) es) where
          rest : ahead t ps r.entries ≡ ahead t (x.root ∷ []) []
          rest = sym settling.left ∙ sym (passed t (p ∷ ps) other_is) ∙ w.same

          -- p is closed, and has ended itself
          pub closed : Writes (p ∷ ps) r.entries
          closed = record { same = passed t ps settling.now ∙ rest }

          -- one entry more makes the array longer than what stands
          pub closed_longer : length es < length r.entries → 3 + length es ≤ length (signed first x.options (t.meaning x.root))
          closed_longer l =
              let g : Grown r.entries (ahead t (x.root ∷ []) []) = rw rest at (ahead_grows t ps r.entries) in
              omega (arith, signed_length first x.options (t.meaning x.root) r.entries g (omega arith))

  -- the root has ended
  pub root_ended : {es : List Entry} {v : ℕ} → Writes (x.root ∷ []) es → Settled t es x.root v
      → Finished first x.options (t.meaning x.root) es v
  root_ended {es} {v} w s =
      finished first x.options (t.meaning x.root) es v (sym (sym (passed t [] s) ∙ w.same)) s.stands
