-- A task is decided, or asks an option and has two children. What a stack of tasks has still to write is kept by every look at
-- its top: a task that stands is passed over, one whose children stand is settled, else its children go on top.
use Prim.Native.Nat.{ℕ, ◌<◌}
use mathlib.Core.Path.{◌≡◌, refl, sym, ap, ◌∙◌}
use mathlib.Core.Bool.{Bool, true, false, cond, not}
use mathlib.Core.List.{List, [], ◌∷◌}
use Rattle.bdd.specs.Array.{Entry}
use Rattle.bdd.specs.Value.{Function, with_option}
use Rattle.bdd.specs.Signed.{Written, written, decide, write}
use Rattle.bdd.specs.Pairs.{Exploration, undecided_in, on_in}
use Rattle.bdd.proofs.Settings.{Ignores}
use Rattle.bdd.proofs.Written.{Grown, grown_same, grown_trans, Stands, write_grows, write_again, written_stands, stands_grown, constant, at_option}
use Rattle.counting.proofs.Reaching.{Reach, Falls, asks_below}

-- the tasks of an exploration that writes an array: what each stands for, and the side of a task that becomes the new entry's link
-- on side b, which an output flip swaps
pub record Tasks (first : Bool) {T : Type 0} (x : Exploration T) : Type 0 where
  pub falls : Falls x
  pub meaning : T → Function
  pub swaps : T → Bool → Bool
  pub decided_is : (p : T) → Reach x p → undecided_in x p ≡ false → meaning p ≡ (λ σ. on_in x p)
  pub ignores : (p : T) → Reach x p → (k : ℕ) → k < x.asked p → Ignores k (meaning p)
  pub child_is : (p : T) → Reach x p → undecided_in x p ≡ true → (b : Bool)
      → with_option (x.asked p) b (meaning p) ≡ meaning (x.child (swaps p b) p)

module _ {first : Bool} {T : Type 0} {x : Exploration T} (t : Tasks first x) where
  -- a task that is not decided
  pub record Waits (p : T) : Type 0 where
    pub reached : Reach x p
    pub undecided : undecided_in x p ≡ true

  -- the child that becomes the link on side b
  abbrev pub linked : Bool → T → T
  linked b p = x.child (t.swaps p b) p

  -- the child that is written first, and the other
  abbrev pub near : T → T
  near p = linked first p

  abbrev pub other : T → T
  other p = linked (not first) p

  abbrev n : ℕ
  n = x.options

  abbrev writing : T → List Entry → Written
  writing p es = write first n 0 (t.meaning p) es

  -- p stands in es as entry v: to write it changes nothing and ends there
  pub record Settled (es : List Entry) (p : T) (v : ℕ) : Type 0 where
    pub stands : Stands first n 0 (t.meaning p) es v

  -- what a stack of tasks, its top first, will have written behind es
  abbrev pub ahead : List T → List Entry → List Entry
  ahead [] es = es
  ahead (p ∷ ps) es = ahead ps (write first n 0 (t.meaning p) es).entries

  pub ahead_grows : (ps : List T) (es : List Entry) → Grown es (ahead ps es)
  ahead_grows [] es = grown_same es
  ahead_grows (p ∷ ps) es = grown_trans (write_grows first n 0 (t.meaning p) es) (ahead_grows ps (writing p es).entries)

  pub settled_grown : {es es' : List Entry} {p : T} {v : ℕ} → Settled es p v → Grown es es' → Settled es' p v
  settled_grown {es} {es'} {p} {v} s g = record { stands = stands_grown first n 0 (t.meaning p) es es' v s.stands g }

  pub decided_settled : (p : T) (es : List Entry) → Reach x p → undecided_in x p ≡ false → Settled es p (cond (on_in x p) 1 0)
  decided_settled p es r d = record { stands = rw (t.decided_is p r d) (constant first (on_in x p) n 0 es) }

  -- a task that stands writes nothing
  pub passed : {es : List Entry} {p : T} {v : ℕ} (ps : List T) → Settled es p v → ahead (p ∷ ps) es ≡ ahead ps es
  passed ps s = ap (λ (w : Written). ahead ps w.entries) s.stands

  -- what the top of a stack writes stands in all that the stack writes
  pub top_stands : (p : T) (ps : List T) (es : List Entry) → Settled (ahead (p ∷ ps) es) p (write first n 0 (t.meaning p) es).at
  top_stands p ps es =
      record { stands = write_again first n 0 (t.meaning p) es (ahead (p ∷ ps) es) (ahead_grows ps (writing p es).entries) }

  -- a task writes its first child, its other child, then its entry
  writes : (p : T) (es : List Entry) (y z : Written) → Waits p → writing (near p) es ≡ y → writing (other p) y.entries ≡ z
      → writing p es ≡ decide first (x.asked p) y.at z.at z.entries
  writes p es y z u hy hz =
      at_option first n (x.asked p) (t.meaning p) es y z
      (asks_below t.falls u.reached u.undecided) (t.ignores p u.reached)
      (rw (t.child_is p u.reached u.undecided first) hy) (rw (t.child_is p u.reached u.undecided (not first)) hz)

  -- children on top of their parent write what the parent would write: both, or the one that does not stand
  pub pushed : (p : T) (ps : List T) (es : List Entry) → Waits p → ahead (near p ∷ other p ∷ p ∷ ps) es ≡ ahead (p ∷ ps) es
  pushed p ps es u =
      let y = writing (near p) es in
      let z = writing (other p) y.entries in
      let once : writing p es ≡ decide first (x.asked p) y.at z.at z.entries = writes p es y z u refl refl in
      let again : writing p z.entries ≡ decide first (x.asked p) y.at z.at z.entries =
      writes p z.entries (written z.entries y.at) (written z.entries z.at) u
      (top_stands (near p) (other p ∷ []) es).stands (top_stands (other p) [] y.entries).stands in
      ap (λ (w : Written). ahead ps w.entries) (again ∙ sym once)

  -- the first child alone writes its part of what the parent would write, whether or not the other stands
  pub pushed_first : (p : T) (ps : List T) (es : List Entry) → Waits p → ahead (near p ∷ p ∷ ps) es ≡ ahead (p ∷ ps) es
  pushed_first p ps es u =
      sym (pushed p ps (writing (near p) es).entries u) ∙ passed (other p ∷ p ∷ ps) (top_stands (near p) [] es) ∙ pushed p ps es u

  pub pushed_other : {p : T} {es : List Entry} {v : ℕ} (ps : List T) → Waits p → Settled es (near p) v
      → ahead (other p ∷ p ∷ ps) es ≡ ahead (p ∷ ps) es
  pushed_other {p} {es} ps u s = sym (passed (other p ∷ p ∷ ps) s) ∙ pushed p ps es u

  pub pushed_near : {p : T} {es : List Entry} {v : ℕ} (ps : List T) → Waits p → Settled es (other p) v
      → ahead (near p ∷ p ∷ ps) es ≡ ahead (p ∷ ps) es
  pushed_near {p} {es} ps u s =
      sym (passed (p ∷ ps) (settled_grown s (write_grows first n 0 (t.meaning (near p)) es))) ∙ pushed p ps es u

  -- a task whose children stand is settled by `decide`
  pub record Settles (p : T) (ps : List T) (es : List Entry) (w : Written) : Type 0 where
    pub left : ahead (p ∷ ps) es ≡ ahead ps w.entries
    pub now : Settled w.entries p w.at
    pub grown : Grown es w.entries

  pub settles : {p : T} {es : List Entry} {y z : ℕ} {w : Written} (ps : List T) → Waits p → Settled es (near p) y → Settled es (other p) z
      → decide first (x.asked p) y z es ≡ w → Settles p ps es w
  settles {p} {es} {y} {z} {w} ps u sy sz d =
      let e : writing p es ≡ w = writes p es (written es y) (written es z) u sy.stands sz.stands ∙ d in
      record {
        left = ap (λ (w : Written). ahead ps w.entries) e;
        now = record { stands = rw e at (written_stands first n 0 (t.meaning p) es) };
        grown = rw e at (write_grows first n 0 (t.meaning p) es);
      }
