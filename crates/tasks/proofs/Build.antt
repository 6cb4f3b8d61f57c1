-- The loop that builds an array: what holds of the memo, the stack and the entries, kept by each look at the stack's top.
use Prim.Native.Nat.{ℕ, suc, ◌+◌, ◌*◌, ◌<◌, ◌≤◌}
use mathlib.Core.Path.{◌≡◌, refl, sym, ap, subst, ◌∙◌}
use mathlib.Core.Logic.{◌⊎◌, inl, inr, ⊎_elim}
use mathlib.Core.Bool.{Bool, true, false, cond, not}
use mathlib.Core.List.{List, [], ◌∷◌}
use native.Mathlib.Omega.{arith}
use lib.ListN.{length}
use Rattle.bdd.specs.Array.{Entry}
use Rattle.bdd.specs.Signed.{Written, decide, signed}
use Rattle.bdd.specs.Pairs.{Exploration, undecided_in, on_in}
use Rattle.bdd.proofs.Written.{Grown}
use Rattle.counting.proofs.Among.{In, here, there, in-none, in-cases, each}
use Rattle.counting.proofs.Reaching.{Reach, at_root, by_step, asks_below}
use Rattle.counting.proofs.Stack.{Low, bottom, above, low_rest, low_room, low_child}
use Rattle.tasks.proofs.Finished.{Finished, finished, signed_length}
use Rattle.tasks.proofs.Tasks.{Tasks, Waits, Settled, Settles, linked, near, other, ahead, ahead_grows, settled_grown, decided_settled, passed, pushed, pushed_first, pushed_near, pushed_other, settles}

-- the memo gains v for p, and nothing else
pub record Learns {T : Type 0} (known known' : T → ℕ → Type 0) (p : T) (v : ℕ) : Type 0 where
  pub new : known' p v
  pub kept : (q : T) (u : ℕ) → known q u → known' q u
  pub only : (q : T) (u : ℕ) → known' q u → known q u ⊎ ((q ≡ p) × (u ≡ v))

module _ {first : Bool} {T : Type 0} {x : Exploration T} (t : Tasks first x) where
  -- a child needs no look of its own: it is decided, or the memo holds it
  pub data Answered (known : T → ℕ → Type 0) (p : T) : ℕ → Type 0 where
    decided : undecided_in x p ≡ false → Answered known p (cond (on_in x p) 1 0)
    held : {v : ℕ} → known p v → Answered known p v

  -- the root waits, or the memo holds it
  abbrev Due : (T → ℕ → Type 0) → List T → Type 0
  Due known stack = In x.root stack ⊎ ((v : ℕ) × known x.root v)

  -- while the array of the root is built: some tasks are known, some wait, and es stands after the terminals
  pub record Build (known : T → ℕ → Type 0) (stack : List T) (es : List Entry) : Type 0 where
    pub known_waits : (p : T) (v : ℕ) → known p v → Waits t p
    pub settled : (p : T) (v : ℕ) → known p v → Settled t es p v
    pub waits : (p : T) → In p stack → Waits t p
    pub low : Low x stack
    pub due : Due known stack
    pub same : ahead t stack es ≡ ahead t (x.root ∷ []) []

  pub started : (known : T → ℕ → Type 0) → ((p : T) (v : ℕ) → known p v → ⊥) → undecided_in x x.root ≡ true
      → Build known (x.root ∷ []) []
  started known none u =
      record {
        known_waits = λ p v h. absurd (none p v h);
        settled = λ p v h. absurd (none p v h);
        waits = each (λ q. Waits t q) (record { reached = at_root; undecided = u }) (λ q l. absurd (in-none l));
        low = above {p = x.root} {ps = []} (omega arith) bottom;
        due = inl (here refl);
        same = refl;
      }

  module _ {known : T → ℕ → Type 0} {p : T} {ps : List T} {es : List Entry} (b : Build known (p ∷ ps) es) where
    pub top_waits : Waits t p
    top_waits = b.waits p (here refl)

    pub top_asks : x.asked p < x.options
    top_asks = asks_below t.falls top_waits.reached top_waits.undecided

    pub child_asks : (c : Bool) → x.asked p < x.asked (linked t c p)
    child_asks c = t.falls.later p top_waits.reached top_waits.undecided (t.swaps p c)

    -- both children of the top find room in 2 * n + 1 places
    pub top_room : length (p ∷ ps) + 2 ≤ 2 * x.options + 1
    top_room = omega (arith, low_room x t.falls b.low top_waits.reached top_waits.undecided)

    child_reached : (c : Bool) → Reach x (linked t c p)
    child_reached c = by_step top_waits.reached top_waits.undecided (t.swaps p c)

    child_settled : (c : Bool) (v : ℕ) → Answered known (linked t c p) v → Settled t es (linked t c p) v
    child_settled c _ (decided h) = decided_settled t (linked t c p) es (child_reached c) h
    child_settled c v (held h) = b.settled (linked t c p) v h

    -- the top is popped, and known by now
    due_popped : (known' : T → ℕ → Type 0) (v : ℕ) → known' p v → ((q : T) (u : ℕ) → known q u → known' q u) → Due known' ps
    due_popped known' v h kept =
        ⊎_elim (λ m. ⊎_elim (λ (e : x.root ≡ p). inr (v, subst (λ (q : T). known' q v) (sym e) h)) (λ l. inl l) (in-cases m))
        (λ k. inr (k.0, kept x.root k.0 k.1)) b.due

    -- another stack that will have written the same
    restacked : {stack : List T} → ((q : T) → In q stack → Waits t q) → Low x stack → Due known stack → ahead t stack es ≡ ahead t (p ∷ ps) es
        → Build known stack es
    restacked w l d e =
        record {
          known_waits = b.known_waits;
          settled = b.settled;
          waits = w;
          low = l;
          due = d;
          same = e ∙ b.same;
        }

    -- the memo holds the top: it is popped
    pub look_known : (v : ℕ) → known p v → Build known ps es
    look_known v h =
        restacked (λ q m. b.waits q (there m)) (low_rest x b.low) (due_popped known v h (λ q u k. k))
        (sym (passed t ps (b.settled p v h)))

    -- a child goes on top of a stack that has p on top, or one task more
    module _ (c : Bool) (u : undecided_in x (linked t c p) ≡ true) where
      child_waits : {qs : List T} → ((q : T) → In q qs → Waits t q) → (q : T) → In q (linked t c p ∷ qs) → Waits t q
      child_waits = each (λ q. Waits t q) (record { reached = child_reached c; undecided = u })

      child_low : {qs : List T} → length qs ≤ length ps + 2 → Low x qs → Low x (linked t c p ∷ qs)
      child_low l = low_child x t.falls b.low top_waits.reached top_waits.undecided (t.swaps p c) l

      look_one : ahead t (linked t c p ∷ p ∷ ps) es ≡ ahead t (p ∷ ps) es → Build known (linked t c p ∷ p ∷ ps) es
      look_one e = restacked (child_waits b.waits) (child_low (omega arith) b.low) (⊎_elim (λ m. inl (there m)) (λ k. inr k) b.due) e

    -- what is not answered goes on top: both children, or one
    pub look_both : undecided_in x (near t p) ≡ true → undecided_in x (other t p) ≡ true → Build known (near t p ∷ other t p ∷ p ∷ ps) es
    look_both h g =
        restacked (child_waits first h (child_waits (not first) g b.waits))
        (child_low first h {qs = other t p ∷ p ∷ ps} (omega arith) (child_low (not first) g (omega arith) b.low))
        (⊎_elim (λ m. inl (there (there m))) (λ k. inr k) b.due) (pushed t p ps es top_waits)

    -- the first child alone, whatever is known of the other
    pub look_first : undecided_in x (near t p) ≡ true → Build known (near t p ∷ p ∷ ps) es
    look_first h = look_one first h (pushed_first t p ps es top_waits)

    pub look_near : (v : ℕ) → Answered known (other t p) v → undecided_in x (near t p) ≡ true → Build known (near t p ∷ p ∷ ps) es
    look_near v a h = look_one first h (pushed_near t ps top_waits (child_settled (not first) v a))

    pub look_other : (v : ℕ) → Answered known (near t p) v → undecided_in x (other t p) ≡ true → Build known (other t p ∷ p ∷ ps) es
    look_other v a h = look_one (not first) h (pushed_other t ps top_waits (child_settled first v a))

    -- both children are answered: the top is settled, and popped
    module _ (v z : ℕ) (w : Written) (near_is : Answered known (near t p) v) (other_is : Answered known (other t p) z)
        (w_is : decide first (x.asked p) v z es ≡ w) where
      settling : Settles t p ps es w
      settling = settles t ps top_waits (child_settled first v near_is) (child_settled (not first) z other_is) w_is

      pub look_settled : (known' : T → ℕ → Type 0) → Learns known known' p w.at → Build known' ps w.entries
      look_settled known' m =
          record {
            known_waits = λ q u h.
                ⊎_elim (λ (o : known q u). b.known_waits q u o) (λ (o : (q ≡ p) × (u ≡ w.at)). rw o.0 top_waits) (m.only q u h);
            settled = λ q u h.
                ⊎_elim (λ (o : known q u). settled_grown t (b.settled q u o) settling.grown)
                (λ (o : (q ≡ p) × (u ≡ w.at)). rw (o.0, o.1) settling.now) (m.only q u h);
            waits = λ q l. b.waits q (there l);
            low = low_rest x b.low;
            due = due_popped known' w.at m.new m.kept;
            same = sym settling.left ∙ b.same;
          }

      -- one entry more makes the array longer than what stands
      pub look_longer : length es < length w.entries → 3 + length es ≤ length (signed first x.options (t.meaning x.root))
      look_longer l =
          let g : Grown w.entries (ahead t (x.root ∷ []) []) =
          rw (sym settling.left ∙ b.same) at (ahead_grows t ps w.entries) in
          omega (arith, signed_length first x.options (t.meaning x.root) w.entries g (omega arith))

  -- the stack is empty
  pub root_known : {known : T → ℕ → Type 0} {es : List Entry} → Build known [] es → (v : ℕ) × known x.root v
  root_known b = ⊎_elim (λ m. absurd (in-none m)) (λ k. k) b.due

  pub built : {known : T → ℕ → Type 0} {es : List Entry} (v : ℕ) → Build known [] es → known x.root v
      → Finished first x.options (t.meaning x.root) es v
  built {es = es} v b h =
      finished first x.options (t.meaning x.root) es v (sym b.same) (b.settled x.root v h).stands

  -- a decided root is built without a look
  pub built_decided : undecided_in x x.root ≡ false → Finished first x.options (t.meaning x.root) [] (cond (on_in x x.root) 1 0)
  built_decided h =
      let s = decided_settled t x.root [] at_root h in
      finished first x.options (t.meaning x.root) [] _ (ap (λ (w : Written). w.entries) s.stands) s.stands
