-- Noted tasks as a queue: how a look takes the next one's children, what becomes of each, and what is known when all were looked at.
use Prim.Native.Nat.{ℕ, zero, suc, ◌+◌, ◌-◌, ◌<◌, ◌≤◌}
use mathlib.Core.Path.{◌≡◌, refl, sym, ap, ap₂, subst, ◌∙◌}
use mathlib.Core.Logic.{◌⊎◌, inl, inr, ⊎_elim}
use mathlib.Core.Bool.{Bool, true, false, ◌||◌}
use mathlib.Core.List.Memᴰ.{append_cases as in-append}
use mathlib.Core.List.Memᴰ.{append_left as in_left}
use mathlib.Core.List.Memᴰ.{append_right as in_right}
use mathlib.Core.List.{List, [], ◌∷◌, ◌++◌}
use native.Mathlib.Omega.{arith}
use native.Mathlib.Nat.{eq-or-lt_of_le}
use Rattle.bdd.specs.Pairs.{Exploration, undecided_in, on_in, reached_in, different, some_on}
use Rattle.counting.proofs.Among.{In, here, there, in-none, in-cases, each, Distinct}
use Rattle.counting.proofs.First.{first, first_open, first_close, first_length, first_same}
use Rattle.counting.proofs.Reaching.{Reach, at_root, by_step, Falls}
use Rattle.counting.proofs.Noting.{Noting, note_old, note_decided, note_new, note_below, whole, flag_undecided}
use Rattle.counting.proofs.Turns.{Totals}
use Rattle.noting.specs.Queue.{children, Queue}

module _ {T : Type 0} (task : ℕ → T) (x : Exploration T) where
  -- a child of one of the tasks from number i on, below k
  pub record Follows (i k : ℕ) (q : T) : Type 0 where
    pub number : ℕ
    pub from : i ≤ number
    pub below : number < k
    pub side : Bool
    pub equal : q ≡ x.child side (task number)

  pub children_open : (i m : ℕ) (q : T) → In q (children x task i m) → Follows i (i + m) q
  unfolding children
  children_open i zero q l = absurd (in-none l)
  children_open i (suc m) q l =
      ⊎_elim (λ e. record { number = i; from = omega arith; below = omega arith; side = true; equal = e })
      (λ l. ⊎_elim (λ e. record { number = i; from = omega arith; below = omega arith; side = false; equal = e })
      (λ l.
      let s = children_open (i + 1) m q l in
      record { number = s.number; from = omega (arith, s.from); below = omega (arith, s.below); side = s.side; equal = s.equal })
      (in-cases l)) (in-cases l)

  pub children_close : (i m n : ℕ) (b : Bool) → i ≤ n → n < i + m → In (x.child b (task n)) (children x task i m)
  unfolding children
  children_close i zero n b f l = absurd (omega arith)
  children_close i (suc m) n b f l =
      ⊎_elim (λ (e : i ≡ n). own e b) (λ (f : i < n). there (there (children_close (i + 1) m n b (omega arith) (omega arith)))) (eq-or-lt_of_le f)
    where
      own : i ≡ n → (b : Bool) → In (x.child b (task n)) (x.child true (task i) ∷ x.child false (task i) ∷ children x task (i + 1) m)
      own e true = here (ap (λ (i : ℕ). x.child true (task i)) (sym e))
      own e false = there (here (ap (λ (i : ℕ). x.child false (task i)) (sym e)))

-- the root is among the first k tasks, and all of those are different, reached and undecided: none was looked at
pub queue_start : {T : Type 0} (x : Exploration T) (task : ℕ → T) (k : ℕ) → Distinct (first task k)
    → ((i : ℕ) → i < k → undecided_in x (task i) ≡ true) → ((i : ℕ) → i < k → Reach x (task i)) → In x.root (first task k)
    → Queue x task [] 0 k false
unfolding some_on
queue_start {T} x task k once asks reach root =
    let early : (P : T → Type 0) → ((i : ℕ) → i < k → P (task i)) → (p : T) → In p (first task k) → P p =
    λ P h p m. let s = first_open task k p m in subst P (sym s.equal) (h s.number s.below) in
    let undecided = early (λ p. undecided_in x p ≡ true) asks in
    record {
      behind = omega arith;
      seen = x.root ∷ [];
      noting = record {
        once = once;
        noted_undecided = undecided;
        noted_reached = early (λ p. Reach x p) reach;
        seen_reached = each (λ q. Reach x q) at_root (λ q l. absurd (in-none l));
        waiting_reached = λ q m.
            let s = children_open task x 0 (k - 0) q m in
            let b : s.number < k = omega (arith, s.below) in
            subst (Reach x) (sym s.equal) (by_step (reach s.number b) (asks s.number b) s.side);
        seen_noted = each (λ q. undecided_in x q ≡ true → In q (first task k)) (λ u. root) (λ q l u. absurd (in-none l));
        children_met =
            early (λ p. (b : Bool) → In (x.child b p) (x.root ∷ []) ⊎ In (x.child b p) (children x task 0 (k - 0)))
            (λ i l b. inr (children_close task x 0 (k - 0) i b (omega arith) (omega arith)));
        root_met = inl (here refl);
      };
      flag = sym (flag_undecided x x.root [] (undecided x.root root));
    }

module _ {T : Type 0} {x : Exploration T} {task : ℕ → T} {d k : ℕ} {on : Bool} where
  -- the next one's children are to be taken
  pub queue_open : Queue x task [] d k on → d < k → Queue x task (x.child true (task d) ∷ x.child false (task d) ∷ []) (d + 1) k on
  unfolding children
  queue_open t l =
      let one : k - d ≡ suc (k - (d + 1)) = omega arith in
      let opened : children x task d (k - d) ≡ x.child true (task d) ∷ x.child false (task d) ∷ children x task (d + 1) (k - (d + 1)) =
      ap (children x task d) one in
      record {
        behind = omega arith;
        seen = t.seen;
        noting = rw opened at t.noting;
        flag = t.flag;
      }

  -- all were looked at
  pub queue_done : Queue x task [] d k on → Falls x → k ≤ d → Totals x k on
  unfolding children
  queue_done t f l =
      let zero : k - d ≡ 0 = omega arith in
      let none : children x task d (k - d) ≡ [] = ap (children x task d) zero in
      let all : Noting x (first task k) t.seen [] = rw none at t.noting in
      let w = whole all f in
      record { counted = sym (first_length task k) ∙ w.counted; holds = t.flag ∙ w.held }

  module _ {more : List T} (t : Queue x task more d k on) where
    pub queue_reached : (i : ℕ) → i < k → Reach x (task i)
    queue_reached i l = t.noting.noted_reached (task i) (first_close task k i l)

    pub queue_asks : (i : ℕ) → i < k → undecided_in x (task i) ≡ true
    queue_asks i l = t.noting.noted_undecided (task i) (first_close task k i l)

  -- p is taken
  module _ {p : T} {more : List T} (t : Queue x task (p ∷ more) d k on) where
    pub taken_reached : Reach x p
    taken_reached = t.noting.waiting_reached p (here refl)

    rest_reached : (q : T) → In q (more ++ children x task d (k - d)) → Reach x q
    rest_reached q m = t.noting.waiting_reached q (there m)

    -- decided: the flag is set where it is decided as on
    pub queue_decided : undecided_in x p ≡ false → Queue x task more d k (on_in x p || on)
    unfolding some_on
    queue_decided u =
        record {
          behind = t.behind;
          seen = p ∷ t.seen;
          noting = note_decided t.noting (here refl) (λ q m. in-cases m) rest_reached u;
          flag = ap (λ (b : Bool). on_in x p || b) t.flag;
        }

    module _ (u : undecided_in x p ≡ true) where
      same_flag : on ≡ some_on x (p ∷ t.seen)
      same_flag = t.flag ∙ sym (flag_undecided x p t.seen u)

      -- noted already
      pub queue_old : In p (first task k) → Queue x task more d k on
      queue_old m =
          record {
            behind = t.behind;
            seen = p ∷ t.seen;
            noting = note_old t.noting (here refl) (λ q m. in-cases m) rest_reached (λ u. m);
            flag = same_flag;
          }

      module _ (absent : In p (first task k) → ⊥) where
        -- there is a task more than are noted
        pub queue_below : Falls x → k < different x (reached_in x)
        queue_below f = omega (arith, first_length task k, note_below f t.noting (here refl) u absent)

        -- noted now, as number k
        module _ (task' : ℕ → T) (same : (i : ℕ) → i < k → task' i ≡ task i) (new : task' k ≡ p) where
          abbrev now : List T
          now = more ++ children x task' d (k + 1 - d)

          still : (q : T) → In q (more ++ children x task d (k - d)) → In q now
          still q m =
              ⊎_elim (λ l. in_left (children x task' d (k + 1 - d)) l)
              (λ l.
              let s = children_open task x d (k - d) q l in
              in_right more
              (subst (λ (r : T). In r (children x task' d (k + 1 - d)))
              (ap (x.child s.side) (same s.number (omega (arith, s.below, s.from))) ∙ sym s.equal)
              (children_close task' x d (k + 1 - d) s.number s.side s.from (omega (arith, s.below)))))
              (in-append more m)

          reached_now : (q : T) → In q now → Reach x q
          reached_now q m =
              ⊎_elim (λ l. rest_reached q (in_left (children x task d (k - d)) l))
              (λ l.
              let s = children_open task' x d (k + 1 - d) q l in
              subst (Reach x) (sym s.equal) (child_reached s.number (omega (arith, s.below, s.from, t.behind)) s.side))
              (in-append more m)
            where
              child_reached : (i : ℕ) → i ≤ k → (b : Bool) → Reach x (x.child b (task' i))
              child_reached i l b =
                  ⊎_elim (λ (e : i ≡ k). rw (e, new) (by_step taken_reached u b))
                  (λ (l : i < k). rw (same i l) (by_step (queue_reached t i l) (queue_asks t i l) b)) (eq-or-lt_of_le l)

          pub queue_new : Queue x task' more d (k + 1) on
          unfolding first
          queue_new =
              let one : k + 1 ≡ suc k = omega arith in
              let noted : first task' (k + 1) ≡ p ∷ first task k =
              ap (first task') one ∙ ap₂ (λ (q : T) (qs : List T). q ∷ qs) new (first_same task task' k same) in
              record {
                behind = omega (arith, t.behind);
                seen = p ∷ t.seen;
                noting =
                    rw noted
                    (note_new t.noting (here refl) {now = now} (λ q m. ⊎_elim (λ e. inl e) (λ l. inr (still q l)) (in-cases m)) reached_now u absent
                    (λ b.
                    in_right more
                    (subst (λ (r : T). In (x.child b r) (children x task' d (k + 1 - d))) new
                    (children_close task' x d (k + 1 - d) k b t.behind (omega (arith, t.behind))))));
                flag = same_flag;
              }
