-- S is at most c + 2. A task writes its first child, its other child, then at most one entry of its own, and none where it stands
-- already: so there are as many different undecided tasks that stand as there are entries, or more.
use Prim.Native.Nat.{ℕ, zero, suc, ◌+◌, ◌≤◌}
use mathlib.Core.Path.{◌≡◌, refl, subst}
use mathlib.Core.Bool.{Bool, true, false, not}
use mathlib.Core.List.{List, [], ◌∷◌}
use native.Mathlib.Omega.{arith}
use lib.ListN.{length}
use Rattle.bdd.specs.Array.{Entry}
use Rattle.bdd.specs.Signed.{decide, signed}
use Rattle.bdd.specs.Pairs.{Exploration, undecided_in, among, reached_in, different}
use Rattle.counting.proofs.Among.{In, in-none, each, among_in, among_absent, Distinct, none as nothing, more}
use Rattle.counting.proofs.Different.{length_most}
use Rattle.counting.proofs.Reaching.{Reach, at_root, by_step, asks_below, reach_listed}
use Rattle.tasks.proofs.Finished.{signed_most}
use Rattle.tasks.proofs.Deciding.{decide_length}
use Rattle.tasks.proofs.Tasks.{Tasks, Waits, Settled, linked, near, other, ahead, settled_grown, decided_settled, passed, top_stands, pushed, settles}

module _ {first : Bool} {T : Type 0} {x : Exploration T} (t : Tasks first x) where
  -- different undecided tasks that stand in es, as many as it has entries or more
  record Noted (es : List Entry) : Type 0 where
    noted : List T
    once : Distinct noted
    waits : (p : T) → In p noted → Waits t p
    stands : (p : T) → In p noted → (v : ℕ) × Settled t es p v
    few : length es ≤ length noted

  noted_none : Noted []
  noted_none =
      record {
        noted = [];
        once = nothing;
        waits = λ p m. absurd (in-none m);
        stands = λ p m. absurd (in-none m);
        few = omega arith;
      }

  -- a task whose children stand: it is noted, and writes nothing; or it is one more, and so is its entry
  noted_settled : {p : T} {es : List Entry} {y z : ℕ} → Waits t p → Settled t es (near t p) y → Settled t es (other t p) z → Noted es
      → Noted (ahead t (p ∷ []) es)
  noted_settled {p} {es} {y} {z} u sy sz m = at (among x p m.noted) refl
    where
      at : (b : Bool) → among x p m.noted ≡ b → Noted (ahead t (p ∷ []) es)
      at true i = rw (passed t [] (m.stands p (among_in x t.falls.tells p m.noted i)).1) m
      at false i =
          let s = settles t [] u sy sz refl in
          rw s.left
          (record {
            noted = p ∷ m.noted;
            once = more (among_absent x t.falls.tells p m.noted i) m.once;
            waits = each (λ q. Waits t q) u m.waits;
            stands =
                each (λ q. (v : ℕ) × Settled t (decide first (x.asked p) y z es).entries q v) ((decide first (x.asked p) y z es).at, s.now)
                (λ q l. ((m.stands q l).0, settled_grown t (m.stands q l).1 s.grown));
            few = omega (arith, m.few, decide_length first (x.asked p) y z es);
          })

  -- a task that waits, where its children may be written
  noted_waiting : {p : T} {es : List Entry} → Waits t p → ((b : Bool) (ds : List Entry) → Noted ds → Noted (ahead t (linked t b p ∷ []) ds))
      → Noted es → Noted (ahead t (p ∷ []) es)
  noted_waiting {p} {es} u child m =
      let ds = ahead t (near t p ∷ []) es in
      subst Noted (pushed t p [] es u)
      (noted_settled u (top_stands t (near t p) (other t p ∷ []) es) (top_stands t (other t p) [] ds) (child (not first) ds (child first es m)))

  -- a decided task writes nothing
  noted_task : {p : T} {es : List Entry} → Reach x p → (Waits t p → Noted (ahead t (p ∷ []) es)) → Noted es → Noted (ahead t (p ∷ []) es)
  noted_task {p} {es} r waiting m = at (undecided_in x p) refl
    where
      at : (b : Bool) → undecided_in x p ≡ b → Noted (ahead t (p ∷ []) es)
      at true u = waiting (record { reached = r; undecided = u })
      at false d = rw (passed t [] (decided_settled t p es r d)) m

  -- any task, by the options that are left: a child asks a greater one
  noted_written : (k : ℕ) (p : T) (es : List Entry) → x.options ≤ k + x.asked p → Reach x p → Noted es → Noted (ahead t (p ∷ []) es)
  noted_written zero p es l r m = noted_task r (λ u. absurd (omega (arith, asks_below t.falls r u.undecided))) m
  noted_written (suc k) p es l r m =
      noted_task r (λ u.
      noted_waiting u (λ b ds h.
      noted_written k (linked t b p) ds (omega (arith, t.falls.later p r u.undecided (t.swaps p b)))
      (by_step r u.undecided (t.swaps p b)) h)
      m) m

  pub size_most : length (signed first x.options (t.meaning x.root)) ≤ different x (reached_in x) + 2
  size_most =
      let m : Noted (ahead t (x.root ∷ []) []) = noted_written x.options x.root [] (omega arith) at_root noted_none in
      let few : length m.noted ≤ different x (reached_in x) =
      length_most x t.falls.tells (reached_in x) m.once (λ p i. (m.waits p i).undecided)
      (λ p i. reach_listed x t.falls p (m.waits p i).reached) in
      omega (arith, m.few, few, signed_most first x.options (t.meaning x.root))
