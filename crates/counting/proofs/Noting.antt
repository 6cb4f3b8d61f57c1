-- What every exploration that notes the reached tasks keeps, in whatever order it looks at them: ghost lists tell what is noted, what
-- was seen and what waits. A look takes one task that waits; where it is undecided and not noted yet, it is noted and its children wait.
use Prim.Native.Nat.{ℕ, ◌<◌}
use mathlib.Core.Path.{◌≡◌, refl, sym, ◌∙◌}
use mathlib.Core.Logic.{◌⊎◌, inl, inr, ⊎_elim}
use mathlib.Core.Bool.{Bool, true, false, ◌||◌, or-false, false≢true}
use mathlib.Core.List.{List, [], ◌∷◌}
use lib.ListN.{length}
use borrow.Author.Tests.{eqb-true}
use Rattle.bdd.specs.Pairs.{Exploration, undecided_in, on_in, reached_in, different, some_on}
use Rattle.counting.proofs.Among.{In, here, there, in-none, in-cases, each, Distinct, none, more}
use Rattle.counting.proofs.Different.{length_most, length_all, some_on_same}
use Rattle.counting.proofs.Reaching.{Reach, at_root, by_step, Falls, listed_reach, reach_listed}

-- a task was seen, or waits
abbrev pub Met : {T : Type 0} → List T → List T → T → Type 0
Met seen waiting p = In p seen ⊎ In p waiting

pub record Noting {T : Type 0} (x : Exploration T) (noted seen waiting : List T) : Type 0 where
  pub once : Distinct noted
  pub noted_undecided : (p : T) → In p noted → undecided_in x p ≡ true
  pub noted_reached : (p : T) → In p noted → Reach x p
  pub seen_reached : (p : T) → In p seen → Reach x p
  pub waiting_reached : (p : T) → In p waiting → Reach x p
  pub seen_noted : (p : T) → In p seen → undecided_in x p ≡ true → In p noted
  pub children_met : (p : T) → In p noted → (b : Bool) → Met seen waiting (x.child b p)
  pub root_met : Met seen waiting x.root

pub noting_start : {T : Type 0} (x : Exploration T) → Noting x [] [] (x.root ∷ [])
noting_start x =
    record {
      once = none;
      noted_undecided = λ p m. absurd (in-none m);
      noted_reached = λ p m. absurd (in-none m);
      seen_reached = λ p m. absurd (in-none m);
      waiting_reached = each (λ q. Reach x q) at_root (λ q l. absurd (in-none l));
      seen_noted = λ p m u. absurd (in-none m);
      children_met = λ p m b. absurd (in-none m);
      root_met = inr (here refl);
    }

-- a look at p, which waits; what else waits is on the list `now`
module _ {T : Type 0} {x : Exploration T} {noted seen waiting : List T} (c : Noting x noted seen waiting) {p : T} (waits : In p waiting)
    {now : List T} (rest : (q : T) → In q waiting → (q ≡ p) ⊎ In q now) (reached : (q : T) → In q now → Reach x q) where
  met_on : {q : T} → Met seen waiting q → Met (p ∷ seen) now q
  met_on {q} (inl m) = inl (there m)
  met_on {q} (inr m) = ⊎_elim (λ e. inl (here e)) (λ l. inr l) (rest q m)

  -- nothing is noted
  pub note_old : (undecided_in x p ≡ true → In p noted) → Noting x noted (p ∷ seen) now
  note_old h =
      record {
        once = c.once;
        noted_undecided = c.noted_undecided;
        noted_reached = c.noted_reached;
        seen_reached = each (λ q. Reach x q) (c.waiting_reached p waits) c.seen_reached;
        waiting_reached = reached;
        seen_noted = each (λ q. undecided_in x q ≡ true → In q noted) h c.seen_noted;
        children_met = λ q m b. met_on (c.children_met q m b);
        root_met = met_on c.root_met;
      }

  pub note_decided : undecided_in x p ≡ false → Noting x noted (p ∷ seen) now
  note_decided d = note_old (λ u. absurd (false≢true (sym d ∙ u)))

  -- it is noted, and its children wait
  pub note_new : undecided_in x p ≡ true → (In p noted → ⊥) → ((b : Bool) → In (x.child b p) now) → Noting x (p ∷ noted) (p ∷ seen) now
  note_new u a children =
      record {
        once = more a c.once;
        noted_undecided = each (λ q. undecided_in x q ≡ true) u c.noted_undecided;
        noted_reached = each (λ q. Reach x q) (c.waiting_reached p waits) c.noted_reached;
        seen_reached = each (λ q. Reach x q) (c.waiting_reached p waits) c.seen_reached;
        waiting_reached = reached;
        seen_noted = each (λ q. undecided_in x q ≡ true → In q (p ∷ noted)) (λ v. here refl) (λ q m v. there (c.seen_noted q m v));
        children_met =
            each (λ q. (d : Bool) → Met (p ∷ seen) now (x.child d q)) (λ d. inr (children d)) (λ q m d. met_on (c.children_met q m d));
        root_met = met_on c.root_met;
      }

-- more tasks wait, that are reached
pub noting_more : {T : Type 0} {x : Exploration T} {noted seen waiting now : List T} → Noting x noted seen waiting
    → ((q : T) → In q waiting → In q now) → ((q : T) → In q now → Reach x q) → Noting x noted seen now
noting_more {x = x} {seen = seen} {waiting} {now} c to reached =
    let met : (q : _) → Met seen waiting q → Met seen now q = λ q m. ⊎_elim (λ l. inl l) (λ l. inr (to q l)) m in
    record {
      once = c.once;
      noted_undecided = c.noted_undecided;
      noted_reached = c.noted_reached;
      seen_reached = c.seen_reached;
      waiting_reached = reached;
      seen_noted = c.seen_noted;
      children_met = λ q m b. met (x.child b q) (c.children_met q m b);
      root_met = met x.root c.root_met;
    }

-- the flag that the loop keeps is whether some task that was seen is decided as on
pub flag_undecided : {T : Type 0} (x : Exploration T) (p : T) (seen : List T) → undecided_in x p ≡ true → some_on x (p ∷ seen) ≡ some_on x seen
unfolding some_on
flag_undecided x p seen u = rw (eqb-true (x.decision p) 2 u)

-- a task that is still to be noted: there is one more
pub note_below : {T : Type 0} {x : Exploration T} {noted seen waiting : List T} {p : T} → Falls x → Noting x noted seen waiting → In p waiting
    → undecided_in x p ≡ true → (In p noted → ⊥) → length noted < different x (reached_in x)
note_below {x = x} {noted} {p = p} f c m u a =
    length_most x f.tells (reached_in x) (more {p = p} {ps = noted} a c.once) (each (λ q. undecided_in x q ≡ true) u c.noted_undecided)
    (λ q l. reach_listed x f q (each (λ q. Reach x q) (c.waiting_reached p m) c.noted_reached q l))

-- nothing waits
pub record Whole {T : Type 0} (x : Exploration T) (noted seen : List T) : Type 0 where
  pub counted : length noted ≡ different x (reached_in x)
  pub held : some_on x seen ≡ some_on x (reached_in x)

module _ {T : Type 0} {x : Exploration T} {noted seen : List T} (c : Noting x noted seen []) where
  met_seen : {p : T} → Met seen [] p → In p seen
  met_seen (inl m) = m
  met_seen (inr m) = absurd (in-none m)

  reach_seen : {p : T} → Reach x p → In p seen
  reach_seen at_root = met_seen c.root_met
  reach_seen (by_step {p} r u b) = met_seen (c.children_met p (c.seen_noted p (reach_seen r) u) b)

  pub whole : Falls x → Whole x noted seen
  whole f =
      let to : (p : T) → Reach x p → In p (reached_in x) = reach_listed x f in
      let from : (p : T) → In p (reached_in x) → In p seen = λ p m. reach_seen (listed_reach x p m) in
      let n : length noted ≡ different x (reached_in x) =
      length_all x f.tells (reached_in x) c.once c.noted_undecided (λ p m. to p (c.noted_reached p m))
      (λ p m u. c.seen_noted p (from p m) u) in
      record {
        counted = n;
        held = some_on_same x seen (reached_in x) (λ p m. to p (c.seen_reached p m)) from;
      }

-- the root alone: it is undecided exactly where c is not 0, and a decided root is all that is reached
module _ {T : Type 0} {x : Exploration T} (f : Falls x) where
  alone : undecided_in x x.root ≡ false → Whole x [] (x.root ∷ [])
  alone u = whole (note_decided (noting_start x) (here refl) {now = []} (λ q m. ⊎_elim (λ e. inl e) (λ l. inr l) (in-cases m)) (λ q l. absurd (in-none l)) u) f

  pub root_some : undecided_in x x.root ≡ true → 0 < different x (reached_in x)
  root_some u = note_below f (noting_start x) (here refl) u in-none

  pub root_none : undecided_in x x.root ≡ false → different x (reached_in x) ≡ 0
  root_none u = sym (alone u).counted

  pub root_holds : undecided_in x x.root ≡ false → some_on x (reached_in x) ≡ on_in x x.root
  unfolding some_on
  root_holds u = sym (alone u).held ∙ or-false _
