-- The reached tasks as a relation, and that the list of the definition has exactly those where each step asks a greater option: the
-- task that asks v stands v steps or fewer behind the root.
use Prim.Native.Nat.{ℕ, zero, suc, ◌<◌, ◌≤◌}
use mathlib.Core.Path.{◌≡◌, refl}
use mathlib.Core.Logic.{⊎_elim}
use mathlib.Core.Bool.{Bool, true, false, cond}
use mathlib.Core.List.Memᴰ.{append_cases as in-append}
use mathlib.Core.List.Memᴰ.{append_left as in_left}
use mathlib.Core.List.Memᴰ.{append_right as in_right}
use mathlib.Core.List.{List, [], ◌∷◌}
use native.Mathlib.Nat.{le_of_suc-le-suc, not-suc-le-zero}
use native.Mathlib.Omega.{arith}
use Rattle.bdd.specs.Pairs.{Exploration, undecided_in, next, within, reached_in}
use Rattle.counting.proofs.Among.{In, here, there, in-none, in-cases, each, Tells}

-- the root is reached, and so are both children of a reached task that is undecided
pub data Reach {T : Type 0} (x : Exploration T) : T → Type 0 where
  at_root : Reach x x.root
  by_step : {p : T} → Reach x p → undecided_in x p ≡ true → (b : Bool) → Reach x (x.child b p)

-- what an exploration's laws ask of it: `same` tells which tasks are equal, no reached task asks more than n, and each step asks
-- a greater option
pub record Falls {T : Type 0} (x : Exploration T) : Type 0 where
  pub tells : Tells x.same
  pub most : (p : T) → Reach x p → x.asked p ≤ x.options
  pub later : (p : T) → Reach x p → undecided_in x p ≡ true → (b : Bool) → x.asked p < x.asked (x.child b p)

-- an undecided task asks an option
pub asks_below : {T : Type 0} {x : Exploration T} → Falls x → {p : T} → Reach x p → undecided_in x p ≡ true → x.asked p < x.options
asks_below {x = x} f {p} r u = omega (arith, f.later p r u true, f.most (x.child true p) (by_step r u true))

module _ {T : Type 0} (x : Exploration T) where
  -- a task that is the child of an undecided one of the list
  record Stepped (ps : List T) (q : T) : Type 0 where
    from : T
    side : Bool
    listed : In from ps
    asks : undecided_in x from ≡ true
    path : q ≡ x.child side from

  abbrev children : Bool → T → List T
  children u p = cond u (x.child true p ∷ x.child false p ∷ []) []

  next_open : (ps : List T) (q : T) → In q (next x ps) → Stepped ps q
  unfolding next
  next_open [] q m = absurd (in-none m)
  next_open (p ∷ ps) q m =
      ⊎_elim (λ l. own (undecided_in x p) refl l) (λ r. behind (next_open ps q r)) (in-append (children (undecided_in x p) p) m)
    where
      behind : Stepped ps q → Stepped (p ∷ ps) q
      behind s = record { from = s.from; side = s.side; listed = there s.listed; asks = s.asks; path = s.path }

      one : undecided_in x p ≡ true → (b : Bool) → q ≡ x.child b p → Stepped (p ∷ ps) q
      one u b e = record { from = p; side = b; listed = here refl; asks = u; path = e }

      own : (u : Bool) → undecided_in x p ≡ u → In q (children u p) → Stepped (p ∷ ps) q
      own false u l = absurd (in-none l)
      own true u l =
          ⊎_elim (λ e. one u true e) (λ l. ⊎_elim (λ e. one u false e) (λ l. absurd (in-none l)) (in-cases l)) (in-cases l)

  next_close : (ps : List T) (p : T) → In p ps → undecided_in x p ≡ true → (b : Bool) → In (x.child b p) (next x ps)
  unfolding next
  next_close [] p m u b = absurd (in-none m)
  next_close (q ∷ ps) p m u b =
      ⊎_elim (λ e. in_left (next x ps) (own e b)) (λ l. in_right (children (undecided_in x q) q) (next_close ps p l u b)) (in-cases m)
    where
      own : p ≡ q → (b : Bool) → In (x.child b p) (children (undecided_in x q) q)
      own e true = rw (← e, u) (here refl)
      own e false = rw (← e, u) (there (here refl))

  within_reach : (k : ℕ) (ps : List T) → ((p : T) → In p ps → Reach x p) → (q : T) → In q (within x k ps) → Reach x q
  unfolding within
  within_reach zero ps h q m = h q m
  within_reach (suc k) ps h q m =
      ⊎_elim (λ l. h q l) (λ r. within_reach k (next x ps) (λ p n. stepped p (next_open ps p n)) q r) (in-append ps m)
    where
      stepped : (p : T) → Stepped ps p → Reach x p
      stepped p s = rw s.path (by_step (h s.from s.listed) s.asks s.side)

  -- what the list has is reached
  pub listed_reach : (p : T) → In p (reached_in x) → Reach x p
  listed_reach p m =
      within_reach x.options (x.root ∷ []) (each (λ q. Reach x q) at_root (λ q l. absurd (in-none l))) p m

  within_first : (k : ℕ) (ps : List T) (p : T) → In p ps → In p (within x k ps)
  unfolding within
  within_first zero ps p m = m
  within_first (suc k) ps p m = in_left (within x k (next x ps)) m

  within_child : (k : ℕ) (ps : List T) (p : T) → In p (within x k ps) → undecided_in x p ≡ true
      → (b : Bool) → In (x.child b p) (within x (suc k) ps)
  unfolding within
  within_child zero ps p m u b = in_right ps (next_close ps p m u b)
  within_child (suc k) ps p m u b =
      in_right ps
      (⊎_elim (λ l. within_first (suc k) (next x ps) (x.child b p) (next_close ps p l u b))
      (λ r. within_child k (next x ps) p r u b) (in-append ps m))

  within_more : (k m : ℕ) (ps : List T) (p : T) → k ≤ m → In p (within x k ps) → In p (within x m ps)
  unfolding within
  within_more zero m ps p l h = within_first m ps p h
  within_more (suc k) zero ps p l h = absurd (not-suc-le-zero l)
  within_more (suc k) (suc m) ps p l h =
      ⊎_elim (λ a. in_left (within x m (next x ps)) a)
      (λ b. in_right ps (within_more k m (next x ps) p (le_of_suc-le-suc l) b)) (in-append ps h)

  module _ (f : Falls x) where
    -- the task that asks v stands v steps or fewer behind the root
    reach_within : {p : T} → Reach x p → In p (within x (x.asked p) (x.root ∷ []))
    reach_within at_root = within_first (x.asked x.root) (x.root ∷ []) x.root (here refl)
    reach_within (by_step {p} r u b) =
        within_more (suc (x.asked p)) (x.asked (x.child b p)) (x.root ∷ []) (x.child b p) (f.later p r u b)
        (within_child (x.asked p) (x.root ∷ []) p (reach_within r) u b)

    -- what is reached, the list has
    pub reach_listed : (p : T) → Reach x p → In p (reached_in x)
    reach_listed p r = within_more (x.asked p) x.options (x.root ∷ []) p (f.most p r) (reach_within r)
