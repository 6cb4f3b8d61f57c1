-- Membership in a list of tasks, as positions and by the test that the definitions have, `among`. Lists without repeats, and a list
-- that keeps what a predicate says, where code keeps the tasks in a run.
use mathlib.Core.Path.{◌≡◌, refl, sym, ◌∙◌}
use mathlib.Core.Logic.{◌⊎◌, inl, inr, ⊎_elim}
use mathlib.Core.Bool.{Bool, true, false, ◌||◌, false≢true}
use mathlib.Core.List.{List, [], ◌∷◌}
use Rattle.bdd.specs.Pairs.{Exploration, among}
use Rattle.bdd.proofs.Logic.{is_false}
pub use mathlib.Core.List.Memᴰ.{cases_cons as in-cases}
pub use mathlib.Core.List.Memᴰ.{head as here}
pub use mathlib.Core.List.Memᴰ.{not-nil as in-none}
pub use mathlib.Core.List.Memᴰ.{tail as there}
pub use mathlib.Core.List.{Memᴰ as In}

pub or_cases : (a b : Bool) → (a || b) ≡ true → (a ≡ true) ⊎ (b ≡ true)
or_cases true b e = inl refl
or_cases false b e = inr e

pub or_left : (a b : Bool) → a ≡ true → (a || b) ≡ true
or_left true b e = refl
or_left false b e = absurd (false≢true e)

pub or_right : (a b : Bool) → b ≡ true → (a || b) ≡ true
or_right true b e = refl
or_right false b e = e

pub both_ways : (a b : Bool) → (a ≡ true → b ≡ true) → (b ≡ true → a ≡ true) → a ≡ b
both_ways true b f g = sym (f refl)
both_ways false true f g = g refl
both_ways false false f g = refl

-- the test tells which tasks are equal
pub record Tells {T : Type 0} (same : T → T → Bool) : Type 0 where
  pub equal : (p q : T) → same p q ≡ true → p ≡ q
  pub itself : (p : T) → same p p ≡ true

module _ {T : Type 0} where
  -- a task of a list with one in front
  pub each : (P : T → Type 0) {p : T} {ps : List T} → P p → ((q : T) → In q ps → P q) → (q : T) → In q (p ∷ ps) → P q
  each P first rest q m = ⊎_elim (λ e. rw e first) (λ l. rest q l) (in-cases m)

  -- no task stands twice
  pub data Distinct : List T → Type 0 where
    none : Distinct []
    more : {p : T} {ps : List T} → (In p ps → ⊥) → Distinct ps → Distinct (p ∷ ps)

  -- the list has exactly the tasks of which the predicate holds
  pub record Keeps (Noted : T → Type 0) (noted : List T) : Type 0 where
    pub holds : (p : T) → In p noted → Noted p
    pub listed : (p : T) → Noted p → In p noted

  pub keeps_none : (Noted : T → Type 0) → ((p : T) → Noted p → ⊥) → Keeps Noted []
  keeps_none Noted h = record { holds = λ p m. absurd (in-none m); listed = λ p x. absurd (h p x) }

  -- one task more
  pub keeps_more : {Was Now : T → Type 0} {noted : List T} {p : T} → Keeps Was noted
      → Now p → ((q : T) → Was q → Now q) → ((q : T) → Now q → (q ≡ p) ⊎ Was q) → Keeps Now (p ∷ noted)
  keeps_more {Was} {Now} {noted} {p} k new kept only =
      record {
        holds = each Now new (λ q m. kept q (k.holds q m));
        listed = λ q x. ⊎_elim (λ e. here e) (λ w. there (k.listed q w)) (only q x);
      }

module _ {T : Type 0} (x : Exploration T) (t : Tells x.same) where
  same_of : (p q : T) → p ≡ q → x.same p q ≡ true
  same_of p q e = rw e (t.itself q)

  pub same_comm : (p q : T) → x.same p q ≡ x.same q p
  same_comm p q =
      both_ways (x.same p q) (x.same q p) (λ e. same_of q p (sym (t.equal p q e))) (λ e. same_of p q (sym (t.equal q p e)))

  pub among_in : (p : T) (ps : List T) → among x p ps ≡ true → In p ps
  unfolding among
  among_in p [] e = absurd (false≢true e)
  among_in p (q ∷ ps) e =
      ⊎_elim (λ s. here (t.equal p q s)) (λ m. there (among_in p ps m)) (or_cases (x.same p q) (among x p ps) e)

  pub in_among : {p : T} {ps : List T} → In p ps → among x p ps ≡ true
  unfolding among
  in_among {p} (here {x = q} {xs = ps} e) = or_left (x.same p q) (among x p ps) (same_of p q e)
  in_among {p} (there {x = q} {xs = ps} m) = or_right (x.same p q) (among x p ps) (in_among m)

  pub absent_among : (p : T) (ps : List T) → (In p ps → ⊥) → among x p ps ≡ false
  absent_among p ps h = sym (is_false (among x p ps) (λ m. h (among_in p ps m)))

  pub among_absent : (p : T) (ps : List T) → among x p ps ≡ false → In p ps → ⊥
  among_absent p ps e m = false≢true (sym e ∙ in_among m)
