-- Giving numbers: what each end of giving one comes to, and the turns of the loop over a set's entries. What the numbers mean stands
-- in no run: it is a function from numbers to values that grows with them.
use Rattle.std.proofs.Common.{◌≡◌, ℕ, zero, suc, ◌+◌, ◌-◌, ◌/◌, ◌%◌, ◌^◌, ◌<◌, ◌≤◌, Bool, true, false, cond, eqb, ◌≢◌, List, [], ◌++◌, length, get_or, take, drop, set, sym, refl, ap, ◌∙◌, ⊎_elim, append-nil, eq-or-lt_of_le, arith, length-append, length-drop, drop_of_length-le, length-take-le, take_all, get_or-set_other, get_or-take, get_or-set_same, drop-set-lt, drop_at, le-ltb, lt-ltb, eq-eqb, ne_eqb}
use lib.ListN.{get_or-append}
use borrow.Rule.Slice.PartMut.{mid_of, post_of, put_mid}
use Rattle.bdd.specs.Bounds.{factor}
use Rattle.bdd.specs.Array.{Runs, var_of, low_link_of, high_link_of, size}
use Rattle.bdd.specs.Value.{Setting, Function, chosen, value_at}
use Rattle.bdd.specs.Pairs.{pair_room}
use Rattle.bdd.proofs.Ordered.{Ordered, ordered_open}
use Rattle.bdd.proofs.Following.{value_0, value_1, value_follows}
use Rattle.chains.specs.declared.Stored.{Stored}
use Rattle.chains.specs.declared.Stored.TheVariants.{New}
use Rattle.pair_run.specs.Held as held
use Rattle.pair_run.proofs.Laws.{on_new, added_stands, added_kept, added_only}
use Rattle.compare.specs.Numbers.{number_at, linked, Key, Meanings, Grown, Own, passed, found, Small, HasPlace, Gives, Due, Gets, Named, Numberable, Numbered}

grown_none : (pairs : List ℕ) (f : ℕ → Function) (k : ℕ) → Grown pairs pairs f f k k
grown_none pairs f k = record { least = omega arith; same = λ p l. refl; kept = λ v links p s. s }

pub grown_more : {x y z : List ℕ} {f g h : ℕ → Function} {k l m : ℕ} → Grown x y f g k l → Grown y z g h l m → Grown x z f h k m
grown_more a b =
    record {
      least = omega (arith, a.least, b.least);
      same = λ p l. b.same p (omega (arith, a.least)) ∙ a.same p l;
      kept = λ v links p s. b.kept v links p (a.kept v links p s);
    }

-- ---- one entry

both : (t : Bool) {A : Type 0} (x : A) → x ≡ cond t x x
both true x = refl
both false x = refl

linked_low : (l h : ℕ) → h < factor → linked l h / factor ≡ l
linked_low l h b = omega arith

linked_high : (l h : ℕ) → h < factor → linked l h % factor ≡ h
linked_high l h b = omega arith

-- one meaning more
with_one : (ℕ → Function) → ℕ → Function → ℕ → Function
with_one f k w p = cond (eqb p k) w (f p)

with_here : (f : ℕ → Function) (k : ℕ) (w : Function) → with_one f k w k ≡ w
unfolding with_one
with_here f k w = rw (eq-eqb k k refl)

with_other : (f : ℕ → Function) (k : ℕ) (w : Function) (p : ℕ) → p < k → with_one f k w p ≡ f p
unfolding with_one
with_other f k w p l = rw (ne_eqb p k (omega arith))

module _ {pairs : List ℕ} {f : ℕ → Function} {k : ℕ} (s : Meanings pairs k f) (v l h : ℕ) (room : HasPlace pairs l h k) where
  -- the count c that goes with the pair is two below k
  module _ (apart : l ≢ h) (small : Small l h k) (option : v < 2 ^ 16) {c : ℕ} (below : c ≡ k - 2)
      {later : List ℕ} {a : Stored} (i : held.Insertion pairs later v (linked l h) k c a) where
    ready : held.Ready pairs v k c
    ready = record { sound = s.sound; number = omega (arith, s.counted); left_small = option; result_small = omega (arith, small.next) }

    low_is : linked l h / factor ≡ l
    low_is = linked_low l h small.high

    high_is : linked l h % factor ≡ h
    high_is = linked_high l h small.high

    -- it gets the next one
    w : Function
    w σ = cond (σ v) (f h σ) (f l σ)

    g : ℕ → Function
    g = with_one f k w

    module _ (z : a ≡ New) where
      added : held.Added pairs later v (linked l h) k
      added = on_new i z ready

      key_here : Key g (k + 1) v (linked l h) k
      unfolding g w
      key_here =
          record {
            below = omega arith;
            low_below = omega (arith, low_is, room.low);
            high_below = omega (arith, high_is, room.high);
            means = λ σ. rw (low_is, high_is, with_here f k w, with_other f k w h room.high, with_other f k w l room.low) refl;
          }

      key_there : (x links p : ℕ) → Key f k x links p → Key g (k + 1) x links p
      unfolding g
      key_there x links p old =
          record {
            below = omega (arith, old.below);
            low_below = omega (arith, old.low_below);
            high_below = omega (arith, old.high_below);
            means = λ σ.
                rw (with_other f k w p old.below, with_other f k w (links % factor) old.high_below, with_other f k w (links / factor) old.low_below)
                (old.means σ);
          }

      pub gives_new : Gives pairs later f v l h k k (k + 1)
      unfolding g w
      gives_new =
          record {
            meaning = g;
            state =
                record {
                  sound = added.sound;
                  least = omega (arith, s.least);
                  counted = omega (arith, added.counted, s.counted);
                  off = λ σ. rw (with_other f k w 0 (omega (arith, s.least))) (s.off σ);
                  on = λ σ. rw (with_other f k w 1 (omega (arith, s.least))) (s.on σ);
                  keys = λ x links p t.
                      ⊎_elim (λ e. rw (e.0, e.1, e.2) key_here) (λ u. key_there x links p (s.keys x links p u)) (added_only added x links p t);
                };
            grown = record { least = omega arith; same = with_other f k w; kept = added_kept added };
            most = omega arith;
            below = omega arith;
            own = found apart (added_stands added);
            means = λ σ. rw (with_here f k w) refl;
          }

-- ---- the entries of a set

module _ {a : Runs} {pairs : List ℕ} {f : ℕ → Function} {k : ℕ} {numbers : ℕ → ℕ} {i : ℕ} (n : Named a pairs f k numbers i) where
  own_kept : {later : List ℕ} {v l h p : ℕ} → ((v links p : ℕ) → held.Stands pairs v links p → held.Stands later v links p) → Own pairs v l h p → Own later v l h p
  own_kept kept (passed e q) = passed e q
  own_kept kept (found ne s) = found ne (kept _ _ _ s)

  pub named_grown : {later : List ℕ} {g : ℕ → Function} {m : ℕ} → Grown pairs later f g k m → Named a later g m numbers i
  named_grown w =
      record {
        below = omega (arith, n.below, w.least);
        means = λ σ. ap (λ (x : Function). x σ) (w.same (numbers i) n.below) ∙ n.means σ;
        own = λ t. own_kept w.kept (n.own t);
      }

  -- the same numbers, read elsewhere
  pub named_alike : (others : ℕ → ℕ) → others i ≡ numbers i
      → (2 ≤ i → (others (low_link_of a i) ≡ numbers (low_link_of a i)) × (others (high_link_of a i) ≡ numbers (high_link_of a i)))
      → Named a pairs f k others i
  named_alike others e links =
      record {
        below = rw e n.below;
        means = λ σ. rw e (n.means σ);
        own = λ t. rw (e, (links t).0, (links t).1) (n.own t);
      }

-- a number is read where it stands
pub number_inner : (room : List ℕ) (from i : ℕ) → 2 ≤ i → number_at room from i ≡ get_or room (from + i) 0
number_inner room from i t = rw (le-ltb i 2 t)

pub number_terminal : (room : List ℕ) (from i : ℕ) → i < 2 → number_at room from i ≡ i
number_terminal room from i l = rw (lt-ltb i 2 l)

pub number_alike : (room later : List ℕ) (from i : ℕ) → get_or later (from + i) 0 ≡ get_or room (from + i) 0 → number_at later from i ≡ number_at room from i
number_alike room later from i e = rw e

-- the pair run was lent as the part of the room from `end` on, and came back as ys; then the entry's number was noted
module _ {a : Runs} {room : List ℕ} {from end i k : ℕ} (t : Due a room from end i k) (ys : List ℕ) (l h p m : ℕ)
    (long : length ys ≡ length (mid_of end (length room - end) room))
    (low_is : l ≡ number_at room from (low_link_of a i)) (high_is : h ≡ number_at room from (high_link_of a i)) where
  abbrev part : List ℕ
  part = mid_of end (length room - end) room

  abbrev back : List ℕ
  back = put_mid end (length room - end) room ys

  whole : part ≡ drop end room
  whole = take_all (length room - end) (drop end room) (omega (arith, length-drop end room))

  front : length (take end room) ≡ end
  front = length-take-le end room t.long

  no_rest : post_of end (length room - end) room ≡ []
  no_rest = drop_of_length-le (drop end room) {i = length room - end} (omega (arith, length-drop end room))

  drop_back : drop end back ≡ ys
  drop_back = drop_at (take end room) (ys ++ post_of end (length room - end) room) end front ∙ ap (λ (r : List ℕ). ys ++ r) no_rest ∙ append-nil ys

  front_back : (j : ℕ) → j < end → get_or back j 0 ≡ get_or room j 0
  front_back j b =
      get_or-append (take end room) (ys ++ post_of end (length room - end) room) 0 j (omega (arith, front)) ∙ get_or-take end room j 0 b

  length_back : end ≤ length back
  length_back = omega (arith, front, length-append (take end room) (ys ++ post_of end (length room - end) room))

  pub turned : ((f : ℕ → Function) → Meanings part k f → HasPlace part l h k → Gives part ys f (var_of a i) l h k p m)
      → (f : ℕ → Function) → Meanings (drop end room) k f → Gets a room (set back (from + i) p) from end i f k m
  turned g f s =
      let w = t.within in
      let links : HasPlace part l h k = rw (low_is, high_is, whole) t.links in
      let given : Gives part ys f (var_of a i) l h k p m = g f (rw whole s) links in
      record {
        given = p;
        gives = rw (drop-set-lt end back (from + i) p w, drop_back, ← whole, ← low_is, ← high_is) given;
        here = get_or-set_same back (from + i) p 0 (omega (arith, length_back));
        others = λ j b ne. get_or-set_other back (from + i) j p 0 ne ∙ front_back j b;
      }

-- the state of the loop: the entries before i have their numbers
pub record Numbering (a : Runs) (was : List ℕ) (from end : ℕ) (f : ℕ → Function) (k : ℕ) (room : List ℕ) (m i : ℕ) : Type 0 where
  pub meaning : ℕ → Function
  pub state : Meanings (drop end room) m meaning
  pub grown : Grown (drop end was) (drop end room) f meaning k m
  pub most : m + 2 ≤ k + i
  pub named : (j : ℕ) → j < i → j < size a → Named a (drop end room) meaning m (number_at room from) j
  pub before : (j : ℕ) → j < from → get_or room j 0 ≡ get_or was j 0

pub numbering_none : {a : Runs} {room : List ℕ} {from end k : ℕ} → Numberable a room from end k → (f : ℕ → Function) → Meanings (drop end room) k f
    → Numbering a room from end f k room k 2
numbering_none {a} {room} {from} {end} {k} h f s =
    record {
      meaning = f;
      state = s;
      grown = grown_none (drop end room) f k;
      most = omega arith;
      named = λ j l b.
          record {
            below = omega (arith, number_terminal room from j l, s.least);
            means = λ σ. rw (number_terminal room from j l) (at j l b σ);
            own = λ t. absurd (omega arith);
          };
      before = λ j l. refl;
    }
  where
    at : (j : ℕ) → j < 2 → j < size a → (σ : Setting) → f j σ ≡ value_at a j σ
    at zero l b σ = s.off σ ∙ sym (value_0 a (ordered_open a h.set).layered σ)
    at (suc zero) l b σ = s.on σ ∙ sym (value_1 a (ordered_open a h.set).layered σ b)
    at (suc (suc j)) l b σ = absurd (omega arith)

module _ {a : Runs} {was room : List ℕ} {from end k m i : ℕ} {f : ℕ → Function} (h : Numberable a was from end k) (n : Numbering a was from end f k room m i)
    (same : length room ≡ length was) (two : 2 ≤ i) (l : i < size a) where
  abbrev o : Ordered a
  o = ordered_open a h.set

  low : low_link_of a i < i
  low = (o.layered.entry_on i two l).low

  high : high_link_of a i < i
  high = (o.layered.entry_on i two l).high

  pub numbering_turn : Due a room from end i m
  unfolding pair_room
  numbering_turn =
      let w = h.within in
      let p = h.places in
      let lr = length-drop end room in
      let lw = length-drop end was in
      let some = n.most in
      let even-room : length (drop end room) ≡ length (drop end was) = lr ∙ ap (λ (x : ℕ). x - end) same ∙ sym lw in
      record {
        in_variable = l;
        in_low = omega (arith, o.layered.low_length);
        in_high = omega (arith, o.layered.high_length);
        low_back = low;
        high_back = high;
        within = omega arith;
        long = omega (arith, h.long);
        few = omega (arith, h.few);
        links =
            record {
              low = (n.named (low_link_of a i) low (omega (arith, low))).below;
              high = (n.named (high_link_of a i) high (omega (arith, high))).below;
              place = omega arith;
            };
      }

  module _ {later : List ℕ} {x : ℕ} (t : (g : ℕ → Function) → Meanings (drop end room) m g → Gets a room later from end i g m x) where
    abbrev done : Gets a room later from end i n.meaning m x
    done = t n.meaning n.state

    before_i : (j : ℕ) → j < i → number_at later from j ≡ number_at room from j
    before_i j b = number_alike room later from j (done.others (from + j) (omega (arith, h.within)) (omega arith))

    here : number_at later from i ≡ done.given
    here = number_inner later from i two ∙ done.here

    by_value : (t : Bool) (x y x' y' : Bool) → x ≡ x' → y ≡ y' → cond t x y ≡ cond t x' y'
    by_value true x y x' y' p q = p
    by_value false x y x' y' p q = q

    side_value : (t : Bool) (σ : Setting) → cond t (value_at a (high_link_of a i) σ) (value_at a (low_link_of a i) σ) ≡ value_at a (cond t (high_link_of a i) (low_link_of a i)) σ
    side_value true σ = refl
    side_value false σ = refl

    named_here : Named a (drop end later) done.gives.meaning x (number_at later from) i
    unfolding chosen
    named_here =
        let lo = before_i (low_link_of a i) low in
        let hi = before_i (high_link_of a i) high in
        record {
          below = rw here done.gives.below;
          means = λ σ.
              rw here
              (done.gives.means σ
              ∙ by_value (σ (var_of a i)) _ _ _ _ ((n.named (high_link_of a i) high (omega (arith, high))).means σ)
              ((n.named (low_link_of a i) low (omega (arith, low))).means σ)
              ∙ side_value (σ (var_of a i)) σ
              ∙ sym (value_follows a o.layered σ i two l));
          own = λ b. rw (here, lo, hi) done.gives.own;
        }

    named_before : (j : ℕ) → j < i → j < size a → Named a (drop end later) done.gives.meaning x (number_at later from) j
    named_before j b c =
        let links : 2 ≤ j → (number_at later from (low_link_of a j) ≡ number_at room from (low_link_of a j)) × (number_at later from (high_link_of a j) ≡ number_at room from (high_link_of a j)) =
        λ d. let e = o.layered.entry_on j d c in (before_i (low_link_of a j) (omega (arith, e.low)), before_i (high_link_of a j) (omega (arith, e.high))) in
        named_alike (named_grown (n.named j b c) done.gives.grown) (number_at later from) (before_i j b) links

    pub numbering_more : Numbering a was from end f k later x (i + 1)
    numbering_more =
        record {
          meaning = done.gives.meaning;
          state = done.gives.state;
          grown = grown_more n.grown done.gives.grown;
          most = omega (arith, n.most, done.gives.most);
          named = λ j b c. ⊎_elim (λ (e : j ≡ i). rw e named_here) (λ (d : j < i). named_before j d c) (eq-or-lt_of_le (omega arith));
          before = λ j b. done.others j (omega (arith, h.within)) (omega arith) ∙ n.before j b;
        }

pub numbering_all : {a : Runs} {was room : List ℕ} {from end k m i : ℕ} {f : ℕ → Function} → Numbering a was from end f k room m i → size a ≤ i → i ≤ size a + 1
    → Numbered a was room from end f k m
numbering_all n l b =
    record {
      meaning = n.meaning;
      state = n.state;
      grown = n.grown;
      most = omega (arith, n.most);
      named = λ j c. n.named j (omega arith) c;
      before = n.before;
    }
