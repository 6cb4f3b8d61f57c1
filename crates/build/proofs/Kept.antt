-- The pairs that stand in the pair run as a list: it has each once, so where they are undecided and reached there are at most as
-- many as there are such pairs.
use Prim.Native.Nat.{ℕ, ◌^◌, ◌<◌, ◌≤◌}
use mathlib.Core.Path.{◌≡◌, refl, sym, ap, ap₂, subst}
use mathlib.Core.Bool.{true, false}
use mathlib.Core.List.{List, ◌∷◌}
use native.Mathlib.Omega.{arith}
use lib.ListN.{length}
use Rattle.bdd.specs.Pairs.{Job, Pair, pair, pairs_of, among, undecided, reached, count}
use Rattle.chains.specs.declared.Stored.{Stored}
use Rattle.pair_run.specs.Held as held
use Rattle.pair_run.proofs.Laws.{on_new, only_new}
use Rattle.counting.proofs.Among.{In, each, in_among, absent_among, Distinct, more}
use Rattle.counting.proofs.Different.{length_most}
use Rattle.counting.proofs.First.{first, first_open, first_close, first_length, first_distinct}
use Rattle.counting.proofs.Reaching.{Reach, Falls, reach_listed}
use Rattle.pairs.proofs.Pairs.{same_tells}
use Rattle.build.specs.Looks.{Known, Settleable}
use Rattle.build.specs.Exploring.{kept}

module _ (run : List ℕ) where
  abbrev key : ℕ → Pair
  key = held.key_at (held.nodes run) run

  kept_length : length (kept run) ≡ held.count run
  unfolding kept
  kept_length = first_length key (held.count run)

  kept_known : (p : Pair) → In p (kept run) → (v : ℕ) × Known run p v
  unfolding kept
  kept_known p m =
      let s = first_open key (held.count run) p m in (
        held.result_at (held.nodes run) run s.number,
        record {
          node = s.number;
          noted = record {
            below = s.below;
            left = sym (ap (λ (q : Pair). q.left) s.equal);
            right = sym (ap (λ (q : Pair). q.right) s.equal);
            result = refl;
          };
        },
      )

  pub known_kept : (j : Job) (p : Pair) (v : ℕ) → Known run p v → among (pairs_of j) p (kept run) ≡ true
  unfolding kept
  known_kept j p v s =
      in_among (pairs_of j) same_tells
      (subst (λ (q : Pair). In q (first key (held.count run))) (ap₂ pair s.noted.left s.noted.right) (first_close key (held.count run) s.node s.noted.below))

  absent_in : (p : Pair) → held.Absent run p.left p.right → In p (kept run) → ⊥
  absent_in p a m = let k = kept_known p m in a k.0 k.1

  pub absent_kept : (j : Job) (p : Pair) → held.Absent run p.left p.right → among (pairs_of j) p (kept run) ≡ false
  absent_kept j p a = absent_among (pairs_of j) same_tells p (kept run) (absent_in p a)

  kept_distinct : held.Searchable run → Distinct (kept run)
  unfolding kept held.Searchable
  kept_distinct s = first_distinct key (held.count run) s.linked.single

-- a pair that is not known is one more, where all that is known is undecided and reached
pub fewer : (j : Job) {run : List ℕ} {p : Pair} → Falls (pairs_of j) → held.Searchable run
    → ((q : Pair) (v : ℕ) → Known run q v → Reach (pairs_of j) q) → ((q : Pair) (v : ℕ) → Known run q v → undecided j q ≡ true)
    → Reach (pairs_of j) p → undecided j p ≡ true → held.Absent run p.left p.right → held.count run < count j
unfolding count reached
fewer j {run} {p} f s reach waits r u a =
    let at : (P : Pair → Type 0) → P p → ((q : Pair) (v : ℕ) → Known run q v → P q) → (q : Pair) → In q (p ∷ kept run) → P q =
    λ P new rest. each P new (λ q m. let k = kept_known run q m in rest q k.0 k.1) in
    let all : length (p ∷ kept run) ≤ count j =
    length_most (pairs_of j) same_tells (reached j) (more (absent_in run p a) (kept_distinct run s)) (at (λ q. undecided j q ≡ true) u waits)
    (λ q m. reach_listed (pairs_of j) f q (at (λ q. Reach (pairs_of j) q) r reach q m)) in
    omega (arith, kept_length run)

-- a pair that is not there, where a node is free, is added
pub pair_added : {run now : List ℕ} {p : Pair} {v k : ℕ} {a : Stored} → held.Insertion run now p.left p.right v k a → Settleable run p k
    → v < 2 ^ 16 → held.Added run now p.left p.right v
pair_added {run} {p = p} {v = v} {k = k} {a = a} i s small =
    let ready : held.Ready run p.left v k =
    record { sound = s.sound; number = s.number; left_small = omega (arith, s.small.left); result_small = small } in
    on_new i (only_new ready a i s.absent s.free) ready
