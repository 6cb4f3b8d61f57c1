-- The four ways in which an entry is placed, each as `decide` says, whichever side is written first: both links are the same, the
-- entry stands, it is put behind the last, or it may not be.
use Prim.Native.Nat.{ℕ, ◌+◌, ◌-◌, ◌<◌, ◌≤◌}
use mathlib.Core.Path.{◌≡◌, refl, sym, ap, subst, ◌∙◌}
use mathlib.Core.Logic.{◌≢◌}
use mathlib.Core.Bool.{Bool, true, false}
use mathlib.Core.List.{List, [], ◌∷◌, ◌++◌}
use mathlib.Core.Option.{Option, none, some}
use native.Mathlib.Omega.{arith}
use lib.ListN.{length, get_or, length-append}
use borrow.Author.Tests.{ne_eqb}
use Rattle.bdd.specs.Array.{Entry, Runs, entry, entry_of}
use Rattle.bdd.specs.Signed.{Written, written, find, add, decide}
use Rattle.bdd.proofs.Written.{find_some, find_none, find_absent, decide_same}
use Rattle.index_run.specs.Index.{Numbered, Fresh, Added, Indexed}
use Rattle.index_run.specs.Placing.{Fit, Output, holding, appended, Appended, decided, Placement, placed, Placing}
use Rattle.std.specs.Prelude.{Some, None}
use Rattle.index_run.proofs.Laws.{one_number, grown}
use Rattle.index_run.proofs.Columns.{holding_at, holding_more}

-- with equal links nothing is written, with others the entry is added
decided_alike : (first : Bool) (v l h : ℕ) (es : List Entry) → l ≡ h → decided first v l h es ≡ written es l
decided_alike true v l h es e = rw e (decide_same true v h es)
decided_alike false v l h es e = rw e (decide_same false v h es)

decided_apart : (first : Bool) (v l h : ℕ) (es : List Entry) → l ≢ h → decided first v l h es ≡ add (entry v l h) es
unfolding decide
decided_apart true v l h es ne = rw (ne_eqb h l (λ q. ne (sym q)))
decided_apart false v l h es ne = rw (ne_eqb l h ne)

module _ {most : ℕ} {was : Runs} {index : List ℕ} {out : Runs} {next : ℕ} {es : List Entry} (first : Bool) (v l h : ℕ)
    (o : Output most was index out next es) where
  abbrev e : Entry
  e = entry v l h

  room_for : (k : ℕ) → k ≤ most → Fit was k
  room_for k b = record { variable = omega (arith, o.room.variable); low = omega (arith, o.room.low); high = omega (arith, o.room.high) }

  stands : (i : ℕ) → i < length es → entry_of out (2 + i) ≡ get_or es i (entry 0 0 0)
  stands i b =
      ap (λ (r : Runs). entry_of r (2 + i)) o.outputs ∙ holding_at was es i (room_for 2 (omega (arith, o.next_is, o.fits))) b

  numbered : (i : ℕ) → i < length es → get_or es i (entry 0 0 0) ≡ e → Numbered out next e (2 + i)
  numbered i b q = record { least = omega arith; below = omega (arith, o.next_is); equal = stands i b ∙ q }

  absent : Fresh out next e → find e 2 es ≡ none
  absent fresh = find_absent e 2 es (λ i b q. fresh (2 + i) (numbered i b q))

  -- since the index has each entry once, the number under which it stands is the one that is found first
  found : (p : ℕ) → Numbered out next e p → find e 2 es ≡ some p
  found p s = at (find e 2 es) refl
    where
      at : (f : Option ℕ) → find e 2 es ≡ f → f ≡ some p
      at none q =
          let b : p - 2 < length es = omega (arith, s.least, s.below, o.next_is) in
          let two : 2 + (p - 2) ≡ p = omega (arith, s.least) in
          absurd (find_none e 2 es q (p - 2) b (sym (stands (p - 2) b) ∙ ap (entry_of out) two ∙ s.equal))
      at (some r) q =
          let f = find_some e 2 r es q in
          ap some (f.1 ∙ one_number o.indexed (numbered f.0 f.2 f.3) s)

  pub placing_alike : l ≡ h → Placing most was es (decided first v l h es) index out next (Some (placed l next))
  placing_alike q = rw (decided_alike first v l h es q) (o, refl)

  module _ (apart : l ≢ h) where
    decided_known : (p : ℕ) → Numbered out next e p → decided first v l h es ≡ written es p
    unfolding add
    decided_known p s = decided_apart first v l h es apart ∙ rw (found p s)

    decided_new : Fresh out next e → decided first v l h es ≡ written (es ++ (e ∷ [])) (2 + length es)
    unfolding add
    decided_new fresh = decided_apart first v l h es apart ∙ rw (absent fresh)

    pub placing_known : {index' : List ℕ} (p : ℕ) → index' ≡ index → Numbered out next e p
        → Placing most was es (decided first v l h es) index' out next (Some (placed p next))
    placing_known p same s = rw (decided_known p s, same) (o, refl)

    -- index and output are not said: who hears it has no use for them
    pub placing_long : Fresh out next e → most ≤ next → Placing most was es (decided first v l h es) index out next None
    placing_long fresh b = rw (decided_new fresh) (omega (arith, length-append es (e ∷ [])), b)

    -- the entry was added to the index, and now it is put behind the last
    pub placing_new : {index' : List ℕ} (out' : Runs) → Added index' out next e → (r : Placement) → Appended most out out' v l h next r
        → Fit out most → Placing most was es (decided first v l h es) index' out' next r
    placing_new {index'} out' added (Some p) a fit =
        let below : next < most = a.0 in
        let all : out' ≡ holding was (es ++ (e ∷ [])) =
        a.3 ∙ ap (λ (r : Runs). appended r next v l h) o.outputs ∙ holding_more was es next v l h o.next_is (room_for (next + 1) (omega arith)) in
        let indexed : Indexed index' out' p.behind =
        rw (a.3, a.2)
        (grown out next v l h added (record { variable = omega (arith, fit.variable); low = omega (arith, fit.low); high = omega (arith, fit.high) })) in
        rw (decided_new added.fresh) (
          record {
            room = o.room;
            indexed = indexed;
            next_is = omega (arith, a.2, o.next_is, length-append es (e ∷ []));
            fits = omega (arith, a.2);
            outputs = all;
          },
          a.1 ∙ o.next_is,
        )
    placing_new out' added None a fit = placing_long added.fresh a

-- the answer, once it is told
pub placing_told : (most : ℕ) (was : Runs) (es : List Entry) (w : Written) (index : List ℕ) (out : Runs) (next : ℕ) {a b : Placement} → a ≡ b
    → Placing most was es w index out next a → Placing most was es w index out next b
placing_told most was es w index out next e = subst (Placing most was es w index out next) e
