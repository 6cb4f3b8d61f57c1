-- What was written, and the array that it makes once the terminals stand before it: for code that writes the terminals last, and
-- for code that gives up when what is written is too long.
use Prim.Native.Nat.{ℕ, suc, ◌+◌, ◌<◌, ◌≤◌}
use mathlib.Core.Path.{◌≡◌, refl, sym, ap, ◌∙◌}
use mathlib.Core.Logic.{◌≢◌, ◌⊎◌, ⊎_elim}
use mathlib.Core.Bool.{Bool, true, false, cond}
use mathlib.Core.List.{List, [], ◌∷◌}
use native.Mathlib.Omega.{arith}
use lib.ListN.{length, length-append}
use lib.Dec.{eqb}
use borrow.Author.Tests.{eq-eqb, ne_eqb}
use Rattle.bdd.specs.Array.{Entry, entry}
use Rattle.bdd.specs.Value.{Function}
use Rattle.bdd.specs.Signed.{Written, written, write, signed}
use Rattle.bdd.proofs.Logic.{le_or_lt}
use Rattle.bdd.proofs.Written.{Grown, grown_same, Stands, written_stands}
use Rattle.bdd.proofs.Walked.{Wrote, wrote, walk_last}

grown_length : {es es' : List Entry} → Grown es es' → length es ≤ length es'
grown_length {es} g = omega (arith, ap length g.path, length-append es g.more)

empty : (es : List Entry) → length es ≡ 0 → es ≡ []
empty [] e = refl
empty (d ∷ es) e = absurd (omega arith)

-- f is written: es stands after the terminals, and v is the entry where the writing ended
pub record Finished (first : Bool) (n : ℕ) (f : Function) (es : List Entry) (v : ℕ) : Type 0 where
  pub never : v ≡ 0 → signed first n f ≡ entry n 0 0 ∷ []
  pub sometimes : v ≢ 0 → signed first n f ≡ entry n 0 0 ∷ entry n 1 1 ∷ es
  -- a terminal is written by itself; else the root is the last entry
  pub nothing : v ≤ 1 → es ≡ []
  pub last : 2 ≤ v → v ≡ suc (length es)

module _ (first : Bool) (n : ℕ) (f : Function) where
  abbrev writing : Written
  writing = write first n 0 f []

  ends : (w : Written) → writing ≡ w
      → (w.at < 2 + length w.entries) × ((2 + length w.entries ≡ 2 + 0) ⊎ (2 + length w.entries ≡ suc w.at))
  ends w h =
      let all : Wrote first n writing.entries 0 0 writing =
      wrote first n writing.entries n 0 f [] (omega arith) (grown_same _) (λ i k l. absurd (omega arith)) in
      (rw h at all.inside, rw h at (walk_last all.walk))

  finished_at : (es : List Entry) (v : ℕ) → writing ≡ written es v → Finished first n f es v
  unfolding signed
  finished_at es v h =
      let e = ends (written es v) h in
      record {
        never = λ z. rw (h, eq-eqb v 0 z);
        sometimes = λ z. rw (h, ne_eqb v 0 z);
        nothing = λ l. empty es (⊎_elim (λ q. omega arith) (λ q. omega arith) e.1);
        last = λ l. ⊎_elim (λ q. omega (arith, e.0)) (λ q. omega arith) e.1;
      }

  -- what stands in its own writing is the whole of it
  pub finished : (es : List Entry) (v : ℕ) → writing.entries ≡ es → Stands first n 0 f es v → Finished first n f es v
  finished es v e s =
      let q : writing.at ≡ v = ap (λ (w : Written). w.at) (sym (rw e at (written_stands first n 0 f [])) ∙ s) in
      finished_at es v (λ i. record { entries = e i; at = q i })

  -- the array is what was written and the two terminals, or shorter
  pub signed_most : length (signed first n f) ≤ 2 + length writing.entries
  unfolding signed
  signed_most = at (eqb writing.at 0)
    where
      at : (b : Bool) → length (cond b (entry n 0 0 ∷ []) (entry n 0 0 ∷ entry n 1 1 ∷ writing.entries)) ≤ 2 + length writing.entries
      at true = omega arith
      at false = omega arith

  -- once an entry is written, the array is at least as long
  pub signed_length : (es : List Entry) → Grown es writing.entries → 1 ≤ length es → 2 + length es ≤ length (signed first n f)
  signed_length es g l =
      let all = finished_at writing.entries writing.at refl in
      let long = grown_length g in
      ⊎_elim
      (λ (c : writing.at ≤ 1). absurd (omega (arith, ap length (all.nothing c))))
      (λ (c : 1 < writing.at). omega (arith, ap length (all.sometimes (omega arith))))
      (le_or_lt writing.at 1)
