-- The turns of the two loops over records: one record more is read into the runs, or written behind the others.
use Prim.Native.Nat.{ℕ, zero, suc, ◌+◌, ◌*◌, ◌≤◌, ◌<◌}
use mathlib.Core.Path.{◌≡◌, refl, ap, sym, ◌∙◌}
use mathlib.Core.List.{List, [], ◌∷◌, ◌++◌}
use mathlib.Core.Logic.{⊎_elim}
use native.Mathlib.Omega.{arith}
use native.Mathlib.Numerals.{add-one}
use native.Mathlib.Nat.{eq-or-lt_of_le, le_of_suc-le-suc}
use lib.ListN.{length, drop, get_or, set, length-append, get_or-append}
use lib.Seq.{take_all, get_or_at}
use Rattle.bdd.specs.Array.{Entry, Runs, entry_of, runs}
use Rattle.lent.proofs.Fronts.{Fronted, fronted_more}
use Rattle.serialisation.specs.Bytes.{little, record_bytes, records, part, entry_in, each, entries, put_at, over, runs_over}
use Rattle.serialisation.proofs.Little.{length_little}
use Rattle.serialisation.proofs.Splice.{put_more, over_more}

pub length_each : (k : ℕ) (f : ℕ → ℕ) → length (each k f) ≡ k
unfolding each
length_each zero f = refl
length_each (suc k) f = length-append (each k f) (f k ∷ []) ∙ add-one (length (each k f)) ∙ ap suc (length_each k f)

pub getD_each : (k : ℕ) (f : ℕ → ℕ) (i : ℕ) → i < k → get_or (each k f) i 0 ≡ f i
unfolding each
getD_each zero f i h = absurd (omega arith)
getD_each (suc k) f i h =
    ⊎_elim (λ (e : i ≡ k). get_or_at (each k f) (f k) [] 0 i (length_each k f ∙ sym e) ∙ ap f (sym e))
    (λ (l : i < k). get_or-append (each k f) (f k ∷ []) 0 i (omega (arith, length_each k f)) ∙ getD_each k f i l)
    (eq-or-lt_of_le (le_of_suc-le-suc h))

pub length_record : (e : Entry) → length (record_bytes e) ≡ 10
length_record e =
    let v = length_little 2 e.variable in
    let l = length_little 4 e.low in
    let h = length_little 4 e.high in
    simp length-append (omega arith)

pub length_records : (a : Runs) (k : ℕ) → length (records a k) ≡ 10 * k
unfolding records
length_records a zero = refl
length_records a (suc k) =
    let before = length_records a k in
    let last = length_record (entry_of a k) in
    length-append (records a k) (record_bytes (entry_of a k)) ∙ omega arith

-- how far the reading is: k of the records stand in the runs
pub record Reading (file : List ℕ) (count : ℕ) (was now : Runs) (k : ℕ) : Type 0 where
  pub at_most : k ≤ count
  pub variable : Fronted was.variable (entries file count).variable now.variable k
  pub low : Fronted was.low (entries file count).low now.low k
  pub high : Fronted was.high (entries file count).high now.high k

-- one run: what is stored stands behind what was read
store_more : {was run : List ℕ} {k : ℕ} (count : ℕ) (f : ℕ → ℕ) (x : ℕ) → Fronted was (each count f) run k → k < count → count ≤ length was → x ≡ f k → Fronted was (each count f) (set run k x) (k + 1)
store_more {was} {run} {k} count f x so h l p =
    fronted_more so (omega arith) (omega (arith, length_each count f)) (getD_each count f k h ∙ sym p)

pub entry_read : (file : List ℕ) (count : ℕ) (was now next : Runs) (k : ℕ) (e : Entry) → Reading file count was now k → k < count → count ≤ length was.variable → count ≤ length was.low → count ≤ length was.high → e ≡ entry_in (part file k) → next ≡ runs (set now.variable k e.variable) (set now.low k e.low) (set now.high k e.high) → Reading file count was next (k + 1)
entry_read file count was now next k e so h v l u p q =
    rw q
    record {
      at_most = omega arith;
      variable = store_more count (λ i. (entry_in (part file i)).variable) e.variable so.variable h v (ap (λ (x : Entry). x.variable) p);
      low = store_more count (λ i. (entry_in (part file i)).low) e.low so.low h l (ap (λ (x : Entry). x.low) p);
      high = store_more count (λ i. (entry_in (part file i)).high) e.high so.high h u (ap (λ (x : Entry). x.high) p);
    }

-- one run: all is stored
store_all : {was run : List ℕ} {k : ℕ} (count : ℕ) (f : ℕ → ℕ) → Fronted was (each count f) run k → k ≡ count → run ≡ over (each count f) was
unfolding over
store_all {was} {run} {k} count f so e =
    let size = length_each count f in
    let short : length (each count f) ≤ k = omega arith in
    let to : k ≡ length (each count f) = omega arith in
    so.held ∙ (λ i. take_all k (each count f) short i ++ drop (to i) was)

pub all_read : (file : List ℕ) (count : ℕ) (was now : Runs) (k : ℕ) → Reading file count was now k → k ≡ count → now ≡ runs_over (entries file count) was
all_read file count was now k so e =
    let v = store_all count (λ i. (entry_in (part file i)).variable) so.variable e in
    let l = store_all count (λ i. (entry_in (part file i)).low) so.low e in
    let h = store_all count (λ i. (entry_in (part file i)).high) so.high e in
    λ i. runs (v i) (l i) (h i)

-- three numbers, each behind the one before, are a record
pub record_put : (was one two three : List ℕ) (at : ℕ) (e : Entry) → at ≤ length was → one ≡ put_at was at (little 2 e.variable) → two ≡ put_at one (at + 2) (little 4 e.low) → three ≡ put_at two (at + 6) (little 4 e.high) → three ≡ put_at was at (record_bytes e)
record_put was one two three at e h p q r =
    let v = little 2 e.variable in
    let l = little 4 e.low in
    let first : at + length v ≡ at + 2 = ap (λ (n : ℕ). at + n) (length_little 2 e.variable) in
    let second : at + length (v ++ l) ≡ at + 6 = omega (arith, length-append v l, length_little 2 e.variable, length_little 4 e.low) in
    r ∙ ap (λ (b : List ℕ). put_at b (at + 6) (little 4 e.high))
    (q ∙ ap (λ (b : List ℕ). put_at b (at + 2) l) p ∙ put_more was at v l (at + 2) h first)
    ∙ put_more was at (v ++ l) (little 4 e.high) (at + 6) h second

pub none_written : (a : Runs) (was : List ℕ) → was ≡ over (records a 0) was
unfolding records over
none_written a was = refl

pub entry_written : (a : Runs) (was now next : List ℕ) (k : ℕ) → now ≡ over (records a k) was → next ≡ put_at now (10 * k) (record_bytes (entry_of a k)) → next ≡ over (records a (k + 1)) was
unfolding records
entry_written a was now next k so p =
    p ∙ ap (λ (b : List ℕ). put_at b (10 * k) (record_bytes (entry_of a k))) so
    ∙ over_more (records a k) (record_bytes (entry_of a k)) was (10 * k) (length_records a k)
    ∙ ap (λ (n : ℕ). over (records a n) was) (sym (add-one k))
