-- What a reader gives in turn: the records that are left, in order, each once, and then empty parts. The records and the
-- tail are the whole file.
use Prim.Native.Nat.{ℕ, zero, suc, ◌+◌, ◌*◌, ◌-◌, ◌≤◌, ◌<◌}
use mathlib.Core.Path.{◌≡◌, refl, ap, sym, ◌∙◌}
use mathlib.Core.Logic.{⊎_elim}
use mathlib.Core.Bool.{Bool, cond}
use mathlib.Core.List.{List, [], ◌∷◌, ◌++◌, append_assoc}
use native.Mathlib.Omega.{arith}
use lib.ListN.{drop, replicate, length-drop, take-append-drop}
use lib.Seq.{drop-drop}
use borrow.Author.Tests.{lt-ltb, le-ltb}
use Rattle.bdd.proofs.Logic.{le_or_lt}
use Rattle.serialisation.specs.Bytes.{whole, part}
use Rattle.serialisation.proofs.Parts.{part_there, part_none}
use Rattle.reader.specs.Turns.{place_after, given, left_at, records_from, joined, tail_bytes, InTurn}

pub goes_on : (file : List ℕ) (k : ℕ) → k < whole file → place_after file k ≡ k + 1
unfolding place_after
goes_on file k h = ap (λ (b : Bool). cond b (k + 1) k) (lt-ltb k (whole file) h)

pub stays : (file : List ℕ) (k : ℕ) → whole file ≤ k → place_after file k ≡ k
unfolding place_after
stays file k h = ap (λ (b : Bool). cond b (k + 1) k) (le-ltb k (whole file) h)

-- behind the last whole record, empty parts
pub then_empty : (file : List ℕ) (k n : ℕ) → whole file ≤ k → given file k n ≡ replicate n []
unfolding given
then_empty file k zero h = refl
then_empty file k (suc n) h =
    let later = ap (λ (j : ℕ). given file j n) (stays file k h) ∙ then_empty file k n h in
    λ i. sym (part_none file k h) i ∷ later i

-- m records are left
turns : (file : List ℕ) (m k n : ℕ) → k + m ≡ whole file → given file k (m + n) ≡ records_from file k m ++ replicate n []
unfolding given records_from
turns file zero k n e =
    let none : 0 + n ≡ n = omega arith in
    ap (given file k) none ∙ then_empty file k n (omega arith)
turns file (suc m) k n e =
    let more : suc m + n ≡ suc (m + n) = omega arith in
    let later = ap (λ (j : ℕ). given file j (m + n)) (goes_on file k (omega arith)) ∙ turns file m (k + 1) n (omega arith) in
    ap (given file k) more ∙ ap (λ (l : List (List ℕ)). part file k ∷ l) later

back : (file : List ℕ) (m k : ℕ) → k + m ≡ whole file → joined (records_from file k m) ++ tail_bytes file ≡ drop (10 * k) file
unfolding records_from joined
back file zero k e =
    let at : 10 * whole file ≡ 10 * k = omega arith in
    ap (λ (n : ℕ). drop n file) at
back file (suc m) k e =
    let here = part_there file k (omega arith) in
    let on : 10 * (k + 1) ≡ 10 * k + 10 = omega arith in
    let later = back file m (k + 1) (omega arith) ∙ ap (λ (n : ℕ). drop n file) on ∙ sym (drop-drop 10 (10 * k) file) in
    append_assoc (part file k) (joined (records_from file (k + 1) m)) (tail_bytes file)
    ∙ (λ i. sym here i ++ later i) ∙ take-append-drop 10 (drop (10 * k) file)

counted : (file : List ℕ) (k m : ℕ) → k + m ≡ whole file → InTurn file k m
counted file k m e = record { gives = λ n. turns file m k n e; together = back file m k e; tail_length = simp length-drop (omega arith) }

-- at every place that a reader reaches
pub in_turn : (file : List ℕ) (k : ℕ) → k ≤ whole file → InTurn file k (left_at file k)
in_turn file k h = counted file k (left_at file k) (omega arith)

-- at the start: every whole record, and the whole file
pub from_start : (file : List ℕ) → InTurn file 0 (whole file)
from_start file = counted file 0 (whole file) (omega arith)

-- where a reader from the start stands after n turns: at record n, or behind the last whole one
abbrev pub reached : List ℕ → ℕ → ℕ
reached file n = n - (n - whole file)

pub reached_next : (file : List ℕ) (n : ℕ) → place_after file (reached file n) ≡ reached file (n + 1)
reached_next file n =
    ⊎_elim
    (λ (over : whole file ≤ n).
    let same : reached file n ≡ reached file (n + 1) = omega arith in
    stays file (reached file n) (omega arith) ∙ same)
    (λ (less : n < whole file).
    let on : reached file n + 1 ≡ reached file (n + 1) = omega arith in
    goes_on file (reached file n) (omega arith) ∙ on)
    (le_or_lt (whole file) n)

-- turn n gives record n
pub reached_part : (file : List ℕ) (n : ℕ) → part file (reached file n) ≡ part file n
reached_part file n =
    ⊎_elim
    (λ (over : whole file ≤ n). sym (part_none file (reached file n) (omega arith)) ∙ part_none file n over)
    (λ (less : n < whole file).
    let same : reached file n ≡ n = omega arith in
    ap (part file) same)
    (le_or_lt (whole file) n)
