-- What is asked of the byte form: the round trip, that its bytes determine an array, that an answer's number and
-- values determine it, and the paper's bytes of x0.
use Rattle.bdd.specs.Lent.{Answer}
use Rattle.std.specs.Prelude.{Err, Ok}
use Prim.Native.Nat.{ℕ, ◌≤◌}
use mathlib.Core.Path.{◌≡◌, refl, ap, sym, ◌∙◌}
use mathlib.Core.Bool.{true}
use mathlib.Core.List.{[], ◌∷◌}
use native.Mathlib.Omega.{arith}
use lib.ListN.{length, get_or}
use borrow.Author.Tests.{le-ltb}
use Rattle.bdd.specs.Array.{Runs, laid, runs, size, ordered}
use Rattle.bdd.specs.Jobs.{literal_array}
use Rattle.bdd.specs.Pairs.{room}
use Rattle.bdd.proofs.Ordered.{ordered_open}
use Rattle.serialisation.specs.Bytes.{little, records, file_bytes, whole, tail, entries, runs_over}
use Rattle.bdd.specs.Answers.{Told, told, first_refusal, no_room}
use Rattle.bdd.proofs.Refusing.{one_refusal, no_refusal}
use Rattle.serialisation.specs.Told.{Read, told_read, told_wrote, reading, read_runs}
use Rattle.serialisation.proofs.Splice.{over_all}
use Rattle.serialisation.proofs.Turns.{length_records}
use Rattle.serialisation.proofs.Small.{Typed, ordered_typed, runs_back}

-- the bytes of an ordered set, read where there is room: as many records as it has entries, no tail, and the set
-- itself, with the entries behind it as they were
pub record ReadBack (a was : Runs) : Type 0 where
  pub answer : reading (file_bytes a) was ≡ told 0 (size a ∷ 0 ∷ [])
  pub runs : read_runs (file_bytes a) was ≡ runs_over a was

pub round_trip : (a was : Runs) → ordered a ≡ true → size a ≤ room was → ReadBack a was
unfolding first_refusal no_room
round_trip a was o h =
    let long = length_records a (size a) in
    let all : whole (file_bytes a) ≡ size a = omega arith in
    let none : tail (file_bytes a) ≡ 0 = omega arith in
    let fits = le-ltb (room was) (size a) h in
    let back = runs_back a (ordered_typed a o) in
    record { answer = rw (all, none, fits); runs = rw (all, fits) (ap (λ (b : Runs). runs_over b was) back) }

-- into runs of its own length, it is the same three runs
pub same_runs : (a was : Runs) → ordered a ≡ true → length was.variable ≡ size a → length was.low ≡ size a → length was.high ≡ size a → read_runs (file_bytes a) was ≡ a
same_runs a was o v l h =
    let ord = ordered_open a o in
    let vs = over_all a.variable was.variable (omega arith) in
    let ls = over_all a.low was.low (omega arith) in
    let hs = over_all a.high was.high (omega arith) in
    (round_trip a was o (omega arith)).runs ∙ (λ i. runs (vs i) (ls i) (hs i))

-- the bytes of an array determine it
pub one_array : (a b : Runs) → Typed a → Typed b → file_bytes a ≡ file_bytes b → a ≡ b
one_array a b s t e =
    let long-a = length_records a (size a) in
    let long-b = length_records b (size b) in
    let long = ap length e in
    let same : size a ≡ size b = omega arith in
    sym (runs_back a s) ∙ (λ i. entries (e i) (same i)) ∙ runs_back b t

-- x0 over two options, whole
pub x0_bytes : file_bytes (laid (literal_array 2 0 true))
    ≡ 2 ∷ 0 ∷ 0 ∷ 0 ∷ 0 ∷ 0 ∷ 0 ∷ 0 ∷ 0 ∷ 0
    ∷ 2 ∷ 0 ∷ 1 ∷ 0 ∷ 0 ∷ 0 ∷ 1 ∷ 0 ∷ 0 ∷ 0
    ∷ 0 ∷ 0 ∷ 0 ∷ 0 ∷ 0 ∷ 0 ∷ 1 ∷ 0 ∷ 0 ∷ 0 ∷ []
unfolding records little
x0_bytes = refl

abbrev number_in : Told → ℕ
number_in x = x.number

-- no second answer has the same number and values
pub one_read : (r q : Read) → told_read r ≡ told_read q → r ≡ q
one_read (Ok p) (Ok q) e = ap (λ (x : Told). Ok (record { whole = get_or x.values 0 0; tail = get_or x.values 1 0 })) e
one_read (Ok p) (Err why) e = absurd (no_refusal why (ap number_in e))
one_read (Err why) (Ok q) e = absurd (no_refusal why (ap number_in (sym e)))
one_read (Err why) (Err other) e = ap Err (one_refusal why other (ap number_in e))

pub one_wrote : (r q : Answer) → told_wrote r ≡ told_wrote q → r ≡ q
one_wrote (Ok k) (Ok j) e = ap (λ (x : Told). Ok (get_or x.values 0 0)) e
one_wrote (Ok k) (Err why) e = absurd (no_refusal why (ap number_in e))
one_wrote (Err why) (Ok k) e = absurd (no_refusal why (ap number_in (sym e)))
one_wrote (Err why) (Err other) e = ap Err (one_refusal why other (ap number_in e))
