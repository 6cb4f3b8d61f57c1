-- Arrays whose numbers fit their types, as every ordered one: their bytes give them back, record by record.
use Prim.Native.Nat.{ℕ, zero, suc, ◌*◌, ◌/◌, ◌^◌, ◌≤◌, ◌<◌}
use mathlib.Core.Path.{◌≡◌, refl, ap, sym, ◌∙◌}
use mathlib.Core.Logic.{⊎_elim}
use mathlib.Core.Bool.{true}
use mathlib.Core.List.{List}
use native.Mathlib.Omega.{arith}
use native.Mathlib.Nat.{eq-or-lt_of_le, le_of_suc-le-suc}
use lib.ListN.{length, take, drop, get_or, length-drop}
use lib.Seq.{take_all, drop_at, take-append-le, drop-append-le, ext_get_or}
use Rattle.bdd.specs.Bounds.{most_options}
use Rattle.bdd.specs.Array.{Entry, Runs, entry, entry_of, runs, size, ordered}
use Rattle.bdd.proofs.Ordered.{Ordered, ordered_open}
use Rattle.serialisation.specs.Bytes.{little, record_bytes, records, file_bytes, part, entry_in, each, entries}
use Rattle.serialisation.proofs.Little.{number_little}
use Rattle.serialisation.proofs.Parts.{part_there}
use Rattle.serialisation.proofs.Turns.{length_each, getD_each, length_record, length_records}

-- an entry's numbers are a u16 and two u32
pub record Small (e : Entry) : Type 0 where
  pub variable : e.variable < 2 ^ 16
  pub low : e.low < 2 ^ 32
  pub high : e.high < 2 ^ 32

-- three runs of one length, of u16, u32 and u32
pub record Typed (a : Runs) : Type 0 where
  pub low_length : length a.low ≡ size a
  pub high_length : length a.high ≡ size a
  pub small : (i : ℕ) → i < size a → Small (entry_of a i)

-- entry 0 or 1 of an ordered set
terminal_small : (e : Entry) (n i : ℕ) → n ≤ most_options → i < 2 → e ≡ entry n i i → Small e
terminal_small e n i h l p =
    let v = ap (λ (x : Entry). x.variable) p in
    let lo = ap (λ (x : Entry). x.low) p in
    let hi = ap (λ (x : Entry). x.high) p in
    omega arith

pub ordered_typed : (a : Runs) → ordered a ≡ true → Typed a
ordered_typed a e =
    let o = ordered_open a e in
    record { low_length = o.layered.low_length; high_length = o.layered.high_length; small = at o }
  where
    at : Ordered a → (i : ℕ) → i < size a → Small (entry_of a i)
    at o zero l = terminal_small _ _ 0 o.options_most (omega arith) (o.layered.entry_0 l)
    at o (suc zero) l = terminal_small _ _ 1 o.options_most (omega arith) (o.layered.entry_1 l)
    at o (suc (suc i)) l = let p = o.layered.entry_on (suc (suc i)) (omega arith) l in omega arith

-- an entry and its ten bytes
pub record_back : (e : Entry) → Small e → entry_in (record_bytes e) ≡ e
unfolding little
record_back e s =
    let v = number_little 2 e.variable s.variable in
    let l = number_little 4 e.low s.low in
    let h = number_little 4 e.high s.high in
    λ i. record { variable = v i; low = l i; high = h i }

-- record k of the records of n entries
pub record_at : (a : Runs) (n k : ℕ) → k < n → take 10 (drop (10 * k) (records a n)) ≡ record_bytes (entry_of a k)
unfolding records
record_at a zero k h = absurd (omega arith)
record_at a (suc n) k h =
    let xs = records a n in
    let last = record_bytes (entry_of a n) in
    let size-xs = length_records a n in
    let size-last = length_record (entry_of a n) in
    ⊎_elim
    (λ (e : k ≡ n).
    let to : length xs ≡ 10 * k = omega arith in
    let ten : length last ≤ 10 = omega arith in
    ap (take 10) (drop_at xs last (10 * k) to) ∙ take_all 10 last ten ∙ ap (λ (j : ℕ). record_bytes (entry_of a j)) (sym e))
    (λ (l : k < n).
    let to : 10 * k ≤ length xs = omega arith in
    let there : 10 ≤ length (drop (10 * k) xs) = simp length-drop (omega arith) in
    ap (take 10) (drop-append-le (10 * k) xs last to) ∙ take-append-le 10 (drop (10 * k) xs) last there ∙ record_at a n k l)
    (eq-or-lt_of_le (le_of_suc-le-suc h))

-- the file of an array has its entries
pub entry_back : (a : Runs) → Typed a → (k : ℕ) → k < size a → entry_in (part (file_bytes a) k) ≡ entry_of a k
entry_back a t k h =
    let long = length_records a (size a) in
    let there : k < length (file_bytes a) / 10 = omega arith in
    ap entry_in (sym (part_there (file_bytes a) k there) ∙ record_at a (size a) k h) ∙ record_back (entry_of a k) (t.small k h)

-- and so its runs
pub runs_back : (a : Runs) → Typed a → entries (file_bytes a) (size a) ≡ a
runs_back a t =
    let v = column (size a) a.variable (λ k. (entry_in (part (file_bytes a) k)).variable) refl (λ k h. ap (λ (x : Entry). x.variable) (entry_back a t k h)) in
    let l = column (size a) a.low (λ k. (entry_in (part (file_bytes a) k)).low) t.low_length (λ k h. ap (λ (x : Entry). x.low) (entry_back a t k h)) in
    let u = column (size a) a.high (λ k. (entry_in (part (file_bytes a) k)).high) t.high_length (λ k h. ap (λ (x : Entry). x.high) (entry_back a t k h)) in
    λ i. runs (v i) (l i) (u i)
  where
    column : (n : ℕ) (run : List ℕ) (f : ℕ → ℕ) → length run ≡ n → ((k : ℕ) → k < n → f k ≡ get_or run k 0) → each n f ≡ run
    column n run f e h =
        ext_get_or 0 (each n f) run (length_each n f ∙ sym e) (λ i l. let b : i < n = omega (arith, length_each n f) in getD_each n f i b ∙ h i b)
