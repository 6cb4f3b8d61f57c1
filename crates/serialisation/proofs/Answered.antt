-- What the reader and the writer answer, from the facts that their tests leave.
use Rattle.bdd.specs.Lent.{Answer}
use Rattle.std.specs.Prelude.{Err, Ok}
use Prim.Native.Nat.{ℕ, ◌*◌, ◌≤◌, ◌<◌}
use mathlib.Core.Path.{◌≡◌, refl, sym, ap, ◌∙◌}
use mathlib.Core.Bool.{true, false, not}
use mathlib.Core.List.{List}
use lib.ListN.{length}
use borrow.Author.Tests.{lt-ltb, le-ltb}
use Rattle.bdd.specs.Array.{Runs, size, ordered}
use Rattle.bdd.specs.Pairs.{room}
use Rattle.bdd.specs.Answers.{first_refusal, first_of_two, no_room}
use Rattle.bdd.specs.declared.Refusal.TheVariants.{LeftNotOrdered, NoRoom}
use Rattle.bdd.proofs.Makers.{set_room, set_not_ordered}
use Rattle.serialisation.specs.Bytes.{file_bytes, whole, tail, entries, over, runs_over}
use Rattle.serialisation.specs.Told.{HasRead, HasWritten, told_wrote, writing, written_after}

pub not_read : (file : List ℕ) (was : Runs) → room was < whole file → HasRead file was was (Err NoRoom)
unfolding first_refusal first_of_two no_room
not_read file was h =
    let e = lt-ltb (room was) (whole file) h in
    record { answer = rw e; runs = rw e }

pub has_read : (file : List ℕ) (was now : Runs) → whole file ≤ room was → now ≡ runs_over (entries file (whole file)) was → HasRead file was now (Ok (record { whole = whole file; tail = tail file }))
unfolding first_refusal no_room
has_read file was now h p =
    let e = le-ltb (room was) (whole file) h in
    record { answer = rw e; runs = rw e p }

-- the writer has answered so, and left the bytes so
has_told : (a : Runs) (was now : List ℕ) (r : Answer) → writing a was ≡ told_wrote r → now ≡ written_after (told_wrote r).number a was → HasWritten a was now r
has_told a was now r e p = record { answer = sym e; bytes = rw e p }

pub not_ordered : (a : Runs) (was : List ℕ) → ordered a ≡ false → HasWritten a was was (Err LeftNotOrdered)
not_ordered a was e = has_told a was was (Err LeftNotOrdered) (set_not_ordered (ap not e) (length was) (10 * size a)) refl

pub not_written : (a : Runs) (was : List ℕ) → ordered a ≡ true → length was < 10 * size a → HasWritten a was was (Err NoRoom)
unfolding no_room
not_written a was e h =
    has_told a was was (Err NoRoom) (set_room (ap not e) (length was) (10 * size a) ∙ rw (lt-ltb (length was) (10 * size a) h)) refl

pub has_written : (a : Runs) (was now : List ℕ) → ordered a ≡ true → 10 * size a ≤ length was → now ≡ over (file_bytes a) was → HasWritten a was now (Ok (10 * size a))
unfolding no_room
has_written a was now e h p =
    has_told a was now (Ok (10 * size a)) (set_room (ap not e) (length was) (10 * size a) ∙ rw (le-ltb (length was) (10 * size a) h)) p
