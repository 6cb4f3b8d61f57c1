-- "Lengths for the byte form": the paper's number and values of each answer, when each is given, and what the lent
-- runs hold after it.
use Rattle.bdd.specs.declared.Refusal.{Refusal}
use Rattle.std.specs.Prelude.{ℕ, ◌*◌, ◌≡◌, cond, not, List, [], ◌∷◌, length, eqb, Err, None, Ok, Result}
use Rattle.bdd.specs.Array.{Runs, size, ordered}
use Rattle.bdd.specs.Pairs.{room}
use Rattle.bdd.specs.Answers.{Told, told, number, Checks, gives, answered, no_room, set_checks}
use Rattle.bdd.specs.declared.Refusal.TheVariants.{NoRoom}
use Rattle.serialisation.specs.Bytes.{file_bytes, whole, tail, entries, over, runs_over}
use Rattle.bdd.specs.Lent.{Answer}
use Rattle.serialisation.specs.declared.Records.{Records}

-- what a reader found, or why it read none
abbrev pub Read : Type 0
Read = Result Records Refusal

-- the reader: how many records, and how many tail bytes
abbrev pub told_read : Read → Told
told_read (Ok r) = told 0 (r.whole ∷ r.tail ∷ [])
told_read (Err why) = told (number why) (0 ∷ 0 ∷ [])

-- the writer: how many bytes
abbrev pub told_wrote : Answer → Told
told_wrote (Ok k) = told 0 (k ∷ [])
told_wrote (Err why) = told (number why) (0 ∷ [])

-- 9 if the whole records exceed W
abbrev pub read_checks : List ℕ → Runs → Checks
read_checks file was = gives NoRoom (no_room None (room was) (whole file)) ∷ []

-- and otherwise how many records and how many tail bytes there were
abbrev pub reading : List ℕ → Runs → Told
reading file was = answered (read_checks file was) (whole file ∷ tail file ∷ [])

-- after a refusal the runs are untouched; else the entries read stand first, and the others are as they were
abbrev pub read_after : ℕ → List ℕ → Runs → Runs
read_after k file was = cond (eqb k 0) (runs_over (entries file (whole file)) was) was

abbrev pub read_runs : List ℕ → Runs → Runs
read_runs file was = read_after (reading file was).number file was

-- what the reader of a file promises of its answer, and of the three runs
pub record HasRead (file : List ℕ) (was now : Runs) (r : Read) : Type 0 where
  pub answer : told_read r ≡ reading file was
  pub runs : now ≡ read_runs file was

-- 2 for a set not ordered, then 9 if 10L bytes don't fit, else how many bytes
abbrev pub writing : Runs → List ℕ → Told
writing a was = answered (set_checks (not (ordered a)) (length was) (10 * size a)) (10 * size a ∷ [])

-- after a refusal the bytes are untouched; else the file stands first, and bytes 10L and on are as they were
abbrev pub written_after : ℕ → Runs → List ℕ → List ℕ
written_after k a was = cond (eqb k 0) (over (file_bytes a) was) was

-- what the writer of a set promises of its answer, and of the bytes
pub record HasWritten (a : Runs) (was now : List ℕ) (r : Answer) : Type 0 where
  pub answer : told_wrote r ≡ writing a was
  pub bytes : now ≡ written_after (writing a was).number a was
