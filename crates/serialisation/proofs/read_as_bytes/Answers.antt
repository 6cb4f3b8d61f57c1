-- `serialisation::read_as_bytes` meets its contract: too many records are refused, else all are read.
use native.Mathlib.Omega.{arith}
use Rattle.serialisation.proofs.Answered.{not_read, has_read}
use Rattle.serialisation.proofs.read_as_bytes.Goals as goal

pub returns-then-room-count-clause-read : goal.returns-then-room-count-clause-read
returns-then-room-count-clause-read c = not_read _ _ (omega arith)

pub returns-clause-read : goal.returns-clause-read
returns-clause-read c = has_read _ _ _ (omega arith) c.read_records.ensures.read
