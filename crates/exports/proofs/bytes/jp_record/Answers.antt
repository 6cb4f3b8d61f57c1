-- `exports::bytes::jp_record` meets its contract: a part without bytes has no place, and one with some is that of a whole record,
-- so that its place is below the file's length and does not wrap.
use native.Mathlib.Omega.{arith}
use Rattle.exports.proofs.Places.{there, behind, placed}
use Rattle.exports.proofs.bytes.jp_record.Goals as goal

pub overflow_mul-at : goal.overflow_mul-at
overflow_mul-at c = grind (arith, there c.args.file.now c.args.k)

pub returns-then-is_empty-clause-at_after : goal.returns-then-is_empty-clause-at_after
returns-then-is_empty-clause-at_after c = grind (arith, behind c.args.file.now c.args.k)

pub returns-else-is_empty-clause-at_after : goal.returns-else-is_empty-clause-at_after
returns-else-is_empty-clause-at_after c = grind (arith, placed c.args.file.now c.args.k, there c.args.file.now c.args.k)
