-- `exports::by_table::jp_fused_binary_flip_op_with_limit` hands on what the operator answers, for the flips and the limit that the
-- numbers say.
use Rattle.std.proofs.Common.{rules}
use Rattle.exports.proofs.Handed.{operates_from}
use Rattle.exports.proofs.by_table.jp_fused_binary_flip_op_with_limit.Goals as goal

pub returns : goal.returns
returns c =
    search (
      rules,
      operates_from c.limit_of.ensures c.flips_of.ensures c.fused_binary_flip_op_with_limit-answer.ensures.operates c.hand_on.ensures.value
          c.hand_on.ensures.size_after,
    )
