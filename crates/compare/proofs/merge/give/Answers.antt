-- `compare::merge::give` meets its contract: each answer of the insertion is one of the laws.
use Rattle.compare.proofs.Numbering.{gives_new}
use Rattle.std.proofs.Common.{arith}
use Rattle.compare.proofs.merge.give.Goals as goal

pub returns-in-New : goal.returns-in-New
returns-in-New c =
    λ f z room. gives_new z _ _ _ room c.if-l-h.false c.requires (omega arith) c.saturating_sub-count.ensures c.insert.ensures c.in-New.is
