-- `compare::merge::number_all` meets its contract: the entries passed have their numbers.
use Rattle.std.proofs.Common.{arith}
use Rattle.bdd.proofs.Ordered.{ordered_open}
use Rattle.compare.proofs.Numbering.{numbering_none, numbering_turn, numbering_more, numbering_all}
use Rattle.compare.proofs.merge.number_all.Goals as goal

pub loop-i-init : goal.loop-i-init
loop-i-init c = record { most = omega (arith, (ordered_open _ c.requires.set).size_least); numbering = numbering_none c.requires }

pub number_one-next-requires : goal.number_one-next-requires
number_one-next-requires c =
    let h = c.requires in
    numbering_turn h (c.loop-i.invariant.numbering h.meaning h.state) (omega arith) (omega arith) c.loop-i-test.true

pub loop-i-preserved : goal.loop-i-preserved
loop-i-preserved c = record {
  most = omega arith;
  numbering = λ f s. numbering_more c.requires (c.loop-i.invariant.numbering f s) (omega arith) (omega arith) c.loop-i-test.true c.number_one-next.ensures;
}

pub returns : goal.returns
returns c = λ f s. numbering_all (c.loop-i.invariant.numbering f s) c.loop-i-test.false c.loop-i.invariant.most
