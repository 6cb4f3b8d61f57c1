-- `serialisation::node_at` meets its contract: the three numbers stand in the ten bytes of the record.
use mathlib.Core.Path.{ap, ◌∙◌}
use native.Mathlib.Omega.{arith}
use lib.ListN.{length}
use Rattle.bdd.specs.Array.{entry}
use Rattle.serialisation.specs.Bytes.{entry_in}
use Rattle.serialisation.proofs.Parts.{part_length}
use Rattle.serialisation.proofs.node_at.Goals as goal

pub u16_at-requires : goal.u16_at-requires
u16_at-requires c =
    let ten = ap length c.record-bytes.ensures ∙ part_length c.args.file.now c.args.k c.requires in
    omega arith

pub u32_at-requires : goal.u32_at-requires
u32_at-requires c =
    let ten = ap length c.record-bytes.ensures ∙ part_length c.args.file.now c.args.k c.requires in
    omega arith

pub u32_at-requires-2 : goal.u32_at-requires-2
u32_at-requires-2 c =
    let ten = ap length c.record-bytes.ensures ∙ part_length c.args.file.now c.args.k c.requires in
    omega arith

pub returns : goal.returns
returns c =
    (λ i. entry (c.u16_at.ensures i) (c.u32_at.ensures i) (c.u32_at-2.ensures i)) ∙ ap entry_in c.record-bytes.ensures
