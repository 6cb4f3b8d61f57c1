-- `serialisation::u16_at` meets its contract: the number of the bytes at the place.
use Rattle.std.proofs.Common.{◌+◌, arith}
use Rattle.serialisation.proofs.Little.{number_more, number_none}
use Rattle.serialisation.proofs.u16_at.Goals as goal

pub returns : goal.returns
returns c =
    let a = c.args.at in
    let s = c.args.s.now in
    omega (arith, number_more s a (a + 1) 1 (omega arith) (omega arith), number_more s (a + 1) (a + 2) 0 (omega arith) (omega arith), number_none s (a + 2))
